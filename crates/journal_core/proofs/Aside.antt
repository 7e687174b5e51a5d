-- Images whose other side is on the disk.
use Rattle.std.proofs.Common.{◌≡◌, ◌⊎◌, inl, inr, ⊎_elim, ℕ, zero, suc, List, length, refl, sym, ◌∙◌, ap, subst, Ok}
use Rattle.world_traits.specs.Files.{Stored, MayHold, Files, clean, touch, put, file_of, other}
use Rattle.world_traits.specs.Moments.{Moment, MayLeave, Clock, Images, Occurs, Only, Both, Rests, GoesOn, AtPhase, stored}
use Rattle.world_traits.specs.Calls.{Wrote, Synced}
use Rattle.world_traits.specs.Sound.{holds_clean}
use Rattle.world_traits.specs.declared.disk.Side.{Side}
use Rattle.world_traits.specs.declared.disk.Side.TheVariants.{Left, Right}
use Rattle.world_traits.proofs.Images.{image_clean}
use Rattle.world_traits.proofs.Sides.{may_hold, file_there}
use Rattle.world_traits.proofs.Passing.{since_weaker}
use Rattle.world_traits.proofs.Calls.{SideAt, at_rest, after_write, after_sync}
use Rattle.journal_core.specs.Gates.{Beside, Passes}

pub occurs_beside : (side : Side) (others : List ℕ) (P : List ℕ → Type 0) (m : Moment) (bytes : List ℕ) →
    stored (other side) m ≡ clean others → MayHold (stored side m) bytes → P bytes → Occurs (Beside side others P) m
occurs_beside Left others P m bytes there h p = record {
  files = record { left = bytes; right = others };
  leaves = record { left = h; right = subst (λ (s : Stored). MayHold s others) (sym there) (holds_clean others) };
  has = record { here = p; there = refl };
}
occurs_beside Right others P m bytes there h p = record {
  files = record { left = others; right = bytes };
  leaves = record { left = subst (λ (s : Stored). MayHold s others) (sym there) (holds_clean others); right = h };
  has = record { here = p; there = refl };
}

module _ (side : Side) (others : List ℕ) (m : Moment) (there : stored (other side) m ≡ clean others) where
  others_stay : (files : Files) → MayLeave m files → file_of (other side) files ≡ others
  others_stay files h = image_clean others (file_of (other side) files)
      (subst (λ (s : Stored). MayHold s (file_of (other side) files)) there (may_hold (other side) m files h))

  pub only_beside : (P : List ℕ → Type 0) (state : Stored) (bytes : List ℕ) → stored side m ≡ state →
      ((b : List ℕ) → MayHold state b → P b) → MayHold state bytes → Only (Beside side others P) m
  only_beside P state bytes is each h = record {
    each = record {
      each = λ files k. record {
        here = each (file_of side files)
            (subst (λ (s : Stored). MayHold s (file_of side files)) is (may_hold side m files k));
        there = others_stay files k;
      };
    };
    some = occurs_beside side others P m bytes there (subst (λ (s : Stored). MayHold s bytes) (sym is) h) (each bytes h);
  }

  pub both_beside : (P Q : List ℕ → Type 0) (state : Stored) (x y : List ℕ) → stored side m ≡ state →
      ((b : List ℕ) → MayHold state b → P b ⊎ Q b) → MayHold state x → P x → MayHold state y → Q y →
      Both (Beside side others P) (Beside side others Q) m
  both_beside P Q state x y is each hx px hy qy = record {
    each = record {
      each = λ files k.
          ⊎_elim (λ (p : P (file_of side files)). inl (record { here = p; there = others_stay files k }))
          (λ (q : Q (file_of side files)). inr (record { here = q; there = others_stay files k }))
          (each (file_of side files) (subst (λ (s : Stored). MayHold s (file_of side files)) is (may_hold side m files k)));
    };
    before = occurs_beside side others P m x there (subst (λ (s : Stored). MayHold s x) (sym is) hx) px;
    after = occurs_beside side others Q m y there (subst (λ (s : Stored). MayHold s y) (sym is) hy) qy;
  }

-- The side reads as this file and is stored so, and the other one reads as these bytes and is on the disk.
pub record At (side : Side) (others file : List ℕ) (state : Stored) (k : Clock) (f : Files) : Type 0 where
  pub here : SideAt side file state k f
  pub same : file_of (other side) f ≡ others

pub away : (side : Side) (others file : List ℕ) (state : Stored) (k : Clock) (f : Files) → At side others file state k f →
    stored (other side) k.now ≡ clean others
away side others file state k f at = at.here.others ∙ ap clean at.same

pub resting_at : (side : Side) (file : List ℕ) (k : Clock) (f : Files) → Rests k.now f → file_of side f ≡ file →
    At side (file_of (other side) f) file (clean file) k f
resting_at side file k f rests is = record { here = subst (λ (b : List ℕ). SideAt side b (clean b) k f) is (at_rest side k f rests); same = refl }

module _ (side : Side) (others file : List ℕ) (state : Stored) (k l : Clock) (f g : Files) (at : At side others file state k f) where
  pub write_at : {T E : Type 0} (place : ℕ) (bytes : List ℕ) (x : T) → Wrote {T = T} {E = E} side place bytes k l f g (Ok x) →
      At side others (put place bytes file) (touch place (length bytes) state) l g
  write_at place bytes x w = record {
    here = after_write side file state k l f g at.here place bytes x w;
    same = ap (file_of (other side)) w.seen_now ∙ file_there side _ f ∙ at.same;
  }

  pub sync_at : {T E : Type 0} (x : T) → Synced {T = T} {E = E} side k l f g (Ok x) → At side others file (clean file) l g
  sync_at x s = record { here = after_sync side file state k l f g at.here x s; same = ap (file_of (other side)) s.seen_same ∙ at.same }

-- what each of two kinds of files leads to
module _ (B A C D : Files → Type 0) (bc : (files : Files) → B files → C files) (ad : (files : Files) → A files → D files) where
  occurs_as : (P Q : Files → Type 0) → ((files : Files) → P files → Q files) → (m : Moment) → Occurs P m → Occurs Q m
  occurs_as P Q pq m o = record { files = o.files; leaves = o.leaves; has = pq o.files o.has }

  only_as : (P Q : Files → Type 0) → ((files : Files) → P files → Q files) → (m : Moment) → Only P m → Only Q m
  only_as P Q pq m o = record { each = record { each = λ files h. pq files (o.each.each files h) }; some = occurs_as P Q pq m o.some }

  pub either_as : (m : Moment) → Images (λ files. B files ⊎ A files) m → Images (λ files. C files ⊎ D files) m
  either_as m i = record { each = λ files h. ⊎_elim (λ (b : B files). inl (bc files b)) (λ (a : A files). inr (ad files a)) (i.each files h) }

  phase_as : (n : ℕ) (m : Moment) → AtPhase B A n m → AtPhase C D n m
  phase_as zero m o = only_as B C bc m o
  phase_as (suc zero) m o = record { each = either_as m o.each; before = occurs_as B C bc m o.before; after = occurs_as A D ad m o.after }
  phase_as (suc (suc n)) m o = only_as A D ad m o

  pub goes_as : (m n : Moment) → GoesOn B A m n → GoesOn C D m n
  goes_as m n s = record {
    outside = s.outside;
    from = s.from;
    to = s.to;
    at_from = phase_as s.from m s.at_from;
    at_to =
        phase_as s.to n s.at_to;
    forward = s.forward;
    one = s.one;
  }

  pub passes_as : (old new : Clock) → Passes B A old new → Passes C D old new
  passes_as old new s = since_weaker (Images (λ files. B files ⊎ A files)) (Images (λ files. C files ⊎ D files)) (GoesOn B A)
      (GoesOn C D) either_as goes_as old new s
