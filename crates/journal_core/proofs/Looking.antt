-- Calls that only look, one after the other.
use Rattle.std.proofs.Common.{◌≡◌, ◌⊎◌, inl, refl, sym, ◌∙◌, subst}
use Rattle.world_traits.specs.Files.{Files}
use Rattle.world_traits.specs.Moments.{Moment, Clock, Rests, Within, Narrows}
use Rattle.world_traits.specs.Calls.{Looked}
use Rattle.world_traits.specs.declared.disk.Side.TheVariants.{Left}
use Rattle.world_traits.proofs.Passing.{since_start, since_then, since_weaker, stays_now}
use Rattle.world_traits.proofs.Calls.{since_look}
use Rattle.world_traits.proofs.Keeping.{since_now}
use Rattle.world_traits.proofs.Narrowing.{within_self}
use Rattle.journal_core.specs.Reading.{OnlyLooks}
use Rattle.journal_core.specs.Settling.{Settles}

pub looks : (k l : Clock) (f g : Files) → Looked k l f g → OnlyLooks k l f g
looks k l f g looked = record {
  passing = since_look (λ m. m ≡ k.now) (λ m n. n ≡ m) Left k k l f g (since_start (λ m. m ≡ k.now) (λ m n. n ≡ m) k) refl refl looked;
  now = stays_now looked.moment;
  seen_same = looked.seen_same;
}

pub looks_none : (k : Clock) (f : Files) → OnlyLooks k k f f
looks_none k f = record { passing = since_start (λ m. m ≡ k.now) (λ m n. n ≡ m) k; now = refl; seen_same = refl }

pub looks_then : (k l n : Clock) (f g h : Files) → OnlyLooks k l f g → OnlyLooks l n g h → OnlyLooks k n f h
looks_then k l n f g h a b = record {
  passing = since_then (λ m. m ≡ k.now) (λ m n. n ≡ m) k l n a.passing
      (since_weaker (λ m. m ≡ l.now) (λ m. m ≡ k.now) (λ m n. n ≡ m) (λ m n. n ≡ m) (λ m is. is ∙ a.now) (λ m o s. s) l n b.passing);
  now = b.now ∙ a.now;
  seen_same = b.seen_same ∙ a.seen_same;
}

narrows_now : (k l : Clock) → Narrows k l → Within k.now l.now
narrows_now k l n = since_now (Within k.now) (Within k.now) Within (λ m o p s q. p) k (within_self k.now) l n

-- to look after syncs narrows no more
pub narrows_look : (k l n : Clock) (f g : Files) → Narrows k l → OnlyLooks l n f g → Narrows k n
narrows_look k l n f g a b =
    since_then (Within k.now) Within k l n a
    (since_weaker (λ m. m ≡ l.now) (Within k.now) (λ m o. o ≡ m) Within
    (λ m is. subst (Within k.now) (sym is) (narrows_now k l a))
    (λ m o is. subst (Within m) (sym is) (within_self m)) l n b.passing)

pub rests_look : (k l : Clock) (f g : Files) → Rests k.now f → OnlyLooks k l f g → Rests l.now g
rests_look k l f g r b = subst (λ (m : Moment). Rests m g) (sym b.now) (subst (Rests k.now) (sym b.seen_same) r)

-- nor does it do more than those syncs
module _ (k : Clock) (seen : Files) where
  abbrev Either : Moment → Type 0
  Either m = (m ≡ k.now) ⊎ Rests m seen

  abbrev Comes : Moment → Moment → Type 0
  Comes m o = (o ≡ m) ⊎ Rests o seen

  pub settles_look : (l n : Clock) (f g : Files) → Settles k l seen → OnlyLooks l n f g → Settles k n seen
  settles_look l n f g a b =
      since_then Either Comes k l n a
      (since_weaker (λ m. m ≡ l.now) Either (λ m o. o ≡ m) Comes
      (λ m is. subst Either (sym is) (since_now Either Either Comes (λ m o p s q. p) k (inl refl) l a))
      (λ m o is. inl is) l n b.passing)
