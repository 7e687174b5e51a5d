-- An opening syncs both files: where one side was on the disk, the books stay, or one of two is chosen. So does a stop.
use Rattle.std.proofs.Common.{◌≡◌, ◌⊎◌, inl, inr, ⊎_elim, true, false, Option, refl, sym, ◌∙◌, subst}
use Rattle.imap_model.specs.Talking.{Peer}
use Rattle.world_traits.specs.Files.{Files}
use Rattle.world_traits.specs.Links.{Any}
use Rattle.world_traits.specs.Moments.{Moment, MayLeave, Clock, Since, Rests, Within, Narrows, restarted}
use Rattle.world_traits.proofs.Choosing.{rests_only}
use Rattle.world_traits.proofs.Keeping.{since_all}
use Rattle.world_traits.proofs.Narrowing.{within_keeps}
use Rattle.world_traits.proofs.Passing.{since_weaker}
use Rattle.world_traits.proofs.Traces.{since_both, since_carry}
use Rattle.journal_core.specs.Settling.{Settles}
use Rattle.store_core.specs.Keeping.{Keeping}
use Rattle.store_core.specs.Books.{HoldsBook}
use Rattle.store_core.specs.Steps.{Books, Firm, Begun}
use Rattle.store_core.specs.Taking.{HasBooks}
use Rattle.play_driver.specs.States.{state_of}
use Rattle.play_driver.specs.Machine.{Relation, Machine, Step}
use Rattle.play_driver.specs.Machine.Step.{rests, chooses}
use Rattle.play_driver.specs.Joining.{Relates, IsKept, Joined}

-- Any relation is kept where no moment has an image that the one before it hadn't: by calls that only look, and by syncs.
module _ (K : Keeping) (R : Relation K) where
  pub narrows_keeps : (old new : Clock) → IsKept K R old.now → Narrows old new → Since (IsKept K R) Within old new
  narrows_keeps old new kept narrows =
      since_weaker (λ m. Within old.now m × IsKept K R m) (IsKept K R) Within Within (λ m p. p.1) (λ m n s. s) old new
      (since_all (Within old.now) (IsKept K R) Within (λ m n p w k. within_keeps (Relates K R) m n k w) old kept new narrows)

-- which book the files hold as they read, and how it comes to be the only one
record Found (K : Keeping) (M : Machine K) (x : Books K) (seen : Files) : Type 0 where
  book : Option K.Book
  holds : HoldsBook K book seen
  step : (p : Peer) → Step K M (state_of K x p) (state_of K (Firm book) p)

module _ (K : Keeping) (M : Machine K) where
  found : (x : Books K) (m : Moment) (seen : Files) → HasBooks K x m → MayLeave m seen → Found K M x seen
  found (Firm b) m seen h leaves = record { book = b; holds = h.each.each seen leaves; step = λ p. rests }
  found (Begun b c) m seen h leaves =
      ⊎_elim (λ (held : HoldsBook K b seen). record { book = b; holds = held; step = λ p. chooses true b c refl })
      (λ (held : HoldsBook K c seen). record { book = c; holds = held; step = λ p. chooses false b c refl }) (h.each.each seen leaves)

  -- the outside stays
  aside : (x y : Books K) (p q : Peer) → q ≡ p → Step K M (state_of K x p) (state_of K y p) → Step K M (state_of K x p) (state_of K y q)
  aside x y p q same step = subst (λ (o : Peer). Step K M (state_of K x p) (state_of K y o)) (sym same) step

  module _ (x : Books K) (old : Clock) (seen : Files) (has : HasBooks K x old.now) (leaves : MayLeave old.now seen) where
    f : Found K M x seen
    f = found x old.now seen has leaves

    abbrev At : Moment → Type 0
    At m = (m ≡ old.now) ⊎ Rests m seen

    abbrev On : Moment → Moment → Type 0
    On m n = (n ≡ m) ⊎ Rests n seen

    only : (m : Moment) → Rests m seen → HasBooks K (Firm f.book) m
    only m still = rests_only (HoldsBook K f.book) m seen still f.holds

    chooses_from : (m n : Moment) → n.outside ≡ m.outside → At m → On m n → Joined K M m n
    chooses_from m n outside (inl here) (inl stay) = record {
      old = x;
      new = x;
      at_old = subst (HasBooks K x) (sym here) has;
      at_new = subst (HasBooks K x) (sym (stay ∙ here)) has;
      step = aside x x m.outside n.outside outside rests;
    }
    chooses_from m n outside (inl here) (inr still) = record {
      old = x;
      new = Firm f.book;
      at_old = subst (HasBooks K x) (sym here) has;
      at_new = only n still;
      step = aside x (Firm f.book) m.outside n.outside outside (f.step m.outside);
    }
    chooses_from m n outside (inr still) (inl stay) = record {
      old = Firm f.book;
      new = Firm f.book;
      at_old = only m still;
      at_new = only n (subst (λ (k : Moment). Rests k seen) (sym stay) still);
      step = aside (Firm f.book) (Firm f.book) m.outside n.outside outside rests;
    }
    chooses_from m n outside (inr still) (inr later) = record {
      old = Firm f.book;
      new = Firm f.book;
      at_old = only m still;
      at_new = only n later;
      step = aside (Firm f.book) (Firm f.book) m.outside n.outside outside rests;
    }

    abbrev P : Moment → Type 0
    P m = At m × Within old.now m

    abbrev S : Moment → Moment → Type 0
    S m n = On m n × Within m n

    -- an opening of any journal
    pub settles_joins : (new : Clock) → Settles old new seen → Narrows old new → Since Any (Joined K M) old new
    settles_joins new settles narrows =
        since_weaker (λ m. P m × At m) Any (λ m n. At m × S m n) (Joined K M) (λ m p. tt) (λ m n s. chooses_from m n s.1.1.outside s.0 s.1.0) old new
        (since_carry P At S (λ m n p s at. p.0) old (inl refl) new (since_both At (Within old.now) On Within old new settles narrows))

  -- a stop
  pub stop_joins : (x : Books K) (m : Moment) (files : Files) → HasBooks K x m → MayLeave m files → Joined K M m (restarted files m)
  stop_joins x m files has leaves =
      let f = found x m files has leaves in
      record {
        old = x;
        new = Firm f.book;
        at_old = has;
        at_new = rests_only (HoldsBook K f.book) (restarted files m) files (record { left = refl; right = refl }) f.holds;
        step = f.step m.outside;
      }
