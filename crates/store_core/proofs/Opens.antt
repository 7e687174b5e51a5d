-- An opening chooses one of the books that a stop could have left.
use Rattle.std.proofs.Common.{◌≡◌, ◌⊎◌, inl, inr, ⊎_elim, Bool, true, false, Option, refl, sym, ◌∙◌, subst}
use Rattle.world_traits.specs.Files.{Files}
use Rattle.world_traits.specs.Links.{Any}
use Rattle.world_traits.specs.Moments.{Moment, MayLeave, Clock, Since, Rests, Within, Narrows, restarted}
use Rattle.world_traits.proofs.Choosing.{rests_only}
use Rattle.world_traits.proofs.Passing.{since_weaker}
use Rattle.world_traits.proofs.Traces.{since_both, since_carry}
use Rattle.journal_core.specs.Settling.{Settles}
use Rattle.store_core.specs.Steps.{Books, Firm, Begun, Chooses}
use Rattle.store_core.specs.Keeping.{Keeping}
use Rattle.store_core.specs.Books.{HoldsBook}
use Rattle.store_core.specs.Taking.{HasBooks, ChoosesStep}

-- which book the files hold as they read, and how it comes to be the only one
record Found (K : Keeping) (books : Books K) (seen : Files) : Type 0 where
  book : Option K.Book
  holds : HoldsBook K book seen
  step : (Firm book ≡ books) ⊎ ((first : Bool) × Chooses K first books (Firm book))

found : (K : Keeping) (books : Books K) (m : Moment) (seen : Files) → HasBooks K books m → MayLeave m seen → Found K books seen
found K (Firm b) m seen h leaves = record { book = b; holds = h.each.each seen leaves; step = inl refl }
found K (Begun b c) m seen h leaves =
    ⊎_elim (λ (p : HoldsBook K b seen). record { book = b; holds = p; step = inr (true, record { before = b; later = c; begun = refl; becomes = refl }) })
    (λ (p : HoldsBook K c seen). record {
      book = c;
      holds = p;
      step =
          inr (false, record { before = b; later = c; begun = refl; becomes = refl });
    }) (h.each.each seen leaves)

module _ (K : Keeping) (books : Books K) (old : Clock) (seen : Files) (has : HasBooks K books old.now) (leaves : MayLeave old.now seen) where
  f : Found K books seen
  f = found K books old.now seen has leaves

  abbrev At : Moment → Type 0
  At m = (m ≡ old.now) ⊎ Rests m seen

  abbrev On : Moment → Moment → Type 0
  On m n = (n ≡ m) ⊎ Rests n seen

  only : (m : Moment) → Rests m seen → HasBooks K (Firm f.book) m
  only m rests = rests_only (HoldsBook K f.book) m seen rests f.holds

  chooses_from : (m n : Moment) → n.outside ≡ m.outside → At m → On m n → ChoosesStep K m n
  chooses_from m n outside (inl here) (inl stay) = record {
    old = books;
    new = books;
    at_old = subst (HasBooks K books) (sym here) has;
    at_new = subst (HasBooks K books) (sym (stay ∙ here)) has;
    step = inl refl;
    outside = outside;
  }
  chooses_from m n outside (inl here) (inr rests) = record {
    old = books;
    new = Firm f.book;
    at_old =
        subst (HasBooks K books) (sym here) has;
    at_new = only n rests;
    step = f.step;
    outside = outside;
  }
  chooses_from m n outside (inr rests) (inl stay) = record {
    old = Firm f.book;
    new = Firm f.book;
    at_old = only m rests;
    at_new =
        only n (subst (λ (x : Moment). Rests x seen) (sym stay) rests);
    step = inl refl;
    outside = outside;
  }
  chooses_from m n outside (inr rests) (inr later) = record {
    old = Firm f.book;
    new = Firm f.book;
    at_old = only m rests;
    at_new =
        only n later;
    step = inl refl;
    outside = outside;
  }

  abbrev P : Moment → Type 0
  P m = At m × Within old.now m

  abbrev S : Moment → Moment → Type 0
  S m n = On m n × Within m n

  -- What an opening's contract must hand up, from what settling both files promises where one side is at rest.
  pub settles_chooses : (new : Clock) → Settles old new seen → Narrows old new → Since Any (ChoosesStep K) old new
  settles_chooses new settles narrows =
      since_weaker (λ m. P m × At m) Any (λ m n. At m × S m n) (ChoosesStep K) (λ m p. tt) (λ m n s. chooses_from m n s.1.1.outside s.0 s.1.0) old new
      (since_carry P At S (λ m n p s at. p.0) old (inl refl) new (since_both At (Within old.now) On Within old new settles narrows))

-- A stop chooses, too: its moment has the one book that the files left hold.
pub stop_chooses : (K : Keeping) (books : Books K) (m : Moment) (files : Files) → HasBooks K books m → MayLeave m files →
    ChoosesStep K m (restarted files m)
stop_chooses K books m files has leaves =
    let f = found K books m files has leaves in
    record {
      old = books;
      new = Firm f.book;
      at_old = has;
      at_new =
          rests_only (HoldsBook K f.book) (restarted files m) files (record { left = refl; right = refl }) f.holds;
      step =
          f.step;
      outside = refl;
    }
