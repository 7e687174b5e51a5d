-- No step of a journal's calls loses what every image holds.
use Rattle.std.proofs.Common.{◌≡◌, ◌⊎◌, ⊎_elim, ℕ, zero, suc, ◌≤◌, List, [], ◌∷◌, ◌++◌, IsTrue, Some, refl, sym, ◌∙◌, ap, subst, arith, length}
use Rattle.std.specs.Prelude.{slice_get}
use Rattle.world_traits.specs.Files.{Files, file_of}
use Rattle.world_traits.specs.Moments.{Moment, Clock, Images, Occurs, AtPhase, GoesOn, Since, Within, Narrows}
use Rattle.world_traits.proofs.Keeping.{since_now}
use Rattle.world_traits.proofs.Narrowing.{within_self}
use Rattle.world_traits.proofs.Resting.{resting}
use Rattle.journal_core.specs.declared.version.Version.{Version}
use Rattle.journal_core.specs.Holds.{Holds}
use Rattle.journal_core.specs.Standing.{Standing, IsStill}
use Rattle.journal_core.specs.Creating.{IsUnbegun}
use Rattle.journal_core.specs.HeldBodies.{HasHeld, StaysHeld, DiskKeepsHeld}
use Rattle.journal_core.proofs.Unique.{one_book}
use Rattle.journal_core.proofs.Presence.{from_behind}
use Rattle.journal_core.proofs.Choice.{open_head}

-- an item stays at its place while others come behind it
pub more : (bodies : List (List ℕ)) (x a : List ℕ) (i : ℕ) → slice_get bodies i ≡ Some a → slice_get (bodies ++ x ∷ []) i ≡ Some a
more [] x a i e = cc
more (y ∷ b) x a zero e = e
more (y ∷ b) x a (suc i) e = more b x a i e

-- the item behind all others
pub last_there : (bodies : List (List ℕ)) (x : List ℕ) → slice_get (bodies ++ x ∷ []) (length bodies) ≡ Some x
last_there [] x = refl
last_there (y ∷ b) x = last_there b x

-- what is held stands in the bodies of an image
there_in : (v : Version) (bodies : List (List ℕ)) (i : ℕ) (a : List ℕ) (m : Moment) → Occurs (Holds v bodies) m → HasHeld i a m → slice_get bodies i ≡ Some a
there_in v bodies i a m occurs held =
    let h = held.each occurs.files occurs.leaves in
    ap (λ (d : List (List ℕ)). slice_get d i) (one_book v h.version bodies h.bodies occurs.files occurs.has h.holds) ∙ h.there

-- images that hold bodies with this one at this place
pub all_hold : (v : Version) (bodies : List (List ℕ)) (i : ℕ) (a : List ℕ) (n : Moment) → slice_get bodies i ≡ Some a →
    Images (Holds v bodies) n → HasHeld i a n
all_hold v bodies i a n e images = record { each = λ files h. record { version = v; bodies = bodies; holds = images.each files h; there = e } }

module _ (v : Version) (b : List (List ℕ)) (x : List ℕ) (m n : Moment) where
  both_hold : (i : ℕ) (a : List ℕ) → slice_get b i ≡ Some a → Images (λ files. Holds v b files ⊎ Holds v (b ++ x ∷ []) files) n → HasHeld i a n
  both_hold i a e images = record {
    each = λ files h. ⊎_elim
        (λ (old : Holds v b files). record { version = v; bodies = b; holds = old; there = e })
        (λ (new : Holds v (b ++ x ∷ []) files). record { version = v; bodies = b ++ x ∷ []; holds = new; there = more b x a i e })
        (images.each files h);
  }

  adds_phases : (from to i : ℕ) (a : List ℕ) → from ≤ to → AtPhase (Holds v b) (Holds v (b ++ x ∷ [])) from m →
      AtPhase (Holds v b) (Holds v (b ++ x ∷ [])) to n → HasHeld i a m → HasHeld i a n
  adds_phases zero zero i a le p q held = all_hold v b i a n (there_in v b i a m p.some held) q.each
  adds_phases zero (suc zero) i a le p q held = both_hold i a (there_in v b i a m p.some held) q.each
  adds_phases zero (suc (suc to)) i a le p q held = all_hold v (b ++ x ∷ []) i a n (more b x a i (there_in v b i a m p.some held)) q.each
  adds_phases (suc zero) zero i a le p q held = absurd (omega arith)
  adds_phases (suc zero) (suc zero) i a le p q held = both_hold i a (there_in v b i a m p.before held) q.each
  adds_phases (suc zero) (suc (suc to)) i a le p q held = all_hold v (b ++ x ∷ []) i a n (more b x a i (there_in v b i a m p.before held)) q.each
  adds_phases (suc (suc from)) zero i a le p q held = absurd (omega arith)
  adds_phases (suc (suc from)) (suc zero) i a le p q held = absurd (omega arith)
  adds_phases (suc (suc from)) (suc (suc to)) i a le p q held = all_hold v (b ++ x ∷ []) i a n (there_in v (b ++ x ∷ []) i a m p.some held) q.each

  -- a step of an append
  pub adds_held : GoesOn (Holds v b) (Holds v (b ++ x ∷ [])) m n → DiskKeepsHeld m n
  adds_held s = record { held = record { stays = λ i a held. adds_phases s.from s.to i a s.forward s.at_from s.at_to held }; outside = s.outside }

-- where no side was begun nothing is held
none_held : (i : ℕ) (a : List ℕ) (m : Moment) → Occurs IsUnbegun m → HasHeld i a m → ⊥
none_held i a m occurs held =
    let h = held.each occurs.files occurs.leaves in
    occurs.has h.holds.side (open_head h.version h.holds.generation (file_of h.holds.side occurs.files) h.holds.present.set_up)

module _ (v : Version) (b : List (List ℕ)) (m n : Moment) where
  creates_phases : (from to i : ℕ) (a : List ℕ) → from ≤ to → AtPhase IsUnbegun (Holds v b) from m → AtPhase IsUnbegun (Holds v b) to n →
      HasHeld i a m → HasHeld i a n
  creates_phases zero to i a le p q held = absurd (none_held i a m p.some held)
  creates_phases (suc zero) to i a le p q held = absurd (none_held i a m p.before held)
  creates_phases (suc (suc from)) zero i a le p q held = absurd (omega arith)
  creates_phases (suc (suc from)) (suc zero) i a le p q held = absurd (omega arith)
  creates_phases (suc (suc from)) (suc (suc to)) i a le p q held = all_hold v b i a n (there_in v b i a m p.some held) q.each

  -- a step of a creation
  pub creates_held : GoesOn IsUnbegun (Holds v b) m n → DiskKeepsHeld m n
  creates_held s = record { held = record { stays = λ i a held. creates_phases s.from s.to i a s.forward s.at_from s.at_to held }; outside = s.outside }

-- fewer images hold no less
pub within_held : (m n : Moment) → Within m n → DiskKeepsHeld m n
within_held m n w = record { held = record { stays = λ i a held. record { each = λ files h. held.each files (w.each files h) } }; outside = w.outside }

pub held_self : (m : Moment) → StaysHeld m m
held_self m = record { stays = λ i a h. h }

pub held_then : (l m n : Moment) → StaysHeld l m → StaysHeld m n → StaysHeld l n
held_then l m n p q = record { stays = λ i a h. q.stays i a (p.stays i a h) }

-- what is held at a moment is held at each later one
pub held_later : (P : Moment → Type 0) (k l : Clock) → Since P DiskKeepsHeld k l → StaysHeld k.now l.now
held_later P k l s = since_now P (λ m. StaysHeld k.now m) DiskKeepsHeld (λ m n p step so_far. held_then k.now m n so_far step.held) k (held_self k.now) l s

-- and what isn't on the disk is as it was
pub outside_later : (P : Moment → Type 0) (k l : Clock) → Since P DiskKeepsHeld k l → l.now.outside ≡ k.now.outside
outside_later P k l s = since_now P (λ m. m.outside ≡ k.now.outside) DiskKeepsHeld (λ m n p step so_far. step.outside ∙ so_far) k refl l s

-- moments that narrow are all within the first
pub narrowed : (k l : Clock) → Narrows k l → Within k.now l.now
narrowed k l n = since_now (Within k.now) (Within k.now) Within (λ m o p s q. p) k (within_self k.now) l n

-- a journal whose records were all read is what the files hold
pub still_holds : (j : Standing) (bodies : List (List ℕ)) (m : Moment) (seen : Files) → IsStill j bodies m seen → IsTrue j.all_read →
    Holds j.version bodies seen
still_holds j bodies m seen still read = record {
  side = j.side;
  generation = j.generation;
  present = still.present;
  records = from_behind j.version j.generation bodies (file_of j.side seen) still.sizes
      (record { gate = still.gate; rest = still.rest; closed = still.closed read; is = still.is });
}

-- and what each image holds
pub still_images : (j : Standing) (bodies : List (List ℕ)) (m : Moment) (seen : Files) → IsStill j bodies m seen → IsTrue j.all_read →
    Images (Holds j.version bodies) m
still_images j bodies m seen still read = record {
  each = λ files h. subst (Holds j.version bodies) (sym (resting m seen files still.rests h)) (still_holds j bodies m seen still read);
}
