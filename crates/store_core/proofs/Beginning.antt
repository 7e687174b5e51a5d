-- A journal that begins with names, as the store's book.
use Rattle.std.proofs.Common.{◌≡◌, ◌⊎◌, inl, inr, ⊎_elim, true, ℕ, ◌+◌, ◌-◌, ◌*◌, ◌≤◌, ◌<◌, ◌^◌, List, [], ◌∷◌, ◌++◌, length}
use Rattle.std.proofs.Common.{take, drop, Some, None, refl, sym, ◌∙◌, ap, subst, arith, length-append}
use Rattle.std.specs.Prelude.{flat_map}
use Rattle.std.specs.Int.{w32, to_be_bytes}
use Rattle.std.specs.List.{AllByRecursion}
use Rattle.std.proofs.lemmas.List.{take_at}
use Rattle.world_traits.specs.Files.{Files}
use Rattle.world_traits.specs.Moments.{Moment, MayLeave, Clock, Images, GoesOn, Since, Within}
use Rattle.world_traits.specs.Links.{Any}
use Rattle.world_traits.proofs.Passing.{since_start, since_then, since_weaker}
use Rattle.world_traits.proofs.Traces.{since_both}
use Rattle.journal_core.specs.declared.version.Version.{Version}
use Rattle.journal_core.specs.Sides.{version_written}
use Rattle.mail_base.specs.Bodies.{frame_of}
use Rattle.journal_core.specs.Records.{open_record, records}
use Rattle.journal_core.specs.Holds.{Holds}
use Rattle.journal_core.specs.Creating.{IsUnbegun, CreatesThrough, CreatesBehind, end_of}
use Rattle.journal_core.specs.Standing.{Standing, IsStill}
use Rattle.journal_core.specs.Gates.{Passes}
use Rattle.journal_core.proofs.Aside.{either_as, goes_as, passes_as}
use Rattle.mail_base.specs.BoxName.{IsBoxName}
use Rattle.action_queue.specs.declared.event.Event.{Event}
use Rattle.action_queue.specs.declared.event.Event.TheVariants as events
use Rattle.action_queue.specs.Book.{Meaning, begun}
use Rattle.action_queue.specs.Events.{AreNames, IsFirst}
use Rattle.store_core.specs.Steps.{Books}
use Rattle.record_codec.specs.Fields.{counted}
use Rattle.record_codec.specs.Bodies.{body_of}
use Rattle.record_codec.specs.Spelling.{IsKept, Spelled}
use Rattle.store_core.specs.Mail.{mail}
use Rattle.store_core.specs.Books.{Make, HoldsBook}
use Rattle.store_core.specs.Holding.{IsAsLeft}
use Rattle.store_core.specs.Taking.{HasBooks, IsTaking, Takes, ChoosesStep, IsCreating, Creates, BeginsStep, BeginsBehind}
use Rattle.store_core.specs.HeldActions.{KeepsActions}
use Rattle.store_core.proofs.Opens.{settles_chooses}
use Rattle.store_core.proofs.Phases.{step_of}
use Rattle.store_core.proofs.Holds.{begins_keeps, within_keeps_actions}

-- the body behind a frame's length, without the gate
pub body_behind : (frame body : List ℕ) → frame ≡ frame_of body → take (length frame - 1 - 4) (drop 4 frame) ≡ body
body_behind frame body is =
    ap (λ (f : List ℕ). take (length f - 1 - 4) (drop 4 f)) is
    ∙ ap (λ (n : ℕ). take n (body ++ 0 ∷ [])) (omega (arith, length-append body (0 ∷ [])))
    ∙ take_at body (0 ∷ []) (length body) refl

-- names in their bytes are short
counted_short : (names : List (List ℕ)) → AllByRecursion IsBoxName names → length (flat_map counted names) ≤ 129 * length names
counted_short [] each = omega arith
counted_short (n ∷ ns) each = omega (arith, each.0.text.few, counted_short ns each.1, length-append (counted n) (flat_map counted ns))

-- and so is the body of a Begin
pub fits_first : (e : Event) → IsFirst e → IsKept e → length (body_of e) ≤ 1073741824
fits_first (events.Begin names) are kept = omega (arith, counted_short names kept, are.few)
fits_first (events.Accept id action) are kept = absurd are
fits_first (events.Intend id intent) are kept = absurd are
fits_first (events.Settle id outcome) are kept = absurd are
fits_first (events.Learn name delta) are kept = absurd are
fits_first (events.Old id action outcome) are kept = absurd are
fits_first (events.Reset name kept told) are k = absurd are
fits_first (events.Withdraw id tries) are kept = absurd are

module _ (body : List ℕ) (names : List (List ℕ)) (are : AreNames names) (is : Spelled body (events.Begin names)) where
  pub make_begin : Make mail version_written (body ∷ []) (Some (begun names))
  make_begin = record { events = events.Begin names ∷ []; spelled = (is, tt); folds = (are, refl) }

  pub some_begin : 0 < length body
  some_begin = omega (arith, ap length is.is)

  has_begin : (files : Files) → Holds version_written (body ∷ []) files → HoldsBook mail (Some (begun names)) files
  has_begin files h = record { version = version_written; bodies = body ∷ []; holds = h; make = make_begin }

  module _ (k l : Clock) (bodies : List (List ℕ)) (one : bodies ≡ body ∷ []) (through : CreatesThrough bodies k l) where
    through_one : CreatesThrough (body ∷ []) k l
    through_one = subst (λ (b : List (List ℕ)). CreatesThrough b k l) one through

    pub creates : Creates mail (events.Begin names) k l
    creates =
        since_weaker (λ m. Within k.now m ⊎ Images (λ files. IsUnbegun files ⊎ Holds version_written (body ∷ []) files) m) (IsCreating mail (events.Begin names) k.now)
        (λ m n. Within m n ⊎ GoesOn IsUnbegun (Holds version_written (body ∷ [])) m n)
        (λ m n. Within m n ⊎ GoesOn (HoldsBook mail None) (HoldsBook mail (Some (begun names))) m n)
        (λ m p. ⊎_elim (λ w. inl w) (λ i. inr (either_as IsUnbegun (Holds version_written (body ∷ [])) (HoldsBook mail None)
        (HoldsBook mail (Some (begun names))) (λ files f. f) has_begin m i)) p)
        (λ m n s. ⊎_elim (λ w. inl w) (λ g. inr (goes_as IsUnbegun (Holds version_written (body ∷ [])) (HoldsBook mail None)
        (HoldsBook mail (Some (begun names))) (λ files f. f) has_begin m n g)) s)
        k l through_one

    pub creates_held : Since (IsCreating mail (events.Begin names) k.now) KeepsActions k l
    creates_held =
        since_weaker (IsCreating mail (events.Begin names) k.now) (IsCreating mail (events.Begin names) k.now)
        (λ m n. Within m n ⊎ GoesOn (HoldsBook mail None) (HoldsBook mail (Some (begun names))) m n) KeepsActions
        (λ m p. p) (λ m n s. ⊎_elim (λ w. within_keeps_actions m n w) (λ g. begins_keeps (begun names) m n g) s) k l creates

  module _ (k l : Clock) (seen : Files) (leaves : MayLeave k.now seen) (books : Books mail) (has : HasBooks mail books k.now)
      (bodies : List (List ℕ)) (one : bodies ≡ body ∷ []) (behind : CreatesBehind bodies k l seen) where
    takes_begin : Takes mail None (events.Begin names) behind.at l
    takes_begin =
        passes_as IsUnbegun (Holds version_written (body ∷ [])) (HoldsBook mail None) (HoldsBook mail (Some (begun names))) (λ files f. f) has_begin behind.at l
        (subst (λ (b : List (List ℕ)). Passes IsUnbegun (Holds version_written b) behind.at l) one behind.passes)

    pub begins_behind : BeginsBehind mail (events.Begin names) k l
    begins_behind = record {
      at = behind.at;
      chooses = settles_chooses mail books k seen has leaves behind.at behind.settles behind.narrows;
      takes = takes_begin;
    }

  pub left_begun : (j : Standing) (m : Moment) (f : Files) (bodies : List (List ℕ)) → bodies ≡ body ∷ [] → j.version ≡ version_written →
      j.all_read ≡ true → IsStill j bodies m f → (book : Meaning) → book ≡ begun names →
      IsAsLeft mail (record { journal = j; book = book }) m f
  left_begun j m f bodies one version read still book becomes = record {
    bodies = body ∷ [];
    make = subst (λ (v : Version). Make mail v (body ∷ []) (Some book)) (sym version)
        (subst (λ (b : Meaning). Make mail version_written (body ∷ []) (Some b)) (sym becomes) make_begin);
    still = subst (λ (b : List (List ℕ)). IsStill j b m f) one still;
    all_read = read;
  }

-- where nothing was done
pub begins_none : (names : List (List ℕ)) (k : Clock) → BeginsBehind mail (events.Begin names) k k
begins_none names k = record {
  at = k;
  chooses = since_start Any (ChoosesStep mail) k;
  takes = since_start (IsTaking mail None (events.Begin names)) (GoesOn (HoldsBook mail None) (HoldsBook mail (Some (begun names)))) k;
}

module _ (names : List (List ℕ)) (are : AreNames names) (k l : Clock) (creates : Creates mail (events.Begin names) k l)
    (b : BeginsBehind mail (events.Begin names) k l) where
  abbrev Goes : Moment → Moment → Type 0
  Goes m n = Within m n ⊎ GoesOn (HoldsBook mail None) (HoldsBook mail (Some (begun names))) m n

  any_steps : Since Any (BeginsStep mail version_written (events.Begin names)) k l
  any_steps =
      since_then Any (BeginsStep mail version_written (events.Begin names)) k b.at l
      (since_weaker Any Any (ChoosesStep mail) (BeginsStep mail version_written (events.Begin names)) (λ m p. p) (λ m n s. inl s) k b.at b.chooses)
      (since_weaker (IsTaking mail None (events.Begin names)) Any (GoesOn (HoldsBook mail None) (HoldsBook mail (Some (begun names))))
      (BeginsStep mail version_written (events.Begin names)) (λ m p. tt)
      (λ m n s. inr (step_of mail version_written None (events.Begin names) are m n s)) b.at l b.takes)

  -- as steps of the books
  pub begins_steps : Since (IsCreating mail (events.Begin names) k.now) (BeginsStep mail version_written (events.Begin names)) k l
  begins_steps =
      since_weaker (λ m. IsCreating mail (events.Begin names) k.now m × Any m) (IsCreating mail (events.Begin names) k.now)
      (λ m n. Goes m n × BeginsStep mail version_written (events.Begin names) m n) (BeginsStep mail version_written (events.Begin names)) (λ m p. p.0) (λ m n s. s.1) k l
      (since_both (IsCreating mail (events.Begin names) k.now) Any Goes (BeginsStep mail version_written (events.Begin names)) k l creates any_steps)

one_record : (b : List ℕ) → length (records (b ∷ [])) ≡ 5 + length b
one_record b = omega (arith, length-append (open_record b) [], length-append (to_be_bytes w32 (length b)) b)

-- a Begin has room
pub never_over : (body : List ℕ) (names : List (List ℕ)) (bodies : List (List ℕ)) → AreNames names → Spelled body (events.Begin names) →
    bodies ≡ body ∷ [] → 2 ^ 30 < end_of bodies → ⊥
never_over body names bodies are is one over =
    let short = counted_short names is.kept in
    let long : length (records bodies) ≡ 5 + length body = ap (λ (l : List (List ℕ)). length (records l)) one ∙ one_record body in
    omega (arith, over, long, short, are.few, ap length is.is)
