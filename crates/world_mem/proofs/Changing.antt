-- What others change as a call of the link begins, one change behind another.
use Rattle.std.proofs.Common.{◌≡◌, ◌⊎◌, inl, inr, ◌==◌, ◌||◌, ◌+◌, ◌<◌, ◌≤◌, ℕ, Bool, true, false, cond, List, [], ◌∷◌, ◌++◌, length, take, get_or, Option, Some, None}
use Rattle.std.proofs.Common.{Result, Ok, Err, OnOk, OnErr, refl, sym, ◌∙◌, ap, ap₂}
use Rattle.std.specs.Prelude.{is_some, IsErrOf}
use Rattle.std.proofs.lemmas.Bool.{cond-true, cond-false}
use Rattle.std.proofs.lemmas.List.{take_more, take_all}
use Rattle.imap_model.specs.Lawful.{broken_rule}
use Rattle.imap_model.specs.declared.deed.Change.{Change}
use Rattle.server_mem.specs.declared.mem_server.ForeignFault.{ForeignFault}
use Rattle.server_mem.specs.declared.mem_server.ForeignFault.TheVariants.{Memory, NotLawful}
use Rattle.world_mem.specs.Others.{OthersSome, alone, changed, changes, others_in, renews, rested}
use Rattle.world_mem.specs.Planned.{Planned}
use Rattle.world_mem.specs.Running.{Run, step}
use Rattle.world_mem.specs.Standing.{in_use, lost_phase}
use Rattle.world_mem.specs.declared.course.Phase.{Phase}
use Rattle.world_mem.specs.declared.course.Phase.TheVariants as phases
use Rattle.world_mem.specs.declared.did.Did.TheVariants as did
use Rattle.world_mem.proofs.Doing.{lost_twice}

-- it is made where it breaks no rule, and doesn't renew what is in use
pub made : (used : Option (List ℕ)) (name : List ℕ) (change : Change) (old new : Run) → renews used name change ≡ false
    → broken_rule old.state.server.boxes name change ≡ None → new ≡ step (did.Changed name change) old → new ≡ changed used name change old
made used name change old new keeps none is =
    is ∙ sym (cond-false (renews used name change || is_some (broken_rule old.state.server.boxes name change)) old
    (step (did.Changed name change) old) (ap₂ (λ (a b : Bool). a || b) keeps (ap is_some none)))

pub passed_over : (used : Option (List ℕ)) (name : List ℕ) (change : Change) (old new : Run) (number : ℕ) → renews used name change ≡ false
    → broken_rule old.state.server.boxes name change ≡ Some number → new ≡ old → new ≡ changed used name change old
passed_over used name change old new number keeps some is =
    is ∙ sym (cond-true (renews used name change || is_some (broken_rule old.state.server.boxes name change)) old
    (step (did.Changed name change) old) (ap₂ (λ (a b : Bool). a || b) keeps (ap is_some some)))

pub kept_over : (used : Option (List ℕ)) (name : List ℕ) (change : Change) (old new : Run) → renews used name change ≡ true → new ≡ old
    → new ≡ changed used name change old
kept_over used name change old new would is =
    is ∙ sym (cond-true (renews used name change || is_some (broken_rule old.state.server.boxes name change)) old
    (step (did.Changed name change) old)
    (ap (λ (b : Bool). b || is_some (broken_rule old.state.server.boxes name change)) would))

-- others select nothing
changed_selected : (used : Option (List ℕ)) (name : List ℕ) (change : Change) (r : Run) → (changed used name change r).state.selected ≡ r.state.selected
changed_selected used name change r = by (renews used name change || is_some (broken_rule r.state.server.boxes name change))
  where
    by : (b : Bool) → (cond b r (step (did.Changed name change) r)).state.selected ≡ r.state.selected
    by true = refl
    by false = refl

pub changes_selected : (fs : List (ℕ × List ℕ × Change)) (call : ℕ) (used : Option (List ℕ)) (r : Run)
    → (changes fs call used r).state.selected ≡ r.state.selected
changes_selected [] call used r = refl
changes_selected (f ∷ fs) call used r =
    changes_selected fs call used (cond (f.0 == call) (changed used f.1 f.2 r) r) ∙ by (f.0 == call)
  where
    by : (b : Bool) → (cond b (changed used f.1 f.2 r) r).state.selected ≡ r.state.selected
    by true = changed_selected used f.1 f.2 r
    by false = refl

-- so what is in use stays so
pub used_still : (fs : List (ℕ × List ℕ × Change)) (call : ℕ) (used : Option (List ℕ)) (phase phase' : Phase) (old new : Run)
    → phase' ≡ phase → new ≡ changes fs call used old → in_use phase' new.state ≡ in_use phase old.state
used_still fs call used phase phase' old new same is =
    ap (λ (p : Phase). in_use p new.state) same ∙ by_selected phase (ap (λ (r : Run). r.state.selected) is ∙ changes_selected fs call used old)
  where
    by_selected : (p : Phase) → new.state.selected ≡ old.state.selected → in_use p new.state ≡ in_use p old.state
    by_selected phases.Off selected = refl
    by_selected phases.On selected = selected
    by_selected phases.Hearing selected = refl
    by_selected phases.Waiting selected = selected

-- behind the end of the old connection what the command that waits has selected is in use still
pub used_ended : (phase mid_phase : Phase) (old mid : Run) → mid_phase ≡ phase → lost_phase phase ≡ phase → mid ≡ step did.Ended old →
    in_use mid_phase mid.state ≡ in_use (lost_phase phase) old.state
used_ended phase mid_phase old mid same lost is = ap₂ (λ (p : Phase) (r : Run). in_use p r.state) (same ∙ sym lost) is

-- one more
more : (fs : List (ℕ × List ℕ × Change)) (f : ℕ × List ℕ × Change) (call : ℕ) (used : Option (List ℕ)) (r : Run)
    → changes (fs ++ f ∷ []) call used r ≡ cond (f.0 == call) (changed used f.1 f.2 (changes fs call used r)) (changes fs call used r)
more [] f call used r = refl
more (g ∷ fs) f call used r = more fs f call used (cond (g.0 == call) (changed used g.1 g.2 r) r)

module _ (fs : List (ℕ × List ℕ × Change)) (i : ℕ) (f : ℕ × List ℕ × Change) (call : ℕ) (used : Option (List ℕ)) (r : Run) (within : i < length fs)
    (is : get_or fs i f ≡ f) where
  one_more : changes (take (i + 1) fs) call used r
      ≡ cond (f.0 == call) (changed used f.1 f.2 (changes (take i fs) call used r)) (changes (take i fs) call used r)
  one_more =
      ap (λ (l : List (ℕ × List ℕ × Change)). changes l call used r)
      (take_more fs i f within ∙ ap (λ (x : ℕ × List ℕ × Change). take i fs ++ x ∷ []) is)
      ∙ more (take i fs) f call used r

  -- one that is planned for this call
  pub changes_more : (mid new : Run) → (f.0 == call) ≡ true → mid ≡ changes (take i fs) call used r → new ≡ changed used f.1 f.2 mid →
      new ≡ changes (take (i + 1) fs) call used r
  changes_more mid new here so_far then_new =
      then_new ∙ ap (changed used f.1 f.2) so_far ∙ sym (one_more ∙ cond-true (f.0 == call) (changed used f.1 f.2 (changes (take i fs) call used r))
      (changes (take i fs) call used r) here)

  -- and another
  pub changes_same : (mid : Run) → (f.0 == call) ≡ false → mid ≡ changes (take i fs) call used r → mid ≡ changes (take (i + 1) fs) call used r
  changes_same mid there so_far =
      so_far ∙ sym (one_more ∙ cond-false (f.0 == call) (changed used f.1 f.2 (changes (take i fs) call used r))
      (changes (take i fs) call used r) there)

-- all of them
pub changes_all : (fs : List (ℕ × List ℕ × Change)) (i call : ℕ) (used : Option (List ℕ)) (r new : Run) → length fs ≤ i →
    new ≡ changes (take i fs) call used r → new ≡ changes fs call used r
changes_all fs i call used r new past is = is ∙ ap (λ (l : List (ℕ × List ℕ × Change)). changes l call used r) (take_all i fs past)

-- what the plan says of a call
module _ (s : Planned) (fs : List (ℕ × List ℕ × Change)) (call : ℕ) (used : Option (List ℕ)) (old new : Run) (foreign : fs ≡ s.plan.foreign)
    (link : call ≡ s.link) where
  pub others_done : new ≡ changes fs call used old → new ≡ others_in s used old
  others_done is =
      is ∙ ap (λ (l : List (ℕ × List ℕ × Change)). changes l call used old) foreign
      ∙ ap (λ (n : ℕ). changes s.plan.foreign n used old) link

  pub others_some : (n : ℕ) × (new ≡ changes (take n fs) call used old) → OthersSome s used old new
  others_some some = (
    some.0,
    some.1 ∙ ap (λ (l : List (ℕ × List ℕ × Change)). changes (take some.0 l) call used old) foreign
        ∙ ap (λ (n : ℕ). changes (take some.0 s.plan.foreign) n used old) link,
  )

-- one that a course was asked to make, and for which memory wasn't wanting
pub asked : (r : Result (Unit {0}) ForeignFault) (used : Option (List ℕ)) (name : List ℕ) (change : Change) (old new : Run)
    → renews used name change ≡ false → OnOk r (new ≡ step (did.Changed name change) old)
    → OnOk r (broken_rule old.state.server.boxes name change ≡ None) →
    ((number : ℕ) → IsErrOf r (NotLawful number) → broken_rule old.state.server.boxes name change ≡ Some number)
    → OnErr r (new ≡ old) → (r ≡ Err Memory → ⊥) → new ≡ changed used name change old
asked (Ok x) used name change old new keeps done lawful rule kept some = made used name change old new keeps lawful done
asked (Err (NotLawful number)) used name change old new keeps done lawful rule kept some =
    passed_over used name change old new number keeps (rule number refl) kept
asked (Err Memory) used name change old new keeps done lawful rule kept some = absurd (some refl)

-- a change at a moment of its own
pub alone_over : (on : Bool) (used : Option (List ℕ)) (name : List ℕ) (change : Change) (old new : Run) → renews used name change ≡ true → new ≡ old →
    new ≡ alone on used name change old
alone_over on used name change old new would is =
    is ∙ sym (cond-true (renews used name change) old (step (did.Changed name change) (rested on old)) would)

pub alone_made : (on : Bool) (used : Option (List ℕ)) (name : List ℕ) (change : Change) (old new : Run) → renews used name change ≡ false →
    new ≡ step (did.Changed name change) (rested on old) → new ≡ alone on used name change old
alone_made on used name change old new keeps is =
    is ∙ sym (cond-false (renews used name change) old (step (did.Changed name change) (rested on old)) keeps)

-- what others do to a world as a connection is made, where the old one was lost before
module _ (s : Planned) (phase mid_phase : Phase) (old mid new : Run) (lost : mid_phase ≡ lost_phase phase) (same : mid ≡ old) where
  used_then : in_use (lost_phase mid_phase) mid.state ≡ in_use (lost_phase phase) old.state
  used_then =
      ap₂ (λ (p : Phase) (r : Run). in_use (lost_phase p) r.state) lost same
      ∙ ap (λ (p : Phase). in_use p old.state) (lost_twice phase)

  pub began : new ≡ others_in s (in_use (lost_phase mid_phase) mid.state) (step did.Ended mid) →
      new ≡ others_in s (in_use (lost_phase phase) old.state) (step did.Ended old)
  began is = is ∙ ap₂ (λ (u : Option (List ℕ)) (r : Run). others_in s u (step did.Ended r)) used_then same

  pub began_some : (new ≡ mid) ⊎ OthersSome s (in_use (lost_phase mid_phase) mid.state) (step did.Ended mid) new →
      (new ≡ old) ⊎ OthersSome s (in_use (lost_phase phase) old.state) (step did.Ended old) new
  began_some (inl nothing) = inl (nothing ∙ same)
  began_some (inr some) = inr (
    some.0,
    some.1 ∙ ap₂ (λ (u : Option (List ℕ)) (r : Run). changes (take some.0 s.plan.foreign) s.link u (step did.Ended r)) used_then same,
  )
