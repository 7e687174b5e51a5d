-- A record that was entered goes on with a fold.
use Rattle.std.proofs.Common.{◌≡◌, ◌∙◌, ℕ, List, Some, None, ap, sym, subst}
use Rattle.journal_core.specs.declared.version.Version.{Version}
use Rattle.action_queue.specs.Book.{Meaning, after, begun}
use Rattle.action_queue.specs.Events.{AreNames}
use Rattle.action_queue.specs.Restating.{IsWellBook}
use Rattle.action_queue.specs.Rules.{first_broken}
use Rattle.action_queue.specs.Writable.{IsWritable}
use Rattle.action_queue.specs.declared.event.Event.{Event}
use Rattle.action_queue.proofs.AnewStays.{well_first, well_stays}
use Rattle.store_core.specs.Holding.{Holding}
use Rattle.store_core.specs.Mail.{mail, MayCome, rules_of}
use Rattle.store_core.specs.Reading.{Enters}
use Rattle.store_core.specs.Fold.{IsMade, begins, follows}

pub made_first : (v : Version) (b : Meaning) (names : List (List ℕ)) → b ≡ begun names → AreNames names → IsMade v b
made_first v b names is are = subst (IsMade v) (sym is) (record { fold = begins names are; well = well_first (rules_of v) names are })

pub made_after : (v : Version) (b : Meaning) (event : Event) → first_broken (rules_of v) b event ≡ None → IsWritable event → IsMade v b → IsMade v (after b event)
made_after v b event may writable made = record {
  fold = follows b event made.fold (record { version = rules_of v; unbroken = may }) writable;
  well = well_stays (rules_of v) b event may writable made.well;
}

pub entered_made : (v : Version) (b c : Meaning) (body : List ℕ) → IsMade v b → Enters mail v (Some b) body c → IsMade v c
entered_made v b c body made e = subst (IsMade v) (sym e.is) (made_after v b e.event e.may e.spelled.writable made)

-- one step more, in the same version
pub made_on : (v w : Version) (b c d : Meaning) → w ≡ v → (IsMade v b → IsMade v c) → (IsMade w c → IsMade w d) → IsMade v b → IsMade v d
made_on v w b c d same first then made = subst (λ (x : Version). IsMade x d) same (then (subst (λ (x : Version). IsMade x c) (sym same) (first made)))

-- the same version by another name
pub made_as : (v w : Version) (b : Meaning) → w ≡ v → IsMade v b → IsMade w b
made_as v w b same made = subst (λ (x : Version). IsMade x b) (sym same) made

-- what a store keeps of its book, behind an event that was recorded
pub well_recorded : (store now : Holding mail) → store ≡ now → (event : Event) → MayCome now.journal.version (Some now.book) event → IsWritable event →
    IsWellBook (rules_of store.journal.version) store.book → (version : Version) → version ≡ store.journal.version → (later : Meaning) →
    later ≡ after now.book event → IsWellBook (rules_of version) later
well_recorded store now same event lawful writable well version here later is =
    let may : MayCome store.journal.version (Some store.book) event =
    subst (λ (s : Holding mail). MayCome s.journal.version (Some s.book) event) (sym same) lawful in
    subst (λ (v : Version). IsWellBook (rules_of v) later) (sym here)
    (subst (IsWellBook (rules_of store.journal.version)) (sym (is ∙ ap (λ (s : Holding mail). after s.book event) (sym same)))
    (well_stays (rules_of store.journal.version) store.book event may writable well))

-- the same, where nothing was recorded
pub well_still : (v w : Version) (b : Meaning) → w ≡ v → IsWellBook (rules_of v) b → IsWellBook (rules_of w) b
well_still v w b same well = subst (λ (x : Version). IsWellBook (rules_of x) b) (sym same) well
