-- What a change that breaks no rule may take for granted.
use Rattle.std.proofs.Common.{◌≡◌, ◌≢◌, ℕ, ◌-◌, ◌<◌, ◌^◌, true, not, ◌&&◌, List, Option, Some, None, sym, ◌∙◌, ap}
use Rattle.std.specs.Prelude.{bytes_eq, is_some}
use Rattle.std.proofs.lemmas.Bool.{and_parts, not-true, ltb-true}
use Rattle.imap_model.specs.Lookups.{box_at}
use Rattle.imap_model.specs.Lawful.{has_next, broken_rule}
use Rattle.imap_model.specs.PlainChanges.{dropped, put_changed, with_box}
use Rattle.imap_model.proofs.Finding.{box_at-name, box_at-put_other}
use Rattle.imap_model.proofs.Going.{names_apart}
use Rattle.imap_model.proofs.Possible.{AllHold, none_failed, tests_of}
use Rattle.imap_model.specs.declared.deed.Change.{Change}
use Rattle.imap_model.specs.declared.deed.Change.TheVariants as changes
use Rattle.imap_model.specs.declared.server.Mailbox.{Mailbox}

pub rules_hold : (boxes : List Mailbox) (name : List ℕ) (change : Change) → broken_rule boxes name change ≡ None → AllHold (tests_of boxes name change)
rules_hold boxes name change lawful = none_failed 1 (tests_of boxes name change) lawful

next_from : (o : Option Mailbox) (b : Mailbox) → has_next o ≡ true → o ≡ Some b → b.highest < 2 ^ 63 - 1
next_from o b t e = ltb-true b.highest (2 ^ 63 - 1) (sym (ap has_next e) ∙ t)

-- the three names of a shift
pub both_there : (boxes : List Mailbox) (name : List ℕ) (uid : ℕ) (to : List ℕ) (new : ℕ) → broken_rule boxes name (changes.Shift uid to new) ≡ None →
    (is_some (box_at name boxes) ≡ true) × (is_some (box_at to boxes) ≡ true) × (to ≢ name)
both_there boxes name uid to new lawful =
    let hold = rules_hold boxes name (changes.Shift uid to new) lawful in
    let both = and_parts (is_some (box_at name boxes) && is_some (box_at to boxes)) (not (bytes_eq to name)) hold.0 in
    let there = and_parts (is_some (box_at name boxes)) (is_some (box_at to boxes)) both.0 in
    (there.0, there.1, names_apart to name (not-true (bytes_eq to name) both.1))

-- the mailbox that gets the message stays as it was while the message leaves
stays : (boxes : List Mailbox) (name : List ℕ) (uid : ℕ) (to : List ℕ) (b : Mailbox) → to ≢ name → box_at name boxes ≡ Some b →
    box_at to (with_box (dropped uid) name boxes) ≡ box_at to boxes
stays boxes name uid to b apart e =
    let is : b.name ≡ name = box_at-name name boxes b e in
    ap (λ (o : Option Mailbox). box_at to (put_changed (dropped uid) o boxes)) e ∙ box_at-put_other to (dropped uid b) boxes (λ s. apart (sym s ∙ is))

pub target_next : (boxes : List Mailbox) (name : List ℕ) (uid : ℕ) (to : List ℕ) (new : ℕ) (b : Mailbox) (left : List Mailbox) →
    broken_rule boxes name (changes.Shift uid to new) ≡ None → box_at name boxes ≡ Some b →
    left ≡ with_box (dropped uid) name boxes → (c : Mailbox) → box_at to left ≡ Some c → c.highest < 2 ^ 63 - 1
target_next boxes name uid to new b left lawful e is c f =
    let hold = rules_hold boxes name (changes.Shift uid to new) lawful in
    next_from (box_at to boxes) c (and_parts (has_next (box_at name boxes)) (has_next (box_at to boxes)) hold.1.1.1.0).1
    (sym (stays boxes name uid to b (both_there boxes name uid to new lawful).2 e) ∙ sym (ap (box_at to) is) ∙ f)
