use Rattle.std.proofs.Common.{refl, ap}
use Rattle.journal_core.specs.Standing.{Standing}
use Rattle.journal_core.proofs.Nexting.{whole_next, torn_next, record_there, first_some, still_some}
use Rattle.journal_core.proofs.Looking.{looks_then}
use Rattle.journal_core.proofs.journal.Journal.next.Goals as goal

pub returns-in_err-body-in-Ok-Whole-clause-told : goal.returns-in_err-body-in-Ok-Whole-clause-told
returns-in_err-body-in-Ok-Whole-clause-told g c tells = looks_then _ _ _ _ _ _ (c.read_front.ensures.told tells) (c.read_there.ensures.told tells)

pub returns-in_err-body-in-Ok-Whole-clause-memory : goal.returns-in_err-body-in-Ok-Whole-clause-memory
returns-in_err-body-in-Ok-Whole-clause-memory g c tells is =
    record_there _ _ _ _ _ c.self.view_is c.in-Ok-Whole.field-0-is (c.in-Ok-Whole.ensures.value tells)

pub returns-in-Ok-Torn-clause-value : goal.returns-in-Ok-Torn-clause-value
returns-in-Ok-Torn-clause-value g c tells = torn_next _ _ _ _ c.self.view_is c.in-Ok-Torn.field-0-is (c.in-Ok-Torn.ensures.value tells)

pub returns-in_ok-body-in-Ok-Whole-clause-value : goal.returns-in_ok-body-in-Ok-Whole-clause-value
returns-in_ok-body-in-Ok-Whole-clause-value g c tells = whole_next _ _ _ _ _ _ _ _ c.self.view_is
    (c.read_front.ensures.told tells).seen_same c.in-Ok-Whole.field-0-is (c.in-Ok-Whole.ensures.value tells)
    (λ _. c.in_ok-body-in-Ok-Whole.ensures.value tells) refl

pub returns-in_ok-body-in-Ok-Whole-clause-first : goal.returns-in_ok-body-in-Ok-Whole-clause-first
returns-in_ok-body-in-Ok-Whole-clause-first g c tells bodies from =
    let s = whole_next _ _ _ _ _ _ _ _ c.self.view_is (c.read_front.ensures.told tells).seen_same c.in-Ok-Whole.field-0-is
    (c.in-Ok-Whole.ensures.value tells) (λ _. c.in_ok-body-in-Ok-Whole.ensures.value tells) refl in
    first_some _ _ _ bodies from _ s.0 (ap (λ (j : Standing). j.place) s.1)

pub returns-in_ok-body-in-Ok-Whole-clause-still : goal.returns-in_ok-body-in-Ok-Whole-clause-still
returns-in_ok-body-in-Ok-Whole-clause-still g c tells bodies still =
    let s = whole_next _ _ _ _ _ _ _ _ c.self.view_is (c.read_front.ensures.told tells).seen_same c.in-Ok-Whole.field-0-is
    (c.in-Ok-Whole.ensures.value tells) (λ _. c.in_ok-body-in-Ok-Whole.ensures.value tells) refl in
    still_some _ bodies _ _ _ _ still (looks_then _ _ _ _ _ _ (c.read_front.ensures.told tells) (c.in_ok-body-in-Ok-Whole.ensures.told tells)) _ _ s.1 s.0

pub returns-in_ok-body-in-Ok-Whole-clause-told : goal.returns-in_ok-body-in-Ok-Whole-clause-told
returns-in_ok-body-in-Ok-Whole-clause-told g c tells = looks_then _ _ _ _ _ _ (c.read_front.ensures.told tells) (c.in_ok-body-in-Ok-Whole.ensures.told tells)
