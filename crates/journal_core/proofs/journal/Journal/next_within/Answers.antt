use Rattle.std.proofs.Common.{◌<◌, length, refl, ap, arith}
use Rattle.journal_core.specs.Standing.{Standing}
use Rattle.journal_core.proofs.Looking.{looks_then}
use Rattle.journal_core.proofs.Few.{shut_first, few_stand, first_few, still_few, advances}
use Rattle.journal_core.proofs.journal.Journal.next_within.Goals as goal

pub returns-then-is_shut-clause-first : goal.returns-then-is_shut-clause-first
returns-then-is_shut-clause-first g c tells bodies from =
    shut_first _ _ _ _ _ c.self.view_is (c.in_ok-piece.ensures.value tells).is _ bodies c.as_slice.ensures
    (c.in_ok-piece.ensures.value tells).some (c.is_shut.ensures.shut c.if-is_shut.true) from

pub returns-then-len-eq0-clause-told : goal.returns-then-len-eq0-clause-told
returns-then-len-eq0-clause-told g c tells = looks_then _ _ _ _ _ _ (c.in_ok-piece.ensures.told tells) (c.next_alone.ensures.told tells)

pub returns-clause-value : goal.returns-clause-value
returns-clause-value g c tells =
    let some : 0 < length c.in_ok-few.few = omega arith in
    let s = few_stand _ _ _ _ _ c.self.view_is (c.in_ok-piece.ensures.value tells).is _ _ _ c.in_ok-few.ensures.stand c.in_ok-few.ensures.size refl in
    (some, s.0, s.1)

pub returns-clause-first : goal.returns-clause-first
returns-clause-first g c tells bodies from =
    let s = few_stand _ _ _ _ _ c.self.view_is (c.in_ok-piece.ensures.value tells).is _ _ _ c.in_ok-few.ensures.stand c.in_ok-few.ensures.size refl in
    first_few _ bodies _ _ _ from s.0 (ap (λ (j : Standing). j.place) s.1)

pub returns-clause-still : goal.returns-clause-still
returns-clause-still g c tells bodies still =
    let s = few_stand _ _ _ _ _ c.self.view_is (c.in_ok-piece.ensures.value tells).is _ _ _ c.in_ok-few.ensures.stand c.in_ok-few.ensures.size refl in
    still_few _ bodies _ _ _ _ _ _ still (c.in_ok-piece.ensures.told tells) s.0 s.1

pub returns-clause-goes : goal.returns-clause-goes
returns-clause-goes g c = (
  tt,
  omega arith,
  advances _ _ _ _ c.self.view_is c.in_ok-few.ensures.size,
  tt,
  ap (λ (j : Standing). j.failed) c.self.view_is,
  ap (λ (j : Standing). j.version) c.self.view_is,
)
