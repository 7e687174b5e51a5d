use Rattle.std.proofs.Common.{◌≡◌}
use Rattle.journal_core.specs.declared.fault.Place9.TheVariants as places
use Rattle.store_core.proofs.FirstRecord.{lettered_first, unlettered_undue, first_so, unfirst_undue, if_enters}
use Rattle.store_core.proofs.opening.begun_by.Goals as goal

pub returns-then-not-is_lettered-clause-broken : goal.returns-then-not-is_lettered-clause-broken
returns-then-not-is_lettered-clause-broken c why is =
    let record_is : why ≡ places.Record c.args.at = cc in
    (record_is, λ version. unlettered_undue version _ _ c.is_lettered.ensures c.if-not-is_lettered.true)

pub returns-in-Err-Memory-clause-memory : goal.returns-in-Err-Memory-clause-memory
returns-in-Err-Memory-clause-memory c is event spelled = lettered_first _ (c.is_lettered.ensures.0 c.if-not-is_lettered.false) event spelled

pub begun_with-requires : goal.begun_with-requires
begun_with-requires c = c.in-Ok.ensures.value.writable

pub returns-in-Ok-clause-value : goal.returns-in-Ok-clause-value
returns-in-Ok-clause-value c version = if_enters version _ _ c.in-Ok.event c.in-Ok.ensures.value c.begun_with.ensures.value

pub returns-in-Ok-clause-broken : goal.returns-in-Ok-clause-broken
returns-in-Ok-clause-broken c why is =
    let b = c.begun_with.ensures.broken why is in (b.0, λ version. unfirst_undue version _ c.in-Ok.event c.in-Ok.ensures.value b.1)

pub returns-in-Ok-clause-memory : goal.returns-in-Ok-clause-memory
returns-in-Ok-clause-memory c is event spelled = first_so _ c.in-Ok.event c.in-Ok.ensures.value (c.begun_with.ensures.memory is) event spelled

pub returns-in-Ok-clause-made : goal.returns-in-Ok-clause-made
returns-in-Ok-clause-made c version = c.begun_with.ensures.made version
