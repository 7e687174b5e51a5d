use Rattle.std.proofs.Common.{◌≡◌, ℕ, List, [], None, IfOk, refl, rules, subst}
use Rattle.world_traits.specs.Files.{file_of}
use Rattle.action_queue.specs.Book.{meaning}
use Rattle.journal_core.specs.declared.fault.Place9.TheVariants as places
use Rattle.journal_core.specs.Reading.{HasRecord}
use Rattle.store_core.specs.Mail.{mail}
use Rattle.store_core.specs.Broken.{IsUndue}
use Rattle.store_core.specs.Reading.{Enters}
use Rattle.store_core.proofs.Folding.{make_none}
use Rattle.store_core.proofs.Entering.{torn_behind, missing_here, undue_behind, body_stands, gate_closed, if_reads_first}
use Rattle.store_core.proofs.FirstRecord.{on_any}
use Rattle.store_core.proofs.opening.read_begin.Goals as goal

pub returns-in_err-body-clause-broken : goal.returns-in_err-body-clause-broken
returns-in_err-body-clause-broken g c tells still why is =
    torn_behind mail None [] c.args.journal.now (make_none mail c.args.journal.now.version) _ _ still c.next.new.self _ why (search rules)
    (c.in_err-body.ensures.value tells)

pub returns-in_default-clause-broken : goal.returns-in_default-clause-broken
returns-in_default-clause-broken g c tells still why is =
    let record_is : why ≡ places.Record c.place-at.result = cc in
    missing_here mail None [] c.args.journal.now (make_none mail c.args.journal.now.version) _ _ still refl
    (gate_closed c.args.journal.now c.next.new.self (file_of c.args.journal.now.side (g.D.Disk.seen c.args.disk.now)) _ c.in_default.is
    (c.in_ok-body.ensures.value tells)) c.place-at.result why c.place-at.ensures record_is

pub returns-clause-broken : goal.returns-clause-broken
returns-clause-broken g c tells still why is =
    let b = c.begun_by.ensures.broken why is in
    undue_behind mail None [] c.args.journal.now (make_none mail c.args.journal.now.version) _ _ still c.in-Some.body c.place-at.result why
    c.place-at.ensures b.0 (body_stands _ _ _ _ c.in-Some.body c.in-Some.is (c.in_ok-body.ensures.value tells))
    (subst (IsUndue mail c.args.journal.now.version None) c.as_slice.ensures (b.1 c.args.journal.now.version))

pub returns-clause-value : goal.returns-clause-value
returns-clause-value g c tells still =
    if_reads_first c.args.journal.now.version _ c.in-Some.body _ _ _ (rw c.in-Some.is at c.in_ok-body.ensures.still tells [] still) c.next.ensures.version
    (subst (λ (b : List ℕ). IfOk c.begun_by.result (λ book. Enters mail c.args.journal.now.version None b (meaning book)))
    c.as_slice.ensures (c.begun_by.ensures.value c.args.journal.now.version))

pub returns-in_err-body-clause-memory : goal.returns-in_err-body-clause-memory
returns-in_err-body-clause-memory g c tells is = c.next.ensures.memory tells (search rules)

pub returns-clause-stands : goal.returns-clause-stands
returns-clause-stands g c tells =
    let there : HasRecord c.args.journal.now.place (file_of c.args.journal.now.side (g.D.Disk.seen c.args.disk.now)) = record {
      body = c.in-Some.body;
      stands = body_stands _ _ _ _ c.in-Some.body c.in-Some.is (c.in_ok-body.ensures.value tells);
    } in
    on_any c.begun_by.result _ there

pub returns-clause-memory : goal.returns-clause-memory
returns-clause-memory g c tells is = record {
  body = c.in-Some.body;
  stands = body_stands _ _ _ _ c.in-Some.body c.in-Some.is (c.in_ok-body.ensures.value tells);
}

pub returns-clause-made : goal.returns-clause-made
returns-clause-made g c version = c.begun_by.ensures.made version
