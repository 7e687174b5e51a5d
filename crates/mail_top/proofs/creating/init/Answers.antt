use Rattle.std.proofs.Common.{◌∙◌, subst, sym, refl}
use Rattle.std.specs.Prelude.{map, string_bytes}
use Rattle.mail_base.specs.Lines.{ready}
use Rattle.journal_core.proofs.AtRest.{each_none}
use Rattle.journal_core.proofs.HeldBodies.{narrowed}
use Rattle.action_queue.specs.Events.{AreNames}
use Rattle.mail_top.specs.Names.{name_of}
use Rattle.mail_top.specs.Words.{Init}
use Rattle.mail_top.proofs.AnyServers.{narrows_start}
use Rattle.mail_top.proofs.Beginnings.{uncreated_named, created_named, keeps_named, steps_named, out_of_memory}
use Rattle.mail_top.proofs.Moving.{steps_none, left_now, left_start, left_none}
use Rattle.mail_top.proofs.Openings.{never_err, store_disk, store_failed}
use Rattle.mail_top.proofs.creating.init.Goals as goal

pub returns-in_err-names-clause-ends : goal.returns-in_err-names-clause-ends
returns-in_err-names-clause-ends g c tells = out_of_memory _ _ _ _ _ _ c.from_residual.ensures.1

pub returns-in_err-names-clause-keeps : goal.returns-in_err-names-clause-keeps
returns-in_err-names-clause-keeps g c tells =
    left_none (Init (map name_of (map string_bytes c.args.texts.now))) (g.D.Clocked.clock c.args.disk.now).now (g.D.Disk.seen c.args.disk.now) _

pub returns-in_err-names-clause-books : goal.returns-in_err-names-clause-books
returns-in_err-names-clause-books g c tells one books have = steps_none _ _

pub returns-in_err-names-clause-each_one_side : goal.returns-in_err-names-clause-each_one_side
returns-in_err-names-clause-each_one_side g c tells one = each_none _

pub returns-in_err-names-clause-taken : goal.returns-in_err-names-clause-taken
returns-in_err-names-clause-taken g c tells is = narrows_start _

pub init-requires : goal.init-requires
init-requires g c = subst AreNames (sym c.in_ok-names.ensures) c.requires.names

pub returns-in_err-_store-clause-ends : goal.returns-in_err-_store-clause-ends
returns-in_err-_store-clause-ends g c tells =
    uncreated_named c.in_ok-names.names _ c.in_ok-names.ensures
    (record {
      old = g.D.Clocked.clock c.args.disk.now;
      new = g.D.Clocked.clock c.init.new.disk;
      seen = g.D.Disk.seen c.args.disk.now;
      seen_after = g.D.Disk.seen c.init.new.disk;
      link = g.D.Clocked.link c.args.disk.now;
      link_after = g.D.Clocked.link c.init.new.disk;
    })
    c.init.result c.from_residual-in_err-_store.result _ c.in_err-_store.was c.from_residual-in_err-_store.ensures.1 (λ _. ready)
    (left_now (Init c.in_ok-names.names) (g.D.Disk.seen c.args.disk.now) _ _ (left_start (Init c.in_ok-names.names) (g.D.Disk.seen c.args.disk.now) _)
    (keeps_named c.in_ok-names.names c.in_ok-names.names refl _ (g.D.Disk.seen c.args.disk.now) _ _ (c.init.ensures.moments tells).held))
    (λ no_disk.
    let kept = c.in_err-_store.ensures.kept tells refl (λ is. no_disk (c.in_err-_store.was ∙ is)) in
    record { leaves = narrowed _ _ kept.0; reads = kept.1 }) (c.init.ensures.already tells) c.init.ensures.not_full (c.init.ensures.header tells)

pub returns-in_err-_store-clause-keeps : goal.returns-in_err-_store-clause-keeps
returns-in_err-_store-clause-keeps g c tells =
    keeps_named _ _ c.in_ok-names.ensures _ (g.D.Disk.seen c.args.disk.now) _ _ (c.init.ensures.moments tells).held

pub returns-in_err-_store-clause-books : goal.returns-in_err-_store-clause-books
returns-in_err-_store-clause-books g c tells one books have =
    steps_named _ _ c.in_ok-names.ensures _ _ c.requires.names ((c.init.ensures.moments tells).begins one books have)

pub returns-in_err-_store-clause-cause : goal.returns-in_err-_store-clause-cause
returns-in_err-_store-clause-cause g c is = c.init.ensures.blames.cause (store_disk _ _ _ c.in_err-_store.was c.from_residual-in_err-_store.ensures.1 is)

pub returns-in_err-_store-clause-unfailed : goal.returns-in_err-_store-clause-unfailed
returns-in_err-_store-clause-unfailed g c other =
    c.init.ensures.blames.unfailed (λ is. other (store_failed _ _ _ c.in_err-_store.was c.from_residual-in_err-_store.ensures.1 is))

pub returns-clause-unfailed : goal.returns-clause-unfailed
returns-clause-unfailed g c other = c.in_ok-_store.ensures.blames.unfailed (never_err _ _)

pub returns-clause-ends : goal.returns-clause-ends
returns-clause-ends g c tells =
    created_named _ _ c.in_ok-names.ensures
    (record {
      old = g.D.Clocked.clock c.args.disk.now;
      new = g.D.Clocked.clock c.init.new.disk;
      seen = g.D.Disk.seen c.args.disk.now;
      seen_after = g.D.Disk.seen c.init.new.disk;
      link = g.D.Clocked.link c.args.disk.now;
      link_after = g.D.Clocked.link c.init.new.disk;
    })
    _ c.in_ok-_store.ensures.value (c.in_ok-_store.ensures.still tells) (c.in_ok-_store.ensures.unbegun tells)

pub returns-clause-keeps : goal.returns-clause-keeps
returns-clause-keeps g c tells = keeps_named _ _ c.in_ok-names.ensures _ (g.D.Disk.seen c.args.disk.now) _ _ (c.init.ensures.moments tells).held

pub returns-clause-books : goal.returns-clause-books
returns-clause-books g c tells one books have =
    steps_named _ _ c.in_ok-names.ensures _ _ c.requires.names ((c.init.ensures.moments tells).begins one books have)

pub returns-in_err-_store-clause-taken : goal.returns-in_err-_store-clause-taken
returns-in_err-_store-clause-taken g c tells is = c.init.ensures.taken tells is

pub returns-clause-taken : goal.returns-clause-taken
returns-clause-taken g c tells is = c.init.ensures.taken tells is
