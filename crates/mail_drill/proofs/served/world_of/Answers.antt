use Rattle.std.proofs.Common.{List, ap, sym, subst}
use Rattle.imap_model.specs.WellFormed.{IsWellFormed}
use Rattle.imap_model.specs.declared.server.Mailbox.{Mailbox}
use Rattle.server_mem.specs.States.{State}
use Rattle.mail_drill.proofs.FirstServer.{well_formed_at_first}
use Rattle.mail_drill.proofs.NewWorld.{new_served, new_world}
use Rattle.mail_drill.proofs.served.world_of.Goals as goal

pub new-requires : goal.new-requires
new-requires c =
    subst (λ (l : List Mailbox). IsWellFormed l) (sym c.in_ok-boxes.ensures) (well_formed_at_first c.args.size c.requires.most)

pub new-requires-4 : goal.new-requires-4
new-requires-4 c = ap (λ (s : State). s.muted) c.in_ok-server.ensures

pub returns : goal.returns
returns c = record {
  new = new_world c.new-4.result c.args.size c.new-2.result c.new-3.result c.in_ok-server.server c.in_ok-boxes.boxes.items c.in_ok-offers.field-0
      c.no_plan.result c.new-4.ensures.run c.new-4.ensures.uncalled c.new-2.ensures c.new-3.ensures c.in_ok-server.ensures c.no_plan.ensures
      (subst (λ (l : List Mailbox). IsWellFormed l) (sym c.in_ok-boxes.ensures) (well_formed_at_first c.args.size c.requires.most))
      c.in_ok-boxes.ensures c.in_ok-offers.ensures;
  served = new_served c.new-4.result c.new-2.result c.new-3.result c.in_ok-server.server c.in_ok-boxes.boxes.items c.in_ok-offers.field-0
      c.no_plan.result c.new-4.ensures.run c.new-4.ensures.line c.new-4.ensures.uncalled c.new-2.ensures c.new-3.ensures c.in_ok-server.ensures
      c.in_ok-offers.ensures;
}
