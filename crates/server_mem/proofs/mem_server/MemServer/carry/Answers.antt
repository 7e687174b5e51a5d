use Rattle.std.proofs.Common.{◌≡◌, subst, sym}
use Rattle.imap_model.specs.CarriedOut.{CarriesOut}
use Rattle.imap_model.specs.declared.server.Server.{Server}
use Rattle.server_mem.specs.States.{State, turn_at, after_turn}
use Rattle.server_mem.specs.Well.{Well}
use Rattle.server_mem.proofs.AnswerSteps.{entered}
use Rattle.server_mem.proofs.TurnWell.{turn_lawful, turn_well}
use Rattle.server_mem.proofs.mem_server.MemServer.carry.Goals as goal

pub enter-requires : goal.enter-requires
enter-requires c = subst (λ (t : Server). Well t.boxes) (sym c.in_ok-told.ensures.server)
    (turn_well c.args.self.now c.args.tag c.args.command.now c.in_ok-told.ensures.well)

pub returns-clause-lawful : goal.returns-clause-lawful
returns-clause-lawful c = λ loud.
    let turned : c.enter.new.self ≡ after_turn c.args.self.now (turn_at c.args.self.now c.args.tag c.args.command.now) =
    entered c.args.self.now c.enter.new.self _ _ (turn_at c.args.self.now c.args.tag c.args.command.now) c.in_ok-told.ensures.server
    c.in_ok-told.ensures.selected c.in_ok-enter.ensures.done in
    subst (λ (t : State). CarriesOut (record { selected = c.args.self.now.selected; tag = c.args.tag; command = c.args.command.now }) c.args.self.now.server
    (turn_at c.args.self.now c.args.tag c.args.command.now).replies t.server t.selected) (sym turned)
    (turn_lawful c.args.self.now c.args.tag c.args.command.now c.in_ok-told.ensures.well loud)
