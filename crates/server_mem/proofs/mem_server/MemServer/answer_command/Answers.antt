use Rattle.std.proofs.Common.{◌∙◌, subst, sym, ap, List}
use Rattle.imap_model.specs.Lines.{AreLines}
use Rattle.imap_model.specs.declared.response.Response.{Response}
use Rattle.imap_model.specs.declared.server.Server.{Server}
use Rattle.server_mem.specs.States.{turn_at}
use Rattle.server_mem.specs.Well.{Well}
use Rattle.server_mem.proofs.AnswerSteps.{command_tellable, dropped, entered}
use Rattle.server_mem.proofs.StepTexts.{command_told}
use Rattle.server_mem.proofs.TurnWell.{turn_well}
use Rattle.server_mem.proofs.mem_server.MemServer.answer_command.Goals as goal

pub lines-requires : goal.lines-requires
lines-requires c = λ offers. command_tellable c.args.self.now c.args.tag c.args.command c.args.self.now.parts _ offers c.requires
    (c.as_slice.ensures.value ∙ c.in_ok-told.ensures.told)

pub enter-requires : goal.enter-requires
enter-requires c = subst (λ (t : Server). Well t.boxes) (sym c.in_ok-told.ensures.server)
    (turn_well c.args.self.now c.args.tag c.args.command c.in_ok-told.ensures.well)

pub returns-clause-answered : goal.returns-clause-answered
returns-clause-answered c = record {
  may = c.requires;
  after =
      let turn = turn_at c.args.self.now c.args.tag c.args.command in
      c.drop_parts.ensures ∙ ap dropped (entered c.args.self.now c.enter.new.self _ _ turn c.in_ok-told.ensures.server
      c.in_ok-told.ensures.selected c.in_ok-enter.ensures.done);
  lines = subst (λ (l : List Response). AreLines l c.in_ok-lines.lines.items) (c.as_slice.ensures.value ∙ c.in_ok-told.ensures.told)
      c.in_ok-lines.ensures.spelled;
  text = command_told c.args.self.now c.args.tag c.args.command _ _ _ _ _ c.in_ok-lines.lines.items c.messages_in-messages.ensures c.boxes_behind.ensures
      c.in_ok-told.ensures.server c.in_ok-told.ensures.selected (c.as_slice.ensures.value ∙ c.in_ok-told.ensures.told) c.in_ok-lines.ensures.text;
}
