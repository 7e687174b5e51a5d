-- At CLOSED it begins anew, and else it stands for one response more.
use Rattle.std.proofs.Common.{◌++◌, ◌∷◌, [], sym, ◌∙◌, subst}
use Rattle.std.proofs.lemmas.Result.{on_ok_weaker}
use Rattle.qresync_core.specs.Making.{StandsFor}
use Rattle.qresync_core.specs.declared.maker.DeltaMaker.{DeltaMaker}
use Rattle.qresync_core.proofs.MakerStands.{stands_anew, stands_on}
use Rattle.qresync_core.proofs.maker.DeltaMakerListen.take.Goals as goal

pub returns-then-is_closed-clause-taken : goal.returns-then-is_closed-clause-taken
returns-then-is_closed-clause-taken c = λ list stands.
    subst (λ (made : DeltaMaker). StandsFor made (list ++ c.args.response ∷ [])) (sym c.begin_anew.ensures)
    (stands_anew c.args.self.now list c.args.response stands (sym c.is_closed.ensures ∙ c.if-is_closed.true))

pub returns-clause-taken : goal.returns-clause-taken
returns-clause-taken c = λ list stands.
    on_ok_weaker c.note.result
    (stands_on c.args.self.now c.note.new.self list c.args.response stands (sym c.is_closed.ensures ∙ c.if-is_closed.false)) c.note.ensures.taken
