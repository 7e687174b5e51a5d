use Rattle.std.proofs.Common.{ap, subst}
use Rattle.std.specs.List.{AllByRecursion}
use Rattle.server_mem.specs.States.{State}
use Rattle.response_lines.specs.Tellable.{IsAtomic}
use Rattle.server_mem.proofs.AtomNames.{atoms_told}
use Rattle.server_mem.proofs.mem_server.MemServer.spelling.Goals as goal

pub returns-clause-offers : goal.returns-clause-offers
returns-clause-offers c = subst (AllByRecursion IsAtomic) (ap (λ (s : State). s.choices.offers) c.self.view_is)
    (atoms_told c.self.inside.offers c.self.inside.offered)
