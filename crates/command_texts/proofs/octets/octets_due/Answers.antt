use Rattle.std.proofs.Common.{ℕ, List, [], ◌∷◌, subst}
use Rattle.command_texts.specs.DueOctets.{TellsDue}
use Rattle.command_texts.proofs.DueEnds.{tells_last}
use Rattle.command_texts.proofs.octets.octets_due.Goals as goal

pub returns-in-Some : goal.returns-in-Some
returns-in-Some c = tells_last c.args.parts.now c.in-Some.field-0-1.now c.in-Some.part.now c.due_behind.result c.in-Some.ensures.cases.0
    (subst (λ (t : List ℕ). TellsDue (t ∷ []) c.due_behind.result) c.as_slice.ensures c.due_behind.ensures)
