use Rattle.std.proofs.Common.{◌∙◌, sym, ap, List, ℕ}
use Rattle.mail_header.specs.Field.{fields_of}
use Rattle.server_mem.specs.IdFields.{any_holds}
use Rattle.server_mem.proofs.Fielding.{by_fields}
use Rattle.server_mem.proofs.headers.has_in_id.Goals as goal

pub returns : goal.returns
returns c =
    c.in_ok-holds.ensures ∙ ap (λ (p : List ℕ). any_holds p (fields_of c.args.text.now)) (c.deref.ensures.value ∙ c.in_ok-lowered.ensures)
    ∙ sym (by_fields c.args.part.now c.args.text.now)
