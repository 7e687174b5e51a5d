use Rattle.std.proofs.Common.{◌∙◌, sym}
use Rattle.server_mem.proofs.Fielding.{text_of_fields}
use Rattle.server_mem.proofs.headers.id_fields.Goals as goal

pub returns : goal.returns
returns c = c.in_ok-told.ensures ∙ sym (text_of_fields c.args.text.now)
