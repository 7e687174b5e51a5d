use Rattle.std.proofs.Common.{ap, sym, ◌∙◌, Some}
use Rattle.record_codec.proofs.Ids.{id_told, none_told}
use Rattle.record_codec.proofs.reading.actions.id_of.Goals as goal

pub returns-in-Ok-clause-some : goal.returns-in-Ok-clause-some
returns-in-Ok-clause-some c = id_told c.args.text.now c.in-Ok.id.items c.in-Ok.ensures.value ∙ ap Some (sym c.of.ensures)

pub returns-in_default : goal.returns-in_default
returns-in_default c = record {
  some = tt;
  none = none_told c.args.text.now (λ id has. c.in_default.not-Memory (c.in-Err.ensures.found id has));
  memory = tt;
}
