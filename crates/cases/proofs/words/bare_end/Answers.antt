use Rattle.std.proofs.Common.{length, unwrap_or, ap, ◌∙◌}
use Rattle.flag_set.proofs.Pieces.{place_or_len}
use Rattle.cases.proofs.words.bare_end.Goals as goal

pub returns-clause-value : goal.returns-clause-value
returns-clause-value c = c.unwrap_or.ensures ∙ ap (λ o. unwrap_or o (length c.args.text.now)) c.first_other.ensures ∙ place_or_len _ c.args.text.now
