use Rattle.std.proofs.Common.{length, unwrap_or, ap, ◌∙◌}
use Rattle.flag_set.proofs.Pieces.{place_or_len}
use Rattle.flag_set.proofs.flag_list.flag_len.Goals as goal

pub returns-clause-len : goal.returns-clause-len
returns-clause-len c = c.unwrap_or.ensures ∙ ap (λ o. unwrap_or o (length c.args.text.now)) c.first_space.ensures ∙ place_or_len _ c.args.text.now
