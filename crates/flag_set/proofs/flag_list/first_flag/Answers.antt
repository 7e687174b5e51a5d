use Rattle.std.proofs.Common.{◌∷◌, ap, sym, ◌∙◌}
use Rattle.flag_set.specs.FlagList.{pieces}
use Rattle.flag_set.proofs.Pieces.{behind, behind_none, behind_some, parts, tail_is}
use Rattle.flag_set.proofs.flag_list.first_flag.Goals as goal

pub returns-in-empty-clause-parts : goal.returns-in-empty-clause-parts
returns-in-empty-clause-parts c =
    parts _ _ _ _ c.flag_len.ensures.len c.split_at.ensures.front c.split_at.ensures.back
    ∙ ap (λ l. c.split_at.result.0.now ∷ l) (behind_none _ c.in-empty.len_below)

pub returns-in-len1-up-clause-parts : goal.returns-in-len1-up-clause-parts
returns-in-len1-up-clause-parts c =
    parts _ _ _ _ c.flag_len.ensures.len c.split_at.ensures.front c.split_at.ensures.back
    ∙ ap (λ l. c.split_at.result.0.now ∷ l)
    (behind_some _ c.in-len1-up.len_at_least
    ∙ ap pieces (ap behind (sym (tail_is _ c.in-len1-up.len_at_least)) ∙ sym c.without_spaces.ensures))
