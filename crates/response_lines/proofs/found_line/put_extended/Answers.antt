use Rattle.response_lines.proofs.LineFound.{extended_spelled}
use Rattle.response_lines.proofs.WriteSteps.{last_four, on_ok}
use Rattle.response_lines.proofs.found_line.put_extended.Goals as goal

pub returns-clause-text : goal.returns-clause-text
returns-clause-text c =
    last_four c.put_all.result c.args.out.now.items _ _ _ _ _ _ _ _ c.in_ok-put.ensures c.in_ok-put_tag.ensures.text c.in_ok-put-2.ensures
    c.put_all.ensures.text

pub returns-clause-spelled : goal.returns-clause-spelled
returns-clause-spelled c = on_ok c.put_all.result _ (extended_spelled c.args.tag c.args.uids.now c.put_tag.ensures.fits c.put_all.ensures.canonical)
