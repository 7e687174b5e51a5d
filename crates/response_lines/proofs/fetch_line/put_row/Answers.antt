use Rattle.response_lines.proofs.WriteSteps.{last_five}
use Rattle.response_lines.proofs.fetch_line.put_row.Goals as goal

pub returns-clause-text : goal.returns-clause-text
returns-clause-text c =
    last_five c.put_modseq_item.result c.args.out.now.items _ _ _ _ _ _ _ _ _ _ c.in_ok-put.ensures c.in_ok-put_uid.ensures.text
    c.in_ok-put-2.ensures c.in_ok-put_told_flags.ensures.text c.put_modseq_item.ensures.text
