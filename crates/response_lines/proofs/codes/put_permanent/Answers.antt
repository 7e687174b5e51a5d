use Rattle.response_lines.proofs.LineCodes.{inside_permanent}
use Rattle.response_lines.proofs.WriteSteps.{last_three, on_ok}
use Rattle.response_lines.proofs.codes.put_permanent.Goals as goal

pub returns-clause-fits : goal.returns-clause-fits
returns-clause-fits c = on_ok c.put-2.result _ (inside_permanent c.args.flags.now c.args.any c.put_all_flags.ensures.set c.requires)

pub returns-clause-text : goal.returns-clause-text
returns-clause-text c = last_three c.put-2.result c.args.out.now.items _ _ _ _ _ _ c.in_ok-put.ensures c.in_ok-put_all_flags.ensures.text c.put-2.ensures
