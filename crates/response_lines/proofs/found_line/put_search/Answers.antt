use Rattle.response_lines.proofs.LineFound.{search_spelled}
use Rattle.response_lines.proofs.WriteSteps.{on_ok}
use Rattle.response_lines.proofs.found_line.put_search.Goals as goal

pub returns-clause-spelled : goal.returns-clause-spelled
returns-clause-spelled c = on_ok c.put_members.result _ (search_spelled c.args.tag c.args.uids.now c.ranges-2.ensures.canonical)
