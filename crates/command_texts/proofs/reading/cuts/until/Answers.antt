use Rattle.std.proofs.Common.{◌∙◌}
use Rattle.command_texts.proofs.Cuts.{before_is, after_is, before_none, after_none, shorter}
use Rattle.command_texts.proofs.reading.cuts.until.Goals as goal

pub returns-clause-cut : goal.returns-clause-cut
returns-clause-cut c = λ word rest all is.
    (c.parted.ensures.before ∙ before_is c.args.mark _ word rest all is, c.parted.ensures.behind ∙ after_is c.args.mark _ word rest all is)

pub returns-clause-missing : goal.returns-clause-missing
returns-clause-missing c = λ all. (c.parted.ensures.before ∙ before_none c.args.mark _ all, c.parted.ensures.behind ∙ after_none c.args.mark _ all)

pub returns-clause-shorter : goal.returns-clause-shorter
returns-clause-shorter c = λ some. rw c.parted.ensures.behind (shorter c.args.mark _ some)
