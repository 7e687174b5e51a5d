use Rattle.std.proofs.Common.{rules}
use Rattle.journal_core.proofs.HeadBytes.{no_word}
use Rattle.journal_core.proofs.version.version_in.Goals as goal

pub returns-clause-none : goal.returns-clause-none
returns-clause-none c is = no_word c.args.word.now (search rules) (search rules)
