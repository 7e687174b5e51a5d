use Rattle.mail_top.proofs.Effects.{effect_told}
use Rattle.mail_top.proofs.runs.reports_tell_the_effect.Goals as goal

pub returns : goal.returns
returns c = effect_told
