-- The law, by its lemma.
use Rattle.qresync_core.proofs.Replying.{selecting, codes_true}
use Rattle.qresync_core.proofs.laws.codes_mirror.Goals as goal

pub returns : goal.returns
returns c = λ name since box selected answers. codes_true since box selected (selecting name since box selected answers)
