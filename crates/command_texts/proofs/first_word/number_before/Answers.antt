use Rattle.std.proofs.Common.{decimal}
use Rattle.std.proofs.lemmas.Bool.Decides.{Decides-eqb}
use Rattle.std.proofs.lemmas.Slice.Eq.{strip_suffix_is}
use Rattle.command_texts.proofs.TagNames.{before_none, before_some}
use Rattle.command_texts.proofs.first_word.number_before.Goals as goal

pub returns-in_default-clause-none : goal.returns-in_default-clause-none
returns-in_default-clause-none c = λ number is.
    (rw c.in_default.is at (strip_suffix_is Decides-eqb c.args.text.now c.args.ending.now c.strip_suffix.result c.strip_suffix.ensures.cases))
    (decimal number) is.whole

pub returns-clause-some : goal.returns-clause-some
returns-clause-some c =
    before_some c.in-Some.digits.now c.args.ending.now c.args.text.now c.number_of_tag.result
    (rw c.in-Some.is at (strip_suffix_is Decides-eqb c.args.text.now c.args.ending.now c.strip_suffix.result c.strip_suffix.ensures.cases))
    c.number_of_tag.ensures.some

pub returns-clause-none : goal.returns-clause-none
returns-clause-none c =
    before_none c.in-Some.digits.now c.args.ending.now c.args.text.now c.number_of_tag.result
    (rw c.in-Some.is at (strip_suffix_is Decides-eqb c.args.text.now c.args.ending.now c.strip_suffix.result c.strip_suffix.ensures.cases))
    c.number_of_tag.ensures.none
