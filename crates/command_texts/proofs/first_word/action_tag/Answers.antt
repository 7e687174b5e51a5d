use Rattle.command_texts.proofs.TagNames.{second_of, strange_action, third_of}
use Rattle.command_texts.proofs.first_word.action_tag.Goals as goal

pub returns-in-Some : goal.returns-in-Some
returns-in-Some c = c.in-Some.ensures.some 80

pub returns-in-Some-number_before : goal.returns-in-Some-number_before
returns-in-Some-number_before c = second_of c.in-Some-number_before.id c.args.behind.now c.in-Some-number_before.ensures.some

pub returns-in-Some-number_before-2 : goal.returns-in-Some-number_before-2
returns-in-Some-number_before-2 c = third_of c.in-Some-number_before-2.id c.args.behind.now c.in-Some-number_before-2.ensures.some

pub returns-in-None : goal.returns-in-None
returns-in-None c = strange_action c.args.behind.now c.in_default.ensures.none c.in_default-number_before.ensures.none c.in-None.ensures.none
