use Rattle.command_texts.proofs.first_word.count_tag.Goals as goal

pub returns-in-Some : goal.returns-in-Some
returns-in-Some c = c.in-Some.ensures.some 67
