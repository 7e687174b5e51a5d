use Rattle.std.proofs.Common.{◌∙◌, ap}
use Rattle.mail_top.specs.Telling.{status_of}
use Rattle.look_run.specs.Telling.{letter_status}
use Rattle.look_run.proofs.Letters.{history_seen, history_disk, history_words, history_output, history_reason}
use Rattle.look_run.proofs.Letters.{letter_seen, letter_disk, letter_words, letter_output}
use Rattle.look_run.proofs.running.look_at.Goals as goal

pub returns-in-History-clause-ends : goal.returns-in-History-clause-ends
returns-in-History-clause-ends g c tells =
    history_seen _ _ _ _ c.in-History.is _ c.ending_of_text.ensures.status c.ending_of_text.ensures.text (c.show_book.ensures.ends tells)

pub returns-in-History-clause-not_output : goal.returns-in-History-clause-not_output
returns-in-History-clause-not_output g c is = history_output _ _ c.ending_of_text.ensures.status is

pub returns-in-History-clause-not_words : goal.returns-in-History-clause-not_words
returns-in-History-clause-not_words g c is = history_words _ _ c.ending_of_text.ensures.status is

pub returns-in-History-clause-reason : goal.returns-in-History-clause-reason
returns-in-History-clause-reason g c is = absurd (history_reason _ _ c.ending_of_text.ensures.status c.show_book.ensures.only is)

pub returns-in-History-clause-cause : goal.returns-in-History-clause-cause
returns-in-History-clause-cause g c is = c.show_book.ensures.cause (history_disk _ _ c.ending_of_text.ensures.status is)

pub returns-in-Letter-clause-ends : goal.returns-in-Letter-clause-ends
returns-in-Letter-clause-ends g c tells =
    letter_seen _ _ _ _ _ c.in-Letter.is _ c.ending_of_letter.ensures.status c.ending_of_letter.ensures.text (c.show_book-in-Letter.ensures.ends tells)

pub returns-in-Letter-clause-not_output : goal.returns-in-Letter-clause-not_output
returns-in-Letter-clause-not_output g c is = letter_output _ _ c.ending_of_letter.ensures.status is

pub returns-in-Letter-clause-not_words : goal.returns-in-Letter-clause-not_words
returns-in-Letter-clause-not_words g c is = letter_words _ _ c.ending_of_letter.ensures.status is

pub returns-in-Letter-clause-reason : goal.returns-in-Letter-clause-reason
returns-in-Letter-clause-reason g c is = (_, c.in-Letter.is)

pub returns-in-Letter-clause-cause : goal.returns-in-Letter-clause-cause
returns-in-Letter-clause-cause g c is = c.show_book-in-Letter.ensures.cause (letter_disk _ _ c.ending_of_letter.ensures.status is)

pub returns-in-History-clause-unfailed : goal.returns-in-History-clause-unfailed
returns-in-History-clause-unfailed g c other =
    c.show_book.ensures.unfailed (λ is. other (c.ending_of_text.ensures.status ∙ ap status_of is))

pub returns-in-Letter-clause-unfailed : goal.returns-in-Letter-clause-unfailed
returns-in-Letter-clause-unfailed g c other =
    c.show_book-in-Letter.ensures.unfailed (λ is. other (c.ending_of_letter.ensures.status ∙ ap letter_status is))
