use Rattle.std.proofs.Common.{[], ◌++◌, ◌∙◌}
use Rattle.imap_model.specs.CommandParts.{crlf}
use Rattle.imap_model.specs.CommandText.{response_of}
use Rattle.command_texts.proofs.AccountReading.{message, message_bytes, response_is, first_same_parts}
use Rattle.command_texts.proofs.reading.accounts.responded.Goals as goal

pub returns-in_default-2 : goal.returns-in_default-2
returns-in_default-2 c = λ a held is.
    let part = first_same_parts _ _ (response_of a ++ crlf) _ [] c.in-Some.ensures.cases is in
    let text = c.without_end.ensures (response_of a) (c.as_slice.ensures ∙ part) in
    let found = c.in_ok-bytes.ensures (message a) (message_bytes a held.kept) (text ∙ response_is a) in
    absurd (rw c.in_default-2.is at found)

pub returns : goal.returns
returns c = λ a held is.
    let part = first_same_parts _ _ (response_of a ++ crlf) _ [] c.in-Some.ensures.cases is in
    let text = c.without_end.ensures (response_of a) (c.as_slice.ensures ∙ part) in
    let found = c.in_ok-bytes.ensures (message a) (message_bytes a held.kept) (text ∙ response_is a) in
    let bytes = rw c.in-Some-2.is at found in
    c.named.ensures a held (c.deref.ensures.value ∙ bytes)
