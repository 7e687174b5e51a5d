use Rattle.std.proofs.Common.{◌++◌, ◌∙◌, ap}
use Rattle.base64.specs.Engines.{standard}
use Rattle.imap_model.specs.CommandText.{response_of}
use Rattle.imap_command.proofs.Chains.{encoded, message_is}
use Rattle.imap_command.proofs.words.response.Goals as goal

pub returns : goal.returns
unfolding response_of
returns c =
    encoded standard c.encode.result c.deref.result.now _
    (message_is _ _ _ _ _ _ _ c.new-message.ensures.items c.in_ok-push.ensures.items
    (c.in_ok-extend_from_slice.ensures.items ∙ ap (λ x. c.push.new.self.items ++ x)
    (c.as_bytes.ensures.value ∙ c.user.ensures.text)) c.in_ok-push-2.ensures.items
    (c.deref.ensures.value ∙ c.in_ok-extend_from_slice-2.ensures.items
    ∙ ap (λ x. c.push-2.new.self.items ++ x) (c.as_bytes-2.ensures.value ∙ c.password.ensures.text)))
    c.encode.ensures.text
