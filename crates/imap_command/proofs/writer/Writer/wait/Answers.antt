use Rattle.imap_command.proofs.Chains.{waited}
use Rattle.std.proofs.Common.{ap, ◌∙◌}
use Rattle.imap_command.proofs.writer.Writer.wait.Goals as goal

pub returns : goal.returns
returns c =
    waited c.push.result _ _ _ _ _ _ _ c.self.view_is c.in_ok-extend_from_slice.ensures.items
    (c.of.ensures ∙ ap (λ v. v.items) c.replace-part.ensures.value) (ap (λ v. v.items) c.replace-part.ensures.after ∙ c.requires) c.push.ensures.done
