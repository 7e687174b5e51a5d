use Rattle.imap_command.proofs.Chains.{headed, last_three}
use Rattle.imap_command.proofs.writer.Writer.literal.Goals as goal

pub returns : goal.returns
returns c =
    last_three c.put.result _ _ _ _ _ _ _ (headed _ _ _ _ _ c.self.view_is c.in_ok-push_header.ensures) c.in_ok-wait.ensures c.put.ensures
