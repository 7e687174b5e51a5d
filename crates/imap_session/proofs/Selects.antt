-- What is selected behind a SELECT that was answered OK.
use Rattle.std.proofs.Common.{◌≡◌, ℕ, List, Option, Some, subst}
use Rattle.mail_base.specs.declared.tag.Tag.{Tag}
use Rattle.literal_feed.specs.Stream.{Stream}
use Rattle.imap_model.specs.CarriedOut.{Decides, Selects}
use Rattle.imap_model.specs.declared.command.Command.TheVariants as commands
use Rattle.imap_model.specs.declared.ending.Ending.{Ending}
use Rattle.imap_model.specs.declared.ending.Ending.TheVariants as endings
use Rattle.imap_model.specs.declared.mark.Mark.{Mark}
use Rattle.imap_model.specs.declared.replies.Replies.{Replies}
use Rattle.world_traits.specs.LinkState.{Connection}
use Rattle.world_traits.specs.Moments.{Clock}
use Rattle.imap_session.specs.Session.{Answered, Stands, waiting_of}

pub select_stands : (selected : Option (List ℕ)) (tag : Tag) (name : List ℕ) (since : Option Mark) (r : Replies) (old k : Clock)
    (c : Option Connection) (feed : Stream)
    → r.ending ≡ endings.Ok → Answered (waiting_of selected tag (commands.Select name since)) r old k c feed → Stands (Some name) k c feed
select_stands selected tag name since r old k c feed ok a =
    let w = waiting_of selected tag (commands.Select name since) in
    let done : Selects name since w a.became.at.now.outside.server r a.became.to.outside.server a.after =
    subst (λ (e : Ending). Decides e w.command w a.became.at.now.outside.server r a.became.to.outside.server a.after) ok a.became.is.is in
    subst (λ (s : Option (List ℕ)). Stands s k c feed) done.selection a.stands
