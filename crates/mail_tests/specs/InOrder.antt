-- What a caller is told of a mailbox by one session.
use Rattle.std.specs.Prelude.{◌≡◌, ℕ, List, Option, Some, None}
use Rattle.mail_base.specs.declared.tag.Tag.{Tag}
use Rattle.imap_model.specs.CarriedOut.{CarriesOut}
use Rattle.imap_model.specs.declared.command.Command.{Command}
use Rattle.imap_model.specs.declared.command.Command.TheVariants as commands
use Rattle.imap_model.specs.declared.ending.Ending.TheVariants as endings
use Rattle.imap_model.specs.declared.replies.Replies.{Replies}
use Rattle.world_traits.specs.Links.{AnyStep, Any, LinkStep}
use Rattle.world_traits.specs.Moments.{Clock, Became}
use Rattle.imap_session.specs.Session.{waiting_of}

-- At one moment of the time between the server carried out this command, while this was selected, and answered OK.
pub record Answers (selected : Option (List ℕ)) (command : Command) (r : Replies) (old new : Clock) : Type 0 where
  pub tag : Tag
  pub after : Option (List ℕ)
  pub did : Became Any (LinkStep AnyStep)
      (λ m n. CarriesOut (waiting_of selected tag command) m.outside.server r n.outside.server after) old new
  pub accepted : r.ending ≡ endings.Ok

-- The mailbox was selected, and then, while it was, all of it was fetched.
pub record AreInOrder (name : List ℕ) (selected fetched : Replies) (old new : Clock) : Type 0 where
  pub between : Clock
  pub first : Answers None (commands.Select name None) selected old between
  pub second : Answers (Some name) commands.FetchAll fetched between new
