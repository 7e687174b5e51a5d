-- What a call that sends a part of a command's text does to the moments (RFC 9051, sections 2.2.1 and 4.3).
use Rattle.std.specs.Prelude.{◌⊎◌, ℕ, List, Result, OnOk, OnErr}
use Rattle.mail_base.specs.declared.tag.Tag.{Tag}
use Rattle.imap_model.specs.Talking.{Answering, arrived}
use Rattle.imap_model.specs.declared.command.Command.{Command}
use Rattle.world_traits.specs.Links.{Linked, becomes}
use Rattle.world_traits.specs.Moments.{Clock}

-- the part arrived whole at some moment of the call
pub record Arrives (tag : Tag) (command : Command) (before : List (List ℕ)) (part : List ℕ) (behind : List (List ℕ)) (old new : Clock) : Type 0 where
  pub at : Clock
  pub first : Linked Answering old at
  pub later : Linked Answering (becomes (arrived tag command before part behind) at) new

-- the part was sent: it arrived, and where the link failed it arrived whole or not
pub record Sent {T E : Type 0} (tag : Tag) (command : Command) (before : List (List ℕ)) (part : List ℕ) (behind : List (List ℕ))
    (old new : Clock) (result : Result T E) : Type 0 where
  pub done : OnOk result (Arrives tag command before part behind old new)
  pub failed : OnErr result (Arrives tag command before part behind old new ⊎ Linked Answering old new)
