-- How a server with its connection goes on while a session sends no command that changes a mailbox (RFC 9051, section 3).
use Rattle.std.specs.Prelude.{◌≡◌, ℕ, false, List, [], Option}
use Rattle.mail_base.specs.declared.tag.Tag.{Tag}
use Rattle.imap_model.specs.Mutating.{is_mutating}
use Rattle.imap_model.specs.Talking.{Peer, Answering, Connecting, Awaits, IsPartOf, arrived}
use Rattle.imap_model.specs.declared.command.Command.{Command}
use Rattle.imap_model.specs.declared.response.Response.{Response}
use Rattle.world_traits.specs.Asking.{Asking}

-- a connection is made, or a question is asked; one call may do so many times
pub data Enquiring (p : Peer) : Peer → Type 0 where
  connecting : {q : Peer} → Connecting p q → Enquiring p q
  asking : {q : Peer} (told : List Response) (tag : Tag) (command : Command) → is_mutating command ≡ false → Asking told tag command p q → Enquiring p q

-- What may happen while this command is sent and answered, once, in a connection in which this is selected: whenever a part of its
-- text arrives, it still is.
pub data AsksUnder (selected : Option (List ℕ)) (told : List Response) (tag : Tag) (command : Command) (p : Peer) : Peer → Type 0 where
  answers : {q : Peer} → Answering p q → AsksUnder selected told tag command p q
  arrives : (before : List (List ℕ)) (part : List ℕ) (behind : List (List ℕ)) → IsPartOf tag command before part behind →
      Awaits tag before p → (before ≡ [] → p.talk.told ≡ told) → p.talk.selected ≡ selected →
      AsksUnder selected told tag command p (arrived tag command before part behind p)
