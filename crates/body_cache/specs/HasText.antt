-- That a server has a text under a key.
use Rattle.std.specs.Prelude.{◌≡◌, ℕ, List, Some}
use Rattle.imap_model.specs.Lookups.{box_at, message_at}
use Rattle.imap_model.specs.declared.server.Mailbox.{Mailbox}
use Rattle.imap_model.specs.declared.server.Message.{Message}
use Rattle.imap_model.specs.declared.server.Server.{Server}
use Rattle.world_traits.specs.Moments.{Clock}
use Rattle.play_driver.specs.Joining.{Grows}
use Rattle.body_cache.specs.declared.key.Key.{Key}

-- the key's mailbox has the key's UIDVALIDITY, and the message of its UID has this text
pub record HasText (key : Key) (text : List ℕ) (s : Server) : Type 0 where
  pub box : Mailbox
  pub there : box_at key.name s.boxes ≡ Some box
  pub validity : box.validity ≡ key.validity
  pub message : Message
  pub found : message_at key.uid box.messages ≡ Some message
  pub is : message.text ≡ text

-- so it was at a moment of this time
pub record HadText (key : Key) (text : List ℕ) (old new : Clock) : Type 0 where
  pub at : Clock
  pub before : Grows old at
  pub after : Grows at new
  pub has : HasText key text at.now.outside.server
