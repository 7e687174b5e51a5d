-- What is known of a server with its connection while a command of a book is sent and answered, once (RFC 9051, section 2.2.1).
use Rattle.std.specs.Prelude.{◌≡◌, ◌⊎◌, ◌≤◌, ◌<◌, false, List, length, None, Some}
use Rattle.mail_base.specs.declared.tag.Tag.{Tag}
use Rattle.imap_model.specs.Carrying.{Waiting}
use Rattle.imap_model.specs.Mutating.{is_mutating}
use Rattle.imap_model.specs.Talking.{Peer}
use Rattle.imap_model.specs.declared.command.Command.{Command}
use Rattle.imap_model.specs.declared.response.Response.{Response}
use Rattle.imap_model.specs.declared.server.Server.{Server}
use Rattle.store_core.specs.Keeping.{Keeping}
use Rattle.play_driver.specs.Machine.{Machine}

-- the command is a question, or it may be sent for the book now
abbrev pub MayAsk : (K : Keeping) → Machine K → K.Book → Server → Waiting → Type 0
MayAsk K M b s w = (is_mutating w.command ≡ false) ⊎ M.MaySend b s w

-- its text hasn't arrived whole, and no answer came that ends it
pub record Before (K : Keeping) (M : Machine K) (b : K.Book) (told : List Response) (w : Waiting) (p : Peer) : Type 0 where
  pub quiet : p.waiting ≡ None
  pub selects : p.talk.selected ≡ w.selected
  pub may : MayAsk K M b p.server w
  pub from : length told ≤ length p.talk.told

-- it waits
pub record Waits (K : Keeping) (M : Machine K) (b : K.Book) (told : List Response) (w : Waiting) (p : Peer) : Type 0 where
  pub waits : p.waiting ≡ Some w
  pub no_text : p.talk.arriving ≡ None
  pub may : MayAsk K M b p.server w
  pub from : length told ≤ length p.talk.told

-- it was answered; its text can't begin again
pub record Behind (told : List Response) (p : Peer) : Type 0 where
  pub quiet : p.waiting ≡ None
  pub no_text : p.talk.arriving ≡ None
  pub more : length told < length p.talk.told

-- one of these, for this command, with what is selected as its text begins
pub record AsksOnce (K : Keeping) (M : Machine K) (b : K.Book) (told : List Response) (tag : Tag) (command : Command) (p : Peer) : Type 0 where
  pub waiting : Waiting
  pub tagged : waiting.tag ≡ tag
  pub asked : waiting.command ≡ command
  pub state : Before K M b told waiting p ⊎ Waits K M b told waiting p ⊎ Behind told p
