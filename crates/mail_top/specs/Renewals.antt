-- A mailbox is renewed between two runs, also the one that was selected last (RFC 9051, section 2.3.1.1; this client's profile of RFC 4549,
-- section 4.2).
use Rattle.std.specs.Prelude.{◌≡◌, ◌≢◌, ℕ, true, List, [], ◌∷◌, codes, Option, Some, None}
use Rattle.mail_base.specs.declared.tag.Tag.TheVariants.{Play}
use Rattle.imap_model.specs.Carrying.{Waiting}
use Rattle.imap_model.specs.Changes.{Changes}
use Rattle.imap_model.specs.Talking.{Peer}
use Rattle.imap_model.specs.declared.command.Command.TheVariants as commands
use Rattle.imap_model.specs.declared.deed.Author.TheVariants.{Other}
use Rattle.imap_model.specs.declared.deed.Change.TheVariants as changes
use Rattle.imap_model.specs.declared.server.Mailbox.{Mailbox}
use Rattle.imap_model.specs.declared.server.Server.{Server}
use Rattle.action_queue.specs.Book.{Meaning}
use Rattle.world_traits.specs.Files.{Stored}
use Rattle.world_traits.specs.Moments.{Moment}
use Rattle.mail_top.specs.FairRuns.{FairlyGoesOn, FollowsFairly, SparesBetween}

-- the last connection has come to its end: nothing is selected, and no text arrives
abbrev pub ended : Moment → Moment
ended m = record m { outside = record m.outside { talk = record m.outside.talk { selected = None; arriving = None } } }

-- the server has become this one
abbrev pub with_server : Server → Moment → Moment
with_server t m = record m { outside = record m.outside { server = t } }

-- no command waits that arrived while the mailbox was selected
abbrev pub NoneWaitsIn : List ℕ → Option Waiting → Type 0
NoneWaitsIn name waiting = (w : Waiting) → waiting ≡ Some w → w.selected ≢ Some name

-- Behind any runs any mailbox in which no command waits may be renewed, whichever was selected last and whatever book the files hold: behind
-- the end of the last connection others are fair.
abbrev pub MayBeRenewed : Type 0
MayBeRenewed = (first m : Moment) (t : Server) (name : List ℕ) (validity : ℕ) (uids : List ℕ) (uidnext highest : ℕ) → FollowsFairly first m →
    NoneWaitsIn name m.outside.waiting →
    Changes m.outside.server.boxes Other name (changes.Reset validity uids uidnext highest) m.outside.server t →
    FollowsFairly first (with_server t (ended m))

-- For example, of two mailboxes with a message each
abbrev pub inbox : List ℕ
inbox = codes "INBOX"

abbrev pub archive : List ℕ
archive = codes "Archive"

abbrev pub box_under : List ℕ → ℕ → ℕ → Mailbox
box_under name validity highest = record {
  name = name;
  validity = validity;
  uidnext = 2;
  highest = highest;
  messages = record { uid = 1; flags = []; modseq = highest; text = [] } ∷ [];
  gone = [];
}

-- others renew one of them, under the UIDVALIDITY above
abbrev pub server_before : Server
server_before = record { boxes = box_under inbox 5 715 ∷ box_under archive 9 300 ∷ []; history = [] }

abbrev pub inbox_renewed : Server
inbox_renewed = record {
  boxes = box_under inbox 6 800 ∷ box_under archive 9 300 ∷ [];
  history =
      record { author = Other; name = inbox; validity = 6; received = 6; change = changes.Reset 6 (1 ∷ []) 2 800 } ∷ [];
}

abbrev pub archive_renewed : Server
archive_renewed = record {
  boxes = box_under inbox 5 715 ∷ box_under archive 10 400 ∷ [];
  history =
      record { author = Other; name = archive; validity = 10; received = 10; change = changes.Reset 10 (1 ∷ []) 2 400 } ∷ [];
}

-- the connection was lost while INBOX was selected, and a STORE has arrived there, or none
abbrev pub peer_with : Option Waiting → Peer
peer_with waiting = record { server = server_before; waiting = waiting; talk = record { told = []; selected = Some inbox; arriving = None } }

abbrev pub store : Waiting
store = record { selected = Some inbox; tag = Play 1; command = commands.Store 1 715 true (codes "\\seen" ∷ []) }

abbrev pub lost : Option Waiting → Stored → Stored → Moment
lost waiting left right = record { left = left; right = right; outside = peer_with waiting }

-- Whatever the files hold: as the connection has come to its end, INBOX may be renewed, which it had selected; Archive even before that, and
-- while the STORE waits in INBOX. But INBOX may not be renewed before the end, nor while the STORE waits there, whatever the book is.
pub record RenewsSelected (left right : Stored) : Type 0 where
  pub ends : FairlyGoesOn (lost None left right) (ended (lost None left right))
  pub renews : FairlyGoesOn (ended (lost None left right)) (with_server inbox_renewed (ended (lost None left right)))
  pub another : FairlyGoesOn (lost (Some store) left right) (with_server archive_renewed (lost (Some store) left right))
  pub not_before : (b : Meaning) → ¬ (SparesBetween (Some b) (lost None left right).outside inbox_renewed)
  pub not_waiting : (b : Meaning) → ¬ (SparesBetween (Some b) (ended (lost (Some store) left right)).outside inbox_renewed)
