-- Runs one behind another, at a server that others change fairly (this client's profile of RFC 4549, section 4.2).
use Rattle.std.specs.Prelude.{◌≡◌, ℕ, List, Option, Some, None}
use Rattle.imap_model.specs.Talking.{Connecting, Peer}
use Rattle.imap_model.specs.declared.server.Mailbox.{Mailbox}
use Rattle.imap_model.specs.declared.server.Server.{Server}
use Rattle.action_queue.specs.Book.{Meaning}
use Rattle.action_queue.specs.declared.intent.Intent.TheVariants as intents
use Rattle.book_laws.specs.Polite.{KeepsBox, KeepsWaiting, Spares}
use Rattle.world_traits.specs.Files.{Files}
use Rattle.world_traits.specs.Links.{LinkStep}
use Rattle.world_traits.specs.Moments.{Moment, MayLeave, Clock, OneSideAtRest, restarted}
use Rattle.store_core.specs.Mail.{mail}
use Rattle.store_core.specs.Steps.{Books}
use Rattle.store_core.specs.Taking.{HasBooks}
use Rattle.play_driver.specs.Machine.{Machine}
use Rattle.play_driver.specs.Joining.{IsFair, AllFair}
use Rattle.play_driver.specs.Played.{played}
use Rattle.mail_top.specs.KeptNow.{IsKeptNow, StaysKept}
use Rattle.mail_top.specs.Runs.{CutOff}

-- A run, and a clock on its way: its last, or one at which the run was cut off. Its moments are as `run` promises over a link that
-- tells its server, by `goes`, `journal.sides.each_one_side` and `moments.joined`, and others were fair up to that clock. (Of a run that was
-- cut off the moments behind the cut are those that might have come.)
pub record FairRun (words : List (List ℕ)) (input : List ℕ) (seen : Files) (old at new : Clock) : Type 0 where
  pub cut : CutOff words input seen old at new
  pub joined : OneSideAtRest old.now → (books : Books mail) → HasBooks mail books old.now → IsKeptNow old.now → StaysKept old new
  pub fair : AllFair mail played old at

-- What is asked of others between two runs: while an append's intent is pending they spare that append (RFC 5322, section 3.6.4).
abbrev pub SparesPending : Meaning → List Mailbox → List Mailbox → Type 0
SparesPending b old new = (to : List ℕ) (validity uidnext : ℕ) → b.pending ≡ Some (intents.Put to validity uidnext) → Spares b old new

-- Besides no mailbox gets another UIDVALIDITY that is selected in a connection that hasn't ended yet, or was as the waiting command arrived:
-- a change of a message that is carried out there would be one of another message (RFC 9051, section 2.3.1.1). Any other mailbox may be
-- renewed; a connection that was lost may be counted as ended at once.
pub record SparesBookBetween (b : Meaning) (p : Peer) (t : Server) : Type 0 where
  pub append : SparesPending b p.server.boxes t.boxes
  pub selected : KeepsBox p.talk.selected p.server.boxes t.boxes
  pub waiting : KeepsWaiting p.waiting p.server.boxes t.boxes

-- where there is no book yet, nothing is asked
abbrev pub SparesBetween : Option Meaning → Peer → Server → Type 0
SparesBetween None p t = Unit {0}
SparesBetween (Some b) p t = SparesBookBetween b p t

-- this client's machine, with less asked of others
abbrev pub between : Machine mail
between = record played { Spares = SparesBetween }

-- Between two runs the files stay, and the server goes on by one step: the last connection comes to its end; others change something, and
-- are fair; the command of a connection that ended is carried out, or dropped.
pub record FairlyGoesOn (m n : Moment) : Type 0 where
  pub step : LinkStep Connecting m n
  pub fair : IsFair mail between m n

-- The moments that may follow a moment where others are fair: that one; the last of a run that began at such a moment and read its
-- files, or any at which the run was cut off; what is there again after a stop that left one of the images; and one at which the
-- server went on.
pub data FollowsFairly (first : Moment) : Moment → Type 0 where
  at_once : FollowsFairly first first
  by_run : (words : List (List ℕ)) → (input : List ℕ) → (seen : Files) → (old at new : Clock) → FollowsFairly first old.now → MayLeave old.now seen
      → FairRun words input seen old at new → FollowsFairly first at.now
  by_stop : (m : Moment) → (files : Files) → FollowsFairly first m → MayLeave m files → FollowsFairly first (restarted files m)
  by_others : (m n : Moment) → FollowsFairly first m → FairlyGoesOn m n → FollowsFairly first n
