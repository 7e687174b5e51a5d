-- That each mailbox was resynchronised behind the last outcome (RFC 7162, section 3.2.5; RFC 4549, section 4.1).
use Rattle.std.specs.Prelude.{◌≡◌, ◌<◌, ℕ, true, List, None, Option, Some, slice_get}
use Rattle.action_queue.specs.Book.{Meaning, cache_at, learned}
use Rattle.action_queue.specs.Queues.{AllSettled}
use Rattle.action_queue.specs.declared.book.Known.{Known}
use Rattle.imap_model.specs.declared.replies.Replies.{Replies}
use Rattle.mailbox_cache.specs.declared.delta.Delta.{Delta}
use Rattle.qresync_core.specs.Resync.{TellsDelta, is_told_empty}
use Rattle.playback.specs.declared.finding.Resynced.{Resynced}
use Rattle.playback.specs.declared.player.Player.{Player}
use Rattle.store_core.specs.Mail.{mail}
use Rattle.store_core.specs.Steps.{Firm}
use Rattle.store_core.specs.Taking.{HasBooks}
use Rattle.world_traits.specs.Moments.{Clock}
use Rattle.play_driver.specs.Holds.{IsHeldReply}
use Rattle.play_driver.specs.Joining.{Grows}
use Rattle.play_driver.specs.declared.session.Held.{Held}
use Rattle.play_driver.specs.Progress.{box_names, has_name}
use Rattle.play_driver.specs.Synced.{IsLastRead, IsSynced}

-- a stop leaves a book now whose actions all have an outcome
pub record IsSettledAt (k : Clock) : Type 0 where
  pub book : Meaning
  pub books : HasBooks mail (Firm (Some book)) k.now
  pub settled : AllSettled book.queue

-- what was told of the mailbox of this name is still to be recorded
pub record IsPending (name : List ℕ) (p : Player) : Type 0 where
  pub told : Resynced
  pub learns : p.learns ≡ Some told
  pub named : told.name ≡ name

-- the reply to a SELECT of the mailbox of this name is held
abbrev pub IsHeldOf : List ℕ → Option Held → Type 0
IsHeldOf name None = ⊥
IsHeldOf name (Some h) = h.chosen.name ≡ name

-- Of a reply to SELECT that is held: where it told that there are no messages, the mailbox was read at a step of this time, and at none behind
-- it, and what it makes of no cache is the server's as it was then.
pub record IsReadHeld (h : Held) (old new : Clock) : Type 0 where
  pub reply : Replies
  pub is : IsHeldReply h reply
  pub reads : is_told_empty reply ≡ true → (delta : Delta) → TellsDelta None reply None delta →
      IsLastRead h.chosen.name (learned None delta) old new

-- Behind a clock of this time at which every action had an outcome: the first mailboxes of the book, as many as the player counts, each
-- have a cache that is the server's as it answered for its rows last since, but for one of which something told is still to be recorded, or read;
-- and so is the cache that this makes.
pub record SyncedSince (start now : Clock) (held : Option Held) (p : Player) (b : Meaning) : Type 0 where
  pub from : Clock
  pub later : Grows start from
  pub before : Grows from now
  pub settled : IsSettledAt from
  pub counted : (i : ℕ) (known : Known) → slice_get b.boxes i ≡ Some known → i < p.resynced → (IsPending known.name p → ⊥)
      → (IsHeldOf known.name held → ⊥) → IsSynced known.name b from now
  pub pending : (told : Resynced) → p.learns ≡ Some told → IsLastRead told.name (learned (cache_at told.name b.boxes) told.delta) from now
  pub unread : (h : Held) → held ≡ Some h → IsReadHeld h from now

-- so it is as soon as every action is settled
abbrev pub IsSyncedSoFar : Clock → Clock → Option Held → Player → Meaning → Type 0
IsSyncedSoFar start now held p b = AllSettled b.queue → SyncedSince start now held p b

-- Behind a clock of this time at which every action had an outcome, each mailbox of the book has a cache that is the server's as it
-- answered for its rows last since.
pub record AreSyncedBehind (old new : Clock) (b : Meaning) : Type 0 where
  pub from : Clock
  pub later : Grows old from
  pub before : Grows from new
  pub settled : IsSettledAt from
  pub each : (name : List ℕ) → has_name name (box_names b) ≡ true → IsSynced name b from new
