-- A run's turns, one behind the other, and how many mailboxes it selects (this client's profile of RFC 4549, section 4.2).
use Rattle.std.specs.Prelude.{◌≡◌, ◌≤◌, ◌<◌, ℕ, nat_lt, ◌+◌, ◌-◌, ◌*◌, Option, Some, None, if◌then◌else◌, length}
use Rattle.std.specs.declared.alloc.Global.{Global}
use Rattle.action_queue.specs.Book.{Meaning, cache_at}
use Rattle.action_queue.specs.declared.event.Event.{Event}
use Rattle.action_queue.specs.declared.event.Event.TheVariants as events
use Rattle.mailbox_cache.specs.declared.cache.Cache.{Cache}
use Rattle.playback.specs.Choosing.{begun_with}
use Rattle.playback.specs.Left.{left, rank_of, unsettled}
use Rattle.playback.specs.declared.finding.Resynced.{Resynced}
use Rattle.playback.specs.declared.need.Need.{Need}
use Rattle.playback.specs.declared.need.Need.TheVariants as needs
use Rattle.playback.specs.declared.player.Player.{Player}
use Rattle.store_core.specs.Holding.{Holding}
use Rattle.store_core.specs.Mail.{mail}
use Rattle.play_driver.specs.Stages.{Stage}
use Rattle.play_driver.specs.Turning.{Standing, TurnFails, Turns, need_at}
use Rattle.play_driver.specs.declared.fault.PlayFault.{PlayFault}
use Rattle.play_driver.specs.declared.session.Held.{Held}
use Rattle.play_driver.specs.declared.fault.PlayFault.TheVariants as faults
use Rattle.world_traits.specs.LinkState.{LinkState}

-- how many mailboxes are selected for a need
abbrev pub selects_for : Need → ℕ
selects_for (needs.Select name) = 1
selects_for (needs.Ask command) = 0
selects_for (needs.Commit event) = 0
selects_for (needs.Settle n outcome) = 0
selects_for (needs.Withdraw n tries) = 0
selects_for (needs.Send n command) = 0
selects_for needs.Finished = 0

-- with a turn: none where the reply to a SELECT is held
abbrev pub selects_by : Option Held → Need → ℕ
selects_by None need = selects_for need
selects_by (Some h) need = 0

abbrev pub selects_at : Standing → ℕ
selects_at p = selects_by p.held (need_at p)

-- how many deltas of mailboxes are recorded with an event
abbrev pub learns_by : Event → ℕ
learns_by (events.Begin names) = 0
learns_by (events.Accept id action) = 0
learns_by (events.Intend id intent) = 0
learns_by (events.Settle id outcome) = 0
learns_by (events.Learn name delta) = 1
learns_by (events.Old id action outcome) = 0
learns_by (events.Reset name kept told) = 0
learns_by (events.Withdraw id tries) = 0

-- and for a need
abbrev pub learns_for : Need → ℕ
learns_for (needs.Select name) = 0
learns_for (needs.Ask command) = 0
learns_for (needs.Commit event) = learns_by event
learns_for (needs.Settle n outcome) = 0
learns_for (needs.Withdraw n tries) = 0
learns_for (needs.Send n command) = 0
learns_for needs.Finished = 0

-- How many turns are left at most: three for each reply and record that is left, of which two are behind a SELECT whose reply is held while its
-- cache is there, and one where it isn't.
abbrev pub resets_left : Option Cache → ℕ
resets_left None = 0
resets_left (Some cache) = 1

abbrev pub turns_left : Option Held → Player → Meaning → ℕ
turns_left None p b = 3 * left p b + 2
turns_left (Some h) p b = 3 * left p b + resets_left (cache_at h.chosen.name b.boxes)

abbrev pub turns_left_at : Standing → ℕ
turns_left_at p = turns_left p.held p.player p.store.book

-- The turns from one standing to another, in which so many mailboxes were selected and so many deltas recorded. What is left falls with
-- each of them.
pub data RunsTo (p : Standing) : Standing → ℕ → ℕ → Type 0 where
  rests : RunsTo p p 0 0
  turns : (q r : Standing) (selects learns : ℕ) → RunsTo p q selects learns → Turns q r →
      turns_left_at r < turns_left_at q → RunsTo p r (selects + selects_at q) (learns + learns_for (need_at q))

-- the standing in which a run's turns begin: it has entered, and nothing is selected
abbrev pub first_standing : Global → Stage → Holding mail → Standing
first_standing alloc stage store = record {
  stage = stage;
  selected = None;
  permits = None;
  held = None;
  store = store;
  player = begun_with alloc store.book;
}

-- With what is needed next, a run selects at most as many mailboxes as there are unsettled actions and mailboxes in the book with which it
-- began, and records at most one delta for each.
pub record IsShort (b : Meaning) (selects learns : ℕ) (p : Standing) : Type 0 where
  pub few : selects + selects_at p ≤ unsettled b.queue + length b.boxes
  pub once : learns + learns_for (need_at p) ≤ selects

-- a delta is still to be recorded
abbrev pub pending_in : Option Resynced → ℕ
pending_in None = 0
pending_in (Some told) = 1

-- a delta is still to be told by a reply that is held
abbrev pub held_of : Option Held → ℕ
held_of None = 0
held_of (Some h) = 1

-- what is still to be played or resynchronised
abbrev pub rest_of : Player → Meaning → ℕ
rest_of p b = unsettled b.queue + (length b.boxes - p.resynced)

-- whether a mailbox may still be selected for the first of it: where it isn't yet, its step is that far from the end
abbrev pub opens : ℕ → ℕ
opens ranked = if nat_lt 6 ranked then 1 else 0

-- So it stays from turn to turn, where at first there were so many actions and mailboxes: for each of them one mailbox is selected at most, however
-- often a try is taken back; where a reply is held it is selected for the first of what is left.
pub record StaysShort (most selects learns : ℕ) (held : Option Held) (p : Player) (b : Meaning) : Type 0 where
  pub room : selects + rest_of p b + opens (rank_of p b p.learns) ≤ most + 1 + held_of held
  pub few : selects ≤ most
  pub once : learns + pending_in p.learns + held_of held ≤ selects

-- The turns from one standing to another, and how few they are.
pub record RunsBetween (p q : Standing) : Type 0 where
  pub selects : ℕ
  pub learns : ℕ
  pub runs : RunsTo p q selects learns
  pub short : (most : ℕ) → StaysShort most 0 0 p.held p.player p.store.book → StaysShort most selects learns q.held q.player q.store.book

-- Behind some turns one failed. The store is the one that they made; where the disk failed it has that one's book.
pub record StopsBehind (p : Standing) (store : Holding mail) (link : LinkState) (fault : PlayFault) : Type 0 where
  pub at : Standing
  pub came : RunsBetween p at
  pub fails : TurnFails at link fault
  pub same : store.book ≡ at.store.book
  pub still : (fault ≡ faults.Disk → ⊥) → store ≡ at.store
