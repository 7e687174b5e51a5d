-- How an event of playback is recorded, and why it isn't (this client's profile of RFC 4549, section 4.2).
use Rattle.std.specs.Prelude.{◌≡◌, ◌<◌, ◌+◌, length}
use Rattle.mail_base.specs.Bodies.{frame_of}
use Rattle.imap_model.specs.declared.limit.Limit.TheVariants as limits
use Rattle.action_queue.specs.Book.{after}
use Rattle.action_queue.specs.declared.event.Event.{Event}
use Rattle.action_queue.specs.declared.event.Event.TheVariants as events
use Rattle.record_codec.specs.Bodies.{body_of}
use Rattle.journal_core.specs.Appending.{told_end}
use Rattle.store_core.specs.Holding.{Holding}
use Rattle.store_core.specs.Mail.{mail}
use Rattle.store_core.specs.Room.{end_after, limit_of}
use Rattle.play_driver.specs.declared.fault.PlayFault.{PlayFault}
use Rattle.play_driver.specs.declared.fault.PlayFault.TheVariants as faults

-- a store with one record more: its journal stands behind that of this event, and its book has it
abbrev pub recorded : Holding mail → Event → Holding mail
recorded s event = record {
  journal = record s.journal { place = s.journal.place + length (frame_of (body_of event)) };
  book = after s.book event;
}

-- an outcome is recorded without taking memory, and that a try is taken back
abbrev pub TakesMemory : Event → Type 0
TakesMemory (events.Begin names) = Unit {0}
TakesMemory (events.Accept id action) = Unit {0}
TakesMemory (events.Intend id intent) = Unit {0}
TakesMemory (events.Settle id outcome) = ⊥
TakesMemory (events.Learn name delta) = Unit {0}
TakesMemory (events.Old id action outcome) = Unit {0}
TakesMemory (events.Reset name kept told) = Unit {0}
TakesMemory (events.Withdraw id tries) = ⊥

-- Why an event isn't recorded: memory is wanting; or the disk failed; or the journal has no room for it.
pub data NotRecorded (event : Event) (store : Holding mail) (fault : PlayFault) : Type 0 where
  wanting : TakesMemory event → fault ≡ faults.Memory → NotRecorded event store fault
  disk : fault ≡ faults.Disk → NotRecorded event store fault
  full : limit_of event < end_after event store → fault ≡ faults.Limit limits.Journal (told_end (end_after event store)) →
      NotRecorded event store fault
