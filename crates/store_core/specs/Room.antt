-- How far a journal may grow (this client's profile): room is left to play what was accepted.
use Rattle.std.specs.Prelude.{ℕ, length}
use Rattle.mail_base.specs.Bodies.{frame_of}
use Rattle.journal_core.specs.Appending.{end_with}
use Rattle.journal_core.specs.Limits.{max_accepted, max_side}
use Rattle.action_queue.specs.declared.event.Event.{Event}
use Rattle.action_queue.specs.declared.event.Event.TheVariants as events
use Rattle.record_codec.specs.Bodies.{body_of}
use Rattle.store_core.specs.Mail.{mail}
use Rattle.store_core.specs.Holding.{Holding}

-- the place that the journal may not end behind with an event's record
abbrev pub limit_of : Event → ℕ
limit_of (events.Begin names) = max_side
limit_of (events.Accept id action) = max_accepted
limit_of (events.Intend id intent) = max_side
limit_of (events.Settle id outcome) = max_side
limit_of (events.Learn name delta) = max_side
limit_of (events.Old id action outcome) = max_side
limit_of (events.Reset name kept told) = max_side
limit_of (events.Withdraw id tries) = max_side

-- the place behind the last gate of a store's journal, with the event's record behind the others
abbrev pub end_after : Event → Holding mail → ℕ
end_after event store = end_with (length (frame_of (body_of event))) store.journal
