-- A record's body is read as it is spelled, and spelled as it is read (this client's journal).
use Rattle.std.specs.Prelude.{◌≡◌, ℕ, List, Ok}
use Rattle.action_queue.specs.declared.event.Event.{Event}
use Rattle.record_codec.specs.Spelling.{Spelled}
use Rattle.record_codec.specs.Reading.{AreBytes, Plain, plain, body_at}

-- the body of each event is read as that event
abbrev pub SpelledIsRead : Type 0
SpelledIsRead = (body : List ℕ) (event : Event) → Spelled body event → body_at body ≡ Ok (plain event)

-- bytes that are read as an event are that event's body
abbrev pub ReadIsSpelled : Type 0
ReadIsSpelled = (body : List ℕ) (event : Event) → AreBytes body → body_at body ≡ Ok (plain event) → Spelled body event

-- whatever is read is an event, with the facts that its type keeps
abbrev pub ReadIsAnEvent : Type 0
ReadIsAnEvent = (body : List ℕ) (p : Plain) → AreBytes body → body_at body ≡ Ok p → (event : Event) × (plain event ≡ p)
