-- Why bytes are refused as the body of an event's record (this client's journal).
use Rattle.std.specs.Prelude.{◌≡◌, ℕ, List, Err, ⊤}
use Rattle.action_queue.specs.declared.event.Event.{Event}
use Rattle.record_codec.specs.declared.fault.RecordFault.{RecordFault}
use Rattle.record_codec.specs.declared.fault.RecordFault.TheVariants as faults
use Rattle.record_codec.specs.Spelling.{Spelled}
use Rattle.record_codec.specs.Reading.{body_at}

-- the first field that doesn't fit begins at this place
abbrev pub IsMisfitAt : List ℕ → ℕ → Type 0
IsMisfitAt body at = body_at body ≡ Err at

-- the bytes are the body of no event's record
abbrev pub SpellsNone : List ℕ → Type 0
SpellsNone body = (event : Event) → ¬ (Spelled body event)

-- why the bytes are refused
abbrev pub WhyRefused : List ℕ → RecordFault → Type 0
WhyRefused body (faults.BadForm at) = IsMisfitAt body at × SpellsNone body
WhyRefused body faults.Memory = ⊤
