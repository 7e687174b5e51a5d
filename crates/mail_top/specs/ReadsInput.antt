-- How a command reads its input.
use Rattle.std.specs.Prelude.{◌≡◌, ◌≢◌, ◌⊎◌, ◌≤◌, []}
use Rattle.mail_base.specs.declared.status.Status.{Status}
use Rattle.mail_base.specs.declared.status.Status.TheVariants as status
use Rattle.world_traits.specs.Calls.{Rose}
use Rattle.world_traits.specs.declared.streams.Source.{Ghosts}
use Rattle.mail_top.specs.Played.{CameThrough}
use Rattle.mail_top.specs.Reading.{IsReadOut, TakesFront}

-- The input is read for an append alone, and, where the files are told, only where the book as read awaits it. What was read is a
-- front of it. Where the message is accepted that is all of it; and else, unless it fails or memory is wanting, all or 2^25 + 1 bytes.
-- It is blamed only where a read failed, and its count of faults never falls.
pub record ReadsInput {Self : Type 0} (I : Ghosts Self) (IsAppend TellsFiles Awaits : Type 0) (old new : Self) (s : Status) : Type 0 where
  pub unread : (IsAppend → ⊥) → new ≡ old
  pub read : TellsFiles → (new ≡ old) ⊎ Awaits
  pub taken : I.tells → TakesFront (I.rest old) (I.rest new)
  pub whole : I.tells → IsAppend → CameThrough s → I.rest new ≡ []
  pub out : I.tells → (s ≢ status.Input) → (s ≢ status.Memory) → (new ≡ old) ⊎ IsReadOut (I.rest old) (I.rest new)
  pub input_fault : s ≡ status.Input → Rose (I.source_faults old) (I.source_faults new)
  pub source_count : I.source_faults old ≤ I.source_faults new
