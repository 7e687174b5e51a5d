-- A stream as far as it came and was not taken (RFC 9051, section 2.2), in the words of the frames of a stream.
use Rattle.std.specs.Prelude.{ℕ, ◌+◌, ◌≤◌, List, length, drop, Option, Some, None}
use Rattle.mail_base.specs.Frames.{AreFrames, LineFault}
use Rattle.mail_base.specs.declared.frame.Frame.{Frame}
use Rattle.mail_base.specs.declared.frame.FeedFault.{FeedFault}
use Rattle.literal_feed.specs.declared.part.Cursor.{Cursor}
use Rattle.literal_feed.specs.declared.progress.Progress.{Progress}
use Rattle.literal_feed.specs.Lines.{Stands, IsOpenLine}

-- so many bytes in front are whole frames
abbrev pub AreWhole : ℕ → List ℕ → ℕ → Type 0
AreWhole at bytes whole = (whole ≤ length bytes) × ((frames : List Frame) × AreFrames at bytes frames (drop whole bytes))

-- behind them the line was read so far
abbrev pub Reads : ℕ → List ℕ → ℕ → Cursor → Type 0
Reads at bytes whole cursor = AreWhole at bytes whole × Stands (drop whole bytes) cursor

-- the line behind them is open, or has the fault
abbrev pub RestIs : ℕ → List ℕ → Cursor → Option FeedFault → Type 0
RestIs at rest cursor None = Stands rest cursor × IsOpenLine rest
RestIs at rest cursor (Some fault) = LineFault at rest fault

-- the bytes were read so far
abbrev pub Holds : ℕ → List ℕ → Progress → Type 0
Holds at bytes progress = AreWhole at bytes progress.whole × RestIs (at + progress.whole) (drop progress.whole bytes) progress.cursor progress.fault
