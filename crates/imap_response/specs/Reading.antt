-- A frame as it is read, and how the answer stands to that.
use Rattle.std.specs.Prelude.{◌≡◌, ℕ, ◌-◌, length, Option, Some, None, Result, Ok, Err}
use Rattle.mail_base.specs.declared.frame.Frame.{Frame}
use Rattle.flag_set.specs.declared.flag_fault.FlagFault.{FlagFault}
use Rattle.flag_set.specs.declared.flag_fault.FlagFault.TheVariants as flag_faults
use Rattle.imap_model.specs.declared.limit.Limit.TheVariants as limits
use Rattle.imap_model.specs.declared.response.Response.{Response}
use Rattle.imap_response.specs.declared.fault.ResponseFault.{ResponseFault}
use Rattle.imap_response.specs.declared.fault.ResponseFault.TheVariants as faults
use Rattle.imap_response.specs.declared.line.Said.{Said}
use Rattle.imap_response.specs.Flags.{Keep}
use Rattle.imap_response.specs.Left.{Left}
use Rattle.imap_response.specs.ReadLines.{line_at}

-- the frame, of which all is left
abbrev pub whole_of : Frame → Left
whole_of frame = record { total = length frame.bytes; text = frame.bytes; literals = frame.literals }

-- The response that the frame is read as, with the first fault of its flags, or how many bytes are left where it doesn't fit.
abbrev pub reading : Keep → Frame → Result Said ℕ
reading keep frame = line_at keep (whole_of frame)

-- how a fault of flags is told
abbrev pub too_large : FlagFault → ResponseFault
too_large (flag_faults.TooLong length) = faults.TooLarge limits.Flag length
too_large (flag_faults.TooMany count) = faults.TooLarge limits.Flags count
too_large (flag_faults.BadFlag at) = faults.Memory
too_large flag_faults.Memory = faults.Memory

abbrev pub said_whole : Response → Option FlagFault → Result Response ResponseFault
said_whole response None = Ok response
said_whole response (Some fault) = Err (too_large fault)

-- what is answered to a frame of so many bytes
abbrev pub answer_to : ℕ → Result Said ℕ → Result Response ResponseFault
answer_to size (Ok said) = said_whole said.response said.excess
answer_to size (Err left) = Err (faults.BadForm (size - left))

-- the answer is this one, or want of memory
abbrev pub Answers : Result Response ResponseFault → Result Response ResponseFault → Type 0
Answers wanted (Ok response) = wanted ≡ Ok response
Answers wanted (Err (faults.BadForm at)) = wanted ≡ Err (faults.BadForm at)
Answers wanted (Err (faults.TooLarge limit number)) = wanted ≡ Err (faults.TooLarge limit number)
Answers wanted (Err faults.Memory) = Unit {0}
