-- What a meter tells of the bytes that came (RFC 9051, sections 2.2 and 9).
use Rattle.std.specs.Prelude.{◌≡◌, ℕ, Bool, true, false, List, length}
use Rattle.std.specs.List.{AllByRecursion}
use Rattle.mail_base.specs.Frames.{told}
use Rattle.mail_base.specs.declared.frame.Frame.{Frame}
use Rattle.imap_model.specs.Responses.{Spells}
use Rattle.imap_model.specs.declared.response.Response.{Response}
use Rattle.literal_feed.specs.Stream.{StandsFor}
use Rattle.mail_bench.specs.declared.meter.Meter.{Meter}

-- where frames are read, this one spells a response
abbrev pub IsJudged : Bool → Frame → Type 0
IsJudged false frame = Unit {0}
IsJudged true frame = (response : Response) × Spells frame response

-- of these bytes, which are all that came, so many frames were taken, and both are counted
abbrev pub Metered : List ℕ → Meter → Type 0
Metered all meter =
    (taken : List Frame) × StandsFor all taken meter.feed × AllByRecursion (IsJudged meter.reads) taken
    × (meter.frames ≡ told (length taken)) × (meter.bytes ≡ told (length all))
