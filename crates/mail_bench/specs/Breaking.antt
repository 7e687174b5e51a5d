-- Why a stream isn't measured to its end (RFC 9051, sections 2.2 and 9).
use Rattle.std.specs.Prelude.{◌≡◌, ◌≢◌, Bool, true, ℕ, List, [], ◌∷◌, ◌++◌, length, Err}
use Rattle.mail_base.specs.Frames.{AreFrames, FirstFault}
use Rattle.mail_base.specs.declared.frame.Frame.{Frame}
use Rattle.mail_base.specs.declared.frame.FeedFault.TheVariants as feeds
use Rattle.literal_feed.specs.Stream.{NoFault}
use Rattle.imap_response.specs.Flags.{kept}
use Rattle.imap_response.specs.Reading.{Answers, answer_to, reading}
use Rattle.imap_response.specs.declared.fault.ResponseFault.{ResponseFault}
use Rattle.mail_bench.specs.declared.fault.MeterFault.{MeterFault}
use Rattle.mail_bench.specs.declared.fault.MeterFault.TheVariants.{Feed, Response}

-- no line of these bytes has a fault
abbrev pub IsSound : List ℕ → Type 0
IsSound all = NoFault (record { at = 0; bytes = all })

-- where frames are read, this one is refused so
pub record IsRefused (reads : Bool) (frame : Frame) (fault : ResponseFault) : Type 0 where
  pub asked : reads ≡ true
  pub answer : Answers (answer_to (length frame.bytes) (reading kept frame)) (Err fault)

-- a frame isn't read
abbrev pub Unread : Bool → Frame → MeterFault → Type 0
Unread reads frame (Feed fault) = ⊥
Unread reads frame (Response fault) = IsRefused reads frame fault

-- a frame of the stream is refused so
pub record HasRefused (reads : Bool) (stream : List ℕ) (fault : ResponseFault) : Type 0 where
  pub before : List Frame
  pub frame : Frame
  pub rest : List ℕ
  pub stands : AreFrames 0 stream (before ++ frame ∷ []) rest
  pub refused : IsRefused reads frame fault

-- the stream has this fault as its first, or a frame of it is refused so, or memory is wanting
abbrev pub Breaks : Bool → List ℕ → MeterFault → Type 0
Breaks reads stream (Feed fault) = fault ≢ feeds.Memory → ∥ FirstFault 0 stream fault ∥₁
Breaks reads stream (Response fault) = HasRefused reads stream fault
