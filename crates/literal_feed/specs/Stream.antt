-- What stands in a feed (RFC 9051, section 2.2): the bytes of a stream that came, from the first frame that wasn't taken.
use Rattle.std.specs.Prelude.{◌≡◌, ℕ, ◌-◌, List, length}
use Rattle.mail_base.specs.Frames.{AreFrames, FirstFault, told}
use Rattle.mail_base.specs.declared.frame.Frame.{Frame}
use Rattle.mail_base.specs.declared.frame.FeedFault.{FeedFault}

-- the bytes, and the place of the first of them as it is told
pub record Stream : Type 0 where
  pub at : ℕ
  pub bytes : List ℕ

-- no line of the stream has a fault so far
abbrev pub NoFault : Stream → Type 0
NoFault stream = (fault : FeedFault) → FirstFault stream.at stream.bytes fault → ⊥

-- Of these bytes, which are all that came, these frames were taken, and this is left.
pub record StandsFor (all : List ℕ) (taken : List Frame) (left : Stream) : Type 0 where
  pub frames : AreFrames 0 all taken left.bytes
  pub place : left.at ≡ told (length all - length left.bytes)
