-- Why a stream isn't measured, as it comes piece by piece.
use Rattle.std.proofs.Common.{◌≡◌, ◌≢◌, ℕ, ◌+◌, ◌-◌, List, [], ◌∷◌, ◌++◌, length, Bool, IfErr, OnOk, Result, Ok, Err, sym, subst, arith}
use Rattle.mail_base.specs.Frames.{told, AreFrames, IsNext, FirstFault, LineFault}
use Rattle.mail_base.specs.declared.frame.Frame.{Frame}
use Rattle.mail_base.specs.declared.frame.FeedFault.{FeedFault}
use Rattle.mail_base.specs.declared.frame.FeedFault.TheVariants as feeds
use Rattle.mail_base.proofs.Frames.{next_size}
use Rattle.mail_base.proofs.MoreBytes.{frames_stay, first_fault_stays}
use Rattle.literal_feed.specs.Stream.{Stream, NoFault, StandsFor}
use Rattle.literal_feed.proofs.Cuts.{piece_came, frame_taken, fault_of_all, fault_of_rest}
use Rattle.literal_feed.proofs.Ends.{open_no_fault}
use Rattle.literal_feed.proofs.Lines.{known}
use Rattle.literal_feed.proofs.Streams.{nothing_open}
use Rattle.mail_bench.specs.Breaking.{Breaks, IsSound, Unread}
use Rattle.mail_bench.specs.declared.fault.MeterFault.{MeterFault}
use Rattle.mail_bench.specs.declared.fault.MeterFault.TheVariants.{Feed, Response}

-- nothing has no fault
no_frames : (at : ℕ) (fs : List Frame) (rest : List ℕ) → AreFrames at [] fs rest → rest ≡ []
no_frames at [] rest is = sym is
no_frames at (f ∷ fs) rest is = absurd (omega (arith, next_size at [] f is.0 is.1))

pub nothing_sound : IsSound []
nothing_sound fault bad =
    open_no_fault [] (0 + (0 - length bad.1)) fault nothing_open
    (subst (λ (t : List ℕ). LineFault (0 + (0 - length bad.1)) t fault) (no_frames 0 bad.0 bad.1 bad.2) bad.3)

-- what stands in a feed has a fault only where all that came has it
pub feed_sound : (all : List ℕ) (taken : List Frame) (left : Stream) → StandsFor all taken left → IsSound all → NoFault left
feed_sound all taken left stands sound fault bad = sound fault (fault_of_all all taken left stands fault bad)

pub all_sound : (all : List ℕ) (taken : List Frame) (left : Stream) → StandsFor all taken left → NoFault left → IsSound all
all_sound all taken left stands sound fault bad = sound fault (fault_of_rest all taken left stands fault bad)

-- what breaks a front of the stream breaks the stream
pub breaks_stay : (reads : Bool) (front more : List ℕ) (fault : MeterFault) → Breaks reads front fault → Breaks reads (front ++ more) fault
breaks_stay reads front more (Feed fault) bad = λ other. known (bad other) (λ first. first_fault_stays 0 front more fault first)
breaks_stay reads front more (Response fault) bad = record {
  before = bad.before;
  frame = bad.frame;
  rest = bad.rest ++ more;
  stands = frames_stay 0 front more (bad.before ++ bad.frame ∷ []) bad.rest bad.stands;
  refused = bad.refused;
}

-- what the feed tells of a piece
pub piece_breaks : (reads : Bool) (all piece : List ℕ) (taken : List Frame) (old new : Stream) (fault : FeedFault) → StandsFor all taken old
    → IsSound all → (fault ≢ feeds.Memory → ∥ FirstFault new.at new.bytes fault ∥₁)
    → (fault ≢ feeds.Memory → NoFault old → new ≡ record { at = old.at; bytes = old.bytes ++ piece })
    → Breaks reads (all ++ piece) (Feed fault)
piece_breaks reads all piece taken old new fault stands sound bad pushed =
    λ other.
    let came = pushed other (feed_sound all taken old stands sound) in
    known (bad other) (λ first. fault_of_all (all ++ piece) taken new (piece_came all piece taken old new stands came) fault first)

-- what the reading of a frame tells
pub frame_breaks : (reads : Bool) (all : List ℕ) (taken : List Frame) (old new : Stream) (frame : Frame) (fault : MeterFault) → StandsFor all taken old
    → IsNext old.at old.bytes frame new.bytes → new.at ≡ told (old.at + (length frame.bytes + 2))
    → Unread reads frame fault → Breaks reads all fault
frame_breaks reads all taken old new frame (Feed fault) stands next place bad = absurd bad
frame_breaks reads all taken old new frame (Response fault) stands next place bad = record {
  before = taken;
  frame = frame;
  rest = new.bytes;
  stands = (frame_taken all taken old new frame stands next place).frames;
  refused = bad;
}

-- what a call hands on
pub handed_on : {T : Type 0} (r : Result T MeterFault) (fault : MeterFault) (P : MeterFault → Type 0) → r ≡ Err fault → P fault → IfErr r P
handed_on r fault P is bad = subst (λ x. IfErr x P) (sym is) bad

pub whatever : {T E : Type 0} (r : Result T E) (P : Type 0) → P → OnOk r P
whatever (Ok x) P p = p
whatever (Err e) P p = tt
