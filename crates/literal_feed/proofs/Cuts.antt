-- However a stream is cut, the frames taken and still to be taken are those of all its bytes, up to the first fault (RFC 9051, section 2.2).
use Rattle.std.proofs.Common.{◌≡◌, ℕ, ◌+◌, ◌-◌, List, [], ◌∷◌, ◌++◌, length, refl, sym, subst, arith, length-append}
use Rattle.mail_base.specs.Frames.{told, IsNext, NoWhole, AreFrames, FirstFault}
use Rattle.mail_base.specs.declared.frame.Frame.{Frame}
use Rattle.mail_base.specs.declared.frame.FeedFault.{FeedFault}
use Rattle.mail_base.proofs.Frames.{one_first_fault, next_size, frames_le, frames_append, frames_split}
use Rattle.mail_base.proofs.MoreBytes.{frames_stay, frames_told, first_fault_told, first_fault_stays, fault_behind, fault_ahead}
use Rattle.literal_feed.specs.Stream.{Stream, StandsFor}

-- Nothing came: what `Feed::new` answers.
pub nothing_came : StandsFor [] [] (record { at = 0; bytes = [] })
nothing_came = record { frames = refl; place = omega arith }

-- A piece came: what `Feed::push` leaves where it answers Ok, or a fault for the first time.
pub piece_came : (all piece : List ℕ) (taken : List Frame) (old new : Stream) → StandsFor all taken old →
    new ≡ record { at = old.at; bytes = old.bytes ++ piece } → StandsFor (all ++ piece) taken new
piece_came all piece taken old new is e = subst (λ (s : Stream). StandsFor (all ++ piece) taken s) (sym e) (record {
  frames = frames_stay 0 all piece taken old.bytes is.frames;
  place = omega (arith, is.place, length-append all piece, length-append old.bytes piece);
})

-- where the rest begins
place_is : (all : List ℕ) (taken : List Frame) (left : Stream) → StandsFor all taken left → told left.at ≡ told (0 + (length all - length left.bytes))
place_is all taken left is = omega (arith, is.place)

-- The frames of the rest follow those that were taken: so all of them are frames of all bytes.
pub still_to_take : (all : List ℕ) (taken : List Frame) (left : Stream) → StandsFor all taken left → (more : List Frame) (rest : List ℕ) →
    AreFrames left.at left.bytes more rest → AreFrames 0 all (taken ++ more) rest
still_to_take all taken left is more rest later =
    frames_append 0 all taken left.bytes is.frames more rest (frames_told left.at
    (0 + (length all - length left.bytes)) left.bytes more rest (place_is all taken left is) later)

-- And no others are: where all bytes have these frames, the first ones were taken, and the others stand in the feed.
pub none_other : (all : List ℕ) (taken : List Frame) (left : Stream) → StandsFor all taken left → (frames : List Frame) (rest : List ℕ) →
    AreFrames 0 all frames rest → NoWhole rest → (more : List Frame) × (frames ≡ taken ++ more) × AreFrames left.at left.bytes more rest
none_other all taken left is frames rest are lacks =
    let split = frames_split 0 all taken left.bytes is.frames frames rest are lacks in
    (split.0, split.1, frames_told (0 + (length all - length left.bytes)) left.at left.bytes split.0 rest (sym (place_is all taken left is)) split.2)

-- A frame was taken: what `Feed::take` leaves where it gives one.
pub frame_taken : (all : List ℕ) (taken : List Frame) (old new : Stream) (frame : Frame) → StandsFor all taken old →
    IsNext old.at old.bytes frame new.bytes → new.at ≡ told (old.at + (length frame.bytes + 2)) → StandsFor all (taken ++ frame ∷ []) new
frame_taken all taken old new frame is next place =
    let more : AreFrames old.at old.bytes (frame ∷ []) new.bytes = (new.bytes, next, refl) in
    record {
      frames = still_to_take all taken old is (frame ∷ []) new.bytes more;
      place = omega (arith, place, is.place, next_size old.at old.bytes frame new.bytes next, frames_le 0 all taken old.bytes is.frames);
    }

-- The first fault of what is left is that of all bytes,
pub fault_of_all : (all : List ℕ) (taken : List Frame) (left : Stream) → StandsFor all taken left → (fault : FeedFault) →
    FirstFault left.at left.bytes fault → FirstFault 0 all fault
fault_of_all all taken left is fault bad =
    fault_behind 0 all taken left.bytes is.frames fault (first_fault_told left.at (0 + (length all - length left.bytes)) left.bytes fault
    (place_is all taken left is) bad)

-- and the other way round.
pub fault_of_rest : (all : List ℕ) (taken : List Frame) (left : Stream) → StandsFor all taken left → (fault : FeedFault) →
    FirstFault 0 all fault → FirstFault left.at left.bytes fault
fault_of_rest all taken left is fault bad =
    first_fault_told (0 + (length all - length left.bytes)) left.at left.bytes fault (sym (place_is all taken left is))
    (fault_ahead 0 all taken left.bytes is.frames fault bad)

-- Whatever bytes follow those that were kept, their first fault is the one that was told.
pub told_fault_is_first : (all more : List ℕ) (taken : List Frame) (left : Stream) → StandsFor all taken left → (fault other : FeedFault) →
    FirstFault left.at left.bytes fault → FirstFault 0 (all ++ more) other → fault ≡ other
told_fault_is_first all more taken left is fault other bad first =
    one_first_fault 0 (all ++ more) fault other (first_fault_stays 0 all more fault (fault_of_all all taken left is fault bad)) first
