-- What the top call promises, over a drill's world in which memory sufficed.
use Rattle.std.proofs.Common.{◌≡◌, inl, inr, ℕ, Bool, true, false, ◌||◌, List, [], sym, ◌∙◌, subst, arith}
use Rattle.mail_base.specs.Account.{Credentials}
use Rattle.mail_base.specs.declared.status.Status.{Status}
use Rattle.mail_base.specs.declared.status.Status.TheVariants as status
use Rattle.journal_core.specs.OneSide.{EachOneSide}
use Rattle.store_core.specs.Mail.{mail}
use Rattle.store_core.specs.Steps.{Books}
use Rattle.store_core.specs.Taking.{HasBooks}
use Rattle.world_traits.specs.Moments.{Clock, OneSideAtRest}
use Rattle.world_traits.specs.Printed.{Printed}
use Rattle.world_traits.proofs.Keeping.{since_now}
use Rattle.play_driver.specs.Joining.{AllFair, Grows, Joined}
use Rattle.play_driver.specs.Played.{played}
use Rattle.play_driver.proofs.Parts.{grows, grows_start}
use Rattle.mail_top.specs.Going.{Goes}
use Rattle.mail_top.specs.Headline.{AlwaysOwned, Finishes, OnceOrReported}
use Rattle.mail_top.specs.KeptNow.{IsKeptNow, StaysKept}
use Rattle.mail_top.specs.Leaving.{OnTheWay, WordsKeep}
use Rattle.mail_top.specs.Played.{AreSynced, CameThrough}
use Rattle.mail_top.specs.Printing.{Prints, Writes}
use Rattle.mail_top.specs.Reading.{IsInput}
use Rattle.mail_top.specs.Telling.{TellsNoPlace}
use Rattle.mail_top.specs.Words.{WritesPlay}
use Rattle.mail_drill.specs.Alone.{is_alone}
use Rattle.mail_drill.specs.Came.{Runs}
use Rattle.mail_drill.specs.Ran.{Ran, course_from}
use Rattle.mail_drill.specs.Standing.{clock_of, now_of, seen_of}
use Rattle.mail_drill.specs.declared.quiet_world.QuietWorld.{QuietWorld}
use Rattle.mail_drill.proofs.Fair.{fair_alone}

-- where memory sufficed, nobody else has changed anything
pub alone_in : (w : QuietWorld) → w.short ≡ false → is_alone (clock_of w) ≡ true
alone_in w sufficed = subst (λ (short : Bool). (short || is_alone (clock_of w)) ≡ true) sufficed w.alone

-- The top call with these words in such a world, which gave this status. Its input was all to be read, and its sink was new.
module _ (account : Credentials) (words : List (List ℕ)) (given : List ℕ) (old new : QuietWorld) (s : Status) (rest : List ℕ) (read : rest ≡ given)
    (sink sink_after : Printed) (fresh : sink ≡ record { bytes = []; refused = 0 }) where
  -- its clause `goes`
  abbrev GoesSo : Type 0
  GoesSo = (input : List ℕ) × IsInput (Unit {0}) rest input × (text : List ℕ) × Goes account words input (course_from old new) s text
      × (Unit {0} → s ≡ status.Reply → TellsNoPlace text) × (Unit {0} → Prints s text sink.bytes sink_after.bytes sink.refused sink_after.refused)

  same_input : (goes : GoesSo) → Goes account words given (course_from old new) s goes.2
  same_input goes = subst (λ (input : List ℕ). Goes account words input (course_from old new) s goes.2) (goes.1 tt ∙ read) goes.3

  module _ (goes : GoesSo) (sufficed : new.short ≡ false) where
    time_grows : Grows (clock_of old) (clock_of new)
    time_grows = grows (OnTheWay words goes.0 (now_of old) (seen_of old)) (WordsKeep words goes.0) (clock_of old) (clock_of new) goes.3.every

    all_fair : AllFair mail played (clock_of old) (clock_of new)
    all_fair = fair_alone (clock_of old) (clock_of new) time_grows (alone_in new sufficed)

    module _ (one_side : Unit {0} → OneSideAtRest (now_of old) → OneSideAtRest (now_of new))
        (each_one_side : Unit {0} → OneSideAtRest (now_of old) → EachOneSide (clock_of old) (clock_of new))
        (joined : Unit {0} → OneSideAtRest (now_of old) → (books : Books mail) → HasBooks mail books (now_of old) → IsKeptNow (now_of old) →
        StaysKept (clock_of old) (clock_of new))
        (owned : Unit {0} → OneSideAtRest (now_of old) → (books : Books mail) → HasBooks mail books (now_of old) → IsKeptNow (now_of old) →
        (at : Clock) → Grows (clock_of old) at → Grows at (clock_of new) → AllFair mail played (clock_of old) at → AlwaysOwned (clock_of old) at)
        (synced : Unit {0} → WritesPlay words → CameThrough s → IsKeptNow (now_of old) → AllFair mail played (clock_of old) (clock_of new) →
        AreSynced (seen_of new) (clock_of old) (clock_of new))
        (finishes : Unit {0} → WritesPlay words → CameThrough s → Finishes (seen_of old) (seen_of new) (now_of new))
        (once_or_reported : Unit {0} → WritesPlay words → CameThrough s → IsKeptNow (now_of old) → AllFair mail played (clock_of old) (clock_of new) →
        OnceOrReported (seen_of old) (seen_of new) (now_of new)) where
      -- by its other clauses, as nobody else changed anything
      pub has_run : Ran account words given old new s
      has_run = record {
        sufficed = sufficed;
        text = goes.2;
        goes = same_input goes;
        one_side = one_side tt;
        each_one_side = each_one_side tt;
        joined = λ one books have is. joined tt one books have is (clock_of new) time_grows (grows_start (clock_of new)) all_fair;
        owned = λ one books have is. owned tt one books have is (clock_of new) time_grows (grows_start (clock_of new)) all_fair;
        synced = λ writes came is. synced tt writes came is all_fair;
        finishes = finishes tt;
        once_or_reported = λ writes came is. once_or_reported tt writes came is all_fair;
      }

-- where one side was at rest, and the books were known and kept, they are kept behind the call
pub kept_behind : (account : Credentials) (words : List (List ℕ)) (input : List ℕ) (old new : QuietWorld) (s : Status) → Ran account words input old new s →
    OneSideAtRest (now_of old) → (books : Books mail) → HasBooks mail books (now_of old) → IsKeptNow (now_of old) → IsKeptNow (now_of new)
kept_behind account words input old new s ran one books have kept =
    since_now IsKeptNow IsKeptNow (Joined mail played) (λ m n here step was. here) (clock_of old) kept (clock_of new)
    (ran.joined one books have kept)

-- what a sink that didn't fail has is the text
written_all : (text printed : List ℕ) (faults : ℕ) → faults ≡ 0 → Writes text [] printed 0 faults → printed ≡ text
written_all text printed faults none (inl all) = all
written_all text printed faults none (inr part) = absurd (let rose = part.0 (omega (arith, none)) in omega (arith, none, rose))

-- where a limit was passed, the run printed this line
pub passes_limit : (account : Credentials) (words : List (List ℕ)) (given : List ℕ) (old new : QuietWorld) (s : Status) (rest : List ℕ) (read : rest ≡ given)
    (sink sink_after : Printed) (fresh : sink ≡ record { bytes = []; refused = 0 }) → s ≡ status.Limit →
    GoesSo account words given old new s rest read sink sink_after fresh → sink_after.refused ≡ 0 → (line : List ℕ) → line ≡ sink_after.bytes →
    Runs words given old.world new.world status.Limit line
passes_limit account words given old new s rest read sink sink_after fresh is goes none line printed =
    let writes : Writes goes.2 sink.bytes sink_after.bytes sink.refused sink_after.refused =
    subst (λ (r : Status). Prints r goes.2 sink.bytes sink_after.bytes sink.refused sink_after.refused) is (goes.5 tt) in
    let prints : Writes goes.2 [] sink_after.bytes 0 sink_after.refused =
    subst (λ (x : Printed). Writes goes.2 x.bytes sink_after.bytes x.refused sink_after.refused) fresh writes in
    record {
      account = account;
      goes = subst (λ (text : List ℕ). Goes account words given (course_from old new) status.Limit text)
          (sym (printed ∙ written_all goes.2 sink_after.bytes sink_after.refused none prints))
          (subst (λ (r : Status). Goes account words given (course_from old new) r goes.2) is
          (same_input account words given old new s rest read sink sink_after fresh goes));
    }
