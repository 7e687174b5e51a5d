-- What becomes of a book that is played back: what a stop leaves, which steps it takes, and what it came to.
use Rattle.std.proofs.Common.{◌≡◌, ◌⊎◌, inl, inr, Bool, Some, Result, Err, refl, subst}
use Rattle.std.specs.Prelude.{slice_get}
use Rattle.world_traits.specs.Files.{Files}
use Rattle.world_traits.specs.Links.{Any}
use Rattle.world_traits.specs.Moments.{Moment, Clock, Since, OneSideAtRest}
use Rattle.world_traits.proofs.Keeping.{since_now}
use Rattle.world_traits.proofs.Passing.{since_then, since_weaker}
use Rattle.world_traits.proofs.Traces.{carried_now}
use Rattle.journal_core.specs.OneSide.{AnyNext, EachOneSide}
use Rattle.action_queue.specs.Book.{Meaning}
use Rattle.book_laws.specs.Kept.{Kept}
use Rattle.store_core.specs.Mail.{mail}
use Rattle.store_core.specs.Books.{HasBook}
use Rattle.store_core.specs.HeldActions.{KeepsActions}
use Rattle.store_core.specs.Holding.{Holding, IsAsLeft}
use Rattle.store_core.specs.Steps.{Firm, MakesFirm, Chooses}
use Rattle.store_core.specs.Taking.{HasBooks, ChoosesStep}
use Rattle.store_core.proofs.Choosing.{only_left}
use Rattle.store_core.proofs.Folding.{one_held}
use Rattle.store_core.proofs.MailBook.{one_mail_event}
use Rattle.play_driver.specs.Joining.{AllFair, IsFair}
use Rattle.play_driver.specs.Played.{played}
use Rattle.play_driver.specs.Progress.{BeginsPlay, IsPlaying, PlayStep, Progresses}
use Rattle.play_driver.specs.Settled.{AreSyncedBehind}
use Rattle.play_driver.specs.Surely.{EndSurely}
use Rattle.play_driver.specs.TrueRecords.{RecordsTruly, StopsTruly}
use Rattle.play_driver.specs.declared.fault.PlayFault.{PlayFault}
use Rattle.play_driver.specs.declared.fault.PlayFault.TheVariants as faults
use Rattle.play_driver.proofs.Calls.{chooses_stays, stays_then}
use Rattle.play_driver.proofs.Parts.{grows, grows_then, since_second}
use Rattle.play_driver.proofs.PlayedKept.{withstood}
use Rattle.mail_top.specs.Connecting.{SameOutside}
use Rattle.mail_top.specs.KeptNow.{IsKeptNow, StaysKept}
use Rattle.mail_top.specs.Leaving.{MayBeLeft, KeepsStep, BeginsDue, RequestStep}
use Rattle.mail_top.specs.Played.{AreSynced}
use Rattle.mail_top.specs.Readying.{LeavesRead}
use Rattle.mail_top.specs.SurePlay.{EndsSurely}
use Rattle.mail_top.specs.TruePlay.{OnlyReadies, OpensBook, PlaysTruly}
use Rattle.mail_top.specs.TruePlay.PlaysTruly.{recorded, cut}
use Rattle.mail_top.specs.Words.{Play}
use Rattle.mail_top.proofs.Losing.{loses_none}
use Rattle.mail_top.proofs.Moving.{chooses_steps, keeps_steps, steps_then}
use Rattle.mail_top.proofs.Openings.{opened_book}

-- a step of playback is one of `play`
play_step : (m n : Moment) → PlayStep m n → RequestStep Play m n
play_step m n s = record { old = s.old; new = s.new; at_old = s.at_old; at_new = s.at_new; step = by_step s.step; outside = tt }
  where
    by_step : (s.new ≡ s.old) ⊎ BeginsPlay s.old s.new ⊎ MakesFirm mail s.old s.new →
        (s.new ≡ s.old) ⊎ BeginsDue Play s.old s.new ⊎ MakesFirm mail s.old s.new ⊎ ((first : Bool) × Chooses mail first s.old s.new)
    by_step (inl same) = inl same
    by_step (inr (inl b)) = inr (inl (record { version = b.version; event = b.event; begins = b.begins; due = b.of_play }))
    by_step (inr (inr firm)) = inr (inr (inl firm))

-- a book that each stop leaves is played from, or as it was
left_read : (entry : Moment) (seen : Files) (m : Moment) → LeavesRead entry seen m → MayBeLeft Play entry seen m
left_read entry seen m (inl within) = inl within
left_read entry seen m (inr left) = inr (record {
  book = left.book;
  holds = left.holds;
  playing = record {
    each = λ files h. record {
      book = left.book;
      holds = left.leaves.each.each files h;
      later = record { names = refl; actions = refl; outcomes = λ i q there some. there };
    };
  };
})

-- the moments in which the journal is made ready
pub ready_keeps : (entry : Moment) (seen : Files) (k l : Clock) → Since (LeavesRead entry seen) KeepsActions k l →
    Since (MayBeLeft Play entry seen) (KeepsStep Play) k l
ready_keeps entry seen k l readies = keeps_steps Play (LeavesRead entry seen) (MayBeLeft Play entry seen) (left_read entry seen) k l readies

pub opening_joined : (k l : Clock) → IsKeptNow k.now → Since Any (ChoosesStep mail) k l → StaysKept k l
opening_joined k l kept opens = chooses_stays mail one_mail_event Kept played withstood k l kept opens

-- and what is played behind it
pub play_steps : (b : Meaning) (k l n : Clock) → Since Any (ChoosesStep mail) k l → Progresses b l n → Since Any (RequestStep Play) k n
play_steps b k l n opens goes =
    steps_then Play k l n (chooses_steps Play k l opens) (since_weaker (IsPlaying b) Any PlayStep (RequestStep Play) (λ m p. tt) play_step l n goes)

module _ (b : Meaning) (seen : Files) (holds : HasBook mail b seen) where
  -- what a stop leaves then, and behind it
  pub play_keeps : (entry : Moment) (k l n : Clock) → Since (LeavesRead entry seen) KeepsActions k l → Progresses b l n →
      Since (MayBeLeft Play entry seen) (KeepsStep Play) k n
  play_keeps entry k l n readies goes =
      since_then (MayBeLeft Play entry seen) (KeepsStep Play) k l n
      (ready_keeps entry seen k l readies)
      (since_weaker (IsPlaying b) (MayBeLeft Play entry seen) PlayStep (KeepsStep Play) (λ m p. inr (record { book = b; holds = holds; playing = p }))
      (λ m n s. record { loses_none = loses_none Play m n (play_step m n s); outside = tt }) l n goes)

-- at the end it is still so
pub playing_now : (b : Meaning) (k l : Clock) → IsPlaying b k.now → Progresses b k l → IsPlaying b l.now
playing_now b k l start s = carried_now (IsPlaying b) (IsPlaying b) PlayStep (λ m n p s q. p) k start l s

-- a book that each stop leaves
pub playing_start : (store : Holding mail) (m : Moment) (seen : Files) → IsAsLeft mail store m seen → IsPlaying store.book m
playing_start store m seen left = record {
  each = λ files h. record {
    book = store.book;
    holds = (only_left mail store m seen left).each.each files h;
    later = record { names = refl; actions = refl; outcomes = λ i q there some. there };
  };
}

-- that, and a run behind it
pub play_joined : (b : Meaning) (k l n : Clock) → IsKeptNow k.now → Since Any (ChoosesStep mail) k l → Progresses b l n →
    (IsKeptNow l.now → StaysKept l n) → StaysKept k n
play_joined b k l n kept opens goes run =
    stays_then mail Kept played k l n kept (grows Any (ChoosesStep mail) k l opens) (grows (IsPlaying b) PlayStep l n goes)
    (opening_joined k l kept opens) run

-- the fairness of others in the run behind it
pub play_fair : (b : Meaning) (entry : Moment) (seen : Files) (k l n : Clock) → Since (LeavesRead entry seen) KeepsActions k l → Progresses b l n →
    AllFair mail played k n → AllFair mail played l n
play_fair b entry seen k l n readies goes fair =
    since_second Any (IsFair mail played) k l n (grows (LeavesRead entry seen) KeepsActions k l readies) (grows (IsPlaying b) PlayStep l n goes) fair

-- what was synced behind it was so in the whole call
pub play_synced : (later : Holding mail) (entry m : Moment) (read seen : Files) (k l n : Clock) → Since (LeavesRead entry read) KeepsActions k l →
    IsAsLeft mail later m seen → AreSyncedBehind l n later.book → AreSynced seen k n
play_synced later entry m read seen k l n readies left s = record {
  book = later.book;
  holds = opened_book later m seen seen left refl;
  behind = record {
    from = s.from;
    later = grows_then k l s.from (grows (LeavesRead entry read) KeepsActions k l readies) s.later;
    before = s.before;
    settled = s.settled;
    each = s.each;
  };
}

-- each of the two files holds one book: what is so of the books that are known is so of those that are held
module _ (seen after : Files) where
  pub surely_played : {b c : Meaning} → HasBook mail b seen → HasBook mail c after → EndSurely b c → EndsSurely seen after
  surely_played {b} {c} read holds sure = record {
    surely = λ entry book p q.
        subst (λ (x : Meaning). EndSurely x book) (one_held mail one_mail_event seen b entry read p)
        (subst (λ (x : Meaning). EndSurely b x) (one_held mail one_mail_event after c book holds q) sure);
  }

  -- nothing was recorded
  pub surely_unopened : after ≡ seen → EndsSurely seen after
  surely_unopened same = record {
    surely = λ entry book p q i queued kind there is unsure.
        inl (subst (λ (x : Meaning). slice_get x.queue i ≡ Some queued)
        (one_held mail one_mail_event seen book entry (subst (HasBook mail book) same q) p) there);
  }

-- making the journal ready does nothing more
pub only_readies : (seen : Files) (k l : Clock) → Since (LeavesRead k.now seen) KeepsActions k l → OnlyReadies seen k l
only_readies seen k l readies =
    since_weaker (LeavesRead k.now seen) (LeavesRead k.now seen) KeepsActions SameOutside (λ m p. p) (λ m n step. step.outside) k l readies

-- and behind it each stop leaves the book as read
pub readies_book : (store : Holding mail) (now seen : Files) (k l : Clock) → Since (LeavesRead k.now seen) KeepsActions k l → HasBook mail store.book seen →
    IsAsLeft mail store l.now now → OpensBook store.book seen k l
readies_book store now seen k l readies holds left = record {
  opens = only_readies seen k l readies;
  holds = holds;
  leaves = only_left mail store l.now now left;
}

-- A run that ended early recorded truly, also where the disk ended it.
module _ {S : Type 0} (o : Result S PlayFault) (seen : Files) (k l n : Clock) (b c : Meaning) (opens : OpensBook b seen k l)
    (truly : (o ≡ Err faults.Disk → ⊥) → RecordsTruly b c l n) (stops : o ≡ Err faults.Disk → StopsTruly b c l n)
    (leaves : (o ≡ Err faults.Disk → ⊥) → HasBooks mail (Firm (Some c)) n.now) where
  undamaged : (o ≡ Err faults.Disk → ⊥) → PlaysTruly seen k n
  undamaged other = recorded b c l opens (truly other) (leaves other)

  pub truly_stopped : (x : PlayFault) → o ≡ Err x → PlaysTruly seen k n
  truly_stopped faults.Disk was = cut b c l opens (stops was)
  truly_stopped faults.Memory was = undamaged (λ is. cc (was, is))
  truly_stopped faults.Link was = undamaged (λ is. cc (was, is))
  truly_stopped (faults.Refused line) was = undamaged (λ is. cc (was, is))
  truly_stopped (faults.BadReply why) was = undamaged (λ is. cc (was, is))
  truly_stopped (faults.Lacking what) was = undamaged (λ is. cc (was, is))
  truly_stopped (faults.Limit which number) was = undamaged (λ is. cc (was, is))

-- a side is at rest at the end
pub one_last : (k l : Clock) → OneSideAtRest k.now → EachOneSide k l → OneSideAtRest l.now
one_last k l start each = since_now OneSideAtRest OneSideAtRest AnyNext (λ m n p s q. p) k start l each
