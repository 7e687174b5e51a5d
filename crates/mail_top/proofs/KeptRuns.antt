-- Runs one behind another keep each moment, where others are fair: so no action takes effect twice over any of them.
use Rattle.std.proofs.Common.{◌≤◌, ℕ, List, [], length, refl}
use Rattle.mail_base.specs.Account.{Credentials}
use Rattle.mail_base.specs.declared.status.Status.{Status}
use Rattle.imap_model.specs.Ours.{ours}
use Rattle.imap_model.specs.Talking.{Connecting}
use Rattle.world_traits.specs.Files.{Files}
use Rattle.world_traits.specs.Links.{Any}
use Rattle.world_traits.specs.Moments.{Moment, MayLeave, Clock, OneSideAtRest}
use Rattle.world_traits.proofs.Keeping.{since_now}
use Rattle.journal_core.specs.OneSide.{AnyNext, EachOneSide}
use Rattle.book_laws.specs.Kept.{Kept}
use Rattle.book_laws.specs.Machine.{State, Firm as Held}
use Rattle.book_laws.proofs.Twice.{never_twice}
use Rattle.store_core.specs.Mail.{mail}
use Rattle.store_core.specs.Steps.{Books, Firm, Begun}
use Rattle.store_core.specs.Taking.{HasBooks}
use Rattle.store_core.proofs.MailBook.{one_mail_event}
use Rattle.play_driver.specs.Joining.{Grows, Joined}
use Rattle.play_driver.specs.Played.{played}
use Rattle.play_driver.proofs.Calls.{stop_keeps}
use Rattle.play_driver.proofs.Links.{books_there, fair_books}
use Rattle.play_driver.proofs.Parts.{grows, since_first, since_second}
use Rattle.play_driver.proofs.Questions.{connecting_steps}
use Rattle.play_driver.proofs.Steps.{joined_keeps}
use Rattle.mail_top.specs.Course.{Course}
use Rattle.mail_top.specs.FairRuns.{FairRun, FairlyGoesOn, FollowsFairly, between}
use Rattle.mail_top.specs.FairRuns.FollowsFairly.{at_once as no_run, by_run as fair_run, by_stop as a_stop, by_others as fair_others}
use Rattle.mail_top.specs.Going.{Goes}
use Rattle.mail_top.specs.KeptNow.{IsKeptNow}
use Rattle.mail_top.specs.Leaving.{OnTheWay, WordsKeep, WordsStep}
use Rattle.mail_top.specs.Runs.{CutOff, Follows, at_once, by_run, by_stop, by_others, IsReady, AnyBook}
use Rattle.mail_top.proofs.Between.{between_withstood}
use Rattle.mail_top.proofs.Repeated.{follows_any}

-- A run that went as `run` promises may be cut off at any clock on its way.
pub cuts : (account : Credentials) (words : List (List ℕ)) (input : List ℕ) (k : Course) (s : Status) (text : List ℕ) →
    Goes account words input k s text → (OneSideAtRest k.old.now → EachOneSide k.old k.new) → (at : Clock) → Grows k.old at → Grows at k.new →
    CutOff words input k.seen k.old at k.new
cuts account words input k s text goes sides at before after = record {
  before = record {
    keeps = since_first (OnTheWay words input k.old.now k.seen) (WordsKeep words input) k.old at k.new before after goes.every;
    one_side = λ one. since_first OneSideAtRest AnyNext k.old at k.new before after (sides one);
    books = λ one books have. since_first Any (WordsStep words input) k.old at k.new before after (goes.books one books have);
  };
  after = record {
    keeps = since_second (OnTheWay words input k.old.now k.seen) (WordsKeep words input) k.old at k.new before after goes.every;
    one_side = λ one. since_second OneSideAtRest AnyNext k.old at k.new before after (sides one);
    books = λ one books have. since_second Any (WordsStep words input) k.old at k.new before after (goes.books one books have);
  };
}

-- others who are fair are others
pub fair_follows : (first last : Moment) → FollowsFairly first last → Follows first last
fair_follows first last no_run = at_once
fair_follows first last (fair_run words input seen old at new so_far reads run) =
    by_run words input seen old at new (fair_follows first old.now so_far) reads run.cut
fair_follows first last (a_stop m files so_far leaves) = by_stop m files (fair_follows first m so_far) leaves
fair_follows first last (fair_others m n so_far on) =
    by_others m n (fair_follows first m so_far) (record { left = on.step.left; right = on.step.right })

fair_ready : (first last : Moment) → IsReady AnyBook first → FollowsFairly first last → IsReady AnyBook last
fair_ready first last ready follows = follows_any first last ready (fair_follows first last follows)

-- what a run keeps to its end it keeps up to the clock at which it was cut off
kept_run : (words : List (List ℕ)) (input : List ℕ) (seen : Files) (old at new : Clock) → FairRun words input seen old at new →
    IsReady AnyBook old.now → IsKeptNow old.now → IsKeptNow at.now
kept_run words input seen old at new run ready kept =
    since_now IsKeptNow IsKeptNow (Joined mail played) (λ m n here step so_far. here) old kept at
    (run.joined ready.one_side ready.books ready.have kept at
    (grows (OnTheWay words input old.now seen) (WordsKeep words input) old at run.cut.before.keeps)
    (grows (OnTheWay words input old.now seen) (WordsKeep words input) at new run.cut.after.keeps) run.fair)

-- between two runs
kept_on : (m n : Moment) → FairlyGoesOn m n → IsReady AnyBook m → IsKeptNow m → IsKeptNow n
kept_on m n on ready kept =
    joined_keeps mail between Kept between_withstood one_mail_event m n (record {
      old = ready.books;
      new = ready.books;
      at_old = ready.have;
      at_new = books_there Connecting m n on.step mail ready.books ready.have;
      step = connecting_steps mail between ready.books m.outside n.outside on.step.outside (fair_books mail between ready.books m n ready.have on.fair);
    }) kept

pub follows_kept : (first last : Moment) → IsReady AnyBook first → IsKeptNow first → FollowsFairly first last → IsKeptNow last
follows_kept first last ready kept no_run = kept
follows_kept first last ready kept (fair_run words input seen old at new so_far reads run) =
    kept_run words input seen old at new run (fair_ready first old.now ready so_far) (follows_kept first old.now ready kept so_far)
follows_kept first last ready kept (a_stop m files so_far leaves) =
    stop_keeps mail Kept m files leaves (follows_kept first m ready kept so_far)
follows_kept first last ready kept (fair_others m n so_far on) =
    kept_on m n on (fair_ready first m ready so_far) (follows_kept first m ready kept so_far)

image_few : (m : Moment) (files : Files) → MayLeave m files → IsKeptNow m → (n : ℕ) → length (ours n m.outside.server.history) ≤ 1
image_few m files leaves kept n =
    let there = kept.each files leaves in
    let x : State = record { books = Held there.book; server = m.outside.server; waiting = m.outside.waiting } in
    never_twice [] x x refl there.related n

books_few : (x : Books mail) (m : Moment) → HasBooks mail x m → IsKeptNow m → (n : ℕ) → length (ours n m.outside.server.history) ≤ 1
books_few (Firm b) m have kept n = image_few m have.some.files have.some.leaves kept n
books_few (Begun b c) m have kept n = image_few m have.before.files have.before.leaves kept n

pub follows_few : (first last : Moment) → IsReady AnyBook first → IsKeptNow first → FollowsFairly first last → (n : ℕ) →
    length (ours n last.outside.server.history) ≤ 1
follows_few first last ready kept follows n =
    let there = fair_ready first last ready follows in
    books_few there.books last there.have (follows_kept first last ready kept follows) n
