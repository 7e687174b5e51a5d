-- The journal stays whole whatever a server sends.
use Rattle.std.proofs.Common.{◌≡◌, inl, ⊎_elim, refl, ap, subst}
use Rattle.world_traits.specs.Files.{Files}
use Rattle.world_traits.specs.LinkState.{LinkState}
use Rattle.world_traits.specs.Moments.{Moment, MayLeave, Clock, Images, Narrows, Since, Within}
use Rattle.world_traits.specs.declared.clocked.Clocked.{Ghosts}
use Rattle.world_traits.proofs.Keeping.{since_all}
use Rattle.world_traits.proofs.Passing.{since_start, since_weaker}
use Rattle.journal_core.specs.Creating.{IsTaken}
use Rattle.action_queue.specs.Book.{Meaning, after}
use Rattle.store_core.specs.Mail.{mail}
use Rattle.store_core.specs.Books.{HasBook}
use Rattle.store_core.specs.HeldActions.{HasAction, KeepsActions}
use Rattle.store_core.proofs.Folding.{one_held}
use Rattle.store_core.proofs.Holds.{within_keeps_actions}
use Rattle.store_core.proofs.MailBook.{one_mail_event}
use Rattle.play_driver.specs.Joining.{AnyTwo}
use Rattle.play_driver.specs.SendsOnce.{SendsOnce}
use Rattle.mail_top.specs.Actions.{accepts}
use Rattle.mail_top.specs.AnyServer.{HoldsOn, IsWhole, StandsAny, StaysWhole}
use Rattle.mail_top.specs.Readying.{LeavesBook, LeavesRead}
use Rattle.mail_top.specs.Leaving.{IsAdding, IsPlayingRead, KeepsStep, LosesNone, MayBeLeft}
use Rattle.mail_top.specs.Showing.{OnlyReads}
use Rattle.mail_top.specs.Words.{Wanted, Act, Play}
use Rattle.mail_top.proofs.Repeated.{held_self, held_then}

-- an image that holds a book holds it with all that each image of the entry does
holds_on : (entry m : Moment) → IsWhole m → LosesNone entry m → Images (HoldsOn entry) m
holds_on entry m whole none = record {
  each = λ files h. let here = whole.each files h in record {
    book = here.book;
    holds = here.holds;
    begins = λ place action named held.
        let there = (none.held place action named held).each files h in
        subst (λ (b : Meaning). HasAction place action named b) (one_held mail one_mail_event files there.book here.book there.holds here.holds) there.has;
  };
}

-- moments at each of which each image holds a book, and between which no action is lost
stays_whole : (P : Moment → Type 0) (S : Moment → Moment → Type 0) → ((m : Moment) → P m → IsWhole m) → ((m n : Moment) → S m n → LosesNone m n) →
    (k l : Clock) → Since P S k l → StaysWhole k l
stays_whole P S holds loses k l s =
    since_weaker (λ m. P m × LosesNone k.now m) (Images (HoldsOn k.now)) S AnyTwo
    (λ m p. holds_on k.now m (holds m p.0) p.1) (λ m n step. tt) k l
    (since_all P (λ m. LosesNone k.now m) S (λ m n p step so_far. held_then k.now m n so_far (loses m n step)) k (held_self k.now) l s)

keeps_loses : (m n : Moment) → KeepsActions m n → LosesNone m n
keeps_loses m n step = record { held = step.held }

within_loses : (m n : Moment) → Within m n → LosesNone m n
within_loses m n step = keeps_loses m n (within_keeps_actions m n step)

module _ (entry : Moment) (seen : Files) (was : IsWhole entry) where
  within_whole : (m : Moment) → Within entry m → IsWhole m
  within_whole m w = record { each = λ files h. was.each files (w.each files h) }

  adding_whole : (wanted : Wanted) (m : Moment) → IsAdding wanted seen m → IsWhole m
  adding_whole wanted m a = record {
    each = λ files h. ⊎_elim (λ (b : HasBook mail a.book files). record { book = a.book; holds = b })
        (λ (b : HasBook mail (after a.book (accepts a.book a.action)) files). record { book = after a.book (accepts a.book a.action); holds = b })
        (a.taking.each files h);
  }

  playing_whole : (m : Moment) → IsPlayingRead seen m → IsWhole m
  playing_whole m p = record { each = λ files h. let held = p.playing.each files h in record { book = held.book; holds = held.holds } }

  book_whole : (m : Moment) → LeavesBook seen m → IsWhole m
  book_whole m b = record { each = λ files h. record { book = b.book; holds = b.leaves.each.each files h } }

  read_whole : (m : Moment) → LeavesRead entry seen m → IsWhole m
  read_whole m left = ⊎_elim (within_whole m) (book_whole m) left

  act_left : (wanted : Wanted) (m : Moment) → MayBeLeft (Act wanted) entry seen m → IsWhole m
  act_left wanted m left = ⊎_elim (read_whole m) (adding_whole wanted m) left

  play_left : (m : Moment) → MayBeLeft Play entry seen m → IsWhole m
  play_left m left = ⊎_elim (within_whole m) (playing_whole m) left

-- so it is of an action that is asked for, of `play`, and of what only reads
module _ (seen : Files) (k l : Clock) (was : IsWhole k.now) where
  pub act_whole : (wanted : Wanted) → Since (MayBeLeft (Act wanted) k.now seen) (KeepsStep (Act wanted)) k l → StaysWhole k l
  act_whole wanted keeps =
      stays_whole (MayBeLeft (Act wanted) k.now seen) (KeepsStep (Act wanted)) (act_left k.now seen was wanted) (λ m n step. step.loses_none) k l keeps

  pub play_whole : Since (MayBeLeft Play k.now seen) (KeepsStep Play) k l → StaysWhole k l
  play_whole keeps = stays_whole (MayBeLeft Play k.now seen) (KeepsStep Play) (play_left k.now seen was) (λ m n step. step.loses_none) k l keeps

  pub reads_whole : OnlyReads k l → StaysWhole k l
  reads_whole reads = stays_whole (Within k.now) KeepsActions (within_whole k.now seen was) keeps_loses k l reads.keeps

  -- files that hold a book are taken, so none is set up there; and what is read as a command begins is an image
  pub init_whole : MayLeave k.now seen → (IsTaken seen → Narrows k l) → StaysWhole k l
  init_whole leaves narrows =
      let read = (was.each seen leaves).holds in
      stays_whole (Within k.now) Within (within_whole k.now seen was) within_loses k l
      (narrows (record {
        right = read.holds.present.right;
        side = read.holds.side;
        version = read.version;
        generation = read.holds.generation;
        set_up = read.holds.present.set_up;
      }))

pub narrows_start : (k : Clock) → Narrows k k
narrows_start k = since_start (Within k.now) Within k

-- a link that stays sends nothing
pub none_sent : (k l : LinkState) → l ≡ k → SendsOnce k l
none_sent k l same = inl (record { sent = ap (λ (s : LinkState). s.sent) same; earlier = ap (λ (s : LinkState). s.earlier) same })

-- and what is sent once behind one that stayed is sent once in all
pub then_sends : (k l n : LinkState) → l ≡ k → SendsOnce l n → SendsOnce k n
then_sends k l n same sends = subst (λ (s : LinkState). SendsOnce s n) same sends

-- nothing happened
pub any_none : {Self : Type 0} (W : Ghosts Self) (world : Self) → StandsAny W world world
any_none W world = record {
  whole = λ was. since_start (Images (HoldsOn (W.clock world).now)) AnyTwo (W.clock world);
  once = none_sent (W.link world) (W.link world) refl;
}
