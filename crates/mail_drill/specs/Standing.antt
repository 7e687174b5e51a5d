-- How a drill's world stands between two of its commands, and between two rounds.
use Rattle.std.specs.Prelude.{◌≡◌, ℕ, suc, false, ◌&&◌, nat_le, is_some, List, codes, slice_get, Some, ⊤}
use Rattle.imap_model.specs.Ours.{ours}
use Rattle.mailbox_cache.specs.Rows.{row_at}
use Rattle.mailbox_cache.specs.declared.cache.Cache.{Cache}
use Rattle.action_queue.specs.Book.{Meaning, cache_at}
use Rattle.action_queue.specs.Queues.{AllOpen, AllSettled}
use Rattle.action_queue.specs.declared.queued.Queued.{Queued}
use Rattle.world_traits.specs.Files.{Files}
use Rattle.world_traits.specs.Moments.{Clock, Moment, OneSideAtRest}
use Rattle.world_mem.specs.Worlds.{run_in}
use Rattle.book_laws.specs.Once.{AllOwned}
use Rattle.store_core.specs.Books.{HasBook}
use Rattle.store_core.specs.Mail.{mail}
use Rattle.store_core.specs.Steps.{Firm}
use Rattle.store_core.specs.Taking.{HasBooks}
use Rattle.play_driver.specs.Joining.{IsKept}
use Rattle.play_driver.specs.Progress.{IsLater, IsPlaying, actions_of, box_names}
use Rattle.mail_top.specs.Headline.{IsOnceOrReported}
use Rattle.mail_top.specs.KeptNow.{IsKeptNow}
use Rattle.mail_top.specs.Runs.{AnyBook, IsReady}
use Rattle.mail_drill.specs.Asked.{actions_for}
use Rattle.mail_drill.specs.Mailboxes.{BothFit, both_names}
use Rattle.mail_drill.specs.declared.orders.Order.{Order}
use Rattle.mail_drill.specs.declared.played.Broken.{Broken}
use Rattle.mail_drill.specs.declared.played.Broken.TheVariants as brokens
use Rattle.mail_drill.specs.declared.quiet_world.QuietWorld.{QuietWorld}

-- its moments, the last of them, and what its files read as
abbrev pub clock_of : QuietWorld → Clock
clock_of w = (run_in w.world).clock

abbrev pub now_of : QuietWorld → Moment
now_of w = (clock_of w).now

abbrev pub seen_of : QuietWorld → Files
seen_of w = (run_in w.world).seen

-- Each stop leaves this book, which the files read as, and it is kept beside the server, whose mailboxes it fits; and one side is at rest.
-- Memory sufficed so far.
pub record HasOne (b : Meaning) (w : QuietWorld) : Type 0 where
  pub one_side : OneSideAtRest (now_of w)
  pub leaves : HasBooks mail (Firm (Some b)) (now_of w)
  pub reads : HasBook mail b (seen_of w)
  pub kept : IsKeptNow (now_of w)
  pub fits : IsKept mail BothFit (now_of w)
  pub sufficed : w.short ≡ false

-- The book has both mailboxes, and a cache of INBOX: so many messages, by the UIDs from 1.
pub record Knows (size : ℕ) (b : Meaning) : Type 0 where
  pub names : box_names b ≡ both_names
  pub inbox : Cache
  pub has_inbox : cache_at (codes "INBOX") b.boxes ≡ Some inbox
  pub validity : inbox.validity ≡ 5
  pub uids : (uid : ℕ) → is_some (row_at uid inbox.rows) ≡ (nat_le 1 uid && nat_le uid size)

-- The book's actions are what these commands ask for, and none has an outcome.
pub record HasAsked (os : List Order) (b : Meaning) : Type 0 where
  pub asked : actions_of b ≡ actions_for os
  pub unsettled : AllOpen b.queue

-- Each stop leaves this book, or one further on, which is kept beside the server, whose mailboxes it fits; and one side is at rest. Memory
-- sufficed so far.
pub record PlaysOn (b : Meaning) (w : QuietWorld) : Type 0 where
  pub ready : IsReady AnyBook (now_of w)
  pub playing : IsPlaying b (now_of w)
  pub kept : IsKeptNow (now_of w)
  pub fits : IsKept mail BothFit (now_of w)
  pub sufficed : w.short ≡ false

-- This book is the other one, with an outcome for each of its actions, which the changes at the server fit. Each stop leaves it.
pub record IsPlayedOut (b : Meaning) (w : QuietWorld) : Type 0 where
  pub book : Meaning
  pub later : IsLater b book
  pub holds : HasBook mail book (seen_of w)
  pub leaves : HasBooks mail (Firm (Some book)) (now_of w)
  pub settled : AllSettled book.queue
  pub owned : AllOwned book.queue (now_of w).outside.server.history
  pub each : (place : ℕ) (queued : Queued) → slice_get book.queue place ≡ Some queued →
      IsOnceOrReported queued (ours (suc place) (now_of w).outside.server.history)
  pub sufficed : w.short ≡ false

-- where a limit was passed, this is so of the line that was printed
abbrev pub IsBrokenAs : (List ℕ → Type 0) → Broken → Type 0
IsBrokenAs P brokens.Memory = ⊤
IsBrokenAs P (brokens.Limit line) = P line
IsBrokenAs P (brokens.Unforeseen s) = ⊤
