-- A play in a drill's world leaves its book to be played on, or played out.
use Rattle.std.proofs.Common.{inl, inr, ⊎_elim, ℕ, List, refl, subst}
use Rattle.mail_base.specs.Account.{Credentials}
use Rattle.mail_base.specs.declared.status.Status.{Status}
use Rattle.mail_base.specs.declared.status.Status.TheVariants as status
use Rattle.action_queue.specs.Book.{Meaning}
use Rattle.world_traits.specs.Moments.{MayLeave, Within}
use Rattle.world_mem.specs.Worlds.{course_of, seen_sound}
use Rattle.store_core.specs.Books.{HasBook}
use Rattle.store_core.specs.Mail.{mail}
use Rattle.store_core.proofs.Folding.{one_held}
use Rattle.store_core.proofs.MailBook.{one_mail_event}
use Rattle.play_driver.specs.Joining.{Grows}
use Rattle.play_driver.specs.Progress.{IsLater, IsPlaying}
use Rattle.play_driver.proofs.Parts.{grows, grows_start}
use Rattle.play_driver.proofs.Progressing.{later_then}
use Rattle.mail_top.specs.Course.{Course}
use Rattle.mail_top.specs.Ending.{Ends, EndsPlay, EndsRequest}
use Rattle.mail_top.specs.Leaving.{OnTheWay, WordsKeep}
use Rattle.mail_top.specs.Played.{CameThrough, SaysPlayed, SaysStopped}
use Rattle.mail_top.specs.Readying.{LeavesRead}
use Rattle.mail_top.specs.Runs.{at_once, by_run}
use Rattle.mail_top.specs.Words.{Play, Request, WritesPlay}
use Rattle.mail_top.proofs.KeptRuns.{cuts}
use Rattle.mail_top.proofs.Repeated.{follows_any}
use Rattle.mail_top.proofs.Wording.{one_request}
use Rattle.mail_drill.specs.Ran.{Ran, course_from}
use Rattle.mail_drill.specs.Standing.{IsPlayedOut, PlaysOn, clock_of, now_of, seen_of}
use Rattle.mail_drill.specs.declared.quiet_world.QuietWorld.{QuietWorld}
use Rattle.mail_drill.proofs.Courses.{kept_behind}
use Rattle.mail_drill.proofs.Mailboxes.{fits_behind}

-- Each image holds a book, or one further on, and the files read as one of them.
module _ (b : Meaning) (account : Credentials) (k : Course) (playing : IsPlaying b k.old.now) (reads : MayLeave k.old.now k.seen) where
  -- the book that they read as is this one, or one further on
  pub read_later : (c : Meaning) → HasBook mail c k.seen → IsLater b c
  read_later c holds =
      let there = playing.each k.seen reads in
      subst (λ (d : Meaning). IsLater b d) (one_held mail one_mail_event k.seen there.book c there.holds holds) there.later

  -- what goes on from the book that was read goes on from this one
  on_from : (c : Meaning) → HasBook mail c k.seen → IsPlaying c k.new.now → IsPlaying b k.new.now
  on_from c holds on = record {
    each = λ files h.
        let there = on.each files h in
        record { book = there.book; holds = there.holds; later = later_then b c there.book (read_later c holds) there.later };
  }

  fewer : Within k.old.now k.new.now → IsPlaying b k.new.now
  fewer within = record { each = λ files h. playing.each files (within.each files h) }

  on_played : (s : Status) (text : List ℕ) → SaysPlayed account k s text → IsPlaying b k.new.now
  on_played s text says = on_from says.opened.book says.read.holds (record {
    each = λ files h. record { book = says.store.book; holds = says.leaves.each.each files h; later = says.later };
  })

  on_stopped : (s : Status) (text : List ℕ) → SaysStopped account k s text → IsPlaying b k.new.now
  on_stopped s text says = on_from says.opened.book says.read.holds says.leaves

  on_read : LeavesRead k.old.now k.seen k.new.now → IsPlaying b k.new.now
  on_read (inl within) = fewer within
  on_read (inr left) = on_from left.book left.holds (record {
    each = λ files h. record {
      book = left.book;
      holds = left.leaves.each.each files h;
      later = record { names = refl; actions = refl; outcomes = λ i q there some. there };
    };
  })

  -- so each image does behind a play, however it ended
  pub play_leaves : (s : Status) (text : List ℕ) → EndsPlay account k s text → IsPlaying b k.new.now
  play_leaves status.Done text says = on_played status.Done text says
  play_leaves status.Conflicts text says = on_played status.Conflicts text says
  play_leaves status.Output text says = ⊎_elim (on_played status.Done text) (on_played status.Conflicts text) says
  play_leaves status.Disk text (inl failed) = on_read failed.says.leaves
  play_leaves status.Disk text (inr stopped) = on_stopped status.Disk text stopped
  play_leaves status.Link text says = on_stopped status.Link text says
  play_leaves status.Refused text says = on_stopped status.Refused text says
  play_leaves status.Reply text says = on_stopped status.Reply text says
  play_leaves status.Lacking text says = on_stopped status.Lacking text says
  play_leaves status.Validity text says = absurd says
  play_leaves status.Journal text says = fewer says.says.keeps.leaves
  play_leaves status.Memory text (inl wants) = fewer wants.says.keeps.leaves
  play_leaves status.Memory text (inr stopped) = on_stopped status.Memory text stopped
  play_leaves status.Limit text (inl older) = on_read (inr (record { book = older.says.book; holds = older.says.past.stays.holds; leaves = older.says.past.stays.leaves }))
  play_leaves status.Limit text (inr stopped) = on_stopped status.Limit text stopped
  play_leaves status.Words text says = absurd says
  play_leaves status.Reason text says = absurd says
  play_leaves status.Input text says = absurd says
  play_leaves status.Shelf text says = absurd says

-- the words ask for a play, and for nothing else
ends_play : (account : Credentials) (words : List (List ℕ)) (input : List ℕ) (k : Course) (s : Status) (text : List ℕ) → WritesPlay words →
    Ends account words input k s text → EndsPlay account k s text
ends_play account words input k s text writes (inl nothing) = absurd (nothing.nothing input Play writes)
ends_play account words input k s text writes (inr says) =
    subst (λ (q : Request). EndsRequest account q k s text) (one_request words input says.request Play says.asks writes) says.ends

-- A play of a book in a drill's world.
module _ (account : Credentials) (words : List (List ℕ)) (input : List ℕ) (old new : QuietWorld) (s : Status) (writes : WritesPlay words)
    (ran : Ran account words input old new s) (b : Meaning) (before : PlaysOn b old) where
  abbrev course : Course
  course = course_from old new

  reads : MayLeave (now_of old) (seen_of old)
  reads = seen_sound (course_of old.world)

  grown : Grows (clock_of old) (clock_of new)
  grown = grows (OnTheWay words input (now_of old) (seen_of old)) (WordsKeep words input) (clock_of old) (clock_of new) ran.goes.every

  -- however it ended, it may be played on
  pub plays_on : PlaysOn b new
  plays_on = record {
    ready = follows_any (now_of old) (now_of new) before.ready
        (by_run words input (seen_of old) (clock_of old) (clock_of new) (clock_of new) at_once reads
        (cuts account words input course s ran.text ran.goes ran.each_one_side (clock_of new) grown (grows_start (clock_of new))));
    playing = play_leaves b account course before.playing reads s ran.text (ends_play account words input course s ran.text writes ran.goes.ends);
    kept = kept_behind account words input old new s ran before.ready.one_side before.ready.books before.ready.have before.kept;
    fits = fits_behind account words input old new s ran before.ready.one_side before.ready.books before.ready.have before.kept before.fits;
    sufficed = ran.sufficed;
  }

  -- where it came to its end, the book is played out
  pub played_out : CameThrough s → IsPlayedOut b new
  played_out came =
      let told = ran.once_or_reported writes came before.kept in
      record {
        book = told.finished.book;
        later = later_then b told.finished.entry told.finished.book
            (read_later b account course before.playing reads told.finished.entry told.finished.read) told.finished.later;
        holds = told.finished.holds;
        leaves = told.finished.leaves;
        settled = told.finished.settled;
        owned = told.owned;
        each = told.each;
        sufficed = ran.sufficed;
      }
