-- What a drill's world holds behind its first command, which sets up the journal.
use Rattle.std.proofs.Common.{◌≡◌, ℕ, List, None, Some, sym, subst}
use Rattle.imap_model.specs.Talking.{Peer}
use Rattle.world_traits.specs.Moments.{OneSideAtRest}
use Rattle.world_traits.proofs.Choosing.{rests_only}
use Rattle.world_traits.proofs.Keeping.{since_now}
use Rattle.world_traits.proofs.OneSide.{one_at_rest}
use Rattle.world_mem.specs.Worlds.{course_of, seen_sound}
use Rattle.mail_base.specs.Account.{Credentials}
use Rattle.mail_base.specs.declared.status.Status.TheVariants as status
use Rattle.action_queue.specs.Book.{begun}
use Rattle.store_core.specs.Books.{HoldsBook}
use Rattle.store_core.specs.Mail.{mail}
use Rattle.store_core.specs.Steps.{Firm}
use Rattle.store_core.specs.Taking.{HasBooks}
use Rattle.play_driver.specs.Joining.{Joined}
use Rattle.play_driver.specs.Played.{played}
use Rattle.play_driver.proofs.Kept.{books_kept}
use Rattle.mail_top.specs.Course.{OnFiles}
use Rattle.mail_top.specs.KeptNow.{IsKeptNow}
use Rattle.mail_top.specs.Saying.{SaysReady}
use Rattle.mail_top.specs.Words.{Init, WritesInit}
use Rattle.mail_top.proofs.Endings.{ended_as}
use Rattle.mail_drill.specs.Beginning.{IsNew, moment_of}
use Rattle.mail_drill.specs.Came.{files_of}
use Rattle.mail_drill.specs.Mailboxes.{BothFit, FitsBoth}
use Rattle.mail_drill.specs.Ran.{Ran, course_from}
use Rattle.mail_drill.specs.Standing.{HasOne, clock_of, now_of, seen_of}
use Rattle.mail_drill.specs.declared.quiet_world.QuietWorld.{QuietWorld}

-- A command that sets up the journal for these names was done.
module _ (account : Credentials) (words : List (List ℕ)) (input : List ℕ) (names : List (List ℕ)) (writes : WritesInit words names)
    (old new : QuietWorld) (ran : Ran account words input old new status.Done) where
  set_up_said : OnFiles (course_from old new) (SaysReady names (course_from old new) ran.text)
  set_up_said = ended_as account words input (course_from old new) status.Done ran.text (Init names) writes ran.goes.ends (λ is. absurd cc)

  -- what isn't on the disk is as it was
  pub set_up_outside : (now_of new).outside ≡ (now_of old).outside
  set_up_outside = set_up_said.outside

  -- and the journal holds the book of the names
  pub set_up_one : OneSideAtRest (now_of old) → HasBooks mail (Firm None) (now_of old) → IsKeptNow (now_of old) →
      FitsBoth (begun names) (now_of old).outside.server → HasOne (begun names) new
  set_up_one side books kept fits = record {
    one_side = ran.one_side side;
    leaves = set_up_said.says.leaves;
    reads = set_up_said.says.leaves.each.each (seen_of new) (seen_sound (course_of new.world));
    kept = since_now IsKeptNow IsKeptNow (Joined mail played) (λ m n here step before. here) (clock_of old) kept (clock_of new)
        (ran.joined side (Firm None) books kept);
    fits = books_kept mail BothFit (Firm (Some (begun names))) (now_of new) set_up_said.says.leaves
        (subst (λ (p : Peer). FitsBoth (begun names) p.server) (sym set_up_outside) fits);
    sufficed = ran.sufficed;
  }

-- A drill's world before it.
module _ (size : ℕ) (old : QuietWorld) (fresh : IsNew size old.world) where
  -- it has one side at rest, and no book
  pub fresh_side : OneSideAtRest (now_of old)
  fresh_side = one_at_rest (moment_of old.world) (files_of old.world) fresh.rests

  pub fresh_books : HasBooks mail (Firm None) (now_of old)
  fresh_books = rests_only (HoldsBook mail None) (moment_of old.world) (files_of old.world) fresh.rests fresh.unbegun
