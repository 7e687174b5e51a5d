-- A drill's world that goes on behind a stop holds a book that may be played on.
use Rattle.std.proofs.Common.{◌≡◌, false, Option, Some, None, refl, sym, ◌∙◌, ap, subst}
use Rattle.imap_model.specs.Carrying.{Waiting}
use Rattle.imap_model.specs.declared.server.Server.{Server}
use Rattle.server_mem.specs.States.{State}
use Rattle.action_queue.specs.Book.{Meaning}
use Rattle.world_traits.specs.Files.{Files}
use Rattle.world_traits.specs.Moments.{MayLeave, Moment, restarted}
use Rattle.world_traits.proofs.Narrowing.{restart_within}
use Rattle.book_laws.specs.Kept.{Kept}
use Rattle.store_core.specs.Mail.{mail}
use Rattle.play_driver.specs.Joining.{IsKept}
use Rattle.play_driver.specs.Machine.{Relation}
use Rattle.play_driver.specs.Progress.{IsPlaying}
use Rattle.play_driver.proofs.Calls.{stop_keeps}
use Rattle.mail_top.specs.KeptNow.{IsKeptNow}
use Rattle.mail_top.specs.Runs.{AnyBook, IsReady, at_once, by_others, by_stop}
use Rattle.mail_top.proofs.Repeated.{follows_any}
use Rattle.world_mem.specs.Restarting.{goes_on_from, left_of}
use Rattle.world_mem.specs.Running.{Run, waiting_of}
use Rattle.world_mem.specs.Worlds.{course_of, run_in}
use Rattle.world_mem.specs.declared.did.Held.{Held}
use Rattle.mail_drill.specs.Mailboxes.{BothFit}
use Rattle.mail_drill.specs.Standing.{PlaysOn, now_of}
use Rattle.mail_drill.specs.declared.quiet_world.QuietWorld.{QuietWorld}

-- where the moment now has become this one
plays_at : (b : Meaning) (m : Moment) (new : QuietWorld) → now_of new ≡ m → IsReady AnyBook m → IsPlaying b m → IsKeptNow m →
    IsKept mail BothFit m → new.short ≡ false → PlaysOn b new
plays_at b m new now ready playing kept fits sufficed = record {
  ready = subst (λ (n : Moment). IsReady AnyBook n) (sym now) ready;
  playing = subst (λ (n : Moment). IsPlaying b n) (sym now) playing;
  kept = subst (λ (n : Moment). IsKeptNow n) (sym now) kept;
  fits = subst (λ (n : Moment). IsKept mail BothFit n) (sym now) fits;
  sufficed = sufficed;
}

-- a stop leaves the server's mailboxes and history, and the command that waits
server_left : (held : Option Held) (s : State) → (left_of held s).server ≡ s.server
server_left None s = refl
server_left (Some held) s = refl

waiting_left : (held : Option Held) (s : State) → waiting_of (left_of held s) held ≡ waiting_of s held
waiting_left None s = refl
waiting_left (Some held) s = refl

-- the moment behind a stop of a run
abbrev behind : Files → Run → Moment
behind files r = (goes_on_from files r).clock.now

-- A run whose moment has the server and the command that waits.
module _ (files : Files) (r : Run) (leaves : MayLeave r.clock.now files) (server_fits : r.clock.now.outside.server ≡ r.state.server)
    (waits : r.clock.now.outside.waiting ≡ waiting_of r.state r.held) where
  same_server : (behind files r).outside.server ≡ r.clock.now.outside.server
  same_server = server_left r.held r.state ∙ sym server_fits

  same_waiting : (behind files r).outside.waiting ≡ r.clock.now.outside.waiting
  same_waiting = waiting_left r.held r.state ∙ sym waits

  -- its images are those of the stop
  as_restarted : (f : Files) → MayLeave (behind files r) f → MayLeave (restarted files r.clock.now) f
  as_restarted f h = record { left = h.left; right = h.right }

  -- one side is at rest, and the books are known
  ready_behind : IsReady AnyBook r.clock.now → IsReady AnyBook (behind files r)
  ready_behind ready =
      follows_any r.clock.now (behind files r) ready
      (by_others (restarted files r.clock.now) (behind files r) (by_stop r.clock.now files at_once leaves) (record { left = refl; right = refl }))

  playing_behind : (b : Meaning) → IsPlaying b r.clock.now → IsPlaying b (behind files r)
  playing_behind b playing = record {
    each = λ f h. playing.each f ((restart_within r.clock.now files leaves).each f (as_restarted f h));
  }

  kept_behind : (R : Relation mail) → IsKept mail R r.clock.now → IsKept mail R (behind files r)
  kept_behind R kept = record {
    each = λ f h.
        let there = (stop_keeps mail R r.clock.now files leaves kept).each f (as_restarted f h) in
        record {
          book = there.book;
          holds = there.holds;
          related = subst (λ (w : Option Waiting). R there.book (behind files r).outside.server w) (sym same_waiting)
              (subst (λ (s : Server). R there.book s r.clock.now.outside.waiting) (sym same_server) there.related);
        };
  }

-- behind a stop
pub restarted_on : (b : Meaning) (old new : QuietWorld) (files : Files) → MayLeave (now_of old) files →
    run_in new.world ≡ goes_on_from files (run_in old.world) → new.short ≡ old.short → PlaysOn b old → PlaysOn b new
restarted_on b old new files leaves goes short before =
    let r = run_in old.world in
    let stands = (course_of old.world).stands in
    plays_at b (behind files r) new (ap (λ (x : Run). x.clock.now) goes)
    (ready_behind files r leaves stands.server_fits stands.waits before.ready)
    (playing_behind files r leaves stands.server_fits stands.waits b before.playing)
    (kept_behind files r leaves stands.server_fits stands.waits Kept before.kept)
    (kept_behind files r leaves stands.server_fits stands.waits BothFit before.fits)
    (short ∙ before.sufficed)
