-- The cache of a mailbox is taken away while the reply to its SELECT is held, over one world.
use Rattle.action_queue.specs.Book.{Meaning, after, cache_at}
use Rattle.action_queue.specs.declared.event.Event.{Event}
use Rattle.imap_model.specs.Carrying.{Waiting}
use Rattle.imap_model.specs.declared.server.Server.{Server}
use Rattle.journal_core.specs.OneSide.{EachOneSide}
use Rattle.play_driver.proofs.Calls.{takes_stays}
use Rattle.play_driver.proofs.GroundChains.{record_grounded}
use Rattle.play_driver.proofs.KnownHeld.{is_of, kept, may}
use Rattle.play_driver.proofs.KnownLaws.{known_law}
use Rattle.play_driver.proofs.OneTurn.{stands_kept}
use Rattle.play_driver.proofs.OverOne.{record_talks}
use Rattle.play_driver.proofs.PlayedKept.{withstood}
use Rattle.play_driver.proofs.Progressing.{takes_progress}
use Rattle.play_driver.proofs.Reasons.{may_come_ready, why_commit}
use Rattle.play_driver.specs.GoesOn.{GoesOn}
use Rattle.play_driver.specs.Joining.{IsKept, StaysJoined}
use Rattle.play_driver.specs.KnownAt.{KnownAt, StandsKept}
use Rattle.play_driver.specs.Played.{played}
use Rattle.play_driver.specs.Progress.{IsPlayEvent, box_names}
use Rattle.play_driver.specs.Sessions.{held_in, permits_in}
use Rattle.play_driver.specs.TrueRecords.{TrueEvent}
use Rattle.play_driver.specs.Turned.{MayTurn}
use Rattle.play_driver.specs.declared.fault.PlayFault.{PlayFault}
use Rattle.play_driver.specs.declared.session.Held.{Held}
use Rattle.play_driver.specs.declared.session.Session.{Session}
use Rattle.playback.proofs.ResetBook.{none_cached, reset_ready}
use Rattle.playback.proofs.Resetting.{IsResetOf, is_reset, reset_told}
use Rattle.playback.specs.Choosing.{reset_of}
use Rattle.playback.specs.Games.{IsReset}
use Rattle.book_laws.specs.Kept.{Kept}
use Rattle.playback.specs.Needs.{IsReadyEvent}
use Rattle.book_laws.specs.Permitted.{Permits}
use Rattle.playback.specs.Why.{WhyEvent}
use Rattle.playback.specs.declared.player.Player.{Player}
use Rattle.std.proofs.Common.{IfOk, None, Option, Result, Some, ap, refl, subst, sym, ◌∙◌, ◌≡◌}
use Rattle.store_core.proofs.MailBook.{one_mail_event}
use Rattle.store_core.specs.Holding.{Holding}
use Rattle.store_core.specs.Mail.{MayCome, mail}
use Rattle.store_core.specs.Taking.{Takes}
use Rattle.world_traits.specs.Files.{Files}
use Rattle.world_traits.specs.LinkState.{LinkState}
use Rattle.world_traits.specs.Moments.{Clock}
use Rattle.world_traits.specs.declared.clocked.Clocked.{Ghosts}
use Rattle.action_queue.specs.declared.event.Event.TheVariants as events
use Rattle.play_driver.specs.declared.session.Session.TheVariants as sessions

module _ (h : Held) (b : Meaning) (event : Event) (due : reset_of h.chosen.name (cache_at h.chosen.name b.boxes) h.told ≡ Some event) where
  pub of_reset : IsResetOf h.chosen.name (cache_at h.chosen.name b.boxes) h.told event
  of_reset = reset_told h.chosen.name (cache_at h.chosen.name b.boxes) h.told event due

  pub reset_plays : IsPlayEvent event
  reset_plays = subst IsPlayEvent (sym of_reset.is) tt

  pub reset_comes : IsReadyEvent b event
  reset_comes =
      subst (IsReadyEvent b) (sym of_reset.is)
      (reset_ready b h.chosen.name of_reset.cache of_reset.cache.validity h.told of_reset.there refl of_reset.above)

  -- behind it the mailbox has no cache
  pub reset_away : cache_at h.chosen.name (after b event).boxes ≡ None
  reset_away =
      ap (λ (e : Event). cache_at h.chosen.name (after b e).boxes) of_reset.is ∙ none_cached h.chosen.name b.boxes

module _ {Self : Type 0} (W : Ghosts Self) (old new : Self) (h : Held) (p : Player) (s : Holding mail) (event : Event) (seen : Files)
    (given : MayTurn W old seen (sessions.Held h) p s)
    (due : reset_of h.chosen.name (cache_at h.chosen.name s.book.boxes) h.told ≡ Some event)
    (takes : W.tells_files → Takes mail (Some s.book) event (W.clock old) (W.clock new)) where
  may_reset : MayCome s.journal.version (Some s.book) event
  may_reset = may_come_ready s.journal.version given.written s.book event (reset_comes h s.book event due)

  pub stands_held : W.tells_server → IsKept mail Kept (W.clock old).now → StandsKept s.book (W.clock old)
  stands_held t kept = stands_kept s _ _ _ _ _ (given.left (W.server_with_files t)) (given.rests.stands t) kept

  -- while the player knows the connection
  module _ (made : Clock) (stands : StandsKept s.book (W.clock old)) (known : KnownAt made (W.clock old) h.chosen.permits (Some h) p s.book) where
    abbrev Of : IsResetOf h.chosen.name (cache_at h.chosen.name s.book.boxes) h.told event
    Of = is_of p s.book h h.chosen.permits made (W.clock old) stands known given.rests.held event due

    is_so : IsReset h.chosen.name Of.cache.validity h.told s.book known.world
    is_so =
        is_reset p s.book known.world h.chosen.name Of.cache.validity h.told
        (may p s.book h h.chosen.permits made (W.clock old) stands known given.rests.held event due)
        (kept p s.book h h.chosen.permits made (W.clock old) stands known given.rests.held) known.knows

    permitted_now : Permits (Some s.book) event (W.clock old).now.outside.server (W.clock old).now.outside.waiting
    permitted_now =
        subst (λ (o : Option Waiting). Permits (Some s.book) event (W.clock old).now.outside.server o) known.tells.waits
        (subst (λ (v : Server). Permits (Some s.book) event v known.world.waiting) known.tells.server
        (subst (λ (e : Event). Permits (Some s.book) e known.world.course.now known.world.waiting) (sym Of.is) is_so.permitted))

    joined_reset : W.tells_server → StaysJoined mail Kept played (W.clock old) (W.clock new)
    joined_reset t =
        takes_stays mail one_mail_event Kept played withstood s.journal.version (Some s.book) event (W.clock old) (W.clock new) may_reset permitted_now
        stands.kept (takes (W.server_with_files t))

    known_then : W.tells_server → KnownAt made (W.clock new) h.chosen.permits (Some h) p (after s.book event)
    known_then t =
        known_law.resets p s.book h event s.journal.version h.chosen.permits made (W.clock old) (W.clock new) stands known given.rests.held due may_reset
        (takes (W.server_with_files t))

    why_so : (entry : Meaning) → WhyEvent event entry s.book known.world.course
    why_so entry =
        subst (λ (e : Event). WhyEvent e entry s.book known.world.course) (sym Of.is)
        (why_commit entry s.book known.world.course (events.Reset h.chosen.name Of.cache.validity h.told) is_so.why)

    true_reset : (entry : Meaning) → TrueEvent event entry s.book made (W.clock old)
    true_reset entry = record {
      of_play = reset_plays h s.book event due;
      lawful = (reset_comes h s.book event due).lawful;
      books = stands.books;
      course = known.world.course;
      is_course = known.knows.course;
      first = known.tells.first;
      last = known.tells.server;
      each = known.tells.each;
      answered = known.tells.answered;
      why = why_so entry;
    }

  pub goes_reset : (c : Meaning) (r : Result Session PlayFault) →
      (W.tells_server → (made : Clock) → (stands : StandsKept s.book (W.clock old)) → KnownAt made (W.clock old) h.chosen.permits (Some h) p s.book →
      KnownAt made (W.clock new) h.chosen.permits (Some h) p (after s.book event) →
      IfOk r (λ next. KnownAt made (W.clock new) (permits_in next) (held_in next) p c)) →
      (W.tells_files → EachOneSide (W.clock old) (W.clock new)) → W.link new ≡ W.link old → GoesOn W old new (sessions.Held h) p p s.book c r
  goes_reset c r knows sides link = record {
    progress = λ t. takes_progress s.book s.journal.version event (reset_plays h s.book event due) may_reset (W.clock old) (W.clock new) (takes t);
    joined = λ t made kept known. joined_reset made (stands_held t kept) known t;
    known = λ t made kept known fair. knows t made (stands_held t kept) known (known_then made (stands_held t kept) known t);
    each_one_side = sides;
    talks = λ t. record_talks s event (W.clock old) (W.clock new) (takes (W.server_with_files t));
    grounds = λ t. record_grounded (box_names s.book) s.book event (W.clock old) (W.clock new) (takes (W.server_with_files t));
    earlier = λ t. ap (λ (l : LinkState). l.earlier) link;
  }

  pub truly_reset : W.tells_server → (made : Clock) (entry : Meaning) → IsKept mail Kept (W.clock old).now →
      KnownAt made (W.clock old) h.chosen.permits (Some h) p s.book → TrueEvent event entry s.book made (W.clock old)
  truly_reset t made entry kept known = true_reset made (stands_held t kept) known entry
