-- Why an event is recorded: by what the player knows at that moment.
use Rattle.action_queue.specs.Book.{Meaning, after}
use Rattle.action_queue.specs.declared.event.Event.{Event}
use Rattle.imap_model.specs.Carrying.{Waiting}
use Rattle.imap_model.specs.declared.server.Server.{Server}
use Rattle.imap_session.specs.declared.permits.Permits.{Permits}
use Rattle.journal_core.specs.Sides.{version_written}
use Rattle.journal_core.specs.declared.version.Version.{Version}
use Rattle.play_driver.proofs.Calls.{takes_stays}
use Rattle.play_driver.proofs.KnownRecords.{permitted_by}
use Rattle.play_driver.proofs.KnownWalk.{kept_here, kept_told, tells_peer}
use Rattle.play_driver.specs.Joining.{StaysJoined}
use Rattle.play_driver.specs.KnownAt.{KnownAt, StandsKept}
use Rattle.play_driver.specs.Played.{played}
use Rattle.play_driver.specs.TrueRecords.{TrueEvent}
use Rattle.play_driver.proofs.PlayedKept.{withstood}
use Rattle.book_laws.specs.Permitted.{Permits as Permitted}
use Rattle.action_queue.specs.Events.{IsLawful}
use Rattle.action_queue.specs.Rules.{first_broken}
use Rattle.action_queue.specs.declared.rule.Version.{Version as Rules}
use Rattle.play_driver.proofs.Folds.{fold_sound}
use Rattle.play_driver.specs.Progress.{IsPlayEvent}
use Rattle.playback.proofs.Allowing.{allowed_need}
use Rattle.playback.proofs.Calls.{parts}
use Rattle.playback.proofs.Lawfulness.{lawful_need}
use Rattle.playback.proofs.Recorded.{IsRecorded, recorded}
use Rattle.store_core.specs.Fold.{IsFold}
use Rattle.playback.specs.Allowed.{IsAllowed, Records, WhyCommit}
use Rattle.playback.specs.Choosing.{IsEntered, committed}
use Rattle.playback.specs.Course.{Course}
use Rattle.book_laws.specs.Kept.{Kept, KeptBook}
use Rattle.playback.specs.Needs.{IsBeside, IsLawfulNeed, IsReadyEvent, need_of}
use Rattle.playback.specs.Why.{WhyEvent, WhyOutcome, is_open}
use Rattle.playback.specs.Worlds.{World}
use Rattle.playback.specs.declared.need.Need.{Need}
use Rattle.playback.specs.declared.player.Player.{Player}
use Rattle.std.proofs.Common.{Bool, None, Option, Some, inl, inr, subst, sym, ◌≡◌}
use Rattle.store_core.proofs.MailBook.{one_mail_event}
use Rattle.store_core.specs.Mail.{IsOld, MayCome, mail}
use Rattle.store_core.specs.Taking.{Takes}
use Rattle.world_traits.specs.Moments.{Clock}
use Rattle.action_queue.specs.declared.event.Event.TheVariants as events
use Rattle.playback.specs.declared.need.Need.TheVariants as needs

-- what isn't an outcome has its reason whatever was pending as the run began
pub why_commit : (entry b : Meaning) (c : Course) (event : Event) → WhyCommit event b c → WhyEvent event entry b c
why_commit entry b c (events.Begin names) why = absurd why
why_commit entry b c (events.Accept id action) why = absurd why
why_commit entry b c (events.Intend id intent) why = why
why_commit entry b c (events.Settle id outcome) why = absurd why
why_commit entry b c (events.Learn name delta) why = tt
why_commit entry b c (events.Old id action outcome) why = absurd why
why_commit entry b c (events.Reset name before told) why = why
why_commit entry b c (events.Withdraw id tries) why = why

reason_by : (entry : Meaning) (p : Player) (b : Meaning) (w : World) (event : Event) (need : Need) → p.resumed ≡ is_open entry b →
    IsAllowed need p b w → Records need event → WhyEvent event entry b w.course
reason_by entry p b w event (needs.Select name) same ok is = absurd is
reason_by entry p b w event (needs.Ask command) same ok is = absurd is
reason_by entry p b w event (needs.Commit other) same ok is =
    subst (λ (x : Event). WhyEvent x entry b w.course) (sym is) (why_commit entry b w.course other ok.1)
reason_by entry p b w event (needs.Settle n outcome) same ok is =
    subst (λ (x : Event). WhyEvent x entry b w.course) (sym is) (subst (λ (r : Bool). WhyOutcome outcome r b w.course) same ok.1)
reason_by entry p b w event (needs.Withdraw n tries) same ok is =
    subst (λ (x : Event). WhyEvent x entry b w.course) (sym is) (why_commit entry b w.course (events.Withdraw n tries) ok.1)
reason_by entry p b w event (needs.Send n command) same ok is = absurd is
reason_by entry p b w event needs.Finished same ok is = absurd is

-- what is needed is an event of playback
pub of_playback : (p : Player) (b : Meaning) (event : Event) → Records (need_of p b) event → IsPlayEvent event
of_playback p b event is = by (recorded p b event is)
  where
    by : IsRecorded p b event → IsPlayEvent event
    by (inl x) = subst IsPlayEvent (sym x.is) tt
    by (inr (inl x)) = subst IsPlayEvent (sym x.is) tt
    by (inr (inr (inl x))) = subst IsPlayEvent (sym x.is) tt
    by (inr (inr (inr x))) = subst IsPlayEvent (sym x.is) tt

-- Beside a kept book, while the player knows the connection.
module _ (p : Player) (b : Meaning) (event : Event) (made old : Clock) (permits : Option Permits)
    (stands : StandsKept b old) (known : KnownAt made old permits None p b) (needed : Records (need_of p b) event) where
  abbrev W : World
  W = known.world

  kept : KeptBook b W.course.now W.waiting
  kept = kept_told b W old.now.outside (tells_peer W made old known.tells) (kept_here b old.now stands.kept stands.books)

  allowed : IsAllowed (need_of p b) p b W
  allowed = allowed_need p b W kept known.owed known.knows

  -- the event is permitted beside the server as it is
  pub permitted_now : Permitted (Some b) event old.now.outside.server old.now.outside.waiting
  permitted_now =
      subst (λ (o : Option Waiting). Permitted (Some b) event old.now.outside.server o) known.tells.waits
      (subst (λ (s : Server). Permitted (Some b) event s W.waiting) known.tells.server (permitted_by p b W event (need_of p b) allowed needed))

  -- so each moment of its record is kept and joined
  pub takes_joined : (version : Version) (new : Clock) → MayCome version (Some b) event → Takes mail (Some b) event old new →
      StaysJoined mail Kept played old new
  takes_joined version new may takes =
      takes_stays mail one_mail_event Kept played withstood version (Some b) event old new may permitted_now stands.kept takes

  -- and it has its reason
  pub true_event : (entry : Meaning) → IsEntered entry p b → IsLawful b event → TrueEvent event entry b made old
  true_event entry entered lawful = record {
    of_play = of_playback p b event needed;
    lawful = lawful;
    books = stands.books;
    course = W.course;
    is_course = known.knows.course;
    first = known.tells.first;
    last = known.tells.server;
    each = known.tells.each;
    answered = known.tells.answered;
    why = reason_by entry p b W event (need_of p b) entered.same allowed needed;
  }

-- what is needed may come next, and has a record
ready_by : (p : Player) (b : Meaning) (event : Event) (need : Need) → IsLawfulNeed need p b → Records need event → IsReadyEvent b event
ready_by p b event (needs.Select name) lawful is = absurd is
ready_by p b event (needs.Ask command) lawful is = absurd is
ready_by p b event (needs.Commit other) lawful is = subst (IsReadyEvent b) (sym is) lawful
ready_by p b event (needs.Settle n outcome) lawful is = subst (IsReadyEvent b) (sym is) lawful
ready_by p b event (needs.Withdraw n tries) lawful is = subst (IsReadyEvent b) (sym is) lawful
ready_by p b event (needs.Send n command) lawful is = absurd is
ready_by p b event needs.Finished lawful is = absurd is

pub ready : (p : Player) (b : Meaning) (event : Event) → IsFold b → IsBeside p b → Records (need_of p b) event → IsReadyEvent b event
ready p b event fold beside is = ready_by p b event (need_of p b) (lawful_need parts p b (fold_sound b fold) beside) is

-- what playback records may come in a journal of the version that is written
pub may_come_ready : (version : Version) → version ≡ version_written → (b : Meaning) (event : Event) → IsReadyEvent b event →
    MayCome version (Some b) event
may_come_ready version written b event comes =
    subst (λ (v : Version). MayCome v (Some b) event) (sym written)
    (subst (λ (v : Rules). first_broken v b event ≡ None) comes.second comes.lawful.unbroken)

pub may_come : (version : Version) → version ≡ version_written → (p : Player) (b : Meaning) (event : Event) → IsFold b → IsBeside p b →
    Records (need_of p b) event → MayCome version (Some b) event
may_come version written p b event fold beside is =
    may_come_ready version written b event (ready p b event fold beside is)

-- and it is none that is told anew
pub play_new : (event : Event) → IsPlayEvent event → IsOld event → ⊥
play_new (events.Begin names) of_play old = old
play_new (events.Accept id action) of_play old = old
play_new (events.Intend id intent) of_play old = old
play_new (events.Settle id outcome) of_play old = old
play_new (events.Learn name delta) of_play old = old
play_new (events.Old id action outcome) of_play old = of_play
play_new (events.Reset name before told) of_play old = old
play_new (events.Withdraw id tries) of_play old = old

pub never_old : (p : Player) (b : Meaning) (event : Event) → Records (need_of p b) event → IsOld event → ⊥
never_old p b event is = play_new event (of_playback p b event is)

-- what the player knows behind the record, of the store's book and the player as they are
pub known_then : (p q : Player) (b c : Meaning) (event : Event) → c ≡ after b event → q ≡ committed p c → (made new : Clock)
    (permits : Option Permits) → KnownAt made new permits None (committed p (after b event)) (after b event) → KnownAt made new permits None q c
known_then p q b c event is goes made new permits known =
    subst (λ (x : Player). KnownAt made new permits None x c) (sym goes)
    (subst (λ (m : Meaning). KnownAt made new permits None (committed p m) m) (sym is) known)
