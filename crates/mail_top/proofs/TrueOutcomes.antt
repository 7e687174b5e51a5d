-- Over many runs each outcome that a stop may leave was left at first, or had its reason in the run that recorded it.
use Rattle.std.proofs.Common.{◌≡◌, ◌⊎◌, inl, inr, ⊎_elim, ℕ, zero, suc, List, [], ◌∷◌, ◌++◌, Some, None, refl, ◌∙◌, ap, subst}
use Rattle.std.proofs.lemmas.Option.{same_Some}
use Rattle.std.specs.Prelude.{slice_get}
use Rattle.imap_model.specs.Talking.{Connecting}
use Rattle.journal_core.specs.Creating.{IsUnbegun}
use Rattle.journal_core.proofs.Choice.{open_head}
use Rattle.world_traits.specs.Files.{Files, MayHold, Stored, file_of}
use Rattle.world_traits.specs.Links.{Any, Linked}
use Rattle.world_traits.specs.Moments.{Moment, MayLeave, Clock, Since, Within, Images, GoesOn}
use Rattle.world_traits.proofs.Keeping.{since_now}
use Rattle.world_traits.proofs.Narrowing.{within_self}
use Rattle.action_queue.specs.Book.{Meaning, after, begun}
use Rattle.action_queue.specs.Queues.{accepted, due, settled}
use Rattle.action_queue.specs.declared.action.Action.{Action}
use Rattle.action_queue.specs.declared.event.Event.{Event}
use Rattle.action_queue.specs.declared.event.Event.TheVariants as events
use Rattle.action_queue.specs.declared.outcome.Outcome.{Outcome}
use Rattle.action_queue.specs.declared.queued.Queued.{Queued}
use Rattle.store_core.specs.Mail.{mail}
use Rattle.store_core.specs.Books.{HasBook, HoldsBook}
use Rattle.store_core.specs.Steps.{Firm}
use Rattle.store_core.specs.Taking.{HasBooks}
use Rattle.store_core.proofs.Folding.{one_held}
use Rattle.store_core.proofs.MailBook.{one_mail_event}
use Rattle.play_driver.specs.Joining.{AnyTwo, Grows}
use Rattle.play_driver.specs.Progress.{IsPlayEvent}
use Rattle.play_driver.specs.Questioning.{RunStep}
use Rattle.play_driver.specs.TrueRecords.{IsTrueSince, TrueEvent}
use Rattle.play_driver.specs.TrueRecords.IsTrueSince.{enters, records, rests}
use Rattle.play_driver.proofs.Surely.{changed_at, ended_there}
use Rattle.play_driver.proofs.Parts.{grows, grows_then, since_first}
use Rattle.mail_top.specs.Actions.{accepts}
use Rattle.mail_top.specs.Connecting.{SameOutside}
use Rattle.mail_top.specs.FairRuns.{FairRun, FollowsFairly}
use Rattle.mail_top.specs.FairRuns.FollowsFairly.{at_once as no_run, by_run as fair_run, by_stop as a_stop, by_others as fair_others}
use Rattle.mail_top.specs.Leaving.{MayBeLeft, OnTheWay, WordsKeep}
use Rattle.mail_top.specs.Readying.{LeavesRead}
use Rattle.mail_top.specs.TruePlay.{OpensBook, PlaysTruly}
use Rattle.mail_top.specs.TruePlay.PlaysTruly.{unready, recorded, cut}
use Rattle.mail_top.specs.TrueRuns.{AllTrue, EndsInOne, EndsTruly, HasEnded, MayHaveEnded}
use Rattle.mail_top.specs.Words.{Request, Init, Act, Rows, Queue, Report, Play, Asks, WritesPlay}
use Rattle.mail_top.proofs.Repeated.{restart_begins}
use Rattle.mail_top.proofs.TrueRuns.{true_grows}

-- behind the others an action without an outcome was added
added_open : (qs : List Queued) (action : Action) (i : ℕ) (x : Queued) (o : Outcome) → slice_get (qs ++ accepted action ∷ []) i ≡ Some x →
    x.outcome ≡ Some o → slice_get qs i ≡ Some x
added_open [] action zero x o there ended =
    let same : accepted action ≡ x = same_Some (accepted action) x there in
    let none : None ≡ Some o = ap (λ (q : Queued). q.outcome) same ∙ ended in absurd cc
added_open [] action (suc i) x o there ended = there
added_open (q ∷ qs) action zero x o there ended = there
added_open (q ∷ qs) action (suc i) x o there ended = added_open qs action i x o there ended

-- since a connection was made: the action at this place ended so, behind all that was recorded before, with its reason
record EndsSince (place : ℕ) (outcome : Outcome) (entry : Meaning) (made new : Clock) : Type 0 where
  now : Clock
  book : Meaning
  so_far : IsTrueSince entry made now book
  id : ℕ
  truly : TrueEvent (events.Settle id outcome) entry book made now
  due : place ≡ due book.queue
  before : Grows now new

module _ (place : ℕ) (outcome : Outcome) where
  -- an event of playback: it ended so before, or the event says so
  event_ends : (entry b : Meaning) (made now : Clock) (event : Event) → IsTrueSince entry made now b → IsPlayEvent event →
      TrueEvent event entry b made now → (new : Clock) → Grows now new → HasEnded place outcome (after b event) →
      HasEnded place outcome b ⊎ EndsSince place outcome entry made new
  event_ends entry b made now (events.Begin names) so_far of_play truly new before ended = absurd of_play
  event_ends entry b made now (events.Accept id action) so_far of_play truly new before ended = absurd of_play
  event_ends entry b made now (events.Intend id intent) so_far of_play truly new before ended =
      inl (record { queued = ended.queued; there = ended.there; ended = ended.ended })
  event_ends entry b made now (events.Settle id other) so_far of_play truly new before ended =
      ⊎_elim (λ (there : slice_get b.queue place ≡ Some ended.queued). inl (record { queued = ended.queued; there = there; ended = ended.ended }))
      (λ (changed : (place ≡ due b.queue) × ((q : Queued) × (settled other q ≡ ended.queued))).
      let same : other ≡ outcome =
      same_Some other outcome (ap (λ (x : Queued). x.outcome) changed.1.1 ∙ ended.ended) in
      inr (record {
        now = now;
        book = b;
        so_far = so_far;
        id = id;
        truly = subst (λ (o : Outcome). TrueEvent (events.Settle id o) entry b made now) same truly;
        due = changed.0;
        before = before;
      }))
      (changed_at (settled other) b.queue place ended.queued ended.there)
  event_ends entry b made now (events.Learn name delta) so_far of_play truly new before ended =
      inl (record { queued = ended.queued; there = ended.there; ended = ended.ended })
  event_ends entry b made now (events.Old id action other) so_far of_play truly new before ended = absurd of_play
  event_ends entry b made now (events.Reset name kept told) so_far of_play truly new before ended =
      inl (record { queued = ended.queued; there = ended.there; ended = ended.ended })
  event_ends entry b made now (events.Withdraw id tries) so_far of_play truly new before ended =
      inl (record {
        queued = ended.queued;
        there = ended_there tries b.queue place ended.queued ended.there outcome ended.ended;
        ended = ended.ended;
      })

  longer : (entry : Meaning) (made now new : Clock) → Grows now new → EndsSince place outcome entry made now → EndsSince place outcome entry made new
  longer entry made now new more e = record {
    now = e.now;
    book = e.book;
    so_far = e.so_far;
    id = e.id;
    truly = e.truly;
    due = e.due;
    before = grows_then e.now now new e.before more;
  }

  -- what was recorded since the connection was made
  chain_ends : (entry : Meaning) (made now : Clock) (b : Meaning) → IsTrueSince entry made now b → HasEnded place outcome b →
      HasEnded place outcome entry ⊎ EndsSince place outcome entry made now
  chain_ends entry made now b enters ended = inl ended
  chain_ends entry made now b (rests at later same truly still) ended =
      ⊎_elim (λ first. inl first)
      (λ here. inr (longer entry made at later (grows (λ m. HasBooks mail (Firm (Some same)) m) AnyTwo at later still) here))
      (chain_ends entry made at same truly ended)
  chain_ends entry made now b (records at later before event truly reason takes) ended =
      let more = grows (Images (λ files. HoldsBook mail (Some before) files ⊎ HoldsBook mail (Some (after before event)) files))
      (GoesOn (HoldsBook mail (Some before)) (HoldsBook mail (Some (after before event)))) at later takes in
      ⊎_elim
      (λ (earlier : HasEnded place outcome before).
      ⊎_elim (λ first. inl first) (λ here. inr (longer entry made at later more here)) (chain_ends entry made at before truly earlier))
      (λ here. inr here)
      (event_ends entry before made at event truly reason.of_play reason later more ended)

  -- in the run that made the connection
  in_run : (seen : Files) (old opened : Clock) (entry : Meaning) (made new : Clock) → OpensBook entry seen old opened →
      Linked Connecting opened made → Since Any RunStep made new → EndsSince place outcome entry made new → EndsTruly place outcome seen old new
  in_run seen old opened entry made new opens connects behind e = record {
    entry = entry;
    opened = opened;
    opens = opens;
    made = made;
    connects = connects;
    now = e.now;
    behind = since_first Any RunStep made e.now new (true_grows entry made e.now e.book e.so_far) e.before behind;
    book = e.book;
    so_far = e.so_far;
    id = e.id;
    truly = e.truly;
    due = e.due;
    before = e.before;
  }

  -- files of which no side is begun hold no book
  not_both : (files : Files) (b : Meaning) → IsUnbegun files → HasBook mail b files → ⊥
  not_both files b unbegun has =
      let there = has.holds in unbegun there.side (open_head has.version there.generation (file_of there.side files) there.present.set_up)

  same_book : (files : Files) (b c : Meaning) → HasBook mail b files → HasBook mail c files → HasEnded place outcome b → HasEnded place outcome c
  same_book files b c p q ended = subst (HasEnded place outcome) (one_held mail one_mail_event files b c p q) ended

  none_ended : (b : Meaning) → b.queue ≡ [] → HasEnded place outcome b → ⊥
  none_ended b empty ended =
      let never : None ≡ Some ended.queued = subst (λ (qs : List Queued). slice_get qs place ≡ Some ended.queued) empty ended.there in cc never

  -- a run, up to where it was cut off
  module _ (words : List (List ℕ)) (input : List ℕ) (seen : Files) (old at new : Clock) (reads : MayLeave old.now seen)
      (run : FairRun words input seen old at new) (truly : WritesPlay words → PlaysTruly seen old at) where
    by_seen : (b : Meaning) → HasBook mail b seen → HasEnded place outcome b → MayHaveEnded place outcome old.now
    by_seen b holds ended = record { files = seen; leaves = reads; book = b; holds = holds; ended = ended }

    module _ (files : Files) (leaves : MayLeave at.now files) (b : Meaning) (holds : HasBook mail b files) (ended : HasEnded place outcome b) where
      by_within : Within old.now at.now → MayHaveEnded place outcome old.now
      by_within w = record { files = files; leaves = w.each files leaves; book = b; holds = holds; ended = ended }

      by_read : LeavesRead old.now seen at.now → MayHaveEnded place outcome old.now
      by_read (inl within) = by_within within
      by_read (inr left) = by_seen left.book left.holds (same_book files b left.book holds (left.leaves.each.each files leaves) ended)

      by_play : PlaysTruly seen old at → MayHaveEnded place outcome old.now ⊎ EndsTruly place outcome seen old at
      by_play (unready readies) =
          inl
          (by_read
          (since_now (LeavesRead old.now seen) (LeavesRead old.now seen) SameOutside (λ m n here step before. here) old (inl (within_self old.now)) at readies))
      by_play (recorded entry c opened opens records_so left) =
          ⊎_elim (λ first. inl (by_seen entry opens.holds first))
          (λ here. inr (in_run seen old opened entry records_so.made at opens records_so.connects records_so.behind here))
          (chain_ends entry records_so.made at c records_so.truly (same_book files b c holds (left.each.each files leaves) ended))
      by_play (cut entry c opened opens stops) =
          let more = grows (Images (λ f. HoldsBook mail (Some c) f ⊎ HoldsBook mail (Some (after c stops.event)) f))
          (GoesOn (HoldsBook mail (Some c)) (HoldsBook mail (Some (after c stops.event)))) stops.truly.at at stops.truly.takes in
          let images = since_now (Images (λ f. HoldsBook mail (Some c) f ⊎ HoldsBook mail (Some (after c stops.event)) f))
          (Images (λ f. HoldsBook mail (Some c) f ⊎ HoldsBook mail (Some (after c stops.event)) f))
          (GoesOn (HoldsBook mail (Some c)) (HoldsBook mail (Some (after c stops.event)))) (λ m n here step before. here) stops.truly.at
          (record { each = λ f l. inl (stops.truly.truly.books.each.each f l) }) at stops.truly.takes in
          ⊎_elim (λ first. inl (by_seen entry opens.holds first))
          (λ here. inr (in_run seen old opened entry stops.made at opens stops.connects stops.behind here))
          (⊎_elim
          (λ (before : HasBook mail c files).
          ⊎_elim (λ (first : HasEnded place outcome entry). inl first) (λ (here : EndsSince place outcome entry stops.made stops.truly.at).
          inr (longer entry stops.made stops.truly.at at more here))
          (chain_ends entry stops.made stops.truly.at c stops.truly.so_far (same_book files b c holds before ended)))
          (λ (behind : HasBook mail (after c stops.event) files).
          chain_ends entry stops.made at (after c stops.event)
          (records stops.truly.at at c stops.event stops.truly.so_far stops.truly.truly stops.truly.takes)
          (same_book files b (after c stops.event) holds behind ended))
          (images.each files leaves))

      by_request : (request : Request) → Asks words input request → MayBeLeft request old.now seen at.now →
          MayHaveEnded place outcome old.now ⊎ EndsTruly place outcome seen old at
      by_request (Init names) asks (inl w) = inl (by_within w)
      by_request (Init names) asks (inr taking) =
          ⊎_elim (λ (unbegun : IsUnbegun files). absurd (not_both files b unbegun holds))
          (λ (is : HasBook mail (begun names) files). absurd (none_ended (begun names) refl (same_book files b (begun names) holds is ended)))
          (taking.each files leaves)
      by_request (Act wanted) asks (inl w) = inl (by_read w)
      by_request (Act wanted) asks (inr adds) =
          ⊎_elim (λ (is : HasBook mail adds.book files). inl (by_seen adds.book adds.holds (same_book files b adds.book holds is ended)))
          (λ (is : HasBook mail (after adds.book (accepts adds.book adds.action)) files).
          let so = same_book files b (after adds.book (accepts adds.book adds.action)) holds is ended in
          inl (by_seen adds.book adds.holds (record {
            queued = so.queued;
            there = added_open adds.book.queue adds.action place so.queued outcome so.there so.ended;
            ended = so.ended;
          })))
          (adds.taking.each files leaves)
      by_request (Rows name) asks w = inl (by_within w)
      by_request Queue asks w = inl (by_within w)
      by_request Report asks w = inl (by_within w)
      by_request Play asks (inl w) = inl (by_within w)
      by_request Play asks (inr playing) = by_play (truly asks)

      run_ends : MayHaveEnded place outcome old.now ⊎ EndsTruly place outcome seen old at
      run_ends =
          ⊎_elim (λ (w : Within old.now at.now). inl (by_within w))
          (λ (way : OnTheWay words input old.now seen at.now). by_request way.request way.asks way.leaves)
          (since_now (OnTheWay words input old.now seen) (λ m. Within old.now m ⊎ OnTheWay words input old.now seen m) (WordsKeep words input)
          (λ m n here step before. inr here) old (inl (within_self old.now)) at run.cut.before.keeps)

  pub outcomes_true : (first last : Moment) (runs : FollowsFairly first last) → AllTrue first last runs → MayHaveEnded place outcome last →
      MayHaveEnded place outcome first ⊎ EndsInOne place outcome first last runs
  outcomes_true first last no_run all e = inl e
  outcomes_true first last (fair_run words input seen old at new so_far reads run) all e =
      ⊎_elim
      (λ (earlier : MayHaveEnded place outcome old.now).
      ⊎_elim (λ start. inl start) (λ one. inr (inl one)) (outcomes_true first old.now so_far all.0 earlier))
      (λ (here : EndsTruly place outcome seen old at). inr (inr here))
      (run_ends words input seen old at new reads run all.1 e.files e.leaves e.book e.holds e.ended)
  outcomes_true first last (a_stop m files so_far leaves) all e =
      outcomes_true first m so_far all (record {
        files = files;
        leaves = leaves;
        book = e.book;
        holds = subst (HasBook mail e.book) ((restart_begins m files leaves).reads e.files e.leaves) e.holds;
        ended = e.ended;
      })
  outcomes_true first last (fair_others m n so_far on) all e =
      outcomes_true first m so_far all (record {
        files = e.files;
        leaves = record {
          left = subst (λ (s : Stored). MayHold s e.files.left) on.step.left e.leaves.left;
          right = subst (λ (s : Stored). MayHold s e.files.right) on.step.right e.leaves.right;
        };
        book = e.book;
        holds = e.holds;
        ended = e.ended;
      })
