-- A turn that records an event: what it tells, whatever the event is for.
use Rattle.play_driver.proofs.Faulting.{same_err}
use Rattle.play_driver.proofs.KnownLaws.{known_law}
use Rattle.play_driver.proofs.ManyTurns.{is_sound}
use Rattle.play_driver.proofs.OneTurn.{left_kept, no_reply_fault, records_turn, true_kept, true_more}
use Rattle.play_driver.proofs.Progressing.{firm_left, later_event, later_start, outside_taken, there_or_not}
use Rattle.play_driver.proofs.Reasons.{known_then, of_playback, ready as next_ready}
use Rattle.play_driver.proofs.Recorded.{goes_recorded, may, rested, stands_still, synced_rested, then_rested, truly_recorded}
use Rattle.play_driver.proofs.SyncedOn.{synced_on, synced_then}
use Rattle.play_driver.proofs.TurnsFall.{falls_rested}
use Rattle.play_driver.specs.Accuses.{Accuses}
use Rattle.play_driver.specs.GoesOn.{GoesOn, SyncsOn}
use Rattle.play_driver.specs.Holds.{HeldFits}
use Rattle.play_driver.specs.Joining.{IsKept}
use Rattle.play_driver.specs.KnownAt.{KnownAt, StandsKept}
use Rattle.play_driver.specs.Progress.{IsLater, IsPlayEvent}
use Rattle.play_driver.specs.Recording.{NotRecorded, recorded}
use Rattle.play_driver.specs.Running.{turns_left}
use Rattle.play_driver.specs.Sessions.{feed_of, held_in, permits_in}
use Rattle.play_driver.specs.TrueRecords.{IsTrueBefore, TrueEvent}
use Rattle.play_driver.specs.Turned.{MayTurn, Turned}
use Rattle.play_driver.specs.Turning.TurnFails.{not_recorded}
use Rattle.play_driver.specs.Turning.{TurnFails, Turns, standing_of}
use Rattle.play_driver.specs.declared.fault.PlayFault.TheVariants as faults
use Rattle.play_driver.specs.declared.fault.PlayFault.{PlayFault}
use Rattle.play_driver.specs.declared.session.Held.{Held}
use Rattle.play_driver.specs.declared.session.Session.{Session}
use Rattle.action_queue.specs.Book.{Meaning, after}
use Rattle.action_queue.specs.declared.event.Event.{Event}
use Rattle.book_laws.specs.Kept.{Kept}
use Rattle.imap_session.specs.Session.{Follows}
use Rattle.journal_core.specs.OneSide.{EachOneSide}
use Rattle.playback.specs.Allowed.{Records}
use Rattle.playback.specs.Choosing.{IsEntered, committed}
use Rattle.playback.specs.Left.{left}
use Rattle.playback.specs.Needs.{IsBeside, IsReadyEvent, need_of}
use Rattle.playback.specs.Worlds.{name_of}
use Rattle.playback.specs.declared.player.Player.{Player}
use Rattle.std.proofs.Common.{Err, None, Ok, Option, Result, Some, ap, arith, false, refl, subst, sym, ◌<◌, ◌≡◌, ◌∙◌}
use Rattle.store_core.specs.Fold.{IsFold, follows}
use Rattle.store_core.specs.Holding.{Holding, IsAsLeft}
use Rattle.store_core.specs.Mail.{mail}
use Rattle.store_core.specs.Steps.{Firm}
use Rattle.store_core.specs.Taking.{HasBooks, Takes}
use Rattle.world_traits.specs.Files.{Files}
use Rattle.world_traits.specs.LinkState.{LinkState}
use Rattle.world_traits.specs.Moments.{Clock}
use Rattle.world_traits.specs.declared.clocked.Clocked.{Ghosts}

-- It isn't recorded, for this fault.
pub record Stopped {Self : Type 0} (W : Ghosts Self) (old new : Self) (session : Session) (p q : Player) (s t : Holding mail) (event : Event)
    (result : Result Session PlayFault) (fault : PlayFault) : Type 0 where
  pub goes_on : GoesOn W old new session p q s.book t.book (Err fault)
  pub why : NotRecorded event s fault
  pub fails : TurnFails (standing_of (W.link old) session s p) (W.link new) fault
  pub same : p.learns ≡ None → q ≡ p
  pub stays : t.book ≡ s.book
  pub kept : (fault ≡ faults.Disk → ⊥) → (t ≡ s) × (new ≡ old)
  pub accuses : Accuses W old new result

-- It is recorded.
pub record Entered {Self : Type 0} (W : Ghosts Self) (old new : Self) (now : Files) (session : Session) (p q : Player) (s t : Holding mail)
    (event : Event) : Type 0 where
  pub comes : IsReadyEvent s.book event
  pub is : t ≡ recorded s event
  pub left : W.tells_files → IsAsLeft mail t (W.clock new).now now
  pub sound_still : t.journal.failed ≡ false
  pub goes_on : GoesOn W old new session p q s.book t.book (Ok session)
  pub synced : SyncsOn W old new session p q s.book t.book (Ok session)
  pub turns : Turns (standing_of (W.link old) session s p) (standing_of (W.link new) session t q)
  pub entered : (entry : Meaning) → IsEntered entry p s.book → IsEntered entry q t.book
  pub falls : turns_left (held_in session) q t.book < turns_left (held_in session) p s.book
  pub accuses : Accuses W old new (Ok session)
  pub beside : IsBeside q t.book
  pub selected : held_in session ≡ None → name_of q.selected ≡ name_of p.selected
  pub held : HeldFits (held_in session) q t.book

module _ {Self : Type 0} (W : Ghosts Self) (seen : Self → Files) (old new : Self) (session : Session) (p q : Player) (s t : Holding mail)
    (event : Event) (ready : MayTurn W old (seen old) session p s) (plays : IsPlayEvent event)
    (takes : W.tells_files → Takes mail (Some s.book) event (W.clock old) (W.clock new)) (link : W.link new ≡ W.link old)
    (truly : W.tells_server → (made : Clock) (entry : Meaning) → IsKept mail Kept (W.clock old).now →
    KnownAt made (W.clock old) (permits_in session) (held_in session) p s.book → IsEntered entry p s.book →
    TrueEvent event entry s.book made (W.clock old)) where
  stops_so : (fault : PlayFault) → Stopped W old new session p q s t event (Err fault) fault → Turned W old new (seen new) session p q s t (Err fault)
  stops_so fault stopped = record {
    goes_on = stopped.goes_on;
    synced = λ t made start first kept known fair so_far. tt;
    reasons = record {
      truly = λ t made entry kept known others entered so_far not.
          true_kept W.clock s.book _ old new stopped.stays (stopped.kept (λ is. not (ap (λ (f : PlayFault). Err f) is))).1 entry made so_far;
      stopped = λ tells is. (
        event,
        plays,
        there_or_not s event (W.clock old) (W.clock new) _ (ready.left tells) (takes tells) t.book stopped.stays,
        λ server made entry kept known others entered so_far.
            subst (λ (b : Meaning). IsTrueBefore event entry b made (W.clock new)) (sym stopped.stays)
            (record {
              at = W.clock old;
              so_far = so_far;
              truly = truly server made entry kept known entered;
              takes = takes tells;
            }),
      );
    };
    takes = record {
      turns = λ t. tt;
      why = λ t f is.
          subst (TurnFails (standing_of (W.link old) session s p) (W.link new)) (same_err {T = Session} (Err fault) fault f refl is) stopped.fails;
      same = λ is none. stopped.same none;
      stays = λ is. stopped.stays;
      kept = λ is no. (stopped.kept (λ same. no (ap (λ (f : PlayFault). Err f) same))).0;
      entered = tt;
      falls = tt;
      counted = tt;
    };
    excuses = record {
      faultless = λ t made kept known fair f is.
          no_reply_fault event s f (subst (NotRecorded event s) (same_err {T = Session} (Err fault) fault f refl is) stopped.why);
    };
    accuses = stopped.accuses;
    rests = tt;
    stored = record {
      fold = subst IsFold (sym stopped.stays) ready.fold;
      later = subst (IsLater s.book) (sym stopped.stays) (later_start s.book);
      left = λ tells not.
          let still = stopped.kept (λ is. not (ap (λ (f : PlayFault). Err f) is)) in
          left_kept W.clock seen s t old new still.0 still.1 (ready.left tells);
      sound_still = λ not.
          let still = stopped.kept (λ is. not (ap (λ (f : PlayFault). Err f) is)) in
          ap (λ (u : Holding mail). u.journal.failed) still.0 ∙ is_sound s.journal.failed ready.sound;
      written = λ not.
          let still = stopped.kept (λ is. not (ap (λ (f : PlayFault). Err f) is)) in
          ap (λ (u : Holding mail). u.journal.version) still.0 ∙ ready.written;
    };
  }

  pub stops_turn : (r : Result Session PlayFault) (fault : PlayFault) → r ≡ Err fault → Stopped W old new session p q s t event r fault →
      Turned W old new (seen new) session p q s t r
  stops_turn r fault is stopped =
      subst (λ (x : Result Session PlayFault). Turned W old new (seen new) session p q s t x) (sym is)
      (stops_so fault (subst (λ (x : Result Session PlayFault). Stopped W old new session p q s t event x fault) is stopped))

  pub enters_turn : Entered W old new (seen new) session p q s t event → Turned W old new (seen new) session p q s t (Ok session)
  enters_turn entered =
      let book : t.book ≡ after s.book event = ap (λ (u : Holding mail). u.book) entered.is in
      record {
        goes_on = entered.goes_on;
        synced = entered.synced;
        reasons = record {
          truly = λ server made entry kept known others in_it so_far not.
              true_more s t event entered.is entry made _ _ so_far (truly server made entry kept known in_it) (takes (W.server_with_files server));
          stopped = λ tells is. absurd cc;
        };
        takes = record {
          turns = λ tells. entered.turns;
          why = λ tells fault is. absurd cc;
          same = λ is. absurd cc;
          stays = λ is. absurd cc;
          kept = λ is. absurd cc;
          entered = entered.entered;
          falls = entered.falls;
          counted = omega arith;
        };
        excuses = record { faultless = λ server made kept known fair fault is. absurd cc };
        accuses = entered.accuses;
        rests = record {
          beside = entered.beside;
          selected = λ none. entered.selected none ∙ ready.rests.selected none;
          stands = λ server.
              stands_still _ _ _ _ _ _ (outside_taken s.book event _ _ (takes (W.server_with_files server)))
              (ap (λ (l : LinkState). l.connection) link) (ready.rests.stands server);
          still = λ tells. subst (λ (l : LinkState). Follows l.connection (feed_of session)) (sym link) (ready.rests.still tells);
          held = entered.held;
        };
        stored = record {
          fold = subst IsFold (sym book) (follows s.book event ready.fold entered.comes.lawful entered.comes.writable);
          later = subst (IsLater s.book) (sym book) (later_event s.book event plays);
          left = λ tells not. entered.left tells;
          sound_still = λ not. entered.sound_still;
          written = λ not. ap (λ (u : Holding mail). u.journal.version) entered.is ∙ ready.written;
        };
      }

-- The player needs that the event is recorded; and it goes on behind the record.
module _ {Self : Type 0} (W : Ghosts Self) (seen : Self → Files) (old new : Self) (session : Session) (p q : Player) (s t : Holding mail)
    (event : Event) (ready : MayTurn W old (seen old) session p s) (resting : held_in session ≡ None)
    (needed : Records (need_of p s.book) event) (takes : W.tells_files → Takes mail (Some s.book) event (W.clock old) (W.clock new))
    (link : W.link new ≡ W.link old) (sides : W.tells_files → EachOneSide (W.clock old) (W.clock new)) where
  truly : W.tells_server → (made : Clock) (entry : Meaning) → IsKept mail Kept (W.clock old).now →
      KnownAt made (W.clock old) (permits_in session) (held_in session) p s.book → IsEntered entry p s.book → TrueEvent event entry s.book made (W.clock old)
  truly = truly_recorded W old new session p s event (seen old) ready resting needed takes

  pub stops_needed : (r : Result Session PlayFault) (fault : PlayFault) → r ≡ Err fault → NotRecorded event s fault → (p.learns ≡ None → q ≡ p) →
      t.book ≡ s.book → ((fault ≡ faults.Disk → ⊥) → (t ≡ s) × (new ≡ old)) → Accuses W old new r → Turned W old new (seen new) session p q s t r
  stops_needed r fault is why same stays kept accuses =
      stops_turn W seen old new session p q s t event ready (of_playback p s.book event needed) takes link truly r fault is (record {
        goes_on = goes_recorded W old new session p s event (seen old) ready resting needed takes q t.book (Err fault) (λ server made stands known. tt)
            sides link;
        why = why;
        fails = not_recorded event needed link why;
        same = same;
        stays = stays;
        kept = kept;
        accuses = accuses;
      })

  module _ (is : t ≡ recorded s event) (goes : q ≡ committed p t.book) (left_there : W.tells_files → IsAsLeft mail t (W.clock new).now (seen new)) where
    book : t.book ≡ after s.book event
    book = ap (λ (u : Holding mail). u.book) is

    comes : IsReadyEvent s.book event
    comes = next_ready p s.book event ready.fold ready.rests.beside needed

    known_behind : W.tells_server → (made : Clock) → StandsKept s.book (W.clock old) →
        KnownAt made (W.clock old) (permits_in session) (held_in session) p s.book → KnownAt made (W.clock new) (permits_in session) (held_in session) q t.book
    known_behind server made stands known =
        then_rested W old new session p s event (seen old) ready resting needed takes made q t.book
        (known_then p q s.book t.book event book goes made _ _
        (known_law.records p s.book event s.journal.version _ made _ _ stands
        (rested W old new session p s event (seen old) ready resting needed takes made known) needed
        (may W old new session p s event (seen old) ready resting needed takes) (takes (W.server_with_files server))))

    synced_behind : SyncsOn W old new session p q s.book t.book (Ok session)
    synced_behind = λ server made start first kept known fair so_far.
        let files = W.server_with_files server in
        let books = subst (λ (b : Meaning). HasBooks mail (Firm (Some b)) (W.clock new).now) book (firm_left t (W.clock new) _ (left_there files)) in
        synced_rested W old new session p s event (seen old) ready resting needed takes start q t.book
        (λ so_free. synced_then p q s.book t.book event book goes start (W.clock new)
        (synced_on start (W.clock old) (W.clock new) p s.book event ready.rests.beside needed comes.lawful first (takes files) books so_free)) so_far

    pub enters_needed : t.journal.failed ≡ false → Accuses W old new (Ok session) → IsBeside q t.book →
        ((entry : Meaning) → IsEntered entry p s.book → IsEntered entry q t.book) → left q t.book < left p s.book →
        Turned W old new (seen new) session p q s t (Ok session)
    enters_needed sound accuses beside entered falls =
        enters_turn W seen old new session p q s t event ready (of_playback p s.book event needed) takes link truly (record {
          comes = comes;
          is = is;
          left = left_there;
          sound_still = sound;
          goes_on = goes_recorded W old new session p s event (seen old) ready resting needed takes q t.book (Ok session) known_behind sides link;
          synced = synced_behind;
          turns = records_turn s t event is (W.link old) (W.link new) session p q resting link goes needed;
          entered = entered;
          falls = falls_rested (held_in session) resting p q s.book t.book falls;
          accuses = accuses;
          beside = beside;
          selected = λ none. ap (λ (x : Player). name_of x.selected) goes;
          held = subst (λ (h : Option Held). HeldFits h q t.book) (sym resting) tt;
        })
