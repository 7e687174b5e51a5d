-- An event is recorded that the player needs, over one world.
use Rattle.action_queue.specs.Book.{Meaning, after}
use Rattle.action_queue.specs.declared.event.Event.{Event}
use Rattle.imap_session.specs.Session.{Stands}
use Rattle.journal_core.specs.OneSide.{EachOneSide}
use Rattle.literal_feed.specs.Stream.{Stream}
use Rattle.play_driver.proofs.GroundChains.{record_grounded}
use Rattle.play_driver.proofs.OneTurn.{stands_kept}
use Rattle.play_driver.proofs.OverOne.{record_talks}
use Rattle.play_driver.proofs.Progressing.{takes_progress}
use Rattle.play_driver.proofs.Reasons.{may_come, of_playback, ready, takes_joined, true_event}
use Rattle.play_driver.specs.GoesOn.{GoesOn}
use Rattle.play_driver.specs.Joining.{IsKept}
use Rattle.play_driver.specs.KnownAt.{KnownAt, StandsKept}
use Rattle.play_driver.specs.Progress.{box_names}
use Rattle.play_driver.specs.Sessions.{held_in, permits_in}
use Rattle.play_driver.specs.Settled.{IsSyncedSoFar}
use Rattle.play_driver.specs.TrueRecords.{TrueEvent}
use Rattle.play_driver.specs.Turned.{MayTurn}
use Rattle.play_driver.specs.declared.fault.PlayFault.{PlayFault}
use Rattle.play_driver.specs.declared.session.Held.{Held}
use Rattle.play_driver.specs.declared.session.Session.{Session}
use Rattle.playback.specs.Allowed.{Records}
use Rattle.playback.specs.Choosing.{IsEntered, committed}
use Rattle.book_laws.specs.Kept.{Kept}
use Rattle.playback.specs.Needs.{need_of}
use Rattle.playback.specs.declared.finding.Resynced.{Resynced}
use Rattle.playback.specs.declared.need.Need.{Need}
use Rattle.playback.specs.declared.need.Need.TheVariants as needs
use Rattle.playback.specs.declared.player.Player.{Player}
use Rattle.imap_model.specs.Talking.{Peer}
use Rattle.imap_session.specs.Hearing.{Hears}
use Rattle.std.proofs.Common.{IfOk, ap, is_some, List, None, Option, Result, Some, refl, sym, subst, true, ◌∙◌, ℕ, ◌≡◌}
use Rattle.store_core.specs.Holding.{Holding}
use Rattle.store_core.specs.Mail.{MayCome, mail}
use Rattle.store_core.specs.Taking.{Takes}
use Rattle.world_traits.specs.Files.{Files}
use Rattle.world_traits.specs.LinkState.{Connection, LinkState}
use Rattle.world_traits.specs.Moments.{Clock}
use Rattle.world_traits.specs.declared.clocked.Clocked.{Ghosts}

-- the connection stands as it stood, where the outside didn't change
pub stands_still : (selected : Option (List ℕ)) (k m : Clock) (c d : Option Connection) (feed : Stream) →
    m.now.outside ≡ k.now.outside → d ≡ c → Stands selected k c feed → Stands selected m d feed
stands_still selected k m c d feed same link stands =
    subst (λ (e : Option Connection). Stands selected m e feed) (sym link)
    (record {
      nothing = ap (λ (o : Peer). o.waiting) same ∙ stands.nothing;
      no_part = ap (λ (o : Peer). o.talk.arriving) same ∙ stands.no_part;
      selects = ap (λ (o : Peer). o.talk.selected) same ∙ stands.selects;
      hears = subst (λ (o : Peer). Hears o.talk.told c feed) (sym same) stands.hears;
      empty = stands.empty;
    })

module _ {Self : Type 0} (W : Ghosts Self) (old new : Self) (session : Session) (p : Player) (s : Holding mail) (event : Event) (seen : Files)
    (given : MayTurn W old seen session p s) (resting : held_in session ≡ None) (needed : Records (need_of p s.book) event)
    (takes : W.tells_files → Takes mail (Some s.book) event (W.clock old) (W.clock new)) where
  pub may : MayCome s.journal.version (Some s.book) event
  may = may_come s.journal.version given.written p s.book event given.fold given.rests.beside needed

  pub stands : W.tells_server → IsKept mail Kept (W.clock old).now → StandsKept s.book (W.clock old)
  stands t kept = stands_kept s _ _ _ _ _ (given.left (W.server_with_files t)) (given.rests.stands t) kept

  -- no reply is held
  pub rested : (made : Clock) → KnownAt made (W.clock old) (permits_in session) (held_in session) p s.book →
      KnownAt made (W.clock old) (permits_in session) None p s.book
  rested made known = subst (λ (h : Option Held). KnownAt made (W.clock old) (permits_in session) h p s.book) resting known

  pub then_rested : (made : Clock) (q : Player) (c : Meaning) → KnownAt made (W.clock new) (permits_in session) None q c →
      KnownAt made (W.clock new) (permits_in session) (held_in session) q c
  then_rested made q c known = subst (λ (h : Option Held). KnownAt made (W.clock new) (permits_in session) h q c) (sym resting) known

  pub synced_rested : (start : Clock) (q : Player) (c : Meaning) →
      (IsSyncedSoFar start (W.clock old) None p s.book → IsSyncedSoFar start (W.clock new) None q c) →
      IsSyncedSoFar start (W.clock old) (held_in session) p s.book → IsSyncedSoFar start (W.clock new) (held_in session) q c
  synced_rested start q c then so_far =
      subst (λ (h : Option Held). IsSyncedSoFar start (W.clock new) h q c) (sym resting)
      (then (subst (λ (h : Option Held). IsSyncedSoFar start (W.clock old) h p s.book) resting so_far))

  pub goes_recorded : (q : Player) (c : Meaning) (r : Result Session PlayFault) →
      (W.tells_server → (made : Clock) → StandsKept s.book (W.clock old) → KnownAt made (W.clock old) (permits_in session) (held_in session) p s.book →
      IfOk r (λ next. KnownAt made (W.clock new) (permits_in next) (held_in next) q c)) →
      (W.tells_files → EachOneSide (W.clock old) (W.clock new)) → W.link new ≡ W.link old → GoesOn W old new session p q s.book c r
  goes_recorded q c r knows sides link = record {
    progress = λ t. takes_progress s.book s.journal.version event (of_playback p s.book event needed) may (W.clock old) (W.clock new) (takes t);
    joined = λ t made kept known.
        takes_joined p s.book event made (W.clock old) (permits_in session) (stands t kept) (rested made known) needed s.journal.version (W.clock new) may
        (takes (W.server_with_files t));
    known = λ t made kept known fair. knows t made (stands t kept) known;
    each_one_side = sides;
    talks = λ t. record_talks s event (W.clock old) (W.clock new) (takes (W.server_with_files t));
    grounds = λ t. record_grounded (box_names s.book) s.book event (W.clock old) (W.clock new) (takes (W.server_with_files t));
    earlier = λ t. ap (λ (l : LinkState). l.earlier) link;
  }

  pub truly_recorded : W.tells_server → (made : Clock) (entry : Meaning) → IsKept mail Kept (W.clock old).now →
      KnownAt made (W.clock old) (permits_in session) (held_in session) p s.book → IsEntered entry p s.book → TrueEvent event entry s.book made (W.clock old)
  truly_recorded t made entry kept known entered =
      true_event p s.book event made (W.clock old) (permits_in session) (stands t kept) (rested made known) needed entry entered
      (ready p s.book event given.fold given.rests.beside needed).lawful

-- a delta is recorded as it was moved out of the player, by a book that is this one
pub learns_event : (p : Player) (b x : Meaning) (event : Event) → x ≡ b → need_of p x ≡ needs.Commit event → Records (need_of p b) event
learns_event p b x event same need =
    subst (λ (n : Need). Records n event) (sym (subst (λ (y : Meaning). need_of p y ≡ needs.Commit event) same need)) refl

pub learned_goes : (p q : Player) (b x : Meaning) (event : Event) → x ≡ b → q ≡ committed p (after x event) → q ≡ committed p (after b event)
learned_goes p q b x event same goes = subst (λ (y : Meaning). q ≡ committed p (after y event)) same goes

pub waits_some : (o : Option Resynced) → is_some o ≡ true → o ≡ None → ⊥
waits_some None some none = absurd cc
waits_some (Some told) some none = absurd cc
