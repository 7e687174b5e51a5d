-- A turn that is a call of the link, which leaves the files as they were.
use Rattle.play_driver.proofs.BookAtRest.{book_rests_linked}
use Rattle.play_driver.proofs.Faulting.{same_err}
use Rattle.play_driver.proofs.GatheredKnown.{asks_joined}
use Rattle.play_driver.proofs.Links.{left_there}
use Rattle.play_driver.proofs.ManyTurns.{is_sound}
use Rattle.play_driver.proofs.OneTurn.{stands_kept}
use Rattle.play_driver.proofs.OverOne.{over_talks}
use Rattle.play_driver.proofs.Progressing.{firm_left, later_start, linked_progress, linked_sides, rests_left}
use Rattle.play_driver.specs.Accuses.{Accuses, AccusesLink}
use Rattle.play_driver.specs.Faults.{IsReplyFault}
use Rattle.play_driver.specs.GoesOn.{GoesOn, SyncsOn}
use Rattle.play_driver.specs.Grounds.{GroundStep}
use Rattle.play_driver.specs.Joining.{AllFair, IsKept, StaysJoined}
use Rattle.play_driver.specs.KnownAt.{KnownAt, StandsKept}
use Rattle.play_driver.specs.Played.{played}
use Rattle.play_driver.specs.Progress.{box_names}
use Rattle.play_driver.specs.Questioning.{Questioning, TalkStep}
use Rattle.play_driver.specs.Reasons.{Reasons}
use Rattle.play_driver.specs.Rests.{Rests, Stored}
use Rattle.play_driver.specs.Running.{turns_left}
use Rattle.play_driver.specs.Sessions.{count_of, held_in, permits_in}
use Rattle.play_driver.specs.TrueRecords.IsTrueSince.{rests as still_true}
use Rattle.play_driver.specs.TrueRecords.{IsTrueSince}
use Rattle.play_driver.specs.Turned.{MayTurn, TurnedByLink}
use Rattle.play_driver.specs.Turning.{TurnFails, Turns, standing_of}
use Rattle.play_driver.specs.declared.fault.PlayFault.{PlayFault}
use Rattle.play_driver.specs.declared.session.Session.{Session}
use Rattle.action_queue.specs.Book.{Meaning}
use Rattle.book_laws.specs.Kept.{Kept}
use Rattle.imap_session.specs.Enquiring.{Enquiring}
use Rattle.playback.specs.Choosing.{IsEntered}
use Rattle.playback.specs.declared.player.Player.{Player}
use Rattle.std.proofs.Common.{Err, IfOk, Ok, Result, arith, refl, subst, sym, ◌+◌, ◌<◌, ◌≡◌, ◌≤◌}
use Rattle.store_core.specs.Holding.{Holding}
use Rattle.store_core.specs.Mail.{mail}
use Rattle.world_traits.specs.Files.{Files}
use Rattle.world_traits.specs.Links.{Any, AnyStep, Linked}
use Rattle.world_traits.specs.Moments.{Clock, MayLeave, Since}
use Rattle.world_traits.specs.declared.clocked.Clocked.{Ghosts}

-- What such a call tells of the moments inside it: where book and server are kept, and the player knows the connection, each is joined to the
-- one before it; and no connection is made.
pub record Over {Self : Type 0} (W : Ghosts Self) (old new : Self) (session : Session) (p : Player) (s : Holding mail) : Type 0 where
  pub joined : W.tells_server → (made : Clock) → StandsKept s.book (W.clock old)
      → KnownAt made (W.clock old) (permits_in session) (held_in session) p s.book → StaysJoined mail Kept played (W.clock old) (W.clock new)
  pub talks : W.tells_server → Since Any TalkStep (W.clock old) (W.clock new)
  pub grounds : W.tells_server → Since Any (GroundStep (box_names s.book)) (W.clock old) (W.clock new)
  pub earlier : W.tells_files → (W.link new).earlier ≡ (W.link old).earlier

-- so it is of questions alone
pub asks_over : {Self : Type 0} (W : Ghosts Self) (old new : Self) (session : Session) (p : Player) (s : Holding mail) →
    (W.tells_server → Linked Enquiring (W.clock old) (W.clock new)) → (W.tells_server → Linked Questioning (W.clock old) (W.clock new)) →
    (W.tells_server → Since Any (GroundStep (box_names s.book)) (W.clock old) (W.clock new)) →
    (W.tells_files → (W.link new).earlier ≡ (W.link old).earlier) → Over W old new session p s
asks_over W old new session p s told asks grounds earlier = record {
  joined = λ t made stands known. asks_joined s.book _ _ stands (told t);
  talks = λ t. over_talks _ _ (asks t);
  grounds = grounds;
  earlier = earlier;
}

-- The turn was taken.
pub record Took {Self : Type 0} (W : Ghosts Self) (old new : Self) (session : Session) (p q : Player) (s : Holding mail) (next : Session)
    : Type 0 where
  pub over : Over W old new session p s
  pub known : W.tells_server → (made : Clock) → StandsKept s.book (W.clock old)
      → KnownAt made (W.clock old) (permits_in session) (held_in session) p s.book → AllFair mail played (W.clock old) (W.clock new)
      → KnownAt made (W.clock new) (permits_in next) (held_in next) q s.book
  pub synced : SyncsOn W old new session p q s.book s.book (Ok next)
  pub turns : W.tells_files → Turns (standing_of (W.link old) session s p) (standing_of (W.link new) next s q)
  pub entered : (entry : Meaning) → IsEntered entry p s.book → IsEntered entry q s.book
  pub falls : turns_left (held_in next) q s.book < turns_left (held_in session) p s.book
  pub counted : count_of next ≤ count_of session + 2
  pub accuses : AccusesLink W old new (Ok next)
  pub rests : Rests W new q s.book next

-- It failed by this fault, and the player is as before.
pub record Failed {Self : Type 0} (W : Ghosts Self) (old new : Self) (session : Session) (p : Player) (s : Holding mail)
    (result : Result Session PlayFault) (fault : PlayFault) : Type 0 where
  pub over : Over W old new session p s
  pub why : W.tells_files → TurnFails (standing_of (W.link old) session s p) (W.link new) fault
  pub excused : W.tells_server → (made : Clock) → IsKept mail Kept (W.clock old).now
      → KnownAt made (W.clock old) (permits_in session) (held_in session) p s.book → AllFair mail played (W.clock old) (W.clock new)
      → IsReplyFault fault → ⊥
  pub accuses : AccusesLink W old new result

-- a count stays the disk's
accuses_both : {Self : Type 0} (W : Ghosts Self) (old new : Self) (result : Result Session PlayFault) → AccusesLink W old new result →
    Accuses W old new result
accuses_both W old new result accuses = record {
  disk_count = omega (arith, accuses.disk);
  link_count = accuses.count;
  disk_cause = λ is. absurd (accuses.no_disk is);
  link_cause = accuses.cause;
  disk_unfailed = λ no. accuses.disk;
  link_unfailed = accuses.unfailed;
  honest = accuses.honest;
}

module _ {Self : Type 0} (W : Ghosts Self) (old new : Self) (session : Session) (p : Player) (s : Holding mail) (seen : Files)
    (ready : MayTurn W old seen session p s) (files : W.tells_files → Linked AnyStep (W.clock old) (W.clock new)) where
  pub stands_over : W.tells_server → IsKept mail Kept (W.clock old).now → StandsKept s.book (W.clock old)
  stands_over t kept = stands_kept s _ _ _ _ _ (ready.left (W.server_with_files t)) (ready.rests.stands t) kept

  -- nothing was recorded
  true_over : W.tells_server → (made : Clock) (entry : Meaning) → IsTrueSince entry made (W.clock old) s.book →
      IsTrueSince entry made (W.clock new) s.book
  true_over t made entry truly =
      let f = W.server_with_files t in
      still_true _ _ _ truly (book_rests_linked s.book AnyStep _ _ (firm_left s (W.clock old) _ (ready.left f)) (files f))

  goes_over : (q : Player) (r : Result Session PlayFault) → Over W old new session p s →
      (W.tells_server → (made : Clock) → StandsKept s.book (W.clock old) → KnownAt made (W.clock old) (permits_in session) (held_in session) p s.book →
      AllFair mail played (W.clock old) (W.clock new) → IfOk r (λ next. KnownAt made (W.clock new) (permits_in next) (held_in next) q s.book)) →
      GoesOn W old new session p q s.book s.book r
  goes_over q r over knows = record {
    progress = λ t. linked_progress s.book AnyStep _ _ (firm_left s (W.clock old) _ (ready.left t)) (files t);
    joined = λ t made kept known. over.joined t made (stands_over t kept) known;
    known = λ t made kept known fair. knows t made (stands_over t kept) known fair;
    each_one_side = λ t. linked_sides AnyStep _ _ (rests_left s (W.clock old) _ (ready.left t)) (files t);
    talks = over.talks;
    grounds = over.grounds;
    earlier = over.earlier;
  }

  reasons_over : (r : Result Session PlayFault) → AccusesLink W old new r → Reasons W (Unit {0}) old new session p s.book s.book r
  reasons_over r accuses = record {
    truly = λ t made entry kept known others entered truly not. true_over t made entry truly;
    stopped = λ t is. absurd (accuses.no_disk is);
  }

  module _ (now : Files) (may : W.tells_files → MayLeave (W.clock new).now now) where
    stored_over : (r : Result Session PlayFault) → Stored W new now s.book s r
    stored_over r = record {
      fold = ready.fold;
      later = later_start s.book;
      left = λ t not. left_there mail AnyStep s _ _ _ _ (ready.left t) (files t) (may t);
      sound_still = λ not. is_sound s.journal.failed ready.sound;
      written = λ not. ready.written;
    }

    pub took_over : (q : Player) (next : Session) → Took W old new session p q s next → TurnedByLink W old new now session p q s (Ok next)
    took_over q next took = record {
      turned = record {
        goes_on = goes_over q (Ok next) took.over took.known;
        synced = took.synced;
        reasons = reasons_over (Ok next) took.accuses;
        takes = record {
          turns = took.turns;
          why = λ t fault is. absurd cc;
          same = λ is. absurd cc;
          stays = λ is. absurd cc;
          kept = λ is. absurd cc;
          entered = took.entered;
          falls = took.falls;
          counted = took.counted;
        };
        excuses = record { faultless = λ t made kept known fair fault is. absurd cc };
        accuses = accuses_both W old new (Ok next) took.accuses;
        rests = took.rests;
        stored = stored_over (Ok next);
      };
      accuses = took.accuses;
    }

    fails_over : (fault : PlayFault) → Failed W old new session p s (Err fault) fault → TurnedByLink W old new now session p p s (Err fault)
    fails_over fault failed = record {
      turned = record {
        goes_on = goes_over p (Err fault) failed.over (λ t made stands known fair. tt);
        synced = λ t made start first kept known fair so_far. tt;
        reasons = reasons_over (Err fault) failed.accuses;
        takes = record {
          turns = λ t. tt;
          why = λ t f is.
              subst (TurnFails (standing_of (W.link old) session s p) (W.link new)) (same_err {T = Session} (Err fault) fault f refl is) (failed.why t);
          same = λ is none. refl;
          stays = λ is. refl;
          kept = λ is no. refl;
          entered = tt;
          falls = tt;
          counted = tt;
        };
        excuses = record {
          faultless = λ t made kept known fair f is reply.
              failed.excused t made kept known fair (subst IsReplyFault (same_err {T = Session} (Err fault) f fault is refl) reply);
        };
        accuses = accuses_both W old new (Err fault) failed.accuses;
        rests = tt;
        stored = stored_over (Err fault);
      };
      accuses = failed.accuses;
    }

    pub failed_over : (q : Player) (r : Result Session PlayFault) (fault : PlayFault) → q ≡ p → r ≡ Err fault → Failed W old new session p s r fault →
        TurnedByLink W old new now session p q s r
    failed_over q r fault same is failed =
        subst (λ (x : Player). TurnedByLink W old new now session p x s r) (sym same)
        (subst (λ (x : Result Session PlayFault). TurnedByLink W old new now session p p s x) (sym is)
        (fails_over fault (subst (λ (x : Result Session PlayFault). Failed W old new session p s x fault) is failed)))
