-- Turns, one behind the other: what is so behind some is so behind one more.
use Rattle.action_queue.specs.Book.{Meaning}
use Rattle.imap_session.specs.declared.permits.Permits.{Permits}
use Rattle.play_driver.proofs.Calls.{kept_last, stays_on, stays_start}
use Rattle.play_driver.proofs.Faulting.{same_err}
use Rattle.play_driver.proofs.Parts.{grows_start, since_first, since_second}
use Rattle.play_driver.specs.Holds.{HeldFits}
use Rattle.play_driver.specs.Joining.{AllFair, Grows, IsFair, IsKept, StaysJoined}
use Rattle.play_driver.specs.KnownAt.{KnownAt}
use Rattle.play_driver.specs.Played.{played}
use Rattle.play_driver.specs.Questioning.{TalkStep}
use Rattle.play_driver.specs.Running.{RunsBetween, StopsBehind}
use Rattle.play_driver.specs.Turning.{IsNext, Standing, TurnFails, need_at}
use Rattle.play_driver.specs.declared.fault.PlayFault.{PlayFault}
use Rattle.play_driver.specs.declared.session.Held.{Held}
use Rattle.book_laws.specs.Kept.{Kept}
use Rattle.playback.specs.Needs.{NeedsNoMemory, need_of}
use Rattle.playback.specs.declared.need.Need.{Need}
use Rattle.playback.specs.declared.need.Need.TheVariants as needs
use Rattle.playback.specs.declared.player.Player.{Player}
use Rattle.std.proofs.Common.{Bool, Err, None, Option, Result, Some, false, refl, subst, true, ◌∙◌, ◌≡◌}
use Rattle.std.specs.Prelude.{IsTrue}
use Rattle.store_core.specs.Holding.{Holding}
use Rattle.store_core.specs.Mail.{mail}
use Rattle.world_traits.proofs.Passing.{since_start}
use Rattle.world_traits.specs.LinkState.{LinkState}
use Rattle.world_traits.specs.Links.{Any}
use Rattle.world_traits.specs.Moments.{Clock, Since}
use Rattle.play_driver.specs.Turning.TurnFails.{wanting}
use Rattle.play_driver.specs.declared.fault.PlayFault.TheVariants as faults

-- the first turns
pub talks_start : (k : Clock) → Since Any TalkStep k k
talks_start k = since_start Any TalkStep k

-- What is so at a clock of a run: its moments are kept and joined, and where others were fair the player knows the connection.
pub record GoneOn (made old now : Clock) (permits : Option Permits) (held : Option Held) (p : Player) (b : Meaning) : Type 0 where
  pub joined : StaysJoined mail Kept played old now
  pub known : AllFair mail played old now → KnownAt made now permits held p b

-- behind what was so far, a turn
module _ (made old mid : Clock) (permits : Option Permits) (held : Option Held) (p : Player) (b : Meaning) (kept : IsKept mail Kept old.now) (before : Grows old mid)
    (so_far : GoneOn made old mid permits held p b) (new : Clock) (more : Grows mid new) where
  fair_first : AllFair mail played old new → AllFair mail played old mid
  fair_first fair = since_first Any (IsFair mail played) old mid new before more fair

  fair_second : AllFair mail played old new → AllFair mail played mid new
  fair_second fair = since_second Any (IsFair mail played) old mid new before more fair

  kept_there : AllFair mail played old mid → IsKept mail Kept mid.now
  kept_there fair = kept_last mail Kept played old mid kept (so_far.joined mid before (grows_start mid) fair)

  pub joined_on : (IsKept mail Kept mid.now → KnownAt made mid permits held p b → StaysJoined mail Kept played mid new) → StaysJoined mail Kept played
      old new
  joined_on turn = stays_on mail Kept played old mid new kept before more (KnownAt made mid permits held p b) so_far.joined so_far.known turn

  pub gone_on : (later : Option Permits) (holds : Option Held) (q : Player) (c : Meaning) →
      (IsKept mail Kept mid.now → KnownAt made mid permits held p b → StaysJoined mail Kept played mid new) →
      (IsKept mail Kept mid.now → KnownAt made mid permits held p b → AllFair mail played mid new → KnownAt made new later holds q c) →
      GoneOn made old new later holds q c
  gone_on later holds q c turn knows = record {
    joined = joined_on turn;
    known = λ fair. let first = fair_first fair in knows (kept_there first) (so_far.known first) (fair_second fair);
  }

  pub so_on : (R : Type 0) → AllFair mail played old new → (AllFair mail played old mid → IsKept mail Kept mid.now → KnownAt made mid permits held p b →
      AllFair mail played mid new → R) → R
  so_on R fair turn =
      let first = fair_first fair in
      turn first (kept_there first) (so_far.known first) (fair_second fair)

-- the first turns, before the first one
pub gone_start : (made k : Clock) (permits : Option Permits) (held : Option Held) (p : Player) (b : Meaning) → KnownAt made k permits held p b →
    GoneOn made k k permits held p b
gone_start made k permits held p b known = record { joined = stays_start mail Kept played k; known = λ fair. known }

-- why a run stops behind some turns: memory is wanting to say what is needed next
pub stops_wanting : (p q : Standing) (fault : PlayFault) → RunsBetween p q → (NeedsNoMemory (need_at q) → ⊥) → fault ≡ faults.Memory →
    StopsBehind p q.store q.stage.link fault
stops_wanting p q fault came takes memory = record {
  at = q;
  came = came;
  fails = wanting takes refl memory;
  same = refl;
  still = λ no_disk. refl;
}

-- or a turn fails
pub stops_behind : {T : Type 0} (p q : Standing) (store : Holding mail) (link : LinkState) (r : Result T PlayFault) (fault : PlayFault) → r ≡ Err
    fault →
    RunsBetween p q → TurnFails q link fault → store.book ≡ q.store.book → ((r ≡ Err faults.Disk → ⊥) → store ≡ q.store) →
    StopsBehind p store link fault
stops_behind p q store link r fault is came fails same still = record {
  at = q;
  came = came;
  fails = fails;
  same = same;
  still = λ no_disk. still (λ d. no_disk (same_err r fault faults.Disk is d));
}

pub memory_no_disk : faults.Disk ≡ faults.Memory → ⊥
memory_no_disk is = cc

-- where nothing is needed no reply is held
pub unheld_finished : (o : Option Held) (p : Player) (b : Meaning) (next : Option Need) → HeldFits o p b → next ≡ Some needs.Finished → IsNext next p b →
    o ≡ None
unheld_finished None p b next fits is so = refl
unheld_finished (Some h) p b next fits is so =
    let finished : needs.Finished ≡ need_of p b = subst (λ (n : Option Need). IsNext n p b) is so in
    let other : needs.Finished ≡ needs.Select h.chosen.name = finished ∙ fits.needed in
    absurd cc

-- what didn't fail
pub is_sound : (failed : Bool) → (IsTrue failed → ⊥) → failed ≡ false
is_sound true never = absurd (never refl)
is_sound false never = refl
