-- A drill goes on by one round, or ends with it.
use Rattle.std.proofs.Common.{◌≡◌, ◌⊎◌, refl, inl, inr, ℕ, suc, ◌≤◌, List, [], Option, sym, ap, subst, arith, if◌then◌else◌}
use Rattle.std.proofs.lemmas.Bool.{le-leb}
use Rattle.mail_base.specs.Account.{Credentials}
use Rattle.mail_base.specs.declared.status.Status.{Status}
use Rattle.mail_base.specs.declared.status.Status.TheVariants as status
use Rattle.action_queue.specs.Book.{Meaning}
use Rattle.mail_top.specs.Going.{Goes}
use Rattle.mail_top.specs.Played.{CameThrough}
use Rattle.mail_top.specs.Words.{WritesPlay}
use Rattle.world_mem.specs.Draws.{next}
use Rattle.world_mem.specs.declared.mem_world.MemWorld.{MemWorld}
use Rattle.world_mem.specs.declared.plan.Plan.{Plan}
use Rattle.mail_drill.specs.Came.{Begins, Runs}
use Rattle.mail_drill.specs.Held.{CameToItsEnd, Plays, again, plan_in, play_words}
use Rattle.mail_drill.specs.Misfortunes.{misfortune_at, nothing_fails, pick_of, plan_of}
use Rattle.mail_drill.specs.Ran.{Ran, course_from}
use Rattle.mail_drill.specs.Rounds.{RoundsEnd, RunsTo, TurnsTo}
use Rattle.mail_drill.specs.Standing.{IsPlayedOut, PlaysOn}
use Rattle.mail_drill.specs.declared.quiet_world.QuietWorld.{QuietWorld}
use Rattle.mail_drill.specs.declared.rounds.Ended.{Ended}
use Rattle.mail_drill.specs.declared.rounds.Ended.TheVariants as ended
use Rattle.mail_drill.specs.declared.rounds.Turn.{Turn}
use Rattle.mail_drill.specs.declared.rounds.Turn.TheVariants as turns
use Rattle.mail_drill.proofs.PlaysOn.{played_out, plays_on}

-- A call of the top call whose words are those of a play, and that read nothing.
module _ (account : Credentials) (words : List (List ℕ)) (input : List ℕ) (old new : QuietWorld) (s : Status) (are : words ≡ play_words) (none : input ≡ [])
    (ran : Ran account words input old new s) where
  pub runs_play : Runs play_words [] old.world new.world s ran.text
  runs_play = record {
    account = account;
    goes = subst (λ (i : List ℕ). Goes account play_words i (course_from old new) s ran.text) none
        (subst (λ (w : List (List ℕ)). Goes account w input (course_from old new) s ran.text) are ran.goes);
  }

  writes : WritesPlay words
  writes = record { are = are }

  -- it may be played on
  pub turns_again : (b : Meaning) → PlaysOn b old → PlaysOn b new
  turns_again b before = plays_on account words input old new s writes ran b before

  pub runs_again : (CameToItsEnd s → ⊥) → (s ≡ status.Limit → ⊥) → RunsTo turns.Again old.world new.world
  runs_again not_done no_limit = (s, ran.text, not_done, no_limit, runs_play)

  -- it came to its end
  module _ (done : CameToItsEnd s) where
    came : CameThrough s
    came = through done
      where
        through : CameToItsEnd s → CameThrough s
        through (inl is) = subst CameThrough (sym is) tt
        through (inr is) = subst CameThrough (sym is) tt

    pub turns_out : (b : Meaning) → PlaysOn b old → IsPlayedOut b new
    turns_out b before = played_out account words input old new s writes ran b before came

    pub runs_out : RunsTo (turns.Ended ended.Played) old.world new.world
    runs_out = (s, ran.text, done, runs_play)

-- whether a play came to its end its status tells
pub ended_or_not : (s : Status) → CameToItsEnd s ⊎ (CameToItsEnd s → ⊥)
ended_or_not status.Done = inl (inl refl)
ended_or_not status.Conflicts = inl (inr refl)
ended_or_not status.Words = inr neither
  where
    neither : CameToItsEnd status.Words → ⊥
    neither (inl is) = absurd cc
    neither (inr is) = absurd cc
ended_or_not status.Disk = inr neither
  where
    neither : CameToItsEnd status.Disk → ⊥
    neither (inl is) = absurd cc
    neither (inr is) = absurd cc
ended_or_not status.Link = inr neither
  where
    neither : CameToItsEnd status.Link → ⊥
    neither (inl is) = absurd cc
    neither (inr is) = absurd cc
ended_or_not status.Refused = inr neither
  where
    neither : CameToItsEnd status.Refused → ⊥
    neither (inl is) = absurd cc
    neither (inr is) = absurd cc
ended_or_not status.Reply = inr neither
  where
    neither : CameToItsEnd status.Reply → ⊥
    neither (inl is) = absurd cc
    neither (inr is) = absurd cc
ended_or_not status.Lacking = inr neither
  where
    neither : CameToItsEnd status.Lacking → ⊥
    neither (inl is) = absurd cc
    neither (inr is) = absurd cc
ended_or_not status.Validity = inr neither
  where
    neither : CameToItsEnd status.Validity → ⊥
    neither (inl is) = absurd cc
    neither (inr is) = absurd cc
ended_or_not status.Journal = inr neither
  where
    neither : CameToItsEnd status.Journal → ⊥
    neither (inl is) = absurd cc
    neither (inr is) = absurd cc
ended_or_not status.Reason = inr neither
  where
    neither : CameToItsEnd status.Reason → ⊥
    neither (inl is) = absurd cc
    neither (inr is) = absurd cc
ended_or_not status.Memory = inr neither
  where
    neither : CameToItsEnd status.Memory → ⊥
    neither (inl is) = absurd cc
    neither (inr is) = absurd cc
ended_or_not status.Limit = inr neither
  where
    neither : CameToItsEnd status.Limit → ⊥
    neither (inl is) = absurd cc
    neither (inr is) = absurd cc
ended_or_not status.Output = inr neither
  where
    neither : CameToItsEnd status.Output → ⊥
    neither (inl is) = absurd cc
    neither (inr is) = absurd cc
ended_or_not status.Input = inr neither
  where
    neither : CameToItsEnd status.Input → ⊥
    neither (inl is) = absurd cc
    neither (inr is) = absurd cc
ended_or_not status.Shelf = inr neither
  where
    neither : CameToItsEnd status.Shelf → ⊥
    neither (inl is) = absurd cc
    neither (inr is) = absurd cc

-- A call of a play, and how its round ends by the status.
module _ (account : Credentials) (words : List (List ℕ)) (input : List ℕ) (old new : QuietWorld) (s : Status) (are : words ≡ play_words) (none : input ≡ [])
    (ran : Ran account words input old new s) (turn : Turn) (ended_so : CameToItsEnd s → turn ≡ turns.Ended ended.Played)
    (again_so : (CameToItsEnd s → ⊥) → turn ≡ turns.Again) where
  pub turns_by : (b : Meaning) → PlaysOn b old → TurnsTo b turn new
  turns_by b before = by_end (ended_or_not s)
    where
      by_end : CameToItsEnd s ⊎ (CameToItsEnd s → ⊥) → TurnsTo b turn new
      by_end (inl done) = subst (λ (t : Turn). TurnsTo b t new) (sym (ended_so done)) (turns_out account words input old new s are none ran done b before)
      by_end (inr open_still) = subst (λ (t : Turn). TurnsTo b t new) (sym (again_so open_still)) (turns_again account words input old new s are none ran b before)

  pub runs_by : (s ≡ status.Limit → ⊥) → RunsTo turn old.world new.world
  runs_by no_limit = by_end (ended_or_not s)
    where
      by_end : CameToItsEnd s ⊎ (CameToItsEnd s → ⊥) → RunsTo turn old.world new.world
      by_end (inl done) = subst (λ (t : Turn). RunsTo t old.world new.world) (sym (ended_so done)) (runs_out account words input old new s are none ran done)
      by_end (inr open_still) =
          subst (λ (t : Turn). RunsTo t old.world new.world) (sym (again_so open_still)) (runs_again account words input old new s are none ran open_still no_limit)

-- The rounds so far, and the one that began.
module _ (first : MemWorld) (seed number x : ℕ) (pick : Option ℕ) (before begun world : MemWorld) (so_far : Plays first seed number x pick before) where
  -- with its own plan it was the last one
  ends_by : number ≤ 101 → Begins pick (plan_in number x) before begun → (e : Ended) → RunsTo (turns.Ended e) begun world → RoundsEnd first seed e world
  ends_by most begins ended.Played runs = (
    runs.0,
    runs.1,
    runs.2,
    record {
      number = number;
      most = most;
      x = x;
      pick = pick;
      before = before;
      plays = so_far;
      begun = begun;
      begins = begins;
      runs = runs.3;
    },
  )
  ends_by most begins (ended.Limit line) runs = record {
    number = number;
    most = most;
    x = x;
    pick = pick;
    before = before;
    plays = so_far;
    begun = begun;
    begins = begins;
    runs = runs;
  }
  ends_by most begins (ended.Unfinished s) runs = absurd runs

  -- one of the first hundred
  module _ (early : number ≤ 100) (begins : Begins pick (plan_of (misfortune_at number x)) before begun) where
    early_plan : plan_in number x ≡ plan_of (misfortune_at number x)
    early_plan = ap (λ test. if test then plan_of (misfortune_at number x) else nothing_fails) (le-leb number 100 early)

    pub round_ends : (e : Ended) → RunsTo (turns.Ended e) begun world → RoundsEnd first seed e world
    round_ends e runs = ends_by (omega (arith, early)) (subst (λ (plan : Plan). Begins pick plan before begun) (sym early_plan) begins) e runs

    pub round_again : RunsTo turns.Again begun world → (after left : ℕ) (picks : Option ℕ) → after ≡ suc number → left ≡ next (next x) →
        picks ≡ pick_of (misfortune_at number x) → Plays first seed after left picks world
    round_again runs after left picks one two three =
        subst (λ (n : ℕ). Plays first seed n left picks world) (sym one)
        (subst (λ (y : ℕ). Plays first seed (suc number) y picks world) (sym two)
        (subst (λ (p : Option ℕ). Plays first seed (suc number) (next (next x)) p world) (sym three) (again so_far early begins runs.4 runs.2 runs.3)))

-- a round is played in a world that is lent
pub lent_runs : (turn to : Turn) → turn ≡ to → (lent begun world : QuietWorld) → lent ≡ begun → RunsTo turn lent.world world.world →
    RunsTo to begun.world world.world
lent_runs turn to is lent begun world same runs =
    subst (λ (w : QuietWorld). RunsTo to w.world world.world) same (subst (λ (t : Turn). RunsTo t lent.world world.world) is runs)

pub lent_plays : (b : Meaning) (turn to : Turn) → turn ≡ to → (lent begun world : QuietWorld) → lent ≡ begun → (PlaysOn b lent → TurnsTo b turn world) →
    PlaysOn b begun → TurnsTo b to world
lent_plays b turn to is lent begun world same turns_to before =
    subst (λ (t : Turn). TurnsTo b t world) is (turns_to (subst (λ (w : QuietWorld). PlaysOn b w) (sym same) before))
