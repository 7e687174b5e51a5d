-- The last round: it is the hundred and first, goes on from a stop, and ends a drill.
use Rattle.std.proofs.Common.{◌≡◌, ⊎_elim, ℕ, List, [], length, Option, Some, None, sym, ◌∙◌, ap, subst, arith}
use Rattle.std.proofs.lemmas.Option.{none-some}
use Rattle.mail_base.specs.Account.{Credentials}
use Rattle.mail_base.specs.declared.status.Status.{Status}
use Rattle.mail_base.specs.declared.status.Status.TheVariants as status
use Rattle.action_queue.specs.Book.{Meaning}
use Rattle.world_traits.specs.Files.{Files}
use Rattle.world_mem.specs.Draws.{drawn, next}
use Rattle.world_mem.specs.Restarting.{goes_on_from, left_of}
use Rattle.world_mem.specs.Running.{Run}
use Rattle.world_mem.specs.Worlds.{run_in}
use Rattle.world_mem.specs.declared.mem_world.MemWorld.{MemWorld}
use Rattle.world_mem.specs.declared.plan.Plan.{Plan}
use Rattle.mail_top.specs.CompletePlay.{HasEachBox}
use Rattle.mail_top.specs.KeptNow.{IsKeptNow}
use Rattle.mail_drill.specs.Came.{Begins, Runs}
use Rattle.mail_drill.specs.Connected.{Untouched}
use Rattle.mail_drill.specs.Held.{CameToItsEnd, EndsPlaying, Plays, again, none, play_words}
use Rattle.mail_drill.specs.Misfortunes.{misfortune_at, nothing_fails, pick_of, plan_of}
use Rattle.mail_drill.specs.Ran.{Ran}
use Rattle.mail_drill.specs.Rounds.{EndsIn, IsLastRound, IsOver, RoundsEnd, RunsLast, RunsTo}
use Rattle.mail_drill.specs.Standing.{PlaysOn, clock_of, now_of, seen_of}
use Rattle.mail_drill.specs.declared.misfortune.Misfortune.{Misfortune}
use Rattle.mail_drill.specs.declared.misfortune.Misfortune.TheVariants as misfortunes
use Rattle.mail_drill.specs.declared.quiet_world.QuietWorld.{QuietWorld}
use Rattle.mail_drill.specs.declared.rounds.Ended.{Ended}
use Rattle.mail_drill.specs.declared.rounds.Ended.TheVariants as ended
use Rattle.mail_drill.specs.declared.rounds.Turn.TheVariants as turns
use Rattle.mail_drill.proofs.Mailboxes.{has_each_box}
use Rattle.mail_drill.proofs.ServedCalls.{start_untouched}
use Rattle.mail_drill.proofs.RoundSteps.{ended_or_not, runs_out, runs_play, turns_out}

-- by the plan of a round in which something goes wrong something fails
pub something_fails : (m : Misfortune) (plan : Plan) → plan ≡ plan_of m → plan ≡ nothing_fails → ⊥
something_fails (misfortunes.Stop calls pick) plan is calm =
    none-some calls (ap (λ (p : Plan). p.stop_after) (sym calm ∙ is))
something_fails (misfortunes.Lost call loss) plan is calm =
    omega (arith, ap (λ (p : Plan). length p.link_fails) (sym calm ∙ is))

-- the hundredth round is stopped
pub always_stopped : (first : MemWorld) (seed number x : ℕ) (pick : Option ℕ) (w : MemWorld) → Plays first seed number x pick w → number ≡ 101 →
    pick ≡ None → ⊥
always_stopped first seed number x pick w none last is = absurd (omega (arith, last))
always_stopped first seed number x pick w (again {number = n} {x = y} plays early begins runs not_done no_limit) last is =
    let hundred : n ≡ 100 = omega (arith, last) in
    none-some (drawn 3 (next (next y))) (sym (subst (λ (m : ℕ). pick_of (misfortune_at m y) ≡ None) hundred is))

-- a round that was no last one is over, or is to be played again
pub runs_over : (e : Ended) (old new : MemWorld) → RunsTo (turns.Ended e) old new → IsOver e
runs_over ended.Played old new runs = tt
runs_over (ended.Limit line) old new runs = tt
runs_over (ended.Unfinished s) old new runs = runs

-- the last round ends the rounds
module _ (first : MemWorld) (seed number x : ℕ) (pick : Option ℕ) (before world : MemWorld) (so_far : Plays first seed number x pick before)
    (is : number ≡ 101) (p : ℕ) (picked : pick ≡ Some p) where
  at_last : Plays first seed 101 x (Some p) before
  at_last = subst (λ (o : Option ℕ). Plays first seed 101 x o before) picked (subst (λ (n : ℕ). Plays first seed n x pick before) is so_far)

  ends_playing : (e : Ended) (last : IsLastRound p before e world) (s : Status) (text : List ℕ) → Runs play_words [] last.begun world s text →
      EndsPlaying first seed world s text
  ends_playing e last s text runs = record {
    number = 101;
    most = omega arith;
    x = x;
    pick = Some p;
    before = before;
    plays = at_last;
    begun = last.begun;
    begins = last.begins;
    runs = runs;
  }

  pub last_ends : (e : Ended) → IsLastRound p before e world → RoundsEnd first seed e world
  last_ends ended.Played last =
      (last.runs.0, last.runs.1, last.runs.2, ends_playing ended.Played last last.runs.0 last.runs.1 last.runs.3)
  last_ends (ended.Limit line) last = ends_playing (ended.Limit line) last status.Limit line last.runs
  last_ends (ended.Unfinished s) last = (last.runs.0, ends_playing (ended.Unfinished s) last s last.runs.0 last.runs.1)

-- A play, and how the last round ends by its status.
module _ (account : Credentials) (words : List (List ℕ)) (input : List ℕ) (old new : QuietWorld) (s : Status) (are : words ≡ play_words) (empty : input ≡ [])
    (ran : Ran account words input old new s) (e : Ended) (ended_so : CameToItsEnd s → e ≡ ended.Played)
    (open_so : (CameToItsEnd s → ⊥) → e ≡ ended.Unfinished s) where
  pub ends_in : (b : Meaning) → PlaysOn b old → EndsIn b e new
  ends_in b before =
      ⊎_elim (λ (done : CameToItsEnd s).
      subst (λ (x : Ended). EndsIn b x new) (sym (ended_so done)) (turns_out account words input old new s are empty ran done b before))
      (λ (open_still : CameToItsEnd s → ⊥). subst (λ (x : Ended). EndsIn b x new) (sym (open_so open_still)) tt) (ended_or_not s)

  pub runs_last : RunsLast e old.world new.world
  runs_last =
      ⊎_elim (λ (done : CameToItsEnd s).
      subst (λ (x : Ended). RunsLast x old.world new.world) (sym (ended_so done)) (runs_out account words input old new s are empty ran done))
      (λ (open_still : CameToItsEnd s → ⊥).
      subst (λ (x : Ended). RunsLast x old.world new.world) (sym (open_so open_still)) (ran.text, runs_play account words input old new s are empty ran))
      (ended_or_not s)

  pub is_over : CameToItsEnd s → IsOver e
  is_over done = subst IsOver (sym (ended_so done)) tt

-- The last round is played in a world that is lent, and was made of the one that it began with.
module _ (e : Ended) (lent begun new left : QuietWorld) (same : lent ≡ begun) (is_left : left ≡ new) where
  pub ends_lent : (b : Meaning) → (PlaysOn b lent → EndsIn b e new) → PlaysOn b begun → EndsIn b e left
  ends_lent b ends before =
      subst (λ (w : QuietWorld). EndsIn b e w) (sym is_left) (ends (subst (λ (w : QuietWorld). PlaysOn b w) (sym same) before))

  pub last_lent : (pick : ℕ) (before : MemWorld) → Begins (Some pick) nothing_fails before begun.world → RunsLast e lent.world new.world →
      IsLastRound pick before e left.world
  last_lent pick before begins runs = record {
    begun = begun.world;
    begins = begins;
    runs = subst (λ (w : QuietWorld). RunsLast e begun.world w.world) (sym is_left)
        (subst (λ (w : QuietWorld). RunsLast e w.world new.world) same runs);
  }

-- from a book that may be played on it is over
pub over_lent : (e : Ended) (lent begun : QuietWorld) → lent ≡ begun → (b : Meaning) → PlaysOn b begun → (files : Files) (r : Run) →
    run_in begun.world ≡ goes_on_from files r →
    (IsKeptNow (now_of lent) → Untouched (clock_of lent) → HasEachBox (seen_of lent) (now_of lent).outside.server → IsOver e) → IsOver e
over_lent e lent begun same b before files r goes over =
    let on : PlaysOn b lent = subst (λ (w : QuietWorld). PlaysOn b w) (sym same) before in
    over on.kept
    (subst (λ (w : QuietWorld). Untouched (clock_of w)) (sym same)
    (subst (λ (x : Run). Untouched x.clock) (sym goes) (start_untouched files (left_of r.held r.state) r.held)))
    (has_each_box b lent on)
