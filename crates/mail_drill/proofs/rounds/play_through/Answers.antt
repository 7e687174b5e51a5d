use Rattle.std.proofs.Common.{◌+◌, arith}
use Rattle.std.proofs.lemmas.Result.{IfOk-weaker}
use Rattle.mail_drill.specs.Held.{none}
use Rattle.mail_drill.specs.declared.rounds.Turn.TheVariants as turns
use Rattle.mail_drill.proofs.LastRounds.{last_ends, runs_over}
use Rattle.mail_drill.proofs.RoundSteps.{lent_plays, lent_runs, round_again, round_ends}
use Rattle.mail_drill.proofs.rounds.play_through.Goals as goal

pub loop-round-init : goal.loop-round-init
loop-round-init c = record { played = none; plays_on = λ b before. before }

pub loop-round-preserved : goal.loop-round-preserved
loop-round-preserved c =
    let l = c.loop-round in
    record {
      played = round_again c.args.world.value.world c.args.draws.now l.round l.draws l.pick l.world.value.world c.in_ok-begun.begun.value.world
          c.played.new.world.world l.invariant.played (omega (arith, c.loop-round-test.true)) c.in_ok-begun.ensures.begins
          (lent_runs c.in_ok-ended.field-0 turns.Again c.in-Again.is c.deref_mut.result.now c.in_ok-begun.begun.value c.played.new.world
          c.deref_mut.ensures.value c.in_ok-ended.ensures.runs) (l.round + 1) c.begun_round.new.draws c.in_ok-begun.next (omega arith)
          c.in_ok-begun.ensures.draws c.in_ok-begun.ensures.pick;
      plays_on = λ b before.
          lent_plays b c.in_ok-ended.field-0 turns.Again c.in-Again.is c.deref_mut.result.now c.in_ok-begun.begun.value c.played.new.world
          c.deref_mut.ensures.value (c.in_ok-ended.ensures.turns b) (c.in_ok-begun.ensures.plays b (l.invariant.plays_on b before));
    }

pub returns-in-Ended-clause-rounds : goal.returns-in-Ended-clause-rounds
returns-in-Ended-clause-rounds c =
    let l = c.loop-round in
    round_ends c.args.world.value.world c.args.draws.now l.round l.draws l.pick l.world.value.world c.in_ok-begun.begun.value.world
    c.played.new.world.world l.invariant.played (omega (arith, c.loop-round-test.true)) c.in_ok-begun.ensures.begins c.in-Ended.ended
    (lent_runs c.in_ok-ended.field-0 (turns.Ended c.in-Ended.ended) c.in-Ended.is c.deref_mut.result.now c.in_ok-begun.begun.value c.played.new.world
    c.deref_mut.ensures.value c.in_ok-ended.ensures.runs)

pub returns-in-Ended-clause-over : goal.returns-in-Ended-clause-over
returns-in-Ended-clause-over c = λ b before.
    runs_over c.in-Ended.ended c.in_ok-begun.begun.value.world c.played.new.world.world
    (lent_runs c.in_ok-ended.field-0 (turns.Ended c.in-Ended.ended) c.in-Ended.is c.deref_mut.result.now c.in_ok-begun.begun.value c.played.new.world
    c.deref_mut.ensures.value c.in_ok-ended.ensures.runs)

pub returns-clause-ends : goal.returns-clause-ends
returns-clause-ends c = λ b before. c.last_round.ensures.ends b (c.loop-round.invariant.plays_on b before)

pub returns-clause-over : goal.returns-clause-over
returns-clause-over c = λ b before. c.last_round.ensures.over b (c.loop-round.invariant.plays_on b before)

pub returns-clause-rounds : goal.returns-clause-rounds
returns-clause-rounds c =
    let l = c.loop-round in
    IfOk-weaker c.last_round.result _ _
    (λ both last.
    last_ends c.args.world.value.world c.args.draws.now l.round l.draws l.pick l.world.value.world both.0.value.world l.invariant.played
    (omega (arith, c.loop-round-test.false, l.auto.round-end)) c.in-Some.pick c.in-Some.is both.1 last)
    c.last_round.ensures.round
