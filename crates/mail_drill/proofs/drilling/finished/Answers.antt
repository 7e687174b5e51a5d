-- Where all is played, the line tells what became of the actions.
use Rattle.std.proofs.Common.{subst}
use Rattle.mail_drill.specs.Rounds.{IsOver}
use Rattle.mail_drill.proofs.Endings.{all_played, always_counted, counts_told, limit_passed}
use Rattle.mail_drill.proofs.PlayingOn.{plays_on}
use Rattle.mail_drill.proofs.drilling.finished.Goals as goal

pub returns-in-Limit : goal.returns-in-Limit
returns-in-Limit c = λ task b has asked gives count all.
    c.limited.ensures task
    (limit_passed task c.args.world.value.world c.in_ok-both.both.0.value.world c.args.draws c.in_ok-both.both.1 c.in-Limit.line c.in-Limit.is
    c.in_ok-both.ensures.rounds gives)

pub returns-in_ok-line-in-Played : goal.returns-in_ok-line-in-Played
returns-in_ok-line-in-Played c = λ task b has asked gives count all.
    all_played task b c.in_ok-both.both.0.value asked c.args.world.value.world c.args.draws c.deref.result.now c.in_ok-both.both.1 c.args.given
    c.in-Some.counts c.in_ok-line-in-Played.line.items c.deref.ensures c.in-Played.is
    (c.in_ok-both.ensures.ends b (plays_on b c.args.world.value has)) c.in_ok-both.ensures.rounds gives
    (counts_told c.deref.result.now c.in_ok-told-in-Played.told c.in-Some.counts c.in-Some.is c.in_ok-told-in-Played.ensures)
    c.in_ok-line-in-Played.ensures count all

pub returns-in_default : goal.returns-in_default
returns-in_default c = λ task b has asked gives count all.
    absurd (always_counted b c.deref.result.now c.in_ok-both.both.0.value c.in_ok-both.both.1 c.in_ok-told-in-Played.told c.deref.ensures c.in-Played.is
    (c.in_ok-both.ensures.ends b (plays_on b c.args.world.value has)) c.in_ok-told-in-Played.ensures c.in_default.not-Some)

pub returns-in-Unfinished : goal.returns-in-Unfinished
returns-in-Unfinished c = λ task b has asked gives count all.
    absurd (subst IsOver c.in-Unfinished.is
    (c.in_ok-both.ensures.over b (plays_on b c.args.world.value has)))
