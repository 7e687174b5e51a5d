use Rattle.mail_bench.proofs.Standing.{hold_the_same}
use Rattle.mail_bench.proofs.turns.tell_anew.Goals as goal

pub returns : goal.returns
returns g c = record {
  same = λ tells. hold_the_same _ _ _ _ _ (c.in_ok-store.ensures.value tells) c.in_ok-turn_often.ensures.value (c.in_ok-turn_often.ensures.done tells);
}
