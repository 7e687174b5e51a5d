use Rattle.world_traits.proofs.Greeting.{greeting_due, still_there}
use Rattle.mail_tests.proofs.silent.talk_once.Goals as goal

pub recv-requires-clause-due : goal.recv-requires-clause-due
recv-requires-clause-due g c = λ tells. greeting_due _ _ (c.in_ok-connect.ensures.greets tells)
    (c.in_ok-connect.ensures.made (g.L.Clocked.server_with_files tells)).begins

pub send-requires : goal.send-requires
send-requires g c = record {
  there = λ tells. let files = g.L.Clocked.server_with_files tells in
      still_there _ _ _ (c.in_ok-connect.ensures.made files).begins (c.in_ok-count.ensures.received files);
}
