-- A drill's draws begin at its seed.
use Rattle.std.proofs.Common.{◌≡◌, ℕ, ◌+◌, ◌*◌, List, [], length, sym, subst}
use Rattle.action_queue.specs.Book.{Meaning}
use Rattle.mail_drill.specs.Accepted.{accepted}
use Rattle.mail_drill.specs.Held.{Gives, PassesLimit}
use Rattle.mail_drill.specs.Orders.{orders_from, orders_of}
use Rattle.mail_drill.specs.Standing.{HasAsked, HasOne, IsBrokenAs}
use Rattle.mail_drill.specs.declared.played.Broken.{Broken}
use Rattle.mail_drill.specs.declared.played.Broken.TheVariants as brokens
use Rattle.mail_drill.specs.declared.quiet_world.QuietWorld.{QuietWorld}
use Rattle.mail_drill.specs.declared.tally.Given.{Given}
use Rattle.mail_drill.specs.declared.task.Task.{Task}

-- what was given by draws from there on is what the task's orders ask for
given_from : {P : Type 0} → (task : Task) (x left : ℕ) (w : QuietWorld) (g : Given) → x ≡ task.seed →
    ((b : Meaning) × HasOne b w × HasAsked (accepted [] (orders_from task.size (2 * task.size) 1 x)) b × (g.accepted ≡ length b.queue)
    × (g.accepted + g.refused ≡ 2 * task.size)) → Gives task.size x (2 * task.size + 1) left w.world →
    ((b : Meaning) → HasOne b w → HasAsked (accepted [] (orders_of task)) b → Gives task.size task.seed (2 * task.size + 1) left w.world →
    g.accepted ≡ length b.queue → g.accepted + g.refused ≡ 2 * task.size → P) → P
given_from task x left w g same began gives goes =
    goes began.0 began.1 (subst (λ (n : ℕ). HasAsked (accepted [] (orders_from task.size (2 * task.size) 1 n)) began.0) same began.2)
    (subst (λ (n : ℕ). Gives task.size n (2 * task.size + 1) left w.world) same gives) began.3 began.4

-- so it is in the world that is left of the one that it was given in
pub from_seed : {P : Type 0} → (task : Task) (x left : ℕ) (w v : QuietWorld) (g : Given) → v ≡ w → x ≡ task.seed →
    ((b : Meaning) × HasOne b w × HasAsked (accepted [] (orders_from task.size (2 * task.size) 1 x)) b × (g.accepted ≡ length b.queue)
    × (g.accepted + g.refused ≡ 2 * task.size)) → Gives task.size x (2 * task.size + 1) left w.world →
    ((b : Meaning) → HasOne b v → HasAsked (accepted [] (orders_of task)) b → Gives task.size task.seed (2 * task.size + 1) left v.world →
    g.accepted ≡ length b.queue → g.accepted + g.refused ≡ 2 * task.size → P) → P
from_seed task x left w v g is same began gives goes =
    given_from task x left v g same
    (began.0, subst (λ (u : QuietWorld). HasOne began.0 u) (sym is) began.1, began.2, began.3, began.4)
    (subst (λ (u : QuietWorld). Gives task.size x (2 * task.size + 1) left u.world) (sym is) gives) goes

-- and a limit that was passed on the way is one of the task's drill
pub limit_from_seed : (task : Task) (x : ℕ) (w v : QuietWorld) (broken : Broken) (line told : List ℕ) → v ≡ w → x ≡ task.seed →
    broken ≡ brokens.Limit line → told ≡ line → IsBrokenAs (PassesLimit task.size x w.world) broken → PassesLimit task.size task.seed v.world told
limit_from_seed task x w v broken line told left same is tells passes =
    let here : PassesLimit task.size x w.world line = subst (λ (b : Broken). IsBrokenAs (PassesLimit task.size x w.world) b) is passes in
    let there : PassesLimit task.size task.seed w.world line = subst (λ (n : ℕ). PassesLimit task.size n w.world line) same here in
    subst (λ (u : QuietWorld). PassesLimit task.size task.seed u.world told) (sym left)
    (subst (λ (l : List ℕ). PassesLimit task.size task.seed w.world l) (sym tells) there)
