-- A run's connection, from the moment behind its greeting on.
use Rattle.std.proofs.Common.{ℕ, Bool, Result, Ok, Err, OnOk}
use Rattle.mail_base.specs.Account.{Credentials}
use Rattle.imap_model.specs.Talking.{Answering, Connecting, Peer}
use Rattle.imap_model.specs.Talking.Connecting.{as_before}
use Rattle.world_traits.specs.Connected.{IsGreeted}
use Rattle.world_traits.specs.LinkState.{LinkState}
use Rattle.world_traits.specs.Links.{Any, LinkStep, Linked}
use Rattle.world_traits.specs.Moments.{Clock}
use Rattle.world_traits.proofs.Passing.{since_then, since_weaker}
use Rattle.imap_session.specs.Dialogue.{Talked, so_far}
use Rattle.imap_session.specs.Enquiring.{Enquiring, connecting}
use Rattle.imap_session.specs.Enquiring.{asking as enquires}
use Rattle.imap_session.specs.LogIn.{enabling, entering}
use Rattle.imap_session.proofs.Talks.{enabling_asks, entering_asks}
use Rattle.play_driver.specs.Entering.{OpensFrom}
use Rattle.play_driver.specs.Questioning.{Questioning}
use Rattle.play_driver.specs.Questioning.Questioning.{answering, asking}
use Rattle.play_driver.proofs.OverOne.{answers_over, talks_over}
use Rattle.play_driver.proofs.Remaining.{enabling_remains, entering_remains}

-- a connection was made, its greeting was read, the user was logged in, and QRESYNC was enabled
pub opens_from : (old made greeted known new : Clock) → Linked Connecting old made → IsGreeted made.now.outside → Linked Answering made greeted →
    (at before after last : LinkState) (first second : ℕ) (preauth rev2 : Bool) (account : Credentials) →
    Talked (entering preauth account) first (so_far greeted at) (so_far known before) →
    Talked (enabling rev2) second (so_far known after) (so_far new last) → OpensFrom old new
opens_from old made greeted known new connects says greets at before after last first second preauth rev2 account logs_in enables = record {
  made = made;
  connects = connects;
  greeted = says;
  asks =
      since_then Any (LinkStep Questioning) made known new
      (since_then Any (LinkStep Questioning) made greeted known (answers_over made greeted greets)
      (talks_over (entering preauth account) (entering_asks preauth account) (entering_remains preauth account) first (so_far greeted at) (so_far known before) logs_in))
      (talks_over (enabling rev2) (enabling_asks rev2) (enabling_remains rev2) second (so_far known after) (so_far new last) enables);
}

-- questions over one connection are enquiries
enquiring : (p q : Peer) → Questioning p q → Enquiring p q
enquiring p q (answering step) = connecting (as_before step)
enquiring p q (asking told tag command question remains step) = enquires told tag command question step

pub opens_enquiring : (made new : Clock) → Linked Questioning made new → Linked Enquiring made new
opens_enquiring made new s =
    since_weaker Any Any (LinkStep Questioning) (LinkStep Enquiring) (λ m p. p)
    (λ m n step. record { left = step.left; right = step.right; outside = enquiring m.outside n.outside step.outside }) made new s

pub in_any : {T E : Type 0} (r : Result T E) (P : Type 0) → P → OnOk r P
in_any (Ok x) P p = p
in_any (Err e) P p = tt
