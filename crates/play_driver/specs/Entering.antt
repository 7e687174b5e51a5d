-- How a run enters: it connects, reads the greeting, logs the user in and enables QRESYNC (RFC 9051, sections 3, 6.2 and 6.3.1;
-- RFC 7162, section 3.2.3).
use Rattle.std.specs.Prelude.{◌≡◌, ℕ, Bool, []}
use Rattle.mail_base.specs.Account.{Credentials}
use Rattle.imap_model.specs.Talking.{Connecting}
use Rattle.world_traits.specs.Connected.{IsGreeted}
use Rattle.world_traits.specs.LinkState.{LinkState}
use Rattle.world_traits.specs.Links.{Linked}
use Rattle.world_traits.specs.Moments.{Clock}
use Rattle.play_driver.specs.Questioning.{Questioning}
use Rattle.imap_session.specs.Faults.{NoHello}
use Rattle.imap_session.specs.Greeting.{Greets}
use Rattle.imap_session.specs.LogIn.{enabling, entering}
use Rattle.imap_session.specs.declared.fault.SessionFault.{SessionFault}
use Rattle.imap_session.specs.declared.fault.SessionFault.TheVariants as sessions
use Rattle.play_driver.specs.Stages.{Stage, CameBetween, Broke}

-- a connection was made, its greeting was read, and nothing was sent
pub record HasGreeted (preauth : Bool) (p : Stage) : Type 0 where
  pub unasked : ◌≡◌ {A = ℕ} p.count 0
  pub unsent : p.link.sent ≡ []
  pub greets : Greets preauth p.link.connection p.feed

-- then the user was logged in
pub record HasLoggedIn (account : Credentials) (rev2 : Bool) (p : Stage) : Type 0 where
  pub preauth : Bool
  pub greeted : Stage
  pub hello : HasGreeted preauth greeted
  pub came : CameBetween (entering preauth account) rev2 greeted p

-- and then QRESYNC was enabled
pub record HasEntered (account : Credentials) (p : Stage) : Type 0 where
  pub rev2 : Bool
  pub known : Stage
  pub logged_in : HasLoggedIn account rev2 known
  pub came : CameBetween (enabling rev2) rev2 known p

-- Why a run doesn't enter, on the bytes received; and what was sent. No connection was made; or no greeting came; or the user
-- wasn't logged in; or QRESYNC wasn't enabled.
pub data NotEntered (account : Credentials) (old link : LinkState) (fault : SessionFault) : Type 0 where
  unconnected : fault ≡ sessions.Link → link.sent ≡ old.sent → link.earlier ≡ old.earlier → NotEntered account old link fault
  ungreeted : NoHello link.connection fault → link.sent ≡ [] → NotEntered account old link fault
  not_logged_in : (preauth : Bool) (p : Stage) → HasGreeted preauth p → Broke (entering preauth account) p link fault → NotEntered account old link fault
  not_enabled : (rev2 : Bool) (p : Stage) → HasLoggedIn account rev2 p → Broke (enabling rev2) p link fault → NotEntered account old link fault

-- Up to a clock between the two a connection was made, which said no more than its greeting then; and behind it there were questions alone.
pub record OpensFrom (old new : Clock) : Type 0 where
  pub made : Clock
  pub connects : Linked Connecting old made
  pub greeted : IsGreeted made.now.outside
  pub asks : Linked Questioning made new
