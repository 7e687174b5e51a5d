-- What a call says that enters (RFC 9051, section 3; RFC 7162, section 3.2.3).
use Rattle.std.specs.Prelude.{ℕ, List, Result, IsErrOf}
use Rattle.imap_session.specs.Blame.{Blames}
use Rattle.imap_session.specs.Enquiring.{Enquiring}
use Rattle.imap_session.specs.declared.fault.SessionFault.{SessionFault}
use Rattle.imap_session.specs.declared.fault.SessionFault.TheVariants as faults
use Rattle.mail_base.specs.Account.{Credentials}
use Rattle.world_traits.specs.Links.{Any, AnyStep, Linked, LinkStep}
use Rattle.world_traits.specs.Moments.{Since}
use Rattle.world_traits.specs.declared.clocked.Clocked.{Ghosts}
use Rattle.play_driver.specs.Accuses.{ConnectsOnce}
use Rattle.play_driver.specs.Entering.{NotEntered}
use Rattle.play_driver.specs.Grounds.{GroundStep}
use Rattle.play_driver.specs.Questioning.{ConnectsFirst, Questioning}
use Rattle.play_driver.specs.SendsOnce.{SendsOnce}

-- However the call ends: the files stay as they were, and only questions were asked, behind the last connection that was made, and one is
-- made at most. No mailbox is named in them. No honest server's reply is called bad. Each fault's cause stands in the bytes received, and
-- up to it no command of an action was sent twice.
pub record Enters {Self T : Type 0} (L : Ghosts Self) (account : Credentials) (old new : Self) (result : Result T SessionFault) : Type 0 where
  pub files : L.tells_files → Linked AnyStep (L.clock old) (L.clock new)
  pub told : L.tells_server → Linked Enquiring (L.clock old) (L.clock new)
  pub once : L.tells_server → ConnectsFirst (LinkStep Questioning) (L.clock old) (L.clock new)
  pub grounds : L.tells_server → (names : List (List ℕ)) → Since Any (GroundStep names) (L.clock old) (L.clock new)
  pub one : L.tells_files → ConnectsOnce (L.link old) (L.link new)
  pub why : L.tells_files → (fault : SessionFault) → IsErrOf result fault → NotEntered account (L.link old) (L.link new) fault
  pub sends : L.tells_files → (fault : SessionFault) → IsErrOf result fault → SendsOnce (L.link old) (L.link new)
  pub honest : L.tells_server → (at : ℕ) → IsErrOf result (faults.BadReply at) → ⊥
  pub blames : Blames L old new result
