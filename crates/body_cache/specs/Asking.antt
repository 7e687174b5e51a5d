-- What a call says that only asks, over a link.
use Rattle.std.specs.Prelude.{◌≡◌, ◌≤◌, ℕ, true, List, Result, IsErrOf}
use Rattle.imap_session.specs.Enquiring.{Enquiring}
use Rattle.world_traits.specs.Calls.{Rose}
use Rattle.world_traits.specs.Links.{Any, AnyStep, Linked}
use Rattle.world_traits.specs.Moments.{Since}
use Rattle.world_traits.specs.declared.clocked.Clocked.{Ghosts}
use Rattle.play_driver.specs.Faults.{ComesAnyway, IsReplyFault}
use Rattle.play_driver.specs.Grounds.{GroundStep}
use Rattle.play_driver.specs.Progress.{has_name}
use Rattle.play_driver.specs.Questioning.{TalkStep}
use Rattle.play_driver.specs.declared.fault.PlayFault.{PlayFault}
use Rattle.play_driver.specs.declared.fault.PlayFault.TheVariants as plays
use Rattle.play_driver.specs.declared.fault.Why.TheVariants as whys
use Rattle.body_cache.specs.declared.fault.TextFault.{TextFault}
use Rattle.body_cache.specs.declared.fault.TextFault.TheVariants as faults

-- However the call ends: the files stay as they were, and only questions were asked. No honest server's reply is called bad. The link is blamed only
-- where its count of faults rose, and else the counts stay.
pub record OnlyAsks {Self T : Type 0} (L : Ghosts Self) (old new : Self) (result : Result T TextFault) : Type 0 where
  pub files : L.tells_files → Linked AnyStep (L.clock old) (L.clock new)
  pub told : L.tells_server → Linked Enquiring (L.clock old) (L.clock new)
  pub honest : L.tells_server → (at : ℕ) → IsErrOf result (faults.Stopped (plays.BadReply (whys.At at))) → ⊥
  pub disk : L.disk_faults new ≡ L.disk_faults old
  pub no_disk : IsErrOf result (faults.Stopped plays.Disk) → ⊥
  pub count : (L.link old).faults ≤ (L.link new).faults
  pub cause : IsErrOf result (faults.Stopped plays.Link) → Rose (L.link old).faults (L.link new).faults
  pub unfailed : (IsErrOf result (faults.Stopped plays.Link) → ⊥) → (L.link new).faults ≡ (L.link old).faults

-- However the call ends: it goes on over the connection that was made, selects this mailbox alone, and asks about the one that is selected. No reply of
-- a lawful server is at fault.
pub record Converses {Self T : Type 0} (L : Ghosts Self) (name : List ℕ) (old new : Self) (result : Result T TextFault) : Type 0 where
  pub earlier : L.tells_files → (L.link new).earlier ≡ (L.link old).earlier
  pub talks : L.tells_server → Since Any TalkStep (L.clock old) (L.clock new)
  pub grounds : L.tells_server → (names : List (List ℕ)) → has_name name names ≡ true → Since Any (GroundStep names) (L.clock old) (L.clock new)
  pub faultless : L.tells_server → (fault : PlayFault) → IsErrOf result (faults.Stopped fault) → IsReplyFault fault → ⊥

-- what may come of a fetching at a server that serves: nothing that it told is at fault or lacking, and it refused nothing
abbrev pub ComesServed : TextFault → Type 0
ComesServed (faults.Stopped fault) = ComesAnyway fault
ComesServed (faults.Renewed validity) = Unit {0}
ComesServed faults.Gone = Unit {0}
