-- A call that reads and sends nothing.
use Rattle.std.specs.Prelude.{◌≡◌, Result}
use Rattle.imap_model.specs.Talking.{Answering}
use Rattle.world_traits.specs.Links.{Linked, AnyStep}
use Rattle.world_traits.specs.declared.clocked.Clocked.{Ghosts}
use Rattle.imap_session.specs.Blame.{Blames}
use Rattle.imap_session.specs.declared.fault.SessionFault.{SessionFault}

-- The files stay as they were, the server answers what it was asked before, and nothing is sent.
pub record Receives {Self T : Type 0} (L : Ghosts Self) (old new : Self) (result : Result T SessionFault) : Type 0 where
  pub files : L.tells_files → Linked AnyStep (L.clock old) (L.clock new)
  pub told : L.tells_server → Linked Answering (L.clock old) (L.clock new)
  pub sent : L.tells_files → (L.link new).sent ≡ (L.link old).sent
  pub earlier : L.tells_files → (L.link new).earlier ≡ (L.link old).earlier
  pub blames : Blames L old new result
