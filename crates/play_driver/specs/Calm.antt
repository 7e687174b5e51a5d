-- A server that no command of this client is about to change, and a cache that is fresh for it (RFC 7162, section 3.2).
use Rattle.std.specs.Prelude.{◌≡◌, ℕ, false, List, Option, Some, None, ⊤}
use Rattle.imap_model.specs.Carrying.{Waiting}
use Rattle.imap_model.specs.Lookups.{box_at}
use Rattle.imap_model.specs.Mutating.{is_mutating}
use Rattle.imap_model.specs.Talking.{Peer}
use Rattle.imap_model.specs.WellFormed.{IsWellFormed}
use Rattle.imap_model.specs.declared.server.Mailbox.{Mailbox}
use Rattle.imap_model.specs.declared.server.Server.{Server}
use Rattle.mailbox_cache.specs.declared.cache.Cache.{Cache}
use Rattle.qresync_core.specs.Fresh.{IsFresh}

-- no command that changes a mailbox waits
abbrev pub NoChangeWaits : Option Waiting → Type 0
NoChangeWaits None = ⊤
NoChangeWaits (Some w) = is_mutating w.command ≡ false

-- the server is well formed, and no command that changes a mailbox waits
pub record IsCalm (p : Peer) : Type 0 where
  pub well : IsWellFormed p.server.boxes
  pub no_change : NoChangeWaits p.waiting

-- the mailbox of the name is there, and the cache is fresh for it
pub record IsFreshAt (s : Server) (name : List ℕ) (cache : Cache) : Type 0 where
  pub box : Mailbox
  pub there : box_at name s.boxes ≡ Some box
  pub fresh : IsFresh cache box
