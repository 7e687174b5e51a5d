-- What a stop may leave of a ledger's books, and the server with the command that waits there (RFC 4549, section 4.2, leaves the
-- ledger to the client).
use Rattle.std.specs.Prelude.{Option}
use Rattle.imap_model.specs.Carrying.{Waiting}
use Rattle.imap_model.specs.Talking.{Peer}
use Rattle.imap_model.specs.declared.server.Server.{Server}
use Rattle.store_core.specs.Keeping.{Keeping}
use Rattle.store_core.specs.Steps.{Books}

-- the books, the server, and the command that waits there, if one does. (What was told, and a text that is arriving, are no
-- part of it.)
pub record State (K : Keeping) : Type 0 where
  pub books : Books K
  pub server : Server
  pub waiting : Option Waiting

abbrev pub state_of : (K : Keeping) → Books K → Peer → State K
state_of K books p = record { books = books; server = p.server; waiting = p.waiting }
