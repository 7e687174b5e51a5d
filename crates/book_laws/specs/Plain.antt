-- That the plain programs tell the truth (this client's profile).
use Rattle.std.specs.Prelude.{List}
use Rattle.std.specs.Bool.{Decides}
use Rattle.imap_model.specs.WellFormed.{IsWellFormed}
use Rattle.imap_model.specs.declared.deed.Deed.{Deed}
use Rattle.imap_model.specs.declared.server.Mailbox.{Mailbox}
use Rattle.imap_model.specs.declared.server.Server.{Server}
use Rattle.action_queue.specs.Book.{Meaning}
use Rattle.book_laws.specs.Sound.{IsSound}
use Rattle.book_laws.specs.Table.{OnceByAction}
use Rattle.book_laws.specs.Open.{Open}
use Rattle.book_laws.specs.Fresh.{Fresh}
use Rattle.book_laws.specs.PlainOnce.{once_holds}
use Rattle.book_laws.specs.PlainOpen.{open_holds, HasGoodId}
use Rattle.book_laws.specs.PlainFresh.{fresh_holds}

pub record PlainDecides : Type 0 where
  pub once : (b : Meaning) (history : List Deed) → Decides (once_holds b history) (OnceByAction b history)
  pub open_intent : (b : Meaning) (s : Server) → Decides (open_holds b s) (Open b s)
  pub fresh : (b : Meaning) (boxes : List Mailbox) → IsWellFormed boxes → Decides (fresh_holds b boxes) (Fresh b boxes)
  pub good_id : (b : Meaning) → IsSound b → HasGoodId b
