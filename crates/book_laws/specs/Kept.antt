-- What holds of a book, a server and the command that waits there, from one step to the next (this client's profile of RFC 4549,
-- section 4.2).
use Rattle.std.specs.Prelude.{◌≡◌, List, Option, Some, None}
use Rattle.std.specs.List.{AllByRecursion}
use Rattle.imap_model.specs.Carrying.{Waiting}
use Rattle.imap_model.specs.WellFormed.{IsWellFormed}
use Rattle.imap_model.specs.declared.deed.Author.TheVariants.{Other}
use Rattle.imap_model.specs.declared.deed.Deed.{Deed}
use Rattle.imap_model.specs.declared.server.Server.{Server}
use Rattle.action_queue.specs.Book.{Meaning}
use Rattle.book_laws.specs.Sound.{IsSound}
use Rattle.book_laws.specs.Once.{Once}
use Rattle.book_laws.specs.Open.{Open}
use Rattle.book_laws.specs.Fresh.{Fresh}
use Rattle.book_laws.specs.Reached.{Reached}
use Rattle.book_laws.specs.Of.{IsOf, MutatingWaits}

-- no change in the history is this client's
abbrev pub NoneOurs : List Deed → Type 0
NoneOurs history = AllByRecursion (λ (d : Deed). d.author ≡ Other) history

-- before there is a book, this client has changed nothing and is about to change nothing
pub record KeptBefore (s : Server) (waiting : Option Waiting) : Type 0 where
  pub well : IsWellFormed s.boxes
  pub none : NoneOurs s.history
  pub quiet : ¬ (MutatingWaits waiting)

-- With a book: the server is well formed; no action takes effect twice; the pending intent and each cache say what is so; no UIDVALIDITY
-- that is named is above its mailbox's; and a command that changes a mailbox, where one waits, is the book's.
pub record KeptBook (b : Meaning) (s : Server) (waiting : Option Waiting) : Type 0 where
  pub sound : IsSound b
  pub well : IsWellFormed s.boxes
  pub once : Once b s.history
  pub open_intent : Open b s
  pub fresh : Fresh b s.boxes
  pub reached : Reached b s
  pub waits : (m : MutatingWaits waiting) → IsOf b s m.command

-- no book stands for no journal
abbrev pub Kept : Option Meaning → Server → Option Waiting → Type 0
Kept None s waiting = KeptBefore s waiting
Kept (Some b) s waiting = KeptBook b s waiting
