-- What each step keeps, book by book: what a driver of a journal and a connection cites (this client's profile of RFC
-- 4549, section 4.2).
use Rattle.std.specs.Prelude.{◌≡◌, false, Option, Some, None}
use Rattle.imap_model.specs.Carrying.{Waiting, Carries}
use Rattle.imap_model.specs.Changes.{Batch}
use Rattle.imap_model.specs.Mutating.{is_mutating}
use Rattle.imap_model.specs.declared.server.Server.{Server}
use Rattle.action_queue.specs.Book.{Meaning}
use Rattle.action_queue.specs.Events.{next_book}
use Rattle.action_queue.specs.declared.event.Event.{Event}
use Rattle.book_laws.specs.Of.{IsOf}
use Rattle.book_laws.specs.Kept.{Kept}
use Rattle.book_laws.specs.Permitted.{MayFollow, Permits}
use Rattle.book_laws.specs.Polite.{KeepsBox, KeepsWaiting, SparesBook}

-- An event that is permitted; a command of the book, or a question, that waits from now on; what waits is carried out, or dropped;
-- others change something. A command of the book is that still behind a change by others; and others that change nothing spare each book.
pub record KeptByBook : Type 0 where
  pub event : (b : Option Meaning) (e : Event) (s : Server) (w : Option Waiting) → MayFollow b e → Permits b e s w → Kept b s w →
      Kept (Some (next_book b e)) s w
  pub sent : (b : Meaning) (s : Server) (w : Waiting) → IsOf b s w → Kept (Some b) s None → Kept (Some b) s (Some w)
  pub asked : (b : Option Meaning) (s : Server) (w : Waiting) → is_mutating w.command ≡ false → Kept b s None → Kept b s (Some w)
  pub carried : (b : Option Meaning) (s t : Server) (w : Waiting) → Carries w s t → Kept b s (Some w) → Kept b t None
  pub dropped : (b : Option Meaning) (s : Server) (w : Option Waiting) → Kept b s w → Kept b s None
  pub others : (b : Option Meaning) (s t : Server) (w : Option Waiting) → Batch s.boxes s t → SparesBook s.boxes t.boxes b → KeepsWaiting w s.boxes t.boxes →
      Kept b s w → Kept b t w
  pub sendable : (b : Meaning) (s t : Server) (w : Waiting) → Batch s.boxes s t →
      KeepsBox w.selected s.boxes t.boxes → IsOf b s w → IsOf b t w
  pub spared : (b : Option Meaning) (s : Server) → SparesBook s.boxes s.boxes b
