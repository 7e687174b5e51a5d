-- The machine: a journal's book and a server beside one another, with others, with connections that are lost and with stops
-- (this client's profile; RFC 9051, section 2.2).
use Rattle.std.specs.Prelude.{◌≡◌, Bool, true, false, List, [], ◌∷◌, Option, Some, None}
use Rattle.imap_model.specs.Carrying.{Waiting, Carries}
use Rattle.imap_model.specs.Changes.{Batch}
use Rattle.imap_model.specs.Mutating.{is_mutating}
use Rattle.imap_model.specs.declared.server.Server.{Server}
use Rattle.action_queue.specs.Book.{Meaning}
use Rattle.action_queue.specs.Events.{next_book}
use Rattle.action_queue.specs.declared.event.Event.{Event}
use Rattle.book_laws.specs.Of.{IsOf, MutatingWaits}
use Rattle.book_laws.specs.Kept.{Kept}
use Rattle.book_laws.specs.Permitted.{MayFollow, Permits}
use Rattle.book_laws.specs.Polite.{KeepsWaiting, SparesBook}

-- the books of what a stop may leave: one, or those before and after an event; no book stands for no journal
pub data PossibleBooks : Type 0 where
  Firm : Option Meaning → PossibleBooks
  Begun : Option Meaning → Option Meaning → PossibleBooks

-- each of them has P
abbrev pub EachBook : (Option Meaning → Type 0) → PossibleBooks → Type 0
EachBook P (Firm b) = P b
EachBook P (Begun b c) = P b × P c

-- the books, the server, and the command that waits there, if one does
pub record State : Type 0 where
  pub books : PossibleBooks
  pub server : Server
  pub waiting : Option Waiting

-- each book of the state is kept
abbrev pub KeptState : State → Type 0
KeptState x = EachBook (λ b. Kept b x.server x.waiting) x.books

-- an event that may come next, and is permitted, begins to be written
pub record Begins (event : Event) (x y : State) : Type 0 where
  pub book : Option Meaning
  pub firm : x.books ≡ Firm book
  pub follows : MayFollow book event
  pub permitted : Permits book event x.server x.waiting
  pub becomes : y ≡ record x { books = Begun book (Some (next_book book event)) }

abbrev pub chosen : Bool → Option Meaning → Option Meaning → Option Meaning
chosen true before later = before
chosen false before later = later

-- either book is chosen: the later one as the write is made firm; either one at a stop, or at an opening after a failed write
pub record Chooses (first : Bool) (x y : State) : Type 0 where
  pub before : Option Meaning
  pub later : Option Meaning
  pub begun : x.books ≡ Begun before later
  pub becomes : y ≡ record x { books = Firm (chosen first before later) }

-- the last byte of the book's command arrives, while no other command waits that changes something
pub record Sends (w : Waiting) (x y : State) : Type 0 where
  pub book : Meaning
  pub firm : x.books ≡ Firm (Some book)
  pub quiet : ¬ (MutatingWaits x.waiting)
  pub is_of : IsOf book x.server w
  pub becomes : y ≡ record x { waiting = Some w }

-- the waiting command is carried out
pub record Carried (x y : State) : Type 0 where
  pub command : Waiting
  pub waits : x.waiting ≡ Some command
  pub server : Server
  pub carries : Carries command x.server server
  pub becomes : y ≡ record x { server = server; waiting = None }

-- others change something at one moment
pub record Others (x y : State) : Type 0 where
  pub server : Server
  pub changes : Batch x.server.boxes x.server server
  pub spares : EachBook (SparesBook x.server.boxes server.boxes) x.books
  pub stays : KeepsWaiting x.waiting x.server.boxes server.boxes
  pub becomes : y ≡ record x { server = server }

-- the last byte of a question arrives
pub record Asks (w : Waiting) (x y : State) : Type 0 where
  pub free : x.waiting ≡ None
  pub harmless : is_mutating w.command ≡ false
  pub becomes : y ≡ record x { waiting = Some w }

pub data Label : Type 0 where
  Begin : Event → Label
  Choose : Bool → Label
  Send : Waiting → Label
  Carry : Label
  Other : Label
  Connect : Label
  Ask : Waiting → Label

-- What may happen next. As a connection is made, what waited is dropped.
abbrev pub Step : Label → State → State → Type 0
Step (Begin event) x y = Begins event x y
Step (Choose first) x y = Chooses first x y
Step (Send w) x y = Sends w x y
Step Carry x y = Carried x y
Step Other x y = Others x y
Step Connect x y = y ≡ record x { waiting = None }
Step (Ask w) x y = Asks w x y

-- a run: one step after another
abbrev pub Run : List Label → State → State → Type 0
Run [] x y = y ≡ x
Run (l ∷ ls) x y = (mid : State) × Step l x mid × Run ls mid y
