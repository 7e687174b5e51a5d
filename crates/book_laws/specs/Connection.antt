-- That the machine leaves nothing out: what happens at a connection is one of its steps, or changes nothing that it speaks of (RFC 9051,
-- sections 2.2, 3 and 7.1.5), and so is each phase in which an event is written.
use Rattle.std.specs.Prelude.{◌≡◌, ◌⊎◌, ℕ, Bool, true, false, List, [], Option, Some, None}
use Rattle.mail_base.specs.declared.tag.Tag.{Tag}
use Rattle.imap_model.specs.Changes.{Batch}
use Rattle.imap_model.specs.Mutating.{is_mutating}
use Rattle.imap_model.specs.Talking.{Peer, Answering, Connecting, arrived}
use Rattle.imap_model.specs.declared.command.Command.{Command}
use Rattle.imap_model.specs.Carrying.{Waiting}
use Rattle.imap_model.specs.declared.server.Server.{Server}
use Rattle.action_queue.specs.Book.{Meaning}
use Rattle.action_queue.specs.Events.{next_book}
use Rattle.action_queue.specs.declared.event.Event.{Event}
use Rattle.book_laws.specs.Of.{IsOf}
use Rattle.book_laws.specs.Polite.{KeepsWaiting, SparesBook}
use Rattle.book_laws.specs.Permitted.{MayFollow, Permits}
use Rattle.book_laws.specs.Machine.{PossibleBooks, Firm, Begun, EachBook, State, chosen, Label, Begin, Choose, Step}

-- books beside a server with its connection; what was told, and a text that is arriving, are no part of it
abbrev pub state_of : PossibleBooks → Peer → State
state_of books p = record { books = books; server = p.server; waiting = p.waiting }

-- a step is taken, or nothing happens
abbrev pub MayStep : State → State → Type 0
MayStep x y = (y ≡ x) ⊎ ((label : Label) × Step label x y)

-- others spare the books, where it is others that change something
abbrev pub SparesAt : PossibleBooks → Peer → Peer → Type 0
SparesAt books p q = Batch p.server.boxes p.server q.server → EachBook (SparesBook p.server.boxes q.server.boxes) books × KeepsWaiting p.waiting p.server.boxes q.server.boxes

-- the command is that of the one book that a stop may leave
abbrev pub IsOfBooks : PossibleBooks → Peer → Tag → Command → Type 0
IsOfBooks books p tag command =
    (b : Meaning) × (books ≡ Firm (Some b)) × IsOf b p.server (record { selected = p.talk.selected; tag = tag; command = command })

-- What happens at the server, what happens as a connection is made, and a part of a text that arrives while nothing waits: the last part
-- of a command that changes something is the book's.
pub record StepsOfConnection : Type 0 where
  pub answering : (books : PossibleBooks) (p q : Peer) → Answering p q → SparesAt books p q → MayStep (state_of books p) (state_of books q)
  pub connecting : (books : PossibleBooks) (p q : Peer) → Connecting p q → SparesAt books p q → MayStep (state_of books p) (state_of books q)
  pub arriving : (books : PossibleBooks) (p : Peer) (tag : Tag) (command : Command) (before : List (List ℕ)) (part : List ℕ) (behind : List (List ℕ)) →
      p.waiting ≡ None → (behind ≡ [] → is_mutating command ≡ true → IsOfBooks books p tag command) →
      MayStep (state_of books p) (state_of books (arrived tag command before part behind p))

-- Behind an event that is begun its write is made firm, or a stop, or an opening after a failed write, chooses either book.
pub record StepsOfWriting : Type 0 where
  pub begun : (b : Option Meaning) (event : Event) (s : Server) (w : Option Waiting) → MayFollow b event → Permits b event s w →
      Step (Begin event) (record { books = Firm b; server = s; waiting = w }) (record { books = Begun b (Some (next_book b event)); server = s; waiting = w })
  pub firm : (b c : Option Meaning) (s : Server) (w : Option Waiting) →
      Step (Choose false) (record { books = Begun b c; server = s; waiting = w }) (record { books = Firm c; server = s; waiting = w })
  pub chosen : (first : Bool) (b c : Option Meaning) (s : Server) (w : Option Waiting) →
      Step (Choose first) (record { books = Begun b c; server = s; waiting = w }) (record { books = Firm (chosen first b c); server = s; waiting = w })
