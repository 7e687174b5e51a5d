-- How a ledger's books and a server go on beside one another, and what keeps a relation of both.
use Rattle.std.specs.Prelude.{◌≡◌, ◌⊎◌, Bool, false, List, ℕ, Option, Some, None}
use Rattle.imap_model.specs.CarriedOut.{CarriesOut}
use Rattle.imap_model.specs.Carrying.{Waiting}
use Rattle.imap_model.specs.Changes.{Batch}
use Rattle.imap_model.specs.Mutating.{is_mutating}
use Rattle.imap_model.specs.Talking.{Peer}
use Rattle.imap_model.specs.declared.replies.Replies.{Replies}
use Rattle.imap_model.specs.declared.server.Server.{Server}
use Rattle.journal_core.specs.declared.version.Version.{Version}
use Rattle.store_core.specs.Keeping.{Keeping}
use Rattle.store_core.specs.Steps.{Firm, Begun, EachBook, chosen}
use Rattle.play_driver.specs.States.{State}

-- a relation of a book, or of none, with a server and the command that waits there, if one does
abbrev pub Relation : Keeping → Type 1
Relation K = Option K.Book → Server → Option Waiting → Type 0

-- What a program may do, and what is assumed of others: which event may be begun behind a book, beside which server and
-- waiting command; which command that changes a mailbox may be sent for a book; and how others spare a book as they make
-- another server of a server with its connection.
pub record Machine (K : Keeping) : Type 1 where
  pub Permits : Option K.Book → K.Event → Server → Option Waiting → Type 0
  pub MaySend : K.Book → Server → Waiting → Type 0
  pub Spares : Option K.Book → Peer → Server → Type 0

-- A step. Of the files: an event that is permitted is begun; it is made firm; a stop, or an opening after a failed write,
-- chooses either book. Of the server: a command of the book is sent, or a question, and waits; what waits is carried out
-- (RFC 9051, section 6); others change something at one moment; what waits is dropped as a connection is made. Or nothing of
-- all this happens.
pub data Step (K : Keeping) (M : Machine K) (x : State K) : State K → Type 0 where
  rests : Step K M x x
  begins : (version : Version) (b : Option K.Book) (e : K.Event) → x.books ≡ Firm b → K.MayCome version b e → M.Permits b e x.server x.waiting →
      Step K M x (record x { books = Begun b (Some (K.next_book b e)) })
  firm : (b c : Option K.Book) → x.books ≡ Begun b c → Step K M x (record x { books = Firm c })
  chooses : (first : Bool) (b c : Option K.Book) → x.books ≡ Begun b c → Step K M x (record x { books = Firm (chosen first b c) })
  sends : (b : K.Book) (w : Waiting) → x.books ≡ Firm (Some b) → x.waiting ≡ None → M.MaySend b x.server w → Step K M x (record x { waiting = Some w })
  asks : (w : Waiting) → x.waiting ≡ None → is_mutating w.command ≡ false → Step K M x (record x { waiting = Some w })
  carries_out : (w : Waiting) (r : Replies) (t : Server) (after : Option (List ℕ)) → x.waiting ≡ Some w → CarriesOut w x.server r t after →
      Step K M x (record x { server = t; waiting = None })
  foreign : (p : Peer) (t : Server) → p.server ≡ x.server → p.waiting ≡ x.waiting → Batch x.server.boxes x.server t →
      EachBook K (λ b. M.Spares b p t) x.books → Step K M x (record x { server = t })
  connects : Step K M x (record x { waiting = None })

-- What a relation must stand: an event that is permitted, with the same server and waiting command; a command of the book, or a
-- question, that waits from now on; the table's answer to what waits; that what waits is dropped; changes by others. Behind
-- these a command may still be sent if it might before, where what is selected is as it was for it, or where it waits
-- (`sendable`). And others that change nothing spare every book.
pub record Withstands (K : Keeping) (M : Machine K) (R : Relation K) : Type 0 where
  pub event : (version : Version) (b : Option K.Book) (e : K.Event) (s : Server) (w : Option Waiting) → K.MayCome version b e → M.Permits b e s w →
      R b s w → R (Some (K.next_book b e)) s w
  pub sent : (b : K.Book) (s : Server) (w : Waiting) → M.MaySend b s w → R (Some b) s None → R (Some b) s (Some w)
  pub asked : (b : Option K.Book) (s : Server) (w : Waiting) → is_mutating w.command ≡ false → R b s None → R b s (Some w)
  pub carried : (b : Option K.Book) (w : Waiting) (s : Server) (r : Replies) (t : Server) (after : Option (List ℕ)) → CarriesOut w s r t after →
      R b s (Some w) → R b t None
  pub dropped : (b : Option K.Book) (s : Server) (w : Option Waiting) → R b s w → R b s None
  pub others : (b : Option K.Book) (p : Peer) (t : Server) → Batch p.server.boxes p.server t → M.Spares b p t → R b p.server p.waiting → R b t p.waiting
  pub sendable : (b : K.Book) (p : Peer) (t : Server) (w : Waiting) → (p.talk.selected ≡ w.selected) ⊎ (p.waiting ≡ Some w) →
      Batch p.server.boxes p.server t → M.Spares (Some b) p t → M.MaySend b p.server w → M.MaySend b t w
  pub spared : (b : Option K.Book) (p : Peer) → M.Spares b p p.server

-- each book of the state is in the relation to its server and what waits there
abbrev pub IsGood : (K : Keeping) → Relation K → State K → Type 0
IsGood K R x = EachBook K (λ b. R b x.server x.waiting) x.books
