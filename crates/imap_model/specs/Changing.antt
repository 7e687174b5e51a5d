-- What holds of every change (RFC 9051, section 2.3.1.1; RFC 7162, section 3.1): a server stays well formed, its mailboxes
-- go on, and the eight rules tell which changes are possible.
use Rattle.std.specs.Prelude.{◌≡◌, ℕ, List, None}
use Rattle.imap_model.specs.Changes.{Changes, Batch}
use Rattle.imap_model.specs.Evolving.{EvolvesFrom}
use Rattle.imap_model.specs.Lawful.{broken_rule}
use Rattle.imap_model.specs.PlainChanges.{with_change}
use Rattle.imap_model.specs.WellFormed.{IsWellFormed}
use Rattle.imap_model.specs.declared.deed.Author.{Author}
use Rattle.imap_model.specs.declared.deed.Change.{Change}
use Rattle.imap_model.specs.declared.server.Mailbox.{Mailbox}
use Rattle.imap_model.specs.declared.server.Server.{Server}

-- mailboxes stay well formed and go on
abbrev pub StayWell : List Mailbox → List Mailbox → List Mailbox → Type 0
StayWell base old new = IsWellFormed new × EvolvesFrom base old new

-- so they do at one change
abbrev pub ChangesStayWell : Type 0
ChangesStayWell = (base : List Mailbox) (author : Author) (name : List ℕ) (change : Change) (old new : Server) → IsWellFormed old.boxes
    → Changes base author name change old new → StayWell base old.boxes new.boxes

-- and at the changes of one moment
abbrev pub BatchesStayWell : Type 0
BatchesStayWell = (old new : Server) → IsWellFormed old.boxes → Batch old.boxes old new → StayWell old.boxes old.boxes new.boxes

-- A change is possible exactly where it breaks none of the eight rules; the plain program makes it.
pub record RulesDecide : Type 0 where
  pub possible : (author : Author) (name : List ℕ) (change : Change) (old : Server) → IsWellFormed old.boxes → broken_rule old.boxes name change ≡ None
      → Changes old.boxes author name change old (with_change author name change old)
  pub unbroken : (author : Author) (name : List ℕ) (change : Change) (old new : Server) → Changes old.boxes author name change old new
      → broken_rule old.boxes name change ≡ None
