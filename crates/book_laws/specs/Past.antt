-- What an earlier server tells of a later one (RFC 9051, section 2.3.1.1; RFC 7162, section 3.1).
use Rattle.std.specs.Prelude.{◌≡◌, ℕ, false, List, Some}
use Rattle.imap_model.specs.Lookups.{box_at}
use Rattle.imap_model.specs.Ours.{is_try, ours}
use Rattle.imap_model.specs.Carrying.{Waiting, Carries}
use Rattle.imap_model.specs.Changes.{Batch}
use Rattle.imap_model.specs.Evolving.{GoesOn, EvolvesFrom}
use Rattle.imap_model.specs.WellFormed.{IsWellFormed}
use Rattle.imap_model.specs.declared.server.Mailbox.{Mailbox}
use Rattle.imap_model.specs.declared.server.Server.{Server}

-- a later server, with no further deed of action n
pub record Later (n : ℕ) (old new : Server) : Type 0 where
  pub evolves : EvolvesFrom old.boxes old.boxes new.boxes
  pub ours : ours n new.history ≡ ours n old.history

-- the mailbox of a name, then and now, under one UIDVALIDITY
pub record OneBox (name : List ℕ) (validity : ℕ) (old new : Server) : Type 0 where
  pub was : Mailbox
  pub there : box_at name old.boxes ≡ Some was
  pub was_validity : was.validity ≡ validity
  pub box : Mailbox
  pub here : box_at name new.boxes ≡ Some box
  pub validity_is : box.validity ≡ validity

-- What others do makes a later server, and so does a command of this client's that isn't of action n; later and later joins; and each
-- mailbox went on from the one to the other.
pub record GoesOnLater : Type 0 where
  pub others : (n : ℕ) (old new : Server) → IsWellFormed old.boxes → Batch old.boxes old new → Later n old new
  pub carried : (n : ℕ) (w : Waiting) (s t : Server) → IsWellFormed s.boxes → Carries w s t → is_try n w.tag ≡ false → Later n s t
  pub joined : (n : ℕ) (first second third : Server) → IsWellFormed first.boxes → Later n first second → Later n second third → Later n first third
  pub goes : (n : ℕ) (name : List ℕ) (validity : ℕ) (old new : Server) → Later n old new → (o : OneBox name validity old new) →
      GoesOn o.was.highest o.was o.box
