-- What a book says of a mailbox, and on what condition: the mailbox of the name has the UIDVALIDITY that the book names (RFC 9051,
-- section 2.3.1.1).
use Rattle.std.specs.Prelude.{◌≡◌, ◌≤◌, ℕ, List, Some}
use Rattle.imap_model.specs.Lookups.{box_at}
use Rattle.imap_model.specs.declared.server.Mailbox.{Mailbox}

-- the mailbox of this name is there, has this UIDVALIDITY, and the facts hold of it
pub record InBoxNow (Facts : Mailbox → Type 0) (name : List ℕ) (validity : ℕ) (boxes : List Mailbox) : Type 0 where
  pub box : Mailbox
  pub there : box_at name boxes ≡ Some box
  pub same : box.validity ≡ validity
  pub facts : Facts box

-- What a kept book says of a mailbox: its UIDVALIDITY isn't below this one, and where it is this one the facts hold.
pub record InBox (Facts : Mailbox → Type 0) (name : List ℕ) (validity : ℕ) (boxes : List Mailbox) : Type 0 where
  pub box : Mailbox
  pub there : box_at name boxes ≡ Some box
  pub not_below : validity ≤ box.validity
  pub facts : box.validity ≡ validity → Facts box
