-- How a mailbox goes on, whatever changes it (RFC 9051, section 2.3.1.1; RFC 7162, section 3.1).
use Rattle.std.specs.Prelude.{◌≡◌, ℕ, ◌≤◌, ◌<◌, ◌⊎◌, List, Option, Some, None}
use Rattle.imap_model.specs.Lookups.{box_at, message_at, gone_at}
use Rattle.imap_model.specs.Changes.{floor_of}
use Rattle.imap_model.specs.declared.server.Message.{Message}
use Rattle.imap_model.specs.declared.server.Mailbox.{Mailbox}

-- there is a mod-sequence, and it is above the floor
abbrev pub IsAbove : ℕ → Option ℕ → Type 0
IsAbove floor None = ⊥
IsAbove floor (Some modseq) = floor < modseq

-- What may become of a UID, of which `went` is the mod-sequence at which it went: it stays, its flags change, it goes, or it
-- comes at or above the old UIDNEXT.
abbrev pub RowStep : ℕ → ℕ → ℕ → Option ℕ → Option Message → Option Message → Type 0
RowStep floor uidnext uid went None None = Unit {0}
RowStep floor uidnext uid went None (Some new) = (uidnext ≤ uid) × (floor < new.modseq)
RowStep floor uidnext uid went (Some old) None = IsAbove floor went
RowStep floor uidnext uid went (Some old) (Some new) = (new.text ≡ old.text) × ((new ≡ old) ⊎ (floor < new.modseq))

-- a mailbox goes on under one UIDVALIDITY; what changed has a mod-sequence above the floor
pub record GoesOn (floor : ℕ) (old new : Mailbox) : Type 0 where
  pub highest : old.highest ≤ new.highest
  pub uidnext : old.uidnext ≤ new.uidnext
  pub rows : (uid : ℕ) → RowStep floor old.uidnext uid (gone_at uid new.gone) (message_at uid old.messages) (message_at uid new.messages)
  pub gone : (uid modseq : ℕ) → gone_at uid old.gone ≡ Some modseq → gone_at uid new.gone ≡ Some modseq

-- a UIDVALIDITY never falls; under the same one the mailbox goes on
pub record BoxEvolves (floor : ℕ) (old new : Mailbox) : Type 0 where
  pub validity : old.validity ≤ new.validity
  pub goes_on : new.validity ≡ old.validity → GoesOn floor old new

-- the mailbox is there still
pub record FindsEvolved (floor : ℕ) (name : List ℕ) (old : Mailbox) (new : List Mailbox) : Type 0 where
  pub box : Mailbox
  pub there : box_at name new ≡ Some box
  pub evolves : BoxEvolves floor old box

-- each mailbox is there still; `base` are the mailboxes as the moment began
pub record EvolvesFrom (base old new : List Mailbox) : Type 0 where
  pub each : (name : List ℕ) (b : Mailbox) → box_at name old ≡ Some b → FindsEvolved (floor_of base name) name b new
