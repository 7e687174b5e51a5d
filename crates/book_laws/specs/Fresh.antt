-- What each cache of a book keeps true of its mailbox (RFC 7162, sections 3.1 and 3.2.5).
use Rattle.std.specs.Prelude.{◌≡◌, ◌<◌, ℕ, List, Some}
use Rattle.imap_model.specs.Lookups.{box_at}
use Rattle.imap_model.specs.declared.server.Mailbox.{Mailbox}
use Rattle.mailbox_cache.specs.declared.cache.Cache.{Cache}
use Rattle.qresync_core.specs.Fresh.{FreshFacts}
use Rattle.action_queue.specs.Book.{Meaning, cache_at}
use Rattle.book_laws.specs.InBox.{InBox, InBoxNow}

-- the cache knows the mailbox of this name up to its mark
abbrev pub IsFreshFor : List ℕ → Cache → List Mailbox → Type 0
IsFreshFor name cache boxes = InBox (FreshFacts cache) name cache.validity boxes

-- so it is as the cache is learned
abbrev pub IsFreshNow : List ℕ → Cache → List Mailbox → Type 0
IsFreshNow name cache boxes = InBoxNow (FreshFacts cache) name cache.validity boxes

abbrev pub Fresh : Meaning → List Mailbox → Type 0
Fresh b boxes = (name : List ℕ) (cache : Cache) → cache_at name b.boxes ≡ Some cache → IsFreshFor name cache boxes

-- the mailbox of this name has a UIDVALIDITY above this one
pub record IsRenewed (name : List ℕ) (kept : ℕ) (boxes : List Mailbox) : Type 0 where
  pub box : Mailbox
  pub there : box_at name boxes ≡ Some box
  pub above : kept < box.validity
