-- What a resynchronisation makes of a cache, as long as no command that changes a mailbox waits (RFC 7162, section 3.2.5).
use Rattle.std.specs.Prelude.{◌≡◌, ℕ, List, Option, Some, None, Ok, Err, ⊤}
use Rattle.imap_model.specs.Changes.{Batch}
use Rattle.imap_model.specs.Lookups.{box_at, validity_of}
use Rattle.imap_model.specs.declared.server.Server.{Server}
use Rattle.mailbox_cache.specs.declared.cache.Cache.{Cache}
use Rattle.mailbox_cache.specs.declared.delta.Delta.{Delta}
use Rattle.action_queue.specs.Book.{Meaning, cache_at, learned}
use Rattle.qresync_core.specs.declared.fault.ResyncFault.{ResyncFault}
use Rattle.qresync_core.specs.declared.fault.ResyncFault.TheVariants as resyncs
use Rattle.world_traits.specs.Links.{Any}
use Rattle.world_traits.specs.Moments.{Moment, Clock, Became, Since}
use Rattle.store_core.specs.Mail.{mail}
use Rattle.play_driver.specs.Joining.{AllFair, AnyTwo}
use Rattle.play_driver.specs.Resynchronising.{Resyncs}
use Rattle.play_driver.specs.Synced.{IsLastRead, IsReadAt}
use Rattle.play_driver.specs.KnownAt.{StandsKept}
use Rattle.play_driver.specs.Played.{played}
use Rattle.imap_session.specs.declared.permits.Permits.{Permits}
use Rattle.play_driver.specs.Calm.{IsCalm, IsFreshAt}
use Rattle.book_laws.specs.Fresh.{IsFreshFor}
use Rattle.book_laws.specs.Polite.{KeepsBox}

-- the mailbox of this name has one UIDVALIDITY in both servers
abbrev pub SameValidity : List ℕ → Server → Server → Type 0
SameValidity name s t = validity_of (box_at name t.boxes) ≡ validity_of (box_at name s.boxes)

-- where others change something from one moment to the next, they leave the UIDVALIDITY of this mailbox; so it is all the time
pub record LeavesValidity (name : List ℕ) (m n : Moment) : Type 0 where
  pub same : Batch m.outside.server.boxes m.outside.server n.outside.server → SameValidity name m.outside.server n.outside.server

abbrev pub ValidityStays : List ℕ → Clock → Clock → Type 0
ValidityStays name old new = Since Any (LeavesValidity name) old new

-- the same of the mailbox that is selected then
pub record LeavesSelected (m n : Moment) : Type 0 where
  pub same : Batch m.outside.server.boxes m.outside.server n.outside.server
      → KeepsBox m.outside.talk.selected m.outside.server.boxes n.outside.server.boxes

abbrev pub SelectedStays : Clock → Clock → Type 0
SelectedStays old new = Since Any LeavesSelected old new

-- what is kept of a mailbox, if anything is, is so while it has the cache's UIDVALIDITY, and it has no lower one
abbrev pub IsKeptFresh : Server → List ℕ → Option Cache → Type 0
IsKeptFresh s name None = ⊤
IsKeptFresh s name (Some cache) = IsFreshFor name cache s.boxes

-- The cache is the server's as it answered for its rows at a moment of this time, and fresh at its end. Where nothing waited or arrived at
-- first, that is the last such moment.
pub record IsLevelled (name : List ℕ) (cache : Cache) (old new : Clock) : Type 0 where
  pub level : Became Any AnyTwo (IsReadAt name cache) old new
  pub last : old.now.outside.waiting ≡ None → old.now.outside.talk.arriving ≡ None → IsLastRead name cache old new
  pub fresh : IsFreshAt new.now.outside.server name cache

-- So it is with the cache that a delta makes which a resynchronisation told. At first the server is calm, nothing waits or arrives, and what is
-- kept of the mailbox is so; and others leave the UIDVALIDITY of what is selected.
abbrev pub LinkLevels : Type 0
LinkLevels = (name : List ℕ) (kept : Option Cache) (delta : Delta) (selected : Option (List ℕ)) (count after : ℕ)
    (permits : Option Permits) (old new : Clock)
    → IsCalm old.now.outside → old.now.outside.waiting ≡ None → old.now.outside.talk.arriving ≡ None
    → IsKeptFresh old.now.outside.server name kept → SelectedStays old new
    → Resyncs selected count after name kept (Ok delta) permits old new → IsLevelled name (learned kept delta) old new

-- Then the replies have no fault: a resynchronisation tells no delta for want of memory alone.
abbrev pub LinkFaultless : Type 0
LinkFaultless = (name : List ℕ) (kept : Option Cache) (fault : ResyncFault) (selected : Option (List ℕ)) (count after : ℕ)
    (permits : Option Permits) (old new : Clock)
    → IsCalm old.now.outside → old.now.outside.waiting ≡ None → old.now.outside.talk.arriving ≡ None
    → IsKeptFresh old.now.outside.server name kept → SelectedStays old new
    → Resyncs selected count after name kept (Err fault) permits old new → fault ≡ resyncs.Memory

-- The same beside a book: at first a stop leaves this book, which is kept, and nothing waits; and others are fair.
abbrev pub ResyncsLevel : Type 0
ResyncsLevel = (b : Meaning) (name : List ℕ) (kept : Option Cache) (delta : Delta) (selected : Option (List ℕ)) (count after : ℕ)
    (permits : Option Permits) (old new : Clock) → cache_at name b.boxes ≡ kept → StandsKept b old → AllFair mail played old new
    → Resyncs selected count after name kept (Ok delta) permits old new → IsLevelled name (learned kept delta) old new

abbrev pub ResyncsFaultless : Type 0
ResyncsFaultless = (b : Meaning) (name : List ℕ) (kept : Option Cache) (fault : ResyncFault) (selected : Option (List ℕ)) (count after : ℕ)
    (permits : Option Permits) (old new : Clock) → cache_at name b.boxes ≡ kept → StandsKept b old → AllFair mail played old new
    → Resyncs selected count after name kept (Err fault) permits old new → fault ≡ resyncs.Memory
