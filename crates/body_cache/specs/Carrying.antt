-- What the parts of a reading say of how they end.
use Rattle.std.specs.Prelude.{◌≡◌, ◌⊎◌, ℕ, List, Result, Ok, Err}
use Rattle.mail_base.specs.declared.status.Status.{Status}
use Rattle.mail_base.specs.declared.status.Status.TheVariants as status
use Rattle.mail_top.specs.declared.refusal.Refusal.TheVariants as refusals
use Rattle.body_cache.specs.Ending.{Shelving, Untouched}
use Rattle.body_cache.specs.Lines.{dates_text, error_validity, kept_line}
use Rattle.body_cache.specs.Shelf.{IsPut, KeepsOthers}
use Rattle.body_cache.specs.Telling.{status_of_unread}
use Rattle.body_cache.specs.declared.fault.TextFault.{TextFault}
use Rattle.body_cache.specs.declared.fault.TextFault.TheVariants as texts
use Rattle.body_cache.specs.declared.key.Key.{Key}
use Rattle.body_cache.specs.declared.keys.Cached.{Cached}
use Rattle.body_cache.specs.declared.reading.ReadReason.TheVariants as reasons
use Rattle.body_cache.specs.declared.refused.ReadFault.{ReadFault}
use Rattle.body_cache.specs.declared.refused.ReadFault.TheVariants as faults

-- want of memory
abbrev pub wanting : ReadFault
wanting = faults.Refused refusals.Memory

-- The text was put, and this is its line; or memory was wanting, and nothing was; or the shelf failed.
pub data Puts (v : Shelving) (key : Key) (text : List ℕ) (result : Result (List ℕ) ReadFault) : Type 0 where
  puts : result ≡ Ok (kept_line text) → (v.tells → IsPut key text v.old v.new) → Puts v key text result
  wants : result ≡ Err wanting → Untouched v → Puts v key text result
  fails : result ≡ Err faults.Shelf → (v.tells → KeepsOthers key v.old v.new) → Puts v key text result

-- another UIDVALIDITY is told by its line, or memory is wanting
abbrev pub TellsRenewed : Key → ℕ → ReadFault → Type 0
TellsRenewed key told fault = (fault ≡ faults.Renewed (error_validity key.name key.validity told)) ⊎ (fault ≡ wanting)

-- why a text isn't fetched, as it is told
abbrev pub IsUnfetched : Key → TextFault → ReadFault → Type 0
IsUnfetched key (texts.Stopped f) fault = fault ≡ faults.Stopped f
IsUnfetched key (texts.Renewed told) fault = TellsRenewed key told fault
IsUnfetched key texts.Gone fault = fault ≡ faults.Reason reasons.Gone

-- the dates of the kept texts; or memory was wanting, or the shelf failed
pub data Dates (v : Shelving) (name : List ℕ) (cached : Cached) (result : Result (List ℕ) ReadFault) : Type 0 where
  tells : (text : List ℕ) → result ≡ Ok text → (v.tells → text ≡ dates_text name cached v.old) → Untouched v → Dates v name cached result
  wants : result ≡ Err wanting → Untouched v → Dates v name cached result
  fails : result ≡ Err faults.Shelf → Untouched v → Dates v name cached result

-- a fault of a line of a date
abbrev pub IsOfShelf : ReadFault → Type 0
IsOfShelf fault = (fault ≡ wanting) ⊎ (fault ≡ faults.Shelf)

-- the status of a part that gives nothing
abbrev pub status_of_put : Result (Unit {0}) ReadFault → Status
status_of_put (Ok done) = status.Done
status_of_put (Err fault) = status_of_unread fault
