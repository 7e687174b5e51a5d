-- What a resynchronisation makes of a cache, where the replies are a lawful server's (RFC 7162, section 3.2.5).
use Rattle.std.specs.Prelude.{◌≡◌, ℕ, ◌≤◌, true, List, [], Option, Some, None, Ok}
use Rattle.std.specs.List.{AllByRecursion}
use Rattle.uid_sets.specs.UidSet.{IsCanonical}
use Rattle.mailbox_cache.specs.Cache.{first, applied}
use Rattle.mailbox_cache.specs.Rows.{row_at}
use Rattle.mailbox_cache.specs.declared.cache.Cache.{Cache}
use Rattle.mailbox_cache.specs.declared.delta.Delta.{Delta}
use Rattle.mailbox_cache.specs.declared.row.Row.{Row}
use Rattle.imap_model.specs.CarriedOut.{CarriesOut}
use Rattle.imap_model.specs.Carrying.{Waiting}
use Rattle.imap_model.specs.Evolving.{GoesOn}
use Rattle.imap_model.specs.Lookups.{box_at}
use Rattle.imap_model.specs.Small.{AreFew, IsSmall}
use Rattle.imap_model.specs.WellFormed.{IsWellFormedBox}
use Rattle.imap_model.specs.declared.command.Command.TheVariants as commands
use Rattle.imap_model.specs.declared.ending.Ending.TheVariants as endings
use Rattle.imap_model.specs.declared.mark.Mark.{Mark}
use Rattle.imap_model.specs.declared.replies.Replies.{Replies}
use Rattle.imap_model.specs.declared.server.Mailbox.{Mailbox}
use Rattle.imap_model.specs.declared.server.Server.{Server}
use Rattle.qresync_core.specs.Fitting.{Fits}
use Rattle.qresync_core.specs.Fresh.{FreshFacts, IsFresh, server_row}
use Rattle.qresync_core.specs.Marking.{mark_of}
use Rattle.qresync_core.specs.Resync.{judged, TellsDelta, HasFault, is_told_empty, read_for_rows}
use Rattle.qresync_core.specs.ToldCodes.{told_codes}
use Rattle.qresync_core.specs.declared.codes.Codes.{Codes}
use Rattle.qresync_core.specs.declared.fault.ResyncFault.{ResyncFault}
use Rattle.qresync_core.specs.declared.fault.ResyncFault.TheVariants as faults

-- a command is carried out and answered OK, at a moment at which the name has this mailbox
pub record Answers (w : Waiting) (name : List ℕ) (box : Mailbox) (r : Replies) : Type 0 where
  pub server : Server
  pub later : Server
  pub after : Option (List ℕ)
  pub carried : CarriesOut w server r later after
  pub ok : r.ending ≡ endings.Ok
  pub there : box_at name server.boxes ≡ Some box

-- SELECT of a name, with this mark or none
pub record AnswersSelect (name : List ℕ) (since : Option Mark) (box : Mailbox) (r : Replies) : Type 0 where
  pub waiting : Waiting
  pub command : waiting.command ≡ commands.Select name since
  pub answers : Answers waiting name box r

-- the FETCH of all rows, where the mailbox of this name is selected
pub record AnswersFetch (name : List ℕ) (box : Mailbox) (r : Replies) : Type 0 where
  pub waiting : Waiting
  pub command : waiting.command ≡ commands.FetchAll
  pub selected : waiting.selected ≡ Some name
  pub answers : Answers waiting name box r

-- the mailbox of a SELECT that is answered OK is there
abbrev pub SelectHasBox : Type 0
SelectHasBox = (name : List ℕ) (since : Option Mark) (w : Waiting) (server later : Server) (r : Replies) (after : Option (List ℕ))
    → w.command ≡ commands.Select name since → r.ending ≡ endings.Ok → CarriesOut w server r later after
    → (box : Mailbox) × (box_at name server.boxes ≡ Some box)

-- so is that of a FETCH
abbrev pub FetchHasBox : Type 0
FetchHasBox = (name : List ℕ) (w : Waiting) (server later : Server) (r : Replies) (after : Option (List ℕ))
    → w.command ≡ commands.FetchAll → w.selected ≡ Some name → r.ending ≡ endings.Ok → CarriesOut w server r later after
    → (box : Mailbox) × (box_at name server.boxes ≡ Some box)

-- the mailbox's three numbers
abbrev pub codes_of_box : Mailbox → Codes
codes_of_box box = record { validity = box.validity; uidnext = box.uidnext; highest = box.highest }

-- The codes of the reply to a SELECT, with any mark or none, are the mailbox's numbers at that moment.
abbrev pub CodesMirror : Type 0
CodesMirror = (name : List ℕ) (since : Option Mark) (box : Mailbox) (selected : Replies) → AnswersSelect name since box selected
    → told_codes selected ≡ Ok (codes_of_box box)

-- the cache has the mailbox's rows and no others, and knows it up to its mark
pub record Mirrors (cache : Cache) (box : Mailbox) : Type 0 where
  pub rows : (uid : ℕ) → row_at uid cache.rows ≡ server_row uid box
  pub fresh : IsFresh cache box

-- the replies have no fault
abbrev pub Faultless : Option Cache → Replies → Option Replies → Type 0
Faultless kept selected all = (codes : Codes) × (judged kept selected all ≡ Ok codes)

-- replies without a fault fail for want of memory alone
abbrev pub FaultlessMemory : Type 0
FaultlessMemory = (kept : Option Cache) (selected : Replies) (all : Option Replies) (fault : ResyncFault)
    → Faultless kept selected all → HasFault kept selected all fault → fault ≡ faults.Memory

-- A delta that may be applied to the cache, which then mirrors the mailbox.
pub record Levels (cache : Cache) (delta : Delta) (box : Mailbox) : Type 0 where
  pub fits : Fits (Some cache) delta
  pub mirrors : Mirrors (applied cache delta) box

-- A fresh cache and a SELECT with its mark: there is no fault, and the delta makes the cache the server's. (Being fresh stands as
-- its two parts.)
abbrev pub KeptLevels : Type 0
KeptLevels = (name : List ℕ) (cache : Cache) (box : Mailbox) (selected : Replies) → AnswersSelect name (Some (mark_of cache)) box selected
    → cache.validity ≡ box.validity → FreshFacts cache box
    → Faultless (Some cache) selected None × ((delta : Delta) → TellsDelta (Some cache) selected None delta → Levels cache delta box)

-- A SELECT with any mark or none, and then the rows of all messages. Between the two the mailbox may have gone on, under its
-- UIDVALIDITY: the cache is then that of the second moment.
abbrev pub FirstMirrors : Type 0
FirstMirrors = (name : List ℕ) (since : Option Mark) (box later : Mailbox) (selected all : Replies)
    → AnswersSelect name since box selected → AnswersFetch name later all
    → later.validity ≡ box.validity → box.highest ≤ later.highest
    → Faultless None selected (Some all) × ((delta : Delta) → TellsDelta None selected (Some all) delta → Mirrors (first delta) later)

-- A SELECT, with any mark or none, that is answered by EXISTS 0: there is nothing to fetch.
abbrev pub EmptyMirrors : Type 0
EmptyMirrors = (name : List ℕ) (since : Option Mark) (box : Mailbox) (selected : Replies)
    → AnswersSelect name since box selected → is_told_empty selected ≡ true
    → Faultless None selected None × ((delta : Delta) → TellsDelta None selected None delta → (delta.rows ≡ []) × Mirrors (first delta) box)

-- Where nothing changed since the cache's mark, its rows stay.
abbrev pub UnchangedStays : Type 0
UnchangedStays = (name : List ℕ) (cache : Cache) (box : Mailbox) (selected : Replies) (delta : Delta)
    → AnswersSelect name (Some (mark_of cache)) box selected → IsWellFormedBox box → cache.validity ≡ box.validity → FreshFacts cache box
    → box.highest ≡ cache.highest → TellsDelta (Some cache) selected None delta
    → (delta.highest ≡ cache.highest) × ((uid : ℕ) → row_at uid (applied cache delta).rows ≡ row_at uid cache.rows)

-- a delta that tells nothing leaves the rows
abbrev pub NothingStays : Type 0
NothingStays = (cache : Cache) (delta : Delta) → delta.rows ≡ [] → delta.vanished ≡ [] → (applied cache delta).rows ≡ cache.rows

-- What is fresh stays so, however the mailbox goes on under its UIDVALIDITY.
abbrev pub FreshGoesOn : Type 0
FreshGoesOn = (cache : Cache) (box later : Mailbox) → IsFresh cache box → later.validity ≡ box.validity → GoesOn box.highest box later → IsFresh cache later

-- So do the facts alone, whatever UIDVALIDITY the cache has.
abbrev pub FactsGoOn : Type 0
FactsGoOn = (cache : Cache) (box later : Mailbox) → FreshFacts cache box → GoesOn box.highest box later → FreshFacts cache later

-- Where the flags that are told are few enough, those of the delta's rows are.
abbrev pub RowsAreSmall : Type 0
RowsAreSmall = (kept : Option Cache) (selected : Replies) (all : Option Replies) (delta : Delta)
    → AllByRecursion IsSmall (read_for_rows selected all).untagged → TellsDelta kept selected all delta
    → AllByRecursion (λ (row : ℕ × Row). AreFew row.1.flags) delta.rows

-- the deltas tell the same
pub record AreSame (left right : Delta) : Type 0 where
  pub whole : left.whole ≡ right.whole
  pub validity : left.validity ≡ right.validity
  pub highest : left.highest ≡ right.highest
  pub uidnext : left.uidnext ≡ right.uidnext
  pub vanished : left.vanished ≡ right.vanished
  pub rows : left.rows ≡ right.rows

-- the replies tell one delta at most
abbrev pub OneDelta : Type 0
OneDelta = (kept : Option Cache) (selected : Replies) (all : Option Replies) (left right : Delta) → IsCanonical left.vanished → IsCanonical right.vanished
    → TellsDelta kept selected all left → TellsDelta kept selected all right → AreSame left right
