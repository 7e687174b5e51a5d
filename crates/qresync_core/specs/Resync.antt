-- The delta that the replies to a resynchronisation tell, or the first of their faults (RFC 7162, sections 3.2.5 and 3.2.5.1).
use Rattle.std.specs.Prelude.{◌≡◌, ℕ, Bool, false, not, ◌&&◌, ◌==◌, nat_lt, Option, Some, None, is_none, Result, Ok, Err, if◌then◌else◌}
use Rattle.std.specs.List.{list_any}
use Rattle.std.specs.Option.{unwrap_or}
use Rattle.mailbox_cache.specs.Rows.{row_at, has_uid}
use Rattle.mailbox_cache.specs.declared.cache.Cache.{Cache}
use Rattle.mailbox_cache.specs.declared.delta.Delta.{Delta}
use Rattle.mailbox_cache.specs.declared.row.Row.{Row}
use Rattle.imap_model.specs.declared.replies.Replies.{Replies}
use Rattle.qresync_core.specs.Behind.{closed_len, behind_closed}
use Rattle.qresync_core.specs.ToldCodes.{told_codes}
use Rattle.qresync_core.specs.ToldGone.{is_told_gone, tells_empty}
use Rattle.qresync_core.specs.ReadRows.{rows_in, last_row, first_bare}
use Rattle.qresync_core.specs.declared.codes.Codes.{Codes}
use Rattle.qresync_core.specs.declared.fault.CodeFault.{CodeFault}
use Rattle.qresync_core.specs.declared.fault.CodeFault.TheVariants as code_faults
use Rattle.qresync_core.specs.declared.fault.ResyncFault.{ResyncFault}
use Rattle.qresync_core.specs.declared.fault.ResyncFault.TheVariants as faults

-- the mailbox is told to be empty, so that there is nothing to fetch
abbrev pub is_told_empty : Replies → Bool
is_told_empty selected = list_any tells_empty (behind_closed selected.untagged)

-- the reply that is read for rows: that to the FETCH of all rows, where there is one, and else that to SELECT
abbrev pub read_for_rows : Replies → Option Replies → Replies
read_for_rows selected all = unwrap_or all selected

-- a fault of the codes is one of the resynchronisation
abbrev pub of_codes : CodeFault → ResyncFault
of_codes code_faults.NoModSeq = faults.NoModSeq
of_codes code_faults.NotSticky = faults.NotSticky
of_codes (code_faults.NoCode which) = faults.NoCode which

-- The mailbox has the UIDVALIDITY of the cache, and its mod-sequences didn't fall below the cache's mark.
abbrev pub kept_fault : Option Cache → Codes → Option ResyncFault
kept_fault None codes = None
kept_fault (Some cache) codes =
    if not (cache.validity == codes.validity) then Some (faults.Validity cache.validity codes.validity) else
    (if nat_lt codes.highest cache.highest then Some (faults.Unfit cache.highest codes.highest) else None)

-- the first response of the reply, behind CLOSED, that is a FETCH and no row; its number is the one that it has in the whole reply
abbrev pub bare_in : Replies → Option ℕ
bare_in read = first_bare (closed_len read.untagged) (behind_closed read.untagged)

abbrev pub bare_fault : Option ℕ → Option ResyncFault
bare_fault None = None
bare_fault (Some index) = Some (faults.BareRow index)

-- the fault is that of this number, or want of memory
abbrev pub IsBareFault : Option ℕ → ResyncFault → Type 0
IsBareFault bare faults.Memory = Unit {0}
IsBareFault bare faults.NoModSeq = ⊥
IsBareFault bare faults.NotSticky = ⊥
IsBareFault bare (faults.NoCode which) = ⊥
IsBareFault bare (faults.Validity old new) = ⊥
IsBareFault bare (faults.Unfit mark highest) = ⊥
IsBareFault bare (faults.BareRow index) = bare ≡ Some index

-- the codes, unless there is a fault: of two the first counts
abbrev pub unless : Option ResyncFault → Option ResyncFault → Codes → Result Codes ResyncFault
unless None None codes = Ok codes
unless None (Some fault) codes = Err fault
unless (Some fault) later codes = Err fault

abbrev pub judged_by : Option Cache → Option ℕ → Result Codes CodeFault → Result Codes ResyncFault
judged_by kept bare (Err fault) = Err (of_codes fault)
judged_by kept bare (Ok codes) = unless (kept_fault kept codes) (bare_fault bare) codes

-- The codes that the delta has, or the first fault: of the codes, then against the cache, then of the rows.
abbrev pub judged : Option Cache → Replies → Option Replies → Result Codes ResyncFault
judged kept selected all = judged_by kept (bare_in (read_for_rows selected all)) (told_codes selected)

-- these replies have this fault and no earlier one; of want of memory it says nothing
abbrev pub HasFault : Option Cache → Replies → Option Replies → ResyncFault → Type 0
HasFault kept selected all faults.Memory = Unit {0}
HasFault kept selected all faults.NoModSeq = judged kept selected all ≡ Err faults.NoModSeq
HasFault kept selected all faults.NotSticky = judged kept selected all ≡ Err faults.NotSticky
HasFault kept selected all (faults.NoCode which) = judged kept selected all ≡ Err (faults.NoCode which)
HasFault kept selected all (faults.Validity old new) = judged kept selected all ≡ Err (faults.Validity old new)
HasFault kept selected all (faults.Unfit mark highest) = judged kept selected all ≡ Err (faults.Unfit mark highest)
HasFault kept selected all (faults.BareRow index) = judged kept selected all ≡ Err (faults.BareRow index)

-- the row that the replies tell of a UID
abbrev pub row_told : Replies → Option Replies → ℕ → Option Row
row_told selected all uid = last_row uid (rows_in (behind_closed (read_for_rows selected all).untagged))

-- Whether a UID is told to be gone, of which this row is told or none: nothing is gone that has a row, or where nothing was kept.
abbrev pub gone_beside : Option Cache → Replies → Option Row → ℕ → Bool
gone_beside None selected row uid = false
gone_beside (Some cache) selected row uid = is_told_gone (behind_closed selected.untagged) uid && is_none row

abbrev pub gone_told : Option Cache → Replies → Option Replies → ℕ → Bool
gone_told kept selected all uid = gone_beside kept selected (row_told selected all uid) uid

-- The replies have no fault, and tell this delta: the three numbers, the last row of each UID, and the UIDs that are gone.
pub record TellsDelta (kept : Option Cache) (selected : Replies) (all : Option Replies) (delta : Delta) : Type 0 where
  pub codes : Codes
  pub told : told_codes selected ≡ Ok codes
  pub fits : kept_fault kept codes ≡ None
  pub none_bare : bare_in (read_for_rows selected all) ≡ None
  pub whole : delta.whole ≡ is_none kept
  pub validity : delta.validity ≡ codes.validity
  pub uidnext : delta.uidnext ≡ codes.uidnext
  pub highest : delta.highest ≡ codes.highest
  pub rows : (uid : ℕ) → row_at uid delta.rows ≡ row_told selected all uid
  pub vanished : (uid : ℕ) → has_uid delta.vanished uid ≡ gone_told kept selected all uid
