-- How the parts of a resynchronisation judge it.
use Rattle.std.proofs.Common.{◌≡◌, ℕ, ◌≤◌, Bool, true, false, cond, not, eqb, ltb, ◌&&◌, Option, Some, None, refl, sym, ◌∙◌, ap, arith}
use Rattle.std.proofs.lemmas.Bool.{eqb-true, ltb-false, not-true, not-false}
use Rattle.std.specs.Option.{option_map}
use Rattle.std.specs.Prelude.{Result, Ok, Err, is_some, is_none}
use Rattle.mailbox_cache.specs.declared.cache.Cache.{Cache}
use Rattle.mailbox_cache.specs.declared.delta.Delta.{Delta}
use Rattle.mailbox_cache.specs.declared.row.Row.{Row}
use Rattle.imap_model.specs.declared.replies.Replies.{Replies}
use Rattle.qresync_core.specs.Behind.{behind_closed}
use Rattle.qresync_core.specs.Fitting.{Fits}
use Rattle.qresync_core.specs.Laws.{Faultless}
use Rattle.qresync_core.specs.Resync.{HasFault, judged, judged_by, unless, bare_fault, bare_in, read_for_rows, kept_fault, gone_beside}
use Rattle.qresync_core.specs.ToldCodes.{told_codes}
use Rattle.qresync_core.specs.ToldGone.{is_told_gone}
use Rattle.qresync_core.specs.declared.codes.Codes.{Codes}
use Rattle.qresync_core.specs.declared.fault.CodeFault.{CodeFault}
use Rattle.qresync_core.specs.declared.fault.ResyncFault.{ResyncFault}
use Rattle.qresync_core.specs.declared.fault.ResyncFault.TheVariants as faults

module _ (kept : Option Cache) (selected : Replies) (all : Option Replies) where
  judged_as : (r : Result Codes CodeFault) → told_codes selected ≡ r → judged kept selected all ≡ judged_by kept (bare_in (read_for_rows selected all)) r
  judged_as r e = ap (judged_by kept (bare_in (read_for_rows selected all))) e

  -- with none of them the codes count
  pub no_fault : (codes : Codes) → told_codes selected ≡ Ok codes → kept_fault kept codes ≡ None → bare_in (read_for_rows selected all) ≡ None →
      judged kept selected all ≡ Ok codes
  no_fault codes e f b =
      judged_as (Ok codes) e ∙ ap (λ o. unless o (bare_fault (bare_in (read_for_rows selected all))) codes) f
      ∙ ap (λ (o : Option ℕ). unless None (bare_fault o) codes) b

never : (b : Bool) → (b && false) ≡ false
never true = refl
never false = refl

-- what has a row isn't gone
pub told_stays : (kept : Option Cache) (selected : Replies) (row : Option Row) (uid : ℕ) → is_some row ≡ true → gone_beside kept selected row uid ≡ false
told_stays None selected row uid e = refl
told_stays (Some cache) selected None uid e = absurd (cc)
told_stays (Some cache) selected (Some row) uid e = never (is_told_gone (behind_closed selected.untagged) uid)

-- a test for None, whatever the option's value is read as
pub none_then : {A B : Type 0} (f : A → B) (o : Option A) (b : Bool) → is_some o ≡ not b → b ≡ is_none (option_map f o)
none_then f None b e = not-false b (sym e)
none_then f (Some x) b e = not-true b (sym e)

-- neither test found a fault
neither_found : (b c : Bool) (x y : ResyncFault) → cond b (Some x) (cond c (Some y) None) ≡ None → (b ≡ false) × (c ≡ false)
neither_found true c x y e = absurd (cc)
neither_found false true x y e = absurd (cc)
neither_found false false x y e = (refl, refl)

-- a delta with numbers that have no fault against the cache
pub fitting : (kept : Option Cache) (codes : Codes) (delta : Delta) → kept_fault kept codes ≡ None → delta.whole ≡ is_none kept →
    delta.validity ≡ codes.validity → delta.highest ≡ codes.highest → Fits kept delta
fitting None codes delta f w v h = w
fitting (Some cache) codes delta f w v h =
    let none =
    neither_found (not (eqb cache.validity codes.validity)) (ltb codes.highest cache.highest)
    (faults.Validity cache.validity codes.validity) (faults.Unfit cache.highest codes.highest) f in
    let same : cache.validity ≡ codes.validity =
    eqb-true cache.validity codes.validity (not-false (eqb cache.validity codes.validity) none.0) in
    let most : cache.highest ≤ codes.highest = ltb-false codes.highest cache.highest none.1 in
    (w, v ∙ sym same, omega (arith, most, h))

not_both : (r : Result Codes ResyncFault) (codes : Codes) (fault : ResyncFault) → r ≡ Ok codes → r ≡ Err fault → ⊥
not_both r codes fault e f = cc

-- where there is no fault, what fails is want of memory
pub memory_alone : (kept : Option Cache) (selected : Replies) (all : Option Replies) (fault : ResyncFault) → Faultless kept selected all →
    HasFault kept selected all fault → fault ≡ faults.Memory
memory_alone kept selected all faults.Memory n h = refl
memory_alone kept selected all faults.NoModSeq n h = absurd (not_both (judged kept selected all) n.0 faults.NoModSeq n.1 h)
memory_alone kept selected all faults.NotSticky n h = absurd (not_both (judged kept selected all) n.0 faults.NotSticky n.1 h)
memory_alone kept selected all (faults.NoCode which) n h = absurd (not_both (judged kept selected all) n.0 (faults.NoCode which) n.1 h)
memory_alone kept selected all (faults.Validity old new) n h = absurd (not_both (judged kept selected all) n.0 (faults.Validity old new) n.1 h)
memory_alone kept selected all (faults.Unfit mark highest) n h = absurd (not_both (judged kept selected all) n.0 (faults.Unfit mark highest) n.1 h)
memory_alone kept selected all (faults.BareRow index) n h = absurd (not_both (judged kept selected all) n.0 (faults.BareRow index) n.1 h)
