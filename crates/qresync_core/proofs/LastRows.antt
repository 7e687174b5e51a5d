-- The last of several rows of a UID, and the first FETCH that is no row.
use Rattle.std.proofs.Common.{◌≡◌, ℕ, ◌+◌, Bool, true, false, cond, eqb, List, [], ◌∷◌, ◌++◌, reverse, Option, Some, None, refl, ◌∙◌, ap, arith}
use Rattle.std.specs.Option.{option_or}
use Rattle.std.proofs.lemmas.List.{reverse-append}
use Rattle.std.proofs.lemmas.Bool.{cond-false, eqb-true}
use Rattle.mailbox_cache.proofs.Counting.{absent}
use Rattle.mailbox_cache.specs.Rows.{row_at, Rises, RisesAbove}
use Rattle.mailbox_cache.specs.declared.row.Row.{Row}
use Rattle.imap_model.specs.declared.response.Response.{Response}
use Rattle.qresync_core.specs.Resync.{IsBareFault}
use Rattle.qresync_core.specs.ReadRows.{is_bare, last_row, first_bare}
use Rattle.qresync_core.specs.declared.fault.ResyncFault.{ResyncFault}
use Rattle.qresync_core.specs.declared.fault.ResyncFault.TheVariants as faults

join : (b : Bool) (v : Row) (o p q : Option Row) → q ≡ option_or o p → cond b (Some v) q ≡ option_or (cond b (Some v) o) p
join true v o p q e = refl
join false v o p q e = e

pub row_behind : (uid : ℕ) (xs ys : List (ℕ × Row)) → row_at uid (xs ++ ys) ≡ option_or (row_at uid xs) (row_at uid ys)
row_behind uid [] ys = refl
row_behind uid (x ∷ xs) ys = join (eqb x.0 uid) x.1 (row_at uid xs) (row_at uid ys) (row_at uid (xs ++ ys)) (row_behind uid xs ys)

-- a row counts where no later one has its UID
pub last_first : (uid : ℕ) (row : ℕ × Row) (rows : List (ℕ × Row)) → last_row uid (row ∷ rows) ≡ option_or (last_row uid rows) (row_at uid (row ∷ []))
last_first uid row rows = ap (row_at uid) (reverse-append (row ∷ []) rows) ∙ row_behind uid (reverse rows) (row ∷ [])

swap : (b : Bool) (v : Row) (o : Option Row) → (b ≡ true → o ≡ None) → option_or o (cond b (Some v) None) ≡ cond b (Some v) o
swap true v None f = refl
swap true v (Some w) f = absurd (let e = f refl in cc)
swap false v None f = refl
swap false v (Some w) f = refl

above_row : (uid floor : ℕ) (rows : List (ℕ × Row)) → RisesAbove floor rows → last_row uid rows ≡ row_at uid rows
above_row uid floor [] a = refl
above_row uid floor (r ∷ rs) a =
    last_first uid r rs ∙ ap (λ (o : Option Row). option_or o (row_at uid (r ∷ []))) (above_row uid r.0 rs a.1)
    ∙ swap (eqb r.0 uid) r.1 (row_at uid rs) (λ t. let e = eqb-true r.0 uid t in absent uid r.0 rs (omega (arith, e)) a.1)

-- where rows rise, no UID has two
pub rising_row : (uid : ℕ) (rows : List (ℕ × Row)) → Rises rows → last_row uid rows ≡ row_at uid rows
rising_row uid [] a = refl
rising_row uid (r ∷ rs) a =
    last_first uid r rs ∙ ap (λ (o : Option Row). option_or o (row_at uid (r ∷ []))) (above_row uid r.0 rs a)
    ∙ swap (eqb r.0 uid) r.1 (row_at uid rs) (λ t. let e = eqb-true r.0 uid t in absent uid r.0 rs (omega (arith, e)) a)

-- a response that is a row, or no FETCH, isn't the first that is bare
pub bare_behind : (index : ℕ) (r : Response) (told : List Response) → is_bare r ≡ false → first_bare index (r ∷ told) ≡ first_bare (index + 1) told
bare_behind index r told e = cond-false (is_bare r) (Some index) (first_bare (index + 1) told) e

bare_first : (b : Bool) (index number : ℕ) (later : Option ℕ) → cond b (Some index) None ≡ Some number → cond b (Some index) later ≡ Some number
bare_first true index number later e = e
bare_first false index number later e = absurd (cc)

-- the first that is bare stays so, whatever follows
pub bare_front : (index : ℕ) (r : Response) (told : List Response) (fault : ResyncFault) → IsBareFault (first_bare index (r ∷ [])) fault →
    IsBareFault (first_bare index (r ∷ told)) fault
bare_front index r told faults.Memory f = tt
bare_front index r told faults.NoModSeq f = absurd f
bare_front index r told faults.NotSticky f = absurd f
bare_front index r told (faults.NoCode which) f = absurd f
bare_front index r told (faults.Validity old new) f = absurd f
bare_front index r told (faults.Unfit mark highest) f = absurd f
bare_front index r told (faults.BareRow number) f = bare_first (is_bare r) index number (first_bare (index + 1) told) f
