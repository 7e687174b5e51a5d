-- Rows of small responses have few flags.
use Rattle.std.proofs.Common.{◌≡◌, ℕ, zero, suc, ◌<◌, eqb, List, [], ◌∷◌, drop, Option, Some, None, refl, sym, ◌∙◌, subst, arith}
use Rattle.std.specs.List.{AllByRecursion}
use Rattle.std.specs.Option.{option_or, option_to_list}
use Rattle.std.proofs.lemmas.Bool.{cond_both, cond-true, cond-false, eq-eqb, ne_eqb}
use Rattle.std.proofs.lemmas.Option.{same_Some}
use Rattle.mailbox_cache.specs.Rows.{row_at, Rises, RisesAbove}
use Rattle.mailbox_cache.specs.declared.cache.Cache.{Cache}
use Rattle.mailbox_cache.specs.declared.delta.Delta.{Delta}
use Rattle.mailbox_cache.specs.declared.row.Row.{Row}
use Rattle.imap_model.proofs.Remarking.{all_append}
use Rattle.imap_model.specs.Small.{AreFew, AreFewIfTold, IsSmall}
use Rattle.imap_model.specs.declared.replies.Replies.{Replies}
use Rattle.imap_model.specs.declared.response.Response.{Response}
use Rattle.imap_model.specs.declared.response.Response.TheVariants as responses
use Rattle.qresync_core.proofs.LastRows.{last_first}
use Rattle.qresync_core.specs.Behind.{closed_len, behind_closed}
use Rattle.qresync_core.specs.Resync.{TellsDelta, read_for_rows}
use Rattle.qresync_core.specs.ReadRows.{whole_row, told_row, rows_in, last_row}

abbrev HasFew : ℕ × Row → Type 0
HasFew row = AreFew row.1.flags

all_drop : {A : Type 0} (P : A → Type 0) (n : ℕ) (xs : List A) → AllByRecursion P xs → AllByRecursion P (drop n xs)
all_drop P zero xs a = a
all_drop P (suc n) [] a = tt
all_drop P (suc n) (x ∷ xs) a = all_drop P n xs a.1

few_whole : (uid : Option ℕ) (flags : Option (List (List ℕ))) (modseq : Option ℕ) → AreFewIfTold flags →
    AllByRecursion HasFew (option_to_list (whole_row uid flags modseq))
few_whole None flags modseq f = tt
few_whole (Some uid) None modseq f = tt
few_whole (Some uid) (Some flags) None f = tt
few_whole (Some uid) (Some flags) (Some modseq) f = (f, tt)

few_told : (r : Response) → IsSmall r → AllByRecursion HasFew (option_to_list (told_row r))
few_told (responses.Done tag ending code) s = tt
few_told (responses.Untagged ending code) s = tt
few_told responses.Bye s = tt
few_told (responses.Preauth code) s = tt
few_told responses.Go s = tt
few_told (responses.Capability words) s = tt
few_told (responses.Enabled words) s = tt
few_told (responses.Exists count) s = tt
few_told (responses.Fetch fetched) s = few_whole fetched.uid fetched.flags fetched.modseq s
few_told (responses.Vanished earlier uids) s = tt
few_told (responses.Found uids) s = tt
few_told responses.Other s = tt

few_rows : (told : List Response) → AllByRecursion IsSmall told → AllByRecursion HasFew (rows_in told)
few_rows [] a = tt
few_rows (r ∷ rs) a = all_append HasFew (option_to_list (told_row r)) (rows_in rs) (few_told r a.0) (few_rows rs a.1)

few_one : (uid : ℕ) (r : ℕ × Row) → HasFew r → (row : Row) → row_at uid (r ∷ []) ≡ Some row → AreFew row.flags
few_one uid r f row =
    cond_both (eqb r.0 uid) (Some r.1) None (λ (o : Option Row). o ≡ Some row → AreFew row.flags)
    (λ t e. subst (λ (v : Row). AreFew v.flags) (same_Some r.1 row e) f)
    (λ g e. absurd (cc))

few_or : (uid : ℕ) (r : ℕ × Row) (o : Option Row) → HasFew r → ((row : Row) → o ≡ Some row → AreFew row.flags) →
    (row : Row) → option_or o (row_at uid (r ∷ [])) ≡ Some row → AreFew row.flags
few_or uid r (Some v) f g row e = g row e
few_or uid r None f g row e = few_one uid r f row e

few_last : (uid : ℕ) (rows : List (ℕ × Row)) → AllByRecursion HasFew rows → (row : Row) → last_row uid rows ≡ Some row → AreFew row.flags
few_last uid [] a row e = absurd (cc)
few_last uid (r ∷ rs) a row e = few_or uid r (last_row uid rs) a.0 (few_last uid rs a.1) row (sym (last_first uid r rs) ∙ e)

-- where rows rise, what is found of each is its own
each_above : (floor : ℕ) (rows : List (ℕ × Row)) → RisesAbove floor rows →
    ((uid : ℕ) (row : Row) → floor < uid → row_at uid rows ≡ Some row → AreFew row.flags) → AllByRecursion HasFew rows
each_above floor [] a f = tt
each_above floor (r ∷ rs) a f = (
  f r.0 r.1 a.0 (cond-true (eqb r.0 r.0) (Some r.1) (row_at r.0 rs) (eq-eqb r.0 r.0 refl)),
  each_above r.0 rs a.1
      (λ uid row above e. f uid row (let first : floor < r.0 = a.0 in omega (arith, first, above))
      (cond-false (eqb r.0 uid) (Some r.1) (row_at uid rs) (ne_eqb r.0 uid (λ s. absurd (omega (arith, s, above)))) ∙ e)),
)

each_rising : (rows : List (ℕ × Row)) → Rises rows → ((uid : ℕ) (row : Row) → row_at uid rows ≡ Some row → AreFew row.flags) → AllByRecursion HasFew rows
each_rising [] a f = tt
each_rising (r ∷ rs) a f = (
  f r.0 r.1 (cond-true (eqb r.0 r.0) (Some r.1) (row_at r.0 rs) (eq-eqb r.0 r.0 refl)),
  each_above r.0 rs a
      (λ uid row above e. f uid row
      (cond-false (eqb r.0 uid) (Some r.1) (row_at uid rs) (ne_eqb r.0 uid (λ s. absurd (omega (arith, s, above)))) ∙ e)),
)

pub rows_small : (kept : Option Cache) (selected : Replies) (all : Option Replies) (delta : Delta) →
    AllByRecursion IsSmall (read_for_rows selected all).untagged → TellsDelta kept selected all delta →
    AllByRecursion (λ (row : ℕ × Row). AreFew row.1.flags) delta.rows
rows_small kept selected all delta s t =
    let told : List Response = behind_closed (read_for_rows selected all).untagged in
    let small : AllByRecursion IsSmall told =
    all_drop IsSmall (closed_len (read_for_rows selected all).untagged) (read_for_rows selected all).untagged s in
    each_rising delta.rows delta.rising (λ uid row e. few_last uid (rows_in told) (few_rows told small) row (sym (t.rows uid) ∙ e))
