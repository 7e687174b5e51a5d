-- Rows that rise are one list for each finite map.
use Rattle.std.proofs.Common.{◌≡◌, ◌≢◌, ◌⊎◌, inl, inr, ℕ, ◌<◌, ◌≤◌, eqb, List, [], ◌∷◌, Option, Some, refl, sym, ◌∙◌, ap, subst, arith}
use Rattle.std.proofs.lemmas.Bool.{cases_lt, cond-true, cond-false, eq-eqb, ne_eqb}
use Rattle.std.proofs.lemmas.Option.{same_Some}
use Rattle.std.specs.Prelude.{Result, Ok}
use Rattle.uid_sets.proofs.Ranges.{one_form}
use Rattle.uid_sets.specs.UidSet.{IsCanonical}
use Rattle.uid_sets.specs.declared.uid.UidRange.{UidRange}
use Rattle.mailbox_cache.proofs.Counting.{absent}
use Rattle.mailbox_cache.proofs.Members.{has_uid-Decides}
use Rattle.mailbox_cache.proofs.Rising.{above_rises}
use Rattle.mailbox_cache.specs.Cache.{applied}
use Rattle.mailbox_cache.specs.Rows.{row_at, has_uid, put_rows, without_uids, Rises, RisesAbove}
use Rattle.mailbox_cache.specs.declared.cache.Cache.{Cache}
use Rattle.mailbox_cache.specs.declared.delta.Delta.{Delta}
use Rattle.mailbox_cache.specs.declared.row.Row.{Row}
use Rattle.imap_model.specs.declared.replies.Replies.{Replies}
use Rattle.qresync_core.specs.Laws.{AreSame}
use Rattle.qresync_core.specs.Resync.{TellsDelta}
use Rattle.qresync_core.specs.ToldCodes.{told_codes}
use Rattle.qresync_core.specs.declared.codes.Codes.{Codes}
use Rattle.qresync_core.specs.declared.fault.CodeFault.{CodeFault}

its_row : (r : ℕ × Row) (rows : List (ℕ × Row)) → row_at r.0 (r ∷ rows) ≡ Some r.1
its_row r rows = cond-true (eqb r.0 r.0) (Some r.1) (row_at r.0 rows) (eq-eqb r.0 r.0 refl)

other_row : (uid : ℕ) (r : ℕ × Row) (rows : List (ℕ × Row)) → r.0 ≢ uid → row_at uid (r ∷ rows) ≡ row_at uid rows
other_row uid r rows n = cond-false (eqb r.0 uid) (Some r.1) (row_at uid rows) (ne_eqb r.0 uid n)

-- a row isn't found where all are above it
lower_row : (x y : ℕ × Row) (xs ys : List (ℕ × Row)) → RisesAbove y.0 ys → x.0 < y.0 → row_at x.0 (x ∷ xs) ≡ row_at x.0 (y ∷ ys) → ⊥
lower_row x y xs ys a l e =
    let none = other_row x.0 y ys (λ s. absurd (omega (arith, s, l))) ∙ absent x.0 y.0 ys (omega (arith, l)) a in
    let some = its_row x xs in cc

same_first : (x y : ℕ × Row) (xs ys : List (ℕ × Row)) → RisesAbove x.0 xs → RisesAbove y.0 ys → ((uid : ℕ) → row_at uid (x ∷ xs) ≡ row_at uid (y ∷ ys)) →
    (x.0 < y.0) ⊎ (y.0 ≤ x.0) → (y.0 < x.0) ⊎ (x.0 ≤ y.0) → x.0 ≡ y.0
same_first x y xs ys a b e (inl l) m = absurd (lower_row x y xs ys b l (e x.0))
same_first x y xs ys a b e (inr g) (inl l) = absurd (lower_row y x ys xs a l (sym (e y.0)))
same_first x y xs ys a b e (inr g) (inr h) = omega (arith, g, h)

rest_same : (x y : ℕ × Row) (xs ys : List (ℕ × Row)) → x.0 ≡ y.0 → RisesAbove x.0 xs → RisesAbove y.0 ys →
    ((uid : ℕ) → row_at uid (x ∷ xs) ≡ row_at uid (y ∷ ys)) → (uid : ℕ) → (x.0 < uid) ⊎ (uid ≤ x.0) → row_at uid xs ≡ row_at uid ys
rest_same x y xs ys s a b e uid (inl l) =
    sym (other_row uid x xs (λ t. absurd (omega (arith, t, l)))) ∙ e uid ∙ other_row uid y ys (λ t. absurd (omega (arith, t, l, s)))
rest_same x y xs ys s a b e uid (inr l) = absent uid x.0 xs l a ∙ sym (absent uid y.0 ys (omega (arith, l, s)) b)

pair_same : (x y : ℕ × Row) → x.0 ≡ y.0 → x.1 ≡ y.1 → x ≡ y
pair_same x y e f = subst (λ (v : Row). x ≡ (y.0, v)) f (subst (λ (n : ℕ). x ≡ (n, x.1)) e refl)

pub one_map : (xs ys : List (ℕ × Row)) → Rises xs → Rises ys → ((uid : ℕ) → row_at uid xs ≡ row_at uid ys) → xs ≡ ys
one_map [] [] a b e = refl
one_map [] (y ∷ ys) a b e = let some = its_row y ys in let none = e y.0 in absurd (cc)
one_map (x ∷ xs) [] a b e = let some = its_row x xs in let none = e x.0 in absurd (cc)
one_map (x ∷ xs) (y ∷ ys) a b e =
    let same : x.0 ≡ y.0 = same_first x y xs ys a b e (cases_lt x.0 y.0) (cases_lt y.0 x.0) in
    let rest : xs ≡ ys =
    one_map xs ys (above_rises x.0 xs a) (above_rises y.0 ys b) (λ uid. rest_same x y xs ys same a b e uid (cases_lt x.0 uid)) in
    let left = its_row x xs in
    let right = its_row y ys in
    let found = e x.0 in
    let value : x.1 ≡ y.1 =
    same_Some x.1 y.1 (sym left ∙ found ∙ ap (λ (u : ℕ). row_at u (y ∷ ys)) same ∙ right) in
    let both = pair_same x y same value in cc

-- two sets with one test of a UID are one
one_set : (left right : List UidRange) → IsCanonical left → IsCanonical right → ((uid : ℕ) → has_uid left uid ≡ has_uid right uid) → left ≡ right
one_set left right l r e =
    one_form 0 left right l r
    (λ uid. (
      λ m. (has_uid-Decides right uid).0 (sym (e uid) ∙ (has_uid-Decides left uid).1 m),
      λ m. (has_uid-Decides left uid).0 (e uid ∙ (has_uid-Decides right uid).1 m),
    ))

one_answer : (x y : Codes) (r : Result Codes CodeFault) → r ≡ Ok x → r ≡ Ok y → x ≡ y
one_answer x y r p q = cc

pub one_delta : (kept : Option Cache) (selected : Replies) (all : Option Replies) (left right : Delta) →
    IsCanonical left.vanished → IsCanonical right.vanished →
    TellsDelta kept selected all left → TellsDelta kept selected all right → AreSame left right
one_delta kept selected all left right l r t u =
    let codes : t.codes ≡ u.codes = one_answer t.codes u.codes (told_codes selected) t.told u.told in
    record {
      whole = t.whole ∙ sym u.whole;
      validity = t.validity ∙ ap (λ (c : Codes). c.validity) codes ∙ sym u.validity;
      highest = t.highest ∙ ap (λ (c : Codes). c.highest) codes ∙ sym u.highest;
      uidnext = t.uidnext ∙ ap (λ (c : Codes). c.uidnext) codes ∙ sym u.uidnext;
      vanished = one_set left.vanished right.vanished l r (λ uid. t.vanished uid ∙ sym (u.vanished uid));
      rows = one_map left.rows right.rows left.rising right.rising (λ uid. t.rows uid ∙ sym (u.rows uid));
    }

none_gone : (rows : List (ℕ × Row)) → without_uids [] rows ≡ rows
none_gone [] = refl
none_gone (r ∷ rs) = ap (λ (l : List (ℕ × Row)). r ∷ l) (none_gone rs)

-- a delta that tells nothing leaves the rows
pub untouched : (cache : Cache) (delta : Delta) → delta.rows ≡ [] → delta.vanished ≡ [] → (applied cache delta).rows ≡ cache.rows
untouched cache delta r v =
    ap (λ (l : List (ℕ × Row)). put_rows l (without_uids delta.vanished cache.rows)) r
    ∙ ap (λ (us : List UidRange). without_uids us cache.rows) v ∙ none_gone cache.rows
