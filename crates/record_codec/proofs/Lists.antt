-- What a reading of ranges and rows tells of them, whatever the numbers among the bytes are.
use Rattle.std.proofs.Common.{◌≡◌, ◌<◌, ◌≤◌, ℕ, zero, suc, ◌+◌, ◌^◌, false, not, List, [], ◌∷◌, ◌++◌, Ok, nat_le, nat_lt, subst}
use Rattle.std.specs.Int.{w32}
use Rattle.std.specs.List.{AllByRecursion}
use Rattle.std.proofs.lemmas.Bool.{and_parts, leb-true, ltb-true, not-true}
use Rattle.uid_sets.specs.declared.uid.UidRange.{UidRange}
use Rattle.uid_sets.specs.UidSet.{RisesAbove, IsCanonical}
use Rattle.mailbox_cache.specs.Rows.{has_uid, Rises, AreApart}
use Rattle.mailbox_cache.specs.Rows.{RisesAbove as RowsRise}
use Rattle.mailbox_cache.specs.declared.row.Row.{Row}
use Rattle.record_codec.specs.Reading.{Reading, ◌>>=◌, number_at, modseq_at, flags_at, many_at, low_at, high_at, range_at, behind_range}
use Rattle.record_codec.specs.Reading.{row_uid_at, row_at, row_uid}
use Rattle.record_codec.proofs.Taking.{bound, ok_same, tested}
use Rattle.record_codec.proofs.Items.{Each, uid_fits}

pub all_push : {A : Type 0} (P : A → Type 0) (xs : List A) (x : A) → AllByRecursion P xs → P x → AllByRecursion P (xs ++ x ∷ [])
all_push P [] x all p = (p, tt)
all_push P (y ∷ xs) x all p = (all.0, all_push P xs x all.1 p)

many_each : {A S : Type 0} (item : S → List ℕ → Reading A) (next : S → A → S) (K : S → A → Type 0)
    (each : (s : S) (bytes : List ℕ) (y : A × List ℕ) → item s bytes ≡ Ok y → K s y.0)
    (n : ℕ) (s : S) (bytes : List ℕ) (y : List A × List ℕ) → many_at item next n s bytes ≡ Ok y → Each K next s y.0
unfolding many_at
many_each {A = A} item next K each zero s bytes y is = subst (λ z. Each K next s z.0) (ok_same ([], bytes) y is) tt
many_each {A = A} item next K each (suc n) s bytes y is =
    let one = bound (item s bytes) (λ x. many_at item next n (next s x.0) x.1 >>= (λ others. Ok (x.0 ∷ others.0, others.1))) y is in
    let x = one.value in
    let rest = bound (many_at item next n (next s x.0) x.1) (λ others. Ok (x.0 ∷ others.0, others.1)) y one.later in
    subst (λ z. Each K next s z.0) (ok_same (x.0 ∷ rest.value.0, rest.value.1) y rest.later)
    (each s bytes x one.first, many_each item next K each n (next s x.0) x.1 rest.value rest.first)

-- ---- ranges

abbrev pub HighFits : UidRange → Type 0
HighFits range = range.high < 2 ^ 32

record IsOrdered (floor : ℕ) (range : UidRange) : Type 0 where
  above : floor < range.low
  ordered : range.low ≤ range.high

range_ordered : (floor : ℕ) (bytes : List ℕ) (y : UidRange × List ℕ) → range_at floor bytes ≡ Ok y → IsOrdered floor y.0
unfolding range_at low_at high_at
range_ordered floor bytes y is =
    let one = bound (low_at floor bytes) (λ low. high_at low.0 low.1 >>= (λ high. Ok (record { low = low.0; high = high.0 }, high.1))) y is in
    let low = one.value in
    let two = bound (high_at low.0 low.1) (λ high. Ok (record { low = low.0; high = high.0 }, high.1)) y one.later in
    let high = two.value in
    let l = tested (number_at w32 bytes) (λ n. nat_lt floor n) bytes low one.first in
    let h = tested (number_at w32 low.1) (λ n. nat_le low.0 n) low.1 high two.first in
    subst (λ (z : UidRange × List ℕ). IsOrdered floor z.0) (ok_same (record { low = low.0; high = high.0 }, high.1) y two.later)
    (record { above = ltb-true floor low.0 l.1; ordered = leb-true low.0 high.0 h.1 })

ranges_rise : (floor : ℕ) (ranges : List UidRange) → Each IsOrdered behind_range floor ranges → AllByRecursion HighFits ranges → RisesAbove floor ranges
ranges_rise floor [] each fit = tt
ranges_rise floor (range ∷ ranges) each fit = (
  record { above = each.0.above; ordered = each.0.ordered; fits = fit.0 },
  ranges_rise (range.high + 1) ranges each.1 fit.1,
)

-- the ranges that are read are those of a set
pub ranges_canonical : (n : ℕ) (bytes : List ℕ) (y : List UidRange × List ℕ) → many_at range_at behind_range n 0 bytes ≡ Ok y →
    AllByRecursion HighFits y.0 → IsCanonical y.0
ranges_canonical n bytes y is fit = ranges_rise 0 y.0 (many_each range_at behind_range IsOrdered range_ordered n 0 bytes y is) fit

-- ---- rows

record IsApart (vanished : List UidRange) (floor : ℕ) (r : ℕ × Row) : Type 0 where
  above : floor < r.0
  apart : has_uid vanished r.0 ≡ false

row_apart : (vanished : List UidRange) (floor : ℕ) (bytes : List ℕ) (y : (ℕ × Row) × List ℕ) → row_at vanished floor bytes ≡ Ok y → IsApart vanished floor y.0
unfolding row_at row_uid_at
row_apart vanished floor bytes y is =
    let one = bound (row_uid_at vanished floor bytes) (λ uid. modseq_at uid.1 >>=
    (λ modseq. flags_at 0 modseq.1 >>= (λ flags. Ok ((uid.0, record { flags = flags.0; modseq = modseq.0 }), flags.1)))) y is in
    let uid = one.value in
    let two = bound (modseq_at uid.1) (λ modseq. flags_at 0 modseq.1 >>=
    (λ flags. Ok ((uid.0, record { flags = flags.0; modseq = modseq.0 }), flags.1))) y one.later in
    let modseq = two.value in
    let three = bound (flags_at 0 modseq.1) (λ flags. Ok ((uid.0, record { flags = flags.0; modseq = modseq.0 }), flags.1)) y two.later in
    let flags = three.value in
    let t = tested (number_at w32 bytes) (uid_fits vanished floor) bytes uid one.first in
    let both = and_parts (nat_lt floor uid.0) (not (has_uid vanished uid.0)) t.1 in
    subst (λ (z : (ℕ × Row) × List ℕ). IsApart vanished floor z.0) (ok_same ((uid.0, record { flags = flags.0; modseq = modseq.0 }), flags.1) y three.later)
    (record { above = ltb-true floor uid.0 both.0; apart = not-true (has_uid vanished uid.0) both.1 })

rows_above : (vanished : List UidRange) (floor : ℕ) (rows : List (ℕ × Row)) → Each (IsApart vanished) row_uid floor rows → RowsRise floor rows
rows_above vanished floor [] each = tt
rows_above vanished floor (r ∷ rows) each = (each.0.above, rows_above vanished r.0 rows each.1)

rows_rise : (vanished : List UidRange) (floor : ℕ) (rows : List (ℕ × Row)) → Each (IsApart vanished) row_uid floor rows → Rises rows
rows_rise vanished floor [] each = tt
rows_rise vanished floor (r ∷ rows) each = rows_above vanished r.0 rows each.1

all_apart : (vanished : List UidRange) (floor : ℕ) (rows : List (ℕ × Row)) → Each (IsApart vanished) row_uid floor rows → AreApart vanished rows
all_apart vanished floor [] each = tt
all_apart vanished floor (r ∷ rows) each = (each.0.apart, all_apart vanished r.0 rows each.1)

-- the rows that are read rise, and aren't vanished
pub read_rise : (vanished : List UidRange) (n : ℕ) (bytes : List ℕ) (y : List (ℕ × Row) × List ℕ) →
    many_at (row_at vanished) row_uid n 0 bytes ≡ Ok y → Rises y.0
read_rise vanished n bytes y is = rows_rise vanished 0 y.0 (many_each (row_at vanished) row_uid (IsApart vanished) (row_apart vanished) n 0 bytes y is)

pub read_apart : (vanished : List UidRange) (n : ℕ) (bytes : List ℕ) (y : List (ℕ × Row) × List ℕ) →
    many_at (row_at vanished) row_uid n 0 bytes ≡ Ok y → AreApart vanished y.0
read_apart vanished n bytes y is = all_apart vanished 0 y.0 (many_each (row_at vanished) row_uid (IsApart vanished) (row_apart vanished) n 0 bytes y is)
