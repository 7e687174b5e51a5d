-- Items one behind the other: what is read is spelled so, and what is spelled is read.
use Rattle.std.proofs.Common.{◌≡◌, ◌≢◌, ◌<◌, ◌≤◌, ℕ, zero, suc, ◌+◌, ◌^◌, Bool, true, false, not, ◌&&◌, ◌||◌, List, [], ◌∷◌, ◌++◌, length}
use Rattle.std.proofs.Common.{Option, Some, None, Result, Ok, cond, nat_le, nat_lt, is_none, refl, sym, ap, subst, ◌∙◌, append_assoc}
use Rattle.std.proofs.Common.{arith}
use Rattle.std.specs.Int.{w16, w32, w64, to_be_bytes}
use Rattle.std.specs.List.{flat_map, list_any, AllByRecursion}
use Rattle.std.specs.Str.{bytes_eq}
use Rattle.std.specs.Ordering.{match_ordering}
use Rattle.std.specs.declared.cmp.Ordering.TheVariants.{Less}
use Rattle.std.proofs.lemmas.Bool.{and_parts, leb-true, le-leb, le-ltb, ltb-true, lt-ltb, not-true, false_from_ne_true}
use Rattle.std.proofs.lemmas.List.Concat.{flat_map-cons}
use Rattle.std.proofs.lemmas.List.Folds.{list_any-append}
use Rattle.std.proofs.lemmas.Slice.Eq.{bytes_eq-Decides}
use Rattle.flag_set.specs.declared.flag_fault.TheConstants.{MAX_FLAG}
use Rattle.flag_set.specs.declared.flag_fault.FlagFault.{FlagFault}
use Rattle.flag_set.specs.declared.flag_fault.FlagFault.TheVariants.{TooLong, BadFlag}
use Rattle.flag_set.specs.Flag.{refusal, is_flag, misfit}
use Rattle.flag_set.specs.FlagKey.{key_of, IsKey}
use Rattle.flag_set.specs.FlagSet.{order, AllKeys, IsRising, IsFlagSet}
use Rattle.flag_set.proofs.Keys.{key_is}
use Rattle.flag_set.proofs.Order.{below_all}
use Rattle.mail_base.specs.BoxName.{IsBoxName}
use Rattle.mail_base.specs.declared.limits.TheConstants.{MAX_ROWS}
use Rattle.uid_sets.specs.declared.uid.UidRange.{UidRange}
use Rattle.uid_sets.specs.UidSet.{IsRange, RisesAbove, IsCanonical}
use Rattle.mailbox_cache.specs.Rows.{has_uid, Rises, AreApart}
use Rattle.mailbox_cache.specs.Rows.{RisesAbove as RowsRise}
use Rattle.mailbox_cache.specs.declared.row.Row.{Row}
use Rattle.action_queue.specs.Events.{IsAbsent, AreDistinct, AreNames}
use Rattle.action_queue.specs.Writable.{HaveFewFlags}
use Rattle.record_codec.specs.Fields.{counted, flag_field, range_field, row_field}
use Rattle.record_codec.specs.Bodies.{range_fields, row_fields}
use Rattle.record_codec.specs.Spelling.{IsKeptRow}
use Rattle.record_codec.specs.Reading.{Reading, ◌>>=◌, passing, AreBytes, byte_at, number_at, modseq_at, counted_at, name_at, many_at}
use Rattle.record_codec.specs.Reading.{stands_behind, is_next_key, key_at, this_key, flags_at, low_at, high_at, range_at, behind_range}
use Rattle.record_codec.specs.Reading.{vanished_at, row_uid_at, row_at, row_uid, row_list_at, new_name_at, and_name, name_list_at}
use Rattle.record_codec.proofs.Counts.{few_ranges}
use Rattle.record_codec.proofs.Ids.{and_true}
use Rattle.record_codec.proofs.KeyOrder.{less_from}
use Rattle.record_codec.proofs.Taking.{bound, then_by, passed, passes, tested, tests, Reads, reads_same, sound_by, knowing, lettered}
use Rattle.record_codec.proofs.Taking.{IsShort, short_reads, number_reads, modseq_reads, counted_reads, name_reads, byte_read, short_read}
use Rattle.record_codec.proofs.Taking.{number_read, modseq_read, counted_read, name_read}

-- ---- items of any kind

-- each item fits the state that those before it made
abbrev pub Each : {A S : Type 0} → (S → A → Type 0) → (S → A → S) → S → List A → Type 0
Each K next s [] = Unit {0}
Each K next s (x ∷ xs) = K s x × Each K next (next s x) xs

abbrev pub AreEach : {A S : Type 0} → (S → A → Type 0) → (S → A → S) → ℕ → S → List A → Type 0
AreEach K next n s xs = (length xs ≡ n) × Each K next s xs

pub many_reads : {A S : Type 0} (item : S → List ℕ → Reading A) (next : S → A → S) (f : A → List ℕ) (K : S → A → Type 0)
    (each : (s : S) (bytes : List ℕ) (y : A × List ℕ) → AreBytes bytes → item s bytes ≡ Ok y → Reads f (K s) bytes y)
    (n : ℕ) (s : S) (bytes : List ℕ) (y : List A × List ℕ) → AreBytes bytes → many_at item next n s bytes ≡ Ok y
    → Reads (flat_map f) (AreEach K next n s) bytes y
unfolding many_at
many_reads {A = A} item next f K each zero s bytes y all is =
    reads_same (flat_map f) (AreEach K next 0 s) bytes ([], bytes) y is (sound_by [] bytes bytes (AreEach {A = A} K next 0 s []) all refl (refl, tt))
many_reads {A = A} item next f K each (suc n) s bytes y all is =
    let one = bound (item s bytes) (λ x. many_at item next n (next s x.0) x.1 >>= (λ others. Ok (x.0 ∷ others.0, others.1))) y is in
    let x = one.value in
    let rest = bound (many_at item next n (next s x.0) x.1) (λ others. Ok (x.0 ∷ others.0, others.1)) y one.later in
    let others = rest.value in
    let first = each s bytes x all one.first in
    let more = many_reads item next f K each n (next s x.0) x.1 others first.clean rest.first in
    let size : length others.0 ≡ n = more.kept.0 in
    reads_same (flat_map f) (AreEach K next (suc n) s) bytes (x.0 ∷ others.0, others.1) y rest.later
    (sound_by (flat_map f (x.0 ∷ others.0)) bytes others.1 (AreEach K next (suc n) s (x.0 ∷ others.0)) all
    (first.is ∙ ap (λ (t : List ℕ). f x.0 ++ t) more.is ∙ sym (append_assoc (f x.0) (flat_map f others.0) others.1)
    ∙ ap (λ (t : List ℕ). t ++ others.1) (sym (flat_map-cons f x.0 others.0)))
    (omega arith, (first.kept, more.kept.1)))

pub many_read : {A S : Type 0} (item : S → List ℕ → Reading A) (next : S → A → S) (f : A → List ℕ) (K : S → A → Type 0)
    (each : (s : S) (x : A) (rest : List ℕ) → K s x → item s (f x ++ rest) ≡ Ok (x, rest))
    (s : S) (xs : List A) (rest : List ℕ) → Each K next s xs → many_at item next (length xs) s (flat_map f xs ++ rest) ≡ Ok (xs, rest)
unfolding many_at
many_read item next f K each s [] rest all = refl
many_read item next f K each s (x ∷ xs) rest all =
    let more = λ (y : _ × List ℕ). many_at item next (length xs) (next s y.0) y.1 >>= (λ others. Ok (y.0 ∷ others.0, others.1)) in
    let parted : flat_map f (x ∷ xs) ++ rest ≡ f x ++ (flat_map f xs ++ rest) =
    ap (λ (t : List ℕ). t ++ rest) (flat_map-cons f x xs) ∙ append_assoc (f x) (flat_map f xs) rest in
    ap (λ (bytes : List ℕ). item s bytes >>= more) parted
    ∙ then_by (item s (f x ++ (flat_map f xs ++ rest))) (x, flat_map f xs ++ rest) more (Ok (x ∷ xs, rest)) (each s x (flat_map f xs ++ rest) all.0)
    (then_by (many_at item next (length xs) (next s x) (flat_map f xs ++ rest)) (xs, rest) (λ others. Ok (x ∷ others.0, others.1))
    (Ok (x ∷ xs, rest)) (many_read item next f K each (next s x) xs rest all.1) refl)

-- ---- flags

abbrev pub IsNextKey : Option (List ℕ) → List ℕ → Type 0
IsNextKey before key = IsKey key × (stands_behind before key ≡ true)

no_refusal : (o : Option FlagFault) → is_none o ≡ true → o ≡ None
no_refusal None is = refl
no_refusal (Some fault) is = absurd (cc)

next_key : (before : Option (List ℕ)) (key : List ℕ) → is_next_key before key ≡ true → IsNextKey before key
next_key before key is =
    let outer = and_parts (is_none (refusal key)) (bytes_eq (key_of key) key && stands_behind before key) is in
    let inner = and_parts (bytes_eq (key_of key) key) (stands_behind before key) outer.1 in
    (subst IsKey ((bytes_eq-Decides (key_of key) key).0 inner.0) (key_is key (no_refusal (refusal key) outer.0)), inner.1)

key_accepted : (key : List ℕ) → IsKey key → refusal key ≡ None
key_accepted key k =
    ap (λ t. cond t (Some (TooLong (length key))) (cond (is_flag key) None (Some (BadFlag (misfit key))))) (le-ltb MAX_FLAG (length key) k.short)
    ∙ ap (λ t. cond t None (Some (BadFlag (misfit key)))) k.flag

is_next : (before : Option (List ℕ)) (key : List ℕ) → IsNextKey before key → is_next_key before key ≡ true
is_next before key k =
    and_true (is_none (refusal key)) (bytes_eq (key_of key) key && stands_behind before key) (ap is_none (key_accepted key k.0))
    (and_true (bytes_eq (key_of key) key) (stands_behind before key) ((bytes_eq-Decides (key_of key) key).1 k.0.lower) k.1)

key_reads : (before : Option (List ℕ)) (bytes : List ℕ) (y : List ℕ × List ℕ) → AreBytes bytes → key_at before bytes ≡ Ok y →
    Reads counted (IsNextKey before) bytes y
unfolding key_at
key_reads before bytes y all is =
    let told = tested (counted_at bytes) (is_next_key before) bytes y is in
    knowing (counted y.0) bytes y.1 (IsShort y.0) (IsNextKey before y.0) (counted_reads bytes y all told.0) (λ short. next_key before y.0 told.1)

key_read : (before : Option (List ℕ)) (key rest : List ℕ) → IsNextKey before key → key_at before (counted key ++ rest) ≡ Ok (key, rest)
unfolding key_at
key_read before key rest k = tests (counted_at (counted key ++ rest)) (is_next_key before) (counted key ++ rest) (key, rest)
    (counted_read key rest) (is_next before key k)

rises_from : (before : List ℕ) (keys : List (List ℕ)) → Each IsNextKey this_key (Some before) keys → AllKeys (λ later. order before later ≡ Less) keys
rises_from before [] each = tt
rises_from before (key ∷ keys) each =
    let less = less_from before key each.0.1 in
    (less, below_all before key keys less (rises_from key keys each.1))

keys_rise : (before : Option (List ℕ)) (keys : List (List ℕ)) → Each IsNextKey this_key before keys → IsRising keys
keys_rise before [] each = tt
keys_rise before (key ∷ keys) each = (rises_from key keys each.1, keys_rise (Some key) keys each.1)

keys_all : (before : Option (List ℕ)) (keys : List (List ℕ)) → Each IsNextKey this_key before keys → AllKeys IsKey keys
keys_all before [] each = tt
keys_all before (key ∷ keys) each = (each.0.0, keys_all (Some key) keys each.1)

keys_set : (keys : List (List ℕ)) → Each IsNextKey this_key None keys → IsFlagSet keys
keys_set keys each = record { rising = keys_rise None keys each; flags = keys_all None keys each }

behind_first : (before key : List ℕ) → order before key ≡ Less → stands_behind (Some before) key ≡ true
behind_first before key less = ap (λ o. match_ordering o true false false) less

each_behind : (before : List ℕ) (keys : List (List ℕ)) → AllKeys (λ later. order before later ≡ Less) keys → IsRising keys →
    AllKeys IsKey keys → Each IsNextKey this_key (Some before) keys
each_behind before [] below rising keys = tt
each_behind before (key ∷ rest) below rising keys = ((keys.0, behind_first before key below.0), each_behind key rest rising.0 rising.1 keys.1)

each_key : (keys : List (List ℕ)) → IsFlagSet keys → Each IsNextKey this_key None keys
each_key [] set = tt
each_key (key ∷ rest) set = ((set.flags.0, refl), each_behind key rest set.rising.0 set.rising.1 set.flags.1)

-- a set of flags of at least so many keys, and at most 1,024
pub record IsKeptFlags (least : ℕ) (keys : List (List ℕ)) : Type 0 where
  pub set : IsFlagSet keys
  pub some : least ≤ length keys
  pub few : length keys ≤ 1024

abbrev flag_count : ℕ → ℕ → Bool
flag_count least n = nat_le least n && nat_le n 1024

-- a count that is tested, and what is read behind it
record Counted (A B : Type 0) (m : Reading A) (test : A → Bool) (g : A × List ℕ → Result B ℕ) (y : B) : Type 0 where
  count : A × List ℕ
  first : m ≡ Ok count
  fits : test count.0 ≡ true
  later : g count ≡ Ok y

counting : {A B : Type 0} (m : Reading A) (test : A → Bool) (bytes : List ℕ) (g : A × List ℕ → Result B ℕ) (y : B) →
    (m >>= (λ x. passing (test x.0) bytes x >>= g)) ≡ Ok y → Counted A B m test g y
counting m test bytes g y is =
    let outer = bound m (λ x. passing (test x.0) bytes x >>= g) y is in
    let inner = bound (passing (test outer.value.0) bytes outer.value) g y outer.later in
    let told = passed (test outer.value.0) bytes outer.value inner.value inner.first in
    record { count = outer.value; first = outer.first; fits = told.0; later = ap g told.1 ∙ inner.later }

counts : {A B : Type 0} (m : Reading A) (test : A → Bool) (bytes : List ℕ) (g : A × List ℕ → Result B ℕ) (x : A × List ℕ)
    (y : Result B ℕ) → m ≡ Ok x → test x.0 ≡ true → g x ≡ y → (m >>= (λ x. passing (test x.0) bytes x >>= g)) ≡ y
counts m test bytes g x y is holds later =
    then_by m x (λ x. passing (test x.0) bytes x >>= g) y is (then_by (passing (test x.0) bytes x) x g y (passes (test x.0) bytes x holds) later)

pub flags_reads : (least : ℕ) (bytes : List ℕ) (y : List (List ℕ) × List ℕ) → AreBytes bytes → flags_at least bytes ≡ Ok y →
    Reads flag_field (IsKeptFlags least) bytes y
unfolding flags_at
flags_reads least bytes y all is =
    let c = counting (number_at w16 bytes) (flag_count least) bytes (λ fit. many_at key_at this_key fit.0 None fit.1) y is in
    let n = short_reads bytes c.count all c.first in
    let keys = many_reads key_at this_key counted IsNextKey key_reads c.count.0 None c.count.1 y n.clean c.later in
    let both = and_parts (nat_le least c.count.0) (nat_le c.count.0 1024) c.fits in
    let size : length y.0 ≡ c.count.0 = keys.kept.0 in
    let low : least ≤ c.count.0 = leb-true least c.count.0 both.0 in
    let high : c.count.0 ≤ 1024 = leb-true c.count.0 1024 both.1 in
    sound_by (flag_field y.0) bytes y.1 (IsKeptFlags least y.0) all
    (n.is ∙ ap (λ (t : List ℕ). to_be_bytes w16 c.count.0 ++ t) keys.is ∙ ap (λ (n : ℕ). to_be_bytes w16 n ++ (flat_map counted y.0 ++ y.1)) (sym size))
    (record { set = keys_set y.0 keys.kept.1; some = omega arith; few = omega arith })

pub flags_read : (least : ℕ) (keys : List (List ℕ)) (rest : List ℕ) → IsKeptFlags least keys → flags_at least (flag_field keys ++ rest) ≡ Ok (keys, rest)
unfolding flags_at
flags_read least keys rest kept =
    let few : length keys ≤ 1024 = kept.few in
    counts (number_at w16 (flag_field keys ++ rest)) (flag_count least) (flag_field keys ++ rest)
    (λ fit. many_at key_at this_key fit.0 None fit.1) (length keys, flat_map counted keys ++ rest) (Ok (keys, rest))
    (short_read (length keys) (flat_map counted keys ++ rest) (omega arith))
    (and_true (nat_le least (length keys)) (nat_le (length keys) 1024) (le-leb least (length keys) kept.some) (le-leb (length keys) 1024 kept.few))
    (many_read key_at this_key counted IsNextKey key_read None keys rest (each_key keys kept.set))

-- ---- ranges

range_reads : (floor : ℕ) (bytes : List ℕ) (y : UidRange × List ℕ) → AreBytes bytes → range_at floor bytes ≡ Ok y → Reads range_field (IsRange floor) bytes y
unfolding range_at low_at high_at
range_reads floor bytes y all is =
    let one = bound (low_at floor bytes) (λ low. high_at low.0 low.1 >>= (λ high. Ok (record { low = low.0; high = high.0 }, high.1))) y is in
    let low = one.value in
    let two = bound (high_at low.0 low.1) (λ high. Ok (record { low = low.0; high = high.0 }, high.1)) y one.later in
    let high = two.value in
    let l = tested (number_at w32 bytes) (λ n. nat_lt floor n) bytes low one.first in
    let h = tested (number_at w32 low.1) (λ n. nat_le low.0 n) low.1 high two.first in
    let first = number_reads bytes low all l.0 in
    let second = number_reads low.1 high first.clean h.0 in
    reads_same range_field (IsRange floor) bytes (record { low = low.0; high = high.0 }, high.1) y two.later
    (sound_by (range_field (record { low = low.0; high = high.0 })) bytes high.1 (IsRange floor (record { low = low.0; high = high.0 })) all
    (first.is ∙ ap (λ (t : List ℕ). to_be_bytes w32 low.0 ++ t) second.is)
    (record { above = ltb-true floor low.0 l.1; ordered = leb-true low.0 high.0 h.1; fits = second.kept }))

range_read : (floor : ℕ) (range : UidRange) (rest : List ℕ) → IsRange floor range → range_at floor (range_field range ++ rest) ≡ Ok (range, rest)
unfolding range_at low_at high_at
range_read floor range rest kept =
    let ordered : range.low ≤ range.high = kept.ordered in
    let fits : range.high < 2 ^ 32 = kept.fits in
    then_by (low_at floor (range_field range ++ rest)) (range.low, to_be_bytes w32 range.high ++ rest)
    (λ low. high_at low.0 low.1 >>= (λ high. Ok (record { low = low.0; high = high.0 }, high.1))) (Ok (range, rest))
    (tests (number_at w32 (range_field range ++ rest)) (λ n. nat_lt floor n) (range_field range ++ rest)
    (range.low, to_be_bytes w32 range.high ++ rest) (number_read range.low (to_be_bytes w32 range.high ++ rest) (omega arith))
    (lt-ltb floor range.low kept.above))
    (then_by (high_at range.low (to_be_bytes w32 range.high ++ rest)) (range.high, rest)
    (λ high. Ok (record { low = range.low; high = high.0 }, high.1)) (Ok (range, rest))
    (tests (number_at w32 (to_be_bytes w32 range.high ++ rest)) (λ n. nat_le range.low n) (to_be_bytes w32 range.high ++ rest)
    (range.high, rest) (number_read range.high rest fits) (le-leb range.low range.high ordered))
    refl)

ranges_rise : (floor : ℕ) (ranges : List UidRange) → Each IsRange behind_range floor ranges → RisesAbove floor ranges
ranges_rise floor [] each = tt
ranges_rise floor (range ∷ ranges) each = (each.0, ranges_rise (range.high + 1) ranges each.1)

each_range : (floor : ℕ) (ranges : List UidRange) → RisesAbove floor ranges → Each IsRange behind_range floor ranges
each_range floor [] rises = tt
each_range floor (range ∷ ranges) rises = (rises.0, each_range (range.high + 1) ranges rises.1)

pub vanished_reads : (bytes : List ℕ) (y : List UidRange × List ℕ) → AreBytes bytes → vanished_at bytes ≡ Ok y → Reads range_fields IsCanonical bytes y
unfolding vanished_at range_fields
vanished_reads bytes y all is =
    let one = bound (number_at w32 bytes) (λ count. many_at range_at behind_range count.0 0 count.1) y is in
    let count = one.value in
    let n = number_reads bytes count all one.first in
    let ranges = many_reads range_at behind_range range_field IsRange range_reads count.0 0 count.1 y n.clean one.later in
    let size : length y.0 ≡ count.0 = ranges.kept.0 in
    sound_by (to_be_bytes w32 (length y.0) ++ flat_map range_field y.0) bytes y.1 (IsCanonical y.0) all
    (n.is ∙ ap (λ (t : List ℕ). to_be_bytes w32 count.0 ++ t) ranges.is ∙ ap (λ (n : ℕ). to_be_bytes w32 n ++ (flat_map range_field y.0 ++ y.1)) (sym size))
    (ranges_rise 0 y.0 ranges.kept.1)

pub vanished_read : (ranges : List UidRange) (rest : List ℕ) → IsCanonical ranges → vanished_at (range_fields ranges ++ rest) ≡ Ok (ranges, rest)
unfolding vanished_at range_fields
vanished_read ranges rest canonical =
    then_by (number_at w32 (to_be_bytes w32 (length ranges) ++ (flat_map range_field ranges ++ rest)))
    (length ranges, flat_map range_field ranges ++ rest) (λ count. many_at range_at behind_range count.0 0 count.1) (Ok (ranges, rest))
    (number_read (length ranges) (flat_map range_field ranges ++ rest) (few_ranges ranges canonical))
    (many_read range_at behind_range range_field IsRange range_read 0 ranges rest (each_range 0 ranges canonical))

-- ---- rows

pub record IsNextRow (vanished : List UidRange) (floor : ℕ) (r : ℕ × Row) : Type 0 where
  pub kept : IsKeptRow r
  pub above : floor < r.0
  pub apart : has_uid vanished r.0 ≡ false
  pub few : length r.1.flags ≤ 1024

abbrev pub uid_fits : List UidRange → ℕ → ℕ → Bool
uid_fits vanished floor n = nat_lt floor n && not (has_uid vanished n)

row_reads : (vanished : List UidRange) (floor : ℕ) (bytes : List ℕ) (y : (ℕ × Row) × List ℕ) → AreBytes bytes →
    row_at vanished floor bytes ≡ Ok y → Reads row_field (IsNextRow vanished floor) bytes y
unfolding row_at row_uid_at row_field
row_reads vanished floor bytes y all is =
    let one = bound (row_uid_at vanished floor bytes) (λ uid. modseq_at uid.1 >>=
    (λ modseq. flags_at 0 modseq.1 >>= (λ flags. Ok ((uid.0, record { flags = flags.0; modseq = modseq.0 }), flags.1)))) y is in
    let uid = one.value in
    let two = bound (modseq_at uid.1) (λ modseq. flags_at 0 modseq.1 >>=
    (λ flags. Ok ((uid.0, record { flags = flags.0; modseq = modseq.0 }), flags.1))) y one.later in
    let modseq = two.value in
    let three = bound (flags_at 0 modseq.1) (λ flags. Ok ((uid.0, record { flags = flags.0; modseq = modseq.0 }), flags.1)) y two.later in
    let flags = three.value in
    let t = tested (number_at w32 bytes) (uid_fits vanished floor) bytes uid one.first in
    let both = and_parts (nat_lt floor uid.0) (not (has_uid vanished uid.0)) t.1 in
    let u = number_reads bytes uid all t.0 in
    let m = modseq_reads uid.1 modseq u.clean two.first in
    let f = flags_reads 0 modseq.1 flags m.clean three.first in
    let r : ℕ × Row = (uid.0, record { flags = flags.0; modseq = modseq.0 }) in
    let above : floor < uid.0 = ltb-true floor uid.0 both.0 in
    reads_same row_field (IsNextRow vanished floor) bytes (r, flags.1) y three.later
    (sound_by (to_be_bytes w32 uid.0 ++ to_be_bytes w64 modseq.0 ++ flag_field flags.0) bytes flags.1 (IsNextRow vanished floor r) all
    (u.is ∙ ap (λ (t : List ℕ). to_be_bytes w32 uid.0 ++ t) (m.is ∙ ap (λ (t : List ℕ). to_be_bytes w64 modseq.0 ++ t) f.is))
    (record {
      kept = record { uid = (omega arith, u.kept); modseq = m.kept; flags = f.kept.set };
      above = above;
      apart =
          not-true (has_uid vanished uid.0) both.1;
      few = f.kept.few;
    }))

row_read : (vanished : List UidRange) (floor : ℕ) (r : ℕ × Row) (rest : List ℕ) → IsNextRow vanished floor r →
    row_at vanished floor (row_field r ++ rest) ≡ Ok (r, rest)
unfolding row_at row_uid_at row_field
row_read vanished floor r rest kept =
    let bytes = to_be_bytes w32 r.0 ++ (to_be_bytes w64 r.1.modseq ++ (flag_field r.1.flags ++ rest)) in
    then_by (row_uid_at vanished floor bytes) (r.0, to_be_bytes w64 r.1.modseq ++ (flag_field r.1.flags ++ rest))
    (λ uid. modseq_at uid.1 >>= (λ modseq. flags_at 0 modseq.1 >>=
    (λ flags. Ok ((uid.0, record { flags = flags.0; modseq = modseq.0 }), flags.1)))) (Ok (r, rest))
    (tests (number_at w32 bytes) (uid_fits vanished floor) bytes (r.0, to_be_bytes w64 r.1.modseq ++ (flag_field r.1.flags ++ rest))
    (number_read r.0 (to_be_bytes w64 r.1.modseq ++ (flag_field r.1.flags ++ rest)) kept.kept.uid.1)
    (and_true (nat_lt floor r.0) (not (has_uid vanished r.0)) (lt-ltb floor r.0 kept.above) (ap not kept.apart)))
    (then_by (modseq_at (to_be_bytes w64 r.1.modseq ++ (flag_field r.1.flags ++ rest))) (r.1.modseq, flag_field r.1.flags ++ rest)
    (λ modseq. flags_at 0 modseq.1 >>= (λ flags. Ok ((r.0, record { flags = flags.0; modseq = modseq.0 }), flags.1))) (Ok (r, rest))
    (modseq_read r.1.modseq (flag_field r.1.flags ++ rest) kept.kept.modseq)
    (then_by (flags_at 0 (flag_field r.1.flags ++ rest)) (r.1.flags, rest)
    (λ flags. Ok ((r.0, record { flags = flags.0; modseq = r.1.modseq }), flags.1)) (Ok (r, rest))
    (flags_read 0 r.1.flags rest (record { set = kept.kept.flags; some = omega arith; few = kept.few })) refl))

module _ (vanished : List UidRange) where
  rows_rise : (floor : ℕ) (rows : List (ℕ × Row)) → Each (IsNextRow vanished) row_uid floor rows → RowsRise floor rows
  rows_rise floor [] each = tt
  rows_rise floor (r ∷ rows) each = (each.0.above, rows_rise r.0 rows each.1)

  rows_apart : (floor : ℕ) (rows : List (ℕ × Row)) → Each (IsNextRow vanished) row_uid floor rows → AreApart vanished rows
  rows_apart floor [] each = tt
  rows_apart floor (r ∷ rows) each = (each.0.apart, rows_apart r.0 rows each.1)

  rows_kept : (floor : ℕ) (rows : List (ℕ × Row)) → Each (IsNextRow vanished) row_uid floor rows → AllByRecursion IsKeptRow rows
  rows_kept floor [] each = tt
  rows_kept floor (r ∷ rows) each = (each.0.kept, rows_kept r.0 rows each.1)

  rows_few : (floor : ℕ) (rows : List (ℕ × Row)) → Each (IsNextRow vanished) row_uid floor rows → HaveFewFlags rows
  rows_few floor [] each = tt
  rows_few floor (r ∷ rows) each = (each.0.few, rows_few r.0 rows each.1)

  each_row : (floor : ℕ) (rows : List (ℕ × Row)) → RowsRise floor rows → AreApart vanished rows → AllByRecursion IsKeptRow rows →
      HaveFewFlags rows → Each (IsNextRow vanished) row_uid floor rows
  each_row floor [] rises apart kept few = tt
  each_row floor (r ∷ rows) rises apart kept few = (
    record { kept = kept.0; above = rises.0; apart = apart.0; few = few.0 },
    each_row r.0 rows rises.1 apart.1 kept.1 few.1,
  )

from_first : (rows : List (ℕ × Row)) → AllByRecursion IsKeptRow rows → Rises rows → RowsRise 0 rows
from_first [] kept rises = tt
from_first (r ∷ rows) kept rises = (kept.0.uid.0, rises)

to_first : (rows : List (ℕ × Row)) → RowsRise 0 rows → Rises rows
to_first [] rises = tt
to_first (r ∷ rows) rises = rises.1

-- rows as a delta keeps them
pub record AreKeptRows (vanished : List UidRange) (rows : List (ℕ × Row)) : Type 0 where
  pub rising : Rises rows
  pub apart : AreApart vanished rows
  pub kept : AllByRecursion IsKeptRow rows
  pub few : length rows ≤ MAX_ROWS
  pub flags : HaveFewFlags rows

abbrev row_count : ℕ → Bool
row_count n = nat_le n MAX_ROWS

pub row_list_reads : (vanished : List UidRange) (bytes : List ℕ) (y : List (ℕ × Row) × List ℕ) → AreBytes bytes →
    row_list_at vanished bytes ≡ Ok y → Reads row_fields (AreKeptRows vanished) bytes y
unfolding row_list_at row_fields
row_list_reads vanished bytes y all is =
    let c = counting (number_at w32 bytes) row_count bytes (λ few. many_at (row_at vanished) row_uid few.0 0 few.1) y is in
    let n = number_reads bytes c.count all c.first in
    let rows = many_reads (row_at vanished) row_uid row_field (IsNextRow vanished) (row_reads vanished) c.count.0 0 c.count.1 y n.clean c.later in
    let size : length y.0 ≡ c.count.0 = rows.kept.0 in
    let high : c.count.0 ≤ MAX_ROWS = leb-true c.count.0 MAX_ROWS c.fits in
    sound_by (to_be_bytes w32 (length y.0) ++ flat_map row_field y.0) bytes y.1 (AreKeptRows vanished y.0) all
    (n.is ∙ ap (λ (t : List ℕ). to_be_bytes w32 c.count.0 ++ t) rows.is ∙ ap (λ (n : ℕ). to_be_bytes w32 n ++ (flat_map row_field y.0 ++ y.1)) (sym size))
    (record {
      rising = to_first y.0 (rows_rise vanished 0 y.0 rows.kept.1);
      apart = rows_apart vanished 0 y.0 rows.kept.1;
      kept = rows_kept vanished 0 y.0 rows.kept.1;
      few = omega arith;
      flags = rows_few vanished 0 y.0 rows.kept.1;
    })

pub row_list_read : (vanished : List UidRange) (rows : List (ℕ × Row)) (rest : List ℕ) → AreKeptRows vanished rows →
    row_list_at vanished (row_fields rows ++ rest) ≡ Ok (rows, rest)
unfolding row_list_at row_fields
row_list_read vanished rows rest kept =
    let few : length rows ≤ MAX_ROWS = kept.few in
    let bytes = to_be_bytes w32 (length rows) ++ (flat_map row_field rows ++ rest) in
    counts (number_at w32 bytes) row_count bytes (λ few. many_at (row_at vanished) row_uid few.0 0 few.1)
    (length rows, flat_map row_field rows ++ rest) (Ok (rows, rest))
    (number_read (length rows) (flat_map row_field rows ++ rest) (omega arith))
    (le-leb (length rows) MAX_ROWS few)
    (many_read (row_at vanished) row_uid row_field (IsNextRow vanished) (row_read vanished) 0 rows rest
    (each_row vanished 0 rows (from_first rows kept.kept kept.rising) kept.apart kept.kept kept.flags))

-- ---- names

abbrev pub IsNewName : List (List ℕ) → List ℕ → Type 0
IsNewName before name = IsBoxName name × (list_any (bytes_eq name) before ≡ false)

abbrev is_new : List (List ℕ) → List ℕ → Bool
is_new before name = not (list_any (bytes_eq name) before)

new_name_reads : (before : List (List ℕ)) (bytes : List ℕ) (y : List ℕ × List ℕ) → AreBytes bytes → new_name_at before bytes ≡ Ok y →
    Reads counted (IsNewName before) bytes y
unfolding new_name_at
new_name_reads before bytes y all is =
    let told = tested (name_at bytes) (is_new before) bytes y is in
    knowing (counted y.0) bytes y.1 (IsBoxName y.0) (IsNewName before y.0) (name_reads bytes y all told.0)
    (λ kept. (kept, not-true (list_any (bytes_eq y.0) before) told.1))

new_name_read : (before : List (List ℕ)) (name rest : List ℕ) → IsNewName before name → new_name_at before (counted name ++ rest) ≡ Ok (name, rest)
unfolding new_name_at
new_name_read before name rest kept = tests (name_at (counted name ++ rest)) (is_new before) (counted name ++ rest) (name, rest)
    (name_read name rest kept.0) (ap not kept.1)

or_parts : (x y : Bool) → (x || y) ≡ false → (x ≡ false) × (y ≡ false)
or_parts true y is = absurd (cc)
or_parts false y is = (refl, is)

or_false : (x y : Bool) → x ≡ false → y ≡ false → (x || y) ≡ false
or_false x y p q = rw (p, q) refl

or_right : (x y : Bool) → y ≡ true → (x || y) ≡ true
or_right true y is = refl
or_right false y is = is

bytes_differ : (a b : List ℕ) → bytes_eq a b ≡ false → b ≢ a
bytes_differ a b is same = let e : bytes_eq a b ≡ true = (bytes_eq-Decides a b).1 (sym same) in absurd (cc)

differ_bytes : (a b : List ℕ) → b ≢ a → bytes_eq a b ≡ false
differ_bytes a b other = false_from_ne_true (bytes_eq a b) (λ t. other (sym ((bytes_eq-Decides a b).0 t)))

-- what stands among names before stays away from names that follow
names_absent : (name : List ℕ) (before names : List (List ℕ)) → list_any (bytes_eq name) before ≡ true →
    Each IsNewName and_name before names → IsAbsent name names
names_absent name before [] there each = tt
names_absent name before (next ∷ names) there each =
    let stays : list_any (bytes_eq name) (before ++ next ∷ []) ≡ true =
    list_any-append (bytes_eq name) before (next ∷ []) ∙ ap (λ t. t || list_any (bytes_eq name) (next ∷ [])) there in (
      λ same. let e : list_any (bytes_eq name) before ≡ false = ap (λ (n : List ℕ). list_any (bytes_eq n) before) (sym same) ∙ each.0.1 in absurd (cc),
      names_absent name (before ++ next ∷ []) names stays each.1,
    )

last_there : (name : List ℕ) (before : List (List ℕ)) → list_any (bytes_eq name) (before ++ name ∷ []) ≡ true
last_there name [] = ap (λ t. t || false) ((bytes_eq-Decides name name).1 refl)
last_there name (first ∷ before) = or_right (bytes_eq name first) (list_any (bytes_eq name) (before ++ name ∷ [])) (last_there name before)

names_distinct : (before names : List (List ℕ)) → Each IsNewName and_name before names → AreDistinct names
names_distinct before [] each = tt
names_distinct before (name ∷ names) each =
    (names_absent name (before ++ name ∷ []) names (last_there name before) each.1, names_distinct (before ++ name ∷ []) names each.1)

names_kept : (before names : List (List ℕ)) → Each IsNewName and_name before names → AllByRecursion IsBoxName names
names_kept before [] each = tt
names_kept before (name ∷ names) each = (each.0.0, names_kept (before ++ name ∷ []) names each.1)

-- none of the names stands among those before
abbrev AreNew : List (List ℕ) → List (List ℕ) → Type 0
AreNew before [] = Unit {0}
AreNew before (name ∷ names) = (list_any (bytes_eq name) before ≡ false) × AreNew before names

new_behind : (before : List (List ℕ)) (name : List ℕ) (names : List (List ℕ)) → AreNew before names → IsAbsent name names → AreNew (before ++ name ∷ []) names
new_behind before name [] new absent = tt
new_behind before name (next ∷ names) new absent = (
  list_any-append (bytes_eq next) before (name ∷ []) ∙ or_false (list_any (bytes_eq next) before) (list_any (bytes_eq next) (name ∷ [])) new.0
      (or_false (bytes_eq next name) false (differ_bytes next name (λ same. absent.0 (sym same))) refl),
  new_behind before name names new.1 absent.1,
)

each_new : (before names : List (List ℕ)) → AreNew before names → AreDistinct names → AllByRecursion IsBoxName names → Each IsNewName and_name before names
each_new before [] new distinct kept = tt
each_new before (name ∷ names) new distinct kept = (
  (kept.0, new.0),
  each_new (before ++ name ∷ []) names (new_behind before name names new.1 distinct.0) distinct.1 kept.1,
)

all_new : (names : List (List ℕ)) → AreNew [] names
all_new [] = tt
all_new (name ∷ names) = (refl, all_new names)

-- names as a journal begins with
pub record AreKeptNames (names : List (List ℕ)) : Type 0 where
  pub kept : AllByRecursion IsBoxName names
  pub list : AreNames names

abbrev name_count : ℕ → Bool
name_count n = nat_le 1 n && nat_le n 32

abbrev pub name_fields : List (List ℕ) → List ℕ
name_fields names = length names ∷ flat_map counted names

pub name_list_reads : (bytes : List ℕ) (y : List (List ℕ) × List ℕ) → AreBytes bytes → name_list_at bytes ≡ Ok y → Reads name_fields AreKeptNames bytes y
unfolding name_list_at
name_list_reads bytes y all is =
    let l = lettered bytes (λ count. passing (name_count count.0) bytes count >>= (λ fit. many_at new_name_at and_name fit.0 [] fit.1)) y all is in
    let inner = bound (passing (name_count l.b) bytes (l.b, l.more)) (λ fit. many_at new_name_at and_name fit.0 [] fit.1) y l.later in
    let told = passed (name_count l.b) bytes (l.b, l.more) inner.value inner.first in
    let later : many_at new_name_at and_name l.b [] l.more ≡ Ok y =
    ap (λ (fit : ℕ × List ℕ). many_at new_name_at and_name fit.0 [] fit.1) told.1 ∙ inner.later in
    let names = many_reads new_name_at and_name counted IsNewName new_name_reads l.b [] l.more y l.clean later in
    let both = and_parts (nat_le 1 l.b) (nat_le l.b 32) told.0 in
    let size : length y.0 ≡ l.b = names.kept.0 in
    let low : 1 ≤ l.b = leb-true 1 l.b both.0 in
    let high : l.b ≤ 32 = leb-true l.b 32 both.1 in
    sound_by (name_fields y.0) bytes y.1 (AreKeptNames y.0) all
    (l.is ∙ ap (λ (t : List ℕ). l.b ∷ t) names.is ∙ ap (λ (n : ℕ). n ∷ (flat_map counted y.0 ++ y.1)) (sym size))
    (record { kept = names_kept [] y.0 names.kept.1; list = record { some = omega arith; few = omega arith; distinct = names_distinct [] y.0 names.kept.1 } })

pub name_list_read : (names : List (List ℕ)) (rest : List ℕ) → AreKeptNames names → name_list_at (name_fields names ++ rest) ≡ Ok (names, rest)
unfolding name_list_at
name_list_read names rest kept =
    let bytes = length names ∷ (flat_map counted names ++ rest) in
    counts (byte_at bytes) name_count bytes (λ fit. many_at new_name_at and_name fit.0 [] fit.1)
    (length names, flat_map counted names ++ rest) (Ok (names, rest))
    (byte_read (length names) (flat_map counted names ++ rest))
    (and_true (nat_le 1 (length names)) (nat_le (length names) 32) (le-leb 1 (length names) kept.list.some) (le-leb (length names) 32 kept.list.few))
    (many_read new_name_at and_name counted IsNewName new_name_read [] names rest (each_new [] names (all_new names) kept.list.distinct kept.kept))
