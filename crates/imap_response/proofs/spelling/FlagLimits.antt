-- A list of flags has no fault exactly where its set keeps the limits.
use Rattle.std.proofs.Common.{◌≡◌, ℕ, ◌+◌, ◌≤◌, Bool, true, false, cond, List, [], ◌∷◌, length, Option, Some, None, refl, ap, sym, ◌∙◌, subst, arith, nat_lt}
use Rattle.std.proofs.lemmas.Bool.Decides.{nat_tests}
use Rattle.std.proofs.lemmas.List.{length-map}
use Rattle.std.specs.Prelude.{fold}
use Rattle.std.specs.List.{AllByRecursion}
use Rattle.std.specs.Char.{to_ascii_lowercase}
use Rattle.std.specs.Option.{option_or}
use Rattle.std.specs.Ordering.{match_ordering}
use Rattle.std.specs.Str.{bytes_eq}
use Rattle.std.specs.declared.cmp.Ordering.{Ordering}
use Rattle.std.specs.declared.cmp.Ordering.TheVariants.{Less, Equal, Greater}
use Rattle.flag_set.specs.declared.flag_fault.TheConstants.{MAX_FLAG, MAX_FLAGS}
use Rattle.flag_set.specs.declared.flag_fault.FlagFault.{FlagFault}
use Rattle.flag_set.specs.declared.flag_fault.FlagFault.TheVariants.{TooMany}
use Rattle.flag_set.specs.Flag.{is_flag, refusal}
use Rattle.flag_set.specs.FlagKey.{key_of, recent}
use Rattle.flag_set.specs.FlagList.{with_flag, set_of, excess, next_fault, fault_behind, first_fault_of}
use Rattle.flag_set.specs.FlagSet.{AllKeys, order, put}
use Rattle.flag_set.proofs.Keys.{accepted}
use Rattle.flag_set.proofs.Order.{all_put, order_same}
use Rattle.imap_response.specs.Within.{IsSetWithin}
use Rattle.imap_response.proofs.spelling.Names.{bytes_equal}

abbrev IsShort : List ℕ → Type 0
IsShort key = length key ≤ MAX_FLAG

key_len : (flag : List ℕ) → length (key_of flag) ≡ length flag
key_len flag = length-map flag to_ascii_lowercase

or_none : (o p : Option FlagFault) → option_or o p ≡ None → (o ≡ None) × (p ≡ None)
or_none None p h = (refl, h)
or_none (Some x) p h = absurd cc

none_or : (o p : Option FlagFault) → o ≡ None → p ≡ None → option_or o p ≡ None
none_or None p h k = k
none_or (Some x) p h k = absurd cc

few_from : (n : ℕ) (t : Bool) → nat_lt MAX_FLAGS n ≡ t → ◌≡◌ {A = Option FlagFault} (cond t (Some (TooMany (MAX_FLAGS + 1))) None) None → n ≤ MAX_FLAGS
few_from n true test is = absurd cc
few_from n false test is = grind (arith, nat_tests)

excess_none : (keys : List (List ℕ)) → excess keys ≡ None → length keys ≤ MAX_FLAGS
excess_none keys is = few_from (length keys) (nat_lt MAX_FLAGS (length keys)) refl is

few_none : (keys : List (List ℕ)) → length keys ≤ MAX_FLAGS → excess keys ≡ None
few_none keys few = let test : nat_lt MAX_FLAGS (length keys) ≡ false = grind (arith, nat_tests) in rw test refl

-- a flag that is well formed is refused for its length alone
short_none : (flag : List ℕ) → is_flag flag ≡ true → length flag ≤ MAX_FLAG → refusal flag ≡ None
short_none flag is short = let test : nat_lt MAX_FLAG (length flag) ≡ false = grind (arith, nat_tests) in rw (test, is) refl

put_from : (key first : List ℕ) (rest : List (List ℕ)) (o : Ordering) → length rest ≤ length (put key rest) →
    length (first ∷ rest) ≤ length (match_ordering o (key ∷ first ∷ rest) (first ∷ rest) (first ∷ put key rest))
put_from key first rest Less more = omega arith
put_from key first rest Equal more = omega arith
put_from key first rest Greater more = omega (arith, more)

put_in : (key : List ℕ) (keys : List (List ℕ)) → length keys ≤ length (put key keys)
put_in key [] = omega arith
put_in key (first ∷ rest) = put_from key first rest (order key first) (put_in key rest)

keys_from : (key first : List ℕ) (rest : List (List ℕ)) (o : Ordering) → order key first ≡ o →
    (AllKeys IsShort (put key rest) → IsShort key × AllKeys IsShort rest)
    → AllKeys IsShort (match_ordering o (key ∷ first ∷ rest) (first ∷ rest) (first ∷ put key rest)) → IsShort key × AllKeys IsShort (first ∷ rest)
keys_from key first rest Less is more all = (all.0, all.1)
keys_from key first rest Equal is more all = (subst IsShort (sym (order_same key first is)) all.0, all)
keys_from key first rest Greater is more all = let both = more all.1 in (both.0, (all.0, both.1))

put_keys : (key : List ℕ) (keys : List (List ℕ)) → AllKeys IsShort (put key keys) → IsShort key × AllKeys IsShort keys
put_keys key [] all = (all.0, tt)
put_keys key (first ∷ rest) all = keys_from key first rest (order key first) refl (put_keys key rest) all

kept_in : (key : List ℕ) (keys : List (List ℕ)) → IsSetWithin (put key keys) → IsShort key × IsSetWithin keys
kept_in key keys within =
    let both = put_keys key keys within.short in
    (both.0, record { few = omega (arith, put_in key keys, within.few); short = both.1 })

-- the set with a flag that keeps the limits
flag_in_from : (keys : List (List ℕ)) (flag : List ℕ) (t : Bool) → bytes_eq (key_of flag) recent ≡ t →
    IsSetWithin (cond t keys (put (key_of flag) keys)) → IsShort flag × IsSetWithin keys
flag_in_from keys flag true is within =
    let same = bytes_equal (key_of flag) recent is in
    let len : length flag ≡ length recent = sym (key_len flag) ∙ ap length same in
    (omega (arith, len), within)
flag_in_from keys flag false is within =
    let both = kept_in (key_of flag) keys within in
    let short = both.0 in
    (omega (arith, key_len flag, short), both.1)

flag_in : (keys : List (List ℕ)) (flag : List ℕ) → IsSetWithin (with_flag keys flag) → IsShort flag × IsSetWithin keys
flag_in keys flag within = flag_in_from keys flag (bytes_eq (key_of flag) recent) refl within

-- a list whose set keeps the limits has no fault
within_by : (flags keys : List (List ℕ)) → AllByRecursion (λ flag. is_flag flag ≡ true) flags → IsSetWithin (fold with_flag keys flags) →
    IsSetWithin keys × (fault_behind keys flags ≡ None)
within_by [] keys all within = (within, refl)
within_by (flag ∷ flags) keys all within =
    let more = within_by flags (with_flag keys flag) all.1 within in
    let here = flag_in keys flag more.0 in (
      here.1,
      none_or (next_fault keys flag) (fault_behind (with_flag keys flag) flags)
          (none_or (refusal flag) (excess (with_flag keys flag)) (short_none flag all.0 here.0)
          (few_none (with_flag keys flag) more.0.few)) more.1,
    )

pub within_none : (flags : List (List ℕ)) → AllByRecursion (λ flag. is_flag flag ≡ true) flags → IsSetWithin (set_of flags) → first_fault_of flags ≡ None
within_none flags all within = (within_by flags [] all within).1

-- and a list without a fault has such a set
more_short : (keys : List (List ℕ)) (flag : List ℕ) (t : Bool) → IsShort flag → AllKeys IsShort keys → AllKeys IsShort (cond t keys (put (key_of flag) keys))
more_short keys flag true short all = all
more_short keys flag false short all = all_put IsShort (key_of flag) keys (omega (arith, key_len flag, short)) all

none_by : (flags keys : List (List ℕ)) → IsSetWithin keys → fault_behind keys flags ≡ None → IsSetWithin (fold with_flag keys flags)
none_by [] keys within none = within
none_by (flag ∷ flags) keys within none =
    let both = or_none (next_fault keys flag) (fault_behind (with_flag keys flag) flags) none in
    let here = or_none (refusal flag) (excess (with_flag keys flag)) both.0 in
    none_by flags (with_flag keys flag) (record {
      few = excess_none (with_flag keys flag) here.1;
      short =
          more_short keys flag (bytes_eq (key_of flag) recent) (accepted flag here.0).0 within.short;
    }) both.1

pub none_within : (flags : List (List ℕ)) → first_fault_of flags ≡ None → IsSetWithin (set_of flags)
none_within flags none = none_by flags [] (record { few = omega arith; short = tt }) none
