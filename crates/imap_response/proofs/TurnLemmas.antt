-- One turn of each loop over items, numbers, pairs and other lines.
use Rattle.std.proofs.Common.{◌≡◌, ℕ, zero, suc, ◌+◌, ◌-◌, ◌<◌, ◌≤◌, true, false, List, [], ◌∷◌, ◌++◌, length, drop, Result, Ok, Err}
use Rattle.std.proofs.Common.{refl, sym, ◌∙◌, ap, append_assoc, append-nil, arith}
use Rattle.std.proofs.lemmas.Bool.{lt-ltb, le-ltb, ne_eqb, eq-eqb}
use Rattle.std.proofs.lemmas.Bool.Decides.{nat_tests}
use Rattle.std.specs.Prelude.{◌==◌, nat_lt, if◌then◌else◌}
use Rattle.imap_tokens.specs.declared.token.TokenKind.TheVariants as kinds
use Rattle.uid_sets.specs.declared.uid.UidRange.{UidRange}
use Rattle.imap_response.specs.declared.fault.Misfit.{Misfit}
use Rattle.imap_response.specs.declared.fault.Misfit.TheVariants as misfits
use Rattle.imap_response.specs.declared.fetch.Gathered.{Gathered}
use Rattle.imap_response.specs.declared.fetch.Told.{Told}
use Rattle.imap_response.specs.Reads.{◌>>=◌, or_else, Fails, IsPlace}
use Rattle.imap_response.specs.Leaf.{blank_at, gap_at, mark_at}
use Rattle.imap_response.specs.ReadNumbers.{nonzero_at}
use Rattle.imap_response.specs.WordLists.{no_header, header_start}
use Rattle.imap_response.specs.Flags.{Keep}
use Rattle.imap_response.specs.Left.{Left, at_left, behind_token}
use Rattle.imap_response.specs.Items.{item_at, items_from, with_told}
use Rattle.imap_response.specs.ReadSearches.{begins_with, search_end_at, numbers_from, pair_at, pairs_from}
use Rattle.imap_response.specs.ReadLines.{literal_len, begins_forbidden, other_from}
use Rattle.imap_response.proofs.LoopLemmas.{at_place, broken}

turn : (n k : ℕ) → k < n → n - k ≡ suc (n - (k + 1))
turn n k within = omega (arith, within)

out : (n k : ℕ) → n ≤ k → n - k ≡ 0
out n k over = omega (arith, over)

-- items
items_step : (keep : Keep) (n k : ℕ) (gathered : Gathered) (left : Left) → k < n
    → items_from keep (n - k) gathered left ≡ (item_at keep left >>= λ item. or_else (mark_at 41 item.1.text)
    (λ end. Ok (with_told gathered item.0, at_left item.1 end))
    (gap_at item.1.text >>= λ after. items_from keep (n - (k + 1)) (with_told gathered item.0) (at_left item.1 after)))
unfolding items_from
items_step keep n k gathered left within = rw (turn n k within) refl

pub items_broken : (misfit : Misfit) (keep : Keep) (n k : ℕ) (gathered : Gathered) (left : Left) (whole : Result (Gathered × Left) ℕ) → k < n
    → Fails misfit (item_at keep left) → items_from keep (n - k) gathered left ≡ whole → Fails misfit whole
items_broken misfit keep n k gathered left whole within fails is = broken misfit _ _ whole fails (sym is ∙ items_step keep n k gathered left within)

pub items_closed : (keep : Keep) (n k : ℕ) (gathered : Gathered) (left behind : Left) (told : Told) (end : List ℕ) → k < n →
    item_at keep left ≡ Ok (told, behind)
    → mark_at 41 behind.text ≡ Ok end → items_from keep (n - k) gathered left ≡ Ok (with_told gathered told, at_left behind end)
items_closed keep n k gathered left behind told end within read closed = items_step keep n k gathered left within ∙ rw (read, closed) refl

module _ (keep : Keep) (n k : ℕ) (gathered : Gathered) (left behind : Left) (told : Told) (misfit : Misfit) (within : k < n)
    (read : item_at keep left ≡ Ok (told, behind))
    (place : IsPlace misfit) (open_yet : Fails misfit (mark_at 41 behind.text)) where
  items_go : items_from keep (n - k) gathered left ≡ (gap_at behind.text >>= λ after. items_from keep (n - (k + 1))
      (with_told gathered told) (at_left behind after))
  items_go = let marked = at_place misfit (mark_at 41 behind.text) place open_yet in items_step keep n k gathered left within ∙ rw (read, marked.1) refl

  pub items_stuck : (other : Misfit) (whole : Result (Gathered × Left) ℕ) → Fails other (gap_at behind.text) →
      items_from keep (n - k) gathered left ≡ whole → Fails other whole
  items_stuck other whole fails is = broken other _ _ whole fails (sym is ∙ items_go)

  pub items_on : (after : List ℕ) → gap_at behind.text ≡ Ok after
      → items_from keep (n - k) gathered left ≡ items_from keep (n - (k + 1)) (with_told gathered told) (at_left behind after)
  items_on after gap = items_go ∙ rw gap refl

pub items_out : (keep : Keep) (n k : ℕ) (gathered : Gathered) (left : Left) → n ≤ k → items_from keep (n - k) gathered left ≡ Err 0
unfolding items_from
items_out keep n k gathered left over = rw (out n k over) refl

pub items_first : (keep : Keep) (n : ℕ) (gathered : Gathered) (left : Left) → items_from keep (n - 0) gathered left ≡ items_from keep n gathered left
items_first keep n gathered left = let e : n - 0 ≡ n = omega arith in rw e refl

-- numbers
abbrev pub with_numbers : List ℕ → Result (List ℕ) ℕ → Result (List ℕ) ℕ
with_numbers front (Ok numbers) = Ok (front ++ numbers)
with_numbers front (Err left) = Err left

no_numbers : (read : Result (List ℕ) ℕ) → with_numbers [] read ≡ read
no_numbers (Ok numbers) = refl
no_numbers (Err left) = refl

pub numbers_first : (n : ℕ) (text : List ℕ) → with_numbers [] (numbers_from (n - 0) text) ≡ numbers_from n text
numbers_first n text = let e : n - 0 ≡ n = omega arith in rw e (no_numbers (numbers_from n text))

pub numbers_done : (n : ℕ) (front text : List ℕ) → length (blank_at text) ≡ 0 → with_numbers front (numbers_from n text) ≡ Ok front
unfolding numbers_from
numbers_done zero front text none = rw (append-nil front) refl
numbers_done (suc n) front text none = rw (none, append-nil front) refl

pub numbers_out : (n k : ℕ) (front text : List ℕ) → n ≤ k → with_numbers front (numbers_from (n - k) text) ≡ Ok front
unfolding numbers_from
numbers_out n k front text over = rw (out n k over, append-nil front) refl

abbrev number_behind : ℕ → List ℕ → Result (List ℕ) ℕ
number_behind more after =
    if begins_with 40 after then (search_end_at after >>= λ _. Ok [])
    else (nonzero_at after >>= λ number. numbers_from more number.1 >>= λ numbers. Ok (number.0 ∷ numbers))

module _ (front : List ℕ) (n k : ℕ) (text : List ℕ) (within : k < n) (some : 0 < length (blank_at text)) where
  numbers_step : numbers_from (n - k) text ≡ (gap_at text >>= number_behind (n - (k + 1)))
  unfolding numbers_from
  numbers_step = let test : (length (blank_at text) == 0) ≡ false = grind (arith, nat_tests) in rw (turn n k within, test) refl

broken_numbers : {A : Type 0} (misfit : Misfit) (front : List ℕ) (read : Result A ℕ) (f : A → Result (List ℕ) ℕ) (whole : Result (List ℕ) ℕ)
    → Fails misfit read → with_numbers front (read >>= f) ≡ whole → Fails misfit whole
broken_numbers (misfits.At left) front read f whole fails is = sym is ∙ rw fails refl
broken_numbers misfits.Memory front read f whole fails is = tt

one_number : (front : List ℕ) (number : ℕ) (read : Result (List ℕ) ℕ) →
    with_numbers front (read >>= λ numbers. Ok (number ∷ numbers)) ≡ with_numbers (front ++ number ∷ []) read
one_number front number (Ok numbers) = rw (append_assoc front (number ∷ []) numbers) refl
one_number front number (Err left) = refl

pub numbers_gap : (misfit : Misfit) (front : List ℕ) (n k : ℕ) (text : List ℕ) (whole : Result (List ℕ) ℕ) → k < n → 0 < length (blank_at text)
    → Fails misfit (gap_at text) → with_numbers front (numbers_from (n - k) text) ≡ whole → Fails misfit whole
numbers_gap misfit front n k text whole within some fails is =
    broken_numbers misfit front (gap_at text) (number_behind (n - (k + 1))) whole fails
    (ap (with_numbers front) (sym (numbers_step front n k text within some)) ∙ is)

module _ (front : List ℕ) (n k : ℕ) (text after : List ℕ) (whole : Result (List ℕ) ℕ) (within : k < n) (some : 0 < length (blank_at text))
    (gap : gap_at text ≡ Ok after)
    (is : with_numbers front (numbers_from (n - k) text) ≡ whole) where
  behind_gap : with_numbers front (number_behind (n - (k + 1)) after) ≡ whole
  behind_gap = sym (ap (with_numbers front) (numbers_step front n k text within some ∙ rw gap refl)) ∙ is

  at_end : begins_with 40 after ≡ true → with_numbers front (search_end_at after >>= λ _. Ok []) ≡ whole
  at_end test = rw test at behind_gap

  at_number : begins_with 40 after ≡ false
      → with_numbers front (nonzero_at after >>= λ number. numbers_from (n - (k + 1)) number.1 >>= λ numbers. Ok (number.0 ∷ numbers)) ≡ whole
  at_number test = rw test at behind_gap

  pub numbers_end_broken : (misfit : Misfit) → begins_with 40 after ≡ true → Fails misfit (search_end_at after) → Fails misfit whole
  numbers_end_broken misfit test fails = broken_numbers misfit front _ _ whole fails (at_end test)

  pub numbers_end : begins_with 40 after ≡ true → search_end_at after ≡ Ok tt → whole ≡ Ok front
  numbers_end test read = sym (at_end test) ∙ rw (read, append-nil front) refl

  pub number_broken : (misfit : Misfit) → begins_with 40 after ≡ false → Fails misfit (nonzero_at after) → Fails misfit whole
  number_broken misfit test fails = broken_numbers misfit front _ _ whole fails (at_number test)

  pub number_on : (number : ℕ) (later : List ℕ) → begins_with 40 after ≡ false → nonzero_at after ≡ Ok (number, later)
      → with_numbers (front ++ number ∷ []) (numbers_from (n - (k + 1)) later) ≡ whole
  number_on number later test read = sym (one_number front number (numbers_from (n - (k + 1)) later)) ∙ (rw read at at_number test)

-- pairs
pub pairs_done : (n : ℕ) (uids : List UidRange) (left : Left) → length (blank_at left.text) ≡ 0 → pairs_from n uids left ≡ Ok uids
unfolding pairs_from
pairs_done zero uids left none = refl
pairs_done (suc n) uids left none = rw none refl

pub pairs_out : (n k : ℕ) (uids : List UidRange) (left : Left) → n ≤ k → pairs_from (n - k) uids left ≡ Ok uids
unfolding pairs_from
pairs_out n k uids left over = rw (out n k over) refl

pub pairs_first : (n : ℕ) (uids : List UidRange) (left : Left) → pairs_from (n - 0) uids left ≡ pairs_from n uids left
pairs_first n uids left = let e : n - 0 ≡ n = omega arith in rw e refl

pairs_step : (n k : ℕ) (uids : List UidRange) (left : Left) → k < n → 0 < length (blank_at left.text)
    → pairs_from (n - k) uids left ≡ (pair_at uids left >>= λ pair. pairs_from (n - (k + 1)) pair.0 pair.1)
unfolding pairs_from
pairs_step n k uids left within some = let test : (length (blank_at left.text) == 0) ≡ false = grind (arith, nat_tests) in rw (turn n k within, test) refl

pub pairs_broken : (misfit : Misfit) (n k : ℕ) (uids : List UidRange) (left : Left) (whole : Result (List UidRange) ℕ) → k < n → 0 < length (blank_at left.text)
    → Fails misfit (pair_at uids left) → pairs_from (n - k) uids left ≡ whole → Fails misfit whole
pairs_broken misfit n k uids left whole within some fails is = broken misfit _ _ whole fails (sym is ∙ pairs_step n k uids left within some)

pub pairs_on : (n k : ℕ) (uids set : List UidRange) (left behind : Left) → k < n → 0 < length (blank_at left.text) → pair_at uids left ≡ Ok (set, behind)
    → pairs_from (n - k) uids left ≡ pairs_from (n - (k + 1)) set behind
pairs_on n k uids set left behind within some read = pairs_step n k uids left within some ∙ rw read refl

-- other lines
pub other_first : (n : ℕ) (last : List ℕ) (left : Left) → other_from (n - 0) last left ≡ other_from n last left
other_first n last left = let e : n - 0 ≡ n = omega arith in rw e refl

pub other_out : (n k : ℕ) (last : List ℕ) (left : Left) → n ≤ k → other_from (n - k) last left ≡ no_header last (header_start 0 last)
unfolding other_from
other_out n k last left over = rw (out n k over) refl

pub other_literal : (n k : ℕ) (last : List ℕ) (left : Left) (size : ℕ) → k < n → size ≡ literal_len left → 0 < size
    → other_from (n - k) last left ≡ other_from (n - (k + 1)) (drop size left.text) (behind_token left kinds.Literal size)
unfolding other_from
other_literal n k last left size within is some =
    let test : nat_lt 0 (literal_len left) ≡ true = lt-ltb 0 (literal_len left) (omega (arith, is, some)) in
    rw (turn n k within, test, is) refl

other_no_literal : (n k : ℕ) (last : List ℕ) (left : Left) (size : ℕ) → k < n → size ≡ literal_len left → size ≤ 0
    → other_from (n - k) last left ≡ (if length left.text == 0 then no_header last (header_start 0 last)
    else (if begins_forbidden left.text then Err (length left.text) else other_from (n - (k + 1)) last (at_left left (drop 1 left.text))))
unfolding other_from
other_no_literal n k last left size within is none =
    let test : nat_lt 0 (literal_len left) ≡ false = le-ltb 0 (literal_len left) (omega (arith, is, none)) in
    rw (turn n k within, test) refl

pub other_done : (n k : ℕ) (last : List ℕ) (left : Left) (size : ℕ) → k < n → size ≡ literal_len left → size ≤ 0 → length left.text ≡ 0
    → other_from (n - k) last left ≡ no_header last (header_start 0 last)
other_done n k last left size within is none all =
    let test : (length left.text == 0) ≡ true = eq-eqb (length left.text) 0 all in other_no_literal n k last left size within is none ∙ rw test refl

pub other_bad : (n k : ℕ) (last : List ℕ) (left : Left) (size byte : ℕ) (more : List ℕ) → k < n → size ≡ literal_len left → size ≤ 0 → left.text ≡ byte ∷ more
    → begins_forbidden (byte ∷ more) ≡ true → other_from (n - k) last left ≡ Err (length left.text)
other_bad n k last left size byte more within is none all bad =
    let some : (length (byte ∷ more) == 0) ≡ false = ne_eqb _ _ (λ e. absurd (omega (arith, e))) in
    other_no_literal n k last left size within is none ∙ rw (all, some, bad) refl

pub other_on : (n k : ℕ) (last : List ℕ) (left : Left) (size byte : ℕ) (more : List ℕ) → k < n → size ≡ literal_len left → size ≤ 0 → left.text ≡ byte ∷ more
    → begins_forbidden (byte ∷ more) ≡ false → other_from (n - k) last left ≡ other_from (n - (k + 1)) last (at_left left more)
other_on n k last left size byte more within is none all good =
    let some : (length (byte ∷ more) == 0) ≡ false = ne_eqb _ _ (λ e. absurd (omega (arith, e))) in
    other_no_literal n k last left size within is none ∙ rw (all, some, good) refl
