-- A repeated text byte by byte, and its stretches one behind the other.
use Rattle.std.proofs.Common.{◌≡◌, ◌⊎◌, inl, inr, ℕ, ◌+◌, ◌-◌, ◌%◌, ◌<◌, ◌≤◌, List, [], ◌++◌, length, take, drop, get_or, ◌∙◌, ap, sym, refl, arith}
use Rattle.std.proofs.Common.{length-append, length-take, length-drop}
use Rattle.std.proofs.lemmas.Bool.{cases_lt}
use Rattle.std.proofs.lemmas.List.{ext_get_or, get_or_append_left, get_or-append_right, get_or-take, get_or-drop, length-take-le}
use Rattle.std.proofs.lemmas.List.FromFn.{length-map-range_with_len, get_or-map-range_with_len}
use Rattle.std.proofs.Math.Nat.{mod-add-mod, mod-eq_of_lt, add-mod_right, mod-mod}
use Rattle.mail_bench.specs.Repeated.{byte_in, stretch}

pub stretch_size : (text : List ℕ) (at n : ℕ) → length (stretch text at n) ≡ n
unfolding stretch
stretch_size text at n = length-map-range_with_len (λ (place : ℕ). byte_in text place) at n

stretch_byte : (text : List ℕ) (at n i : ℕ) → i < n → get_or (stretch text at n) i 0 ≡ byte_in text (at + i)
unfolding stretch
stretch_byte text at n i small = get_or-map-range_with_len (λ (place : ℕ). byte_in text place) at n i (at + i) 0 small refl

-- bytes that are the text's one by one are a stretch
by_bytes : (xs text : List ℕ) (at n : ℕ) → length xs ≡ n → ((i : ℕ) → i < n → get_or xs i 0 ≡ byte_in text (at + i)) → xs ≡ stretch text at n
by_bytes xs text at n size bytes =
    ext_get_or 0 xs (stretch text at n) (size ∙ sym (stretch_size text at n))
    (λ i small. let below : i < n = omega (arith, small, size) in bytes i below ∙ sym (stretch_byte text at n i below))

-- from places at the same byte of the text
places_alike : (p a b i : ℕ) → a % p ≡ b % p → (a + i) % p ≡ (b + i) % p
places_alike p a b i same = sym (mod-add-mod a p i) ∙ ap (λ (k : ℕ). (k + i) % p) same ∙ mod-add-mod b p i

pub stretch_alike : (text : List ℕ) (a b n : ℕ) → a % length text ≡ b % length text → stretch text a n ≡ stretch text b n
stretch_alike text a b n same = by_bytes (stretch text a n) text b n (stretch_size text a n)
    (λ i small. stretch_byte text a n i small ∙ ap (λ (k : ℕ). get_or text k 0) (places_alike (length text) a b i same))

-- one behind the other
byte_of_two : (text : List ℕ) (at m n i : ℕ) → i < m + n → (i < m) ⊎ (m ≤ i) →
    get_or (stretch text at m ++ stretch text (at + m) n) i 0 ≡ byte_in text (at + i)
byte_of_two text at m n i small (inl below) =
    let within : i < length (stretch text at m) = omega (arith, stretch_size text at m, below) in
    get_or_append_left (stretch text at m) (stretch text (at + m) n) 0 i within ∙ stretch_byte text at m i below
byte_of_two text at m n i small (inr above) =
    let rest : i - m < n = omega (arith, small, above) in
    let place : (at + m) + (i - m) ≡ at + i = omega (arith, above) in
    get_or-append_right (stretch text at m) (stretch text (at + m) n) m i 0 (stretch_size text at m) above
    ∙ stretch_byte text (at + m) n (i - m) rest ∙ ap (λ (k : ℕ). byte_in text k) place

pub stretch_then : (text : List ℕ) (at m n : ℕ) → stretch text at m ++ stretch text (at + m) n ≡ stretch text at (m + n)
stretch_then text at m n =
    let size : length (stretch text at m ++ stretch text (at + m) n) ≡ m + n = omega
    (arith, length-append (stretch text at m) (stretch text (at + m) n), stretch_size text at m, stretch_size text (at + m) n) in
    by_bytes (stretch text at m ++ stretch text (at + m) n) text at (m + n) size (λ i small. byte_of_two text at m n i small (cases_lt i m))

-- the text itself
place_in : (p i : ℕ) → i < p → i ≡ (0 + i) % p
place_in p i small =
    let plain : 0 + i ≡ i = omega arith in
    sym (ap (λ (k : ℕ). k % p) plain ∙ mod-eq_of_lt small)

pub stretch_once : (text : List ℕ) → text ≡ stretch text 0 (length text)
stretch_once text = by_bytes text text 0 (length text) refl (λ i small. ap (λ (k : ℕ). get_or text k 0) (place_in (length text) i small))

-- a part of a stretch
stretch_part : (text : List ℕ) (total at n : ℕ) → at + n ≤ total → take n (drop at (stretch text 0 total)) ≡ stretch text at n
stretch_part text total at n fits =
    let whole = stretch text 0 total in
    let size : length (take n (drop at whole)) ≡ n = omega (arith, length-take n (drop at whole), length-drop at whole, stretch_size text 0 total, fits) in
    by_bytes (take n (drop at whole)) text at n size (λ i small.
    let within : at + i < total = omega (arith, small, fits) in
    let place : 0 + (at + i) ≡ at + i = omega arith in
    get_or-take n (drop at whole) i 0 small ∙ get_or-drop at whole i 0 ∙ stretch_byte text 0 total (at + i) within
    ∙ ap (λ (k : ℕ). byte_in text k) place)

at_start : (p k : ℕ) → 0 < p → k % p ≡ 0 → 0 % p ≡ (0 + k) % p
at_start p k some full =
    let plain : k ≡ 0 + k = omega arith in
    mod-eq_of_lt some ∙ sym full ∙ ap (λ (j : ℕ). j % p) plain

-- Bytes that are the text's repetitions from its first byte on.
module _ (text bytes : List ℕ) (repeats : bytes ≡ stretch text 0 (length bytes)) where
  pub part_of : (at n : ℕ) → at + n ≤ length bytes → take n (drop at bytes) ≡ stretch text at n
  part_of at n fits = ap (λ (b : List ℕ). take n (drop at b)) repeats ∙ stretch_part text (length bytes) at n fits

  pub text_first : length text ≤ length bytes → take (length text) bytes ≡ text
  text_first fits =
      let within : 0 + length text ≤ length bytes = omega (arith, fits) in
      part_of 0 (length text) within ∙ sym (stretch_once text)

  -- once more the text
  pub once_more : 0 < length text → length bytes % length text ≡ 0 → bytes ++ text ≡ stretch text 0 (length (bytes ++ text))
  once_more some full =
      let size : length bytes + length text ≡ length (bytes ++ text) = sym (length-append bytes text) in
      let start : 0 % length text ≡ (0 + length bytes) % length text = at_start (length text) (length bytes) some full in
      ap (λ (b : List ℕ). b ++ text) repeats
      ∙ ap (λ (t : List ℕ). stretch text 0 (length bytes) ++ t) (stretch_once text ∙ stretch_alike text 0 (0 + length bytes) (length text) start)
      ∙ stretch_then text 0 (length bytes) (length text) ∙ ap (λ (k : ℕ). stretch text 0 k) size

  pub full_more : length bytes % length text ≡ 0 → length (bytes ++ text) % length text ≡ 0
  full_more full = ap (λ (k : ℕ). k % length text) (length-append bytes text) ∙ add-mod_right (length bytes) (length text) ∙ full

-- nothing yet
pub nothing_repeats : (text bytes : List ℕ) → bytes ≡ [] → bytes ≡ stretch text 0 (length bytes)
nothing_repeats text bytes empty =
    by_bytes bytes text 0 (length bytes) refl (λ i small. absurd (omega (arith, small, ap length empty)))

pub nothing_yet : (text : List ℕ) (size : ℕ) → [] ≡ stretch text 0 (size - size)
nothing_yet text size =
    let none : 0 ≡ size - size = omega arith in
    nothing_repeats text [] refl ∙ ap (λ (k : ℕ). stretch text 0 k) none

-- the text of a block has its period's length
pub period_is : (bytes : List ℕ) (period most : ℕ) → period + most ≤ length bytes → length (take period bytes) ≡ period
period_is bytes period most enough = length-take-le period bytes (omega (arith, enough))

-- The next piece of a stream: all but so many bytes of it came, and the piece begins at the text's byte behind them.
module _ (text piece : List ℕ) (period size left at count : ℕ) (is : length text ≡ period) (behind : at ≡ (size - left) % period)
    (within : left ≤ size) (few : count ≤ left) (piece_is : piece ≡ stretch text at count) where
  next_place : at % length text ≡ (0 + (size - left)) % length text
  next_place =
      let plain : size - left ≡ 0 + (size - left) = omega arith in
      ap (λ (k : ℕ). k % length text) behind ∙ ap (λ (p : ℕ). (size - left) % p % length text) (sym is) ∙ mod-mod (size - left) (length text)
      ∙ ap (λ (k : ℕ). k % length text) plain

  pub came_more : stretch text 0 (size - left) ++ piece ≡ stretch text 0 (size - (left - count))
  came_more =
      let sum : (size - left) + count ≡ size - (left - count) = omega (arith, within, few) in
      ap (λ (t : List ℕ). stretch text 0 (size - left) ++ t) (piece_is ∙ stretch_alike text at (0 + (size - left)) count next_place)
      ∙ stretch_then text 0 (size - left) count ∙ ap (λ (k : ℕ). stretch text 0 k) sum

  pub next_behind : (at + count) % period ≡ (size - (left - count)) % period
  next_behind =
      let sum : (size - left) + count ≡ size - (left - count) = omega (arith, within, few) in
      ap (λ (k : ℕ). (k + count) % period) behind ∙ mod-add-mod (size - left) period count ∙ ap (λ (k : ℕ). k % period) sum

  pub still_to_come : List ℕ
  still_to_come = stretch text (0 + (size - (left - count))) (left - count)

  pub whole_stream : (stretch text 0 (size - left) ++ piece) ++ still_to_come ≡ stretch text 0 size
  unfolding still_to_come
  whole_stream =
      let sum : (size - (left - count)) + (left - count) ≡ size = omega (arith, within) in
      ap (λ (t : List ℕ). t ++ stretch text (0 + (size - (left - count))) (left - count)) came_more
      ∙ stretch_then text 0 (size - (left - count)) (left - count) ∙ ap (λ (k : ℕ). stretch text 0 k) sum
