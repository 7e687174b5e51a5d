-- The first colon of a line.
use Rattle.std.proofs.Common.{◌≡◌, ℕ, ◌+◌, ◌-◌, true, false, List, length, take, drop, refl, sym, ◌∙◌, ap, arith, le_refl}
use Rattle.std.proofs.lemmas.Bool.{ne_eqb, eq-eqb, le-ltb, lt-ltb}
use Rattle.std.proofs.lemmas.List.{take_rest}
use Rattle.std.proofs.lemmas.List.Sums.{position_or_len_is}
use Rattle.std.specs.Prelude.{Option, Some, None}
use Rattle.std.specs.List.{position}
use Rattle.memchr.specs.Find.{IsFirstByte, is_byte}
use Rattle.mail_header.specs.Field.{is_colon, parted_at, field_of}

not_colon : (byte : ℕ) → (is_byte 58 byte ≡ true → ⊥) → is_colon byte ≡ false
not_colon byte isnt = ne_eqb byte 58 (λ is. isnt (eq-eqb byte 58 is))

-- what a search for a colon finds
pub position-is : (line : List ℕ) (found : Option ℕ) → IsFirstByte (is_byte 58) line found → position is_colon line ≡ found
position-is line None none =
    let place = position_or_len_is is_colon line (length line) 0 (le_refl (length line))
    (λ k below. not_colon _ (none k (omega arith) below)) (λ below. absurd (omega arith)) in
    rw (place, le-ltb (length line) (length line) (le_refl (length line))) refl
position-is line (Some at) found =
    let place = position_or_len_is is_colon line at 0 (omega (arith, found.0.high))
    (λ k below. not_colon _ (found.0.before k (omega arith) below)) (λ below. found.1) in
    rw (place, lt-ltb at (length line) found.0.high) refl

-- the field that a colon parts
pub field-some : (line : List ℕ) (at : ℕ) → IsFirstByte (is_byte 58) line (Some at) → (at ≡ 0 → ⊥) →
    Some (record { name = take at line; body = take (length line - (at + 1)) (drop (at + 1) line) }) ≡ field_of line
field-some line at found filled = rw (take_rest line (at + 1)) (sym (ap (parted_at line) (position-is line (Some at) found) ∙ rw (ne_eqb at 0 filled) refl))
