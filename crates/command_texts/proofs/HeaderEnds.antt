-- The header of a literal at the end of a part tells how many octets are due behind it.
use Rattle.std.proofs.Common.{◌≡◌, ℕ, ◌<◌, ◌^◌, List, [], ◌∷◌, ◌++◌, decimal, refl, ap, sym, ◌∙◌, arith}
use Rattle.std.specs.Str.Parse.{AllDigits, digits_value}
use Rattle.std.proofs.lemmas.Fmt.{decimal_is_IsNumeral}
use Rattle.std.proofs.lemmas.List.{append_assoc, append_cancel_right}
use Rattle.mail_base.specs.Frames.{header}
use Rattle.command_texts.specs.Cutting.{crlf, IsDue}

-- no brace stands among digits
no_brace : (xs ys : List ℕ) → AllDigits 10 (xs ++ 123 ∷ ys) → ⊥
no_brace [] ys all = omega (arith, all.0)
no_brace (x ∷ xs) ys all = no_brace xs ys all.1

-- the digits behind the last brace
same_digits : (front back : List ℕ) (left right : List ℕ) → AllDigits 10 left → AllDigits 10 right → front ++ 123 ∷ left ≡ back ++ 123 ∷ right → left ≡ right
same_digits [] [] left right all all' same = cc
same_digits [] (b ∷ back) left right all all' same =
    let tail : left ≡ back ++ 123 ∷ right = cc in
    absurd (no_brace back right (rw tail at all))
same_digits (f ∷ front) [] left right all all' same =
    let tail : front ++ 123 ∷ left ≡ right = cc in
    absurd (no_brace front left (rw (← tail) at all'))
same_digits (f ∷ front) (b ∷ back) left right all all' same =
    let tail : front ++ 123 ∷ left ≡ back ++ 123 ∷ right = cc in
    same_digits front back left right all all' tail

header_front : (front digits : List ℕ) → front ++ header digits ≡ (front ++ 123 ∷ digits) ++ 125 ∷ []
header_front front digits = sym (append_assoc front (123 ∷ digits) (125 ∷ []))

pub same_header : (front back left right : List ℕ) → AllDigits 10 left → AllDigits 10 right → front ++ header left ≡ back ++ header right → left ≡ right
same_header front back left right all all' same =
    same_digits front back left right all all'
    (append_cancel_right (front ++ 123 ∷ left) (back ++ 123 ∷ right) (125 ∷ []) (sym (header_front front left) ∙ same ∙ header_front back right))

-- behind a part that announces n octets, n are due
pub due_behind : (front : List ℕ) (n : ℕ) → n < 2 ^ 64 → IsDue (((front ++ header (decimal n)) ++ crlf) ∷ []) n
due_behind front n fits =
    let numeral = decimal_is_IsNumeral n fits in (
      λ digits announces. sym numeral.1 ∙ ap (digits_value 10) (same_header front announces.front (decimal n) digits numeral.0.1 announces.number.1
          (append_cancel_right (front ++ header (decimal n)) (announces.front ++ header digits) crlf announces.text)),
      λ none. absurd (none (decimal n) (record { front = front; number = numeral.0; text = refl })),
    )

-- a part that ends in another byte announces none
other_end : (front back : List ℕ) (byte : ℕ) → (byte ≡ 125 → ⊥) → front ++ byte ∷ [] ≡ back ++ 125 ∷ [] → ⊥
other_end [] [] byte other same = other cc
other_end [] (b ∷ []) byte other same = cc
other_end [] (b ∷ c ∷ back) byte other same = cc
other_end (f ∷ []) [] byte other same = cc
other_end (f ∷ g ∷ front) [] byte other same = cc
other_end (f ∷ front) (b ∷ back) byte other same =
    let tail : front ++ byte ∷ [] ≡ back ++ 125 ∷ [] = cc in
    other_end front back byte other tail

pub none_due : (front : List ℕ) (byte : ℕ) → (byte ≡ 125 → ⊥) → IsDue (((front ++ byte ∷ []) ++ crlf) ∷ []) 0
none_due front byte other = (
  λ digits announces. absurd (other_end front (announces.front ++ 123 ∷ digits) byte other
      (append_cancel_right (front ++ byte ∷ []) (announces.front ++ header digits) crlf announces.text ∙ header_front announces.front digits)),
  λ none. refl,
)

-- what is due is said of the last part
pub due_last : (before : List (List ℕ)) (part : List ℕ) (octets : ℕ) → IsDue (part ∷ []) octets → IsDue (before ++ part ∷ []) octets
due_last [] part octets due = due
due_last (x ∷ []) part octets due = due
due_last (x ∷ y ∷ before) part octets due = due_last (y ∷ before) part octets due
