-- A literal as a token: what is read, and what is spelled.
use Rattle.std.proofs.Common.{◌≡◌, ℕ, suc, ◌+◌, ◌-◌, ◌<◌, ◌≤◌, true, false, cond, List, [], ◌∷◌, ◌++◌, length, take, drop, Option, Some}
use Rattle.std.proofs.Common.{None, refl, ap, sym, ◌∙◌, inl, inr, arith, nat_lt, append_assoc, length-append}
use Rattle.std.proofs.Math.Seq.{drop-append_seam}
use Rattle.std.proofs.lemmas.Bool.{cases_Bool, and_parts}
use Rattle.std.proofs.lemmas.Bool.Decides.{nat_tests}
use Rattle.std.proofs.lemmas.List.{take-append-drop, length-take}
use Rattle.std.proofs.lemmas.List.Folds.{length-prefix_len}
use Rattle.std.specs.Prelude.{◌&&◌, ◌==◌, nat_eq, nat_le}
use Rattle.std.specs.List.{prefix_len, starts_with}
use Rattle.std.specs.Char.{is_ascii_digit}
use Rattle.std.specs.Str.Parse.{IsNumeral}
use Rattle.mail_base.specs.Frames.{header}
use Rattle.mail_base.specs.declared.span.Span.{Span}
use Rattle.imap_tokens.specs.Tokens.{header_size, literal_of, literal_size}
use Rattle.imap_model.specs.Parts.{Literal, part_text, literals_from}
use Rattle.imap_response.proofs.NumberLemmas.{digits_front}
use Rattle.imap_response.proofs.spelling.Numbers.{digits_pass}
use Rattle.imap_response.proofs.spelling.Results.{is_byte}
use Rattle.imap_response.proofs.spelling.Runs.{cut_len}

-- a header behind its `{`, with its CRLF
pub record IsHeader (more digits rest : List ℕ) : Type 0 where
  pub numeral : IsNumeral 10 digits
  pub whole : more ≡ digits ++ 125 ∷ 13 ∷ 10 ∷ rest

three : (text : List ℕ) → starts_with nat_eq text (125 ∷ 13 ∷ 10 ∷ []) ≡ true → (rest : List ℕ) × (text ≡ 125 ∷ 13 ∷ 10 ∷ rest)
three [] test = absurd cc
three (a ∷ []) test = absurd (let e : (125 == a && false) ≡ true = test in cc (and_parts (125 == a) false e).1)
three (a ∷ b ∷ []) test = absurd (let e : (125 == a && (13 == b && false)) ≡ true = test in
    cc (and_parts (13 == b) false (and_parts (125 == a) (13 == b && false) e).1).1)
three (a ∷ b ∷ c ∷ rest) test =
    let e : (125 == a && (13 == b && (10 == c && true))) ≡ true = test in
    let one = and_parts (125 == a) (13 == b && (10 == c && true)) e in
    let two = and_parts (13 == b) (10 == c && true) one.1 in
    let last = and_parts (10 == c) true two.1 in
    let x : 125 ≡ a = is_byte 125 a one.0 in
    let y : 13 ≡ b = is_byte 13 b two.0 in
    let z : 10 ≡ c = is_byte 10 c last.0 in
    (rest, cc)

header_from : (more : List ℕ) (n k : ℕ) → prefix_len is_ascii_digit more ≡ n →
    cond (nat_lt 0 n && starts_with nat_eq (drop n more) (125 ∷ 13 ∷ 10 ∷ [])) (Some (n + 4)) None ≡ Some k
    → (digits : List ℕ) × (rest : List ℕ) × IsHeader more digits rest × (k ≡ length digits + 4)
header_from more n k is found = elim (cases_Bool (nat_lt 0 n && starts_with nat_eq (drop n more) (125 ∷ 13 ∷ 10 ∷ []))) [
  | inl test ↦
      let both = and_parts (nat_lt 0 n) (starts_with nat_eq (drop n more) (125 ∷ 13 ∷ 10 ∷ [])) test in
      let size : ◌≡◌ {A = Option ℕ} (Some (n + 4)) (Some k) = sym (rw test refl) ∙ found in
      let same : n + 4 ≡ k = cc in
      let some : 0 < n = (let t = both.0 in grind (arith, nat_tests)) in
      let len : length (take (prefix_len is_ascii_digit more) more) ≡ n = length-prefix_len is_ascii_digit more ∙ is in
      let front : take n more ≡ take (prefix_len is_ascii_digit more) more = ap (λ (k : ℕ). take k more) (sym is) in
      let rest = three (drop n more) both.1 in (
        take (prefix_len is_ascii_digit more) more,
        rest.0,
        record {
          numeral = (omega (arith, len, some), digits_front more);
          whole =
              sym (take-append-drop n more) ∙ ap (λ (t : List ℕ). t ++ drop n more) front
              ∙ ap (λ (t : List ℕ). take (prefix_len is_ascii_digit more) more ++ t) rest.1;
        },
        omega (arith, len, same),
      )
  | inr test ↦ absurd (let no : ◌≡◌ {A = Option ℕ} None (Some k) = sym (rw test refl) ∙ found in cc)
]

header_spells : (more : List ℕ) (k : ℕ) → header_size more ≡ Some k → (digits : List ℕ) × (rest : List ℕ) × IsHeader more digits rest × (k ≡ length digits + 4)
header_spells more k is = header_from more (prefix_len is_ascii_digit more) k refl is

some_digits : (digits : List ℕ) → 0 < length digits → nat_lt 0 (length digits) ≡ true
some_digits digits some = grind (arith, nat_tests)

header_with : (more rest : List ℕ) (n : ℕ) → prefix_len is_ascii_digit more ≡ n → nat_lt 0 n ≡ true → drop n more ≡ 125 ∷ 13 ∷ 10 ∷ rest →
    header_size more ≡ Some (n + 4)
header_with more rest n is some behind = rw is (rw (some, behind) refl)

header_reads : (more digits rest : List ℕ) → IsHeader more digits rest → header_size more ≡ Some (length digits + 4)
header_reads more digits rest is =
    let n : prefix_len is_ascii_digit more ≡ length digits = ap (prefix_len is_ascii_digit) is.whole
    ∙ cut_len is_ascii_digit digits (125 ∷ 13 ∷ 10 ∷ rest) (digits_pass digits is.numeral.1) refl in
    let behind : drop (length digits) more ≡ 125 ∷ 13 ∷ 10 ∷ rest = ap (drop (length digits)) is.whole ∙ drop-append_seam digits (125 ∷ 13 ∷ 10 ∷ rest) in
    header_with more rest (length digits) n (some_digits digits is.numeral.0) behind

-- the tests of the place
fits_tests : (next : Span) (at len h : ℕ) → at ≤ next.low → next.low - at ≡ h → next.low ≤ next.high → next.high - at ≤ len
    → (nat_le at next.low && next.low - at == h && nat_le next.low next.high && nat_le (next.high - at) len) ≡ true
fits_tests next at len h a b c d = grind (arith, nat_tests)

tests_fit : (next : Span) (at len h : ℕ) → (nat_le at next.low && next.low - at == h && nat_le next.low next.high && nat_le (next.high - at) len) ≡ true
    → (at ≤ next.low) × (next.low - at ≡ h) × (next.low ≤ next.high) × (next.high - at ≤ len)
tests_fit next at len h test =
    let outer = and_parts (nat_le at next.low && next.low - at == h && nat_le next.low next.high) (nat_le (next.high - at) len) test in
    let middle = and_parts (nat_le at next.low && next.low - at == h) (nat_le next.low next.high) outer.0 in
    let inner = and_parts (nat_le at next.low) (next.low - at == h) middle.0 in
    let a = inner.0 in let c = middle.1 in let d = outer.1 in
    (grind (arith, nat_tests), is_byte (next.low - at) h inner.1, grind (arith, nat_tests), grind (arith, nat_tests))

pub same_span : (one other : Span) → one.low ≡ other.low → one.high ≡ other.high → one ≡ other
same_span one other low high =
    let by_low : ℕ → Span = λ n. record { low = n; high = one.high } in
    let by_high : ℕ → Span = λ n. record { low = other.low; high = n } in
    ap by_low low ∙ ap by_high high

-- a literal at the front: its span is the next one
pub record IsLiteralFront (literals : List Span) (at : ℕ) (text digits octets rest : List ℕ) (later : List Span) : Type 0 where
  pub numeral : IsNumeral 10 digits
  pub whole : text ≡ part_text (Literal digits octets) ++ rest
  pub spans : literals ≡ literals_from at (Literal digits octets ∷ []) ++ later

pub header_len : (digits : List ℕ) → length (header digits) ≡ length digits + 2
header_len digits = omega (arith, length-append digits (125 ∷ []))

pub literal_len : (digits octets : List ℕ) → length (part_text (Literal digits octets)) ≡ length digits + 4 + length octets
literal_len digits octets = omega (arith, length-append (header digits) (13 ∷ 10 ∷ octets), header_len digits)

literal_whole : (digits octets rest : List ℕ) → 123 ∷ (digits ++ 125 ∷ 13 ∷ 10 ∷ (octets ++ rest)) ≡ part_text (Literal digits octets) ++ rest
literal_whole digits octets rest =
    ap (λ (t : List ℕ). 123 ∷ t) (sym (append_assoc digits (125 ∷ []) (13 ∷ 10 ∷ (octets ++ rest))))
    ∙ ap (λ (t : List ℕ). 123 ∷ t) (sym (append_assoc (digits ++ 125 ∷ []) (13 ∷ 10 ∷ octets) rest))

cut_sizes : (low high at h n len rest : ℕ) → at ≤ low → low - at ≡ h → low ≤ high → high - at ≤ suc len → h ≡ n + 4 →
    len ≡ n + suc (suc (suc rest)) → (high - low ≤ rest) × (high - at ≡ n + 4 + (high - low))
cut_sizes low high at h n len rest a b c d e f = (omega arith, omega arith)

low_is : (low at n : ℕ) → at ≤ low → low - at ≡ n + 4 → at + (n + 2) + 2 ≡ low
low_is low at n a b = omega arith

high_is : (low high k : ℕ) → low ≤ high → k ≡ high - low → low + k ≡ high
high_is low high k a b = omega arith

from_header : (next : Span) (later : List Span) (at size : ℕ) (more digits behind : List ℕ) (h : ℕ) → IsHeader more digits behind → h ≡ length digits + 4
    → (at ≤ next.low) × (next.low - at ≡ h) × (next.low ≤ next.high) × (next.high - at ≤ length (123 ∷ more)) → next.high - at ≡ size
    → (octets : List ℕ) × IsLiteralFront (next ∷ later) at (123 ∷ more) digits octets (drop (next.high - next.low) behind) later
    × (size ≡ length (part_text (Literal digits octets)))
from_header next later at size more digits behind h head is fits same =
    let len : length more ≡ length digits + suc (suc (suc (length behind))) = ap length head.whole ∙ length-append digits (125 ∷ 13 ∷ 10 ∷ behind) in
    let sizes = cut_sizes next.low next.high at h (length digits) (length more) (length behind) fits.0 fits.1 fits.2 fits.3 is len in
    let octets : List ℕ = take (next.high - next.low) behind in
    let octets_len : length (take (next.high - next.low) behind) ≡ next.high - next.low = simp length-take (omega (arith, sizes.0)) in
    let low : at + length (header digits) + 2 ≡ next.low = omega (arith, header_len digits, low_is next.low at (length digits) fits.0 (fits.1 ∙ is)) in
    let high : at + length (header digits) + 2 + length (take (next.high - next.low) behind) ≡ next.high =
    omega (arith, low, high_is next.low next.high (length (take (next.high - next.low) behind)) fits.2 octets_len) in (
      take (next.high - next.low) behind,
      record {
        numeral = head.numeral;
        whole = ap (λ (t : List ℕ). 123 ∷ t) (head.whole ∙ ap (λ (t : List ℕ). digits ++ 125 ∷ 13 ∷ 10 ∷ t)
            (sym (take-append-drop (next.high - next.low) behind))) ∙ literal_whole digits (take (next.high - next.low) behind)
            (drop (next.high - next.low) behind);
        spans = ap (λ (s : Span). s ∷ later) (sym (same_span (record {
          low = at + length (header digits) + 2;
          high =
              at + length (header digits) + 2 + length (take (next.high - next.low) behind);
        }) next low high));
      },
      omega (arith, literal_len digits (take (next.high - next.low) behind), octets_len, sizes.1, same),
    )

literal_of_some : (next : Span) (at len size : ℕ) (o : Option ℕ) → literal_of next at len o ≡ Some size
    → (h : ℕ) × (o ≡ Some h) × ((at ≤ next.low) × (next.low - at ≡ h) × (next.low ≤ next.high) × (next.high - at ≤ len)) × (next.high - at ≡ size)
literal_of_some next at len size None is = absurd cc
literal_of_some next at len size (Some h) is = elim (cases_Bool
    (nat_le at next.low && next.low - at == h && nat_le next.low next.high && nat_le (next.high - at) len)) [
      | inl test ↦
          let same : ◌≡◌ {A = Option ℕ} (Some (next.high - at)) (Some size) = sym (rw test refl) ∙ is in
          (h, refl, tests_fit next at len h test, cc)
      | inr test ↦ absurd (let no : ◌≡◌ {A = Option ℕ} None (Some size) = sym (rw test refl) ∙ is in cc)
    ]

-- what is read is a literal
pub record IsLiteral (literals : List Span) (at : ℕ) (text : List ℕ) (size : ℕ) : Type 0 where
  pub digits : List ℕ
  pub octets : List ℕ
  pub rest : List ℕ
  pub later : List Span
  pub front : IsLiteralFront literals at text digits octets rest later
  pub len : size ≡ length (part_text (Literal digits octets))

pub literal_spells : (literals : List Span) (at : ℕ) (more : List ℕ) (size : ℕ) → literal_size literals at (123 ∷ more) ≡ Some size →
    IsLiteral literals at (123 ∷ more) size
literal_spells [] at more size is = absurd cc
literal_spells (next ∷ later) at more size is =
    let fits = literal_of_some next at (length (123 ∷ more)) size (header_size more) is in
    let w = header_spells more fits.0 fits.1 in
    let front = from_header next later at size more w.0 w.1 fits.0 w.2 w.3 fits.2 fits.3 in
    record { digits = w.0; octets = front.0; rest = drop (next.high - next.low) w.1; later = later; front = front.1; len = front.2 }

-- and a literal is read
literal_with : (next : Span) (at len h : ℕ) (o : Option ℕ) → o ≡ Some h → at ≤ next.low → next.low - at ≡ h → next.low ≤ next.high →
    next.high - at ≤ len → literal_of next at len o ≡ Some (next.high - at)
literal_with next at len h o is a b c d = ap (literal_of next at len) is ∙ rw (fits_tests next at len h a b c d) refl

span_sizes : (at n k len rest : ℕ) → len ≡ n + 4 + k + rest →
    (at ≤ at + (n + 2) + 2) × (at + (n + 2) + 2 - at ≡ n + 4) × (at + (n + 2) + 2 ≤ at + (n + 2) + 2 + k)
    × (at + (n + 2) + 2 + k - at ≤ len) × (at + (n + 2) + 2 + k - at ≡ n + 4 + k)
span_sizes at n k len rest is = (omega arith, omega arith, omega arith, omega arith, omega arith)

pub literal_reads : (literals : List Span) (at : ℕ) (text digits octets rest : List ℕ) (later : List Span) →
    IsLiteralFront literals at text digits octets rest later
    → literal_size literals at text ≡ Some (length (part_text (Literal digits octets)))
literal_reads literals at text digits octets rest later front =
    let text' : List ℕ = part_text (Literal digits octets) ++ rest in
    let n : length (header digits) ≡ length digits + 2 = header_len digits in
    let next : Span = record { low = at + length (header digits) + 2; high = at + length (header digits) + 2 + length octets } in
    let len : length text ≡ length digits + 4 + length octets + length rest =
    ap length front.whole ∙ length-append (part_text (Literal digits octets)) rest
    ∙ ap (λ (k : ℕ). k + length rest) (literal_len digits octets) in
    let sizes = span_sizes at (length digits) (length octets) (length text) (length rest) len in
    let behind : IsHeader (drop 1 text) digits (octets ++ rest) =
    record { numeral = front.numeral; whole = ap (drop 1) (front.whole ∙ sym (literal_whole digits octets rest)) } in
    ap (λ (s : List Span). literal_size s at text) front.spans
    ∙ literal_with next at (length text) (length digits + 4) (header_size (drop 1 text)) (header_reads (drop 1 text) digits (octets ++ rest) behind)
    (omega (arith, n)) (omega (arith, n)) (omega arith) (omega (arith, n, sizes.3))
    ∙ ap (λ (k : ℕ). Some k) (omega (arith, n, sizes.4, literal_len digits octets))
