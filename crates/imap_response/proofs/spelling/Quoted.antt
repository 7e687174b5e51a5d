-- Quoted strings: what is read, and what is spelled.
use Rattle.std.proofs.Common.{◌≡◌, ℕ, ◌+◌, List, [], ◌∷◌, ◌++◌, length, Option, Some, None, refl, ap, sym, ◌∙◌, arith, append_assoc, length-append}
use Rattle.std.specs.List.{AllByRecursion, flat_map}
use Rattle.imap_tokens.specs.Quoted.{QuotedChar, IsQuotedChar, char_text, inner_text, BeginsQuoted as Begins, NoQuoted}
use Rattle.imap_tokens.specs.Quoted as tokens
use Rattle.imap_tokens.specs.Scan.{quoted_size}
use Rattle.imap_tokens.proofs.Quoted.{quoted_found, quoted_none, one_quoted}
use Rattle.imap_model.specs.Strings.{Character, IsCharacter, character_text, quoted_text, IsQuoted, BeginsQuoted}
use Rattle.imap_model.specs.Strings as strings

-- the same characters in the words of the tokens
abbrev char_of : Character → QuotedChar
char_of (strings.Plain byte) = tokens.Plain byte
char_of (strings.Escaped byte) = tokens.Escaped byte

abbrev of_char : QuotedChar → Character
of_char (tokens.Plain byte) = strings.Plain byte
of_char (tokens.Escaped byte) = strings.Escaped byte

abbrev chars_of : List Character → List QuotedChar
chars_of [] = []
chars_of (c ∷ cs) = char_of c ∷ chars_of cs

abbrev of_chars : List QuotedChar → List Character
of_chars [] = []
of_chars (c ∷ cs) = of_char c ∷ of_chars cs

text_of_char : (c : Character) → char_text (char_of c) ≡ character_text c
text_of_char (strings.Plain byte) = refl
text_of_char (strings.Escaped byte) = refl

text_of_chars : (cs : List Character) → inner_text (chars_of cs) ≡ flat_map character_text cs
text_of_chars [] = refl
text_of_chars (c ∷ cs) = rw (text_of_char c, text_of_chars cs) refl

of_text_char : (c : QuotedChar) → character_text (of_char c) ≡ char_text c
of_text_char (tokens.Plain byte) = refl
of_text_char (tokens.Escaped byte) = refl

of_text_chars : (cs : List QuotedChar) → flat_map character_text (of_chars cs) ≡ inner_text cs
of_text_chars [] = refl
of_text_chars (c ∷ cs) = rw (of_text_char c, of_text_chars cs) refl

lawful_char : (c : Character) → IsCharacter c → IsQuotedChar (char_of c)
lawful_char (strings.Plain byte) is = is
lawful_char (strings.Escaped byte) is = is

lawful_chars : (cs : List Character) → AllByRecursion IsCharacter cs → AllByRecursion IsQuotedChar (chars_of cs)
lawful_chars [] all = tt
lawful_chars (c ∷ cs) all = (lawful_char c all.0, lawful_chars cs all.1)

char_lawful : (c : QuotedChar) → IsQuotedChar c → IsCharacter (of_char c)
char_lawful (tokens.Plain byte) is = is
char_lawful (tokens.Escaped byte) is = is

chars_lawful : (cs : List QuotedChar) → AllByRecursion IsQuotedChar cs → AllByRecursion IsCharacter (of_chars cs)
chars_lawful [] all = tt
chars_lawful (c ∷ cs) all = (char_lawful c all.0, chars_lawful cs all.1)

-- the text begins with a quoted string of so many bytes
pub record IsQuotedFront (text : List ℕ) (characters : List Character) (rest : List ℕ) : Type 0 where
  pub lawful : AllByRecursion IsCharacter characters
  pub whole : text ≡ quoted_text characters ++ rest

quoted_whole : (cs : List Character) (rest : List ℕ) → quoted_text cs ++ rest ≡ 34 ∷ (flat_map character_text cs ++ 34 ∷ rest)
quoted_whole cs rest = ap (λ (t : List ℕ). 34 ∷ t) (append_assoc (flat_map character_text cs) (34 ∷ []) rest)

quoted_len : (cs : List Character) → length (quoted_text cs) ≡ length (flat_map character_text cs) + 2
quoted_len cs = omega (arith, length-append (flat_map character_text cs) (34 ∷ []))

pub quoted_spells : (more : List ℕ) (m : ℕ) → quoted_size more ≡ Some m →
    (cs : List Character) × (rest : List ℕ) × IsQuotedFront (34 ∷ more) cs rest × (m ≡ length (quoted_text cs))
quoted_spells more m is =
    let w = quoted_found more m is in
    let cs : List Character = of_chars w.0 in
    let whole : 34 ∷ more ≡ quoted_text (of_chars w.0) ++ w.1 = w.2.whole
    ∙ ap (λ (t : List ℕ). 34 ∷ (t ++ 34 ∷ w.1)) (sym (of_text_chars w.0)) ∙ sym (quoted_whole (of_chars w.0) w.1) in (
      of_chars w.0,
      w.1,
      record { lawful = chars_lawful w.0 w.2.lawful; whole = whole },
      omega (arith, w.3, quoted_len (of_chars w.0), ap length (of_text_chars w.0)),
    )

begins : (more : List ℕ) (cs : List Character) (rest : List ℕ) → IsQuotedFront (34 ∷ more) cs rest → Begins (34 ∷ more) (length (quoted_text cs))
begins more cs rest is =
    let whole : 34 ∷ more ≡ 34 ∷ (inner_text (chars_of cs) ++ 34 ∷ rest) =
    is.whole ∙ quoted_whole cs rest ∙ ap (λ (t : List ℕ). 34 ∷ (t ++ 34 ∷ rest)) (sym (text_of_chars cs)) in
    (chars_of cs, rest, record { lawful = lawful_chars cs is.lawful; whole = whole }, omega (arith, quoted_len cs, ap length (text_of_chars cs)))

size_from : (more : List ℕ) (m : ℕ) (o : Option ℕ) → quoted_size more ≡ o → Begins (34 ∷ more) m → o ≡ Some m
size_from more m None is there = absurd (quoted_none more is m there)
size_from more m (Some k) is there = ap (λ (n : ℕ). Some n) (one_quoted (34 ∷ more) k m (quoted_found more k is) there)

pub quoted_reads : (more : List ℕ) (cs : List Character) (rest : List ℕ) → IsQuotedFront (34 ∷ more) cs rest → quoted_size more ≡ Some (length (quoted_text cs))
quoted_reads more cs rest is = size_from more (length (quoted_text cs)) (quoted_size more) refl (begins more cs rest is)

pub no_quoted : (more : List ℕ) → quoted_size more ≡ None → BeginsQuoted (34 ∷ more) → ⊥
no_quoted more is there =
    let front : IsQuotedFront (34 ∷ more) there.1 there.2 = record {
      lawful = there.3.lawful;
      whole =
          there.4 ∙ ap (λ (t : List ℕ). t ++ there.2) there.3.whole;
    } in
    let some = quoted_reads more there.1 there.2 front in
    cc

none_from : (more : List ℕ) (o : Option ℕ) → quoted_size more ≡ o → (BeginsQuoted (34 ∷ more) → ⊥) → o ≡ None
none_from more None is other = refl
none_from more (Some m) is other =
    let w = quoted_spells more m is in
    absurd (other (quoted_text w.0, w.0, w.1, record { lawful = w.2.lawful; whole = refl }, w.2.whole))

pub none_quoted : (more : List ℕ) → (BeginsQuoted (34 ∷ more) → ⊥) → quoted_size more ≡ None
none_quoted more other = none_from more (quoted_size more) refl other
