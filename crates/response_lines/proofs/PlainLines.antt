-- Lines without literals: no byte of them opens a literal or ends the line.
use Rattle.std.proofs.Common.{◌≡◌, ℕ, ◌+◌, Bool, true, false, List, [], ◌∷◌, ◌++◌, refl, sym, ◌∙◌, ap, arith}
use Rattle.std.proofs.lemmas.Bool.{and_parts}
use Rattle.std.proofs.lemmas.Bool.Decides.{nat_tests}
use Rattle.std.proofs.lemmas.List.{append-nil}
use Rattle.std.proofs.lemmas.List.Folds.{list_all-append}
use Rattle.std.specs.Prelude.{◌&&◌, ◌==◌, ◌≢◌, not, nat_lt, IsTrue}
use Rattle.std.specs.List.{AllByRecursion, list_all, flat_map}
use Rattle.std.specs.Str.Parse.{IsNumeral}
use Rattle.mail_base.specs.Frames.{NoLf, header}
use Rattle.imap_model.specs.Lines.{IsSpelled}
use Rattle.imap_model.specs.Parts.{IsPart, part_text, literals_from, bytes, EndsInHeader}
use Rattle.imap_model.specs.Responses.{IsLineOf}
use Rattle.imap_model.specs.TextParts.{IsText}
use Rattle.imap_model.specs.Words.{Spaced, is_word_byte, IsWord}
use Rattle.imap_model.specs.declared.response.Response.{Response}
use Rattle.response_lines.specs.Bracketed.{is_inner_byte}

-- a byte that neither ends a line nor begins a literal's header
abbrev pub is_quiet_byte : ℕ → Bool
is_quiet_byte byte = nat_lt 31 byte && not (byte == 123)

pub both_true : (a b : Bool) → a ≡ true → b ≡ true → (a && b) ≡ true
both_true a b h k = rw (h, k) refl

pub all_join : (p : ℕ → Bool) (a b : List ℕ) → list_all p a ≡ true → list_all p b ≡ true → list_all p (a ++ b) ≡ true
all_join p a b h k = list_all-append p a b ∙ both_true (list_all p a) (list_all p b) h k

pub all_weaker : (p q : ℕ → Bool) → ((b : ℕ) → p b ≡ true → q b ≡ true) → (text : List ℕ) → list_all p text ≡ true → list_all q text ≡ true
all_weaker p q each [] h = refl
all_weaker p q each (b ∷ text) h = let both = and_parts (p b) (list_all p text) h in
    both_true (q b) (list_all q text) (each b both.0) (all_weaker p q each text both.1)

pub all_each : (p : ℕ → Bool) (P : ℕ → Type 0) → ((b : ℕ) → p b ≡ true → P b) → (text : List ℕ) → list_all p text ≡ true → AllByRecursion P text
all_each p P each [] h = tt
all_each p P each (b ∷ text) h = let both = and_parts (p b) (list_all p text) h in (each b both.0, all_each p P each text both.1)

inner_is_quiet : (b : ℕ) → is_inner_byte b ≡ true → is_quiet_byte b ≡ true
inner_is_quiet b h = grind (arith, nat_tests)

pub inner_quiet : (text : List ℕ) → list_all is_inner_byte text ≡ true → list_all is_quiet_byte text ≡ true
inner_quiet text h = all_weaker is_inner_byte is_quiet_byte inner_is_quiet text h

pub quiet_no_lf : (b : ℕ) → is_quiet_byte b ≡ true → b ≢ 10
quiet_no_lf b h e = grind (arith, nat_tests)

pub quiet_no_cr : (b : ℕ) → is_quiet_byte b ≡ true → b ≢ 13
quiet_no_cr b h e = grind (arith, nat_tests)

pub quiet_no_nul : (b : ℕ) → is_quiet_byte b ≡ true → b ≢ 0
quiet_no_nul b h e = grind (arith, nat_tests)

-- no literal's header begins in the text
no_start : (front more : List ℕ) → list_all is_quiet_byte (front ++ 123 ∷ more) ≡ true → ⊥
no_start [] more h = cc
no_start (b ∷ front) more h = no_start front more (and_parts (is_quiet_byte b) (list_all is_quiet_byte (front ++ 123 ∷ more)) h).1

pub quiet_closed : (text : List ℕ) → list_all is_quiet_byte text ≡ true → (front digits : List ℕ) → IsNumeral 10 digits → text ≡ front ++ header digits → ⊥
quiet_closed text h front digits numeral is = no_start front (digits ++ 125 ∷ []) (ap (list_all is_quiet_byte) (sym is) ∙ h)

pub quiet_open : (text : List ℕ) → list_all is_quiet_byte text ≡ true → EndsInHeader text → ⊥
quiet_open text h ends = quiet_closed text h ends.0 ends.1 ends.2 ends.3

pub quiet_text : (text : List ℕ) → list_all is_quiet_byte text ≡ true → IsText text
quiet_text text h = record {
  plain = all_each is_quiet_byte (λ byte. (byte ≢ 0) × (byte ≢ 10) × (byte ≢ 13)) (λ b is. (quiet_no_nul b is, quiet_no_lf b is, quiet_no_cr b is)) text h;
  closed = quiet_open text h;
}

pub quiet_lf : (text : List ℕ) → list_all is_quiet_byte text ≡ true → NoLf text
quiet_lf text h = all_each is_quiet_byte (λ byte. byte ≢ 10) quiet_no_lf text h

-- bytes as parts of a line
pub lawful_bytes : (text : List ℕ) → AllByRecursion IsPart (bytes text)
lawful_bytes [] = tt
lawful_bytes (b ∷ text) = (tt, lawful_bytes text)

pub text_of_bytes : (text : List ℕ) → text ≡ flat_map part_text (bytes text)
text_of_bytes [] = refl
text_of_bytes (b ∷ text) = ap (λ (t : List ℕ). b ∷ t) (text_of_bytes text)

pub no_literals : (text : List ℕ) (at : ℕ) → literals_from at (bytes text) ≡ []
no_literals [] at = refl
no_literals (b ∷ text) at = no_literals text (at + 1)

-- a line without literals
pub quiet_spelled : (response : Response) (line : List ℕ) → list_all is_quiet_byte line ≡ true → IsLineOf line (bytes line) response → IsSpelled response line
quiet_spelled response line quiet of = record {
  frame = record { bytes = line; literals = []; at = 0 };
  is_line = record { openings = []; last = line; opened = tt; plain = quiet_lf line quiet; closed = quiet_closed line quiet; text = refl; literals = refl };
  spells = (
    bytes line,
    record {
      lawful = lawful_bytes line;
      text = text_of_bytes line;
      unused = [];
      literals =
          sym (append-nil (literals_from 0 (bytes line)) ∙ no_literals line 0);
    },
    of,
  );
  text = refl;
}

-- no space begins the text
abbrev pub IsUnspaced : List ℕ → Type 0
IsUnspaced text = (later : List ℕ) → text ≢ 32 ∷ later

pub one_space : (rest : List ℕ) → IsUnspaced rest → Spaced (32 ∷ rest) rest
one_space rest none = record { gap = 32 ∷ []; spaces = (λ e. cc, (refl, tt)); whole = refl; no_more = none }

pub begins_unspaced : (b : ℕ) (more : List ℕ) → (b == 32) ≡ false → IsUnspaced (b ∷ more)
begins_unspaced b more h later is = let e : b ≡ 32 = cc in grind (arith, nat_tests)

-- the text begins with a word
pub word_unspaced : (word more : List ℕ) → word ≢ [] → list_all is_word_byte word ≡ true → IsUnspaced (word ++ more)
word_unspaced [] more some h later is = some refl
word_unspaced (b ∷ word) more some h later is =
    let first : b ≡ 32 = cc in
    let wide = (and_parts (is_word_byte b) (list_all is_word_byte word) h).0 in
    grind (arith, nat_tests)

pub is_a_word : (word : List ℕ) → word ≢ [] → list_all is_word_byte word ≡ true → IsWord word
is_a_word word some h = (some, all_each is_word_byte (λ byte. IsTrue (is_word_byte byte)) (λ b is. is) word h)
