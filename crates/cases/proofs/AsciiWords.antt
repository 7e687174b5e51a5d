-- A word is written in ASCII, so it is text.
use Rattle.std.proofs.Common.{◌≡◌, ℕ, suc, ◌<◌, ◌^◌, ◌/◌, ◌%◌, ◌==◌, ◌&&◌, nat_le, nat_lt, not, Bool, true, false, cond, List, [], ◌∷◌, ◌++◌, All, codes, decimal, length, slice_index, flat_map, refl, ap, ap₂, ◌∙◌, sym, zero, true≢false, Result, Ok, Err, IsOk, IfOk, Vec, arith}
use Rattle.std.specs.Result.{result_unwrap_or}
use Rattle.std.specs.Prelude.{String}
use Rattle.std.specs.String.{string_bytes, string_vec}
use Rattle.std.specs.declared.alloc.Global.{Global}
use Rattle.std.specs.List.{list_all}
use Rattle.std.specs.Str.{IsAscii, IsUtf8}
use Rattle.std.proofs.lemmas.Bool.{and_parts, leb-true, lt-ltb, ltb-true}
use Rattle.std.proofs.lemmas.Fmt.{IsAscii-decimal}
use Rattle.std.proofs.lemmas.List.Folds.{list_all-append}
use Rattle.std.proofs.lemmas.List.Sums.{AllPass-from_list_all}
use Rattle.std.proofs.lemmas.Str.{IsAscii-append, IsUtf8-from_ascii}
use Rattle.std.proofs.lemmas.Str.Ascii.{IsAscii-from_all}
use Rattle.cases.specs.Written.{counted, hex_byte, is_bare, is_bare_word, is_long_run, is_parting, quoted, quoted_byte, written}

abbrev small : ℕ → Bool
small byte = nat_lt byte 128

all_small : (xs ys : List ℕ) → list_all small xs ≡ true → list_all small ys ≡ true → list_all small (xs ++ ys) ≡ true
all_small xs ys h k = list_all-append small xs ys ∙ ap₂ (λ a b. a && b) h k

to_ascii : (xs : List ℕ) → list_all small xs ≡ true → IsAscii xs
to_ascii xs h = IsAscii-from_all xs (λ k d within. ltb-true _ 128 (AllPass-from_list_all small xs h k d within))

digit_small : (h : ℕ) → h < 16 → small (slice_index (codes "0123456789abcdef") h) ≡ true
digit_small h within = AllPass-from_list_all small (codes "0123456789abcdef") refl h 0 within

digits_small : (b : ℕ) → b < 256 → list_all small (hex_byte b) ≡ true
digits_small b within =
    ap₂ (λ x y. x && y) (digit_small (b / 16) (omega (arith, within))) (ap₂ (λ x y. x && y) (digit_small (b % 16) (omega arith)) refl)

either : (t : Bool) (xs ys : List ℕ) → (t ≡ true → list_all small xs ≡ true) → list_all small ys ≡ true → list_all small (cond t xs ys) ≡ true
either true xs ys h k = h refl
either false xs ys h k = k

up_to_126 : (b : ℕ) → nat_le b 126 ≡ true → small b ≡ true
up_to_126 b h = lt-ltb b 128 (omega (arith, leb-true b 126 h))

byte_small : (b : ℕ) → b < 256 → list_all small (quoted_byte b) ≡ true
byte_small b within =
    either (b == 34) (codes "\\\"") _ (λ e. refl)
    (either (b == 92) (codes "\\\\") _ (λ e. refl)
    (either (b == 13) (codes "\\r") _ (λ e. refl)
    (either (b == 10) (codes "\\n") _ (λ e. refl)
    (either (nat_le 32 b && nat_le b 126) (b ∷ []) _
    (λ e. ap₂ (λ x y. x && y) (up_to_126 b (and_parts (nat_le 32 b) (nat_le b 126) e).1) refl)
    (all_small (codes "\\x") (hex_byte b) refl (digits_small b within))))))

each_small : (text : List ℕ) → All (λ b. b < 256) text → list_all small (flat_map quoted_byte text) ≡ true
each_small [] within = refl
each_small (b ∷ text) within =
    all_small (quoted_byte b) (flat_map quoted_byte text) (byte_small b (within 0 0 (omega arith)))
    (each_small text (λ k d below. within (suc k) d (omega (arith, below))))

quoted_small : (text : List ℕ) → All (λ b. b < 256) text → list_all small (quoted text) ≡ true
quoted_small text within = all_small (flat_map quoted_byte text) (34 ∷ []) (each_small text within) refl

bare_small : (text : List ℕ) → list_all is_bare text ≡ true → list_all small text ≡ true
bare_small [] all = refl
bare_small (b ∷ text) all =
    let both = and_parts (is_bare b) (list_all is_bare text) all in
    let one = and_parts (nat_le b 126) (not (b == 34)) (and_parts (nat_le 33 b) _ both.0).1 in
    ap₂ (λ x y. x && y) (up_to_126 b one.0) (bare_small text both.1)

one_within : (b : ℕ) (text : List ℕ) → All (λ b. b < 256) (b ∷ text) → All (λ b. b < 256) (b ∷ [])
one_within b text within zero d below = within 0 0 (omega arith)
one_within b text within (suc k) d below = absurd (omega (arith, below))

counted_ascii : (text : List ℕ) → All (λ b. b < 256) text → length text < 2 ^ 64 → IsAscii (counted text)
counted_ascii [] within size = to_ascii (quoted []) refl
counted_ascii (b ∷ text) within size =
    IsAscii-append (quoted (b ∷ [])) (42 ∷ decimal (length (b ∷ text))) (to_ascii (quoted (b ∷ [])) (quoted_small (b ∷ []) (one_within b text within)))
    (IsAscii-append (42 ∷ []) (decimal (length (b ∷ text))) (to_ascii (42 ∷ []) refl) (IsAscii-decimal (length (b ∷ text)) size))

of_two : (t : Bool) (xs ys : List ℕ) → (t ≡ true → IsAscii xs) → IsAscii ys → IsAscii (cond t xs ys)
of_two true xs ys h k = h refl
of_two false xs ys h k = k

pub written_utf8 : (word : List ℕ) → All (λ b. b < 256) word → length word < 2 ^ 64 → IsUtf8 (written word)
written_utf8 word within size =
    IsUtf8-from_ascii (written word)
    (of_two (is_long_run word) (counted word) _ (λ e. counted_ascii word within size)
    (of_two (is_bare_word word) word (quoted word)
    (λ e. to_ascii word (bare_small word (and_parts (list_all is_bare word) (not (is_parting word)) (and_parts (nat_lt 0 (length word)) _ e).1).0))
    (to_ascii (quoted word) (quoted_small word within))))

-- bytes that are text are taken as they are
pub text_of : {E : Type 0} (r : Result (String Global) E) (other : String Global) (bytes : Vec ℕ Global) → IsOk r → IfOk r (λ text. string_vec text ≡ bytes) →
    string_bytes (result_unwrap_or r other) ≡ bytes.items
text_of (Ok text) other bytes is same = ap (λ v. v.items) same
text_of (Err fault) other bytes is same = absurd (true≢false (sym is))
