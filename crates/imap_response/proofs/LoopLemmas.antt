-- One turn of each loop over what is left of a line.
use Rattle.std.proofs.Common.{◌≡◌, ℕ, zero, suc, ◌+◌, ◌-◌, ◌<◌, ◌≤◌, Bool, true, false, List, [], ◌∷◌, ◌++◌, length, Result, Ok, Err}
use Rattle.std.proofs.Common.{refl, sym, ◌∙◌, ap, append_assoc, append-nil, arith}
use Rattle.std.proofs.lemmas.Bool.{eqb-true}
use Rattle.std.proofs.lemmas.Bool.Decides.{nat_tests}
use Rattle.std.specs.Prelude.{◌==◌, if◌then◌else◌}
use Rattle.imap_tokens.specs.declared.token.TokenKind.{TokenKind}
use Rattle.imap_tokens.specs.declared.token.TokenKind.TheVariants as kinds
use Rattle.imap_response.specs.declared.fault.Misfit.{Misfit}
use Rattle.imap_response.specs.declared.fault.Misfit.TheVariants as misfits
use Rattle.imap_response.specs.Reads.{◌>>=◌, Fails, IsPlace}
use Rattle.imap_response.specs.Leaf.{blank_at}
use Rattle.imap_response.specs.WordLists.{next_word_at, words_from, words_at}
use Rattle.imap_response.specs.Left.{Left, next_at}
use Rattle.imap_response.specs.ReadValues.{closes, deeper_by, list_from, is_bracket, section_from}

-- a misfit of the first reading is one of the whole
pub broken : {A B : Type 0} (misfit : Misfit) (read : Result A ℕ) (f : A → Result B ℕ) (whole : Result B ℕ) → Fails misfit read →
    whole ≡ (read >>= f) → Fails misfit whole
broken (misfits.At left) read f whole fails is = rw (is, fails) refl
broken misfits.Memory read f whole fails is = tt

pub broken_same : {A : Type 0} (misfit : Misfit) (read whole : Result A ℕ) → Fails misfit read → whole ≡ read → Fails misfit whole
broken_same (misfits.At left) read whole fails is = is ∙ fails
broken_same misfits.Memory read whole fails is = tt

-- a reader that takes no memory refuses at a place
pub at_place : {A : Type 0} (misfit : Misfit) (read : Result A ℕ) → IsPlace misfit → Fails misfit read → (left : ℕ) × (read ≡ Err left)
at_place (misfits.At left) read place fails = (left, fails)
at_place misfits.Memory read place fails = absurd place

-- whether spaces alone are left
pub is_blank : (blank text : List ℕ) (test : Bool) → blank ≡ blank_at text → test ≡ (length blank == 0) → test ≡ true → length (blank_at text) ≡ 0
is_blank blank text test is tested found = ap length (sym is) ∙ eqb-true _ _ (sym tested ∙ found)

pub not_blank : (blank text : List ℕ) (test : Bool) → blank ≡ blank_at text → test ≡ (length blank == 0) → test ≡ false → 0 < length (blank_at text)
not_blank blank text test is tested other = let e : (length (blank_at text) == 0) ≡ false =
    ap (λ b. length b == 0) (sym is) ∙ sym tested ∙ other in grind (arith, nat_tests)

turn : (n k : ℕ) → k < n → n - k ≡ suc (n - (k + 1))
turn n k within = omega (arith, within)

out : (n k : ℕ) → n ≤ k → n - k ≡ 0
out n k over = omega (arith, over)

-- lists
pub list_step : (n k deeper : ℕ) (left : Left) → k < n
    → list_from (n - k) deeper left ≡ (next_at left >>= λ token. if closes token.0 deeper then Ok token.2 else list_from (n - (k + 1))
    (deeper_by token.0 deeper) token.2)
unfolding list_from
list_step n k deeper left within = rw (turn n k within) refl

pub list_closed : (n k deeper : ℕ) (left behind : Left) (kind : TokenKind) (text : List ℕ) → k < n →
    next_at left ≡ Ok (kind, text, behind) → closes kind deeper ≡ true
    → list_from (n - k) deeper left ≡ Ok behind
list_closed n k deeper left behind kind text within read is = list_step n k deeper left within ∙ rw (read, is) refl

pub list_on : (n k deeper : ℕ) (left behind : Left) (kind : TokenKind) (text : List ℕ) → k < n → next_at left ≡ Ok (kind, text, behind) →
    closes kind deeper ≡ false
    → list_from (n - k) deeper left ≡ list_from (n - (k + 1)) (deeper_by kind deeper) behind
list_on n k deeper left behind kind text within read is = list_step n k deeper left within ∙ rw (read, is) refl

pub list_out : (n k deeper : ℕ) (left : Left) → n ≤ k → list_from (n - k) deeper left ≡ Err 0
unfolding list_from
list_out n k deeper left over = rw (out n k over) refl

pub deeper_fits : (kind : TokenKind) (deeper k : ℕ) → deeper ≤ k → deeper_by kind deeper ≤ k + 1
deeper_fits kinds.LeftParen deeper k fits = omega (arith, fits)
deeper_fits kinds.RightParen zero k fits = omega arith
deeper_fits kinds.RightParen (suc deeper) k fits = omega (arith, fits)
deeper_fits kinds.Atom deeper k fits = omega (arith, fits)
deeper_fits kinds.Number deeper k fits = omega (arith, fits)
deeper_fits kinds.Nil deeper k fits = omega (arith, fits)
deeper_fits kinds.Quoted deeper k fits = omega (arith, fits)
deeper_fits kinds.Literal deeper k fits = omega (arith, fits)
deeper_fits kinds.LeftBracket deeper k fits = omega (arith, fits)
deeper_fits kinds.RightBracket deeper k fits = omega (arith, fits)
deeper_fits kinds.Space deeper k fits = omega (arith, fits)

-- sections
pub section_step : (n k : ℕ) (left : Left) → k < n
    → section_from (n - k) left ≡ (next_at left >>= λ token. if is_bracket token.0 then Ok token.2 else section_from (n - (k + 1)) token.2)
unfolding section_from
section_step n k left within = rw (turn n k within) refl

pub section_closed : (n k : ℕ) (left behind : Left) (kind : TokenKind) (text : List ℕ) → k < n → next_at left ≡ Ok (kind, text, behind) → is_bracket kind ≡ true
    → section_from (n - k) left ≡ Ok behind
section_closed n k left behind kind text within read is = section_step n k left within ∙ rw (read, is) refl

pub section_on : (n k : ℕ) (left behind : Left) (kind : TokenKind) (text : List ℕ) → k < n → next_at left ≡ Ok (kind, text, behind) → is_bracket kind ≡ false
    → section_from (n - k) left ≡ section_from (n - (k + 1)) behind
section_on n k left behind kind text within read is = section_step n k left within ∙ rw (read, is) refl

pub section_out : (n k : ℕ) (left : Left) → n ≤ k → section_from (n - k) left ≡ Err 0
unfolding section_from
section_out n k left over = rw (out n k over) refl

-- words
abbrev pub with_words : List (List ℕ) → Result (List (List ℕ) × List ℕ) ℕ → Result (List (List ℕ) × List ℕ) ℕ
with_words front (Ok read) = Ok (front ++ read.0, read.1)
with_words front (Err left) = Err left

no_words : (read : Result (List (List ℕ) × List ℕ) ℕ) → with_words [] read ≡ read
no_words (Ok read) = refl
no_words (Err left) = refl

pub words_first : (text : List ℕ) → with_words [] (words_from (length text - 0) text) ≡ words_at text
words_first text = let e : length text - 0 ≡ length text = omega arith in rw e (no_words (words_from (length text) text))

pub words_done : (n : ℕ) (front : List (List ℕ)) (text : List ℕ) → length (blank_at text) ≡ 0 → with_words front (words_from n text) ≡ Ok (front, text)
unfolding words_from
words_done zero front text none = rw (append-nil front) refl
words_done (suc n) front text none = rw (none, append-nil front) refl

pub words_out : (n k : ℕ) (front : List (List ℕ)) (text : List ℕ) → n ≤ k → with_words front (words_from (n - k) text) ≡ Ok (front, text)
unfolding words_from
words_out n k front text over = rw (out n k over, append-nil front) refl

pub words_step : (n k : ℕ) (text : List ℕ) → k < n → 0 < length (blank_at text)
    → words_from (n - k) text ≡ (next_word_at text >>= λ word. words_from (n - (k + 1)) word.1 >>= λ words. Ok (word.0 ∷ words.0, words.1))
unfolding words_from
words_step n k text within some = let test : (length (blank_at text) == 0) ≡ false = grind (arith, nat_tests) in rw (turn n k within, test) refl

broken_words : {A : Type 0} (misfit : Misfit) (front : List (List ℕ)) (read : Result A ℕ) (f : A → Result (List (List ℕ) × List ℕ) ℕ)
    (whole : Result (List (List ℕ) × List ℕ) ℕ)
    → Fails misfit read → whole ≡ with_words front (read >>= f) → Fails misfit whole
broken_words (misfits.At left) front read f whole fails is = rw (is, fails) refl
broken_words misfits.Memory front read f whole fails is = tt

pub words_break : (misfit : Misfit) (front : List (List ℕ)) (n k : ℕ) (text : List ℕ) (whole : Result (List (List ℕ) × List ℕ) ℕ) → k < n →
    0 < length (blank_at text)
    → Fails misfit (next_word_at text) → with_words front (words_from (n - k) text) ≡ whole → Fails misfit whole
words_break misfit front n k text whole within some fails is =
    broken_words misfit front _ _ whole fails (sym is ∙ ap (with_words front) (words_step n k text within some))

one_word : (front : List (List ℕ)) (word : List ℕ) (read : Result (List (List ℕ) × List ℕ) ℕ) →
    with_words front (read >>= λ words. Ok (word ∷ words.0, words.1)) ≡ with_words (front ++ word ∷ []) read
one_word front word (Ok read) = rw (append_assoc front (word ∷ []) read.0) refl
one_word front word (Err left) = refl

pub words_on : (front : List (List ℕ)) (n k : ℕ) (text word later : List ℕ) → k < n → 0 < length (blank_at text) → next_word_at text ≡ Ok (word, later)
    → with_words front (words_from (n - k) text) ≡ with_words (front ++ word ∷ []) (words_from (n - (k + 1)) later)
words_on front n k text word later within some read =
    ap (with_words front) (words_step n k text within some ∙ rw read refl) ∙ one_word front word (words_from (n - (k + 1)) later)
