-- Each word that is left is taken in turn.
use Rattle.std.proofs.Common.{◌≡◌, ℕ, suc, Bool, true, false, cond, List, [], ◌∷◌, ◌++◌, Option, Some, None, is_some, length, map, codes, sym, ap, ap₂, ◌∙◌, append_assoc, append-nil, true≢false, arith}
use Rattle.std.proofs.lemmas.List.{map-append}
use Rattle.std.specs.Prelude.{String}
use Rattle.std.specs.String.{string_bytes}
use Rattle.std.specs.declared.alloc.Global.{Global}
use Rattle.cases.specs.Taking.{bytes_of, is_keyword, next_text}
use Rattle.cases.specs.declared.words.Word.{Word}

abbrev taking : List ℕ → List Word → Option (List ℕ × List Word)
taking text rest = Some (text, rest)

abbrev text_in : List ℕ → Option (List ℕ × List Word) → List ℕ
text_in other None = other
text_in other (Some both) = both.0

abbrev rest_in : List Word → Option (List ℕ × List Word) → List Word
rest_in other None = other
rest_in other (Some both) = both.1

took_by : (word : Word) (more rest : List Word) (text : List ℕ) → taking word.bytes more ≡ taking text rest →
    (bytes_of (word ∷ more) ≡ text ∷ bytes_of rest) × (length (word ∷ more) ≡ suc (length rest))
took_by word more rest text is = (
  ap₂ (λ t ws. t ∷ bytes_of ws) (ap (text_in text) is) (ap (rest_in rest) is),
  ap (λ o. suc (length (rest_in rest o))) is,
)

took_if : (t : Bool) (word : Word) (more rest : List Word) (text : List ℕ) → cond t None (taking word.bytes more) ≡ taking text rest →
    (bytes_of (word ∷ more) ≡ text ∷ bytes_of rest) × (length (word ∷ more) ≡ suc (length rest))
took_if true word more rest text is = absurd (true≢false (sym (ap is_some is)))
took_if false word more rest text is = took_by word more rest text is

pub took : (words : List Word) (text : List ℕ) (rest : List Word) → next_text words ≡ Some (text, rest) →
    (bytes_of words ≡ text ∷ bytes_of rest) × (length words ≡ suc (length rest))
took [] text rest is = absurd (true≢false (sym (ap is_some is)))
took (word ∷ more) text rest is = took_if (is_keyword (codes ";") word) word more rest text is

-- a turn of the loop that takes the words
pub taken : (had : List (List ℕ)) (text : List ℕ) (words rest all : List Word) → had ++ bytes_of words ≡ bytes_of all →
    next_text words ≡ Some (text, rest) → (had ++ text ∷ []) ++ bytes_of rest ≡ bytes_of all
taken had text words rest all is next =
    append_assoc had (text ∷ []) (bytes_of rest) ∙ ap (λ l. had ++ l) (sym (took words text rest next).0) ∙ is

-- and its end
pub all_taken : (had : List (List ℕ)) (words all : List Word) → had ++ bytes_of words ≡ bytes_of all → length words ≡ 0 → had ≡ bytes_of all
all_taken had [] all is none = sym (append-nil had) ∙ is
all_taken had (word ∷ more) all is none = absurd (omega (arith, none))

-- a text more, and the words that are left
pub letters_more : (texts now : List (String Global)) (text : String Global) (letters : List ℕ) (words rest all : List Word) →
    map string_bytes texts ++ bytes_of words ≡ bytes_of all → now ≡ texts ++ text ∷ [] → string_bytes text ≡ letters →
    next_text words ≡ Some (letters, rest) → map string_bytes now ++ bytes_of rest ≡ bytes_of all
letters_more texts now text letters words rest all is more same next =
    ap (λ l. l ++ bytes_of rest)
    (ap (map string_bytes) more ∙ map-append string_bytes texts (text ∷ []) ∙ ap (λ l. map string_bytes texts ++ l ∷ []) same)
    ∙ taken (map string_bytes texts) letters words rest all is next
