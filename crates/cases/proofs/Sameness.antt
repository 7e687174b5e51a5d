-- Why words are compared in one form, or memory is out.
use Rattle.std.proofs.Common.{◌≡◌, ℕ, suc, ◌==◌, ◌<◌, ◌+◌, Bool, true, false, List, [], ◌∷◌, ◌++◌, Result, Ok, Err, IsOk, IsErr, IsErrAnd, IfOk, IfErr, All, length, map, take, get_or, refl, sym, ap, subst, ◌∙◌, true≢false, arith}
use Rattle.std.proofs.Math.Seq.{take-suc}
use Rattle.std.proofs.lemmas.Bool.{eqb-true}
use Rattle.std.proofs.lemmas.List.{map-append}
use Rattle.cases.specs.Answers.{added, joined, one_form}
use Rattle.cases.specs.Comparing.{Means, Tells}
use Rattle.cases.specs.Reading.{IsWord, ended, line_of}
use Rattle.cases.specs.declared.fault.Fault.{Fault}
use Rattle.cases.specs.declared.fault.Fault.TheVariants as faults
use Rattle.cases.specs.declared.fault.WordFault.{WordFault}
use Rattle.cases.specs.declared.fault.WordFault.TheVariants as words
use Rattle.cases.specs.declared.words.Word.{Word}
use Rattle.cases.proofs.ReadAgain.{first_word, left_of, some_bytes}

-- one more word
pub added_more : (text : List ℕ) (texts : List (List ℕ)) (word : List ℕ) → added text (texts ++ word ∷ []) ≡ joined (added text texts) word
added_more text [] word = refl
added_more text (first ∷ texts) word = added_more (joined text first) texts word

-- a turn of the loop that adds words
pub turn : (words : List Word) (i : ℕ) (word : Word) (had now : List ℕ) → i < length words → word ≡ get_or words i word →
    had ≡ added [] (map one_form (take i words)) → now ≡ joined had (one_form word) → now ≡ added [] (map one_form (take (i + 1) words))
turn words i word had now below is so next =
    let more : suc i ≡ i + 1 = omega arith in
    next ∙ ap (λ text. joined text (one_form word)) so ∙ sym (added_more [] (map one_form (take i words)) (one_form word))
    ∙ ap (added []) (sym (map-append one_form (take i words) (word ∷ [])))
    ∙ ap (λ l. added [] (map one_form l)) (ap (λ w. take i words ++ w ∷ []) is ∙ sym (take-suc words i word below) ∙ ap (λ n. take n words) more)

-- of a result, what is so where it is Ok, and nothing is to be said otherwise
pub if_ok : {T E : Type 0} (r : Result T E) (P : Type 0) → (IsOk r → P) → IfOk r (λ _. P)
if_ok (Ok x) P so = so refl
if_ok (Err y) P so = tt

pub no_err : {T E : Type 0} (r : Result T E) (P : E → Type 0) → IsOk r → IfErr r P
no_err (Ok x) P is = tt
no_err (Err y) P is = absurd (true≢false (sym is))

pub no_ok : {T E : Type 0} (r : Result T E) (P : T → Type 0) → IsErr r → IfOk r P
no_ok (Ok x) P is = absurd (true≢false (sym is))
no_ok (Err y) P is = tt

-- words that can't be read for want of memory
pub out_of_memory : {T : Type 0} (r : Result T Fault) (given : WordFault) → IsErr r → IsErrAnd r (λ fault. Means fault given) → given ≡ words.Memory →
    IfErr r (λ fault. fault ≡ faults.Memory)
out_of_memory (Ok x) given is and memory = tt
out_of_memory (Err y) given is and memory = subst (Means y) memory and

pub tells_memory : {T : Type 0} (r : Result T Fault) (due came : List ℕ) → IfErr r (λ fault. fault ≡ faults.Memory) → IfErr r (λ fault. Tells fault due came)
tells_memory (Ok x) due came is = tt
tells_memory (Err y) due came is = subst (λ fault. Tells fault due came) (sym is) tt

-- a line of words isn't empty
pub some_words : (word : Word) (more : List Word) → IsWord word → [] ≡ line_of (word ∷ more) → ⊥
some_words word more one is = some_bytes word (ended (left_of more)) one (is ∙ first_word word more)

no_bytes : (text : List ℕ) → length text ≡ 0 → text ≡ []
no_bytes [] is = refl
no_bytes (byte ∷ text) is = absurd (omega (arith, is))

pub empty_text : (text : List ℕ) (r : Bool) → r ≡ (length text == 0) → r ≡ true → text ≡ []
empty_text text r e is = no_bytes text (eqb-true (length text) 0 (sym e ∙ is))

pub some_text : (text : List ℕ) (r : Bool) → r ≡ (length text == 0) → r ≡ false → text ≡ [] → ⊥
some_text text r e other is = true≢false (sym (e ∙ ap (λ l. length l == 0) is) ∙ other)

pub none_is : (words : List Word) → All IsWord words → [] ≡ line_of words → [] ≡ added [] (map one_form words)
none_is [] are is = refl
none_is (word ∷ more) are is = absurd (some_words word more (are 0 word (omega arith)) is)

-- what is so of the words of a line that isn't empty
pub of_some : (P : List Word → Type 0) (text : List ℕ) (words : List Word) → (text ≡ [] → ⊥) → All IsWord words → text ≡ line_of words →
    ((first : Word) (more : List Word) → All IsWord (first ∷ more) → text ≡ line_of (first ∷ more) → P (first ∷ more)) → P words
of_some P text [] some are is so = absurd (some is)
of_some P text (first ∷ more) some are is so = so first more are is
