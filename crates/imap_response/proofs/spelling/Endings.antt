-- Words that choose the form of a line: what is read, and what is spelled.
use Rattle.std.proofs.Common.{◌≡◌, ◌≢◌, ℕ, true, false, List, [], ◌∷◌, codes, Some, None, refl, ap, inl, inr}
use Rattle.std.proofs.lemmas.Bool.{cases_Bool}
use Rattle.std.specs.List.{list_all}
use Rattle.imap_model.specs.declared.ending.Ending.{Ending}
use Rattle.imap_model.specs.declared.ending.Ending.TheVariants as endings
use Rattle.imap_model.specs.Responses.{ending_word}
use Rattle.imap_model.specs.Words.{SameWord, Spaced, Begins, is_word_byte}
use Rattle.imap_response.specs.Leaf.{same_word, gap_at, word_at}
use Rattle.imap_response.specs.ReadLines.{ending_of, second_word}
use Rattle.imap_response.proofs.spelling.Choices.{same_test}
use Rattle.imap_response.proofs.spelling.Names.{same_is, same_solid}
use Rattle.imap_response.proofs.spelling.WordLists.{IsWordCut, word_cuts}
use Rattle.imap_response.proofs.spelling.Words.{gap_reads}

-- the word names this ending, or none
pub data IsEnding (word : List ℕ) : Type 0 where
  named : (ending : Ending) → SameWord word (ending_word ending) → ending_of word ≡ Some ending → IsEnding word
  other : same_word word (codes "OK") ≡ false → same_word word (codes "NO") ≡ false → same_word word (codes "BAD") ≡ false →
      ending_of word ≡ None → IsEnding word

pub ending_reads : (word : List ℕ) (ending : Ending) → SameWord word (ending_word ending) → ending_of word ≡ Some ending
ending_reads word endings.Ok same = rw (same_test word (codes "OK") (codes "OK") same) refl
ending_reads word endings.No same = rw (same_test word (codes "NO") (codes "OK") same, same_test word (codes "NO") (codes "NO") same) refl
ending_reads word endings.Bad same = rw (
  same_test word (codes "BAD") (codes "OK") same,
  same_test word (codes "BAD") (codes "NO") same,
  same_test word (codes "BAD") (codes "BAD") same,
) refl

none_is : (word : List ℕ) → same_word word (codes "OK") ≡ false → same_word word (codes "NO") ≡ false →
    same_word word (codes "BAD") ≡ false → ending_of word ≡ None
none_is word a b c = rw (a, b, c) refl

pub ending_cases : (word : List ℕ) → IsEnding word
ending_cases word = elim (cases_Bool (same_word word (codes "OK"))) [
  | inl ok ↦ (let same = same_is word (codes "OK") ok in named endings.Ok same (ending_reads word endings.Ok same))
  | inr a ↦ elim (cases_Bool (same_word word (codes "NO"))) [
    | inl no_ ↦ (let same = same_is word (codes "NO") no_ in named endings.No same (ending_reads word endings.No same))
    | inr b ↦ elim (cases_Bool (same_word word (codes "BAD"))) [
      | inl bad ↦ (let same = same_is word (codes "BAD") bad in named endings.Bad same (ending_reads word endings.Bad same))
      | inr c ↦ other a b c (none_is word a b c)
    ]
  ]
]

-- the first word of a text
pub begins_with_word : (text name : List ℕ) → (word_at text).0 ≢ [] → SameWord (word_at text).0 name → Begins text name (word_at text).1
begins_with_word text name some same =
    let cut = word_cuts text some in
    record { word = (word_at text).0; same = same; whole = cut.whole; ends = cut.stops }

some_same : (word name : List ℕ) → name ≢ [] → SameWord word name → word ≢ []
some_same [] [] some same = absurd (some refl)
some_same [] (c ∷ name) some same = absurd cc
some_same (b ∷ word) name some same = λ is. cc

pub begins_cut : (text name rest : List ℕ) → name ≢ [] → list_all is_word_byte name ≡ true → (b : Begins text name rest) → IsWordCut text b.word rest
begins_cut text name rest some solid b =
    record { is_word = (some_same b.word name some b.same, same_solid b.word name b.same solid); stops = b.ends; whole = b.whole }

pub word_same : (text : List ℕ) (name : List ℕ) → name ≢ [] → SameWord (word_at text).0 name → (word_at text).0 ≢ []
word_same text name some same = some_same (word_at text).0 name some same

-- the word behind a number
pub second_is : (text behind : List ℕ) → Spaced text behind → second_word (gap_at text) ≡ word_at behind
second_is text behind spaced = ap second_word (gap_reads text behind spaced)
