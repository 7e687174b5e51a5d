-- Words with spaces before each: what is read, and what is spelled.
use Rattle.std.proofs.Common.{◌≡◌, ◌≢◌, ℕ, zero, suc, ◌≤◌, false, cond, List, [], ◌∷◌, ◌++◌, length, refl, ap, sym, ◌∙◌, subst, inl, inr}
use Rattle.std.proofs.Common.{arith, Result, Ok, length-append}
use Rattle.std.specs.Prelude.{◌==◌}
use Rattle.imap_model.specs.Parts.{EndsInHeader}
use Rattle.imap_model.specs.Words.{AreSpaces, Spaced, IsWord, Stops, AreWords, is_word_byte}
use Rattle.imap_model.proofs.Cutting.{Stops as Ends}
use Rattle.imap_response.specs.Leaf.{is_space, blank_at, gap_at, word_at}
use Rattle.imap_response.specs.Reads.{◌>>=◌}
use Rattle.imap_response.specs.WordLists.{header_start, no_header, plain_word_at, next_word_at, words_from}
use Rattle.imap_response.proofs.spelling.Headers.{closed_spells, closed_reads}
use Rattle.imap_response.proofs.spelling.Results.{some_len, len_some, len_none, ok_is, ok_second, ok_either, ok_bind, bind_ok}
use Rattle.imap_response.proofs.spelling.Runs.{IsCut, reading_cuts, cut_front, cut_behind}
use Rattle.imap_response.proofs.spelling.Words.{gap_spells, gap_reads, all_spaces, spaces_end, gap_cut}

-- the text begins with a word, and goes on so
pub record IsWordCut (text word later : List ℕ) : Type 0 where
  pub is_word : IsWord word
  pub stops : Stops later
  pub whole : text ≡ word ++ later

pub stops_ends : (text : List ℕ) → Stops text → Ends is_word_byte text
stops_ends [] stops = tt
stops_ends (b ∷ text) stops = stops

pub ends_stops : (text : List ℕ) → Ends is_word_byte text → Stops text
ends_stops [] ends = tt
ends_stops (b ∷ text) ends = ends

cut_of : (text word later : List ℕ) → IsWordCut text word later → IsCut is_word_byte text word later
cut_of text word later is = record { all = is.is_word.1; ends = stops_ends later is.stops; whole = is.whole }

pub word_front : (text word later : List ℕ) → IsWordCut text word later → (word_at text).0 ≡ word
word_front text word later is = cut_front is_word_byte text word later (cut_of text word later is)

pub word_behind : (text word later : List ℕ) → IsWordCut text word later → (word_at text).1 ≡ later
word_behind text word later is = cut_behind is_word_byte text word later (cut_of text word later is)

pub word_cuts : (text : List ℕ) → (word_at text).0 ≢ [] → IsWordCut text (word_at text).0 (word_at text).1
word_cuts text some =
    let cut = reading_cuts is_word_byte text in
    record { is_word = (some, cut.all); stops = ends_stops (word_at text).1 cut.ends; whole = cut.whole }

-- a word that doesn't end with a header
abbrev plainly : List ℕ → Unit {0} → Result (List ℕ × List ℕ) ℕ
plainly text done = Ok (word_at text)

plain_spells : (text : List ℕ) (word : List ℕ × List ℕ) → plain_word_at text ≡ Ok word → IsWordCut text word.0 word.1 × (EndsInHeader word.0 → ⊥)
unfolding plain_word_at
plain_spells text word is =
    let some = ok_second (length (word_at text).0 == 0) (length text) (no_header text (header_start 0 (word_at text).0) >>= plainly text) word is in
    let closed = ok_bind (no_header text (header_start 0 (word_at text).0)) (plainly text) word some.1 in
    let same = ok_is (word_at text) word closed.2 in
    subst (λ (w : List ℕ × List ℕ). IsWordCut text w.0 w.1 × (EndsInHeader w.0 → ⊥)) same
    (word_cuts text (len_some (word_at text).0 some.0), closed_spells text (word_at text).0 closed.1)

plain_reads : (text word later : List ℕ) → IsWordCut text word later → (EndsInHeader word → ⊥) → plain_word_at text ≡ Ok (word, later)
unfolding plain_word_at
plain_reads text word later is closed =
    let front = word_front text word later is in
    let behind = word_behind text word later is in
    let some : (length (word_at text).0 == 0) ≡ false = ap (λ (w : List ℕ). length w == 0) front ∙ some_len word is.is_word.0 in
    let none : no_header text (header_start 0 (word_at text).0) ≡ Ok tt =
    ap (λ (w : List ℕ). no_header text (header_start 0 w)) front ∙ closed_reads text word closed in
    rw some (bind_ok (no_header text (header_start 0 (word_at text).0)) (plainly text) tt (word, later) none
    (ap (λ (w : List ℕ). Ok (w, (word_at text).1)) front ∙ ap (λ (l : List ℕ). Ok (word, l)) behind))

-- words
abbrev Words : Type 0
Words = List (List ℕ) × List ℕ

abbrev onto : List ℕ → Words → Result Words ℕ
onto word words = Ok (word ∷ words.0, words.1)

abbrev behind_word : ℕ → List ℕ × List ℕ → Result Words ℕ
behind_word more word = words_from more word.1 >>= onto word.0

next_spells : (text : List ℕ) (word : List ℕ × List ℕ) → next_word_at text ≡ Ok word →
    (after : List ℕ) × (gap_at text ≡ Ok after) × (plain_word_at after ≡ Ok word)
unfolding next_word_at
next_spells text word is = ok_bind (gap_at text) plain_word_at word is

next_reads : (text after : List ℕ) (word : List ℕ × List ℕ) → gap_at text ≡ Ok after → plain_word_at after ≡ Ok word → next_word_at text ≡ Ok word
unfolding next_word_at
next_reads text after word gap plain = bind_ok (gap_at text) plain_word_at after word gap plain

words_none : (text : List ℕ) → words_from zero text ≡ Ok ([], text)
unfolding words_from
words_none text = refl

words_step : (more : ℕ) (text : List ℕ) → words_from (suc more) text
    ≡ cond (length (blank_at text) == 0) (Ok ([], text)) (next_word_at text >>= behind_word more)
unfolding words_from
words_step more text = refl

abbrev Spelled : List ℕ → Words → Type 0
Spelled text words = AreWords text words.0 words.1 × AreSpaces words.1

shorter : (text gap after word later : List ℕ) (n : ℕ) → gap ≢ [] → text ≡ gap ++ after → after ≡ word ++ later → length text ≤ suc n → length later ≤ n
shorter text [] after word later n some whole whole' fits = absurd (some refl)
shorter text (g ∷ gap) after word later n some whole whole' fits =
    omega (arith, ap length whole, ap length whole', length-append (g ∷ gap) after, length-append word later)

ends_here : (text : List ℕ) (words : Words) → ◌≡◌ {A = Result Words ℕ} (Ok ([], text)) (Ok words) → AreSpaces text → Spelled text words
ends_here text words is spaces =
    let same = ok_is ([], text) words is in
    subst (λ (w : Words). Spelled text w) same (refl, spaces)

none_left : (text : List ℕ) → length text ≤ 0 → text ≡ []
none_left [] fits = refl
none_left (b ∷ text) fits = absurd (omega arith)

pub words_spells : (n : ℕ) (text : List ℕ) (words : Words) → length text ≤ n → words_from n text ≡ Ok words → Spelled text words
words_spells zero text words fits is =
    ends_here text words (sym (words_none text) ∙ is) (subst AreSpaces (sym (none_left text fits)) tt)
words_spells (suc more) text words fits is =
    elim (ok_either (length (blank_at text) == 0) (Ok ([], text)) (next_word_at text >>= behind_word more) words (sym (words_step more text) ∙ is)) [
      | inl here ↦ ends_here text words here.1 (all_spaces text (len_none (blank_at text) here.0))
      | inr later ↦
          let word = ok_bind (next_word_at text) (behind_word more) words later.1 in
          let after = next_spells text word.0 word.1 in
          let rest = ok_bind (words_from more word.0.1) (onto word.0.0) words word.2 in
          let spaced = gap_spells text after.0 after.1 in
          let plain = plain_spells after.0 word.0 after.2 in
          let fits' = shorter text spaced.gap after.0 word.0.0 word.0.1 more spaced.spaces.0 spaced.whole plain.0.whole fits in
          let spelled = words_spells more word.0.1 rest.0 fits' rest.1 in
          let same = ok_is (word.0.0 ∷ rest.0.0, rest.0.1) words rest.2 in
          subst (λ (w : Words). Spelled text w) same
          ((word.0.1, subst (λ (t : List ℕ). Spaced text t) plain.0.whole spaced, plain.0.is_word, plain.0.stops, plain.1, spelled.0), spelled.1)
    ]

pub blank_some : (text : List ℕ) (after : List ℕ) → Spaced text after → after ≢ [] → (length (blank_at text) == 0) ≡ false
blank_some text after spaced some =
    let cut = gap_cut text spaced.gap after spaced.spaces.1 spaced.no_more spaced.whole in
    ap (λ (t : List ℕ). length t == 0) (cut_behind is_space text spaced.gap after cut) ∙ some_len after some

word_some : (word later : List ℕ) → word ≢ [] → word ++ later ≢ []
word_some [] later some is = some refl
word_some (b ∷ word) later some is = cc

gap_none : (text gap after : List ℕ) → text ≡ gap ++ after → length text ≤ 0 → gap ≡ []
gap_none text [] after whole fits = refl
gap_none text (g ∷ gap) after whole fits = absurd (omega (arith, ap length whole, length-append (g ∷ gap) after))

pub words_reads : (words : List (List ℕ)) (n : ℕ) (text rest : List ℕ) → length text ≤ n → AreWords text words rest → AreSpaces rest →
    words_from n text ≡ Ok (words, rest)
words_reads [] zero text rest fits are spaces = words_none text ∙ ap (λ (t : List ℕ). Ok ([], t)) are
words_reads [] (suc more) text rest fits are spaces =
    let none = spaces_end text (subst AreSpaces (sym are) spaces) in
    words_step more text ∙ rw none (ap (λ (t : List ℕ). Ok ([], t)) are)
words_reads (word ∷ words) zero text rest fits are spaces =
    absurd (are.1.spaces.0 (gap_none text are.1.gap (word ++ are.0) are.1.whole fits))
words_reads (word ∷ words) (suc more) text rest fits are spaces =
    let later : List ℕ = are.0 in
    let spaced = are.1 in
    let cut : IsWordCut (word ++ are.0) word are.0 = record { is_word = are.2; stops = are.3; whole = refl } in
    let some = blank_some text (word ++ are.0) spaced (word_some word are.0 are.2.0) in
    let fits' = shorter text spaced.gap (word ++ are.0) word are.0 more spaced.spaces.0 spaced.whole refl fits in
    let rest' = words_reads words more are.0 rest fits' are.5 spaces in
    words_step more text ∙ rw some (bind_ok (next_word_at text) (behind_word more) (word, are.0) (word ∷ words, rest)
    (next_reads text (word ++ are.0) (word, are.0) (gap_reads text (word ++ are.0) spaced) (plain_reads (word ++ are.0) word are.0 cut are.4))
    (bind_ok (words_from more are.0) (onto word) (words, rest) (word ∷ words, rest) rest' refl))
