-- Lines by their word: the rows for words, sets and searches, as they are read and as they are spelled.
use Rattle.std.proofs.Common.{◌≡◌, ◌≢◌, ℕ, map, ◌<◌, Bool, true, false, cond, List, [], ◌∷◌, ◌++◌, length, codes, refl, ap, sym, ◌∙◌}
use Rattle.std.proofs.Common.{subst, inl, inr, arith, append_assoc, Result, Ok, Err}
use Rattle.std.proofs.lemmas.Bool.Decides.{nat_tests}
use Rattle.std.specs.Prelude.{◌==◌}
use Rattle.uid_sets.specs.SequenceSet.{Spells as SpellsSet}
use Rattle.uid_sets.specs.declared.uid.UidRange.{UidRange}
use Rattle.imap_model.specs.declared.response.Response.{Response}
use Rattle.imap_model.specs.declared.response.Response.TheVariants as responses
use Rattle.imap_model.specs.Responses.{EndsInWords}
use Rattle.imap_model.specs.Words.{SameWord, AreSpaces, Spaced}
use Rattle.imap_model.specs.Values.{is_wide_byte, IsWide}
use Rattle.std.specs.Char.{to_ascii_lowercase}
use Rattle.std.proofs.lemmas.List.{map-append}
use Rattle.imap_model.proofs.Cutting.{Stops as Ends}
use Rattle.imap_response.specs.Leaf.{gap_at, end_at, mark_at, named_at}
use Rattle.imap_response.specs.Reads.{◌>>=◌, or_else}
use Rattle.imap_response.specs.Sets.{set_at}
use Rattle.imap_response.specs.WordLists.{words_at}
use Rattle.imap_response.specs.ReadLines.{capability_line_at, enabled_at, vanished_set_at, vanished_at}
use Rattle.imap_response.proofs.spelling.Names.{IsNamed, named_spells, named_reads}
use Rattle.imap_response.proofs.spelling.Numbers.{IsFront}
use Rattle.imap_response.proofs.spelling.Pairs.{set_is_wide}
use Rattle.imap_response.proofs.spelling.Results.{ok_is, ok_second, ok_bind, bind_ok, ok_or_else, or_else_ok, or_else_err, some_items, items_some}
use Rattle.imap_response.proofs.spelling.Sets.{set_at_spells, set_at_reads}
use Rattle.imap_response.proofs.spelling.WordLists.{words_spells, words_reads}
use Rattle.imap_response.proofs.spelling.Words.{gap_spells, gap_reads, mark_spells, mark_reads, end_spells, end_reads}

abbrev Words : Type 0
Words = List (List ℕ) × List ℕ

-- CAPABILITY
abbrev capable : Words → Unit {0} → Result Response ℕ
capable words done = Ok (responses.Capability words.0)

abbrev some_words : Words → Result Response ℕ
some_words words = cond (length words.0 == 0) (Err 0) (end_at words.1 >>= capable words)

pub capability_spells : (text : List ℕ) (response : Response) → capability_line_at text ≡ Ok response →
    (words : List (List ℕ)) × EndsInWords text words × (words ≢ []) × (responses.Capability words ≡ response)
unfolding capability_line_at
capability_spells text response is =
    let words = ok_bind (words_at text) some_words response is in
    let some = ok_second (length words.0.0 == 0) 0 (end_at words.0.1 >>= capable words.0) response words.2 in
    let done = ok_bind (end_at words.0.1) (capable words.0) response some.1 in
    let spelled = words_spells (length text) text words.0 (omega arith) words.1 in
    (words.0.0, (words.0.1, spelled.0, spelled.1), items_some words.0.0 some.0, ok_is (responses.Capability words.0.0) response done.2)

pub capability_reads : (text : List ℕ) (words : List (List ℕ)) → EndsInWords text words → words ≢ [] → capability_line_at text ≡ Ok (responses.Capability words)
unfolding capability_line_at
capability_reads text words ends some =
    bind_ok (words_at text) some_words (words, ends.0) (responses.Capability words) (words_reads words (length text) text ends.0 (omega arith) ends.1 ends.2)
    (rw (some_items words some) (bind_ok (end_at ends.0) (capable (words, ends.0)) tt (responses.Capability words) (end_reads ends.0 ends.2) refl))

-- ENABLED
abbrev enabled_by : Words → Unit {0} → Result Response ℕ
enabled_by words end = Ok (responses.Enabled words.0)

abbrev enabled_end : Words → Result Response ℕ
enabled_end words = end_at words.1 >>= enabled_by words

pub enabled_spells : (text : List ℕ) (response : Response) → enabled_at text ≡ Ok response →
    (words : List (List ℕ)) × EndsInWords text words × (responses.Enabled words ≡ response)
unfolding enabled_at
enabled_spells text response is =
    let words = ok_bind (words_at text) enabled_end response is in
    let done = ok_bind (end_at words.0.1) (enabled_by words.0) response words.2 in
    let spelled = words_spells (length text) text words.0 (omega arith) words.1 in
    (words.0.0, (words.0.1, spelled.0, spelled.1), ok_is (responses.Enabled words.0.0) response done.2)

pub enabled_reads : (text : List ℕ) (words : List (List ℕ)) → EndsInWords text words → enabled_at text ≡ Ok (responses.Enabled words)
unfolding enabled_at
enabled_reads text words ends =
    bind_ok (words_at text) enabled_end (words, ends.0) (responses.Enabled words) (words_reads words (length text) text ends.0 (omega arith) ends.1 ends.2)
    (bind_ok (end_at ends.0) (enabled_by (words, ends.0)) tt (responses.Enabled words) (end_reads ends.0 ends.2) refl)

-- VANISHED
abbrev Set : Type 0
Set = List UidRange × List ℕ

abbrev vanished_by : Bool → Set → Unit {0} → Result Response ℕ
vanished_by earlier uids end = Ok (responses.Vanished earlier uids.0)

abbrev vanished_end : Bool → Set → Result Response ℕ
vanished_end earlier uids = end_at uids.1 >>= vanished_by earlier uids

abbrev IsSetLine : List ℕ → List UidRange → Type 0
IsSetLine text uids = (set : List ℕ) × (blank : List ℕ) × (text ≡ set ++ blank) × SpellsSet set uids × AreSpaces blank

set_line_spells : (earlier : Bool) (text : List ℕ) (response : Response) → vanished_set_at earlier text ≡ Ok response →
    (uids : List UidRange) × IsSetLine text uids × (responses.Vanished earlier uids ≡ response)
unfolding vanished_set_at
set_line_spells earlier text response is =
    let uids = ok_bind (set_at text) (vanished_end earlier) response is in
    let done = ok_bind (end_at uids.0.1) (vanished_by earlier uids.0) response uids.2 in
    let front = set_at_spells text uids.0.0 uids.0.1 uids.1 in
    (uids.0.0, (front.run, uids.0.1, front.whole, front.spells, end_spells uids.0.1 done.1), ok_is (responses.Vanished earlier uids.0.0) response done.2)

blank_wide : (text : List ℕ) → AreSpaces text → Ends is_wide_byte text
blank_wide [] spaces = tt
blank_wide (b ∷ text) spaces = ap is_wide_byte spaces.0

set_line_reads : (earlier : Bool) (set blank : List ℕ) (uids : List UidRange) → SpellsSet set uids → AreSpaces blank →
    vanished_set_at earlier (set ++ blank) ≡ Ok (responses.Vanished earlier uids)
unfolding vanished_set_at
set_line_reads earlier set blank uids spells spaces =
    let front : IsFront SpellsSet (set ++ blank) uids blank = record { run = set; spells = spells; whole = refl; ends = blank_wide blank spaces } in
    bind_ok (set_at (set ++ blank)) (vanished_end earlier) (uids, blank) (responses.Vanished earlier uids) (set_at_reads (set ++ blank) uids blank front)
    (bind_ok (end_at blank) (vanished_by earlier (uids, blank)) tt (responses.Vanished earlier uids) (end_reads blank spaces) refl)

abbrev from_end : List ℕ → Result Response ℕ
from_end end = gap_at end >>= vanished_set_at true

abbrev from_word : List ℕ → Result Response ℕ
from_word word = mark_at 41 word >>= from_end

abbrev from_paren : List ℕ → Result Response ℕ
from_paren inside = named_at (codes "EARLIER") inside >>= from_word

abbrev from_gap : List ℕ → Result Response ℕ
from_gap after = or_else (mark_at 40 after) from_paren (vanished_set_at false after)

vanished_is : (text : List ℕ) → vanished_at text ≡ (gap_at text >>= from_gap)
unfolding vanished_at
vanished_is text = refl

-- what stands behind the word VANISHED
abbrev pub IsVanished : List ℕ → Bool → List UidRange → Type 0
IsVanished rest false uids = (set : List ℕ) × (blank : List ℕ) × Spaced rest (set ++ blank) × SpellsSet set uids × AreSpaces blank
IsVanished rest true uids = (word : List ℕ) × (later : List ℕ) × (set : List ℕ) × (blank : List ℕ) × Spaced rest (word ++ later)
    × SameWord word (codes "(EARLIER)") × Spaced later (set ++ blank) × SpellsSet set uids × AreSpaces blank

paren_word : (word : List ℕ) → SameWord word (codes "EARLIER") → SameWord (40 ∷ (word ++ 41 ∷ [])) (codes "(EARLIER)")
paren_word word same = ap (λ (t : List ℕ). 40 ∷ t) (map-append to_ascii_lowercase word (41 ∷ []) ∙ ap (λ (t : List ℕ). t ++ 41 ∷ []) same)

pub vanished_spells : (text : List ℕ) (response : Response) → vanished_at text ≡ Ok response →
    (earlier : Bool) × (uids : List UidRange) × IsVanished text earlier uids × (responses.Vanished earlier uids ≡ response)
vanished_spells text response is =
    let after = ok_bind (gap_at text) from_gap response (sym (vanished_is text) ∙ is) in
    let spaced = gap_spells text after.0 after.1 in
    elim (ok_or_else (mark_at 40 after.0) from_paren (vanished_set_at false after.0) response after.2) [
      | inl inside ↦
          let word = ok_bind (named_at (codes "EARLIER") inside.0) from_word response inside.2 in
          let end = ok_bind (mark_at 41 word.0) from_end response word.2 in
          let set = ok_bind (gap_at end.0) (vanished_set_at true) response end.2 in
          let w = set_line_spells true set.0 response set.2 in
          let named = named_spells (codes "EARLIER") inside.0 word.0 word.1 in
          let whole : after.0 ≡ (40 ∷ (named.word ++ 41 ∷ [])) ++ end.0 =
          mark_spells 40 after.0 inside.0 inside.1 ∙ ap (λ (t : List ℕ). 40 ∷ t)
          (named.whole ∙ ap (λ (t : List ℕ). named.word ++ t) (mark_spells 41 word.0 end.0 end.1)
          ∙ sym (append_assoc named.word (41 ∷ []) end.0)) in (
            true,
            w.0,
            (
              40 ∷ (named.word ++ 41 ∷ []),
              end.0,
              w.1.0,
              w.1.1,
              subst (Spaced text) whole spaced,
              paren_word named.word named.same,
              subst (Spaced end.0) w.1.2 (gap_spells end.0 set.0 set.1),
              w.1.3,
              w.1.4,
            ),
            w.2,
          )
      | inr other ↦
          let w = set_line_spells false after.0 response other.2 in
          (false, w.0, (w.1.0, w.1.1, subst (Spaced text) w.1.2 spaced, w.1.3, w.1.4), w.2)
    ]

wide_first : (set blank rest : List ℕ) → IsWide set → set ++ blank ≡ 40 ∷ rest → ⊥
wide_first [] blank rest wide is = wide.0 refl
wide_first (b ∷ set) blank rest wide is = let e : b ≡ 40 = cc in let now : is_wide_byte 40 ≡ true = ap is_wide_byte (sym e) ∙ wide.1.0 in cc

no_paren : (set blank rest : List ℕ) (uids : List UidRange) → SpellsSet set uids → mark_at 40 (set ++ blank) ≡ Ok rest → ⊥
no_paren set blank rest uids spells marked = wide_first set blank rest (set_is_wide set uids spells) (mark_spells 40 (set ++ blank) rest marked)

-- a word in parentheses
record IsParen (word : List ℕ) : Type 0 where
  pub inner : List ℕ
  pub whole : word ≡ 40 ∷ (inner ++ 41 ∷ [])
  pub same : SameWord inner (codes "EARLIER")

vanished_set_reads : (text set blank : List ℕ) (uids : List UidRange) → Spaced text (set ++ blank) → SpellsSet set uids → AreSpaces blank →
    vanished_at text ≡ Ok (responses.Vanished false uids)
vanished_set_reads text set blank uids spaced spells spaces =
    vanished_is text ∙ bind_ok (gap_at text) from_gap (set ++ blank) (responses.Vanished false uids) (gap_reads text (set ++ blank) spaced)
    (or_else_err (mark_at 40 (set ++ blank)) from_paren (vanished_set_at false (set ++ blank))
    (λ rest marked. no_paren set blank rest uids spells marked) ∙ set_line_reads false set blank uids spells spaces)

heads_same : (b c : ℕ) (s t : List ℕ) → b ∷ s ≡ c ∷ t → b ≡ c
heads_same b c s t is = cc

tails_same : (b c : ℕ) (s t : List ℕ) → b ∷ s ≡ c ∷ t → s ≡ t
tails_same b c s t is = cc

-- below the letters nothing changes
fixed : (x c : ℕ) → c < 65 → to_ascii_lowercase x ≡ c → x ≡ c
fixed x c low is = grind (arith, nat_tests)

-- a lower-case text in two pieces
map_split : (word xs ys : List ℕ) → map to_ascii_lowercase word ≡ xs ++ ys →
    (a : List ℕ) × (b : List ℕ) × (word ≡ a ++ b) × (map to_ascii_lowercase a ≡ xs) × (map to_ascii_lowercase b ≡ ys)
map_split word [] ys is = ([], word, refl, refl, is)
map_split [] (x ∷ xs) ys is = absurd cc
map_split (w ∷ word) (x ∷ xs) ys is =
    let more = map_split word xs ys (tails_same (to_ascii_lowercase w) x (map to_ascii_lowercase word) (xs ++ ys) is) in (
      w ∷ more.0,
      more.1,
      ap (λ (t : List ℕ). w ∷ t) more.2,
      ap (λ (c : ℕ). c ∷ map to_ascii_lowercase more.0) (heads_same (to_ascii_lowercase w) x (map to_ascii_lowercase word) (xs ++ ys) is)
          ∙ ap (λ (t : List ℕ). x ∷ t) more.3,
      more.4,
    )

one_fixed : (b : List ℕ) (c : ℕ) → c < 65 → map to_ascii_lowercase b ≡ c ∷ [] → b ≡ c ∷ []
one_fixed [] c low is = absurd cc
one_fixed (x ∷ []) c low is = ap (λ (y : ℕ). y ∷ []) (fixed x c low (heads_same (to_ascii_lowercase x) c [] [] is))
one_fixed (x ∷ y ∷ b) c low is = absurd (let e : to_ascii_lowercase y ∷ map to_ascii_lowercase b ≡ [] =
    tails_same (to_ascii_lowercase x) c (to_ascii_lowercase y ∷ map to_ascii_lowercase b) [] is in cc)

paren_of : (word : List ℕ) → SameWord word (codes "(EARLIER)") → IsParen word
paren_of word same =
    let front = map_split word (40 ∷ []) (map to_ascii_lowercase (codes "EARLIER") ++ 41 ∷ []) same in
    let back = map_split front.1 (map to_ascii_lowercase (codes "EARLIER")) (41 ∷ []) front.4 in
    record {
      inner = back.0;
      whole = front.2 ∙ ap (λ (t : List ℕ). t ++ front.1) (one_fixed front.0 40 (omega arith) front.3)
          ∙ ap (λ (t : List ℕ). 40 ∷ t) (back.2 ∙ ap (λ (t : List ℕ). back.0 ++ t) (one_fixed back.1 41 (omega arith) back.4));
      same = back.3;
    }

earlier_reads : (text word later set blank : List ℕ) (uids : List UidRange) → Spaced text (word ++ later) → IsParen word →
    Spaced later (set ++ blank) → SpellsSet set uids → AreSpaces blank → vanished_at text ≡ Ok (responses.Vanished true uids)
earlier_reads text word later set blank uids spaced paren spaced' spells spaces =
    let inside : List ℕ = paren.inner ++ (41 ∷ later) in
    let after : word ++ later ≡ 40 ∷ (paren.inner ++ (41 ∷ later)) =
    ap (λ (t : List ℕ). t ++ later) paren.whole ∙ ap (λ (t : List ℕ). 40 ∷ t) (append_assoc paren.inner (41 ∷ []) later) in
    let named : IsNamed (codes "EARLIER") (paren.inner ++ (41 ∷ later)) (41 ∷ later) =
    record { word = paren.inner; same = paren.same; whole = refl; ends = refl } in
    vanished_is text ∙ bind_ok (gap_at text) from_gap (word ++ later) (responses.Vanished true uids) (gap_reads text (word ++ later) spaced)
    (or_else_ok (mark_at 40 (word ++ later)) from_paren (vanished_set_at false (word ++ later)) (paren.inner ++ (41 ∷ later))
    (mark_reads 40 (word ++ later) (paren.inner ++ (41 ∷ later)) after)
    ∙ bind_ok (named_at (codes "EARLIER") (paren.inner ++ (41 ∷ later))) from_word (41 ∷ later) (responses.Vanished true uids)
    (named_reads (codes "EARLIER") (paren.inner ++ (41 ∷ later)) (41 ∷ later) refl named)
    (bind_ok (mark_at 41 (41 ∷ later)) from_end later (responses.Vanished true uids) (mark_reads 41 (41 ∷ later) later refl)
    (bind_ok (gap_at later) (vanished_set_at true) (set ++ blank) (responses.Vanished true uids) (gap_reads later (set ++ blank) spaced')
    (set_line_reads true set blank uids spells spaces))))

pub vanished_reads : (text : List ℕ) (earlier : Bool) (uids : List UidRange) → IsVanished text earlier uids →
    vanished_at text ≡ Ok (responses.Vanished earlier uids)
vanished_reads text false uids v = vanished_set_reads text v.0 v.1 uids v.2 v.3 v.4
vanished_reads text true uids v = earlier_reads text v.0 v.1 v.2 v.3 uids v.4 (paren_of v.0 v.5) v.6 v.7 v.8
