-- The lines of searches, and the sets that they tell.
use Rattle.std.proofs.Common.{◌≡◌, ◌⊎◌, ◌↔◌, ℕ, zero, suc, ◌+◌, ◌-◌, ◌<◌, ◌≤◌, ◌^◌, Bool, true, false, List, [], ◌∷◌, ◌++◌, refl, sym}
use Rattle.std.proofs.Common.{◌∙◌, ap, subst, arith, map, decimal, inl, inr, append_assoc}
use Rattle.std.proofs.lemmas.Bool.{and_parts, cases_Bool}
use Rattle.std.proofs.lemmas.Bool.Decides.{nat_tests}
use Rattle.std.proofs.lemmas.List.{append-nil, map-append}
use Rattle.std.proofs.lemmas.List.Elements.{Contains-append_left, Contains-append_right, Contains-append_cases, Contains-push_cases}
use Rattle.std.specs.Prelude.{◌&&◌, nat_lt, Contains, codes}
use Rattle.std.specs.Char.{is_ascii_digit}
use Rattle.std.specs.List.{AllByRecursion, list_all, flat_map}
use Rattle.mail_base.specs.declared.tag.Tag.{Tag}
use Rattle.mail_base.specs.declared.tag.Tag.TheVariants as tags
use Rattle.uid_sets.specs.Spelling.{set_text}
use Rattle.uid_sets.specs.UidSet.{Member, RisesAbove, IsCanonical}
use Rattle.uid_sets.specs.declared.uid.UidRange.{UidRange}
use Rattle.uid_sets.proofs.RoundTrip.{set_spells}
use Rattle.imap_model.specs.Lines.{IsSpelled}
use Rattle.response_lines.specs.Tellable.{TagFits}
use Rattle.imap_model.specs.Parts.{Part, Byte, bytes}
use Rattle.imap_model.specs.Searches.{AreNumbers, MayCorrelate, ArePairs, Pair, All, TellsExtended, found_of}
use Rattle.imap_model.specs.Strings.{Plain, IsCharacter, IsQuotedOf, character_text, character_byte}
use Rattle.imap_model.specs.Words.{Spaced, Stops}
use Rattle.imap_model.specs.declared.response.Response.TheVariants as responses
use Rattle.response_lines.specs.LineTexts.{◌⌢◌, all_text, count_text, found_text, members_text, tag_text}
use Rattle.response_lines.proofs.LineCodes.{number_unspaced}
use Rattle.response_lines.proofs.LineNumbers.{a_nonzero, decimal_all, digit_quiet, set_quiet}
use Rattle.response_lines.proofs.LineSpelled.{named, tag_quiet}
use Rattle.response_lines.proofs.PlainLines.{is_quiet_byte, all_join, one_space, quiet_spelled}

-- so many numbers from one on
abbrev pub counted : ℕ → ℕ → List ℕ
counted least zero = []
counted least (suc count) = least ∷ counted (least + 1) count

abbrev pub members_of : List UidRange → List ℕ
members_of [] = []
members_of (range ∷ ranges) = counted range.low (range.high + 1 - range.low) ++ members_of ranges

first_or : (x : ℕ) (xs : List ℕ) (y : ℕ) → Contains (x ∷ xs) y → (x ≡ y) ⊎ Contains xs y
first_or x xs y h = elim (Contains-append_cases (x ∷ []) xs y h) [
  | inl here ↦ elim (Contains-push_cases [] x y here) [
    | inl none ↦ absurd (let lt = none.1 in omega arith)
    | inr e ↦ inl e
  ]
  | inr later ↦ inr later
]

counted_in : (least count uid : ℕ) → Contains (counted least count) uid → (least ≤ uid) × (uid < least + count)
counted_in least zero uid h = absurd (let lt = h.1 in omega arith)
counted_in least (suc count) uid h = elim (first_or least (counted (least + 1) count) uid h) [
  | inl e ↦ (omega arith, omega arith)
  | inr later ↦ let more = counted_in (least + 1) count uid later in (omega (arith, more.0), omega (arith, more.1))
]

counted_out : (least count uid : ℕ) → least ≤ uid → uid < least + count → Contains (counted least count) uid
counted_out least zero uid h k = absurd (omega arith)
counted_out least (suc count) uid h k = elim (cases_Bool (nat_lt least uid)) [
  | inl above ↦
      let less : least < uid = grind (arith, nat_tests) in
      Contains-append_right (least ∷ []) (counted (least + 1) count) uid (counted_out (least + 1) count uid (omega arith) (omega arith))
  | inr not_above ↦
      let same : least ≡ uid = grind (arith, nat_tests) in
      (0, omega arith, same)
]

-- the numbers of a set are its members
pub members_are : (uids : List UidRange) (uid : ℕ) → Member uids uid ↔ Contains (members_of uids) uid
members_are [] uid = (λ m. absurd m, λ h. absurd (let lt = h.1 in omega arith))
members_are (r ∷ uids) uid = (
  λ m. elim m [
    | inl within ↦ let above = within.above in let below = within.below in
        Contains-append_left (counted r.low (r.high + 1 - r.low)) (members_of uids) uid
        (counted_out r.low (r.high + 1 - r.low) uid above (omega arith))
    | inr later ↦ Contains-append_right (counted r.low (r.high + 1 - r.low)) (members_of uids) uid ((members_are uids uid).0 later)
  ],
  λ h. elim (Contains-append_cases (counted r.low (r.high + 1 - r.low)) (members_of uids) uid h) [
    | inl here ↦ let ends = counted_in r.low (r.high + 1 - r.low) uid here in
        inl (record { above = ends.0; below = (let last = ends.1 in let first = ends.0 in omega arith) })
    | inr later ↦ inr ((members_are uids uid).1 later)
  ],
)

-- numbers behind spaces
count_stops : (least count : ℕ) (more : List ℕ) → Stops more → Stops (count_text least count ++ more)
unfolding ◌⌢◌
count_stops least zero more stops = stops
count_stops least (suc count) more stops = refl

count_numbers : (least count : ℕ) (more numbers rest : List ℕ) → 0 < least → least + count ≤ 2 ^ 32 → Stops more →
    AreNumbers more numbers rest → AreNumbers (count_text least count ++ more) (counted least count ++ numbers) rest
unfolding ◌⌢◌
count_numbers least zero more numbers rest some fits stops are = are
count_numbers least (suc count) more numbers rest some fits stops are = (
  decimal least,
  count_text (least + 1) count ++ more,
  subst (λ (t : List ℕ). Spaced (32 ∷ t) (decimal least ++ (count_text (least + 1) count ++ more)))
      (sym (append_assoc (decimal least) (count_text (least + 1) count) more))
      (one_space (decimal least ++ (count_text (least + 1) count ++ more)) (number_unspaced least (count_text (least + 1) count ++ more) (omega arith))),
  a_nonzero least some (omega arith),
  count_stops (least + 1) count more stops,
  count_numbers (least + 1) count more numbers rest (omega arith) (omega arith) stops are,
)

members_stop : (uids : List UidRange) → Stops (members_text uids)
unfolding ◌⌢◌
members_stop [] = tt
members_stop (r ∷ uids) = count_stops r.low (r.high + 1 - r.low) (members_text uids) (members_stop uids)

members_numbers : (floor : ℕ) (uids : List UidRange) → RisesAbove floor uids → AreNumbers (members_text uids) (members_of uids) []
unfolding ◌⌢◌
members_numbers floor [] rises = refl
members_numbers floor (r ∷ uids) rises =
    let a = rises.0.above in
    let o = rises.0.ordered in
    let f = rises.0.fits in
    count_numbers r.low (r.high + 1 - r.low) (members_text uids) (members_of uids) [] (omega arith) (omega arith) (members_stop uids)
    (members_numbers (r.high + 1) uids rises.1)

count_quiet : (least count : ℕ) → least + count ≤ 2 ^ 32 → list_all is_quiet_byte (count_text least count) ≡ true
unfolding ◌⌢◌
count_quiet least zero fits = refl
count_quiet least (suc count) fits = all_join is_quiet_byte (decimal least) (count_text (least + 1) count)
    (decimal_all is_quiet_byte digit_quiet least (omega arith)) (count_quiet (least + 1) count (omega arith))

members_quiet : (floor : ℕ) (uids : List UidRange) → RisesAbove floor uids → list_all is_quiet_byte (members_text uids) ≡ true
unfolding ◌⌢◌
members_quiet floor [] rises = refl
members_quiet floor (r ∷ uids) rises =
    let o = rises.0.ordered in
    let f = rises.0.fits in
    all_join is_quiet_byte (count_text r.low (r.high + 1 - r.low)) (members_text uids)
    (count_quiet r.low (r.high + 1 - r.low) (omega arith)) (members_quiet (r.high + 1) uids rises.1)

-- SEARCH
pub search_spelled : (tag : Tag) (uids : List UidRange) → IsCanonical uids → IsSpelled (responses.Found uids) (found_text true tag uids)
unfolding ◌⌢◌
search_spelled tag uids is =
    quiet_spelled (responses.Found uids) (codes "* SEARCH" ++ members_text uids) (members_quiet 0 uids is)
    (inl (
      members_text uids,
      refl,
      named 83 (codes "EARCH") (members_text uids) refl (members_stop uids),
      (members_of uids, [], members_numbers 0 uids is, inl tt, record { canonical = is; members = members_are uids }),
    ))

-- the tag between quotes: a byte of a tag of ours
abbrev is_own_byte : ℕ → Bool
is_own_byte b = nat_lt 47 b && nat_lt b 91

own_character : (b : ℕ) → is_own_byte b ≡ true → IsCharacter (Plain b)
own_character b h = (
  λ e. grind (arith, nat_tests),
  λ e. grind (arith, nat_tests),
  λ e. grind (arith, nat_tests),
  λ e. grind (arith, nat_tests),
  λ e. grind (arith, nat_tests),
)

digit_own : (b : ℕ) → is_ascii_digit b ≡ true → is_own_byte b ≡ true
digit_own b h = grind (arith, nat_tests)

tag_own : (tag : Tag) → TagFits tag → list_all is_own_byte (tag_text tag) ≡ true
unfolding ◌⌢◌
tag_own (tags.Play n) kept = decimal_all is_own_byte digit_own n (omega arith)
tag_own (tags.Again n t) kept =
    all_join is_own_byte (decimal n) (82 ∷ decimal t) (decimal_all is_own_byte digit_own n (omega arith)) (decimal_all is_own_byte digit_own t (omega arith))
tag_own (tags.Count n) kept = decimal_all is_own_byte digit_own n (omega arith)
tag_own tags.Strange kept = refl

characters : (text : List ℕ) → list_all is_own_byte text ≡ true → AllByRecursion IsCharacter (map Plain text)
characters [] h = tt
characters (b ∷ text) h = let both = and_parts (is_own_byte b) (list_all is_own_byte text) h in (own_character b both.0, characters text both.1)

texts_are : (text : List ℕ) → flat_map character_text (map Plain text) ≡ text
texts_are [] = refl
texts_are (b ∷ text) = ap (λ (t : List ℕ). b ∷ t) (texts_are text)

bytes_are : (text : List ℕ) → flat_map character_byte (map Plain text) ≡ text
bytes_are [] = refl
bytes_are (b ∷ text) = ap (λ (t : List ℕ). b ∷ t) (bytes_are text)

quoted_tag : (tag : Tag) → TagFits tag → IsQuotedOf (bytes (34 ∷ (tag_text tag ++ 34 ∷ []))) (tag_text tag)
quoted_tag tag kept = (
  34 ∷ (tag_text tag ++ 34 ∷ []),
  map Plain (tag_text tag),
  record { lawful = characters (tag_text tag) (tag_own tag kept); whole = ap (λ (t : List ℕ). 34 ∷ (t ++ 34 ∷ [])) (sym (texts_are (tag_text tag))) },
  refl,
  sym (bytes_are (tag_text tag)),
)

abbrev quoted : Tag → List Part
quoted tag = bytes (34 ∷ (tag_text tag ++ 34 ∷ []))

abbrev correlator : Tag → List Part
correlator tag = bytes (codes "(TAG ") ++ quoted tag ++ bytes (41 ∷ [])

correlates : (tag : Tag) → TagFits tag → MayCorrelate (Byte 32 ∷ correlator tag)
correlates tag kept = inr (
  32 ∷ [],
  correlator tag,
  (λ e. cc, (refl, tt)),
  record {
    name = codes "TAG";
    named = refl;
    gap = 32 ∷ [];
    spaces = (λ e. cc, (refl, tt));
    tag = quoted tag;
    value =
        tag_text tag;
    astring = inl (inl (quoted_tag tag kept));
    whole = refl;
  },
  refl,
)

-- where the correlator ends
behind_tag : (tag : Tag) (more : List ℕ) → bytes (tag_text tag ++ 34 ∷ 41 ∷ more) ≡ bytes (tag_text tag ++ 34 ∷ []) ++ Byte 41 ∷ bytes more
behind_tag tag more =
    map-append Byte (tag_text tag) (34 ∷ 41 ∷ more) ∙ sym (append_assoc (bytes (tag_text tag)) (Byte 34 ∷ []) (Byte 41 ∷ bytes more))
    ∙ ap (λ (ps : List Part). ps ++ Byte 41 ∷ bytes more) (sym (map-append Byte (tag_text tag) (34 ∷ [])))

joined : (tag : Tag) (more : List ℕ) → bytes (codes " (TAG \"" ++ (tag_text tag ++ (codes "\")" ++ more))) ≡ (Byte 32 ∷ correlator tag) ++ bytes more
joined tag more =
    ap (λ (ps : List Part). bytes (codes " (TAG \"") ++ ps) (behind_tag tag more)
    ∙ ap (λ (ps : List Part). bytes (codes " (TAG \"") ++ ps) (sym (append_assoc (bytes (tag_text tag ++ 34 ∷ [])) (Byte 41 ∷ []) (bytes more)))

abbrev pairs_of : List UidRange → List Pair
pairs_of [] = []
pairs_of (r ∷ uids) = All (r ∷ uids) ∷ []

pairs_are : (uids : List UidRange) → IsCanonical uids → ArePairs (bytes (all_text uids)) (pairs_of uids)
unfolding ◌⌢◌
pairs_are [] is = refl
pairs_are (r ∷ uids) is = (
  32 ∷ [],
  codes "ALL",
  32 ∷ [],
  bytes (set_text (r ∷ uids)),
  [],
  (λ e. cc, (refl, tt)),
  (λ e. cc, (refl, tt)),
  (refl, set_text (r ∷ uids), set_spells (r ∷ uids) is (omega arith), refl),
  ap (λ (ps : List Part). bytes (codes " ALL ") ++ ps) (sym (append-nil (bytes (set_text (r ∷ uids))))),
  refl,
)

found_is : (uids : List UidRange) → uids ≡ found_of (pairs_of uids)
found_is [] = refl
found_is (r ∷ uids) = refl

all_quiet : (uids : List UidRange) → IsCanonical uids → list_all is_quiet_byte (all_text uids) ≡ true
unfolding ◌⌢◌
all_quiet [] is = refl
all_quiet (r ∷ uids) is = set_quiet (r ∷ uids) is

-- ESEARCH
tells : (tag : Tag) (uids : List UidRange) → TagFits tag → IsCanonical uids →
    TellsExtended (bytes (codes " (TAG \"" ++ (tag_text tag ++ (codes "\") UID" ++ all_text uids)))) uids
tells tag uids kept is = record {
  correlator = Byte 32 ∷ correlator tag;
  may_correlate = correlates tag kept;
  word = codes " UID";
  may_count = inr (32 ∷ [], codes "UID", (λ e. cc, (refl, tt)), refl, refl);
  pairs = pairs_of uids;
  told = bytes (all_text uids);
  are_pairs = pairs_are uids is;
  word_first = λ e. absurd cc;
  blank = [];
  spaces = tt;
  whole = joined tag (codes " UID" ++ all_text uids) ∙ sym (append_assoc (Byte 32 ∷ correlator tag) (bytes (codes " UID"))
      (bytes (all_text uids))) ∙ sym (append-nil _);
  found = found_is uids;
}

pub extended_spelled : (tag : Tag) (uids : List UidRange) → TagFits tag → IsCanonical uids → IsSpelled (responses.Found uids) (found_text false tag uids)
unfolding ◌⌢◌
extended_spelled tag uids kept is =
    let rest : List ℕ = codes " (TAG \"" ++ (tag_text tag ++ (codes "\") UID" ++ all_text uids)) in
    quiet_spelled (responses.Found uids) (codes "* ESEARCH" ++ rest)
    (all_join is_quiet_byte (tag_text tag) (codes "\") UID" ++ all_text uids) (tag_quiet tag kept) (all_quiet uids is))
    (inr (
      bytes rest,
      record {
        front = codes "* ESEARCH";
        rest = rest;
        named = named 69 (codes "SEARCH") rest refl refl;
        fronted =
            refl;
        whole = refl;
      },
      tells tag uids kept is,
    ))
