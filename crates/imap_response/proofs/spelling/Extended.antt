-- What an ESEARCH found: what is read, and what is spelled.
use Rattle.std.proofs.Common.{◌≡◌, ◌≢◌, ℕ, Bool, true, false, cond, List, [], ◌∷◌, ◌++◌, codes, refl, ap, sym, ◌∙◌, subst, inl, inr}
use Rattle.std.proofs.Common.{append_assoc, Result, Ok, Err}
use Rattle.std.specs.List.{AllByRecursion}
use Rattle.imap_model.specs.Parts.{Part, Byte, bytes}
use Rattle.imap_model.specs.Strings.{IsAstring}
use Rattle.imap_model.specs.Searches.{IsCorrelator, MayCorrelate, MayCountUids}
use Rattle.imap_model.specs.Words.{SameWord, IsGap, Spaced}
use Rattle.imap_model.specs.Values.{is_wide_byte}
use Rattle.imap_model.specs.Tagged.{is_astring_byte}
use Rattle.imap_model.proofs.Cutting.{Stops as Ends}
use Rattle.imap_response.specs.Leaf.{is_space, gap_at, mark_at, named_at}
use Rattle.imap_response.specs.Reads.{◌>>=◌, or_else}
use Rattle.imap_response.specs.Left.{Left, at_left, mark_in}
use Rattle.imap_response.specs.ReadStrings.{astring_at}
use Rattle.imap_response.specs.ReadSearches.{begins_with, search_tag_at, correlator_at, uid_word_at}
use Rattle.imap_response.proofs.spelling.IdSections.{gap_wide}
use Rattle.imap_response.proofs.spelling.ItemReads.{named_atom, value_solid, wide_solid}
use Rattle.imap_response.proofs.spelling.Names.{IsNamed, named_spells, named_reads}
use Rattle.imap_response.proofs.spelling.Passing.{Passes, Fits, bytes_pass, pass_bytes, pass_left, pass_none, split, joined, fits_behind, bytes_joined}
use Rattle.imap_response.proofs.spelling.Results.{byte_not, ok_is, ok_either, ok_bind, bind_ok, ok_or_else, or_else_ok, or_else_err}
use Rattle.imap_response.proofs.spelling.Steps.{repart, gap_front, gap_there, mark_front, mark_there, mark_in_front, mark_in_there}
use Rattle.imap_response.proofs.spelling.Strings.{astring_spells, astring_reads}
use Rattle.imap_response.proofs.spelling.Words.{gap_spells, gap_reads, no_space}

-- the tag of a search
abbrev tag_close : Left → Result Left ℕ
tag_close tag = mark_in 41 tag

abbrev tag_value : Left → List ℕ → Result Left ℕ
tag_value left after = astring_at (at_left left after) >>= tag_close

abbrev tag_gap : Left → List ℕ → Result Left ℕ
tag_gap left behind = gap_at behind >>= tag_value left

abbrev tag_name : Left → List ℕ → Result Left ℕ
tag_name left inside = named_at (codes "TAG") inside >>= tag_gap left

pub record IsTagFront (left behind : Left) : Type 0 where
  pub parts : List Part
  pub correlator : IsCorrelator parts
  pub passes : Passes left parts behind

tag_front_parts : (name gap : List ℕ) → (bytes (40 ∷ []) ++ bytes name) ++ bytes gap ≡ bytes (40 ∷ (name ++ gap))
tag_front_parts name gap = ap (λ (p : List Part). Byte 40 ∷ p) (sym (bytes_joined name gap))

tag_spells : (left behind : Left) → Fits left → search_tag_at left ≡ Ok behind → IsTagFront left behind
unfolding search_tag_at
tag_spells left behind fits is =
    let inside = ok_bind (mark_at 40 left.text) (tag_name left) behind is in
    let name = ok_bind (named_at (codes "TAG") inside.0) (tag_gap left) behind inside.2 in
    let after = ok_bind (gap_at name.0) (tag_value left) behind name.2 in
    let tag = ok_bind (astring_at (at_left left after.0)) tag_close behind after.2 in
    let one = mark_front 40 left inside.0 fits inside.1 in
    let fits1 = fits_behind left (bytes (40 ∷ [])) (at_left left inside.0) one in
    let named = named_spells (codes "TAG") inside.0 name.0 name.1 in
    let two = bytes_pass (at_left left inside.0) named.word name.0 fits1 named.whole in
    let fits2 = fits_behind (at_left left inside.0) (bytes named.word) (at_left left name.0) two in
    let gap = gap_front (at_left left name.0) after.0 fits2 after.1 in
    let fits3 = fits_behind (at_left left name.0) (bytes gap.gap) (at_left left after.0) gap.passes in
    let value = astring_spells (at_left left after.0) tag.0 fits3 tag.1 in
    let fits4 = fits_behind (at_left left after.0) value.0 tag.0 value.3 in
    let close = mark_in_front 41 tag.0 behind fits4 tag.2 in
    let front = repart left (at_left left after.0) ((bytes (40 ∷ []) ++ bytes named.word) ++ bytes gap.gap)
    (bytes (40 ∷ (named.word ++ gap.gap))) (tag_front_parts named.word gap.gap)
    (joined left (bytes (40 ∷ []) ++ bytes named.word) (at_left left name.0) (bytes gap.gap) (at_left left after.0)
    (joined left (bytes (40 ∷ [])) (at_left left inside.0) (bytes named.word) (at_left left name.0) one two) gap.passes) in
    record {
      parts = bytes (40 ∷ (named.word ++ gap.gap)) ++ value.0 ++ bytes (41 ∷ []);
      correlator = record {
        name = named.word;
        named = named.same;
        gap = gap.gap;
        spaces = gap.spaces;
        tag = value.0;
        value =
            value.1;
        astring = value.2;
        whole = refl;
      };
      passes = joined left (bytes (40 ∷ (named.word ++ gap.gap)) ++ value.0) tag.0 (bytes (41 ∷ [])) behind
          (joined left (bytes (40 ∷ (named.word ++ gap.gap))) (at_left left after.0) value.0 tag.0 front value.3) close;
    }

not_blank : (b : ℕ) → is_astring_byte b ≡ true → is_space b ≡ false
not_blank b is = byte_not b 32 (λ e. let fails : is_astring_byte 32 ≡ true = ap is_astring_byte (sym e) ∙ is in cc)

bare_solid : (value more : List ℕ) → value ≢ [] → AllByRecursion (λ byte. is_astring_byte byte ≡ true) value → Ends is_space (value ++ more)
bare_solid [] more some each = absurd (some refl)
bare_solid (b ∷ value) more some each = not_blank b each.0

astring_solid : (left behind : Left) (parts : List Part) (value : List ℕ) → IsAstring parts value → Passes left parts behind → Ends is_space left.text
astring_solid left behind parts value (inl string) passes = value_solid left behind parts (inr (inl (value, string))) passes
astring_solid left behind parts value (inr bare) passes =
    let passes' = repart left behind parts (bytes value) bare.whole passes in
    subst (Ends is_space) (sym (pass_bytes left value behind passes')) (bare_solid value behind.text bare.some bare.each)

tag_reads : (left behind : Left) (parts : List Part) → IsCorrelator parts → Passes left parts behind → search_tag_at left ≡ Ok behind
unfolding search_tag_at
tag_reads left behind parts c passes =
    let all = repart left behind parts (((bytes (40 ∷ []) ++ bytes c.name) ++ bytes c.gap) ++ c.tag ++ bytes (41 ∷ []))
    (c.whole ∙ ap (λ (p : List Part). p ++ c.tag ++ bytes (41 ∷ [])) (sym (tag_front_parts c.name c.gap))) passes in
    let five = split left (((bytes (40 ∷ []) ++ bytes c.name) ++ bytes c.gap) ++ c.tag) (bytes (41 ∷ [])) behind all in
    let four = split left ((bytes (40 ∷ []) ++ bytes c.name) ++ bytes c.gap) c.tag five.0 five.1 in
    let three = split left (bytes (40 ∷ []) ++ bytes c.name) (bytes c.gap) four.0 four.1 in
    let two = split left (bytes (40 ∷ [])) (bytes c.name) three.0 three.1 in
    let named : IsNamed (codes "TAG") two.0.text three.0.text = record {
      word = c.name;
      same = c.named;
      whole =
          pass_bytes two.0 c.name three.0 two.2;
      ends = gap_wide c.gap four.0.text three.0.text c.spaces
          (pass_bytes three.0 c.gap four.0 three.2);
    } in
    let back : at_left left four.0.text ≡ four.0 = pass_left left (40 ∷ (c.name ++ c.gap)) four.0
    (repart left four.0 ((bytes (40 ∷ []) ++ bytes c.name) ++ bytes c.gap) (bytes (40 ∷ (c.name ++ c.gap)))
    (tag_front_parts c.name c.gap) four.1) in
    let solid = astring_solid four.0 five.0 c.tag c.value c.astring four.2 in
    let close = subst (Ends is_astring_byte) (sym (pass_bytes five.0 (41 ∷ []) behind five.2)) refl in
    bind_ok (mark_at 40 left.text) (tag_name left) two.0.text behind (mark_there 40 left two.0 two.1)
    (bind_ok (named_at (codes "TAG") two.0.text) (tag_gap left) three.0.text behind (named_reads (codes "TAG") two.0.text three.0.text refl named)
    (bind_ok (gap_at three.0.text) (tag_value left) four.0.text behind (gap_there three.0 four.0 c.gap c.spaces solid three.2)
    (bind_ok (astring_at (at_left left four.0.text)) tag_close five.0 behind
    (ap astring_at back ∙ astring_reads four.0 five.0 c.tag c.value c.astring four.2 close)
    (mark_in_there 41 five.0 behind five.2))))

abbrev by_paren : Left → List ℕ → Result Left ℕ
by_paren left after = cond (begins_with 40 after) (search_tag_at (at_left left after)) (Ok left)

correlator_is : (left : Left) → correlator_at left ≡ or_else (gap_at left.text) (by_paren left) (Ok left)
unfolding correlator_at
correlator_is left = refl

pub record IsCorrelatorFront (left behind : Left) : Type 0 where
  pub parts : List Part
  pub may : MayCorrelate parts
  pub passes : Passes left parts behind

no_tag : (left behind : Left) → Fits left → ◌≡◌ {A = Result Left ℕ} (Ok left) (Ok behind) → IsCorrelatorFront left behind
no_tag left behind fits is = subst (IsCorrelatorFront left) (ok_is left behind is) (record { parts = []; may = inl refl; passes = pass_none left fits })

pub correlator_spells : (left behind : Left) → Fits left → correlator_at left ≡ Ok behind → IsCorrelatorFront left behind
correlator_spells left behind fits is = elim (ok_or_else (gap_at left.text) (by_paren left) (Ok left) behind (sym (correlator_is left) ∙ is)) [
  | inl after ↦ elim (ok_either (begins_with 40 after.0) (search_tag_at (at_left left after.0)) (Ok left) behind after.2) [
    | inl tag ↦
        let gap = gap_front left after.0 fits after.1 in
        let front = tag_spells (at_left left after.0) behind (fits_behind left (bytes gap.gap) (at_left left after.0) gap.passes) tag.1 in
        record {
          parts = bytes gap.gap ++ front.parts;
          may = inr (gap.gap, front.parts, gap.spaces, front.correlator, refl);
          passes = joined left (bytes gap.gap) (at_left left after.0) front.parts behind gap.passes front.passes;
        }
    | inr none ↦ no_tag left behind fits none.1
  ]
  | inr none ↦ no_tag left behind fits none.2
]

tag_first : (left behind : Left) (parts : List Part) → IsCorrelator parts → Passes left parts behind →
    (Ends is_space left.text) × (begins_with 40 left.text ≡ true)
tag_first left behind parts c passes =
    let all = repart left behind parts (bytes (40 ∷ (c.name ++ c.gap)) ++ c.tag ++ bytes (41 ∷ [])) c.whole passes in
    let text = all.text in
    (subst (Ends is_space) (sym text) refl, ap (begins_with 40) text)

pub tag_read : (left behind : Left) (gap : List ℕ) (parts : List Part) → IsGap gap → IsCorrelator parts →
    Passes left (bytes gap ++ parts) behind → correlator_at left ≡ Ok behind
tag_read left behind gap parts spaces c passes =
    let cut = split left (bytes gap) parts behind passes in
    let first = tag_first cut.0 behind parts c cut.2 in
    correlator_is left ∙ or_else_ok (gap_at left.text) (by_paren left) (Ok left) cut.0.text (gap_there left cut.0 gap spaces first.0 cut.1)
    ∙ ap (λ (t : Bool). cond t (search_tag_at (at_left left cut.0.text)) (Ok left)) first.1
    ∙ ap search_tag_at (pass_left left gap cut.0 cut.1) ∙ tag_reads cut.0 behind parts c cut.2

none_from : (left : Left) (r : Result (List ℕ) ℕ) → ((after : List ℕ) → r ≡ Ok after → begins_with 40 after ≡ false) →
    or_else r (by_paren left) (Ok left) ≡ Ok left
none_from left (Err e) other = refl
none_from left (Ok after) other = rw (other after refl) refl

pub none_read : (left : Left) → ((after : List ℕ) → gap_at left.text ≡ Ok after → begins_with 40 after ≡ false) → correlator_at left ≡ Ok left
none_read left other = correlator_is left ∙ none_from left (gap_at left.text) other

-- the word UID
abbrev as_behind : List ℕ → Result (List ℕ) ℕ
as_behind behind = Ok behind

abbrev by_uid : List ℕ → List ℕ → Result (List ℕ) ℕ
by_uid text after = or_else (named_at (codes "UID") after) as_behind (Ok text)

word_is : (text : List ℕ) → uid_word_at text ≡ or_else (gap_at text) (by_uid text) (Ok text)
unfolding uid_word_at
word_is text = refl

-- the word is read, or none is, since it doesn't stand there
pub record IsUidFront (text rest : List ℕ) : Type 0 where
  pub word : List ℕ
  pub may : MayCountUids word
  pub whole : text ≡ word ++ rest
  pub none : word ≡ [] → (after behind : List ℕ) → gap_at text ≡ Ok after → named_at (codes "UID") after ≡ Ok behind → ⊥

no_err : {A : Type 0} (r : Result A ℕ) (e : ℕ) (x : A) → r ≡ Err e → r ≡ Ok x → ⊥
no_err r e x is is' = cc

same_result : (r : Result (List ℕ) ℕ) (x y : List ℕ) → r ≡ Ok x → r ≡ Ok y → x ≡ y
same_result r x y is is' = cc

no_word : (text rest : List ℕ) → ◌≡◌ {A = Result (List ℕ) ℕ} (Ok text) (Ok rest) →
    ((after behind : List ℕ) → gap_at text ≡ Ok after → named_at (codes "UID") after ≡ Ok behind → ⊥) → IsUidFront text rest
no_word text rest is other = subst (IsUidFront text) (ok_is text rest is) (record { word = []; may = inl refl; whole = refl; none = λ e. other })

gap_some : (gap word : List ℕ) → gap ≢ [] → gap ++ word ≢ []
gap_some [] word some is = some refl
gap_some (b ∷ gap) word some is = cc

pub word_spells : (text rest : List ℕ) → uid_word_at text ≡ Ok rest → IsUidFront text rest
word_spells text rest is = elim (ok_or_else (gap_at text) (by_uid text) (Ok text) rest (sym (word_is text) ∙ is)) [
  | inl after ↦ elim (ok_or_else (named_at (codes "UID") after.0) as_behind (Ok text) rest after.2) [
    | inl named ↦
        let gap = gap_spells text after.0 after.1 in
        let name = named_spells (codes "UID") after.0 named.0 named.1 in
        subst (IsUidFront text) (ok_is named.0 rest named.2) (record {
          word = gap.gap ++ name.word;
          may = inr (gap.gap, name.word, gap.spaces, name.same, refl);
          whole = gap.whole ∙ ap (λ (t : List ℕ). gap.gap ++ t) name.whole ∙ sym (append_assoc gap.gap name.word named.0);
          none = λ none. absurd (gap_some gap.gap name.word gap.spaces.0 none);
        })
    | inr none ↦ no_word text rest none.2 (λ other behind gapped named.
        let same : other ≡ after.0 = same_result (gap_at text) other after.0 gapped after.1 in
        no_err (named_at (codes "UID") after.0) none.0 behind none.1 (ap (named_at (codes "UID")) (sym same) ∙ named))
  ]
  | inr none ↦ no_word text rest none.2 (λ other behind gapped named. no_err (gap_at text) none.0 other none.1 gapped)
]

word_solid : (word rest : List ℕ) → SameWord word (codes "UID") → Ends is_space (word ++ rest)
word_solid word rest same = wide_solid word rest (named_atom word (codes "UID") same (λ e. cc) refl refl refl).wide

pub word_read : (text rest gap word : List ℕ) → IsGap gap → SameWord word (codes "UID") → text ≡ (gap ++ word) ++ rest →
    Ends is_wide_byte rest → uid_word_at text ≡ Ok rest
word_read text rest gap word spaces same is ends =
    let spaced : Spaced text (word ++ rest) = record {
      gap = gap;
      spaces = spaces;
      whole = is ∙ append_assoc gap word rest;
      no_more =
          no_space (word ++ rest) (word_solid word rest same);
    } in
    let named : IsNamed (codes "UID") (word ++ rest) rest = record { word = word; same = same; whole = refl; ends = ends } in
    word_is text ∙ or_else_ok (gap_at text) (by_uid text) (Ok text) (word ++ rest) (gap_reads text (word ++ rest) spaced)
    ∙ or_else_ok (named_at (codes "UID") (word ++ rest)) as_behind (Ok text) rest (named_reads (codes "UID") (word ++ rest) rest refl named)

text_named : (text : List ℕ) (r : Result (List ℕ) ℕ) → ((behind : List ℕ) → r ≡ Ok behind → ⊥) → or_else r as_behind (Ok text) ≡ Ok text
text_named text r other = or_else_err r as_behind (Ok text) other

text_from : (text : List ℕ) (r : Result (List ℕ) ℕ) → ((after behind : List ℕ) → r ≡ Ok after → named_at (codes "UID") after ≡ Ok behind →
    ⊥) → or_else r (by_uid text) (Ok text) ≡ Ok text
text_from text (Err e) other = refl
text_from text (Ok after) other = text_named text (named_at (codes "UID") after) (λ behind named. other after behind refl named)

pub no_word_read : (text : List ℕ) → ((after behind : List ℕ) → gap_at text ≡ Ok after → named_at (codes "UID") after ≡ Ok behind → ⊥) →
    uid_word_at text ≡ Ok text
no_word_read text other = word_is text ∙ text_from text (gap_at text) other
