-- What an ESEARCH found, whole: what is read, and what is spelled.
use Rattle.std.proofs.Common.{◌≡◌, ◌≢◌, ℕ, true, false, List, [], ◌∷◌, ◌++◌, length, codes, refl, ap, sym, ◌∙◌, subst, inl, inr, arith}
use Rattle.std.proofs.Common.{append_assoc, Result, Ok}
use Rattle.uid_sets.specs.declared.uid.UidRange.{UidRange}
use Rattle.imap_model.specs.Parts.{Part, bytes}
use Rattle.imap_model.specs.Searches.{MayCorrelate, Pair, ArePairs, MayCountUids, BeginsWithUid, TellsExtended}
use Rattle.imap_model.specs.Words.{SameWord, IsGap, AreSpaces, Spaced}
use Rattle.imap_model.specs.Values.{is_wide_byte, IsWide}
use Rattle.imap_model.proofs.Cutting.{Stops as Ends}
use Rattle.imap_response.specs.Leaf.{is_space, gap_at, named_at}
use Rattle.imap_response.specs.Reads.{◌>>=◌}
use Rattle.imap_response.specs.Left.{Left, at_left}
use Rattle.imap_response.specs.ReadSearches.{begins_with, correlator_at, uid_word_at, pairs_from, extended_at}
use Rattle.imap_response.proofs.spelling.CodeRows.{space_first}
use Rattle.imap_response.proofs.spelling.Extended.{correlator_spells, tag_read, none_read, word_spells, word_read, no_word_read}
use Rattle.imap_response.proofs.spelling.ItemReads.{named_atom, wide_solid}
use Rattle.imap_response.proofs.spelling.Names.{IsNamed, named_spells, named_reads, same_wide}
use Rattle.imap_response.proofs.spelling.Pairs.{pairs_spell, pairs_read, pairs_wide, first_pair, pair_text, pair_atom, blank_text}
use Rattle.imap_response.proofs.spelling.Passing.{Passes, Fits, text_of, bytes_pass, pass_bytes, pass_left, none_passed, split, joined}
use Rattle.imap_response.proofs.spelling.Passing.{fits_behind, bytes_joined, text_joined, bytes_text}
use Rattle.imap_response.proofs.spelling.Results.{byte_not, ok_bind, bind_ok}
use Rattle.imap_response.proofs.spelling.Runs.{IsCut, cut_front, all_right}
use Rattle.imap_response.proofs.spelling.Steps.{repart}
use Rattle.imap_response.proofs.spelling.Words.{gap_spells, gap_reads, no_space, spaces_pass, pass_spaces}

abbrev by_pairs : Left → List ℕ → Result (List UidRange) ℕ
by_pairs behind text = pairs_from (length text) [] (at_left behind text)

abbrev by_word : Left → Result (List UidRange) ℕ
by_word behind = uid_word_at behind.text >>= by_pairs behind

extended_is : (left : Left) → extended_at left ≡ (correlator_at left >>= by_word)
unfolding extended_at
extended_is left = refl

pub record IsExtendedFront (left : Left) (uids : List UidRange) : Type 0 where
  pub parts : List Part
  pub tells : TellsExtended parts uids
  pub end : Left
  pub passes : Passes left parts end
  pub none : end.text ≡ []

-- a text that begins so is read as the word UID
word_there : (text gap word more : List ℕ) → IsGap gap → SameWord word (codes "UID") → text ≡ gap ++ (word ++ 32 ∷ more) →
    (gap_at text ≡ Ok (word ++ 32 ∷ more)) × (named_at (codes "UID") (word ++ 32 ∷ more) ≡ Ok (32 ∷ more))
word_there text gap word more spaces same is =
    let wide = (named_atom word (codes "UID") same (λ e. cc) refl refl refl).wide in
    let spaced : Spaced text (word ++ 32 ∷ more) = record {
      gap = gap;
      spaces = spaces;
      whole = is;
      no_more =
          no_space (word ++ 32 ∷ more) (wide_solid word (32 ∷ more) wide);
    } in
    let named : IsNamed (codes "UID") (word ++ 32 ∷ more) (32 ∷ more) = record { word = word; same = same; whole = refl; ends = refl } in
    (gap_reads text (word ++ 32 ∷ more) spaced, named_reads (codes "UID") (word ++ 32 ∷ more) (32 ∷ more) refl named)

uid_text : (left end : Left) (told : List Part) (blank gap word : List ℕ) (value : List Part) → Passes left (told ++ bytes blank) end →
    told ≡ bytes (gap ++ word ++ 32 ∷ []) ++ value → left.text ≡ gap
    ++ (word ++ 32 ∷ (text_of value ++ (text_of (bytes blank) ++ end.text)))
uid_text left end told blank gap word value passes is =
    passes.text
    ∙ ap (λ (t : List ℕ). t ++ end.text) (text_joined told (bytes blank) ∙ ap (λ (p : List Part). text_of p ++ text_of (bytes blank)) is)
    ∙ append_assoc (text_of (bytes (gap ++ word ++ 32 ∷ []) ++ value)) (text_of (bytes blank)) end.text
    ∙ ap (λ (t : List ℕ). t ++ (text_of (bytes blank) ++ end.text))
    (text_joined (bytes (gap ++ word ++ 32 ∷ [])) value ∙ ap (λ (t : List ℕ). t ++ text_of value) (bytes_text (gap ++ word ++ 32 ∷ [])))
    ∙ append_assoc (gap ++ word ++ 32 ∷ []) (text_of value) (text_of (bytes blank) ++ end.text)
    ∙ append_assoc (gap ++ word) (32 ∷ []) (text_of value ++ (text_of (bytes blank) ++ end.text))
    ∙ append_assoc gap word (32 ∷ (text_of value ++ (text_of (bytes blank) ++ end.text)))

not_uid : (left end : Left) (told : List Part) (blank : List ℕ) → Passes left (told ++ bytes blank) end →
    ((after behind : List ℕ) → gap_at left.text ≡ Ok after → named_at (codes "UID") after ≡ Ok behind → ⊥) → BeginsWithUid told → ⊥
not_uid left end told blank passes none begins =
    let more : List ℕ = text_of begins.2 ++ (text_of (bytes blank) ++ end.text) in
    let there = word_there left.text begins.0 begins.1 (text_of begins.2 ++ (text_of (bytes blank) ++ end.text)) begins.3 begins.4
    (uid_text left end told blank begins.0 begins.1 begins.2 passes begins.5) in
    none (begins.1 ++ 32 ∷ (text_of begins.2 ++ (text_of (bytes blank) ++ end.text)))
    (32 ∷ (text_of begins.2 ++ (text_of (bytes blank) ++ end.text))) there.0 there.1

pub extended_spells : (left : Left) (uids : List UidRange) → Fits left → extended_at left ≡ Ok uids → IsExtendedFront left uids
extended_spells left uids fits is =
    let behind = ok_bind (correlator_at left) by_word uids (sym (extended_is left) ∙ is) in
    let text = ok_bind (uid_word_at behind.0.text) (by_pairs behind.0) uids behind.2 in
    let tag = correlator_spells left behind.0 fits behind.1 in
    let fits1 = fits_behind left tag.parts behind.0 tag.passes in
    let word = word_spells behind.0.text text.0 text.1 in
    let one = bytes_pass behind.0 word.word text.0 fits1 word.whole in
    let fits2 = fits_behind behind.0 (bytes word.word) (at_left behind.0 text.0) one in
    let pairs = pairs_spell (length text.0) [] (at_left behind.0 text.0) uids fits2 (omega arith) text.2 in
    record {
      parts = tag.parts ++ bytes word.word ++ pairs.told ++ bytes pairs.blank;
      tells = record {
        correlator = tag.parts;
        may_correlate = tag.may;
        word = word.word;
        may_count = word.may;
        pairs = pairs.pairs;
        told = pairs.told;
        are_pairs = pairs.are;
        word_first = λ none. not_uid (at_left behind.0 text.0) pairs.end pairs.told pairs.blank pairs.passes
            (λ after end gapped named. word.none none after end (ap gap_at (word.whole ∙ ap (λ (w : List ℕ). w ++ text.0) none) ∙ gapped) named);
        blank = pairs.blank;
        spaces = pairs.spaces;
        whole = refl;
        found = pairs.counts;
      };
      end = pairs.end;
      passes = repart left pairs.end ((tag.parts ++ bytes word.word) ++ (pairs.told ++ bytes pairs.blank))
          (tag.parts ++ bytes word.word ++ pairs.told ++ bytes pairs.blank)
          (sym (append_assoc (tag.parts ++ bytes word.word) pairs.told (bytes pairs.blank)))
          (joined left (tag.parts ++ bytes word.word) (at_left behind.0 text.0) (pairs.told ++ bytes pairs.blank) pairs.end
          (joined left tag.parts behind.0 (bytes word.word) (at_left behind.0 text.0) tag.passes one) pairs.passes);
      none = pairs.none;
    }

-- what is spelled is read: nothing begins with `(` where there is no tag
abbrev NoParen : List ℕ → Type 0
NoParen text = (after : List ℕ) → gap_at text ≡ Ok after → begins_with 40 after ≡ false

-- nor with UID
abbrev NoUid : List ℕ → Type 0
NoUid text = (after behind : List ℕ) → gap_at text ≡ Ok after → named_at (codes "UID") after ≡ Ok behind → ⊥

same_result : (r : Result (List ℕ) ℕ) (x y : List ℕ) → r ≡ Ok x → r ≡ Ok y → x ≡ y
same_result r x y is is' = cc

no_paren : (word rest : List ℕ) → IsWide word → begins_with 40 (word ++ rest) ≡ false
no_paren [] rest wide = absurd (wide.0 refl)
no_paren (b ∷ word) rest wide = byte_not b 40 (λ e. let now : is_wide_byte 40 ≡ true = ap is_wide_byte (sym e) ∙ wide.1.0 in cc)

gap_is : (text gap word rest : List ℕ) → IsGap gap → IsWide word → text ≡ gap ++ (word ++ rest) → gap_at text ≡ Ok (word ++ rest)
gap_is text gap word rest spaces wide is =
    gap_reads text (word ++ rest) (record { gap = gap; spaces = spaces; whole = is; no_more = no_space (word ++ rest) (wide_solid word rest wide) })

paren_word : (text gap word rest : List ℕ) → IsGap gap → IsWide word → text ≡ gap ++ (word ++ rest) → NoParen text
paren_word text gap word rest spaces wide is after gapped =
    let same = same_result (gap_at text) after (word ++ rest) gapped (gap_is text gap word rest spaces wide is) in
    ap (begins_with 40) same ∙ no_paren word rest wide

blank_after : (after : List ℕ) → AreSpaces after → ((later : List ℕ) → after ≢ 32 ∷ later) → after ≡ []
blank_after [] spaces more = refl
blank_after (b ∷ after) spaces more = absurd (more after (ap (λ (x : ℕ). x ∷ after) spaces.0))

blank_gap : (text after : List ℕ) → AreSpaces text → gap_at text ≡ Ok after → after ≡ []
blank_gap text after spaces gapped =
    let spaced = gap_spells text after gapped in
    let all = subst AreSpaces spaced.whole spaces in
    blank_after after (pass_spaces after (all_right is_space spaced.gap after (spaces_pass (spaced.gap ++ after) all))) spaced.no_more

paren_blank : (text : List ℕ) → AreSpaces text → NoParen text
paren_blank text spaces after gapped = ap (begins_with 40) (blank_gap text after spaces gapped)

no_letters : (word behind : List ℕ) → [] ≡ word ++ behind → SameWord word (codes "UID") → ⊥
no_letters [] behind is same = cc
no_letters (b ∷ word) behind is same = cc

gap_ends : (gap rest : List ℕ) → IsGap gap → Ends is_wide_byte (gap ++ rest)
gap_ends gap rest spaces = space_first gap rest (gap ++ rest) spaces.0 spaces.1 refl

uid_blank : (text : List ℕ) → AreSpaces text → NoUid text
uid_blank text spaces after behind gapped named =
    let none = blank_gap text after spaces gapped in
    let w = named_spells (codes "UID") after behind named in
    let empty : [] ≡ w.word ++ behind = sym none ∙ w.whole in
    no_letters w.word behind empty w.same

-- the pairs
pair_words : (left mid : Left) (before name between : List ℕ) (value : List Part) →
    Passes left (bytes (before ++ name ++ between) ++ value) mid → left.text ≡ before ++ (name ++ (between ++ (text_of value ++ mid.text)))
pair_words left mid before name between value passes =
    pair_text left mid before name between value passes ∙ append_assoc (before ++ name) between (text_of value ++ mid.text)
    ∙ append_assoc before name (between ++ (text_of value ++ mid.text))

pairs_paren : (pairs : List Pair) (left end : Left) (told : List Part) (blank : List ℕ) → ArePairs told pairs → AreSpaces blank →
    Passes left (told ++ bytes blank) end → end.text ≡ [] → NoParen left.text
pairs_paren [] left end told blank are spaces passes none =
    let text = blank_text left end blank (subst (λ (p : List Part). Passes left (p ++ bytes blank) end) are passes) none in
    subst NoParen (sym text) (paren_blank blank spaces)
pairs_paren (pair ∷ pairs) left end told blank are spaces passes none =
    let w = first_pair left end told are.0 are.1 are.2 are.3 are.4 blank are.8 passes in
    paren_word left.text are.0 are.1 (are.2 ++ (text_of are.3 ++ w.mid.text)) are.5 (pair_atom are.1 are.3 pair are.7).wide
    (pair_words left w.mid are.0 are.1 are.2 are.3 w.first)

gap_split : (before name between : List ℕ) (value later told : List Part) → IsGap between →
    told ≡ bytes (before ++ name ++ between) ++ value ++ later → IsGap before → SameWord name (codes "UID") → BeginsWithUid told
gap_split before name [] value later told spaces is spaces' same = absurd (spaces.0 refl)
gap_split before name (b ∷ between) value later told spaces is spaces' same =
    let here : b ≡ 32 = spaces.1.0 in
    let form : bytes (before ++ name ++ b ∷ between) ++ value ++ later ≡ bytes (before ++ name ++ 32 ∷ []) ++ ((bytes between ++ value) ++ later) =
    ap (λ (x : ℕ). bytes (before ++ name ++ x ∷ between) ++ value ++ later) here
    ∙ ap (λ (p : List Part). p ++ value ++ later) (bytes_joined (before ++ name) (32 ∷ between)
    ∙ sym (append_assoc (bytes (before ++ name)) (bytes (32 ∷ [])) (bytes between))
    ∙ ap (λ (p : List Part). p ++ bytes between) (sym (bytes_joined (before ++ name) (32 ∷ []))))
    ∙ ap (λ (p : List Part). p ++ later) (append_assoc (bytes (before ++ name ++ 32 ∷ [])) (bytes between) value)
    ∙ append_assoc (bytes (before ++ name ++ 32 ∷ [])) (bytes between ++ value) later in
    (before, name, (bytes between ++ value) ++ later, spaces', same, is ∙ form)

pairs_uid : (pairs : List Pair) (left end : Left) (told : List Part) (blank : List ℕ) → ArePairs told pairs → AreSpaces blank →
    Passes left (told ++ bytes blank) end → end.text ≡ [] → (BeginsWithUid told → ⊥) → NoUid left.text
pairs_uid [] left end told blank are spaces passes none first =
    let text = blank_text left end blank (subst (λ (p : List Part). Passes left (p ++ bytes blank) end) are passes) none in
    subst NoUid (sym text) (uid_blank blank spaces)
pairs_uid (pair ∷ pairs) left end told blank are spaces passes none first = λ after behind gapped named.
    let w = first_pair left end told are.0 are.1 are.2 are.3 are.4 blank are.8 passes in
    let more : List ℕ = are.2 ++ (text_of are.3 ++ w.mid.text) in
    let wide = (pair_atom are.1 are.3 pair are.7).wide in
    let there = same_result (gap_at left.text) after (are.1 ++ (are.2 ++ (text_of are.3 ++ w.mid.text))) gapped
    (gap_is left.text are.0 are.1 (are.2 ++ (text_of are.3 ++ w.mid.text)) are.5 wide
    (pair_words left w.mid are.0 are.1 are.2 are.3 w.first)) in
    let n = named_spells (codes "UID") after behind named in
    let one : IsCut is_wide_byte after n.word behind = record { all = same_wide n.word (codes "UID") n.same refl; ends = n.ends; whole = n.whole } in
    let two : IsCut is_wide_byte after are.1 (are.2 ++ (text_of are.3 ++ w.mid.text)) =
    record { all = wide.1; ends = gap_ends are.2 (text_of are.3 ++ w.mid.text) are.6; whole = there } in
    let same : n.word ≡ are.1 = sym (cut_front is_wide_byte after n.word behind one)
    ∙ cut_front is_wide_byte after are.1 (are.2 ++ (text_of are.3 ++ w.mid.text)) two in
    first (gap_split are.0 are.1 are.2 are.3 are.4 told are.6 are.8 are.5 (subst (λ (x : List ℕ). SameWord x (codes "UID")) same n.same))

-- the word and what stands in front of the pairs
pub record Counted (left : Left) (behind : Left) : Type 0 where
  pub read : uid_word_at left.text ≡ Ok behind.text
  pub paren : NoParen left.text

counted : (left mid end : Left) (word : List ℕ) (pairs : List Pair) (told : List Part) (blank : List ℕ) → MayCountUids word →
    (word ≡ [] → BeginsWithUid told → ⊥) → ArePairs told pairs → AreSpaces blank
    → Passes left (bytes word) mid → Passes mid (told ++ bytes blank) end → end.text ≡ [] → Counted left mid
counted left mid end word pairs told blank (inl nothing) first are spaces front passes none =
    let same : left.text ≡ mid.text = pass_bytes left word mid front ∙ ap (λ (w : List ℕ). w ++ mid.text) nothing in
    record {
      read = no_word_read left.text (subst NoUid (sym same) (pairs_uid pairs mid end told blank are spaces passes none (first nothing)))
          ∙ ap (λ (t : List ℕ). Ok t) same;
      paren = subst NoParen (sym same) (pairs_paren pairs mid end told blank are spaces passes none);
    }
counted left mid end word pairs told blank (inr uid) first are spaces front passes none =
    let whole : left.text ≡ (uid.0 ++ uid.1) ++ mid.text = pass_bytes left word mid front ∙ ap (λ (w : List ℕ). w ++ mid.text) uid.4 in
    record {
      read = word_read left.text mid.text uid.0 uid.1 uid.2 uid.3 whole (pairs_wide pairs mid end told blank are spaces passes none);
      paren = paren_word left.text uid.0 uid.1 mid.text uid.2 (named_atom uid.1 (codes "UID") uid.3 (λ e. cc) refl refl refl).wide
          (whole ∙ append_assoc uid.0 uid.1 mid.text);
    }

tag_there : (left mid : Left) (parts : List Part) → MayCorrelate parts → NoParen mid.text → Passes left parts mid → correlator_at left ≡ Ok mid
tag_there left mid parts (inl nothing) paren passes =
    let same = none_passed left mid (repart left mid parts [] nothing passes) in
    none_read left (subst (λ (l : Left). NoParen l.text) (sym same) paren) ∙ ap (λ (l : Left). Ok l) same
tag_there left mid parts (inr tag) paren passes = tag_read left mid tag.0 tag.1 tag.2 tag.3 (repart left mid parts (bytes tag.0 ++ tag.1) tag.4 passes)

pub extended_reads : (left end : Left) (parts : List Part) (uids : List UidRange) → TellsExtended parts uids → Passes left parts end →
    end.text ≡ [] → extended_at left ≡ Ok uids
extended_reads left end parts uids t passes none =
    let all = repart left end parts ((t.correlator ++ bytes t.word) ++ (t.told ++ bytes t.blank))
    (t.whole ∙ append_assoc (t.correlator ++ bytes t.word) t.told (bytes t.blank)) passes in
    let back = split left (t.correlator ++ bytes t.word) (t.told ++ bytes t.blank) end all in
    let front = split left t.correlator (bytes t.word) back.0 back.1 in
    let w = counted front.0 back.0 end t.word t.pairs t.told t.blank t.may_count t.word_first t.are_pairs t.spaces front.2 back.2 none in
    let pairs : by_pairs front.0 back.0.text ≡ Ok uids =
    ap (λ (l : Left). pairs_from (length back.0.text) [] l) (pass_left front.0 t.word back.0 front.2)
    ∙ pairs_read t.pairs (length back.0.text) [] back.0 end t.told t.blank t.are_pairs t.spaces back.2 none (omega arith)
    ∙ ap (λ (u : List UidRange). Ok u) (sym t.found) in
    extended_is left ∙ bind_ok (correlator_at left) by_word front.0 uids (tag_there left front.0 t.correlator t.may_correlate w.paren front.1)
    (bind_ok (uid_word_at front.0.text) (by_pairs front.0) back.0.text uids w.read pairs)
