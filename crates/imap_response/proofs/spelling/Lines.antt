-- A line: what is read is spelled so.
use Rattle.std.proofs.Common.{◌≡◌, ◌≢◌, ℕ, ◌-◌, Bool, true, false, cond, List, [], ◌∷◌, ◌++◌, length, codes, Option, Some, None, refl, ap}
use Rattle.std.proofs.Common.{sym, ◌∙◌, subst, inl, inr, ◌⊎◌, arith, append_assoc, append-nil, Result, Ok, Err}
use Rattle.std.specs.Prelude.{◌==◌}
use Rattle.std.specs.List.{AllByRecursion, list_all}
use Rattle.std.specs.Str.{bytes_eq}
use Rattle.std.specs.Str.Parse.{IsNumeral}
use Rattle.uid_sets.specs.declared.uid.UidRange.{UidRange}
use Rattle.imap_model.specs.declared.ending.Ending.{Ending}
use Rattle.imap_model.specs.declared.ending.Ending.TheVariants as endings
use Rattle.imap_model.specs.declared.response.Response.{Response}
use Rattle.imap_model.specs.declared.response.Response.TheVariants as responses
use Rattle.imap_model.specs.Numbers.{IsNumber, IsNonzero}
use Rattle.imap_model.specs.Others.{IsQuiet, known_words, is_known_word, GoesOnWith}
use Rattle.imap_model.specs.Parts.{Part, bytes}
use Rattle.imap_model.specs.Responses.{IsFetchLine, ending_word, IsLineOf}
use Rattle.imap_model.specs.Tagged.{IsTag}
use Rattle.imap_model.specs.Values.{is_wide_byte}
use Rattle.imap_model.specs.Words.{SameWord, AreSpaces, Spaced, Begins, IsUntagged, IsNamed as HasWord, IsNumbered, is_word_byte}
use Rattle.imap_model.proofs.Cutting.{Stops as Ends}
use Rattle.imap_response.specs.declared.line.Said.{Said}
use Rattle.imap_response.specs.declared.text_part.Coded.{Coded}
use Rattle.imap_response.specs.Flags.{whole}
use Rattle.imap_response.specs.Leaf.{gap_at, end_at, word_at, same_word, is_digits}
use Rattle.imap_response.specs.Reads.{◌>>=◌}
use Rattle.imap_response.specs.ReadNumbers.{number_at, nonzero_at}
use Rattle.imap_response.specs.Tags.{tag_misfit, tag_of}
use Rattle.imap_response.specs.ReadTextParts.{text_at}
use Rattle.imap_response.specs.Left.{Left, at_left}
use Rattle.imap_response.specs.ReadSearches.{found_at, extended_at}
use Rattle.imap_response.specs.ReadLines.{simply, ending_of, fits_tag, done_at, tagged_at, other_at, capability_line_at, enabled_at}
use Rattle.imap_response.specs.ReadLines.{vanished_at, named_line_at, status_at, fetch_at, exists_at, second_word, numbered_at, ended_at}
use Rattle.imap_response.specs.ReadLines.{untagged_at, line_at}
use Rattle.flag_set.specs.declared.flag_fault.FlagFault.{FlagFault}
use Rattle.imap_response.specs.Within.{IsLineWithin}
use Rattle.imap_response.proofs.spelling.Agreeing.{text_agrees}
use Rattle.imap_response.proofs.spelling.Choices.{choose, Chosen, IsNone, choice, of_none}
use Rattle.imap_response.proofs.spelling.Endings.{IsEnding, named, other, ending_cases, begins_with_word, begins_cut, word_same, second_is}
use Rattle.imap_response.proofs.spelling.ExtendedLines.{IsExtendedFront, extended_spells}
use Rattle.imap_response.proofs.spelling.ItemLists.{fetch_spells}
use Rattle.imap_response.proofs.spelling.NamedLines.{capability_spells, enabled_spells, IsVanished, vanished_spells}
use Rattle.imap_response.proofs.spelling.Names.{same_is, other_is, bytes_equal}
use Rattle.imap_response.proofs.spelling.NumberLists.{found_spells, stops_narrow}
use Rattle.imap_response.proofs.spelling.Numbers.{number_at_spells, nonzero_at_spells, numeral_is, is_numeral, digits_wide}
use Rattle.imap_response.proofs.spelling.OtherLines.{NoBrace, IsOtherFront, other_spells}
use Rattle.imap_response.proofs.spelling.Passing.{Passes, Fits, bytes_pass, joined, fits_behind}
use Rattle.imap_response.proofs.spelling.Results.{ok_is, ok_either, ok_second, ok_bind, len_some, err_not}
use Rattle.imap_response.proofs.spelling.Runs.{IsCut, cut_front, reading_cuts}
use Rattle.imap_response.proofs.spelling.Tags.{tag_spells, tag_of_spells}
use Rattle.imap_response.proofs.spelling.TextParts.{part_spells}
use Rattle.imap_response.proofs.spelling.WordLists.{IsWordCut, word_cuts, word_front}
use Rattle.imap_response.proofs.spelling.Words.{gap_spells, end_spells}

-- the line spells this
pub record IsLineFront (left : Left) (excess : Option FlagFault) (response : Response) : Type 0 where
  pub parts : List Part
  pub end : Left
  pub passes : Passes left parts end
  pub none : end.text ≡ []
  pub line : IsLineOf left.text parts response
  pub within : excess ≡ None → IsLineWithin left.text parts response

plain_line : (left : Left) (excess : Option FlagFault) (response : Response) → Fits left → IsLineOf left.text (bytes left.text) response →
    (excess ≡ None → IsLineWithin left.text (bytes left.text) response) → IsLineFront left excess response
plain_line left excess response fits line within = record {
  parts = bytes left.text;
  end = at_left left [];
  passes = bytes_pass left left.text [] fits (sym (append-nil left.text));
  none = refl;
  line = line;
  within = within;
}

abbrev pub to_done : Unit {0} → Result Response ℕ
to_done done = Ok responses.Other

abbrev pub to_found : List UidRange → Result Response ℕ
to_found uids = Ok (responses.Found uids)

abbrev pub to_simply : Response → Result Said ℕ
to_simply response = Ok (simply response)

-- bytes that make no noise
quiet_spaces : (gap : List ℕ) → AreSpaces gap → AllByRecursion IsQuiet (bytes gap)
quiet_spaces [] spaces = tt
quiet_spaces (b ∷ gap) spaces = let is = spaces.0 in (
  (
    (λ e. omega (arith, e, is)),
    (λ e. omega (arith, e, is)),
    (λ e. omega (arith, e, is)),
  ),
  quiet_spaces gap spaces.1,
)

no_brace_spaces : (gap : List ℕ) → AreSpaces gap → NoBrace gap
no_brace_spaces [] spaces = tt
no_brace_spaces (b ∷ gap) spaces = let is = spaces.0 in ((λ e. omega (arith, e, is)), no_brace_spaces gap spaces.1)

wide_not : (b c : ℕ) → is_wide_byte b ≡ true → is_wide_byte c ≡ false → b ≢ c
wide_not b c wide narrow e = let now : is_wide_byte c ≡ true = ap is_wide_byte (sym e) ∙ wide in cc

quiet_joined : (a b : List Part) → AllByRecursion IsQuiet a → AllByRecursion IsQuiet b → AllByRecursion IsQuiet (a ++ b)
quiet_joined [] b all all' = all'
quiet_joined (p ∷ a) b all all' = (all.0, quiet_joined a b all.1 all')

-- an untagged line
module _ (left : Left) (fits : Fits left) (after : List ℕ) (u : IsUntagged left.text after) where
  abbrev star : List ℕ
  star = 42 ∷ u.2.gap

  star_text : left.text ≡ star ++ after
  star_text = u.1 ∙ ap (λ (t : List ℕ). 42 ∷ t) u.2.whole

  star_passes : Passes left (bytes star) (at_left left after)
  star_passes = bytes_pass left star after fits star_text

  star_quiet : AllByRecursion IsQuiet (bytes star)
  star_quiet = (((λ e. omega (arith, e)), (λ e. omega (arith, e)), (λ e. omega (arith, e))), quiet_spaces u.2.gap u.2.spaces.1)

  star_brace : NoBrace star
  star_brace = ((λ e. omega (arith, e)), no_brace_spaces u.2.gap u.2.spaces.1)

  module _ (some : (word_at after).0 ≢ []) where
    abbrev word : List ℕ
    word = (word_at after).0

    abbrev rest : List ℕ
    rest = (word_at after).1

    word_is : IsWordCut after word rest
    word_is = word_cuts after some

    has_word : (name : List ℕ) → SameWord word name → HasWord left.text name rest
    has_word name same = (after, u, begins_with_word after name some same)

    word_text : left.text ≡ (star ++ word) ++ rest
    word_text = star_text ∙ ap (λ (t : List ℕ). star ++ t) word_is.whole ∙ sym (append_assoc star word rest)

    word_passes : Passes left (bytes (star ++ word)) (at_left left rest)
    word_passes = bytes_pass left (star ++ word) rest fits word_text

    untagged_again : IsUntagged left.text (word ++ rest)
    untagged_again = subst (IsUntagged left.text) word_is.whole u

    -- words, sets and searches
    vanished_line : (earlier : Bool) (uids : List UidRange) → SameWord word (codes "VANISHED") → IsVanished rest earlier uids →
        IsLineFront left None (responses.Vanished earlier uids)
    vanished_line false uids same v = plain_line left None (responses.Vanished false uids) fits
        (rest, v.0, v.1, refl, has_word (codes "VANISHED") same, v.2, v.3, v.4)
        (λ e. (rest, v.0, v.1, refl, has_word (codes "VANISHED") same, v.2, v.3, v.4))
    vanished_line true uids same v = plain_line left None (responses.Vanished true uids) fits
        (rest, v.0, v.1, v.2, v.3, refl, has_word (codes "VANISHED") same, v.4, v.5, v.6, v.7, v.8)
        (λ e. (rest, v.0, v.1, v.2, v.3, refl, has_word (codes "VANISHED") same, v.4, v.5, v.6, v.7, v.8))

    extended_line : (uids : List UidRange) → SameWord word (codes "ESEARCH") → IsExtendedFront (at_left left rest) uids →
        IsLineFront left None (responses.Found uids)
    extended_line uids same w =
        let line : IsLineOf left.text (bytes (star ++ word) ++ w.parts) (responses.Found uids) =
        inr (
          w.parts,
          record {
            front = star ++ word;
            rest = rest;
            named = has_word (codes "ESEARCH") same;
            fronted = word_text;
            whole =
                refl;
          },
          w.tells,
        ) in
        record {
          parts = bytes (star ++ word) ++ w.parts;
          end = w.end;
          passes = joined left (bytes (star ++ word)) (at_left left rest) w.parts w.end word_passes w.passes;
          none = w.none;
          line = line;
          within = λ e. line;
        }

    abbrev line_rows : List (List ℕ × Result Response ℕ)
    line_rows = (codes "CAPABILITY", capability_line_at rest) ∷ (codes "ENABLED", enabled_at rest) ∷ (codes "VANISHED", vanished_at rest)
        ∷ (codes "SEARCH", (found_at rest >>= to_found)) ∷ (codes "ESEARCH", (extended_at (at_left left rest) >>= to_found)) ∷ []

    abbrev other_row : Result Response ℕ
    other_row = other_at (at_left left after) >>= to_done

    lines_are : named_line_at word (at_left left after) rest ≡ choose word line_rows other_row
    unfolding named_line_at
    lines_are = refl

    line_row : (response : Response) → Chosen word line_rows response → IsLineFront left None response
    line_row response (inl row) =
        let w = capability_spells rest response row.1 in
        subst (IsLineFront left None) w.3 (plain_line left None (responses.Capability w.0) fits
        (rest, refl, has_word (codes "CAPABILITY") row.0, w.1, w.2) (λ e. (rest, refl, has_word (codes "CAPABILITY") row.0, w.1, w.2)))
    line_row response (inr (inl row)) =
        let w = enabled_spells rest response row.1 in
        subst (IsLineFront left None) w.2 (plain_line left None (responses.Enabled w.0) fits
        (rest, refl, has_word (codes "ENABLED") row.0, w.1) (λ e. (rest, refl, has_word (codes "ENABLED") row.0, w.1)))
    line_row response (inr (inr (inl row))) =
        let w = vanished_spells rest response row.1 in
        subst (IsLineFront left None) w.3 (vanished_line w.0 w.1 row.0 w.2)
    line_row response (inr (inr (inr (inl row)))) =
        let uids = ok_bind (found_at rest) to_found response row.1 in
        subst (IsLineFront left None) (ok_is (responses.Found uids.0) response uids.2)
        (plain_line left None (responses.Found uids.0) fits (inl (
          rest,
          refl,
          has_word (codes "SEARCH") row.0,
          found_spells rest uids.0 uids.1,
        )) (λ e. (inl (rest, refl, has_word (codes "SEARCH") row.0, found_spells rest uids.0 uids.1))))
    line_row response (inr (inr (inr (inr (inl row))))) =
        let uids = ok_bind (extended_at (at_left left rest)) to_found response row.1 in
        subst (IsLineFront left None) (ok_is (responses.Found uids.0) response uids.2)
        (extended_line uids.0 row.0 (extended_spells (at_left left rest) uids.0
        (fits_behind left (bytes (star ++ word)) (at_left left rest) word_passes) uids.1))
    line_row response (inr (inr (inr (inr (inr row))))) = absurd row

    -- a line without a meaning here
    strange_line : IsOtherFront (at_left left after) → (IsNumeral 10 word × (GoesOnWith rest (codes "EXISTS") → ⊥)
        × (GoesOnWith rest (codes "FETCH") → ⊥)) ⊎ ((IsNumeral 10 word → ⊥) × (is_known_word word ≡ false)) →
        IsLineFront left None responses.Other
    strange_line w strange =
        let line : IsLineOf left.text (bytes star ++ w.parts) responses.Other = record {
          word = word;
          later = rest;
          untagged = untagged_again;
          is_word = word_is.is_word;
          ends = word_is.stops;
          strange = strange;
          quiet = quiet_joined (bytes star) w.parts star_quiet w.quiet;
          closed = w.closed star star_brace;
        } in
        record {
          parts = bytes star ++ w.parts;
          end = w.end;
          passes = joined left (bytes star) (at_left left after) w.parts w.end star_passes w.passes;
          none = w.none;
          line = line;
          within = λ e. line;
        }

    -- a status response
    abbrev bye : Coded → Result Said ℕ
    bye coded = Ok (record { response = responses.Bye; excess = coded.excess })

    abbrev preauth : Coded → Result Said ℕ
    preauth coded = Ok (record { response = responses.Preauth coded.code; excess = coded.excess })

    abbrev status_rows : List (List ℕ × Result Said ℕ)
    status_rows = (codes "BYE", (text_at whole rest >>= bye)) ∷ (codes "PREAUTH", (text_at whole rest >>= preauth)) ∷ []

    abbrev status_other : Result Said ℕ
    status_other = named_line_at word (at_left left after) rest >>= to_simply

    status_are : status_at whole word (at_left left after) rest ≡ choose word status_rows status_other
    unfolding status_at
    status_are = refl

    by_said : (said told : Said) → told ≡ said → IsLineFront left told.excess told.response → IsLineFront left said.excess said.response
    by_said said told same line = subst (λ (s : Said). IsLineFront left s.excess s.response) same line

    status_row : (said : Said) → Chosen word status_rows said → IsLineFront left said.excess said.response
    status_row said (inl row) =
        let coded = ok_bind (text_at whole rest) bye said row.1 in
        by_said said (record { response = responses.Bye; excess = coded.0.excess })
        (ok_is (record { response = responses.Bye; excess = coded.0.excess }) said coded.2)
        (plain_line left coded.0.excess responses.Bye fits (rest, coded.0.code, refl, has_word (codes "BYE") row.0, part_spells rest coded.0 coded.1)
        (λ e. (rest, coded.0.code, refl, has_word (codes "BYE") row.0, part_spells rest coded.0 coded.1, (text_agrees rest coded.0 coded.1).to e)))
    status_row said (inr (inl row)) =
        let coded = ok_bind (text_at whole rest) preauth said row.1 in
        by_said said (record { response = responses.Preauth coded.0.code; excess = coded.0.excess })
        (ok_is (record { response = responses.Preauth coded.0.code; excess = coded.0.excess }) said coded.2)
        (plain_line left coded.0.excess (responses.Preauth coded.0.code) fits (rest, refl, has_word (codes "PREAUTH") row.0, part_spells rest coded.0 coded.1)
        (λ e. ((rest, refl, has_word (codes "PREAUTH") row.0, part_spells rest coded.0 coded.1), (text_agrees rest coded.0 coded.1).to e)))
    status_row said (inr (inr row)) = absurd row

    named_row : (response : Response) → same_word word (codes "OK") ≡ false → same_word word (codes "NO") ≡ false →
        same_word word (codes "BAD") ≡ false → IsNone word status_rows → (IsNumeral 10 word → ⊥)
        → named_line_at word (at_left left after) rest ≡ Ok response → IsLineFront left None response
    named_row response ok no_ bad none numeral is = elim (choice word line_rows other_row response (sym lines_are ∙ is)) [
      | inl row ↦ line_row response row
      | inr rows ↦
          let w = ok_bind (other_at (at_left left after)) to_done response rows.1 in
          let n = rows.0 in
          subst (IsLineFront left None) (ok_is responses.Other response w.2)
          (strange_line (other_spells (at_left left after) (fits_behind left (bytes star) (at_left left after) star_passes) w.1)
          (inr (numeral, of_none known_words word (ok, (no_, (bad, (none.0, (none.1.0, (n.0, (n.1.0, (n.1.1.0, (n.1.1.1.0, (n.1.1.1.1.0, tt)))))))))))))
    ]

    status_line : (said : Said) → same_word word (codes "OK") ≡ false → same_word word (codes "NO") ≡ false →
        same_word word (codes "BAD") ≡ false → (IsNumeral 10 word → ⊥)
        → status_at whole word (at_left left after) rest ≡ Ok said → IsLineFront left said.excess said.response
    status_line said ok no_ bad numeral is = elim (choice word status_rows status_other said (sym status_are ∙ is)) [
      | inl row ↦ status_row said row
      | inr none ↦
          let response = ok_bind (named_line_at word (at_left left after) rest) to_simply said none.1 in
          by_said said (simply response.0) (ok_is (simply response.0) said response.2) (named_row response.0 ok no_ bad none.0 numeral response.1)
    ]

    abbrev ended : Ending → Coded → Result Said ℕ
    ended ending coded = Ok (record { response = responses.Untagged ending coded.code; excess = coded.excess })

    ended_line : (said : Said) (ending : Ending) → SameWord word (ending_word ending) → (text_at whole rest >>= ended ending) ≡ Ok said →
        IsLineFront left said.excess said.response
    ended_line said ending same is =
        let coded = ok_bind (text_at whole rest) (ended ending) said is in
        by_said said (record { response = responses.Untagged ending coded.0.code; excess = coded.0.excess })
        (ok_is (record { response = responses.Untagged ending coded.0.code; excess = coded.0.excess }) said coded.2)
        (plain_line left coded.0.excess (responses.Untagged ending coded.0.code) fits
        (rest, refl, has_word (ending_word ending) same, part_spells rest coded.0 coded.1)
        (λ e. ((rest, refl, has_word (ending_word ending) same, part_spells rest coded.0 coded.1), (text_agrees rest coded.0 coded.1).to e)))

    ending_line : (said : Said) → IsEnding word → (IsNumeral 10 word → ⊥) →
        ended_at whole word (at_left left after) rest (ending_of word) ≡ Ok said → IsLineFront left said.excess said.response
    ending_line said (named ending same is) numeral read = ended_line said ending same (sym (ap (ended_at whole word (at_left left after) rest) is) ∙ read)
    ending_line said (other ok no_ bad is) numeral read = status_line said ok no_ bad numeral
        (sym (ap (ended_at whole word (at_left left after) rest) is) ∙ read)

    -- a number in front
    second_some : (r : Result (List ℕ) ℕ) (name : List ℕ) → name ≢ [] → SameWord (second_word r).0 name →
        (behind : List ℕ) × (r ≡ Ok behind) × Begins behind name (second_word r).1
    second_some (Ok behind) name some_name same = (behind, refl, begins_with_word behind name (word_same behind name some_name same) same)
    second_some (Err e) name some_name same = absurd (word_same [] name some_name same refl)

    numbered : (name : List ℕ) → name ≢ [] → SameWord (second_word (gap_at rest)).0 name → IsNumbered left.text word name (second_word (gap_at rest)).1
    numbered name some_name same =
        let second = second_some (gap_at rest) name some_name same in
        (rest, second.0, untagged_again, gap_spells rest second.0 second.1, second.2)

    goes_on : (name : List ℕ) → list_all is_word_byte name ≡ true → name ≢ [] → same_word (second_word (gap_at rest)).0 name ≡ false → GoesOnWith rest name → ⊥
    goes_on name solid some_name test goes =
        let cut = begins_cut goes.0 name goes.1 some_name solid goes.3 in
        let second = second_is rest goes.0 goes.2 in
        let front : (second_word (gap_at rest)).0 ≡ goes.3.word = ap (λ (p : List ℕ × List ℕ). p.0) second ∙ word_front goes.0 goes.3.word goes.1 cut in
        other_is (second_word (gap_at rest)).0 name test (subst (λ (w : List ℕ). SameWord w name) (sym front) goes.3.same)

    run_is : (run tail : List ℕ) → IsNumeral 10 word → IsNumeral 10 run → after ≡ run ++ tail → Ends is_wide_byte tail → run ≡ word
    run_is run tail numeral numeral' is ends =
        let one : IsCut is_wide_byte after run tail = record { all = digits_wide run numeral'.1; ends = ends; whole = is } in
        let two : IsCut is_wide_byte after word rest = record {
          all = digits_wide word numeral.1;
          ends =
              stops_narrow rest word_is.stops;
          whole = word_is.whole;
        } in
        sym (cut_front is_wide_byte after run tail one) ∙ cut_front is_wide_byte after word rest two

    abbrev counted : ℕ × List ℕ → Unit {0} → Result Said ℕ
    counted count end = Ok (simply (responses.Exists count.0))

    abbrev count_end : ℕ × List ℕ → Result Said ℕ
    count_end count = end_at (second_word (gap_at rest)).1 >>= counted count

    exists_line : (said : Said) → IsNumeral 10 word → SameWord (second_word (gap_at rest)).0 (codes "EXISTS") →
        exists_at after (second_word (gap_at rest)).1 ≡ Ok said → IsLineFront left said.excess said.response
    unfolding exists_at
    exists_line said numeral same is =
        let count = ok_bind (number_at after) count_end said is in
        let done = ok_bind (end_at (second_word (gap_at rest)).1) (counted count.0) said count.2 in
        let front = number_at_spells after count.0.0 count.0.1 count.1 in
        let digits = run_is front.run count.0.1 numeral front.spells.digits front.whole front.ends in
        by_said said (simply (responses.Exists count.0.0)) (ok_is (simply (responses.Exists count.0.0)) said done.2)
        (plain_line left None (responses.Exists count.0.0) fits (
          word,
          (second_word (gap_at rest)).1,
          refl,
          subst (λ (d : List ℕ). IsNumber d count.0.0) digits front.spells,
          numbered (codes "EXISTS") (λ e. cc) same,
          end_spells (second_word (gap_at rest)).1 done.1,
        ) (λ e. (
          word,
          (second_word (gap_at rest)).1,
          refl,
          subst (λ (d : List ℕ). IsNumber d count.0.0) digits front.spells,
          numbered (codes "EXISTS") (λ e. cc) same,
          end_spells (second_word (gap_at rest)).1 done.1,
        )))

    abbrev fetched_by : ℕ × List ℕ → Result Said ℕ
    fetched_by number = fetch_at whole (at_left (at_left left after) (second_word (gap_at rest)).1)

    fetch_line : (said : Said) → IsNumeral 10 word → SameWord (second_word (gap_at rest)).0 (codes "FETCH") →
        (nonzero_at after >>= fetched_by) ≡ Ok said → IsLineFront left said.excess said.response
    fetch_line said numeral same is =
        let tail : List ℕ = (second_word (gap_at rest)).1 in
        let number = ok_bind (nonzero_at after) fetched_by said is in
        let front = nonzero_at_spells after number.0.0 number.0.1 number.1 in
        let digits = run_is front.run number.0.1 numeral front.spells.0.digits front.whole front.ends in
        let second = second_some (gap_at rest) (codes "FETCH") (λ e. cc) same in
        let gap = gap_spells rest second.0 second.1 in
        let before : List ℕ = ((star ++ word) ++ gap.gap) ++ second.2.word in
        let text : left.text ≡ (((star ++ word) ++ gap.gap) ++ second.2.word) ++ (second_word (gap_at rest)).1 =
        word_text ∙ ap (λ (t : List ℕ). (star ++ word) ++ t) (gap.whole ∙ ap (λ (t : List ℕ). gap.gap ++ t) second.2.whole)
        ∙ sym (append_assoc (star ++ word) gap.gap (second.2.word ++ (second_word (gap_at rest)).1))
        ∙ sym (append_assoc ((star ++ word) ++ gap.gap) second.2.word (second_word (gap_at rest)).1) in
        let passes = bytes_pass left (((star ++ word) ++ gap.gap) ++ second.2.word) (second_word (gap_at rest)).1 fits text in
        let w = fetch_spells (at_left left (second_word (gap_at rest)).1) said
        (fits_behind left (bytes (((star ++ word) ++ gap.gap) ++ second.2.word))
        (at_left left (second_word (gap_at rest)).1) passes) number.2 in
        let f = w.fetch in
        let line : IsFetchLine left.text (bytes (((star ++ word) ++ gap.gap) ++ second.2.word) ++ w.later) w.later = record {
          digits = word;
          number = number.0.0;
          nonzero = subst (λ (d : List ℕ). IsNonzero d number.0.0) digits front.spells;
          front = ((star ++ word) ++ gap.gap) ++ second.2.word;
          rest = (second_word (gap_at rest)).1;
          numbered = (rest, second.0, untagged_again, gap, second.2);
          fronted = text;
          whole = refl;
        } in
        subst (IsLineFront left said.excess) (sym w.is) (record {
          parts = bytes (((star ++ word) ++ gap.gap) ++ second.2.word) ++ w.later;
          end = w.end;
          passes = joined left (bytes (((star ++ word) ++ gap.gap) ++ second.2.word))
              (at_left left (second_word (gap_at rest)).1) w.later w.end passes w.passes;
          none = w.none;
          line = (w.later, f.gap, f.items, f.told, f.blank, line, f.gap_spaces, f.are, f.blank_spaces, f.whole_is, f.tells);
          within = λ e. (w.later, f.gap, f.items, f.told, f.blank, line, f.gap_spaces, f.are, f.blank_spaces, f.whole_is, f.tells, w.within e);
        })

    abbrev said_other : Unit {0} → Result Said ℕ
    said_other done = Ok (simply responses.Other)

    abbrev number_rows : Result Said ℕ
    number_rows =
        cond (same_word (second_word (gap_at rest)).0 (codes "EXISTS")) (exists_at after (second_word (gap_at rest)).1)
        (cond (same_word (second_word (gap_at rest)).0 (codes "FETCH")) (nonzero_at after >>= fetched_by) (other_at (at_left left after) >>= said_other))

    numbers_are : numbered_at whole (at_left left after) ≡ number_rows
    unfolding numbered_at
    numbers_are = refl

    number_line : (said : Said) → IsNumeral 10 word → numbered_at whole (at_left left after) ≡ Ok said → IsLineFront left said.excess said.response
    number_line said numeral is = elim (ok_either (same_word (second_word (gap_at rest)).0 (codes "EXISTS")) (exists_at after (second_word (gap_at rest)).1)
        (cond (same_word (second_word (gap_at rest)).0 (codes "FETCH")) (nonzero_at after >>= fetched_by)
        (other_at (at_left left after) >>= said_other)) said (sym numbers_are ∙ is)) [
          | inl exists ↦ exists_line said numeral (same_is (second_word (gap_at rest)).0 (codes "EXISTS") exists.0) exists.1
          | inr later ↦ elim (ok_either (same_word (second_word (gap_at rest)).0 (codes "FETCH")) (nonzero_at after >>= fetched_by)
              (other_at (at_left left after) >>= said_other) said later.1) [
                | inl fetch ↦ fetch_line said numeral (same_is (second_word (gap_at rest)).0 (codes "FETCH") fetch.0) fetch.1
                | inr none ↦
                    let w = ok_bind (other_at (at_left left after)) said_other said none.1 in
                    by_said said (simply responses.Other) (ok_is (simply responses.Other) said w.2)
                    (strange_line (other_spells (at_left left after) (fits_behind left (bytes star) (at_left left after) star_passes) w.1)
                    (inl (numeral, goes_on (codes "EXISTS") refl (λ e. cc) later.0, goes_on (codes "FETCH") refl (λ e. cc) none.0)))
              ]
        ]

    no_digits : is_digits word ≡ false → IsNumeral 10 word → ⊥
    no_digits test numeral = let is = is_numeral word numeral in cc

    word_line : (said : Said) → cond (is_digits word) (numbered_at whole (at_left left after))
        (ended_at whole word (at_left left after) rest (ending_of word)) ≡ Ok said → IsLineFront left said.excess said.response
    word_line said is = elim (ok_either (is_digits word) (numbered_at whole (at_left left after))
        (ended_at whole word (at_left left after) rest (ending_of word)) said is) [
          | inl digits ↦ number_line said (numeral_is word digits.0) digits.1
          | inr plain ↦ ending_line said (ending_cases word) (no_digits plain.0) plain.1
        ]

  untagged_is : untagged_at whole (at_left left after) ≡ cond (length (word_at after).0 == 0) (Err (length after))
      (cond (is_digits (word_at after).0) (numbered_at whole (at_left left after))
      (ended_at whole (word_at after).0 (at_left left after) (word_at after).1 (ending_of (word_at after).0)))
  unfolding untagged_at
  untagged_is = refl

  pub untagged_line : (said : Said) → untagged_at whole (at_left left after) ≡ Ok said → IsLineFront left said.excess said.response
  untagged_line said is =
      let some = ok_second (length (word_at after).0 == 0) (length after)
      (cond (is_digits (word_at after).0) (numbered_at whole (at_left left after))
      (ended_at whole (word_at after).0 (at_left left after) (word_at after).1 (ending_of (word_at after).0))) said
      (sym untagged_is ∙ is) in
      word_line (len_some (word_at after).0 some.0) said some.1

ending_some : (ending : Ending) → ending_word ending ≢ []
ending_some endings.Ok e = cc
ending_some endings.No e = cc
ending_some endings.Bad e = cc

-- a completion
abbrev pub done_by : Ending → List ℕ → Coded → Result Said ℕ
done_by ending tag coded = Ok (record { response = responses.Done (tag_of tag) ending coded.code; excess = coded.excess })

tag_fits : (text word : List ℕ) (o : Option ℕ) → fits_tag text word o ≡ Ok tt → (word ≢ []) × (o ≡ None)
tag_fits text [] o is = absurd (err_not (length text) tt is)
tag_fits text (b ∷ word) None is = ((λ e. cc), refl)
tag_fits text (b ∷ word) (Some place) is = absurd (err_not (length text - place) tt is)

abbrev pub by_ending : List ℕ → List ℕ → Result Said ℕ
by_ending text after = done_at whole (word_at text).0 after (word_at after).1 (ending_of (word_at after).0)

abbrev pub by_tag : List ℕ → Unit {0} → Result Said ℕ
by_tag text fits = gap_at (word_at text).1 >>= by_ending text

done_ending : (left : Left) (fits : Fits left) (after : List ℕ) (said : Said) →
    IsWordCut left.text (word_at left.text).0 (word_at left.text).1 → IsTag (word_at left.text).0 → Spaced (word_at left.text).1 after →
    IsEnding (word_at after).0
    → by_ending left.text after ≡ Ok said → IsLineFront left said.excess said.response
done_ending left fits after said cut tag spaced (named ending same is) read =
    let coded = ok_bind (text_at whole (word_at after).1) (done_by ending (word_at left.text).0) said
    (sym (ap (done_at whole (word_at left.text).0 after (word_at after).1) is) ∙ read) in
    let some = word_same after (ending_word ending) (ending_some ending) same in
    subst (λ (s : Said). IsLineFront left s.excess s.response) (ok_is
    (record { response = responses.Done (tag_of (word_at left.text).0) ending coded.0.code; excess = coded.0.excess }) said coded.2)
    (plain_line left coded.0.excess (responses.Done (tag_of (word_at left.text).0) ending coded.0.code) fits (
      (word_at left.text).0,
      (word_at left.text).1,
      after,
      (word_at after).1,
      refl,
      tag,
      cut.whole,
      tag_of_spells (word_at left.text).0,
      spaced,
      begins_with_word after (ending_word ending) some same,
      part_spells (word_at after).1 coded.0 coded.1,
    )
    (λ e. (
      (
        (word_at left.text).0,
        (word_at left.text).1,
        after,
        (word_at after).1,
        refl,
        tag,
        cut.whole,
        tag_of_spells (word_at left.text).0,
        spaced,
        begins_with_word after (ending_word ending) some same,
        part_spells (word_at after).1 coded.0 coded.1,
      ),
      (text_agrees (word_at after).1 coded.0 coded.1).to e,
    )))
done_ending left fits after said cut tag spaced (other ok no_ bad is) read =
    absurd (err_not (length after) said (sym (ap (done_at whole (word_at left.text).0 after (word_at after).1) is) ∙ read))

tagged_line : (left : Left) (said : Said) → Fits left → tagged_at whole left.text ≡ Ok said → IsLineFront left said.excess said.response
unfolding tagged_at
tagged_line left said fits is =
    let word : List ℕ = (word_at left.text).0 in
    let tag = ok_bind (fits_tag left.text (word_at left.text).0 (tag_misfit 0 0 (word_at left.text).0)) (by_tag left.text) said is in
    let after = ok_bind (gap_at (word_at left.text).1) (by_ending left.text) said tag.2 in
    let both = tag_fits left.text (word_at left.text).0 (tag_misfit 0 0 (word_at left.text).0) tag.1 in
    done_ending left fits after.0 said (word_cuts left.text both.0) (both.0, tag_spells (word_at left.text).0 0 0 both.1)
    (gap_spells (word_at left.text).1 after.0 after.1) (ending_cases (word_at after.0).0) after.2

-- a line
abbrev pub go : Coded → Result Said ℕ
go coded = Ok (record { response = responses.Go; excess = coded.excess })

abbrev pub by_star : Left → List ℕ → Result Said ℕ
by_star left after = untagged_at whole (at_left left after)

pub line_is : (left : Left) → line_at whole left ≡ cond (bytes_eq (word_at left.text).0 (42 ∷ [])) (gap_at (word_at left.text).1 >>= by_star left)
    (cond (bytes_eq (word_at left.text).0 (43 ∷ [])) (text_at whole (word_at left.text).1 >>= go) (tagged_at whole left.text))
unfolding line_at
line_is left = refl

first_word : (text : List ℕ) (b : ℕ) → (word_at text).0 ≡ b ∷ [] → text ≡ b ∷ (word_at text).1
first_word text b is =
    let cut = reading_cuts is_word_byte text in
    cut.whole ∙ ap (λ (w : List ℕ). w ++ (word_at text).1) is

go_line : (left : Left) (said : Said) → Fits left → (word_at left.text).0 ≡ 43 ∷ [] →
    (text_at whole (word_at left.text).1 >>= go) ≡ Ok said → IsLineFront left said.excess said.response
go_line left said fits is read =
    let coded = ok_bind (text_at whole (word_at left.text).1) go said read in
    subst (λ (s : Said). IsLineFront left s.excess s.response) (ok_is (record { response = responses.Go; excess = coded.0.excess }) said coded.2)
    (plain_line left coded.0.excess responses.Go fits (
      (word_at left.text).1,
      coded.0.code,
      refl,
      first_word left.text 43 is,
      part_spells (word_at left.text).1 coded.0 coded.1,
    ) (λ e. (
      (word_at left.text).1,
      coded.0.code,
      refl,
      first_word left.text 43 is,
      part_spells (word_at left.text).1 coded.0 coded.1,
      (text_agrees (word_at left.text).1 coded.0 coded.1).to e,
    )))

pub line_spells : (left : Left) (said : Said) → Fits left → line_at whole left ≡ Ok said → IsLineFront left said.excess said.response
line_spells left said fits is =
    elim (ok_either (bytes_eq (word_at left.text).0 (42 ∷ [])) (gap_at (word_at left.text).1 >>= by_star left)
    (cond (bytes_eq (word_at left.text).0 (43 ∷ [])) (text_at whole (word_at left.text).1 >>= go) (tagged_at whole left.text)) said
    (sym (line_is left) ∙ is)) [
      | inl star ↦
          let after = ok_bind (gap_at (word_at left.text).1) (by_star left) said star.1 in
          let text = first_word left.text 42 (bytes_equal (word_at left.text).0 (42 ∷ []) star.0) in
          untagged_line left fits after.0 ((word_at left.text).1, text, gap_spells (word_at left.text).1 after.0 after.1) said after.2
      | inr plain ↦ elim (ok_either (bytes_eq (word_at left.text).0 (43 ∷ [])) (text_at whole (word_at left.text).1 >>= go)
          (tagged_at whole left.text) said plain.1) [
            | inl plus ↦ go_line left said fits (bytes_equal (word_at left.text).0 (43 ∷ []) plus.0) plus.1
            | inr tag ↦ tagged_line left said fits tag.1
          ]
    ]
