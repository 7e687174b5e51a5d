-- A line: what is spelled is read so.
use Rattle.std.proofs.Common.{◌≡◌, ◌≢◌, ℕ, true, false, cond, List, [], ◌∷◌, ◌++◌, length, codes, Option, None, refl, ap, sym, ◌∙◌, subst}
use Rattle.std.proofs.Common.{inl, inr, arith, append-nil, Result, Ok, Err}
use Rattle.std.proofs.lemmas.Bool.{cases_Bool}
use Rattle.std.proofs.lemmas.Bool.Decides.{nat_tests}
use Rattle.std.proofs.lemmas.List.{append_cancel_left}
use Rattle.std.specs.Prelude.{◌==◌}
use Rattle.std.specs.List.{AllByRecursion, list_all}
use Rattle.std.specs.Char.{is_ascii_digit}
use Rattle.std.specs.Str.{bytes_eq}
use Rattle.std.specs.Str.Parse.{IsNumeral}
use Rattle.flag_set.specs.declared.flag_fault.FlagFault.{FlagFault}
use Rattle.uid_sets.specs.declared.uid.UidRange.{UidRange}
use Rattle.mail_base.specs.declared.tag.Tag.{Tag}
use Rattle.imap_model.specs.declared.code.Code.{Code}
use Rattle.imap_model.specs.declared.ending.Ending.{Ending}
use Rattle.imap_model.specs.declared.ending.Ending.TheVariants as endings
use Rattle.imap_model.specs.declared.fetched.Fetched.{Fetched}
use Rattle.imap_model.specs.declared.response.Response.{Response}
use Rattle.imap_model.specs.declared.response.Response.TheVariants as responses
use Rattle.imap_model.specs.Numbers.{IsNumber, IsNonzero}
use Rattle.imap_model.specs.Others.{IsQuiet, EndInHeader, IsStrange, known_words, is_known_word, GoesOnWith}
use Rattle.imap_model.specs.Parts.{Part, Byte, Literal, bytes}
use Rattle.imap_model.specs.Responses.{ending_word, IsFetchLine, IsLineOf}
use Rattle.imap_model.specs.Searches.{TellsSearch, TellsExtended}
use Rattle.imap_model.specs.Tagged.{is_tag_byte, IsTag, NamesTag}
use Rattle.imap_model.specs.TextParts.{IsTextPart}
use Rattle.imap_model.specs.Values.{is_wide_byte}
use Rattle.imap_model.specs.Words.{SameWord, AreSpaces, Spaced, Begins, Stops, IsUntagged, IsNamed as HasWord, IsNumbered, IsWord, is_word_byte}
use Rattle.imap_model.proofs.Cutting.{Stops as Ends}
use Rattle.imap_response.specs.declared.line.Said.{Said}
use Rattle.imap_response.specs.declared.text_part.Coded.{Coded}
use Rattle.imap_response.specs.Flags.{whole}
use Rattle.imap_response.specs.Leaf.{gap_at, end_at, word_at, same_word, is_digits}
use Rattle.imap_response.specs.Reads.{◌>>=◌}
use Rattle.imap_response.specs.ReadNumbers.{number_at, nonzero_at}
use Rattle.imap_response.specs.Tags.{tag_misfit, tag_of}
use Rattle.imap_response.specs.ReadTextParts.{text_at}
use Rattle.imap_response.specs.Left.{Left, at_left}
use Rattle.imap_response.specs.ReadSearches.{found_at, extended_at}
use Rattle.imap_response.specs.ReadLines.{simply, ending_of, fits_tag, done_at, tagged_at, other_at, capability_line_at, enabled_at}
use Rattle.imap_response.specs.ReadLines.{vanished_at, named_line_at, status_at, fetch_at, exists_at, second_word, numbered_at, ended_at}
use Rattle.imap_response.specs.ReadLines.{untagged_at, line_at}
use Rattle.imap_response.specs.Within.{IsCodeWithin, IsToldWithin, IsLineWithin}
use Rattle.imap_response.proofs.spelling.Agreeing.{text_agrees}
use Rattle.imap_response.proofs.spelling.Choices.{choose, choose_same, choose_none, same_test, none_of}
use Rattle.imap_response.proofs.spelling.CodeRows.{spaced_ends}
use Rattle.imap_response.proofs.spelling.Endings.{ending_reads, begins_with_word, begins_cut, word_same, second_is}
use Rattle.imap_response.proofs.spelling.ExtendedLines.{extended_reads}
use Rattle.imap_response.proofs.spelling.ItemLists.{IsFetch, fetch_reads}
use Rattle.imap_response.proofs.spelling.ItemReads.{named_atom}
use Rattle.imap_response.proofs.spelling.Lines.{to_done, to_found, to_simply, go, by_star, line_is, by_tag, by_ending, done_by}
use Rattle.imap_response.proofs.spelling.NamedLines.{capability_reads, enabled_reads, vanished_reads}
use Rattle.imap_response.proofs.spelling.Names.{is_same, is_other, bytes_equal, equal_bytes}
use Rattle.imap_response.proofs.spelling.NumberLists.{found_reads, spaced_stops}
use Rattle.imap_response.proofs.spelling.Numbers.{IsFront, number_at_reads, nonzero_at_reads, numeral_is, is_numeral, digits_wide}
use Rattle.imap_response.proofs.spelling.OtherLines.{NoBrace}
use Rattle.imap_response.proofs.spelling.OtherReads.{other_reads}
use Rattle.imap_response.proofs.spelling.Passing.{Passes, text_of, pass_bytes, pass_left, split}
use Rattle.imap_response.proofs.spelling.Results.{bind_ok, some_len}
use Rattle.imap_response.proofs.spelling.Runs.{AllPass, all_weaker}
use Rattle.imap_response.proofs.spelling.Steps.{repart}
use Rattle.imap_response.proofs.spelling.Tags.{tag_reads, tag_word, tag_of_reads}
use Rattle.imap_response.proofs.spelling.TextParts.{part_reads}
use Rattle.imap_response.proofs.spelling.WordLists.{IsWordCut, word_front, word_behind}
use Rattle.imap_response.proofs.spelling.Words.{gap_spells, gap_reads, end_reads}

-- the line is read, as this response: without an excess where P says so
abbrev Said_as : Result Said ℕ → Type 0 → Response → Type 0
Said_as read P response = (said : Said) × (read ≡ Ok said) × (said.response ≡ response) × (P → said.excess ≡ None)

-- a code within the limits tells no excess
code_within : (rest : List ℕ) (code : Code) (coded : Coded) → text_at whole rest ≡ Ok coded → coded.code ≡ code → IsCodeWithin code → coded.excess ≡ None
code_within rest code coded read is within = (text_agrees rest coded read).from (subst IsCodeWithin (sym is) within)

-- an untagged line
star_reads : (left : Left) (after : List ℕ) → IsUntagged left.text after → line_at whole left ≡ untagged_at whole (at_left left after)
star_reads left after u =
    let cut : IsWordCut left.text (42 ∷ []) u.0 = record { is_word = ((λ e. cc), (refl, tt)); stops = spaced_stops u.0 after u.2; whole = u.1 } in
    let front = word_front left.text (42 ∷ []) u.0 cut in
    let behind = word_behind left.text (42 ∷ []) u.0 cut in
    let test : bytes_eq (word_at left.text).0 (42 ∷ []) ≡ true = equal_bytes (word_at left.text).0 (42 ∷ []) front in
    line_is left ∙ rw test (ap (λ (b : List ℕ). gap_at b >>= by_star left) behind
    ∙ ap (λ (r : Result (List ℕ) ℕ). r >>= by_star left) (gap_reads u.0 after u.2))

abbrev by_word : Left → List ℕ → List ℕ → List ℕ → Result Said ℕ
by_word left after word rest = cond (is_digits word) (numbered_at whole (at_left left after)) (ended_at whole word (at_left left after) rest (ending_of word))

untagged_is : (left : Left) (after : List ℕ) → untagged_at whole (at_left left after)
    ≡ cond (length (word_at after).0 == 0) (Err (length after)) (by_word left after (word_at after).0 (word_at after).1)
unfolding untagged_at
untagged_is left after = refl

word_reads : (left : Left) (after word rest : List ℕ) → IsUntagged left.text after → IsWordCut after word rest →
    line_at whole left ≡ by_word left after word rest
word_reads left after word rest u cut =
    let front = word_front after word rest cut in
    let behind = word_behind after word rest cut in
    let some : (length (word_at after).0 == 0) ≡ false = ap (λ (w : List ℕ). length w == 0) front ∙ some_len word cut.is_word.0 in
    star_reads left after u ∙ untagged_is left after ∙ rw some (ap (λ (w : List ℕ). by_word left after w (word_at after).1) front
    ∙ ap (by_word left after word) behind)

no_digits : (word : List ℕ) → (IsNumeral 10 word → ⊥) → is_digits word ≡ false
no_digits word other = elim (cases_Bool (is_digits word)) [ inl is ↦ absurd (other (numeral_is word is)) | inr is ↦ is ]

plain_word_reads : (left : Left) (after word rest : List ℕ) → IsUntagged left.text after → IsWordCut after word rest →
    (IsNumeral 10 word → ⊥) → line_at whole left ≡ ended_at whole word (at_left left after) rest (ending_of word)
plain_word_reads left after word rest u cut plain = word_reads left after word rest u cut ∙ rw (no_digits word plain) refl

-- a name that begins lines
record IsName (name : List ℕ) : Type 0 where
  pub some : name ≢ []
  pub solid : list_all is_word_byte name ≡ true
  pub wide : list_all is_wide_byte name ≡ true
  pub not_nil : same_word name (codes "NIL") ≡ false
  pub not_digits : list_all is_ascii_digit name ≡ false

named_reads : (left : Left) (name rest : List ℕ) (h : HasWord left.text name rest) → IsName name →
    line_at whole left ≡ ended_at whole h.2.word (at_left left h.0) rest (ending_of h.2.word)
named_reads left name rest h is =
    plain_word_reads left h.0 h.2.word rest h.1 (begins_cut h.0 name rest is.some is.solid h.2)
    (named_atom h.2.word name h.2.same is.some is.wide is.not_nil is.not_digits).not_number

-- an ending
abbrev ended : Ending → Coded → Result Said ℕ
ended ending coded = Ok (record { response = responses.Untagged ending coded.code; excess = coded.excess })

ending_name : (ending : Ending) → IsName (ending_word ending)
ending_name endings.Ok = record { some = λ e. cc; solid = refl; wide = refl; not_nil = refl; not_digits = refl }
ending_name endings.No = record { some = λ e. cc; solid = refl; wide = refl; not_nil = refl; not_digits = refl }
ending_name endings.Bad = record { some = λ e. cc; solid = refl; wide = refl; not_nil = refl; not_digits = refl }

ending_line : (left : Left) (ending : Ending) (code : Code) (rest : List ℕ) → HasWord left.text (ending_word ending) rest →
    IsTextPart rest code → Said_as (line_at whole left) (IsCodeWithin code) (responses.Untagged ending code)
ending_line left ending code rest h part =
    let coded = part_reads rest code part in (
      record { response = responses.Untagged ending coded.0.code; excess = coded.0.excess },
      named_reads left (ending_word ending) rest h (ending_name ending)
          ∙ ap (ended_at whole h.2.word (at_left left h.0) rest) (ending_reads h.2.word ending h.2.same)
          ∙ bind_ok (text_at whole rest) (ended ending) coded.0 (record {
            response = responses.Untagged ending coded.0.code;
            excess =
                coded.0.excess;
          }) coded.1 refl,
      ap (responses.Untagged ending) coded.2,
      code_within rest code coded.0 coded.1 coded.2,
    )

-- another name: no ending
none_is : (word : List ℕ) → same_word word (codes "OK") ≡ false → same_word word (codes "NO") ≡ false →
    same_word word (codes "BAD") ≡ false → ending_of word ≡ None
none_is word a b c = rw (a, b, c) refl

abbrev bye : Coded → Result Said ℕ
bye coded = Ok (record { response = responses.Bye; excess = coded.excess })

abbrev preauth : Coded → Result Said ℕ
preauth coded = Ok (record { response = responses.Preauth coded.code; excess = coded.excess })

abbrev status_rows : List ℕ → List (List ℕ × Result Said ℕ)
status_rows rest = (codes "BYE", (text_at whole rest >>= bye)) ∷ (codes "PREAUTH", (text_at whole rest >>= preauth)) ∷ []

abbrev status_other : Left → List ℕ → List ℕ → Result Said ℕ
status_other left word rest = named_line_at word left rest >>= to_simply

status_is : (left : Left) (word rest : List ℕ) → status_at whole word left rest ≡ choose word (status_rows rest) (status_other left word rest)
unfolding status_at
status_is left word rest = refl

status_reads : (left : Left) (name rest : List ℕ) (h : HasWord left.text name rest) → IsName name → same_word name (codes "OK") ≡ false →
    same_word name (codes "NO") ≡ false → same_word name (codes "BAD") ≡ false
    → line_at whole left ≡ choose name (status_rows rest) (status_other (at_left left h.0) h.2.word rest)
status_reads left name rest h is a b c =
    named_reads left name rest h is
    ∙ ap (ended_at whole h.2.word (at_left left h.0) rest) (none_is h.2.word (same_test h.2.word name (codes "OK") h.2.same ∙ a)
    (same_test h.2.word name (codes "NO") h.2.same ∙ b) (same_test h.2.word name (codes "BAD") h.2.same ∙ c))
    ∙ status_is (at_left left h.0) h.2.word rest ∙ choose_same h.2.word name (status_rows rest) (status_other (at_left left h.0) h.2.word rest) h.2.same

bye_line : (left : Left) (rest : List ℕ) (code : Code) → HasWord left.text (codes "BYE") rest → IsTextPart rest code →
    Said_as (line_at whole left) (IsCodeWithin code) responses.Bye
bye_line left rest code h part =
    let coded = part_reads rest code part in (
      record { response = responses.Bye; excess = coded.0.excess },
      status_reads left (codes "BYE") rest h (record { some = λ e. cc; solid = refl; wide = refl; not_nil = refl; not_digits = refl }) refl refl refl
          ∙ bind_ok (text_at whole rest) bye coded.0 (record { response = responses.Bye; excess = coded.0.excess }) coded.1 refl,
      refl,
      code_within rest code coded.0 coded.1 coded.2,
    )

preauth_line : (left : Left) (rest : List ℕ) (code : Code) → HasWord left.text (codes "PREAUTH") rest → IsTextPart rest code →
    Said_as (line_at whole left) (IsCodeWithin code) (responses.Preauth code)
preauth_line left rest code h part =
    let coded = part_reads rest code part in (
      record { response = responses.Preauth coded.0.code; excess = coded.0.excess },
      status_reads left (codes "PREAUTH") rest h (record { some = λ e. cc; solid = refl; wide = refl; not_nil = refl; not_digits = refl }) refl refl refl
          ∙ bind_ok (text_at whole rest) preauth coded.0 (record { response = responses.Preauth coded.0.code; excess = coded.0.excess }) coded.1 refl,
      ap (λ (c : Code). responses.Preauth c) coded.2,
      code_within rest code coded.0 coded.1 coded.2,
    )

-- the other rows by a word
abbrev line_rows : Left → List ℕ → List (List ℕ × Result Response ℕ)
line_rows left rest = (codes "CAPABILITY", capability_line_at rest) ∷ (codes "ENABLED", enabled_at rest) ∷ (codes "VANISHED", vanished_at rest)
    ∷ (codes "SEARCH", (found_at rest >>= to_found)) ∷ (codes "ESEARCH", (extended_at (at_left left rest) >>= to_found)) ∷ []

abbrev other_row : Left → Result Response ℕ
other_row left = other_at left >>= to_done

rows_are : (left : Left) (word rest : List ℕ) → named_line_at word left rest ≡ choose word (line_rows left rest) (other_row left)
unfolding named_line_at
rows_are left word rest = refl

row_line : (left : Left) (name rest : List ℕ) (response : Response) (h : HasWord left.text name rest) → IsName name →
    same_word name (codes "OK") ≡ false → same_word name (codes "NO") ≡ false → same_word name (codes "BAD") ≡ false
    → same_word name (codes "BYE") ≡ false → same_word name (codes "PREAUTH") ≡ false →
    choose name (line_rows (at_left left h.0) rest) (other_row (at_left left h.0)) ≡ Ok response →
    Said_as (line_at whole left) (Unit {0}) response
row_line left name rest response h is a b c d e row =
    let start : Left = at_left left h.0 in
    let named : named_line_at h.2.word (at_left left h.0) rest ≡ Ok response =
    rows_are (at_left left h.0) h.2.word rest ∙ choose_same h.2.word name (line_rows (at_left left h.0) rest)
    (other_row (at_left left h.0)) h.2.same ∙ row in (
      simply response,
      status_reads left name rest h is a b c ∙ choose_none name (status_rows rest) (status_other (at_left left h.0) h.2.word rest) (d, (e, tt))
          ∙ bind_ok (named_line_at h.2.word (at_left left h.0) rest) to_simply response (simply response) named refl,
      refl,
      (λ w. refl),
    )

found_row : (rest : List ℕ) (uids : List UidRange) → TellsSearch rest uids → (found_at rest >>= to_found) ≡ Ok (responses.Found uids)
found_row rest uids tells = bind_ok (found_at rest) to_found uids (responses.Found uids) (found_reads rest uids tells) refl

extended_row : (left end : Left) (later : List Part) (uids : List UidRange) → TellsExtended later uids → Passes left later end →
    end.text ≡ [] → (extended_at left >>= to_found) ≡ Ok (responses.Found uids)
extended_row left end later uids tells passes none = bind_ok (extended_at left) to_found uids (responses.Found uids)
    (extended_reads left end later uids tells passes none) refl

-- behind bytes that are told
behind_front : (left end : Left) (front rest : List ℕ) (later : List Part) → left.text ≡ front ++ rest →
    Passes left (bytes front ++ later) end → Passes (at_left left rest) later end
behind_front left end front rest later is passes =
    let cut = split left (bytes front) later end passes in
    let same : cut.0.text ≡ rest = append_cancel_left front cut.0.text rest (sym (pass_bytes left front cut.0 cut.1) ∙ is) in
    let here : cut.0 ≡ at_left left rest = sym (pass_left left front cut.0 cut.1) ∙ ap (at_left left) same in
    subst (λ (l : Left). Passes l later end) here cut.2

heads_same : (b c : ℕ) (s t : List ℕ) → b ∷ s ≡ c ∷ t → b ≡ c
heads_same b c s t is = cc

tails_same : (b c : ℕ) (s t : List ℕ) → b ∷ s ≡ c ∷ t → s ≡ t
tails_same b c s t is = cc

-- parts begin with bytes that are no braces
parts_front : (front rest : List ℕ) (parts : List Part) → NoBrace front → text_of parts ≡ front ++ rest → (later : List Part) × (parts ≡ bytes front ++ later)
parts_front [] rest parts all is = (parts, refl)
parts_front (b ∷ front) rest [] all is = absurd cc
parts_front (b ∷ front) rest (Byte x ∷ parts) all is =
    let more = parts_front front rest parts all.1 (tails_same x b (text_of parts) (front ++ rest) is) in
    (more.0, ap (λ (y : ℕ). Byte y ∷ parts) (heads_same x b (text_of parts) (front ++ rest) is) ∙ ap (λ (p : List Part). Byte b ∷ p) more.1)
parts_front (b ∷ front) rest (Literal digits octets ∷ parts) all is = absurd (all.0 (sym (heads_same 123 b _ (front ++ rest) is)))

quiet_right : (a b : List Part) → AllByRecursion IsQuiet (a ++ b) → AllByRecursion IsQuiet b
quiet_right [] b all = all
quiet_right (p ∷ a) b all = quiet_right a b all.1

no_brace_spaces : (gap : List ℕ) → AreSpaces gap → NoBrace gap
no_brace_spaces [] spaces = tt
no_brace_spaces (b ∷ gap) spaces = let is = spaces.0 in ((λ e. omega (arith, e, is)), no_brace_spaces gap spaces.1)

other_there : (left end : Left) (parts : List Part) (after : List ℕ) → IsUntagged left.text after → AllByRecursion IsQuiet parts →
    (EndInHeader parts → ⊥) → Passes left parts end → end.text ≡ [] → other_at (at_left left after) ≡ Ok tt
other_there left end parts after u quiet closed passes none =
    let star : List ℕ = 42 ∷ u.2.gap in
    let text : left.text ≡ (42 ∷ u.2.gap) ++ after = u.1 ∙ ap (λ (t : List ℕ). 42 ∷ t) u.2.whole in
    let whole_text : text_of parts ≡ (42 ∷ u.2.gap) ++ after = sym
    (passes.text ∙ ap (λ (t : List ℕ). text_of parts ++ t) none ∙ append-nil (text_of parts)) ∙ text in
    let front = parts_front (42 ∷ u.2.gap) after parts ((λ e. omega (arith, e)), no_brace_spaces u.2.gap u.2.spaces.1) whole_text in
    let passes' = behind_front left end (42 ∷ u.2.gap) after front.0 text (repart left end parts (bytes (42 ∷ u.2.gap) ++ front.0) front.1 passes) in
    other_reads (at_left left after) end (42 ∷ u.2.gap) front.0 (quiet_right (bytes (42 ∷ u.2.gap)) front.0
    (subst (λ (p : List Part). AllByRecursion IsQuiet p) front.1 quiet)) passes' none
    (λ ends. closed (subst EndInHeader (sym front.1) ends))

-- lines with a number in front
abbrev fetched_by : Left → List ℕ → ℕ × List ℕ → Result Said ℕ
fetched_by left tail number = fetch_at whole (at_left left tail)

abbrev said_other : Unit {0} → Result Said ℕ
said_other done = Ok (simply responses.Other)

abbrev number_rows : Left → List ℕ × List ℕ → Result Said ℕ
number_rows left second =
    cond (same_word second.0 (codes "EXISTS")) (exists_at left.text second.1)
    (cond (same_word second.0 (codes "FETCH")) (nonzero_at left.text >>= fetched_by left second.1) (other_at left >>= said_other))

numbers_are : (left : Left) → numbered_at whole left ≡ number_rows left (second_word (gap_at (word_at left.text).1))
unfolding numbered_at
numbers_are left = refl

wide_word : (b : ℕ) → is_wide_byte b ≡ true → is_word_byte b ≡ true
wide_word b wide = grind (arith, nat_tests)

some_digits : (digits : List ℕ) → IsNumeral 10 digits → digits ≢ []
some_digits [] numeral is = omega (arith, numeral.0)
some_digits (b ∷ digits) numeral is = cc

digits_cut : (digits later : List ℕ) → IsNumeral 10 digits → Stops later → IsWordCut (digits ++ later) digits later
digits_cut digits later numeral stops =
    record {
      is_word = (some_digits digits numeral, all_weaker is_wide_byte is_word_byte wide_word digits (digits_wide digits numeral.1));
      stops = stops;
      whole = refl;
    }

number_reads : (left : Left) (digits later : List ℕ) → IsUntagged left.text (digits ++ later) → IsNumeral 10 digits → Stops later →
    line_at whole left ≡ number_rows (at_left left (digits ++ later)) (second_word (gap_at later))
number_reads left digits later u numeral stops =
    let cut = digits_cut digits later numeral stops in
    word_reads left (digits ++ later) digits later u cut ∙ rw (is_numeral digits numeral)
    (numbers_are (at_left left (digits ++ later)) ∙ ap (λ (b : List ℕ). number_rows (at_left left (digits ++ later))
    (second_word (gap_at b))) (word_behind (digits ++ later) digits later cut))

second_pair : (later behind name rest : List ℕ) → Spaced later behind → (b : Begins behind name rest) → IsName name →
    second_word (gap_at later) ≡ (b.word, rest)
second_pair later behind name rest spaced b is =
    let cut = begins_cut behind name rest is.some is.solid b in
    second_is later behind spaced ∙ ap (λ (w : List ℕ). (w, (word_at behind).1)) (word_front behind b.word rest cut)
    ∙ ap (λ (r : List ℕ). (b.word, r)) (word_behind behind b.word rest cut)

abbrev counted : ℕ × List ℕ → Unit {0} → Result Said ℕ
counted count end = Ok (simply (responses.Exists count.0))

abbrev count_end : List ℕ → ℕ × List ℕ → Result Said ℕ
count_end later count = end_at later >>= counted count

exists_row : (text digits later blank : List ℕ) (count : ℕ) → text ≡ digits ++ later → IsNumber digits count → Ends is_wide_byte later →
    AreSpaces blank → exists_at text blank ≡ Ok (simply (responses.Exists count))
unfolding exists_at
exists_row text digits later blank count is number ends spaces =
    bind_ok (number_at text) (count_end blank) (count, later) (simply (responses.Exists count))
    (number_at_reads text count later (record { run = digits; spells = number; whole = is; ends = ends }))
    (bind_ok (end_at blank) (counted (count, later)) tt (simply (responses.Exists count)) (end_reads blank spaces) refl)

exists_line : (left : Left) (digits blank : List ℕ) (count : ℕ) → IsNumber digits count →
    IsNumbered left.text digits (codes "EXISTS") blank → AreSpaces blank → Said_as (line_at whole left) (Unit {0}) (responses.Exists count)
exists_line left digits blank count number n spaces =
    let second = second_pair n.0 n.1 (codes "EXISTS") blank n.3 n.4 (record { some = λ e. cc; solid = refl; wide = refl; not_nil = refl; not_digits = refl }) in
    let test = is_same n.4.word (codes "EXISTS") n.4.same in (
      simply (responses.Exists count),
      number_reads left digits n.0 n.2 number.digits (spaced_stops n.0 n.1 n.3) ∙ ap (number_rows (at_left left (digits ++ n.0))) second
          ∙ rw test (exists_row (digits ++ n.0) digits n.0 blank count refl number (spaced_ends n.0 n.1 n.3) spaces),
      refl,
      (λ w. refl),
    )

fetch_line : (left end : Left) (parts later : List Part) (fetched : Fetched) → IsFetchLine left.text parts later →
    (fetch : IsFetch left later fetched) → Passes left parts end → end.text ≡ []
    → Said_as (line_at whole left) (AllByRecursion IsToldWithin fetch.told) (responses.Fetch fetched)
fetch_line left end parts later fetched line fetch passes none =
    let n = line.numbered in
    let passes' = behind_front left end line.front line.rest later line.fronted (repart left end parts (bytes line.front ++ later) line.whole passes) in
    let second = second_pair n.0 n.1 (codes "FETCH") line.rest n.3 n.4
    (record { some = λ e. cc; solid = refl; wide = refl; not_nil = refl; not_digits = refl }) in
    let other = same_test n.4.word (codes "FETCH") (codes "EXISTS") n.4.same in
    let test = is_same n.4.word (codes "FETCH") n.4.same in
    let start : Left = at_left left (line.digits ++ n.0) in
    let said = fetch_reads (at_left left line.rest) end later fetched
    (record {
      gap = fetch.gap;
      items = fetch.items;
      told = fetch.told;
      blank = fetch.blank;
      gap_spaces = fetch.gap_spaces;
      are =
          fetch.are;
      blank_spaces = fetch.blank_spaces;
      whole_is = fetch.whole_is;
      tells = fetch.tells;
    }) passes' none in
    let front : IsFront IsNonzero (line.digits ++ n.0) line.number n.0 =
    record { run = line.digits; spells = line.nonzero; whole = refl; ends = spaced_ends n.0 n.1 n.3 } in (
      said.0,
      number_reads left line.digits n.0 n.2 line.nonzero.0.digits (spaced_stops n.0 n.1 n.3) ∙ ap (number_rows (at_left left (line.digits ++ n.0))) second
          ∙ rw (other, test) (bind_ok (nonzero_at (line.digits ++ n.0)) (fetched_by (at_left left (line.digits ++ n.0)) line.rest)
          (line.number, n.0) said.0 (nonzero_at_reads (line.digits ++ n.0) line.number n.0 front) said.1),
      said.2,
      said.3,
    )

-- lines without a meaning here
begins_second : (later : List ℕ) (r : Result (List ℕ) ℕ) (name : List ℕ) → gap_at later ≡ r → name ≢ [] → SameWord (second_word r).0 name →
    GoesOnWith later name
begins_second later (Ok behind) name is some same = (
  behind,
  (word_at behind).1,
  gap_spells later behind is,
  begins_with_word behind name (word_same behind name some same) same,
)
begins_second later (Err e) name is some same = absurd (word_same [] name some same refl)

second_other : (later name : List ℕ) → name ≢ [] → (GoesOnWith later name → ⊥) → same_word (second_word (gap_at later)).0 name ≡ false
second_other later name some none = is_other (second_word (gap_at later)).0 name (λ same. none (begins_second later (gap_at later) name refl some same))

other_number : (left : Left) (word later : List ℕ) → IsUntagged left.text (word ++ later) → Stops later → IsNumeral 10 word →
    (GoesOnWith later (codes "EXISTS") → ⊥) → (GoesOnWith later (codes "FETCH") → ⊥) → other_at (at_left left (word ++ later)) ≡ Ok tt
    → Said_as (line_at whole left) (Unit {0}) responses.Other
other_number left word later u stops numeral exists fetch passed =
    let one = second_other later (codes "EXISTS") (λ e. cc) exists in
    let two = second_other later (codes "FETCH") (λ e. cc) fetch in (
      simply responses.Other,
      number_reads left word later u numeral stops ∙ rw (one, two)
          (bind_ok (other_at (at_left left (word ++ later))) said_other tt (simply responses.Other) passed refl),
      refl,
      (λ w. refl),
    )

other_word : (left : Left) (word later : List ℕ) → IsUntagged left.text (word ++ later) → IsWord word → Stops later →
    (IsNumeral 10 word → ⊥) → is_known_word word ≡ false → other_at (at_left left (word ++ later)) ≡ Ok tt →
    Said_as (line_at whole left) (Unit {0}) responses.Other
other_word left word later u is_word stops plain unknown passed =
    let n = none_of known_words word unknown in
    let cut : IsWordCut (word ++ later) word later = record { is_word = is_word; stops = stops; whole = refl } in
    let start : Left = at_left left (word ++ later) in
    let row : named_line_at word (at_left left (word ++ later)) later ≡ Ok responses.Other =
    rows_are (at_left left (word ++ later)) word later ∙ choose_none word (line_rows (at_left left (word ++ later)) later)
    (other_row (at_left left (word ++ later))) n.1.1.1.1.1
    ∙ bind_ok (other_at (at_left left (word ++ later))) to_done tt responses.Other passed refl in (
      simply responses.Other,
      plain_word_reads left (word ++ later) word later u cut plain
          ∙ ap (ended_at whole word (at_left left (word ++ later)) later) (none_is word n.0 n.1.0 n.1.1.0)
          ∙ status_is (at_left left (word ++ later)) word later
          ∙ choose_none word (status_rows later) (status_other (at_left left (word ++ later)) word later) (n.1.1.1.0, (n.1.1.1.1.0, tt))
          ∙ bind_ok (named_line_at word (at_left left (word ++ later)) later) to_simply responses.Other (simply responses.Other) row refl,
      refl,
      (λ w. refl),
    )

strange_line : (left : Left) (word later : List ℕ) → IsUntagged left.text (word ++ later) → IsWord word → Stops later →
    IsStrange word later → other_at (at_left left (word ++ later)) ≡ Ok tt → Said_as (line_at whole left) (Unit {0}) responses.Other
strange_line left word later u is_word stops (inl number) passed = other_number left word later u stops number.0 number.1 number.2 passed
strange_line left word later u is_word stops (inr plain) passed = other_word left word later u is_word stops plain.0 plain.1 passed

-- a completion
tag_other : (word : List ℕ) (b : ℕ) → IsTag word → is_tag_byte b ≡ false → bytes_eq word (b ∷ []) ≡ false
tag_other word b tag narrow = elim (cases_Bool (bytes_eq word (b ∷ []))) [
  | inl same ↦ absurd (let all = subst (AllPass is_tag_byte) (bytes_equal word (b ∷ []) same) tag.1 in let now = all.0 in cc)
  | inr is ↦ is
]

tag_fits : (text word : List ℕ) → IsTag word → fits_tag text word (tag_misfit 0 0 word) ≡ Ok tt
tag_fits text [] tag = absurd (tag.0 refl)
tag_fits text (b ∷ word) tag = ap (fits_tag text (b ∷ word)) (tag_reads (b ∷ word) 0 0 tag.1)

done_line : (left : Left) (tag : Tag) (ending : Ending) (code : Code) (word later behind rest : List ℕ) → IsTag word →
    left.text ≡ word ++ later → NamesTag word tag → Spaced later behind → Begins behind (ending_word ending) rest → IsTextPart rest code
    → Said_as (line_at whole left) (IsCodeWithin code) (responses.Done tag ending code)
unfolding tagged_at
done_line left tag ending code word later behind rest is_tag text names spaced begins part =
    let cut : IsWordCut left.text word later = record {
      is_word = (is_tag.0, tag_word word is_tag.1);
      stops =
          spaced_stops later behind spaced;
      whole = text;
    } in
    let front = word_front left.text word later cut in
    let back = word_behind left.text word later cut in
    let name = ending_name ending in
    let second = begins_cut behind (ending_word ending) rest name.some name.solid begins in
    let coded = part_reads rest code part in
    let said : Said = record { response = responses.Done (tag_of word) ending coded.0.code; excess = coded.0.excess } in
    let star : bytes_eq (word_at left.text).0 (42 ∷ []) ≡ false = ap (λ (w : List ℕ). bytes_eq w (42 ∷ [])) front ∙ tag_other word 42 is_tag refl in
    let plus : bytes_eq (word_at left.text).0 (43 ∷ []) ≡ false = ap (λ (w : List ℕ). bytes_eq w (43 ∷ [])) front ∙ tag_other word 43 is_tag refl in
    let fits : fits_tag left.text (word_at left.text).0 (tag_misfit 0 0 (word_at left.text).0) ≡ Ok tt =
    ap (λ (w : List ℕ). fits_tag left.text w (tag_misfit 0 0 w)) front ∙ tag_fits left.text word is_tag in
    let done : by_ending left.text behind ≡ Ok (record { response = responses.Done (tag_of word) ending coded.0.code; excess = coded.0.excess }) =
    ap (λ (w : List ℕ). done_at whole w behind (word_at behind).1 (ending_of (word_at behind).0)) front
    ∙ ap (λ (w : List ℕ). done_at whole word behind (word_at behind).1 (ending_of w)) (word_front behind begins.word rest second)
    ∙ ap (λ (r : List ℕ). done_at whole word behind r (ending_of begins.word)) (word_behind behind begins.word rest second)
    ∙ ap (done_at whole word behind rest) (ending_reads begins.word ending begins.same)
    ∙ bind_ok (text_at whole rest) (done_by ending word) coded.0
    (record { response = responses.Done (tag_of word) ending coded.0.code; excess = coded.0.excess }) coded.1 refl in (
      record { response = responses.Done (tag_of word) ending coded.0.code; excess = coded.0.excess },
      line_is left ∙ rw (star, plus) (bind_ok (fits_tag left.text (word_at left.text).0 (tag_misfit 0 0 (word_at left.text).0))
          (by_tag left.text) tt (record { response = responses.Done (tag_of word) ending coded.0.code; excess = coded.0.excess }) fits
          (bind_ok (gap_at (word_at left.text).1) (by_ending left.text) behind
          (record { response = responses.Done (tag_of word) ending coded.0.code; excess = coded.0.excess })
          (ap gap_at back ∙ gap_reads later behind spaced) done)),
      ap (λ (t : Tag). responses.Done t ending coded.0.code) (tag_of_reads word tag names) ∙ ap (responses.Done tag ending) coded.2,
      code_within rest code coded.0 coded.1 coded.2,
    )

-- a continuation
part_stops : (rest : List ℕ) (code : Code) → IsTextPart rest code → Stops rest
part_stops rest code (inl none) = subst Stops (sym none.0) tt
part_stops rest code (inr some) = spaced_stops rest some.0 some.1

go_line : (left : Left) (rest : List ℕ) (code : Code) → left.text ≡ 43 ∷ rest → IsTextPart rest code →
    Said_as (line_at whole left) (IsCodeWithin code) responses.Go
go_line left rest code text part =
    let cut : IsWordCut left.text (43 ∷ []) rest = record { is_word = ((λ e. cc), (refl, tt)); stops = part_stops rest code part; whole = text } in
    let front = word_front left.text (43 ∷ []) rest cut in
    let back = word_behind left.text (43 ∷ []) rest cut in
    let coded = part_reads rest code part in
    let star : bytes_eq (word_at left.text).0 (42 ∷ []) ≡ false = ap (λ (w : List ℕ). bytes_eq w (42 ∷ [])) front in
    let plus : bytes_eq (word_at left.text).0 (43 ∷ []) ≡ true = ap (λ (w : List ℕ). bytes_eq w (43 ∷ [])) front in (
      record { response = responses.Go; excess = coded.0.excess },
      line_is left ∙ rw (star, plus) (bind_ok (text_at whole (word_at left.text).1) go coded.0
          (record { response = responses.Go; excess = coded.0.excess }) (ap (text_at whole) back ∙ coded.1) refl),
      refl,
      code_within rest code coded.0 coded.1 coded.2,
    )

-- the sets of flags in a line keep the limits
abbrev Within : (text : List ℕ) (parts : List Part) (response : Response) → IsLineOf text parts response → Type 0
Within text parts (responses.Done tag ending code) line = IsCodeWithin code
Within text parts (responses.Untagged ending code) line = IsCodeWithin code
Within text parts (responses.Preauth code) line = IsCodeWithin code
Within text parts responses.Bye line = IsCodeWithin line.1
Within text parts responses.Go line = IsCodeWithin line.1
Within text parts (responses.Fetch fetched) line = AllByRecursion IsToldWithin line.3
Within text parts response line = Unit {0}

line_said : (left end : Left) (parts : List Part) (response : Response) (line : IsLineOf left.text parts response) →
    Passes left parts end → end.text ≡ [] → Said_as (line_at whole left) (Within left.text parts response line) response
line_said left end parts (responses.Done tag ending code) line passes none =
    done_line left tag ending code line.0 line.1 line.2 line.3 line.5 line.6 line.7 line.8 line.9 line.10
line_said left end parts (responses.Untagged ending code) line passes none = ending_line left ending code line.0 line.2 line.3
line_said left end parts responses.Bye line passes none = bye_line left line.0 line.1 line.3 line.4
line_said left end parts (responses.Preauth code) line passes none = preauth_line left line.0 code line.2 line.3
line_said left end parts responses.Go line passes none = go_line left line.0 line.1 line.3 line.4
line_said left end parts (responses.Capability words) line passes none =
    row_line left (codes "CAPABILITY") line.0 (responses.Capability words) line.2
    (record { some = λ e. cc; solid = refl; wide = refl; not_nil = refl; not_digits = refl }) refl refl refl refl refl
    (capability_reads line.0 words line.3 line.4)
line_said left end parts (responses.Enabled words) line passes none =
    row_line left (codes "ENABLED") line.0 (responses.Enabled words) line.2
    (record { some = λ e. cc; solid = refl; wide = refl; not_nil = refl; not_digits = refl }) refl refl refl refl refl
    (enabled_reads line.0 words line.3)
line_said left end parts (responses.Exists count) line passes none = exists_line left line.0 line.1 count line.3 line.4 line.5
line_said left end parts (responses.Fetch fetched) line passes none =
    fetch_line left end parts line.0 fetched line.5 (record {
      gap = line.1;
      items = line.2;
      told = line.3;
      blank = line.4;
      gap_spaces =
          line.6;
      are = line.7;
      blank_spaces = line.8;
      whole_is = line.9;
      tells = line.10;
    }) passes none
line_said left end parts (responses.Vanished false uids) line passes none =
    row_line left (codes "VANISHED") line.0 (responses.Vanished false uids) line.4
    (record { some = λ e. cc; solid = refl; wide = refl; not_nil = refl; not_digits = refl }) refl refl refl refl refl
    (vanished_reads line.0 false uids (line.1, line.2, line.5, line.6, line.7))
line_said left end parts (responses.Vanished true uids) line passes none =
    row_line left (codes "VANISHED") line.0 (responses.Vanished true uids) line.6
    (record { some = λ e. cc; solid = refl; wide = refl; not_nil = refl; not_digits = refl }) refl refl refl refl refl
    (vanished_reads line.0 true uids (line.1, line.2, line.3, line.4, line.7, line.8, line.9, line.10, line.11))
line_said left end parts (responses.Found uids) (inl line) passes none =
    row_line left (codes "SEARCH") line.0 (responses.Found uids) line.2
    (record { some = λ e. cc; solid = refl; wide = refl; not_nil = refl; not_digits = refl }) refl refl refl refl refl
    (found_row line.0 uids line.3)
line_said left end parts (responses.Found uids) (inr line) passes none =
    row_line left (codes "ESEARCH") line.1.rest (responses.Found uids) line.1.named
    (record { some = λ e. cc; solid = refl; wide = refl; not_nil = refl; not_digits = refl }) refl refl refl refl refl
    (extended_row (at_left left line.1.rest) end line.0 uids line.2
    (behind_front left end line.1.front line.1.rest line.0 line.1.fronted
    (repart left end parts (bytes line.1.front ++ line.0) line.1.whole passes)) none)
line_said left end parts responses.Other line passes none =
    strange_line left line.word line.later line.untagged line.is_word line.ends line.strange
    (other_there left end parts (line.word ++ line.later) line.untagged line.quiet line.closed passes none)

pub line_reads : (left end : Left) (parts : List Part) (response : Response) → IsLineOf left.text parts response → Passes left parts end →
    end.text ≡ [] → (said : Said) × (line_at whole left ≡ Ok said) × (said.response ≡ response)
line_reads left end parts response line passes none = let w = line_said left end parts response line passes none in (w.0, w.1, w.2)

pub within_line : (text : List ℕ) (parts : List Part) (response : Response) → IsLineWithin text parts response →
    (line : IsLineOf text parts response) × Within text parts response line
within_line text parts (responses.Done tag ending code) line = line
within_line text parts (responses.Untagged ending code) line = line
within_line text parts (responses.Preauth code) line = line
within_line text parts responses.Bye line = ((line.0, line.1, line.2, line.3, line.4), line.5)
within_line text parts responses.Go line = ((line.0, line.1, line.2, line.3, line.4), line.5)
within_line text parts (responses.Fetch fetched) line = ((line.0, line.1, line.2, line.3, line.4, line.5, line.6, line.7, line.8, line.9, line.10), line.11)
within_line text parts (responses.Capability words) line = (line, tt)
within_line text parts (responses.Enabled words) line = (line, tt)
within_line text parts (responses.Exists count) line = (line, tt)
within_line text parts (responses.Vanished earlier uids) line = (line, tt)
within_line text parts (responses.Found uids) line = (line, tt)
within_line text parts responses.Other line = (line, tt)

abbrev as_said : Response → Option FlagFault → Result Said ℕ
as_said response excess = Ok (record { response = response; excess = excess })

without_excess : (read : Result Said ℕ) (said : Said) (response : Response) → read ≡ Ok said → said.response ≡ response →
    said.excess ≡ None → read ≡ Ok (record { response = response; excess = None })
without_excess read said response is same none = is ∙ ap (λ (r : Response). as_said r said.excess) same ∙ ap (as_said response) none

pub line_within : (left end : Left) (parts : List Part) (response : Response) → IsLineWithin left.text parts response →
    Passes left parts end → end.text ≡ [] → line_at whole left ≡ Ok (record { response = response; excess = None })
line_within left end parts response within passes none =
    let line = within_line left.text parts response within in
    let w = line_said left end parts response line.0 passes none in
    without_excess (line_at whole left) w.0 response w.1 w.2 (w.3 line.1)
