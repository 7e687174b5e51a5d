-- The lines without literals, and the responses that they spell.
use Rattle.std.proofs.Common.{◌≡◌, ℕ, ◌<◌, ◌^◌, Bool, true, false, List, [], ◌∷◌, ◌++◌, refl, sym, subst, arith, decimal}
use Rattle.std.proofs.lemmas.Bool.Decides.{nat_tests}
use Rattle.std.proofs.lemmas.List.{append-nil}
use Rattle.std.specs.Prelude.{◌≢◌, ◌==◌, IsTrue, codes}
use Rattle.std.specs.Char.{is_ascii_digit}
use Rattle.std.specs.List.{AllByRecursion, list_all}
use Rattle.mail_base.specs.declared.tag.Tag.{Tag}
use Rattle.mail_base.specs.declared.tag.Tag.TheVariants as tags
use Rattle.uid_sets.specs.Spelling.{set_text}
use Rattle.uid_sets.specs.UidSet.{IsCanonical}
use Rattle.uid_sets.specs.declared.uid.UidRange.{UidRange}
use Rattle.uid_sets.proofs.RoundTrip.{set_spells, some_of}
use Rattle.imap_model.specs.Lines.{IsSpelled}
use Rattle.response_lines.specs.Tellable.{TagFits}
use Rattle.imap_model.specs.Responses.{ending_word}
use Rattle.imap_model.specs.TagText.{IsCommandTag}
use Rattle.imap_model.specs.Tagged.{IsTag, NamesTag, is_tag_byte}
use Rattle.imap_model.specs.Words.{IsNamed, Spaced, Stops}
use Rattle.imap_model.specs.declared.code.Code.{Code}
use Rattle.imap_model.specs.declared.code.Code.TheVariants as codings
use Rattle.imap_model.specs.declared.ending.Ending.{Ending}
use Rattle.imap_model.specs.declared.ending.Ending.TheVariants as endings
use Rattle.imap_model.specs.declared.response.Response.TheVariants as responses
use Rattle.response_lines.specs.Bracketed.{FitsBrackets}
use Rattle.response_lines.specs.LineTexts.{◌⌢◌, capability_text, code_text, done_text, enabled_text, exists_text, preauth_text, tag_text}
use Rattle.response_lines.specs.LineTexts.{untagged_text, vanished_text, words_text}
use Rattle.response_lines.specs.Tellable.{IsAtomic}
use Rattle.response_lines.proofs.LineCodes.{code_part, code_quiet, code_stops, number_unspaced, plain_part, set_alone}
use Rattle.response_lines.proofs.LineNumbers.{a_number, decimal_all, digit_quiet, set_quiet, words_quiet, words_spell, words_stop}
use Rattle.response_lines.proofs.PlainLines.{IsUnspaced, is_quiet_byte, all_each, all_join, begins_unspaced, both_true, one_space, quiet_spelled}

-- a line that begins with `*` and a word
pub named : (b : ℕ) (name rest : List ℕ) → (b == 32) ≡ false → Stops rest → IsNamed (42 ∷ 32 ∷ b ∷ (name ++ rest)) (b ∷ name) rest
named b name rest space stops = (
  b ∷ (name ++ rest),
  (32 ∷ b ∷ (name ++ rest), refl, one_space (b ∷ (name ++ rest)) (begins_unspaced b (name ++ rest) space)),
  record { word = b ∷ name; same = refl; whole = refl; ends = stops },
)

-- OK, NO and BAD
ending_unspaced : (ending : Ending) (more : List ℕ) → IsUnspaced (ending_word ending ++ more)
ending_unspaced endings.Ok more = begins_unspaced 79 _ refl
ending_unspaced endings.No more = begins_unspaced 78 _ refl
ending_unspaced endings.Bad more = begins_unspaced 66 _ refl

ending_quiet : (ending : Ending) → list_all is_quiet_byte (ending_word ending) ≡ true
ending_quiet endings.Ok = refl
ending_quiet endings.No = refl
ending_quiet endings.Bad = refl

ending_named : (ending : Ending) (rest : List ℕ) → Stops rest → IsNamed (42 ∷ 32 ∷ (ending_word ending ++ rest)) (ending_word ending) rest
ending_named ending rest stops = (
  ending_word ending ++ rest,
  (
    32 ∷ (ending_word ending ++ rest),
    refl,
    one_space (ending_word ending ++ rest) (ending_unspaced ending rest),
  ),
  record { word = ending_word ending; same = refl; whole = refl; ends = stops },
)

status_quiet : (ending : Ending) (code : Code) → FitsBrackets ending code →
    list_all is_quiet_byte (ending_word ending ++ code_text ending code (codes "done")) ≡ true
status_quiet ending code fits = all_join is_quiet_byte (ending_word ending) (code_text ending code (codes "done")) (ending_quiet ending)
    (code_quiet ending code (codes "done") fits refl)

pub untagged_spelled : (ending : Ending) (code : Code) → FitsBrackets ending code → IsSpelled (responses.Untagged ending code) (untagged_text ending code)
unfolding ◌⌢◌
untagged_spelled ending code fits =
    let rest : List ℕ = code_text ending code (codes "done") in
    quiet_spelled (responses.Untagged ending code) (42 ∷ 32 ∷ (ending_word ending ++ rest)) (status_quiet ending code fits)
    (rest, refl, ending_named ending rest (code_stops ending code (codes "done")), code_part ending code 100 (codes "one") fits refl refl refl)

pub preauth_spelled : (code : Code) → FitsBrackets endings.Ok code → IsSpelled (responses.Preauth code) (preauth_text code)
unfolding ◌⌢◌
preauth_spelled code fits =
    let rest : List ℕ = code_text endings.Ok code (codes "done") in
    quiet_spelled (responses.Preauth code) (codes "* PREAUTH" ++ rest) (code_quiet endings.Ok code (codes "done") fits refl) (
      rest,
      refl,
      named 80 (codes "REAUTH") rest refl (code_stops endings.Ok code (codes "done")),
      code_part endings.Ok code 100 (codes "one") fits refl refl refl,
    )

-- tags
digit_tag : (b : ℕ) → is_ascii_digit b ≡ true → is_tag_byte b ≡ true
digit_tag b h = grind (arith, nat_tests)

lettered_tag : (letter n : ℕ) → is_tag_byte letter ≡ true → n < 2 ^ 32 → IsTag (letter ∷ decimal n)
lettered_tag letter n h k = (
  λ e. cc,
  all_each is_tag_byte (λ byte. IsTrue (is_tag_byte byte)) (λ b is. is) (letter ∷ decimal n)
      (both_true (is_tag_byte letter) _ h (decimal_all is_tag_byte digit_tag n (omega arith))),
)

tried_tag : (n t : ℕ) → n < 2 ^ 32 → t < 2 ^ 8 → IsTag (80 ∷ (decimal n ++ 82 ∷ decimal t))
tried_tag n t h k = (
  λ e. cc,
  all_each is_tag_byte (λ byte. IsTrue (is_tag_byte byte)) (λ b is. is) (80 ∷ (decimal n ++ 82 ∷ decimal t))
      (all_join is_tag_byte (decimal n) (82 ∷ decimal t) (decimal_all is_tag_byte digit_tag n (omega arith))
      (decimal_all is_tag_byte digit_tag t (omega arith))),
)

pub tag_quiet : (tag : Tag) → TagFits tag → list_all is_quiet_byte (tag_text tag) ≡ true
unfolding ◌⌢◌
tag_quiet (tags.Play n) kept = decimal_all is_quiet_byte digit_quiet n (omega arith)
tag_quiet (tags.Again n t) kept =
    all_join is_quiet_byte (decimal n) (82 ∷ decimal t) (decimal_all is_quiet_byte digit_quiet n (omega arith)) (decimal_all is_quiet_byte digit_quiet t (omega arith))
tag_quiet (tags.Count n) kept = decimal_all is_quiet_byte digit_quiet n (omega arith)
tag_quiet tags.Strange kept = refl

tag_names : (tag : Tag) → IsCommandTag tag → TagFits tag → IsTag (tag_text tag) × NamesTag (tag_text tag) tag
unfolding ◌⌢◌
tag_names (tags.Play n) some kept = (lettered_tag 80 n refl (omega arith), record { nonzero = some; fits = omega arith; whole = refl })
tag_names (tags.Again n t) some kept =
    (tried_tag n t (omega arith) (omega arith), record { nonzero = some.0; fits = omega arith; second = some.1; third = some.2; whole = refl })
tag_names (tags.Count n) some kept = (lettered_tag 67 n refl (omega arith), record { nonzero = some; fits = omega arith; whole = refl })
tag_names tags.Strange some kept = absurd some

pub done_spelled : (tag : Tag) (ending : Ending) (code : Code) → IsCommandTag tag → TagFits tag → FitsBrackets ending code
    → IsSpelled (responses.Done tag ending code) (done_text tag ending code)
unfolding ◌⌢◌
done_spelled tag ending code some kept fits =
    let rest : List ℕ = code_text ending code (codes "done") in
    let behind : List ℕ = ending_word ending ++ rest in
    let names = tag_names tag some kept in
    quiet_spelled (responses.Done tag ending code) (tag_text tag ++ 32 ∷ behind)
    (all_join is_quiet_byte (tag_text tag) (32 ∷ behind) (tag_quiet tag kept) (status_quiet ending code fits)) (
      tag_text tag,
      32 ∷ behind,
      behind,
      rest,
      refl,
      names.0,
      refl,
      names.1,
      one_space behind (ending_unspaced ending rest),
      record { word = ending_word ending; same = refl; whole = refl; ends = code_stops ending code (codes "done") },
      code_part ending code 100 (codes "one") fits refl refl refl,
    )

pub bye_spelled : IsSpelled responses.Bye (codes "* BYE bye")
bye_spelled = quiet_spelled responses.Bye (codes "* BYE bye") refl
    (codes " bye", codings.None, refl, named 66 (codes "YE") (codes " bye") refl refl, plain_part 98 (codes "ye") refl refl refl)

pub go_spelled : IsSpelled responses.Go (codes "+ go on")
go_spelled = quiet_spelled responses.Go (codes "+ go on") refl (codes " go on", codings.None, refl, refl, plain_part 103 (codes "o on") refl refl refl)

pub capability_spelled : (words : List (List ℕ)) → words ≢ [] → AllByRecursion IsAtomic words → IsSpelled (responses.Capability words) (capability_text words)
unfolding ◌⌢◌
capability_spelled words some all =
    quiet_spelled (responses.Capability words) (codes "* CAPABILITY" ++ words_text words) (words_quiet words all)
    (words_text words, refl, named 67 (codes "APABILITY") (words_text words) refl (words_stop words), ([], words_spell words all, tt), some)

pub enabled_spelled : (words : List (List ℕ)) → AllByRecursion IsAtomic words → IsSpelled (responses.Enabled words) (enabled_text words)
unfolding ◌⌢◌
enabled_spelled words all =
    quiet_spelled (responses.Enabled words) (codes "* ENABLED" ++ words_text words) (words_quiet words all)
    (words_text words, refl, named 69 (codes "NABLED") (words_text words) refl (words_stop words), ([], words_spell words all, tt))

pub exists_spelled : (count : ℕ) → count < 2 ^ 32 → IsSpelled (responses.Exists count) (exists_text count)
unfolding ◌⌢◌
exists_spelled count h =
    quiet_spelled (responses.Exists count) (42 ∷ 32 ∷ (decimal count ++ codes " EXISTS"))
    (all_join is_quiet_byte (decimal count) (codes " EXISTS") (decimal_all is_quiet_byte digit_quiet count (omega arith)) refl) (
      decimal count,
      [],
      refl,
      a_number count h,
      (
        codes " EXISTS",
        codes "EXISTS",
        (32 ∷ (decimal count ++ codes " EXISTS"), refl, one_space (decimal count ++ codes " EXISTS") (number_unspaced count (codes " EXISTS") (omega arith))),
        one_space (codes "EXISTS") (begins_unspaced 69 (codes "XISTS") refl),
        record { word = codes "EXISTS"; same = refl; whole = refl; ends = tt },
      ),
      tt,
    )

set_spaced : (uids : List UidRange) → IsCanonical uids → uids ≢ [] → Spaced (32 ∷ set_text uids) (set_text uids ++ [])
set_spaced uids is some = subst (λ (r : List ℕ). Spaced (32 ∷ set_text uids) r) (sym (append-nil (set_text uids)))
    (one_space (set_text uids) (set_alone uids is some))

pub vanished_spelled : (earlier : Bool) (uids : List UidRange) → IsCanonical uids → uids ≢ [] →
    IsSpelled (responses.Vanished earlier uids) (vanished_text earlier uids)
unfolding ◌⌢◌
vanished_spelled false uids is some =
    quiet_spelled (responses.Vanished false uids) (codes "* VANISHED " ++ set_text uids) (set_quiet uids is) (
      32 ∷ set_text uids,
      set_text uids,
      [],
      refl,
      named 86 (codes "ANISHED") (32 ∷ set_text uids) refl refl,
      set_spaced uids is some,
      set_spells uids is (some_of uids some),
      tt,
    )
vanished_spelled true uids is some =
    quiet_spelled (responses.Vanished true uids) (codes "* VANISHED (EARLIER) " ++ set_text uids) (set_quiet uids is) (
      codes " (EARLIER) " ++ set_text uids,
      codes "(EARLIER)",
      32 ∷ set_text uids,
      set_text uids,
      [],
      refl,
      named 86 (codes "ANISHED") (codes " (EARLIER) " ++ set_text uids) refl refl,
      one_space (codes "(EARLIER) " ++ set_text uids) (begins_unspaced 40 (codes "EARLIER) " ++ set_text uids) refl),
      refl,
      set_spaced uids is some,
      set_spells uids is (some_of uids some),
      tt,
    )
