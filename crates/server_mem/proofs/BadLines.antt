-- BAD, with the tag of the text where it has one, and the first word of a text.
use Rattle.std.proofs.Common.{◌≡◌, ℕ, true, List, [], ◌∷◌, ◌++◌, Some, None, refl, sym, ◌∙◌, arith, append_assoc}
use Rattle.std.proofs.lemmas.Bool.Decides.{nat_tests}
use Rattle.std.specs.Prelude.{codes, IsTrue}
use Rattle.std.specs.List.{AllByRecursion, list_all}
use Rattle.mail_base.specs.declared.tag.Tag.{Tag}
use Rattle.imap_model.specs.Lines.{AreLines, IsSpelled}
use Rattle.imap_model.specs.Tagged.{is_tag_byte, IsTag, NamesTag}
use Rattle.imap_model.specs.declared.code.Code.TheVariants as codings
use Rattle.imap_model.specs.declared.ending.Ending.TheVariants as endings
use Rattle.imap_model.specs.declared.response.Response.TheVariants as responses
use Rattle.server_mem.specs.Answered.{bad_of}
use Rattle.command_texts.specs.FirstWord.{IsTagged}
use Rattle.server_mem.specs.Hearing.{IsBad, tagged, untagged}
use Rattle.server_mem.specs.Texts.{bad_text}
use Rattle.response_lines.specs.LineTexts.{◌⌢◌}
use Rattle.response_lines.proofs.LineCodes.{code_part}
use Rattle.response_lines.proofs.LineSpelled.{untagged_spelled}
use Rattle.response_lines.proofs.PlainLines.{is_quiet_byte, all_join, begins_unspaced, both_true, one_space, quiet_spelled}

tag_is_quiet : (b : ℕ) → is_tag_byte b ≡ true → is_quiet_byte b ≡ true
tag_is_quiet b h = grind (arith, nat_tests)

tag_quiet : (word : List ℕ) → AllByRecursion (λ byte. IsTrue (is_tag_byte byte)) word → list_all is_quiet_byte word ≡ true
tag_quiet [] all = refl
tag_quiet (b ∷ word) all = both_true (is_quiet_byte b) (list_all is_quiet_byte word) (tag_is_quiet b all.0) (tag_quiet word all.1)

-- the line of a BAD under a tag
pub bad_spelled : (word : List ℕ) (tag : Tag) → IsTag word → NamesTag word tag →
    IsSpelled (responses.Done tag endings.Bad codings.None) (word ++ codes " BAD done")
unfolding ◌⌢◌
bad_spelled word tag is names =
    let rest : List ℕ = codes " done" in
    let behind : List ℕ = codes "BAD done" in
    quiet_spelled (responses.Done tag endings.Bad codings.None) (word ++ 32 ∷ behind) (all_join is_quiet_byte word (32 ∷ behind) (tag_quiet word is.1) refl) (
      word,
      32 ∷ behind,
      behind,
      rest,
      refl,
      is,
      refl,
      names,
      one_space behind (begins_unspaced 66 (codes "AD done") refl),
      record { word = codes "BAD"; same = refl; whole = refl; ends = refl },
      code_part endings.Bad codings.None 100 (codes "one") tt refl refl refl,
    )

-- as it is written
pub bad_line : (word line : List ℕ) (tag : Tag) → IsTag word → NamesTag word tag → line ≡ word ⌢ codes " BAD done\r\n" →
    AreLines (responses.Done tag endings.Bad codings.None ∷ []) line
unfolding ◌⌢◌
bad_line word line tag is names text = (
  word ++ codes " BAD done",
  [],
  bad_spelled word tag is names,
  text ∙ sym (append_assoc word (codes " BAD done") (13 ∷ 10 ∷ [])),
  refl,
)

-- with the tag of a text, and with none
pub says_tagged : (parts : List (List ℕ)) (word : List ℕ) (tag : Tag) → IsTagged parts word → NamesTag word tag → IsBad parts (bad_of (Some tag))
says_tagged parts word tag is names = tagged word tag is names

pub tells_tagged : (parts : List (List ℕ)) (word line : List ℕ) (tag : Tag) → IsTagged parts word → NamesTag word tag →
    line ≡ word ⌢ codes " BAD done\r\n" → AreLines (bad_of (Some tag) ∷ []) line
tells_tagged parts word line tag is names text = bad_line word line tag is.tag names text

bare_spelled : IsSpelled (responses.Untagged endings.Bad codings.None) (codes "* BAD done")
unfolding ◌⌢◌
bare_spelled = untagged_spelled endings.Bad codings.None tt

pub says_bare : (parts : List (List ℕ)) → ((word : List ℕ) → IsTagged parts word → ⊥) → IsBad parts (bad_of None)
says_bare parts none = untagged none

pub tells_bare : (line : List ℕ) → line ≡ codes "*" ⌢ codes " BAD done\r\n" → AreLines (bad_of None ∷ []) line
unfolding ◌⌢◌
tells_bare line text = (codes "* BAD done", [], bare_spelled, text, refl)

-- with the bytes that are told
pub bad_tagged : (parts : List (List ℕ)) (word line : List ℕ) (tag : Tag) → IsTagged parts word → NamesTag word tag →
    line ≡ word ⌢ codes " BAD done\r\n" → (is : IsBad parts (bad_of (Some tag))) × (line ≡ bad_text parts (bad_of (Some tag)) is)
unfolding ◌⌢◌
bad_tagged parts word line tag is names text = (tagged word tag is names, text)

pub bad_bare : (parts : List (List ℕ)) (line : List ℕ) → ((word : List ℕ) → IsTagged parts word → ⊥) → line ≡ codes "*" ⌢ codes " BAD done\r\n"
    → (is : IsBad parts (bad_of None)) × (line ≡ bad_text parts (bad_of None) is)
unfolding ◌⌢◌
bad_bare parts line none text = (untagged none, text)
