-- How a frame spells a response (RFC 9051, section 9, response; RFC 7162, section 7): one case for each kind of line.
use Rattle.std.specs.Prelude.{◌≡◌, ◌≢◌, ◌⊎◌, ℕ, true, false, List, [], ◌∷◌, ◌++◌, codes}
use Rattle.mail_base.specs.declared.frame.Frame.{Frame}
use Rattle.imap_model.specs.declared.code.Code.{Code}
use Rattle.imap_model.specs.declared.ending.Ending.{Ending}
use Rattle.imap_model.specs.declared.ending.Ending.TheVariants as endings
use Rattle.imap_model.specs.declared.response.Response.{Response}
use Rattle.imap_model.specs.declared.response.Response.TheVariants as responses
use Rattle.imap_model.specs.Parts.{Part, bytes, IsMadeOf}
use Rattle.imap_model.specs.Words.{SameWord, AreSpaces, IsGap, Spaced, Begins, AreWords, IsNamed, IsNumbered}
use Rattle.imap_model.specs.Numbers.{IsNumber, IsNonzero}
use Rattle.imap_model.specs.Tagged.{IsTag, NamesTag}
use Rattle.imap_model.specs.TextParts.{IsTextPart}
use Rattle.imap_model.specs.FetchItems.{Told, AreItems, fetched_of}
use Rattle.imap_model.specs.Searches.{TellsSearch, TellsExtended}
use Rattle.imap_model.specs.Others.{IsOther}
use Rattle.uid_sets.specs.SequenceSet.{Spells as SpellsSet}

-- the word of an ending
abbrev pub ending_word : Ending → List ℕ
ending_word endings.Ok = codes "OK"
ending_word endings.No = codes "NO"
ending_word endings.Bad = codes "BAD"

-- words, and spaces at the line's end
abbrev pub EndsInWords : List ℕ → List (List ℕ) → Type 0
EndsInWords rest words = (blank : List ℕ) × AreWords rest words blank × AreSpaces blank

-- an untagged line that begins with `*`, a nonzero number and FETCH, and then has these parts
pub record IsFetchLine (text : List ℕ) (parts later : List Part) : Type 0 where
  pub digits : List ℕ
  pub number : ℕ
  pub nonzero : IsNonzero digits number
  pub front : List ℕ
  pub rest : List ℕ
  pub numbered : IsNumbered text digits (codes "FETCH") rest
  pub fronted : text ≡ front ++ rest
  pub whole : parts ≡ bytes front ++ later

-- an untagged line that begins with `*` and this word, and then has these parts
pub record IsNamedLine (text name : List ℕ) (parts later : List Part) : Type 0 where
  pub front : List ℕ
  pub rest : List ℕ
  pub named : IsNamed text name rest
  pub fronted : text ≡ front ++ rest
  pub whole : parts ≡ bytes front ++ later

-- the line with this text, which is made of these parts, spells this response
abbrev pub IsLineOf : List ℕ → List Part → Response → Type 0
-- response-tagged: tag SP ("OK" / "NO" / "BAD") and a text
IsLineOf text parts (responses.Done tag ending code) =
    (word : List ℕ) × (later : List ℕ) × (behind : List ℕ) × (rest : List ℕ) × (parts ≡ bytes text)
    × IsTag word × (text ≡ word ++ later) × NamesTag word tag
    × Spaced later behind × Begins behind (ending_word ending) rest × IsTextPart rest code
-- resp-cond-state: "*" SP ("OK" / "NO" / "BAD") and a text
IsLineOf text parts (responses.Untagged ending code) =
    (rest : List ℕ) × (parts ≡ bytes text) × IsNamed text (ending_word ending) rest × IsTextPart rest code
-- resp-cond-bye; its code isn't kept
IsLineOf text parts responses.Bye =
    (rest : List ℕ) × (code : Code) × (parts ≡ bytes text) × IsNamed text (codes "BYE") rest × IsTextPart rest code
-- greeting: resp-cond-auth
IsLineOf text parts (responses.Preauth code) =
    (rest : List ℕ) × (parts ≡ bytes text) × IsNamed text (codes "PREAUTH") rest × IsTextPart rest code
-- continue-req: "+" and a text; its code isn't kept
IsLineOf text parts responses.Go =
    (rest : List ℕ) × (code : Code) × (parts ≡ bytes text) × (text ≡ 43 ∷ rest) × IsTextPart rest code
-- capability-data
IsLineOf text parts (responses.Capability words) =
    (rest : List ℕ) × (parts ≡ bytes text) × IsNamed text (codes "CAPABILITY") rest × EndsInWords rest words × (words ≢ [])
-- enable-data
IsLineOf text parts (responses.Enabled words) =
    (rest : List ℕ) × (parts ≡ bytes text) × IsNamed text (codes "ENABLED") rest × EndsInWords rest words
-- mailbox-data: number SP "EXISTS"
IsLineOf text parts (responses.Exists count) =
    (digits : List ℕ) × (blank : List ℕ) × (parts ≡ bytes text) × IsNumber digits count
    × IsNumbered text digits (codes "EXISTS") blank × AreSpaces blank
-- message-data: nz-number SP "FETCH" SP msg-att
IsLineOf text parts (responses.Fetch fetched) =
    (later : List Part) × (gap : List ℕ) × (items : List Part) × (told : List Told) × (blank : List ℕ)
    × IsFetchLine text parts later × IsGap gap × AreItems items told × AreSpaces blank
    × (later ≡ bytes (gap ++ 40 ∷ []) ++ items ++ bytes (41 ∷ blank)) × (fetched ≡ fetched_of told)
-- RFC 7162, section 3.2.10: "VANISHED" [SP "(EARLIER)"] SP known-uids
IsLineOf text parts (responses.Vanished false uids) =
    (rest : List ℕ) × (set : List ℕ) × (blank : List ℕ) × (parts ≡ bytes text) × IsNamed text (codes "VANISHED") rest
    × Spaced rest (set ++ blank) × SpellsSet set uids × AreSpaces blank
IsLineOf text parts (responses.Vanished true uids) =
    (rest : List ℕ) × (word : List ℕ) × (later : List ℕ) × (set : List ℕ) × (blank : List ℕ) × (parts ≡ bytes text)
    × IsNamed text (codes "VANISHED") rest × Spaced rest (word ++ later) × SameWord word (codes "(EARLIER)")
    × Spaced later (set ++ blank) × SpellsSet set uids × AreSpaces blank
-- SEARCH (RFC 3501, section 7.2.5), or esearch-response
IsLineOf text parts (responses.Found uids) =
    ((rest : List ℕ) × (parts ≡ bytes text) × IsNamed text (codes "SEARCH") rest × TellsSearch rest uids)
    ⊎ ((later : List Part) × IsNamedLine text (codes "ESEARCH") parts later × TellsExtended later uids)
-- any other response-data (this client's profile)
IsLineOf text parts responses.Other = IsOther text parts

-- the frame spells this response
abbrev pub Spells : Frame → Response → Type 0
Spells frame response = (parts : List Part) × IsMadeOf frame parts × IsLineOf frame.bytes parts response
