-- Lines whose flags keep this client's limits (this client's profile): at most 1,024 keys in a set, and 255 bytes in a key.
use Rattle.std.specs.Prelude.{◌≡◌, ◌≤◌, ℕ, List, [], ◌∷◌, ◌++◌, codes, length}
use Rattle.std.specs.List.{AllByRecursion}
use Rattle.mail_base.specs.declared.frame.Frame.{Frame}
use Rattle.flag_set.specs.declared.flag_fault.TheConstants.{MAX_FLAG, MAX_FLAGS}
use Rattle.flag_set.specs.FlagSet.{AllKeys}
use Rattle.imap_model.specs.declared.code.Code.{Code}
use Rattle.imap_model.specs.declared.code.Code.TheVariants as codings
use Rattle.imap_model.specs.declared.response.Response.{Response}
use Rattle.imap_model.specs.declared.response.Response.TheVariants as responses
use Rattle.imap_model.specs.FetchItems.{Told, FlagsAre, AreItems, fetched_of}
use Rattle.imap_model.specs.Parts.{Part, bytes, IsMadeOf}
use Rattle.imap_model.specs.Responses.{IsFetchLine, IsLineOf}
use Rattle.imap_model.specs.TextParts.{IsTextPart}
use Rattle.imap_model.specs.Words.{IsGap, AreSpaces, IsNamed}

pub record IsSetWithin (keys : List (List ℕ)) : Type 0 where
  pub few : length keys ≤ MAX_FLAGS
  pub short : AllKeys (λ key. length key ≤ MAX_FLAG) keys

abbrev pub IsCodeWithin : Code → Type 0
IsCodeWithin (codings.PermanentFlags flags any) = IsSetWithin flags
IsCodeWithin code = Unit {0}

abbrev pub IsToldWithin : Told → Type 0
IsToldWithin (FlagsAre flags) = IsSetWithin flags
IsToldWithin told = Unit {0}

-- The line spells this response, and each set of flags in it keeps the limits: one that isn't kept, too.
abbrev pub IsLineWithin : List ℕ → List Part → Response → Type 0
IsLineWithin text parts (responses.Done tag ending code) = IsLineOf text parts (responses.Done tag ending code) × IsCodeWithin code
IsLineWithin text parts (responses.Untagged ending code) = IsLineOf text parts (responses.Untagged ending code) × IsCodeWithin code
IsLineWithin text parts (responses.Preauth code) = IsLineOf text parts (responses.Preauth code) × IsCodeWithin code
IsLineWithin text parts responses.Bye =
    (rest : List ℕ) × (code : Code) × (parts ≡ bytes text) × IsNamed text (codes "BYE") rest × IsTextPart rest code × IsCodeWithin code
IsLineWithin text parts responses.Go =
    (rest : List ℕ) × (code : Code) × (parts ≡ bytes text) × (text ≡ 43 ∷ rest) × IsTextPart rest code × IsCodeWithin code
IsLineWithin text parts (responses.Fetch fetched) =
    (later : List Part) × (gap : List ℕ) × (items : List Part) × (told : List Told) × (blank : List ℕ)
    × IsFetchLine text parts later × IsGap gap × AreItems items told × AreSpaces blank
    × (later ≡ bytes (gap ++ 40 ∷ []) ++ items ++ bytes (41 ∷ blank)) × (fetched ≡ fetched_of told) × AllByRecursion IsToldWithin told
IsLineWithin text parts response = IsLineOf text parts response

-- the frame spells this response within the limits
abbrev pub SpellsWithin : Frame → Response → Type 0
SpellsWithin frame response = (parts : List Part) × IsMadeOf frame parts × IsLineWithin frame.bytes parts response
