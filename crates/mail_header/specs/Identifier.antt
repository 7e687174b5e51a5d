-- The Message-ID of a text (RFC 5322, section 3.6.4; the form and the limit are this client's profile).
use Rattle.std.specs.Prelude.{◌≡◌, ◌≢◌, ◌≤◌, ◌<◌, ◌+◌, ℕ, Bool, List, [], ◌∷◌, ◌++◌, Option, Some, None, length, map, take, slice_index}
use Rattle.std.specs.Prelude.{reverse, All, codes, if◌then◌else◌}
use Rattle.std.specs.Str.{bytes_eq}
use Rattle.std.specs.Char.{to_ascii_lowercase}
use Rattle.mail_header.specs.Folding.{is_blank, unfolded, whole_header}
use Rattle.mail_header.specs.Field.{FieldText, field_of}
use Rattle.mail_header.specs.declared.identifier.IdFault.{IdFault}
use Rattle.mail_header.specs.declared.identifier.IdFault.TheVariants as faults

-- a body, and the place in the text at which its field's name begins
pub record PlacedBody : Type 0 where
  pub at : ℕ
  pub body : List ℕ

-- the name is Message-ID in some case
abbrev pub is_id_name : List ℕ → Bool
is_id_name name = bytes_eq (map to_ascii_lowercase name) (codes "message-id")

-- the body of a field of that name, whose line begins at this place
abbrev pub id_body : ℕ → Option FieldText → Option PlacedBody
id_body at None = None
id_body at (Some field) = if is_id_name field.name then Some (record { at = at; body = field.body }) else None

-- an item, where there is one, and the others
abbrev pub with_some : Option PlacedBody → List PlacedBody → List PlacedBody
with_some None bodies = bodies
with_some (Some body) bodies = body ∷ bodies

-- the bodies of the fields of that name among lines, the first of which begins at this place
abbrev pub id_bodies_from : ℕ → List (List ℕ) → List PlacedBody
id_bodies_from at [] = []
id_bodies_from at (line ∷ lines) = with_some (id_body at (field_of line)) (id_bodies_from (at + length line + 2) lines)

-- the bodies of the fields of that name in a text's header
abbrev pub id_bodies : List ℕ → List PlacedBody
id_bodies text = id_bodies_from 0 (whole_header text)

-- the bytes without spaces and tabs at the front
abbrev pub trimmed_front : List ℕ → List ℕ
trimmed_front [] = []
trimmed_front (byte ∷ rest) = if is_blank byte then trimmed_front rest else byte ∷ rest

-- the bytes without spaces and tabs at both ends
abbrev pub trimmed : List ℕ → List ℕ
trimmed bytes = reverse (trimmed_front (reverse (trimmed_front bytes)))

-- a byte that may stand between the brackets
pub record IsIdByte (byte : ℕ) : Type 0 where
  pub low : 33 ≤ byte
  pub high : byte ≤ 126
  pub left : byte ≢ 60
  pub right : byte ≢ 62

-- the first byte that may not stand there
pub record IsFirstOther (bytes : List ℕ) (at : ℕ) : Type 0 where
  pub there : at < length bytes
  pub before : All IsIdByte (take at bytes)
  pub other : ¬ (IsIdByte (slice_index bytes at))

-- `<`, one or more such bytes, and `>`
pub record IsId (id : List ℕ) : Type 0 where
  pub inside : List ℕ
  pub some : 0 < length inside
  pub bytes : All IsIdByte inside
  pub whole : id ≡ 60 ∷ inside ++ 62 ∷ []

-- with these bytes an identifier may begin
pub record BeginsId (front : List ℕ) : Type 0 where
  pub rest : List ℕ
  pub id : IsId (front ++ rest)

-- the bytes are no identifier, and this is the place of the first that doesn't fit, or the end where they end too early
pub record IsUnfitAt (bytes : List ℕ) (at : ℕ) : Type 0 where
  pub within : at ≤ length bytes
  pub before : BeginsId (take at bytes)
  pub there : at < length bytes → ¬ (BeginsId (take (at + 1) bytes))
  pub no_id : ¬ (IsId bytes)

-- the text's header has one field of that name, and this is its body
abbrev pub HasOne : List ℕ → List ℕ → Type 0
HasOne text body = (at : ℕ) × (id_bodies text ≡ record { at = at; body = body } ∷ [])

-- a body without its folding, and without spaces and tabs at its ends
abbrev pub id_of : List ℕ → List ℕ
id_of body = trimmed (unfolded body)

-- the text's Message-ID
pub record HasMessageId (text id : List ℕ) : Type 0 where
  pub body : List ℕ
  pub one : HasOne text body
  pub value : id ≡ id_of body
  pub few : length id ≤ 512
  pub form : IsId id

-- the header has a second field of that name, whose name begins at this place
abbrev pub HasSecond : List ℕ → ℕ → Type 0
HasSecond text at = (first : PlacedBody) × (second : PlacedBody) × (others : List PlacedBody) × (id_bodies text ≡ first ∷ second ∷ others) × (second.at ≡ at)

-- the bytes of the one field are this many, and exceed the limit
pub record IsTooLong (text : List ℕ) (n : ℕ) : Type 0 where
  pub body : List ℕ
  pub one : HasOne text body
  pub size : n ≡ length (id_of body)
  pub many : 512 < n

-- the bytes of the one field are within the limit, and stop being an identifier at this place
pub record IsBadForm (text : List ℕ) (at : ℕ) : Type 0 where
  pub body : List ℕ
  pub one : HasOne text body
  pub few : length (id_of body) ≤ 512
  pub unfit : IsUnfitAt (id_of body) at

-- why the header hasn't one field of that name
abbrev pub WhyNotOne : List ℕ → IdFault → Type 0
WhyNotOne text faults.Missing = id_bodies text ≡ []
WhyNotOne text (faults.Twice at) = HasSecond text at
WhyNotOne text (faults.TooLong n) = ⊥
WhyNotOne text (faults.BadForm at) = ⊥
WhyNotOne text faults.Memory = ⊥

-- why the bytes are refused
abbrev pub WhyRefused : List ℕ → IdFault → Type 0
WhyRefused id faults.Missing = ⊥
WhyRefused id (faults.Twice at) = ⊥
WhyRefused id (faults.TooLong n) = (n ≡ length id) × (512 < n)
WhyRefused id (faults.BadForm at) = (length id ≤ 512) × IsUnfitAt id at
WhyRefused id faults.Memory = ⊥

-- why the text has no Message-ID. Memory is asked for only where there is one field.
abbrev pub WhyNoId : List ℕ → IdFault → Type 0
WhyNoId text faults.Missing = id_bodies text ≡ []
WhyNoId text (faults.Twice at) = HasSecond text at
WhyNoId text (faults.TooLong n) = IsTooLong text n
WhyNoId text (faults.BadForm at) = IsBadForm text at
WhyNoId text faults.Memory = (body : List ℕ) × HasOne text body
