-- Which messages of a mailbox have exactly this Message-ID (RFC 5322, section 3.6.4; the one field and its form are this client's profile).
use Rattle.std.specs.Prelude.{ℕ, ◌≤◌, nat_le, Bool, false, List, [], ◌∷◌, length, if◌then◌else◌}
use Rattle.std.specs.Str.{bytes_eq}
use Rattle.mail_header.specs.Identifier.{PlacedBody, IsId, id_bodies, id_of}
use Rattle.imap_model.specs.declared.server.Message.{Message}

-- the form of an identifier
pub record IsIdentifier (id : List ℕ) : Type 0 where
  pub few : length id ≤ 512
  pub form : IsId id

-- there is one field, and this is its identifier
abbrev pub is_only : List ℕ → List PlacedBody → Bool
is_only id [] = false
is_only id (b ∷ []) = bytes_eq (id_of b.body) id
is_only id (b ∷ c ∷ bs) = false

-- the text's header has one Message-ID field, and its identifier is this one
abbrev pub has_id : List ℕ → List ℕ → Bool
has_id id text = is_only id (id_bodies text)

-- the UIDs of the messages with this identifier, in their order
abbrev pub marked : List ℕ → List Message → List ℕ
marked id [] = []
marked id (m ∷ ms) = if has_id id m.text then m.uid ∷ marked id ms else marked id ms

-- the UIDs from this one on
abbrev pub at_least : ℕ → List ℕ → List ℕ
at_least low [] = []
at_least low (u ∷ us) = if nat_le low u then u ∷ at_least low us else at_least low us
