-- Which messages a search for a Message-ID is about (RFC 9051, sections 6.4.4 and 9, seq-range).
use Rattle.std.specs.Prelude.{ℕ, Bool, false, ◌||◌, ◌==◌, nat_le, nat_eq, List, [], ◌∷◌, map}
use Rattle.std.specs.Char.{to_ascii_lowercase}
use Rattle.std.specs.List.{list_any, starts_with}
use Rattle.mail_header.specs.Folding.{unfolded}
use Rattle.mail_header.specs.Identifier.{PlacedBody, id_bodies}
use Rattle.imap_model.specs.declared.server.Message.{Message}

-- the UID is that of the last message
abbrev pub is_last : ℕ → List Message → Bool
is_last uid [] = false
is_last uid (m ∷ []) = m.uid == uid
is_last uid (m ∷ next ∷ ms) = is_last uid (next ∷ ms)

-- `n:*` has each UID of at least n, and always the last message's, whichever it is
abbrev pub in_tail : ℕ → List Message → ℕ → Bool
in_tail from messages uid = nat_le from uid || is_last uid messages

-- the part stands somewhere in the text
abbrev pub holds_part : List ℕ → List ℕ → Bool
holds_part part [] = starts_with nat_eq [] part
holds_part part (byte ∷ rest) = starts_with nat_eq (byte ∷ rest) part || holds_part part rest

-- in ASCII's lower case
abbrev pub lower : List ℕ → List ℕ
lower bytes = map to_ascii_lowercase bytes

-- the part stands in a Message-ID field of the text
abbrev pub has_in_id : List ℕ → List ℕ → Bool
has_in_id part text = list_any (λ (b : PlacedBody). holds_part part (unfolded b.body)) (id_bodies text)

-- it stands there if ASCII's case doesn't count
abbrev pub has_in_id_caseless : List ℕ → List ℕ → Bool
has_in_id_caseless part text = list_any (λ (b : PlacedBody). holds_part (lower part) (lower (unfolded b.body))) (id_bodies text)
