-- Flags between parentheses (RFC 9051, section 9, flag-list and flag-perm), as they are read.
use Rattle.std.specs.Prelude.{ℕ, ◌+◌, ◌-◌, Bool, true, false, ◌&&◌, ◌||◌, ◌==◌, not, List, [], ◌∷◌, length, take, drop, Option, Some}
use Rattle.std.specs.Prelude.{None, Result, Ok, Err, if◌then◌else◌}
use Rattle.std.specs.List.{prefix_len, list_all, list_any}
use Rattle.flag_set.specs.Flag.{is_flag, is_atom_byte}
use Rattle.flag_set.specs.FlagList.{flags_of, set_of, flags_alone, is_any, first_fault_of}
use Rattle.flag_set.specs.declared.flag_fault.FlagFault.{FlagFault}
use Rattle.imap_model.specs.Values.{is_wide_byte}
use Rattle.imap_response.specs.declared.flags.Listed.{Listed}
use Rattle.imap_response.specs.Reads.{◌>>=◌}
use Rattle.imap_response.specs.Leaf.{mark_at}

-- Which flags are kept of a list with this fault or without one. The client keeps none where the list is too large.
abbrev pub Keep : Type 0
Keep = Option FlagFault → List (List ℕ) → List (List ℕ)

abbrev pub kept : Keep
kept None flags = flags
kept (Some fault) flags = []

-- all flags, however many
abbrev pub whole : Keep
whole fault flags = flags

-- Whether the byte may stand behind the other one in a list. In front of its first byte stands the parenthesis.
abbrev pub follows : Bool → ℕ → ℕ → Bool
follows permanent before byte =
    if byte == 32 then not (before == 40 || before == 92)
    else (if byte == 92 then before == 40 || before == 32
    else (if byte == 42 then permanent && before == 92
    else is_atom_byte byte && not (before == 42)))

-- Where the first token begins that doesn't fit, or the list's length. So many bytes stand in front, and the last token began there.
unfoldable pub flag_place : Bool → ℕ → ℕ → ℕ → List ℕ → ℕ
flag_place permanent before start at [] = at
flag_place permanent before start at (byte ∷ more) =
    if follows permanent before byte then flag_place permanent byte (if is_wide_byte byte then start else at + 1) (at + 1) more
    else (if is_wide_byte byte then start else at)

abbrev pub list_len : List ℕ → ℕ
list_len text = prefix_len (λ byte. not (byte == 41)) text

-- the text in front of the right parenthesis
abbrev pub list_text : List ℕ → List ℕ
list_text text = take (list_len text) text

-- what stands in front of the right parenthesis passes the test
abbrev pub fits_list : Bool → Bool → List ℕ → Result (Unit {0}) ℕ
fits_list passes permanent text = if passes then Ok tt else Err (length text - flag_place permanent 40 0 0 (list_text text))

-- the set of these flags
abbrev pub listed : Keep → List (List ℕ) → Listed
listed keep flags = record { flags = set_of (keep (first_fault_of flags) flags); any = false; excess = first_fault_of flags }

-- the set of the flags among these, and whether the star is among them
abbrev pub listed_permanent : Keep → List (List ℕ) → Listed
listed_permanent keep flags =
    record {
      flags = set_of (flags_alone (keep (first_fault_of (flags_alone flags)) flags));
      any =
          list_any is_any (keep (first_fault_of (flags_alone flags)) flags);
      excess = first_fault_of (flags_alone flags);
    }

-- flags in parentheses
unfoldable pub flags_at : Keep → List ℕ → Result (Listed × List ℕ) ℕ
flags_at keep text = do
  inside ← mark_at 40 text
  fits ← fits_list (list_all is_flag (flags_of (list_text inside))) false inside
  rest ← mark_at 41 (drop (list_len inside) inside)
  Ok (listed keep (flags_of (list_text inside)), rest)

-- flags and stars in parentheses
unfoldable pub permanent_at : Keep → List ℕ → Result (Listed × List ℕ) ℕ
permanent_at keep text = do
  inside ← mark_at 40 text
  fits ← fits_list (list_all (λ flag. is_any flag || is_flag flag) (flags_of (list_text inside))) true inside
  rest ← mark_at 41 (drop (list_len inside) inside)
  Ok (listed_permanent keep (flags_of (list_text inside)), rest)
