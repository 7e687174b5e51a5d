-- The rows that a reply tells (RFC 9051, section 7.5.2; RFC 7162, sections 3.1.4.2 and 3.2.5.1).
use Rattle.std.specs.Prelude.{ℕ, ◌+◌, Bool, false, List, [], ◌∷◌, ◌++◌, reverse, Option, Some, None, is_none, if◌then◌else◌}
use Rattle.std.specs.Option.{option_to_list}
use Rattle.mailbox_cache.specs.Rows.{row_at}
use Rattle.mailbox_cache.specs.declared.row.Row.{Row}
use Rattle.imap_model.specs.declared.fetched.Fetched.{Fetched}
use Rattle.imap_model.specs.declared.response.Response.{Response}
use Rattle.imap_model.specs.declared.response.Response.TheVariants as responses

-- UID, FLAGS and MODSEQ make a row, if all three are told
abbrev pub whole_row : Option ℕ → Option (List (List ℕ)) → Option ℕ → Option (ℕ × Row)
whole_row None flags modseq = None
whole_row (Some uid) None modseq = None
whole_row (Some uid) (Some flags) None = None
whole_row (Some uid) (Some flags) (Some modseq) = Some (uid, record { flags = flags; modseq = modseq })

abbrev pub row_in : Fetched → Option (ℕ × Row)
row_in fetched = whole_row fetched.uid fetched.flags fetched.modseq

-- the row that a response tells
abbrev pub told_row : Response → Option (ℕ × Row)
told_row (responses.Done tag ending code) = None
told_row (responses.Untagged ending code) = None
told_row responses.Bye = None
told_row (responses.Preauth code) = None
told_row responses.Go = None
told_row (responses.Capability words) = None
told_row (responses.Enabled words) = None
told_row (responses.Exists count) = None
told_row (responses.Fetch fetched) = row_in fetched
told_row (responses.Vanished earlier uids) = None
told_row (responses.Found uids) = None
told_row responses.Other = None

-- a FETCH that lacks one of the three
abbrev pub is_bare : Response → Bool
is_bare (responses.Done tag ending code) = false
is_bare (responses.Untagged ending code) = false
is_bare responses.Bye = false
is_bare (responses.Preauth code) = false
is_bare responses.Go = false
is_bare (responses.Capability words) = false
is_bare (responses.Enabled words) = false
is_bare (responses.Exists count) = false
is_bare (responses.Fetch fetched) = is_none (row_in fetched)
is_bare (responses.Vanished earlier uids) = false
is_bare (responses.Found uids) = false
is_bare responses.Other = false

-- the rows in the order in which they are told
abbrev pub rows_in : List Response → List (ℕ × Row)
rows_in [] = []
rows_in (response ∷ told) = option_to_list (told_row response) ++ rows_in told

-- of several rows of a UID the one that is told last
abbrev pub last_row : ℕ → List (ℕ × Row) → Option Row
last_row uid rows = row_at uid (reverse rows)

-- the number of the first FETCH that is no row, where the first response has this number
abbrev pub first_bare : ℕ → List Response → Option ℕ
first_bare index [] = None
first_bare index (response ∷ told) = if is_bare response then Some index else first_bare (index + 1) told
