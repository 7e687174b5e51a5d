-- The printed lines (this client's profile). Each ends with an LF.
use Rattle.std.specs.Prelude.{ℕ, ℤ, List, [], ◌∷◌, ◌++◌, codes, decimal, flat_map, length, Option, Some, None}
use Rattle.std.specs.Fmt.{signed_decimal}
use Rattle.body_cache.specs.Dates.{date_of}
use Rattle.body_cache.specs.Shelf.{text_at}
use Rattle.body_cache.specs.declared.key.KeptText.{KeptText}
use Rattle.body_cache.specs.declared.keys.Cached.{Cached}
use Rattle.body_cache.specs.declared.reading.ReadReason.{ReadReason}
use Rattle.body_cache.specs.declared.reading.ReadReason.TheVariants as reasons

-- a text was fetched, and is kept
abbrev pub kept_line : List ℕ → List ℕ
kept_line text = codes "kept " ++ decimal (length text) ++ 10 ∷ []

-- the shelf failed
abbrev pub error_shelf : List ℕ
error_shelf = codes "error shelf" ++ 10 ∷ []

-- the mailbox has another UIDVALIDITY than its cache
abbrev pub error_validity : List ℕ → ℕ → ℕ → List ℕ
error_validity name kept told = codes "error validity " ++ name ++ 32 ∷ decimal kept ++ 32 ∷ decimal told ++ 10 ∷ []

-- a reason's name
abbrev pub reason_name : ReadReason → List ℕ
reason_name reasons.NoMailbox = codes "no-mailbox"
reason_name reasons.NoMessage = codes "no-message"
reason_name reasons.NotKept = codes "not-kept"
reason_name reasons.Gone = codes "gone"

-- the reading is refused for this reason
abbrev pub refused : ReadReason → List ℕ
refused reason = codes "refused " ++ reason_name reason ++ 10 ∷ []

-- the seconds of a date, or `-` where there is none
abbrev pub date_text : Option ℤ → List ℕ
date_text None = codes "-"
date_text (Some seconds) = signed_decimal seconds

-- the line of a message: its UID and the date of its text, where a text is kept
abbrev pub date_line : ℕ → Option (List ℕ) → List ℕ
date_line uid None = []
date_line uid (Some text) = decimal uid ++ 32 ∷ date_text (date_of text) ++ 10 ∷ []

-- the lines of a mailbox's messages, in the order of their UIDs
abbrev pub date_lines : List ℕ → ℕ → List ℕ → List KeptText → List ℕ
date_lines name validity uids texts =
    flat_map (λ uid. date_line uid (text_at (record { name = name; validity = validity; uid = uid }) texts)) uids

abbrev pub dates_of : List ℕ → Option ℕ → List ℕ → List KeptText → List ℕ
dates_of name None uids texts = []
dates_of name (Some validity) uids texts = date_lines name validity uids texts

-- the text of `dates`
abbrev pub dates_text : List ℕ → Cached → List KeptText → List ℕ
dates_text name cached texts = dates_of name cached.validity cached.uids texts
