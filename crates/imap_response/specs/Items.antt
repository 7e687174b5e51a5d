-- The items of a FETCH response (RFC 9051, section 9, msg-att; RFC 7162, section 3.1.4.2), as they are read.
use Rattle.std.specs.Prelude.{ℕ, zero, suc, Bool, true, false, ◌&&◌, ◌==◌, not, nat_lt, List, [], ◌∷◌, length, drop, codes, Some, None}
use Rattle.std.specs.Prelude.{Result, Ok, Err, if◌then◌else◌}
use Rattle.std.specs.Option.{option_or}
use Rattle.std.specs.List.{prefix_len}
use Rattle.std.specs.Str.{bytes_eq}
use Rattle.std.specs.Char.{is_ascii_digit}
use Rattle.imap_response.specs.declared.fetch.Body.{Body}
use Rattle.imap_response.specs.declared.fetch.Body.TheVariants as bodies
use Rattle.imap_response.specs.declared.fetch.Gathered.{Gathered}
use Rattle.imap_response.specs.declared.fetch.Told.{Told}
use Rattle.imap_response.specs.declared.fetch.Told.TheVariants as tellings
use Rattle.imap_response.specs.Reads.{◌>>=◌, or_else}
use Rattle.imap_response.specs.Leaf.{gap_at, mark_at, named_at, wide_at, same_word, is_digits}
use Rattle.imap_response.specs.ReadNumbers.{nonzero_at, modseq_at}
use Rattle.imap_response.specs.Flags.{Keep, flags_at}
use Rattle.imap_response.specs.Left.{Left, at_left, mark_in}
use Rattle.imap_response.specs.ReadStrings.{nstring_at, id_field_at}
use Rattle.imap_response.specs.ReadValues.{value_at, section_at}

-- a run is an atom: neither NIL nor digits alone
abbrev pub is_atom : List ℕ → Bool
is_atom run = not (length run == 0) && not (same_word run (codes "NIL")) && not (is_digits run)

-- the section of the identifiers and the right bracket: what stands behind them
unfoldable pub id_section_at : Left → Result Left ℕ
id_section_at left = do
  behind ← named_at (codes "HEADER.FIELDS") left.text
  after ← gap_at behind
  inside ← mark_at 40 after
  field ← id_field_at (at_left left inside)
  list ← mark_in 41 field
  mark_in 93 list

-- `<`, digits and `>`
abbrev pub is_origin : List ℕ → Bool
is_origin [] = true
is_origin (byte ∷ more) =
    byte == 60 && nat_lt 0 (prefix_len is_ascii_digit more) && bytes_eq (drop (prefix_len is_ascii_digit more) more) (62 ∷ [])

-- where a part of a text began, or nothing: what stands behind it
unfoldable pub origin_at : List ℕ → Result (List ℕ) ℕ
origin_at text = if is_origin (wide_at text).0 then Ok (wide_at text).1 else Err (length text)

-- what stands behind a section that is neither that of the identifiers nor empty
unfoldable pub other_section_at : Left → Result (Told × Left) ℕ
other_section_at left = do
  behind ← section_at left
  after ← origin_at behind.text
  text ← gap_at after
  value ← value_at (at_left behind text)
  Ok (tellings.Nothing, value)

abbrev pub told_body : Body → List ℕ → Told
told_body bodies.Ids bytes = tellings.Ids bytes
told_body bodies.Text bytes = tellings.Text bytes

abbrev pub body_behind : Body → Bool → Left → Result (Told × Left) ℕ
body_behind which true left = nstring_at left >>= λ string. Ok (told_body which string.0, string.1)
body_behind which false left = value_at left >>= λ value. Ok (tellings.Nothing, value)

-- the string of a BODY item, behind its section; with an origin it tells nothing
unfoldable pub body_at : Body → Left → Result (Told × Left) ℕ
body_at which left = do
  after ← origin_at left.text
  text ← gap_at after
  body_behind which (length (wide_at left.text).0 == 0) (at_left left text)

-- an item whose name has a section, behind the left bracket
unfoldable pub sectioned_at : List ℕ → Left → Result (Told × Left) ℕ
sectioned_at name left =
    if same_word name (codes "BODY")
    then or_else (id_section_at left) (body_at bodies.Ids) (or_else (mark_in 93 left) (body_at bodies.Text) (other_section_at left))
    else other_section_at left

-- an item whose name has none, behind the spaces
unfoldable pub named_item_at : Keep → List ℕ → Left → Result (Told × Left) ℕ
named_item_at keep name left =
    if same_word name (codes "UID") then (nonzero_at left.text >>= λ uid. Ok (tellings.Uid uid.0, at_left left uid.1))
    else (if same_word name (codes "FLAGS") then (flags_at keep left.text >>= λ flags. Ok (tellings.Flags flags.0.flags flags.0.excess, at_left left flags.1))
    else (if same_word name (codes "MODSEQ") then
    (mark_at 40 left.text >>= λ inside. modseq_at inside >>= λ modseq. mark_at 41 modseq.1 >>= λ behind. Ok
    (tellings.ModSeq modseq.0, at_left left behind))
    else (value_at left >>= λ value. Ok (tellings.Nothing, value))))

-- an item
unfoldable pub item_at : Keep → Left → Result (Told × Left) ℕ
item_at keep left =
    if is_atom (wide_at left.text).0
    then or_else (mark_at 91 (wide_at left.text).1)
    (λ inside. sectioned_at (wide_at left.text).0 (at_left left inside))
    (gap_at (wide_at left.text).1 >>= λ after. named_item_at keep (wide_at left.text).0 (at_left left after))
    else Err (length left.text)

-- nothing was told yet
abbrev pub nothing : Gathered
nothing = record { fetched = record { uid = None; flags = None; modseq = None; ids = None; text = None }; excess = None }

-- One item more. Of two of one name the last one counts; of two lists of flags that are too large the first.
abbrev pub with_told : Gathered → Told → Gathered
with_told gathered (tellings.Uid uid) = record gathered { fetched = record gathered.fetched { uid = Some uid } }
with_told gathered (tellings.Flags flags excess) =
    record { fetched = record gathered.fetched { flags = Some flags }; excess = option_or gathered.excess excess }
with_told gathered (tellings.ModSeq modseq) = record gathered { fetched = record gathered.fetched { modseq = Some modseq } }
with_told gathered (tellings.Ids ids) = record gathered { fetched = record gathered.fetched { ids = Some ids } }
with_told gathered (tellings.Text text) = record gathered { fetched = record gathered.fetched { text = Some text } }
with_told gathered tellings.Nothing = gathered

-- one item or more up to the right parenthesis; a text of n bytes has no more than n
unfoldable pub items_from : Keep → ℕ → Gathered → Left → Result (Gathered × Left) ℕ
items_from keep zero gathered left = Err 0
items_from keep (suc more) gathered left =
    item_at keep left >>= λ item. or_else (mark_at 41 item.1.text)
    (λ end. Ok (with_told gathered item.0, at_left item.1 end))
    (gap_at item.1.text >>= λ after. items_from keep more (with_told gathered item.0) (at_left item.1 after))

-- the items in parentheses
unfoldable pub items_at : Keep → Left → Result (Gathered × Left) ℕ
items_at keep left = do
  inside ← mark_in 40 left
  items_from keep (length inside.text) nothing inside
