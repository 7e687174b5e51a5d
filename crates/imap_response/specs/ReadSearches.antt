-- The reading of what a search found (RFC 9051, section 9, esearch-response; RFC 3501, section 7.2.5; RFC 7162, section 3.1.5).
use Rattle.std.specs.Prelude.{ℕ, zero, suc, Bool, false, ◌==◌, List, [], ◌∷◌, length, codes, Result, Ok, Err, if◌then◌else◌}
use Rattle.uid_sets.specs.declared.uid.UidRange.{UidRange}
use Rattle.imap_response.specs.Reads.{◌>>=◌, or_else}
use Rattle.imap_response.specs.Leaf.{gap_at, blank_at, end_at, mark_at, named_at, wide_at, same_word}
use Rattle.imap_response.specs.ReadNumbers.{nonzero_at, modseq_at}
use Rattle.imap_response.specs.Sets.{set_at, set_of_numbers}
use Rattle.imap_response.specs.Left.{Left, at_left, mark_in}
use Rattle.imap_response.specs.ReadStrings.{astring_at}
use Rattle.imap_response.specs.ReadValues.{value_at}
use Rattle.imap_response.specs.Items.{is_atom}

abbrev pub begins_with : ℕ → List ℕ → Bool
begins_with byte [] = false
begins_with byte (first ∷ rest) = first == byte

-- a mod-sequence in parentheses, and the line's end
unfoldable pub search_end_at : List ℕ → Result (Unit {0}) ℕ
search_end_at text = do
  inside ← mark_at 40 text
  behind ← named_at (codes "MODSEQ") inside
  after ← gap_at behind
  modseq ← modseq_at after
  end ← mark_at 41 modseq.1
  end_at end

-- numbers, spaces before each, and maybe a mod-sequence; a text of n bytes has no more than n
unfoldable pub numbers_from : ℕ → List ℕ → Result (List ℕ) ℕ
numbers_from zero text = Ok []
numbers_from (suc more) text =
    if length (blank_at text) == 0 then Ok []
    else (gap_at text >>= λ after.
    if begins_with 40 after then (search_end_at after >>= λ _. Ok [])
    else (nonzero_at after >>= λ number. numbers_from more number.1 >>= λ numbers. Ok (number.0 ∷ numbers)))

-- what stands behind the word SEARCH
unfoldable pub found_at : List ℕ → Result (List UidRange) ℕ
found_at text = do
  numbers ← numbers_from (length text) text
  Ok (set_of_numbers numbers)

unfoldable pub search_tag_at : Left → Result Left ℕ
search_tag_at left = do
  inside ← mark_at 40 left.text
  behind ← named_at (codes "TAG") inside
  after ← gap_at behind
  tag ← astring_at (at_left left after)
  mark_in 41 tag

-- the tag of the search, if it is told
unfoldable pub correlator_at : Left → Result Left ℕ
correlator_at left =
    or_else (gap_at left.text) (λ after. if begins_with 40 after then search_tag_at (at_left left after) else Ok left) (Ok left)

-- the word UID, if it stands there: what stands behind it
unfoldable pub uid_word_at : List ℕ → Result (List ℕ) ℕ
uid_word_at text = or_else (gap_at text) (λ after. or_else (named_at (codes "UID") after) (λ behind. Ok behind) (Ok text)) (Ok text)

-- a pair of a name and a value: the set that counts behind it
unfoldable pub pair_at : List UidRange → Left → Result (List UidRange × Left) ℕ
pair_at uids left =
    gap_at left.text >>= λ text.
    if is_atom (wide_at text).0
    then (gap_at (wide_at text).1 >>= λ after.
    if same_word (wide_at text).0 (codes "ALL")
    then (set_at after >>= λ set. Ok (set.0, at_left left set.1))
    else (value_at (at_left left after) >>= λ behind. Ok (uids, behind)))
    else Err (length text)

-- pairs, of which the last ALL counts; a text of n bytes has no more than n
unfoldable pub pairs_from : ℕ → List UidRange → Left → Result (List UidRange) ℕ
pairs_from zero uids left = Ok uids
pairs_from (suc more) uids left =
    if length (blank_at left.text) == 0 then Ok uids
    else (pair_at uids left >>= λ pair. pairs_from more pair.0 pair.1)

-- what stands behind the word ESEARCH
unfoldable pub extended_at : Left → Result (List UidRange) ℕ
extended_at left = do
  behind ← correlator_at left
  text ← uid_word_at behind.text
  pairs_from (length text) [] (at_left behind text)
