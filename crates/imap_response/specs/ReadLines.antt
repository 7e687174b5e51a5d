-- The reading of the lines of a server (RFC 9051, section 9, response): what the reader answers, in its order.
use Rattle.std.specs.Prelude.{ℕ, zero, suc, ◌-◌, Bool, true, false, ◌==◌, nat_lt, List, [], ◌∷◌, length, drop, codes, Option, Some, None}
use Rattle.std.specs.Prelude.{Result, Ok, Err, if◌then◌else◌}
use Rattle.std.specs.Str.{bytes_eq}
use Rattle.imap_tokens.specs.declared.token.TokenKind.{TokenKind}
use Rattle.imap_tokens.specs.declared.token.TokenKind.TheVariants as kinds
use Rattle.imap_tokens.specs.Scan.{token_of}
use Rattle.imap_model.specs.declared.ending.Ending.{Ending}
use Rattle.imap_model.specs.declared.ending.Ending.TheVariants as endings
use Rattle.imap_model.specs.declared.response.Response.{Response}
use Rattle.imap_model.specs.declared.response.Response.TheVariants as responses
use Rattle.imap_response.specs.declared.line.Said.{Said}
use Rattle.imap_response.specs.Reads.{◌>>=◌, or_else}
use Rattle.imap_response.specs.Leaf.{is_forbidden, gap_at, end_at, mark_at, named_at, word_at, same_word, is_digits}
use Rattle.imap_response.specs.ReadNumbers.{number_at, nonzero_at}
use Rattle.imap_response.specs.Sets.{set_at}
use Rattle.imap_response.specs.Tags.{tag_misfit, tag_of}
use Rattle.imap_response.specs.Flags.{Keep}
use Rattle.imap_response.specs.WordLists.{words_at, header_start, no_header}
use Rattle.imap_response.specs.ReadTextParts.{text_at}
use Rattle.imap_response.specs.Left.{Left, at_left, behind_token}
use Rattle.imap_response.specs.Items.{items_at}
use Rattle.imap_response.specs.ReadSearches.{begins_with, found_at, extended_at}

-- a response with nothing too large in it
abbrev pub simply : Response → Said
simply response = record { response = response; excess = None }

-- the ending that the word names
abbrev pub ending_of : List ℕ → Option Ending
ending_of name =
    if same_word name (codes "OK") then Some endings.Ok
    else (if same_word name (codes "NO") then Some endings.No
    else (if same_word name (codes "BAD") then Some endings.Bad
    else None))

-- the word of a tag
abbrev pub fits_tag : List ℕ → List ℕ → Option ℕ → Result (Unit {0}) ℕ
fits_tag text [] misfit = Err (length text)
fits_tag text (byte ∷ more) None = Ok tt
fits_tag text (byte ∷ more) (Some place) = Err (length text - place)

abbrev pub done_at : Keep → List ℕ → List ℕ → List ℕ → Option Ending → Result Said ℕ
done_at keep tag text rest None = Err (length text)
done_at keep tag text rest (Some ending) =
    text_at keep rest >>= λ coded. Ok (record { response = responses.Done (tag_of tag) ending coded.code; excess = coded.excess })

-- a completion
unfoldable pub tagged_at : Keep → List ℕ → Result Said ℕ
tagged_at keep text = do
  fits ← fits_tag text (word_at text).0 (tag_misfit 0 0 (word_at text).0)
  after ← gap_at (word_at text).1
  done_at keep (word_at text).0 after (word_at after).1 (ending_of (word_at after).0)

abbrev pub literal_size : TokenKind → ℕ → ℕ
literal_size kinds.Literal size = size
literal_size kind size = 0

abbrev pub literal_by : Option (TokenKind × ℕ) → ℕ
literal_by None = 0
literal_by (Some token) = literal_size token.0 token.1

-- the bytes of the literal whose `{` stands in front, and 0 where there is none
abbrev pub literal_len : Left → ℕ
literal_len left = if begins_with 123 left.text then literal_by (token_of left.literals (left.total - length left.text) left.text) else 0

abbrev pub begins_forbidden : List ℕ → Bool
begins_forbidden [] = false
begins_forbidden (byte ∷ more) = is_forbidden byte

-- A line that is passed over, from its first word on: outside literals it has no CR, LF and NUL, and behind its last literal it doesn't end with a header.
-- A text of n bytes has no more than n bytes and literals.
unfoldable pub other_from : ℕ → List ℕ → Left → Result (Unit {0}) ℕ
other_from zero last left = no_header last (header_start 0 last)
other_from (suc more) last left =
    if nat_lt 0 (literal_len left)
    then other_from more (drop (literal_len left) left.text) (behind_token left kinds.Literal (literal_len left))
    else (if length left.text == 0 then no_header last (header_start 0 last)
    else (if begins_forbidden left.text then Err (length left.text)
    else other_from more last (at_left left (drop 1 left.text))))

abbrev pub other_at : Left → Result (Unit {0}) ℕ
other_at left = other_from (length left.text) left.text left

-- one word or more, to the line's end
unfoldable pub capability_line_at : List ℕ → Result Response ℕ
capability_line_at text = do
  words ← words_at text
  if length words.0 == 0 then Err 0 else (end_at words.1 >>= λ _. Ok (responses.Capability words.0))

unfoldable pub enabled_at : List ℕ → Result Response ℕ
enabled_at text = do
  words ← words_at text
  end ← end_at words.1
  Ok (responses.Enabled words.0)

-- a set of UIDs, to the line's end
unfoldable pub vanished_set_at : Bool → List ℕ → Result Response ℕ
vanished_set_at earlier text = do
  uids ← set_at text
  end ← end_at uids.1
  Ok (responses.Vanished earlier uids.0)

-- what stands behind the word VANISHED
unfoldable pub vanished_at : List ℕ → Result Response ℕ
vanished_at text = do
  after ← gap_at text
  or_else (mark_at 40 after)
      (λ inside. named_at (codes "EARLIER") inside >>= λ word. mark_at 41 word >>= λ end. gap_at end >>= λ set. vanished_set_at true set)
      (vanished_set_at false after)

-- an untagged line that is no status response: its word, the line from that word on, and the text behind it
unfoldable pub named_line_at : List ℕ → Left → List ℕ → Result Response ℕ
named_line_at name left behind =
    if same_word name (codes "CAPABILITY") then capability_line_at behind
    else (if same_word name (codes "ENABLED") then enabled_at behind
    else (if same_word name (codes "VANISHED") then vanished_at behind
    else (if same_word name (codes "SEARCH") then (found_at behind >>= λ uids. Ok (responses.Found uids))
    else (if same_word name (codes "ESEARCH") then (extended_at (at_left left behind) >>= λ uids. Ok (responses.Found uids))
    else (other_at left >>= λ _. Ok responses.Other)))))

-- the same for each untagged line whose word is neither a number nor an ending
unfoldable pub status_at : Keep → List ℕ → Left → List ℕ → Result Said ℕ
status_at keep name left behind =
    if same_word name (codes "BYE") then (text_at keep behind >>= λ coded. Ok (record { response = responses.Bye; excess = coded.excess }))
    else (if same_word name (codes "PREAUTH") then (text_at keep behind >>= λ coded. Ok
    (record { response = responses.Preauth coded.code; excess = coded.excess }))
    else (named_line_at name left behind >>= λ response. Ok (simply response)))

-- a message's items, behind the word FETCH
unfoldable pub fetch_at : Keep → Left → Result Said ℕ
fetch_at keep left = do
  text ← gap_at left.text
  items ← items_at keep (at_left left text)
  end ← end_at items.1.text
  Ok (record { response = responses.Fetch items.0.fetched; excess = items.0.excess })

-- how many messages there are, in front of a text, to the line's end
unfoldable pub exists_at : List ℕ → List ℕ → Result Said ℕ
exists_at text later = do
  count ← number_at text
  end ← end_at later
  Ok (simply (responses.Exists count.0))

-- the word behind the number and what stands behind it, where spaces stand between
abbrev pub second_word : Result (List ℕ) ℕ → List ℕ × List ℕ
second_word (Ok after) = word_at after
second_word (Err left) = ([], [])

-- an untagged line with a number in front
unfoldable pub numbered_at : Keep → Left → Result Said ℕ
numbered_at keep left =
    let second = second_word (gap_at (word_at left.text).1) in
    if same_word second.0 (codes "EXISTS") then exists_at left.text second.1
    else (if same_word second.0 (codes "FETCH") then (nonzero_at left.text >>= λ _. fetch_at keep (at_left left second.1))
    else (other_at left >>= λ _. Ok (simply responses.Other)))

abbrev pub ended_at : Keep → List ℕ → Left → List ℕ → Option Ending → Result Said ℕ
ended_at keep name left behind None = status_at keep name left behind
ended_at keep name left behind (Some ending) =
    text_at keep behind >>= λ coded. Ok (record { response = responses.Untagged ending coded.code; excess = coded.excess })

-- what stands behind `*` and the spaces
unfoldable pub untagged_at : Keep → Left → Result Said ℕ
untagged_at keep left =
    if length (word_at left.text).0 == 0 then Err (length left.text)
    else (if is_digits (word_at left.text).0 then numbered_at keep left
    else ended_at keep (word_at left.text).0 left (word_at left.text).1 (ending_of (word_at left.text).0))

-- a line
unfoldable pub line_at : Keep → Left → Result Said ℕ
line_at keep left =
    if bytes_eq (word_at left.text).0 (42 ∷ []) then (gap_at (word_at left.text).1 >>= λ after. untagged_at keep (at_left left after))
    else (if bytes_eq (word_at left.text).0 (43 ∷ []) then (text_at keep (word_at left.text).1 >>= λ coded. Ok
    (record { response = responses.Go; excess = coded.excess }))
    else tagged_at keep left.text)
