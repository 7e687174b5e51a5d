-- The reading of the values that are passed over (RFC 9051, section 9, the values of msg-att-static and of esearch-response).
use Rattle.std.specs.Prelude.{ℕ, zero, suc, pred, Bool, true, false, length, Result, Ok, Err, if◌then◌else◌}
use Rattle.imap_tokens.specs.declared.token.TokenKind.{TokenKind}
use Rattle.imap_tokens.specs.declared.token.TokenKind.TheVariants as kinds
use Rattle.imap_response.specs.Reads.{◌>>=◌}
use Rattle.imap_response.specs.Left.{Left, next_at}

-- whether the token closes a list in which so many further lists are open
abbrev pub closes : TokenKind → ℕ → Bool
closes kinds.RightParen zero = true
closes kind deeper = false

-- how many are open behind it
abbrev pub deeper_by : TokenKind → ℕ → ℕ
deeper_by kinds.LeftParen deeper = suc deeper
deeper_by kinds.RightParen deeper = pred deeper
deeper_by kind deeper = deeper

-- the rest of a list, in which so many further lists are open; a text of n bytes has no more than n tokens
unfoldable pub list_from : ℕ → ℕ → Left → Result Left ℕ
list_from zero deeper left = Err 0
list_from (suc more) deeper left =
    next_at left >>= λ token. if closes token.0 deeper then Ok token.2 else list_from more (deeper_by token.0 deeper) token.2

abbrev pub list_at : Left → Result Left ℕ
list_at left = list_from (length left.text) 0 left

abbrev pub value_of : Left → TokenKind → Left → Result Left ℕ
value_of left kinds.Atom behind = Ok behind
value_of left kinds.Number behind = Ok behind
value_of left kinds.Nil behind = Ok behind
value_of left kinds.Quoted behind = Ok behind
value_of left kinds.Literal behind = Ok behind
value_of left kinds.LeftParen behind = list_at behind
value_of left kind behind = Err (length left.text)

-- a value: what stands behind it
unfoldable pub value_at : Left → Result Left ℕ
value_at left = do
  token ← next_at left
  value_of left token.0 token.2

abbrev pub is_bracket : TokenKind → Bool
is_bracket kinds.RightBracket = true
is_bracket kind = false

-- what stands between brackets, the left one read already: what stands behind the first right one
unfoldable pub section_from : ℕ → Left → Result Left ℕ
section_from zero left = Err 0
section_from (suc more) left =
    next_at left >>= λ token. if is_bracket token.0 then Ok token.2 else section_from more token.2

abbrev pub section_at : Left → Result Left ℕ
section_at left = section_from (length left.text) left
