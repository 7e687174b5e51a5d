-- What is left of a line, and its next token (RFC 9051, section 9), as it is read.
use Rattle.std.specs.Prelude.{ℕ, ◌-◌, List, length, take, drop, Option, Some, None, Result, Ok, Err}
use Rattle.mail_base.specs.declared.span.Span.{Span}
use Rattle.imap_tokens.specs.declared.token.TokenKind.{TokenKind}
use Rattle.imap_tokens.specs.Reading.{literals_behind}
use Rattle.imap_tokens.specs.Scan.{token_of}
use Rattle.imap_response.specs.declared.rest.Rest.{Rest}
use Rattle.imap_response.specs.Reads.{◌>>=◌}
use Rattle.imap_response.specs.Leaf.{mark_at}

-- the whole line's length, the bytes that are left, and the literals that are still to come
pub record Left : Type 0 where
  pub total : ℕ
  pub text : List ℕ
  pub literals : List Span

abbrev pub left_of : Rest → Left
left_of rest = record { total = rest.total; text = rest.text.now; literals = rest.literals.now }

-- the same line with this left of it, where no literal stood between
abbrev pub at_left : Left → List ℕ → Left
at_left left text = record { total = left.total; text = text; literals = left.literals }

-- what is left behind a token
abbrev pub behind_token : Left → TokenKind → ℕ → Left
behind_token left kind size = record { total = left.total; text = drop size left.text; literals = literals_behind kind left.literals }

abbrev pub taken : Left → Option (TokenKind × ℕ) → Result (TokenKind × List ℕ × Left) ℕ
taken left None = Err (length left.text)
taken left (Some token) = Ok (token.0, take token.1 left.text, behind_token left token.0 token.1)

-- the next token, its bytes, and what is left behind it
unfoldable pub next_at : Left → Result (TokenKind × List ℕ × Left) ℕ
next_at left = taken left (token_of left.literals (left.total - length left.text) left.text)

-- this byte
unfoldable pub mark_in : ℕ → Left → Result Left ℕ
mark_in byte left = do
  text ← mark_at byte left.text
  Ok (at_left left text)
