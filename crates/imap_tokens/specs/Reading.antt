-- What a reader of tokens holds: a line's text, the literals that are still to come, and how far it was read.
use Rattle.std.specs.Prelude.{◌≡◌, ℕ, ◌-◌, ◌<◌, ◌≤◌, List, length, drop}
use Rattle.mail_base.specs.declared.span.Span.{Span}
use Rattle.imap_tokens.specs.declared.token.TokenKind.{TokenKind}
use Rattle.imap_tokens.specs.declared.token.TokenKind.TheVariants as kinds
use Rattle.imap_tokens.specs.declared.token.Token.{Token}
use Rattle.imap_tokens.specs.Tokens.{IsToken, NoToken}

pub record Reading : Type 0 where
  pub text : List ℕ
  pub literals : List Span
  pub at : ℕ

-- no token begins where the reader stands
abbrev pub HasNoNext : Reading → Type 0
HasNoNext reading = NoToken reading.literals reading.at (drop reading.at reading.text)

-- the literals that come behind a token
abbrev pub literals_behind : TokenKind → List Span → List Span
literals_behind kinds.Literal literals = drop 1 literals
literals_behind kind literals = literals

-- the reader read this token: it stands where the reader stood, with a byte at least, and now the reader stands behind it
pub record Reads (old : Reading) (token : Token) (new : Reading) : Type 0 where
  pub begins : token.span.low ≡ old.at
  pub some : token.span.low < token.span.high
  pub within : token.span.high ≤ length old.text
  pub is_next : IsToken old.literals old.at (drop old.at old.text) token.kind (token.span.high - token.span.low)
  pub behind : new ≡ record { text = old.text; literals = literals_behind token.kind old.literals; at = token.span.high }
