-- The token in front of a text as a function, quoted strings too (RFC 9051, section 9).
use Rattle.std.specs.Prelude.{ℕ, ◌+◌, Bool, true, false, ◌==◌, List, [], ◌∷◌, Option, Some, None, option_map, if◌then◌else◌}
use Rattle.mail_base.specs.declared.span.Span.{Span}
use Rattle.imap_tokens.specs.declared.token.TokenKind.{TokenKind}
use Rattle.imap_tokens.specs.declared.token.TokenKind.TheVariants as kinds
use Rattle.imap_tokens.specs.Tokens.{is_escaped, is_forbidden, token_at}

-- the bytes of a quoted string, of which so many stand before this text, behind a backslash or not
unfoldable pub quoted_from : Bool → ℕ → List ℕ → Option ℕ
quoted_from escaped n [] = None
quoted_from true n (b ∷ more) = if is_escaped b then quoted_from false (n + 1) more else None
quoted_from false n (b ∷ more) =
    if b == 34 then Some (n + 1)
    else (if is_forbidden b then None
    else quoted_from (b == 92) (n + 1) more)

-- the bytes of the quoted string whose first `"` stands in front of this text
abbrev pub quoted_size : List ℕ → Option ℕ
quoted_size text = quoted_from false 1 text

-- the token that begins at the place, in front of this text, and how many bytes it takes
unfoldable pub token_of : List Span → ℕ → List ℕ → Option (TokenKind × ℕ)
token_of literals at [] = None
token_of literals at (b ∷ more) =
    if b == 34 then option_map (λ size. (kinds.Quoted, size)) (quoted_size more) else token_at literals at (b ∷ more)
