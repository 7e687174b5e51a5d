-- The reading of strings (RFC 9051, section 9, string, astring and nstring).
use Rattle.std.specs.Prelude.{ℕ, ◌-◌, Bool, true, false, ◌==◌, List, [], ◌∷◌, length, take, drop, codes, Result, Ok, Err, if◌then◌else◌}
use Rattle.std.specs.List.{prefix_len}
use Rattle.mail_base.specs.declared.span.Span.{Span}
use Rattle.imap_tokens.specs.declared.token.TokenKind.{TokenKind}
use Rattle.imap_tokens.specs.declared.token.TokenKind.TheVariants as kinds
use Rattle.imap_model.specs.Tagged.{is_astring_byte}
use Rattle.imap_response.specs.Reads.{◌>>=◌}
use Rattle.imap_response.specs.Leaf.{same_word}
use Rattle.imap_response.specs.Left.{Left, at_left, next_at}

-- What stands between the quotes and the last of these stands for, behind a backslash or not.
unfoldable pub unquoted_from : Bool → List ℕ → List ℕ
unquoted_from escaped [] = []
unquoted_from true (byte ∷ more) = byte ∷ unquoted_from false more
unquoted_from false (byte ∷ more) =
    if byte == 34 then []
    else (if byte == 92 then unquoted_from true more
    else byte ∷ unquoted_from false more)

-- the bytes that a quoted string stands for
abbrev pub unquoted : List ℕ → List ℕ
unquoted token = unquoted_from false (drop 1 token)

-- the octets of a literal, which stand at the end of its token
abbrev pub octets : List Span → List ℕ → List ℕ
octets [] token = token
octets (span ∷ later) token = drop (length token - (span.high - span.low)) token

abbrev pub nstring_of : Left → TokenKind → List ℕ → Left → Result (List ℕ × Left) ℕ
nstring_of left kinds.Nil token behind = Ok ([], behind)
nstring_of left kinds.Quoted token behind = Ok (unquoted token, behind)
nstring_of left kinds.Literal token behind = Ok (octets left.literals token, behind)
nstring_of left kind token behind = Err (length left.text)

-- a string or NIL: the bytes that it stands for
unfoldable pub nstring_at : Left → Result (List ℕ × Left) ℕ
nstring_at left = do
  token ← next_at left
  nstring_of left token.0 token.1 token.2

abbrev pub string_of : Left → TokenKind → Left → Result Left ℕ
string_of left kinds.Quoted behind = Ok behind
string_of left kinds.Literal behind = Ok behind
string_of left kind behind = Err (length left.text)

abbrev pub astring_len : List ℕ → ℕ
astring_len text = prefix_len is_astring_byte text

-- an astring: what stands behind it
unfoldable pub astring_at : Left → Result Left ℕ
astring_at left =
    if astring_len left.text == 0 then (next_at left >>= λ token. string_of left token.0 token.2)
    else Ok (at_left left (drop (astring_len left.text) left.text))

-- whether a string is Message-ID in any case
abbrev pub is_id : Left → TokenKind → List ℕ → Bool
is_id left kinds.Quoted token = same_word token (codes "\"Message-ID\"")
is_id left kinds.Literal token = same_word (octets left.literals token) (codes "Message-ID")
is_id left kind token = false

-- an astring that stands for Message-ID in any case: what stands behind it
unfoldable pub id_field_at : Left → Result Left ℕ
id_field_at left =
    if same_word (take 10 left.text) (codes "Message-ID") then Ok (at_left left (drop 10 left.text))
    else (next_at left >>= λ token. if is_id left token.0 token.1 then Ok token.2 else Err (length left.text))
