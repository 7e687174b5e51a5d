-- The reading of the text of a status response, and of where its code stands (RFC 9051, section 9, resp-text).
use Rattle.std.specs.Prelude.{ℕ, zero, suc, pred, ◌+◌, ◌-◌, Bool, true, ◌==◌, nat_eq, not, nat_lt, min, List, [], ◌∷◌, length, take, drop}
use Rattle.std.specs.Prelude.{Option, Some, None, Result, Ok, Err, if◌then◌else◌}
use Rattle.std.specs.List.{prefix_len, starts_with}
use Rattle.imap_tokens.specs.Scan.{quoted_size}
use Rattle.imap_model.specs.declared.code.Code.TheVariants as codings
use Rattle.imap_response.specs.declared.text_part.Coded.{Coded}
use Rattle.imap_response.specs.Reads.{◌>>=◌}
use Rattle.imap_response.specs.Leaf.{is_forbidden, gap_at}
use Rattle.imap_response.specs.WordLists.{header_start}
use Rattle.imap_response.specs.Flags.{Keep}
use Rattle.imap_response.specs.ReadCodes.{code_at, plainly}

abbrev pub plain_len : List ℕ → ℕ
plain_len text = prefix_len (λ byte. not (is_forbidden byte)) text

abbrev pub misfit_by : ℕ → ℕ → Option ℕ → Option ℕ
misfit_by size plain (Some at) = Some (size - at)
misfit_by size plain None = if nat_lt plain size then Some (size - plain) else None

-- the text ends here, or CRLF stands here
abbrev pub is_cut : List ℕ → Bool
is_cut [] = true
is_cut (byte ∷ more) = starts_with nat_eq (byte ∷ more) (13 ∷ 10 ∷ [])

-- Where a literal is opened: the header begins with which the front ends, if the text ends behind it or CRLF follows.
abbrev pub opened_at : List ℕ → List ℕ → Option ℕ
opened_at front rest = if is_cut rest then header_start 0 front else None

-- How many bytes of the text are left at its first CR, LF or NUL, or at the header of a literal that is opened in front of that.
abbrev pub text_misfit : List ℕ → Option ℕ
text_misfit text = misfit_by (length text) (plain_len text) (opened_at (take (plain_len text) text) (drop (plain_len text) text))

-- how many bytes of a quoted string stand behind its first `"`, if it is one
abbrev pub to_skip : Option ℕ → ℕ
to_skip None = 0
to_skip (Some size) = pred size

-- Where the first `]` outside quoted strings stands, behind so many bytes, the first of which are the rest of a quoted string.
-- A `"` that begins no quoted string is a byte like others.
unfoldable pub closing_from : ℕ → ℕ → List ℕ → Option ℕ
closing_from skip at [] = None
closing_from (suc skip) at (byte ∷ more) = closing_from skip (at + 1) more
closing_from zero at (byte ∷ more) =
    if byte == 93 then Some at
    else (if byte == 34 then closing_from (to_skip (quoted_size more)) (at + 1) more
    else closing_from zero (at + 1) more)

-- a misfit within a text of so many bytes, behind which so many further ones stand
abbrev pub within : {A : Type 0} → ℕ → ℕ → Result A ℕ → Result A ℕ
within size behind (Ok x) = Ok x
within size behind (Err left) = Err (min left size + behind)

-- the code that ends there, if there is one
abbrev pub code_up_to : Keep → List ℕ → Option ℕ → Result Coded ℕ
code_up_to keep text None = Ok (plainly codings.None)
code_up_to keep text (Some size) = within (length (take size text)) (length (drop size text)) (code_at keep (take size text))

-- the code between the brackets at the text's front
unfoldable pub code_in : Keep → List ℕ → Result Coded ℕ
code_in keep [] = Ok (plainly codings.None)
code_in keep (byte ∷ more) = if byte == 91 then code_up_to keep more (closing_from 0 0 more) else Ok (plainly codings.None)

-- the text's misfit, if there is one; the code's comes first where it stands in front of it
abbrev pub with_misfit : {A : Type 0} → Option ℕ → Result A ℕ → Result A ℕ
with_misfit None read = read
with_misfit (Some left) (Ok x) = Err left
with_misfit (Some left) (Err earlier) = if nat_lt left earlier then Err earlier else Err left

-- what stands behind the word of a status response
unfoldable pub text_at : Keep → List ℕ → Result Coded ℕ
text_at keep [] = Ok (plainly codings.None)
text_at keep (byte ∷ more) = do
  text ← gap_at (byte ∷ more)
  with_misfit (text_misfit text) (code_in keep text)
