-- Strings and astrings: what is read, and what is spelled.
use Rattle.std.proofs.Common.{◌≡◌, ◌≢◌, ℕ, ◌+◌, ◌-◌, true, false, cond, List, [], ◌∷◌, ◌++◌, length, take, drop, codes, refl, ap, sym}
use Rattle.std.proofs.Common.{◌∙◌, subst, inl, inr, arith, length-append, append_assoc, Result, Ok}
use Rattle.std.proofs.Math.Seq.{drop-append_seam}
use Rattle.std.proofs.lemmas.List.Folds.{length-prefix_len}
use Rattle.std.specs.Prelude.{◌==◌}
use Rattle.std.specs.List.{AllByRecursion, prefix_len, flat_map}
use Rattle.mail_base.specs.declared.span.Span.{Span}
use Rattle.mail_base.specs.Frames.{header}
use Rattle.imap_tokens.specs.declared.token.TokenKind.{TokenKind}
use Rattle.imap_tokens.specs.declared.token.TokenKind.TheVariants as kinds
use Rattle.imap_tokens.specs.Tokens.{word_kind}
use Rattle.imap_model.specs.Parts.{Part, Literal, part_text, literals_from, bytes}
use Rattle.imap_model.specs.Strings.{Character, Plain, Escaped, IsCharacter, character_text, character_byte, quoted_text, IsQuoted, IsAstring}
use Rattle.imap_model.specs.FetchItems.{IsNstring}
use Rattle.imap_model.specs.Values.{is_wide_byte, IsWide}
use Rattle.imap_model.specs.Words.{SameWord}
use Rattle.imap_model.specs.Tagged.{is_astring_byte}
use Rattle.imap_model.proofs.Cutting.{Stops as Ends}
use Rattle.imap_response.specs.Reads.{◌>>=◌}
use Rattle.imap_response.specs.Left.{Left, at_left, next_at}
use Rattle.imap_response.specs.ReadStrings.{unquoted_from, unquoted, octets, nstring_of, nstring_at, string_of, astring_len, astring_at}
use Rattle.imap_response.proofs.spelling.Names.{same_wide}
use Rattle.imap_response.proofs.spelling.Passing.{Passes, Fits, place, bytes_pass, pass_bytes, pass_left}
use Rattle.imap_response.proofs.spelling.Results.{byte_not, ok_is, ok_either, ok_bind, bind_ok, err_not, some_len, len_some}
use Rattle.imap_response.proofs.spelling.Runs.{AllPass, IsCut, cut_len, cut_behind, reading_cuts, no_len}
use Rattle.imap_response.proofs.spelling.Tokens.{IsTaken, next_spells}
use Rattle.imap_response.proofs.spelling.TokenReads.{quoted_token_reads, literal_token_reads, word_reads, nil_kind}

-- between quotes
step_end : (more : List ℕ) → unquoted_from false (34 ∷ more) ≡ []
unfolding unquoted_from
step_end more = refl

step_plain : (b : ℕ) (more : List ℕ) → (b == 34) ≡ false → (b == 92) ≡ false → unquoted_from false (b ∷ more) ≡ b ∷ unquoted_from false more
unfolding unquoted_from
step_plain b more quote slash = rw (quote, slash) refl

step_escaped : (b : ℕ) (more : List ℕ) → unquoted_from false (92 ∷ b ∷ more) ≡ b ∷ unquoted_from false more
unfolding unquoted_from
step_escaped b more = refl

pub unquoted_is : (cs : List Character) → AllByRecursion IsCharacter cs →
    unquoted_from false (flat_map character_text cs ++ 34 ∷ []) ≡ flat_map character_byte cs
unquoted_is [] all = step_end []
unquoted_is (Plain b ∷ cs) all =
    step_plain b (flat_map character_text cs ++ 34 ∷ []) (byte_not b 34 all.0.3) (byte_not b 92 all.0.4) ∙ ap (λ (t : List ℕ). b ∷ t) (unquoted_is cs all.1)
unquoted_is (Escaped b ∷ cs) all =
    step_escaped b (flat_map character_text cs ++ 34 ∷ []) ∙ ap (λ (t : List ℕ). b ∷ t) (unquoted_is cs all.1)

-- the octets of a literal's token
octets_from : (at : ℕ) (digits value : List ℕ) (later : List Span) →
    octets (literals_from at (Literal digits value ∷ []) ++ later) (part_text (Literal digits value)) ≡ value
octets_from at digits value later =
    let low : ℕ = at + length (header digits) + 2 in
    let e : length (header digits ++ 13 ∷ 10 ∷ value) - (at + length (header digits) + 2 + length value -
    (at + length (header digits) + 2)) ≡ length ((header digits ++ 13 ∷ 10 ∷ [])) =
    omega (arith, length-append (header digits) (13 ∷ 10 ∷ value), length-append (header digits) (13 ∷ 10 ∷ [])) in
    ap (λ (n : ℕ). drop n (header digits ++ 13 ∷ 10 ∷ value)) e
    ∙ ap (drop (length (header digits ++ 13 ∷ 10 ∷ []))) (sym (append_assoc (header digits) (13 ∷ 10 ∷ []) value))
    ∙ drop-append_seam (header digits ++ 13 ∷ 10 ∷ []) value

pub octets_is : (left behind : Left) (digits value : List ℕ) → Passes left (Literal digits value ∷ []) behind →
    octets left.literals (part_text (Literal digits value)) ≡ value
octets_is left behind digits value passes =
    ap (λ (s : List Span). octets s (part_text (Literal digits value))) passes.literals ∙ octets_from (place left) digits value behind.literals

-- strings, whose values are these
abbrev Read : Type 0
Read = List ℕ × Left

abbrev Told : Left → Read → Type 0
Told left r = (parts : List Part) × IsNstring parts r.0 × Passes left parts r.1

nstring_kind : (kind : TokenKind) (left : Left) (token : List ℕ) (behind : Left) (r : Read) → nstring_of left kind token behind ≡ Ok r →
    IsTaken left (kind, token, behind) → Told left r
nstring_kind kinds.Atom left token behind r is taken = absurd (err_not (length left.text) r is)
nstring_kind kinds.Number left token behind r is taken = absurd (err_not (length left.text) r is)
nstring_kind kinds.Nil left token behind r is taken =
    subst (λ (r : Read). Told left r) (ok_is ([], behind) r is) (taken.parts, inr (token, taken.token.2, taken.token.0, refl), taken.passes)
nstring_kind kinds.Quoted left token behind r is taken =
    let value : unquoted token ≡ flat_map character_byte taken.token.0 =
    ap (λ (t : List ℕ). unquoted t) taken.token.2 ∙ unquoted_is taken.token.0 taken.token.1 in
    subst (λ (r : Read). Told left r) (ok_is (unquoted token, behind) r is)
    (taken.parts, inl (inl (token, taken.token.0, record { lawful = taken.token.1; whole = taken.token.2 }, taken.token.3, value)), taken.passes)
nstring_kind kinds.Literal left token behind r is taken =
    let passes = subst (λ (p : List Part). Passes left p behind) taken.token.3 taken.passes in
    let value : octets left.literals token ≡ taken.token.1 = ap (octets left.literals) taken.token.2
    ∙ octets_is left behind taken.token.0 taken.token.1 passes in
    subst (λ (r : Read). Told left r) (ok_is (octets left.literals token, behind) r is)
    (taken.parts, inl (inr (taken.token.0, taken.token.3 ∙ ap (λ (v : List ℕ). Literal taken.token.0 v ∷ []) (sym value))), taken.passes)
nstring_kind kinds.LeftParen left token behind r is taken = absurd (err_not (length left.text) r is)
nstring_kind kinds.RightParen left token behind r is taken = absurd (err_not (length left.text) r is)
nstring_kind kinds.LeftBracket left token behind r is taken = absurd (err_not (length left.text) r is)
nstring_kind kinds.RightBracket left token behind r is taken = absurd (err_not (length left.text) r is)
nstring_kind kinds.Space left token behind r is taken = absurd (err_not (length left.text) r is)

abbrev Next : Type 0
Next = TokenKind × List ℕ × Left

abbrev nstring_by : Left → Next → Result Read ℕ
nstring_by left t = nstring_of left t.0 t.1 t.2

pub nstring_spells : (left : Left) (r : Read) → Fits left → nstring_at left ≡ Ok r → Told left r
unfolding nstring_at
nstring_spells left r fits is =
    let token = ok_bind (next_at left) (nstring_by left) r is in
    nstring_kind token.0.0 left token.0.1 token.0.2 r token.2 (next_spells left token.0 fits token.1)

nil_some : (word : List ℕ) → SameWord word (codes "NIL") → word ≢ []
nil_some [] same is = absurd cc
nil_some (b ∷ word) same is = cc

nil_reads : (left behind : Left) (word : List ℕ) → SameWord word (codes "NIL") → Passes left (bytes word) behind →
    Ends is_wide_byte behind.text → nstring_at left ≡ Ok ([], behind)
unfolding nstring_at
nil_reads left behind word same passes ends =
    let wide : IsWide word = (nil_some word same, same_wide word (codes "NIL") same refl) in
    bind_ok (next_at left) (nstring_by left) (word_kind word, word, behind) ([], behind) (word_reads left word behind wide ends passes)
    (ap (λ (k : TokenKind). nstring_of left k word behind) (nil_kind word same))

quoted_reads : (left behind : Left) (text : List ℕ) (cs : List Character) → IsQuoted text cs → Passes left (bytes text) behind →
    nstring_at left ≡ Ok (flat_map character_byte cs, behind)
unfolding nstring_at
quoted_reads left behind text cs is passes =
    let passes' = subst (λ (t : List ℕ). Passes left (bytes t) behind) is.whole passes in
    bind_ok (next_at left) (nstring_by left) (kinds.Quoted, quoted_text cs, behind) (flat_map character_byte cs, behind)
    (quoted_token_reads left cs behind is.lawful passes')
    (ap (λ (v : List ℕ). Ok (v, behind)) (unquoted_is cs is.lawful))

literal_reads : (left behind : Left) (digits value : List ℕ) → Passes left (Literal digits value ∷ []) behind → nstring_at left ≡ Ok (value, behind)
unfolding nstring_at
literal_reads left behind digits value passes =
    bind_ok (next_at left) (nstring_by left) (kinds.Literal, part_text (Literal digits value), behind) (value, behind)
    (literal_token_reads left digits value behind passes)
    (ap (λ (v : List ℕ). Ok (v, behind)) (octets_is left behind digits value passes))

pub nstring_reads : (left behind : Left) (parts : List Part) (value : List ℕ) → IsNstring parts value → Passes left parts behind →
    Ends is_wide_byte behind.text → nstring_at left ≡ Ok (value, behind)
nstring_reads left behind parts value (inl (inl quoted)) passes ends =
    quoted_reads left behind quoted.0 quoted.1 quoted.2 (subst (λ (p : List Part). Passes left p behind) quoted.3 passes)
    ∙ ap (λ (v : List ℕ). Ok (v, behind)) (sym quoted.4)
nstring_reads left behind parts value (inl (inr literal)) passes ends =
    literal_reads left behind literal.0 value (subst (λ (p : List Part). Passes left p behind) literal.1 passes)
nstring_reads left behind parts value (inr nil) passes ends =
    nil_reads left behind nil.0 nil.1 (subst (λ (p : List Part). Passes left p behind) nil.2 passes) ends ∙ ap (λ (v : List ℕ). Ok (v, behind)) (sym nil.3)

-- astrings
abbrev IsAstringFront : Left → Left → Type 0
IsAstringFront left behind = (parts : List Part) × (value : List ℕ) × IsAstring parts value × Passes left parts behind

string_kind : (kind : TokenKind) (left : Left) (token : List ℕ) (next behind : Left) → string_of left kind next ≡ Ok behind →
    IsTaken left (kind, token, next) → IsAstringFront left behind
string_kind kinds.Atom left token next behind is taken = absurd (err_not (length left.text) behind is)
string_kind kinds.Number left token next behind is taken = absurd (err_not (length left.text) behind is)
string_kind kinds.Nil left token next behind is taken = absurd (err_not (length left.text) behind is)
string_kind kinds.Quoted left token next behind is taken =
    subst (IsAstringFront left) (ok_is next behind is) (
      taken.parts,
      flat_map character_byte taken.token.0,
      inl (inl
          (token, taken.token.0, record { lawful = taken.token.1; whole = taken.token.2 }, taken.token.3, refl)),
      taken.passes,
    )
string_kind kinds.Literal left token next behind is taken =
    subst (IsAstringFront left) (ok_is next behind is)
    (taken.parts, taken.token.1, inl (inr (taken.token.0, taken.token.3)), taken.passes)
string_kind kinds.LeftParen left token next behind is taken = absurd (err_not (length left.text) behind is)
string_kind kinds.RightParen left token next behind is taken = absurd (err_not (length left.text) behind is)
string_kind kinds.LeftBracket left token next behind is taken = absurd (err_not (length left.text) behind is)
string_kind kinds.RightBracket left token next behind is taken = absurd (err_not (length left.text) behind is)
string_kind kinds.Space left token next behind is taken = absurd (err_not (length left.text) behind is)

abbrev string_by : Left → Next → Result Left ℕ
string_by left t = string_of left t.0 t.2

astring_is : (left : Left) → astring_at left ≡ cond (astring_len left.text == 0) (next_at left >>= string_by left)
    (Ok (at_left left (drop (astring_len left.text) left.text)))
unfolding astring_at
astring_is left = refl

bare_spells : (left : Left) → Fits left → (astring_len left.text == 0) ≡ false → IsAstringFront left (at_left left (drop (astring_len left.text) left.text))
bare_spells left fits some =
    let cut = reading_cuts is_astring_byte left.text in
    let value : List ℕ = take (astring_len left.text) left.text in
    let len : (length (take (astring_len left.text) left.text) == 0) ≡ false = ap (λ (n : ℕ). n == 0) (length-prefix_len is_astring_byte left.text) ∙ some in (
      bytes (take (astring_len left.text) left.text),
      take (astring_len left.text) left.text,
      inr (record { some = len_some (take (astring_len left.text) left.text) len; each = cut.all; whole = refl }),
      bytes_pass left (take (astring_len left.text) left.text) (drop (astring_len left.text) left.text) fits cut.whole,
    )

pub astring_spells : (left behind : Left) → Fits left → astring_at left ≡ Ok behind → IsAstringFront left behind
astring_spells left behind fits is =
    elim (ok_either (astring_len left.text == 0) (next_at left >>= string_by left)
    (Ok (at_left left (drop (astring_len left.text) left.text))) behind (sym (astring_is left) ∙ is)) [
      | inl string ↦
          let token = ok_bind (next_at left) (string_by left) behind string.1 in
          string_kind token.0.0 left token.0.1 token.0.2 behind token.2 (next_spells left token.0 fits token.1)
      | inr bare ↦ subst (IsAstringFront left) (ok_is (at_left left (drop (astring_len left.text) left.text)) behind bare.1) (bare_spells left fits bare.0)
    ]

no_astring : (b : ℕ) (more text : List ℕ) → text ≡ b ∷ more → is_astring_byte b ≡ false → (astring_len text == 0) ≡ true
no_astring b more text is fails = ap (λ (n : ℕ). n == 0) (ap (prefix_len is_astring_byte) is ∙ no_len is_astring_byte b more fails)

quoted_astring : (left behind : Left) (text : List ℕ) (cs : List Character) → IsQuoted text cs → Passes left (bytes text) behind → astring_at left ≡ Ok behind
quoted_astring left behind text cs is passes =
    let passes' = subst (λ (t : List ℕ). Passes left (bytes t) behind) is.whole passes in
    let none = no_astring 34 ((flat_map character_text cs ++ 34 ∷ []) ++ behind.text) left.text (pass_bytes left (quoted_text cs) behind passes') refl in
    astring_is left ∙ rw none (bind_ok (next_at left) (string_by left) (kinds.Quoted, quoted_text cs, behind) behind
    (quoted_token_reads left cs behind is.lawful passes') refl)

literal_astring : (left behind : Left) (digits value : List ℕ) → Passes left (Literal digits value ∷ []) behind → astring_at left ≡ Ok behind
literal_astring left behind digits value passes =
    let more : List ℕ = (((digits ++ 125 ∷ []) ++ 13 ∷ 10 ∷ value) ++ []) ++ behind.text in
    let none = no_astring 123 ((((digits ++ 125 ∷ []) ++ 13 ∷ 10 ∷ value) ++ []) ++ behind.text) left.text passes.text refl in
    astring_is left ∙ rw none (bind_ok (next_at left) (string_by left) (kinds.Literal, part_text (Literal digits value), behind) behind
    (literal_token_reads left digits value behind passes) refl)

bare_astring : (left behind : Left) (value : List ℕ) → value ≢ [] → AllPass is_astring_byte value → Passes left (bytes value) behind →
    Ends is_astring_byte behind.text → astring_at left ≡ Ok behind
bare_astring left behind value some all passes ends =
    let whole = pass_bytes left value behind passes in
    let cut : IsCut is_astring_byte left.text value behind.text = record { all = all; ends = ends; whole = whole } in
    let len : astring_len left.text ≡ length value = ap (prefix_len is_astring_byte) whole ∙ cut_len is_astring_byte value behind.text all ends in
    let test : (astring_len left.text == 0) ≡ false = ap (λ (n : ℕ). n == 0) len ∙ some_len value some in
    astring_is left ∙ rw test (ap (λ (t : List ℕ). Ok (at_left left t)) (cut_behind is_astring_byte left.text value behind.text cut)
    ∙ ap (λ (l : Left). Ok l) (pass_left left value behind passes))

pub astring_reads : (left behind : Left) (parts : List Part) (value : List ℕ) → IsAstring parts value → Passes left parts behind →
    Ends is_astring_byte behind.text → astring_at left ≡ Ok behind
astring_reads left behind parts value (inl (inl quoted)) passes ends =
    quoted_astring left behind quoted.0 quoted.1 quoted.2 (subst (λ (p : List Part). Passes left p behind) quoted.3 passes)
astring_reads left behind parts value (inl (inr literal)) passes ends =
    literal_astring left behind literal.0 value (subst (λ (p : List Part). Passes left p behind) literal.1 passes)
astring_reads left behind parts value (inr bare) passes ends =
    bare_astring left behind value bare.some bare.each (subst (λ (p : List Part). Passes left p behind) bare.whole passes) ends
