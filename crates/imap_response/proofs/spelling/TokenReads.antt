-- The next token of a line: what is spelled is read so.
use Rattle.std.proofs.Common.{◌≡◌, ℕ, Bool, true, false, cond, List, [], ◌∷◌, ◌++◌, length, take, drop, map, codes, Some, refl, ap, sym}
use Rattle.std.proofs.Common.{◌∙◌, nat_lt, append-nil, Ok}
use Rattle.std.proofs.Math.Seq.{drop-append_seam, take-append_seam}
use Rattle.std.proofs.lemmas.Bool.{and_parts}
use Rattle.std.specs.Prelude.{◌==◌, option_map}
use Rattle.std.specs.List.{AllByRecursion, prefix_len, flat_map}
use Rattle.std.specs.Char.{to_ascii_lowercase, is_ascii_digit}
use Rattle.std.specs.Str.{bytes_eq}
use Rattle.mail_base.specs.declared.span.Span.{Span}
use Rattle.imap_tokens.specs.declared.token.TokenKind.{TokenKind}
use Rattle.imap_tokens.specs.declared.token.TokenKind.TheVariants as kinds
use Rattle.imap_tokens.specs.Reading.{literals_behind}
use Rattle.imap_tokens.specs.Tokens.{is_word_byte, is_space, word_kind, literal_size}
use Rattle.imap_tokens.specs.Scan.{quoted_size, token_of}
use Rattle.imap_model.specs.Parts.{Literal, part_text, bytes}
use Rattle.imap_model.specs.Strings.{Character, IsCharacter, character_text, quoted_text}
use Rattle.imap_model.specs.Values.{is_wide_byte, IsWide}
use Rattle.imap_model.specs.Words.{SameWord, IsGap}
use Rattle.imap_model.proofs.Cutting.{Stops as Ends}
use Rattle.imap_response.specs.Left.{Left, at_left, behind_token, taken, next_at}
use Rattle.imap_response.proofs.spelling.LiteralTokens.{IsLiteralFront, literal_reads}
use Rattle.imap_response.proofs.spelling.Names.{equal_bytes}
use Rattle.imap_response.proofs.spelling.Passing.{Passes, place, pass_bytes, same_left, bytes_literals}
use Rattle.imap_response.proofs.spelling.Quoted.{IsQuotedFront, quoted_reads}
use Rattle.imap_response.proofs.spelling.Results.{byte_not}
use Rattle.imap_response.proofs.spelling.Runs.{IsCut, cut_len, cut_front}
use Rattle.imap_response.proofs.spelling.Words.{spaces_pass}

abbrev Kinded : Type 0
Kinded = TokenKind × ℕ

-- where the next token is this one, it is read
taken_as : (left : Left) (kind : TokenKind) (token : List ℕ) (behind : Left) → token_of left.literals (place left) left.text ≡ Some (kind, length token)
    → left.text ≡ token ++ behind.text → behind_token left kind (length token) ≡ behind → next_at left ≡ Ok (kind, token, behind)
unfolding next_at
taken_as left kind token behind found whole is =
    let front : take (length token) left.text ≡ token = ap (take (length token)) whole ∙ take-append_seam token behind.text in
    ap (taken left) found
    ∙ ap (λ (t : List ℕ). Ok (kind, t, behind_token left kind (length token))) front
    ∙ ap (λ (l : Left). Ok (kind, token, l)) is

-- what is left behind bytes
behind_bytes : (left : Left) (token : List ℕ) (behind : Left) → Passes left (bytes token) behind → at_left left (drop (length token) left.text) ≡ behind
behind_bytes left token behind passes =
    let whole = pass_bytes left token behind passes in
    same_left (at_left left (drop (length token) left.text)) behind (sym passes.total)
    (ap (drop (length token)) whole ∙ drop-append_seam token behind.text)
    (passes.literals ∙ ap (λ (s : List Span). s ++ behind.literals) (bytes_literals token (place left)))

-- one byte
one_token : (literals : List Span) (at c : ℕ) (kind : TokenKind) (text rest : List ℕ) → text ≡ c ∷ rest →
    token_of literals at (c ∷ rest) ≡ Some (kind, 1) → token_of literals at text ≡ Some (kind, 1)
one_token literals at c kind text rest is found = ap (token_of literals at) is ∙ found

left_paren : (literals : List Span) (at : ℕ) (rest : List ℕ) → token_of literals at (40 ∷ rest) ≡ Some (kinds.LeftParen, 1)
unfolding token_of
left_paren literals at rest = refl

right_paren : (literals : List Span) (at : ℕ) (rest : List ℕ) → token_of literals at (41 ∷ rest) ≡ Some (kinds.RightParen, 1)
unfolding token_of
right_paren literals at rest = refl

left_bracket : (literals : List Span) (at : ℕ) (rest : List ℕ) → token_of literals at (91 ∷ rest) ≡ Some (kinds.LeftBracket, 1)
unfolding token_of
left_bracket literals at rest = refl

right_bracket : (literals : List Span) (at : ℕ) (rest : List ℕ) → token_of literals at (93 ∷ rest) ≡ Some (kinds.RightBracket, 1)
unfolding token_of
right_bracket literals at rest = refl

module _ (left : Left) (behind : Left) where
  pub left_paren_reads : Passes left (bytes (40 ∷ [])) behind → next_at left ≡ Ok (kinds.LeftParen, 40 ∷ [], behind)
  left_paren_reads passes =
      let whole = pass_bytes left (40 ∷ []) behind passes in
      taken_as left kinds.LeftParen (40 ∷ []) behind (one_token left.literals (place left) 40 kinds.LeftParen left.text behind.text whole
      (left_paren left.literals (place left) behind.text)) whole (behind_bytes left (40 ∷ []) behind passes)

  pub right_paren_reads : Passes left (bytes (41 ∷ [])) behind → next_at left ≡ Ok (kinds.RightParen, 41 ∷ [], behind)
  right_paren_reads passes =
      let whole = pass_bytes left (41 ∷ []) behind passes in
      taken_as left kinds.RightParen (41 ∷ []) behind (one_token left.literals (place left) 41 kinds.RightParen left.text behind.text whole
      (right_paren left.literals (place left) behind.text)) whole (behind_bytes left (41 ∷ []) behind passes)

  pub left_bracket_reads : Passes left (bytes (91 ∷ [])) behind → next_at left ≡ Ok (kinds.LeftBracket, 91 ∷ [], behind)
  left_bracket_reads passes =
      let whole = pass_bytes left (91 ∷ []) behind passes in
      taken_as left kinds.LeftBracket (91 ∷ []) behind (one_token left.literals
      (place left) 91 kinds.LeftBracket left.text behind.text whole (left_bracket left.literals (place left) behind.text)) whole
      (behind_bytes left (91 ∷ []) behind passes)

  pub right_bracket_reads : Passes left (bytes (93 ∷ [])) behind → next_at left ≡ Ok (kinds.RightBracket, 93 ∷ [], behind)
  right_bracket_reads passes =
      let whole = pass_bytes left (93 ∷ []) behind passes in
      taken_as left kinds.RightBracket (93 ∷ []) behind (one_token left.literals
      (place left) 93 kinds.RightBracket left.text behind.text whole (right_bracket left.literals (place left) behind.text)) whole
      (behind_bytes left (93 ∷ []) behind passes)

-- spaces
space_front : (literals : List Span) (at : ℕ) (more : List ℕ) → token_of literals at (32 ∷ more) ≡ Some (kinds.Space, prefix_len is_space (32 ∷ more))
unfolding token_of
space_front literals at more = refl

space_found : (literals : List Span) (at : ℕ) (gap text rest : List ℕ) → IsGap gap → text ≡ gap ++ rest → Ends is_space rest →
    token_of literals at text ≡ Some (kinds.Space, length gap)
space_found literals at [] text rest gap is ends = absurd (gap.0 refl)
space_found literals at (b ∷ gap) text rest spaces is ends =
    let here : b ≡ 32 = spaces.1.0 in
    let whole : text ≡ 32 ∷ (gap ++ rest) = is ∙ ap (λ (x : ℕ). x ∷ (gap ++ rest)) here in
    let len : prefix_len is_space (32 ∷ (gap ++ rest)) ≡ length (b ∷ gap) =
    ap (λ (x : ℕ). prefix_len is_space (x ∷ (gap ++ rest))) (sym here) ∙ cut_len is_space (b ∷ gap) rest (spaces_pass (b ∷ gap) spaces.1) ends in
    ap (token_of literals at) whole ∙ space_front literals at (gap ++ rest) ∙ ap (λ (n : ℕ). Some (kinds.Space, n)) len

pub space_reads : (left : Left) (gap : List ℕ) (behind : Left) → IsGap gap → Ends is_space behind.text → Passes left (bytes gap) behind →
    next_at left ≡ Ok (kinds.Space, gap, behind)
space_reads left gap behind spaces ends passes =
    let whole = pass_bytes left gap behind passes in
    taken_as left kinds.Space gap behind (space_found left.literals (place left) gap left.text behind.text spaces whole ends) whole
    (behind_bytes left gap behind passes)

-- a quoted string
quote_front : (literals : List Span) (at : ℕ) (more : List ℕ) → token_of literals at (34 ∷ more) ≡ option_map (λ size. (kinds.Quoted, size)) (quoted_size more)
unfolding token_of
quote_front literals at more = refl

quoted_found : (literals : List Span) (at : ℕ) (cs : List Character) (text rest : List ℕ) → AllByRecursion IsCharacter cs →
    text ≡ quoted_text cs ++ rest → token_of literals at text ≡ Some (kinds.Quoted, length (quoted_text cs))
quoted_found literals at cs text rest lawful is =
    let more : List ℕ = (flat_map character_text cs ++ 34 ∷ []) ++ rest in
    let front : IsQuotedFront (34 ∷ ((flat_map character_text cs ++ 34 ∷ []) ++ rest)) cs rest = record { lawful = lawful; whole = refl } in
    ap (token_of literals at) is ∙ quote_front literals at ((flat_map character_text cs ++ 34 ∷ []) ++ rest)
    ∙ ap (option_map (λ size. (kinds.Quoted, size))) (quoted_reads ((flat_map character_text cs ++ 34 ∷ []) ++ rest) cs rest front)

pub quoted_token_reads : (left : Left) (cs : List Character) (behind : Left) → AllByRecursion IsCharacter cs →
    Passes left (bytes (quoted_text cs)) behind → next_at left ≡ Ok (kinds.Quoted, quoted_text cs, behind)
quoted_token_reads left cs behind lawful passes =
    let whole = pass_bytes left (quoted_text cs) behind passes in
    taken_as left kinds.Quoted (quoted_text cs) behind (quoted_found left.literals
    (place left) cs left.text behind.text lawful whole) whole (behind_bytes left (quoted_text cs) behind passes)

-- a literal
brace_front : (literals : List Span) (at : ℕ) (more : List ℕ) →
    token_of literals at (123 ∷ more) ≡ option_map (λ size. (kinds.Literal, size)) (literal_size literals at (123 ∷ more))
unfolding token_of
brace_front literals at more = refl

pub literal_found : (literals : List Span) (at : ℕ) (text digits octets rest : List ℕ) (later : List Span) →
    IsLiteralFront literals at text digits octets rest later → token_of literals at text
    ≡ Some (kinds.Literal, length (part_text (Literal digits octets)))
literal_found literals at text digits octets rest later front =
    let more : List ℕ = ((digits ++ 125 ∷ []) ++ 13 ∷ 10 ∷ octets) ++ rest in
    let size = literal_reads literals at text digits octets rest later front in
    let there : literal_size literals at (123 ∷ (((digits ++ 125 ∷ []) ++ 13 ∷ 10 ∷ octets) ++ rest))
    ≡ Some (length (part_text (Literal digits octets))) = ap (literal_size literals at) (sym front.whole) ∙ size in
    ap (token_of literals at) front.whole ∙ brace_front literals at (((digits ++ 125 ∷ []) ++ 13 ∷ 10 ∷ octets) ++ rest)
    ∙ ap (option_map (λ size. (kinds.Literal, size))) there

pub literal_token_reads : (left : Left) (digits octets : List ℕ) (behind : Left) → Passes left (Literal digits octets ∷ []) behind →
    next_at left ≡ Ok (kinds.Literal, part_text (Literal digits octets), behind)
literal_token_reads left digits octets behind passes =
    let token : List ℕ = part_text (Literal digits octets) in
    let whole : left.text ≡ part_text (Literal digits octets) ++ behind.text =
    passes.text ∙ ap (λ (t : List ℕ). t ++ behind.text) (append-nil (part_text (Literal digits octets))) in
    let front : IsLiteralFront left.literals (place left) left.text digits octets behind.text behind.literals =
    record { numeral = passes.lawful.0; whole = whole; spans = passes.literals } in
    let back : behind_token left kinds.Literal (length (part_text (Literal digits octets))) ≡ behind =
    same_left (behind_token left kinds.Literal (length (part_text (Literal digits octets)))) behind (sym passes.total)
    (ap (drop (length (part_text (Literal digits octets)))) whole ∙ drop-append_seam (part_text (Literal digits octets)) behind.text)
    (ap (drop 1) passes.literals) in
    taken_as left kinds.Literal (part_text (Literal digits octets)) behind
    (literal_found left.literals (place left) left.text digits octets behind.text behind.literals front) whole back

-- a word
other_byte : (b c : ℕ) → is_word_byte b ≡ true → is_word_byte c ≡ false → (b == c) ≡ false
other_byte b c wide narrow = byte_not b c (λ e. cc (ap is_word_byte e))

above : (b : ℕ) → is_word_byte b ≡ true → nat_lt 32 b ≡ true
above b wide = (and_parts (nat_lt 32 b) _ wide).0

word_front : (literals : List Span) (at b : ℕ) (more : List ℕ) → is_word_byte b ≡ true
    → token_of literals at (b ∷ more) ≡ Some (word_kind (take (prefix_len is_word_byte (b ∷ more)) (b ∷ more)), prefix_len is_word_byte (b ∷ more))
unfolding token_of
word_front literals at b more wide =
    rw (
      other_byte b 34 wide refl,
      other_byte b 32 wide refl,
      other_byte b 40 wide refl,
      other_byte b 41 wide refl,
      other_byte b 91 wide refl,
      other_byte b 93 wide refl,
      other_byte b 123 wide refl,
      other_byte b 127 wide refl,
      above b wide,
    ) refl

word_found : (literals : List Span) (at : ℕ) (word text rest : List ℕ) → IsWide word → text ≡ word ++ rest → Ends is_wide_byte rest →
    token_of literals at text ≡ Some (word_kind word, length word)
word_found literals at [] text rest wide is ends = absurd (wide.0 refl)
word_found literals at (b ∷ word) text rest wide is ends =
    let cut : IsCut is_word_byte (b ∷ (word ++ rest)) (b ∷ word) rest = record { all = wide.1; ends = ends; whole = refl } in
    let front = cut_front is_word_byte (b ∷ (word ++ rest)) (b ∷ word) rest cut in
    let len = cut_len is_word_byte (b ∷ word) rest wide.1 ends in
    ap (token_of literals at) is ∙ word_front literals at b (word ++ rest) wide.1.0
    ∙ ap (λ (w : List ℕ). Some (word_kind w, prefix_len is_word_byte (b ∷ (word ++ rest)))) front ∙ ap (λ (n : ℕ). Some (word_kind (b ∷ word), n)) len

same_literals : (s t : Bool) (literals : List Span) → literals_behind (cond s kinds.Nil (cond t kinds.Number kinds.Atom)) literals ≡ literals
same_literals true t literals = refl
same_literals false true literals = refl
same_literals false false literals = refl

pub word_reads : (left : Left) (word : List ℕ) (behind : Left) → IsWide word → Ends is_wide_byte behind.text →
    Passes left (bytes word) behind → next_at left ≡ Ok (word_kind word, word, behind)
word_reads left word behind wide ends passes =
    let whole = pass_bytes left word behind passes in
    let literals = same_literals (bytes_eq (map to_ascii_lowercase word) (codes "nil")) (prefix_len is_ascii_digit word == length word) left.literals in
    taken_as left (word_kind word) word behind (word_found left.literals (place left) word left.text behind.text wide whole ends) whole
    (ap (λ (s : List Span). record { total = left.total; text = drop (length word) left.text; literals = s }) literals ∙ behind_bytes left word behind passes)

nil_from : (s t : Bool) → s ≡ true → cond s kinds.Nil (cond t kinds.Number kinds.Atom) ≡ kinds.Nil
nil_from true t is = refl
nil_from false t is = absurd cc

pub nil_kind : (word : List ℕ) → SameWord word (codes "NIL") → word_kind word ≡ kinds.Nil
nil_kind word same = nil_from (bytes_eq (map to_ascii_lowercase word) (codes "nil")) (prefix_len is_ascii_digit word == length word)
    (equal_bytes (map to_ascii_lowercase word) (codes "nil") same)
