-- Values that are passed over: what is spelled is read so.
use Rattle.std.proofs.Common.{◌≡◌, ◌≢◌, ℕ, zero, suc, ◌<◌, ◌≤◌, Bool, true, false, cond, List, [], ◌∷◌, ◌++◌, length, map, codes, refl}
use Rattle.std.proofs.Common.{ap, sym, ◌∙◌, subst, inl, inr, ◌⊎◌, arith, append-nil, append_assoc, length-append, Ok}
use Rattle.std.specs.Prelude.{◌==◌, ◌||◌}
use Rattle.std.specs.List.{AllByRecursion, flat_map, prefix_len}
use Rattle.std.specs.Char.{to_ascii_lowercase, is_ascii_digit}
use Rattle.std.specs.Str.{bytes_eq}
use Rattle.imap_tokens.specs.declared.token.TokenKind.{TokenKind}
use Rattle.imap_tokens.specs.declared.token.TokenKind.TheVariants as kinds
use Rattle.imap_tokens.specs.Tokens.{word_kind}
use Rattle.imap_model.specs.Parts.{Part, Literal, part_text, bytes}
use Rattle.imap_model.specs.Strings.{Character, IsCharacter, quoted_text}
use Rattle.imap_model.specs.Values.{is_wide_byte, IsWide, Piece, Open, Close, Single, Quoted, Octets, IsPiece, piece_parts, Closes, IsValue, NotBracket}
use Rattle.imap_model.proofs.Cutting.{Stops as Ends}
use Rattle.imap_response.specs.Leaf.{is_space}
use Rattle.imap_response.specs.Left.{Left, next_at}
use Rattle.imap_response.specs.ReadValues.{closes, deeper_by, list_from, value_of, value_at, is_bracket, section_from}
use Rattle.imap_response.proofs.spelling.Passing.{Passes, text_of, split, text_joined}
use Rattle.imap_response.proofs.spelling.PieceRuns.{run_of, run_some, IsClear, run_front, lawful_behind, other_behind, closes_behind, shorter}
use Rattle.imap_response.proofs.spelling.Results.{is_byte, byte_is, bind_ok}
use Rattle.imap_response.proofs.spelling.TokenReads.{left_paren_reads, right_paren_reads, left_bracket_reads, right_bracket_reads}
use Rattle.imap_response.proofs.spelling.TokenReads.{space_reads, quoted_token_reads, literal_token_reads, word_reads}
use Rattle.imap_response.proofs.spelling.Values.{singles, is_single, go_on, list_is, value_by, section_on, section_is}
use Rattle.imap_response.proofs.spelling.Words.{pass_spaces}

-- what a word does to a list: nothing
word_open : (s t : Bool) (deeper : ℕ) → (closes (cond s kinds.Nil (cond t kinds.Number kinds.Atom)) deeper ≡ false)
    × (deeper_by (cond s kinds.Nil (cond t kinds.Number kinds.Atom)) deeper ≡ deeper)
    × (is_bracket (cond s kinds.Nil (cond t kinds.Number kinds.Atom)) ≡ false)
word_open true t deeper = (refl, refl, refl)
word_open false true deeper = (refl, refl, refl)
word_open false false deeper = (refl, refl, refl)

word_kind_open : (word : List ℕ) (deeper : ℕ) → (closes (word_kind word) deeper ≡ false) × (deeper_by (word_kind word) deeper ≡ deeper)
    × (is_bracket (word_kind word) ≡ false)
word_kind_open word deeper = word_open (bytes_eq (map to_ascii_lowercase word) (codes "nil")) (prefix_len is_ascii_digit word == length word) deeper

wide_clear : IsClear is_wide_byte
wide_clear = record { open_ = refl; close = refl; quote = refl; brace = refl }

space_clear : IsClear is_space
space_clear = record { open_ = refl; close = refl; quote = refl; brace = refl }

some_bytes : (text : List ℕ) → text ≢ [] → 0 < length (text_of (bytes text))
some_bytes [] some = absurd (some refl)
some_bytes (b ∷ text) some = omega arith

-- one token of a list, or its last
step_reads : (more deeper : ℕ) (left mid behind : Left) (kind : TokenKind) (token : List ℕ) → next_at left ≡ Ok (kind, token, mid) →
    closes kind deeper ≡ false → list_from more (deeper_by kind deeper) mid ≡ Ok behind → list_from (suc more) deeper left ≡ Ok behind
step_reads more deeper left mid behind kind token next open_ rest =
    list_is more deeper left ∙ bind_ok (next_at left) (go_on more deeper) (kind, token, mid) behind next (rw open_ rest)

last_reads : (more : ℕ) (left behind : Left) (token : List ℕ) → next_at left ≡ Ok (kinds.RightParen, token, behind) → list_from (suc more) 0 left ≡ Ok behind
last_reads more left behind token next = list_is more 0 left ∙ bind_ok (next_at left) (go_on more 0) (kinds.RightParen, token, behind) behind next refl

-- lists of so many bytes are read
abbrev ListReads : ℕ → Type 0
ListReads more = (deeper : ℕ) (pieces : List Piece) (left behind : Left) → AllByRecursion IsPiece pieces → Closes (suc deeper) pieces →
    Passes left (flat_map piece_parts pieces) behind
    → length left.text ≤ more → list_from more deeper left ≡ Ok behind

some_rest : (rest : List Piece) (depth : ℕ) → Closes (suc depth) rest → rest ≢ []
some_rest [] depth closing none = closing
some_rest (p ∷ rest) depth closing none = cc

with_nothing : (left behind : Left) (parts : List Part) → Passes left parts behind → Passes left (parts ++ []) behind
with_nothing left behind parts passes = subst (λ (p : List Part). Passes left p behind) (sym (append-nil parts)) passes

without_nothing : (left behind : Left) (parts : List Part) → Passes left (parts ++ []) behind → Passes left parts behind
without_nothing left behind parts passes = subst (λ (p : List Part). Passes left p behind) (append-nil parts) passes

module _ (more : ℕ) (rec : ListReads more) (deeper : ℕ) (left behind : Left) (fits : length left.text ≤ suc more) where
  -- a piece that is a token of its own
  piece_reads : (parts : List Part) (pieces : List Piece) (kind : TokenKind) (token : List ℕ) →
      ((mid : Left) → Passes left parts mid → next_at left ≡ Ok (kind, token, mid)) → 0 < length (text_of parts)
      → closes kind deeper ≡ false → AllByRecursion IsPiece pieces → Closes (suc (deeper_by kind deeper)) pieces →
      Passes left (parts ++ flat_map piece_parts pieces) behind → list_from (suc more) deeper left ≡ Ok behind
  piece_reads parts pieces kind token next some open_ lawful closing passes =
      let cut = split left parts (flat_map piece_parts pieces) behind passes in
      step_reads more deeper left cut.0 behind kind token (next cut.0 cut.1) open_
      (rec (deeper_by kind deeper) pieces cut.0 behind lawful closing cut.2 (shorter left cut.0 parts more cut.1 some fits))

  wide_reads : (byte : ℕ) (pieces : List Piece) → is_wide_byte byte ≡ true → AllByRecursion IsPiece (Single byte ∷ pieces) →
      Closes (suc deeper) (Single byte ∷ pieces)
      → Passes left (flat_map piece_parts (Single byte ∷ pieces)) behind → list_from (suc more) deeper left ≡ Ok behind
  wide_reads byte pieces wide lawful closing passes =
      let run = run_of is_wide_byte (Single byte ∷ pieces) in
      let some = run_some is_wide_byte byte pieces wide run in
      let closing' = closes_behind run.text run.rest deeper (subst (Closes (suc deeper)) run.whole closing) in
      let lawful' = lawful_behind (singles run.text) run.rest (subst (AllByRecursion IsPiece) run.whole lawful) in
      let front = run_front is_wide_byte (Single byte ∷ pieces) run [] left behind wide_clear
      (λ none. absurd (some_rest run.rest deeper closing' none)) (with_nothing left behind
      (flat_map piece_parts (Single byte ∷ pieces)) passes) in
      let kind = word_kind_open run.text deeper in
      let back = without_nothing front.mid behind (flat_map piece_parts run.rest) front.back in
      step_reads more deeper left front.mid behind (word_kind run.text) run.text
      (word_reads left run.text front.mid (some, run.all) front.ends front.front) kind.0
      (ap (λ (d : ℕ). list_from more d front.mid) kind.1 ∙ rec deeper run.rest front.mid behind lawful' closing' back
      (shorter left front.mid (bytes run.text) more front.front (some_bytes run.text some) fits))

  blank_reads : (byte : ℕ) (pieces : List Piece) → byte ≡ 32 → AllByRecursion IsPiece (Single byte ∷ pieces) → Closes (suc deeper) (Single byte ∷ pieces)
      → Passes left (flat_map piece_parts (Single byte ∷ pieces)) behind → list_from (suc more) deeper left ≡ Ok behind
  blank_reads byte pieces space lawful closing passes =
      let run = run_of is_space (Single byte ∷ pieces) in
      let some = run_some is_space byte pieces (byte_is byte 32 space) run in
      let closing' = closes_behind run.text run.rest deeper (subst (Closes (suc deeper)) run.whole closing) in
      let lawful' = lawful_behind (singles run.text) run.rest (subst (AllByRecursion IsPiece) run.whole lawful) in
      let front = run_front is_space (Single byte ∷ pieces) run [] left behind space_clear
      (λ none. absurd (some_rest run.rest deeper closing' none)) (with_nothing left behind
      (flat_map piece_parts (Single byte ∷ pieces)) passes) in
      let back = without_nothing front.mid behind (flat_map piece_parts run.rest) front.back in
      step_reads more deeper left front.mid behind kinds.Space run.text
      (space_reads left run.text front.mid (some, pass_spaces run.text run.all) front.ends front.front) refl
      (rec deeper run.rest front.mid behind lawful' closing' back (shorter left front.mid (bytes run.text) more front.front (some_bytes run.text some) fits))

or_three : (x y z w : Bool) → (x || y || z || w) ≡ true → (x ≡ true) ⊎ ((y ≡ true) ⊎ ((z ≡ true) ⊎ (w ≡ true)))
or_three true y z w is = inl refl
or_three false true z w is = inr (inl refl)
or_three false false true w is = inr (inr (inl refl))
or_three false false false w is = inr (inr (inr is))

pub single_cases : (byte : ℕ) → is_single byte ≡ true → (is_wide_byte byte ≡ true) ⊎ ((byte ≡ 32) ⊎ ((byte ≡ 91) ⊎ (byte ≡ 93)))
single_cases byte is = elim (or_three (is_wide_byte byte) (byte == 32) (byte == 91) (byte == 93) is) [
  | inl wide ↦ inl wide
  | inr other ↦ elim other [
    | inl space ↦ inr (inl (is_byte byte 32 space))
    | inr bracket ↦ elim bracket [
      | inl open_ ↦ inr (inr (inl (is_byte byte 91 open_)))
      | inr close ↦ inr (inr (inr (is_byte byte 93 close)))
    ]
  ]
]

single_reads : (more : ℕ) → ListReads more → (deeper byte : ℕ) (pieces : List Piece) (left behind : Left) → length left.text ≤ suc more
    → AllByRecursion IsPiece (Single byte ∷ pieces) → Closes (suc deeper) (Single byte ∷ pieces) →
    Passes left (flat_map piece_parts (Single byte ∷ pieces)) behind → list_from (suc more) deeper left ≡ Ok behind
single_reads more rec deeper byte pieces left behind fits lawful closing passes =
    elim (single_cases byte lawful.0) [
      | inl wide ↦ wide_reads more rec deeper left behind fits byte pieces wide lawful closing passes
      | inr other ↦ elim other [
        | inl space ↦ blank_reads more rec deeper left behind fits byte pieces space lawful closing passes
        | inr bracket ↦ elim bracket [
          | inl open_ ↦ piece_reads more rec deeper left behind fits (bytes (91 ∷ [])) pieces kinds.LeftBracket (91 ∷ [])
              (λ mid p. left_bracket_reads left mid p) (omega arith) refl lawful.1 closing
              (subst (λ (b : ℕ). Passes left (bytes (b ∷ []) ++ flat_map piece_parts pieces) behind) open_ passes)
          | inr close ↦ piece_reads more rec deeper left behind fits (bytes (93 ∷ [])) pieces kinds.RightBracket (93 ∷ [])
              (λ mid p. right_bracket_reads left mid p) (omega arith) refl lawful.1 closing
              (subst (λ (b : ℕ). Passes left (bytes (b ∷ []) ++ flat_map piece_parts pieces) behind) close passes)
        ]
      ]
    ]

closed_reads : (more : ℕ) (pieces : List Piece) (left behind : Left) → Closes 0 pieces →
    Passes left (bytes (41 ∷ []) ++ flat_map piece_parts pieces) behind → list_from (suc more) 0 left ≡ Ok behind
closed_reads more [] left behind closing passes = last_reads more left behind (41 ∷ []) (right_paren_reads left behind passes)
closed_reads more (p ∷ pieces) left behind closing passes = absurd closing

none_left : (pieces : List Piece) (depth : ℕ) (left behind : Left) → Closes (suc depth) pieces →
    Passes left (flat_map piece_parts pieces) behind → length left.text ≤ 0 → ⊥
none_left [] depth left behind closing passes fits = closing
none_left (Open ∷ pieces) depth left behind closing passes fits = omega (arith, ap length passes.text, fits)
none_left (Close ∷ pieces) depth left behind closing passes fits = omega (arith, ap length passes.text, fits)
none_left (Single byte ∷ pieces) depth left behind closing passes fits = omega (arith, ap length passes.text, fits)
none_left (Quoted cs ∷ pieces) depth left behind closing passes fits = omega (arith, ap length passes.text, fits)
none_left (Octets digits octets ∷ pieces) depth left behind closing passes fits = omega (arith, ap length passes.text, fits)

list_step : (more : ℕ) → ListReads more → (deeper : ℕ) (pieces : List Piece) (left behind : Left) → AllByRecursion IsPiece pieces →
    Closes (suc deeper) pieces → Passes left (flat_map piece_parts pieces) behind
    → length left.text ≤ suc more → list_from (suc more) deeper left ≡ Ok behind
list_step more rec deeper [] left behind lawful closing passes fits = absurd closing
list_step more rec deeper (Open ∷ pieces) left behind lawful closing passes fits =
    piece_reads more rec deeper left behind fits (bytes (40 ∷ [])) pieces kinds.LeftParen (40 ∷ []) (λ mid p. left_paren_reads left mid p)
    (omega arith) refl lawful.1 closing passes
list_step more rec zero (Close ∷ pieces) left behind lawful closing passes fits = closed_reads more pieces left behind closing passes
list_step more rec (suc deeper) (Close ∷ pieces) left behind lawful closing passes fits =
    piece_reads more rec (suc deeper) left behind fits (bytes (41 ∷ [])) pieces kinds.RightParen (41 ∷ [])
    (λ mid p. right_paren_reads left mid p) (omega arith) refl lawful.1 closing passes
list_step more rec deeper (Single byte ∷ pieces) left behind lawful closing passes fits =
    single_reads more rec deeper byte pieces left behind fits lawful closing passes
list_step more rec deeper (Quoted cs ∷ pieces) left behind lawful closing passes fits =
    piece_reads more rec deeper left behind fits (bytes (quoted_text cs)) pieces kinds.Quoted (quoted_text cs)
    (λ mid p. quoted_token_reads left cs mid lawful.0 p) (omega arith) refl lawful.1 closing passes
list_step more rec deeper (Octets digits octets ∷ pieces) left behind lawful closing passes fits =
    piece_reads more rec deeper left behind fits (Literal digits octets ∷ []) pieces kinds.Literal (part_text (Literal digits octets))
    (λ mid p. literal_token_reads left digits octets mid p) (omega arith) refl lawful.1 closing passes

pub list_reads : (n : ℕ) → ListReads n
list_reads zero deeper pieces left behind lawful closing passes fits = absurd (none_left pieces deeper left behind closing passes fits)
list_reads (suc more) deeper pieces left behind lawful closing passes fits =
    list_step more (list_reads more) deeper pieces left behind lawful closing passes fits

-- values
value_open : (s t : Bool) (left behind : Left) → value_of left (cond s kinds.Nil (cond t kinds.Number kinds.Atom)) behind ≡ Ok behind
value_open true t left behind = refl
value_open false true left behind = refl
value_open false false left behind = refl

wide_value : (left behind : Left) (text : List ℕ) → IsWide text → Passes left (bytes text) behind → Ends is_wide_byte behind.text → value_at left ≡ Ok behind
unfolding value_at
wide_value left behind text wide passes ends =
    bind_ok (next_at left) (value_by left) (word_kind text, text, behind) behind (word_reads left text behind wide ends passes)
    (value_open (bytes_eq (map to_ascii_lowercase text) (codes "nil")) (prefix_len is_ascii_digit text == length text) left behind)

quoted_value : (left behind : Left) (cs : List Character) → AllByRecursion IsCharacter cs → Passes left (bytes (quoted_text cs)) behind →
    value_at left ≡ Ok behind
unfolding value_at
quoted_value left behind cs lawful passes =
    bind_ok (next_at left) (value_by left) (kinds.Quoted, quoted_text cs, behind) behind (quoted_token_reads left cs behind lawful passes) refl

literal_value : (left behind : Left) (digits octets : List ℕ) → Passes left (Literal digits octets ∷ []) behind → value_at left ≡ Ok behind
unfolding value_at
literal_value left behind digits octets passes =
    bind_ok (next_at left) (value_by left) (kinds.Literal, part_text (Literal digits octets), behind) behind
    (literal_token_reads left digits octets behind passes) refl

list_value : (left behind : Left) (pieces : List Piece) → AllByRecursion IsPiece pieces → Closes 1 pieces →
    Passes left (bytes (40 ∷ []) ++ flat_map piece_parts pieces) behind → value_at left ≡ Ok behind
unfolding value_at
list_value left behind pieces lawful closing passes =
    let cut = split left (bytes (40 ∷ [])) (flat_map piece_parts pieces) behind passes in
    bind_ok (next_at left) (value_by left) (kinds.LeftParen, 40 ∷ [], cut.0) behind (left_paren_reads left cut.0 cut.1)
    (list_reads (length cut.0.text) 0 pieces cut.0 behind lawful closing cut.2 (omega arith))

pub value_reads : (left behind : Left) (parts : List Part) → IsValue parts → Passes left parts behind → Ends is_wide_byte behind.text →
    value_at left ≡ Ok behind
value_reads left behind parts (inl wide) passes ends = wide_value left behind wide.0 wide.1 (subst (λ (p : List Part). Passes left p behind) wide.2 passes) ends
value_reads left behind parts (inr (inl (value, inl quoted))) passes ends =
    quoted_value left behind quoted.1 quoted.2.lawful (subst (λ (p : List Part). Passes left p behind)
    (quoted.3 ∙ ap (λ (t : List ℕ). bytes t) quoted.2.whole) passes)
value_reads left behind parts (inr (inl (value, inr literal))) passes ends =
    literal_value left behind literal.0 value (subst (λ (p : List Part). Passes left p behind) literal.1 passes)
value_reads left behind parts (inr (inr list)) passes ends =
    list_value left behind list.0 list.1 list.2 (subst (λ (p : List Part). Passes left p behind) list.3 passes)

-- what stands between brackets
abbrev SectionReads : ℕ → Type 0
SectionReads more = (pieces : List Piece) (left behind : Left) → AllByRecursion IsPiece pieces → AllByRecursion NotBracket pieces →
    Passes left (flat_map piece_parts pieces ++ bytes (93 ∷ [])) behind
    → length left.text ≤ more → section_from more left ≡ Ok behind

section_step : (more : ℕ) (left mid behind : Left) (kind : TokenKind) (token : List ℕ) → next_at left ≡ Ok (kind, token, mid) →
    is_bracket kind ≡ false → section_from more mid ≡ Ok behind → section_from (suc more) left ≡ Ok behind
section_step more left mid behind kind token next open_ rest =
    section_is more left ∙ bind_ok (next_at left) (section_on more) (kind, token, mid) behind next (rw open_ rest)

section_last : (more : ℕ) (left behind : Left) → Passes left (bytes (93 ∷ [])) behind → section_from (suc more) left ≡ Ok behind
section_last more left behind passes =
    section_is more left ∙ bind_ok (next_at left) (section_on more) (kinds.RightBracket, 93 ∷ [], behind) behind (right_bracket_reads left behind passes) refl

module _ (more : ℕ) (rec : SectionReads more) (left behind : Left) (fits : length left.text ≤ suc more) where
  inside_reads : (parts : List Part) (pieces : List Piece) (kind : TokenKind) (token : List ℕ) →
      ((mid : Left) → Passes left parts mid → next_at left ≡ Ok (kind, token, mid)) → 0 < length (text_of parts)
      → is_bracket kind ≡ false → AllByRecursion IsPiece pieces → AllByRecursion NotBracket pieces →
      Passes left ((parts ++ flat_map piece_parts pieces) ++ bytes (93 ∷ [])) behind → section_from (suc more) left ≡ Ok behind
  inside_reads parts pieces kind token next some open_ lawful other passes =
      let cut = split left parts (flat_map piece_parts pieces ++ bytes (93 ∷ [])) behind
      (subst (λ (p : List Part). Passes left p behind) (append_assoc parts (flat_map piece_parts pieces) (bytes (93 ∷ []))) passes) in
      section_step more left cut.0 behind kind token (next cut.0 cut.1) open_
      (rec pieces cut.0 behind lawful other cut.2 (shorter left cut.0 parts more cut.1 some fits))

  wide_inside : (byte : ℕ) (pieces : List Piece) → is_wide_byte byte ≡ true → AllByRecursion IsPiece (Single byte ∷ pieces) →
      AllByRecursion NotBracket (Single byte ∷ pieces)
      → Passes left (flat_map piece_parts (Single byte ∷ pieces) ++ bytes (93 ∷ [])) behind → section_from (suc more) left ≡ Ok behind
  wide_inside byte pieces wide lawful other passes =
      let run = run_of is_wide_byte (Single byte ∷ pieces) in
      let some = run_some is_wide_byte byte pieces wide run in
      let other' = other_behind (singles run.text) run.rest (subst (AllByRecursion NotBracket) run.whole other) in
      let lawful' = lawful_behind (singles run.text) run.rest (subst (AllByRecursion IsPiece) run.whole lawful) in
      let front = run_front is_wide_byte (Single byte ∷ pieces) run (bytes (93 ∷ [])) left behind wide_clear (λ none. refl) passes in
      section_step more left front.mid behind (word_kind run.text) run.text
      (word_reads left run.text front.mid (some, run.all) front.ends front.front) (word_kind_open run.text 0).2
      (rec run.rest front.mid behind lawful' other' front.back (shorter left front.mid (bytes run.text) more front.front (some_bytes run.text some) fits))

  blank_inside : (byte : ℕ) (pieces : List Piece) → byte ≡ 32 → AllByRecursion IsPiece (Single byte ∷ pieces) → AllByRecursion NotBracket (Single byte ∷ pieces)
      → Passes left (flat_map piece_parts (Single byte ∷ pieces) ++ bytes (93 ∷ [])) behind → section_from (suc more) left ≡ Ok behind
  blank_inside byte pieces space lawful other passes =
      let run = run_of is_space (Single byte ∷ pieces) in
      let some = run_some is_space byte pieces (byte_is byte 32 space) run in
      let other' = other_behind (singles run.text) run.rest (subst (AllByRecursion NotBracket) run.whole other) in
      let lawful' = lawful_behind (singles run.text) run.rest (subst (AllByRecursion IsPiece) run.whole lawful) in
      let front = run_front is_space (Single byte ∷ pieces) run (bytes (93 ∷ [])) left behind space_clear (λ none. refl) passes in
      section_step more left front.mid behind kinds.Space run.text
      (space_reads left run.text front.mid (some, pass_spaces run.text run.all) front.ends front.front) refl
      (rec run.rest front.mid behind lawful' other' front.back (shorter left front.mid (bytes run.text) more front.front (some_bytes run.text some) fits))

single_inside : (more : ℕ) → SectionReads more → (byte : ℕ) (pieces : List Piece) (left behind : Left) → length left.text ≤ suc more →
    AllByRecursion IsPiece (Single byte ∷ pieces) → AllByRecursion NotBracket (Single byte ∷ pieces)
    → Passes left (flat_map piece_parts (Single byte ∷ pieces) ++ bytes (93 ∷ [])) behind → section_from (suc more) left ≡ Ok behind
single_inside more rec byte pieces left behind fits lawful other passes =
    elim (single_cases byte lawful.0) [
      | inl wide ↦ wide_inside more rec left behind fits byte pieces wide lawful other passes
      | inr rest ↦ elim rest [
        | inl space ↦ blank_inside more rec left behind fits byte pieces space lawful other passes
        | inr bracket ↦ elim bracket [
          | inl open_ ↦ inside_reads more rec left behind fits (bytes (91 ∷ [])) pieces kinds.LeftBracket (91 ∷ [])
              (λ mid p. left_bracket_reads left mid p) (omega arith) refl lawful.1 other.1
              (subst (λ (b : ℕ). Passes left ((bytes (b ∷ []) ++ flat_map piece_parts pieces) ++ bytes (93 ∷ [])) behind) open_ passes)
          | inr close ↦ absurd (other.0 close)
        ]
      ]
    ]

none_inside : (pieces : List Piece) (left behind : Left) → Passes left (flat_map piece_parts pieces ++ bytes (93 ∷ [])) behind → length left.text ≤ 0 → ⊥
none_inside pieces left behind passes fits =
    omega (
      arith,
      ap length passes.text,
      length-append (text_of (flat_map piece_parts pieces ++ bytes (93 ∷ []))) behind.text,
      ap length (text_joined (flat_map piece_parts pieces) (bytes (93 ∷ []))),
      length-append (text_of (flat_map piece_parts pieces)) (93 ∷ []),
      fits,
    )

pub section_reads : (n : ℕ) → SectionReads n
section_reads zero pieces left behind lawful other passes fits = absurd (none_inside pieces left behind passes fits)
section_reads (suc more) [] left behind lawful other passes fits = section_last more left behind passes
section_reads (suc more) (Open ∷ pieces) left behind lawful other passes fits =
    inside_reads more (section_reads more) left behind fits (bytes (40 ∷ [])) pieces kinds.LeftParen (40 ∷ [])
    (λ mid p. left_paren_reads left mid p) (omega arith) refl lawful.1 other.1 passes
section_reads (suc more) (Close ∷ pieces) left behind lawful other passes fits =
    inside_reads more (section_reads more) left behind fits (bytes (41 ∷ [])) pieces kinds.RightParen (41 ∷ [])
    (λ mid p. right_paren_reads left mid p) (omega arith) refl lawful.1 other.1 passes
section_reads (suc more) (Single byte ∷ pieces) left behind lawful other passes fits =
    single_inside more (section_reads more) byte pieces left behind fits lawful other passes
section_reads (suc more) (Quoted cs ∷ pieces) left behind lawful other passes fits =
    inside_reads more (section_reads more) left behind fits (bytes (quoted_text cs)) pieces kinds.Quoted (quoted_text cs)
    (λ mid p. quoted_token_reads left cs mid lawful.0 p) (omega arith) refl lawful.1 other.1 passes
section_reads (suc more) (Octets digits octets ∷ pieces) left behind lawful other passes fits =
    inside_reads more (section_reads more) left behind fits (Literal digits octets ∷ []) pieces kinds.Literal
    (part_text (Literal digits octets)) (λ mid p. literal_token_reads left digits octets mid p)
    (omega arith) refl lawful.1 other.1 passes
