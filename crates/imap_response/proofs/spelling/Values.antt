-- Values that are passed over: what is read, and what is spelled.
use Rattle.std.proofs.Common.{◌≡◌, ◌≢◌, ℕ, zero, suc, Bool, true, false, cond, List, [], ◌∷◌, ◌++◌, length, refl, ap, sym, ◌∙◌, subst}
use Rattle.std.proofs.Common.{inl, inr, arith, append-nil, append_assoc, Result, Ok, Err}
use Rattle.std.specs.Prelude.{◌==◌, ◌||◌}
use Rattle.std.specs.List.{AllByRecursion, flat_map}
use Rattle.imap_tokens.specs.declared.token.TokenKind.{TokenKind}
use Rattle.imap_tokens.specs.declared.token.TokenKind.TheVariants as kinds
use Rattle.imap_model.specs.Parts.{Part, bytes}
use Rattle.imap_model.specs.Values.{is_wide_byte, IsWide, Piece, Open, Close, Single, Quoted, Octets, IsPiece, piece_parts, Closes}
use Rattle.imap_model.specs.Values.{IsValue, NotBracket, IsSection}
use Rattle.imap_model.specs.Words.{AreSpaces}
use Rattle.imap_response.specs.Reads.{◌>>=◌}
use Rattle.imap_response.specs.Left.{Left, next_at}
use Rattle.imap_response.specs.ReadValues.{closes, deeper_by, list_from, value_of, value_at, is_bracket, section_from}
use Rattle.imap_response.proofs.spelling.Passing.{Passes, Fits, joined, fits_behind}
use Rattle.imap_response.proofs.spelling.Results.{ok_is, ok_either, ok_bind, err_not}
use Rattle.imap_response.proofs.spelling.Runs.{AllPass, all_weaker}
use Rattle.imap_response.proofs.spelling.Tokens.{TokenIs, IsTaken, next_spells}

-- bytes one by one
abbrev pub singles : List ℕ → List Piece
singles [] = []
singles (b ∷ text) = Single b ∷ singles text

pub singles_parts : (text : List ℕ) → flat_map piece_parts (singles text) ≡ bytes text
singles_parts [] = refl
singles_parts (b ∷ text) = ap (λ (p : List Part). bytes (b ∷ []) ++ p) (singles_parts text)

-- a byte between the other pieces
abbrev pub is_single : ℕ → Bool
is_single byte = is_wide_byte byte || byte == 32 || byte == 91 || byte == 93

pub singles_lawful : (text : List ℕ) → AllPass is_single text → AllByRecursion IsPiece (singles text)
singles_lawful [] all = tt
singles_lawful (b ∷ text) all = (all.0, singles_lawful text all.1)

wide_single : (b : ℕ) → is_wide_byte b ≡ true → is_single b ≡ true
wide_single b wide = rw wide refl

pub space_single : (text : List ℕ) → AreSpaces text → AllPass is_single text
space_single [] all = tt
space_single (b ∷ text) all = (ap is_single all.0, space_single text all.1)

pub wide_singles : (text : List ℕ) → AllPass is_wide_byte text → AllPass is_single text
wide_singles text all = all_weaker is_wide_byte is_single wide_single text all

pub pieces_joined : (a b : List Piece) → flat_map piece_parts (a ++ b) ≡ flat_map piece_parts a ++ flat_map piece_parts b
pieces_joined [] b = refl
pieces_joined (p ∷ a) b = ap (λ (q : List Part). piece_parts p ++ q) (pieces_joined a b)
    ∙ sym (append_assoc (piece_parts p) (flat_map piece_parts a) (flat_map piece_parts b))

pub lawful_pieces : (a b : List Piece) → AllByRecursion IsPiece a → AllByRecursion IsPiece b → AllByRecursion IsPiece (a ++ b)
lawful_pieces [] b all all' = all'
lawful_pieces (p ∷ a) b all all' = (all.0, lawful_pieces a b all.1 all')

-- a token as pieces: those of one byte stand for its bytes
pub record ArePieces (kind : TokenKind) (parts : List Part) (pieces : List Piece) : Type 0 where
  pub lawful : AllByRecursion IsPiece pieces
  pub whole : parts ≡ flat_map piece_parts pieces

pieces_of : (text : List ℕ) (parts : List Part) (kind : TokenKind) → parts ≡ bytes text → AllPass is_single text → ArePieces kind parts (singles text)
pieces_of text parts kind is all = record { lawful = singles_lawful text all; whole = is ∙ sym (singles_parts text) }

one_piece : (piece : Piece) (parts : List Part) (kind : TokenKind) → parts ≡ piece_parts piece → IsPiece piece → ArePieces kind parts (piece ∷ [])
one_piece piece parts kind is lawful = record { lawful = (lawful, tt); whole = is ∙ sym (append-nil (piece_parts piece)) }

-- behind it a list goes on
abbrev pub GoesOn : ℕ → ℕ → List Piece → Type 0
GoesOn deeper behind pieces = (more : List Piece) → Closes (suc behind) more → Closes (suc deeper) (pieces ++ more)

singles_on : (text : List ℕ) (deeper : ℕ) → GoesOn deeper deeper (singles text)
singles_on [] deeper = λ more closes. closes
singles_on (b ∷ text) deeper = λ more closes. singles_on text deeper more closes

record IsStep (kind : TokenKind) (deeper : ℕ) (parts : List Part) : Type 0 where
  pub pieces : List Piece
  pub are : ArePieces kind parts pieces
  pub on : GoesOn deeper (deeper_by kind deeper) pieces

singles_step : (kind : TokenKind) (deeper : ℕ) (text : List ℕ) (parts : List Part) → parts ≡ bytes text → AllPass is_single text →
    deeper_by kind deeper ≡ deeper → IsStep kind deeper parts
singles_step kind deeper text parts is all same = record {
  pieces = singles text;
  are = pieces_of text parts kind is all;
  on = subst (λ (d : ℕ). GoesOn deeper d (singles text)) (sym same) (singles_on text deeper);
}

step_of : (kind : TokenKind) (deeper : ℕ) (token : List ℕ) (parts : List Part) → TokenIs kind token parts → closes kind deeper ≡ false →
    IsStep kind deeper parts
step_of kinds.Atom deeper token parts is open_ = singles_step kinds.Atom deeper token parts is.0 (wide_singles token is.1.wide.1) refl
step_of kinds.Number deeper token parts is open_ = singles_step kinds.Number deeper token parts is.0 (wide_singles token is.1.1) refl
step_of kinds.Nil deeper token parts is open_ = singles_step kinds.Nil deeper token parts is.0 (wide_singles token is.1.1) refl
step_of kinds.Quoted deeper token parts is open_ = record {
  pieces = Quoted is.0 ∷ [];
  are = one_piece (Quoted is.0) parts kinds.Quoted (is.3 ∙ ap (λ (t : List ℕ). bytes t) is.2) is.1;
  on = λ more closes. closes;
}
step_of kinds.Literal deeper token parts is open_ = record {
  pieces = Octets is.0 is.1 ∷ [];
  are = one_piece (Octets is.0 is.1) parts kinds.Literal is.3 tt;
  on = λ more closes. closes;
}
step_of kinds.LeftParen deeper token parts is open_ = record {
  pieces = Open ∷ [];
  are = one_piece Open parts kinds.LeftParen (is.1 ∙ ap (λ (t : List ℕ). bytes t) is.0) tt;
  on = λ more closes. closes;
}
step_of kinds.RightParen zero token parts is open_ = absurd cc
step_of kinds.RightParen (suc deeper) token parts is open_ = record {
  pieces = Close ∷ [];
  are = one_piece Close parts kinds.RightParen (is.1 ∙ ap (λ (t : List ℕ). bytes t) is.0) tt;
  on = λ more closes. closes;
}
step_of kinds.LeftBracket deeper token parts is open_ = singles_step kinds.LeftBracket deeper token parts is.1
    (subst (AllPass is_single) (sym is.0) (refl, tt)) refl
step_of kinds.RightBracket deeper token parts is open_ = singles_step kinds.RightBracket deeper token parts is.1
    (subst (AllPass is_single) (sym is.0) (refl, tt)) refl
step_of kinds.Space deeper token parts is open_ = singles_step kinds.Space deeper token parts is.0 (space_single token is.1.1) refl

-- the token that closes the list
closing_token : (kind : TokenKind) (deeper : ℕ) (token : List ℕ) (parts : List Part) → TokenIs kind token parts →
    closes kind deeper ≡ true → (deeper ≡ 0) × (parts ≡ bytes (41 ∷ []))
closing_token kinds.Atom deeper token parts is close = absurd cc
closing_token kinds.Number deeper token parts is close = absurd cc
closing_token kinds.Nil deeper token parts is close = absurd cc
closing_token kinds.Quoted deeper token parts is close = absurd cc
closing_token kinds.Literal deeper token parts is close = absurd cc
closing_token kinds.LeftParen deeper token parts is close = absurd cc
closing_token kinds.RightParen zero token parts is close = (refl, is.1 ∙ ap (λ (t : List ℕ). bytes t) is.0)
closing_token kinds.RightParen (suc deeper) token parts is close = absurd cc
closing_token kinds.LeftBracket deeper token parts is close = absurd cc
closing_token kinds.RightBracket deeper token parts is close = absurd cc
closing_token kinds.Space deeper token parts is close = absurd cc

-- the rest of a list
abbrev pub Next : Type 0
Next = TokenKind × List ℕ × Left

abbrev pub go_on : ℕ → ℕ → Next → Result Left ℕ
go_on more deeper t = cond (closes t.0 deeper) (Ok t.2) (list_from more (deeper_by t.0 deeper) t.2)

list_none : (deeper : ℕ) (left : Left) → list_from zero deeper left ≡ Err 0
unfolding list_from
list_none deeper left = refl

pub list_is : (more deeper : ℕ) (left : Left) → list_from (suc more) deeper left ≡ (next_at left >>= go_on more deeper)
unfolding list_from
list_is more deeper left = refl

pub record IsListRest (deeper : ℕ) (left behind : Left) : Type 0 where
  pub pieces : List Piece
  pub lawful : AllByRecursion IsPiece pieces
  pub closing : Closes (suc deeper) pieces
  pub passes : Passes left (flat_map piece_parts pieces) behind

closed_rest : (deeper : ℕ) (left behind : Left) (parts : List Part) → deeper ≡ 0 → parts ≡ bytes (41 ∷ []) → Passes left parts behind →
    IsListRest deeper left behind
closed_rest deeper left behind parts none is passes = record {
  pieces = Close ∷ [];
  lawful = (tt, tt);
  closing = subst (λ (d : ℕ). Closes (suc d) (Close ∷ [])) (sym none) tt;
  passes = subst (λ (p : List Part). Passes left p behind) is passes;
}

more_rest : (kind : TokenKind) (deeper : ℕ) (left mid behind : Left) (parts : List Part) → IsStep kind deeper parts →
    Passes left parts mid → IsListRest (deeper_by kind deeper) mid behind → IsListRest deeper left behind
more_rest kind deeper left mid behind parts step passes rest =
    let all = joined left parts mid (flat_map piece_parts rest.pieces) behind passes rest.passes in
    record {
      pieces = step.pieces ++ rest.pieces;
      lawful = lawful_pieces step.pieces rest.pieces step.are.lawful rest.lawful;
      closing = step.on rest.pieces rest.closing;
      passes = subst (λ (p : List Part). Passes left p behind) (ap
          (λ (p : List Part). p ++ flat_map piece_parts rest.pieces) step.are.whole ∙ sym (pieces_joined step.pieces rest.pieces)) all;
    }

pub list_spells : (n deeper : ℕ) (left behind : Left) → Fits left → list_from n deeper left ≡ Ok behind → IsListRest deeper left behind
list_spells zero deeper left behind fits is = absurd (err_not 0 behind (sym (list_none deeper left) ∙ is))
list_spells (suc more) deeper left behind fits is =
    let t = ok_bind (next_at left) (go_on more deeper) behind (sym (list_is more deeper left) ∙ is) in
    let taken = next_spells left t.0 fits t.1 in
    elim (ok_either (closes t.0.0 deeper) (Ok t.0.2) (list_from more (deeper_by t.0.0 deeper) t.0.2) behind t.2) [
      | inl close ↦
          let token = closing_token t.0.0 deeper t.0.1 taken.parts taken.token close.0 in
          closed_rest deeper left behind taken.parts token.0 token.1 (subst (Passes left taken.parts) (ok_is t.0.2 behind close.1) taken.passes)
      | inr on ↦
          let step = step_of t.0.0 deeper t.0.1 taken.parts taken.token on.0 in
          more_rest t.0.0 deeper left t.0.2 behind taken.parts step taken.passes
          (list_spells more (deeper_by t.0.0 deeper) t.0.2 behind (fits_behind left taken.parts t.0.2 taken.passes) on.1)
    ]

-- values
pub record IsValueFront (left behind : Left) : Type 0 where
  pub parts : List Part
  pub valued : IsValue parts
  pub passes : Passes left parts behind

wide_value : (left behind : Left) (token : List ℕ) (parts : List Part) → parts ≡ bytes token → IsWide token → Passes left parts behind →
    IsValueFront left behind
wide_value left behind token parts is wide passes = record { parts = parts; valued = inl (token, wide, is); passes = passes }

list_value : (left next behind : Left) (parts : List Part) → parts ≡ bytes (40 ∷ []) → Passes left parts next → IsListRest 0 next behind →
    IsValueFront left behind
list_value left next behind parts is passes rest =
    let all = joined left parts next (flat_map piece_parts rest.pieces) behind passes rest.passes in
    record {
      parts = parts ++ flat_map piece_parts rest.pieces;
      valued = inr (inr (rest.pieces, rest.lawful, rest.closing, ap (λ (p : List Part). p ++ flat_map piece_parts rest.pieces) is));
      passes = all;
    }

value_kind : (kind : TokenKind) (left : Left) (token : List ℕ) (next behind : Left) → value_of left kind next ≡ Ok behind →
    IsTaken left (kind, token, next) → IsValueFront left behind
value_kind kinds.Atom left token next behind is taken =
    subst (IsValueFront left) (ok_is next behind is) (wide_value left next token taken.parts taken.token.0 taken.token.1.wide taken.passes)
value_kind kinds.Number left token next behind is taken =
    subst (IsValueFront left) (ok_is next behind is) (wide_value left next token taken.parts taken.token.0 taken.token.1 taken.passes)
value_kind kinds.Nil left token next behind is taken =
    subst (IsValueFront left) (ok_is next behind is) (wide_value left next token taken.parts taken.token.0 taken.token.1 taken.passes)
value_kind kinds.Quoted left token next behind is taken =
    subst (IsValueFront left) (ok_is next behind is)
    (record {
      parts = taken.parts;
      valued = inr (inl (
        _,
        inl (
          token,
          taken.token.0,
          record { lawful = taken.token.1; whole = taken.token.2 },
          taken.token.3,
          refl,
        ),
      ));
      passes = taken.passes;
    })
value_kind kinds.Literal left token next behind is taken =
    subst (IsValueFront left) (ok_is next behind is)
    (record { parts = taken.parts; valued = inr (inl (taken.token.1, inr (taken.token.0, taken.token.3))); passes = taken.passes })
value_kind kinds.LeftParen left token next behind is taken =
    list_value left next behind taken.parts (taken.token.1 ∙ ap (λ (t : List ℕ). bytes t) taken.token.0) taken.passes
    (list_spells (length next.text) 0 next behind (fits_behind left taken.parts next taken.passes) is)
value_kind kinds.RightParen left token next behind is taken = absurd (err_not (length left.text) behind is)
value_kind kinds.LeftBracket left token next behind is taken = absurd (err_not (length left.text) behind is)
value_kind kinds.RightBracket left token next behind is taken = absurd (err_not (length left.text) behind is)
value_kind kinds.Space left token next behind is taken = absurd (err_not (length left.text) behind is)

abbrev pub value_by : Left → Next → Result Left ℕ
value_by left t = value_of left t.0 t.2

pub value_spells : (left behind : Left) → Fits left → value_at left ≡ Ok behind → IsValueFront left behind
unfolding value_at
value_spells left behind fits is =
    let t = ok_bind (next_at left) (value_by left) behind is in
    value_kind t.0.0 left t.0.1 t.0.2 behind t.2 (next_spells left t.0 fits t.1)

-- what stands between brackets
abbrev pub section_on : ℕ → Next → Result Left ℕ
section_on more t = cond (is_bracket t.0) (Ok t.2) (section_from more t.2)

section_none : (left : Left) → section_from zero left ≡ Err 0
unfolding section_from
section_none left = refl

pub section_is : (more : ℕ) (left : Left) → section_from (suc more) left ≡ (next_at left >>= section_on more)
unfolding section_from
section_is more left = refl

pub record IsSectionFront (left behind : Left) : Type 0 where
  pub inside : List Part
  pub section : IsSection inside
  pub passes : Passes left (inside ++ bytes (93 ∷ [])) behind

-- no bracket closes among them
pub not_brackets : (text : List ℕ) → AllByRecursion (λ byte. byte ≢ 93) text → AllByRecursion NotBracket (singles text)
not_brackets [] all = tt
not_brackets (b ∷ text) all = (all.0, not_brackets text all.1)

pub wide_other : (text : List ℕ) → AllPass is_wide_byte text → AllByRecursion (λ byte. byte ≢ 93) text
wide_other [] all = tt
wide_other (b ∷ text) all = ((λ e. let wide = all.0 in let no : is_wide_byte 93 ≡ true = ap is_wide_byte (sym e) ∙ wide in cc), wide_other text all.1)

pub space_other : (text : List ℕ) → AreSpaces text → AllByRecursion (λ byte. byte ≢ 93) text
space_other [] all = tt
space_other (b ∷ text) all = ((λ e. let space = all.0 in omega (arith, e, space)), space_other text all.1)

record IsInside (kind : TokenKind) (parts : List Part) : Type 0 where
  pub pieces : List Piece
  pub are : ArePieces kind parts pieces
  pub other : AllByRecursion NotBracket pieces

singles_inside : (kind : TokenKind) (text : List ℕ) (parts : List Part) → parts ≡ bytes text → AllPass is_single text →
    AllByRecursion (λ byte. byte ≢ 93) text → IsInside kind parts
singles_inside kind text parts is all other = record { pieces = singles text; are = pieces_of text parts kind is all; other = not_brackets text other }

piece_inside : (piece : Piece) (parts : List Part) (kind : TokenKind) → parts ≡ piece_parts piece → IsPiece piece → NotBracket piece → IsInside kind parts
piece_inside piece parts kind is lawful other = record { pieces = piece ∷ []; are = one_piece piece parts kind is lawful; other = (other, tt) }

bracket_other : ◌≡◌ {A = ℕ} 91 93 → ⊥
bracket_other e = omega (arith, e)

inside_of : (kind : TokenKind) (token : List ℕ) (parts : List Part) → TokenIs kind token parts → is_bracket kind ≡ false → IsInside kind parts
inside_of kinds.Atom token parts is open_ = singles_inside kinds.Atom token parts is.0 (wide_singles token is.1.wide.1) (wide_other token is.1.wide.1)
inside_of kinds.Number token parts is open_ = singles_inside kinds.Number token parts is.0 (wide_singles token is.1.1) (wide_other token is.1.1)
inside_of kinds.Nil token parts is open_ = singles_inside kinds.Nil token parts is.0 (wide_singles token is.1.1) (wide_other token is.1.1)
inside_of kinds.Quoted token parts is open_ = piece_inside (Quoted is.0) parts kinds.Quoted (is.3 ∙ ap (λ (t : List ℕ). bytes t) is.2) is.1 tt
inside_of kinds.Literal token parts is open_ = piece_inside (Octets is.0 is.1) parts kinds.Literal is.3 tt tt
inside_of kinds.LeftParen token parts is open_ = piece_inside Open parts kinds.LeftParen (is.1 ∙ ap (λ (t : List ℕ). bytes t) is.0) tt tt
inside_of kinds.RightParen token parts is open_ = piece_inside Close parts kinds.RightParen (is.1 ∙ ap (λ (t : List ℕ). bytes t) is.0) tt tt
inside_of kinds.LeftBracket token parts is open_ = singles_inside kinds.LeftBracket token parts is.1
    (subst (AllPass is_single) (sym is.0) (refl, tt)) (subst (λ (t : List ℕ). AllByRecursion (λ byte. byte ≢ 93) t) (sym is.0)
    (bracket_other, tt))
inside_of kinds.RightBracket token parts is open_ = absurd cc
inside_of kinds.Space token parts is open_ = singles_inside kinds.Space token parts is.0 (space_single token is.1.1) (space_other token is.1.1)

bracket_token : (kind : TokenKind) (token : List ℕ) (parts : List Part) → TokenIs kind token parts → is_bracket kind ≡ true → parts ≡ bytes (93 ∷ [])
bracket_token kinds.Atom token parts is close = absurd cc
bracket_token kinds.Number token parts is close = absurd cc
bracket_token kinds.Nil token parts is close = absurd cc
bracket_token kinds.Quoted token parts is close = absurd cc
bracket_token kinds.Literal token parts is close = absurd cc
bracket_token kinds.LeftParen token parts is close = absurd cc
bracket_token kinds.RightParen token parts is close = absurd cc
bracket_token kinds.LeftBracket token parts is close = absurd cc
bracket_token kinds.RightBracket token parts is close = is.1 ∙ ap (λ (t : List ℕ). bytes t) is.0
bracket_token kinds.Space token parts is close = absurd cc

pub not_joined : (a b : List Piece) → AllByRecursion NotBracket a → AllByRecursion NotBracket b → AllByRecursion NotBracket (a ++ b)
not_joined [] b all all' = all'
not_joined (p ∷ a) b all all' = (all.0, not_joined a b all.1 all')

section_end : (left behind : Left) (parts : List Part) → parts ≡ bytes (93 ∷ []) → Passes left parts behind → IsSectionFront left behind
section_end left behind parts is passes = record {
  inside = [];
  section = ([], tt, tt, refl);
  passes =
      subst (λ (p : List Part). Passes left p behind) is passes;
}

section_more : (kind : TokenKind) (left mid behind : Left) (parts : List Part) → IsInside kind parts → Passes left parts mid →
    IsSectionFront mid behind → IsSectionFront left behind
section_more kind left mid behind parts step passes rest =
    let all = joined left parts mid (rest.inside ++ bytes (93 ∷ [])) behind passes rest.passes in
    record {
      inside = parts ++ rest.inside;
      section = (
        step.pieces ++ rest.section.0,
        lawful_pieces step.pieces rest.section.0 step.are.lawful rest.section.1,
        not_joined step.pieces rest.section.0 step.other rest.section.2,
        ap (λ (p : List Part). p ++ rest.inside) step.are.whole ∙ ap
            (λ (p : List Part). flat_map piece_parts step.pieces ++ p) rest.section.3 ∙ sym (pieces_joined step.pieces rest.section.0),
      );
      passes = subst (λ (p : List Part). Passes left p behind) (sym (append_assoc parts rest.inside (bytes (93 ∷ [])))) all;
    }

pub section_spells : (n : ℕ) (left behind : Left) → Fits left → section_from n left ≡ Ok behind → IsSectionFront left behind
section_spells zero left behind fits is = absurd (err_not 0 behind (sym (section_none left) ∙ is))
section_spells (suc more) left behind fits is =
    let t = ok_bind (next_at left) (section_on more) behind (sym (section_is more left) ∙ is) in
    let taken = next_spells left t.0 fits t.1 in
    elim (ok_either (is_bracket t.0.0) (Ok t.0.2) (section_from more t.0.2) behind t.2) [
      | inl close ↦ section_end left behind taken.parts (bracket_token t.0.0 t.0.1 taken.parts taken.token close.0)
          (subst (Passes left taken.parts) (ok_is t.0.2 behind close.1) taken.passes)
      | inr on ↦ section_more t.0.0 left t.0.2 behind taken.parts (inside_of t.0.0 t.0.1 taken.parts taken.token on.0) taken.passes
          (section_spells more t.0.2 behind (fits_behind left taken.parts t.0.2 taken.passes) on.1)
    ]
