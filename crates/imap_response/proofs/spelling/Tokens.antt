-- The next token of a line: what is read, and what is spelled.
use Rattle.std.proofs.Common.{◌≡◌, ◌≢◌, ℕ, ◌<◌, Bool, true, false, cond, List, [], ◌∷◌, ◌++◌, length, take, drop, map, codes, Option}
use Rattle.std.proofs.Common.{Some, None, refl, ap, sym, ◌∙◌, subst, inl, inr, ◌⊎◌, arith, nat_lt, append-nil, Ok}
use Rattle.std.proofs.Math.Seq.{drop-append_seam, take-append_seam}
use Rattle.std.proofs.lemmas.Bool.{and_parts}
use Rattle.std.proofs.lemmas.Bool.Decides.{nat_tests}
use Rattle.std.proofs.lemmas.List.{take-append-drop}
use Rattle.std.specs.Prelude.{◌==◌, option_map}
use Rattle.std.specs.List.{AllByRecursion, prefix_len}
use Rattle.std.specs.Char.{to_ascii_lowercase, is_ascii_digit}
use Rattle.std.specs.Str.{bytes_eq}
use Rattle.std.specs.Str.Parse.{IsNumeral}
use Rattle.mail_base.specs.declared.span.Span.{Span}
use Rattle.imap_tokens.specs.declared.token.TokenKind.{TokenKind}
use Rattle.imap_tokens.specs.declared.token.TokenKind.TheVariants as kinds
use Rattle.imap_tokens.specs.Tokens.{is_word_byte, is_space, word_kind, literal_size, token_at}
use Rattle.imap_tokens.specs.Scan.{quoted_size, token_of}
use Rattle.imap_model.specs.Parts.{Part, Literal, part_text, literals_from, bytes}
use Rattle.imap_model.specs.Strings.{Character, IsCharacter, quoted_text}
use Rattle.imap_model.specs.Values.{IsWide, IsAtom}
use Rattle.imap_model.specs.Words.{SameWord, IsGap}
use Rattle.imap_response.specs.Leaf.{is_digits}
use Rattle.imap_response.specs.Left.{Left, at_left, behind_token, taken, next_at}
use Rattle.imap_response.proofs.spelling.LiteralTokens.{literal_spells}
use Rattle.imap_response.proofs.spelling.Names.{bytes_equal, other_bytes}
use Rattle.imap_response.proofs.spelling.Numbers.{numeral_is, is_numeral}
use Rattle.imap_response.proofs.spelling.Passing.{Passes, Fits, place, text_of, bytes_pass}
use Rattle.imap_response.proofs.spelling.Quoted.{quoted_spells}
use Rattle.imap_response.proofs.spelling.Results.{is_byte, byte_is, some_len, ok_is}
use Rattle.imap_response.proofs.spelling.Runs.{front_all, more_len}
use Rattle.imap_response.proofs.spelling.Words.{pass_spaces}

-- a token of this kind, and its parts
abbrev pub TokenIs : TokenKind → List ℕ → List Part → Type 0
TokenIs kinds.Atom token parts = (parts ≡ bytes token) × IsAtom token
TokenIs kinds.Number token parts = (parts ≡ bytes token) × IsWide token × IsNumeral 10 token
TokenIs kinds.Nil token parts = (parts ≡ bytes token) × IsWide token × SameWord token (codes "NIL")
TokenIs kinds.Quoted token parts = (cs : List Character) × AllByRecursion IsCharacter cs × (token ≡ quoted_text cs) × (parts ≡ bytes token)
TokenIs kinds.Literal token parts = (digits : List ℕ) × (octets : List ℕ) × (token ≡ part_text (Literal digits octets)) × (parts ≡ Literal digits octets ∷ [])
TokenIs kinds.LeftParen token parts = (token ≡ 40 ∷ []) × (parts ≡ bytes token)
TokenIs kinds.RightParen token parts = (token ≡ 41 ∷ []) × (parts ≡ bytes token)
TokenIs kinds.LeftBracket token parts = (token ≡ 91 ∷ []) × (parts ≡ bytes token)
TokenIs kinds.RightBracket token parts = (token ≡ 93 ∷ []) × (parts ≡ bytes token)
TokenIs kinds.Space token parts = (parts ≡ bytes token) × IsGap token

-- some parts are a token of this kind and size, in front of what is left
pub record IsNext (left : Left) (kind : TokenKind) (size : ℕ) : Type 0 where
  pub parts : List Part
  pub token : TokenIs kind (take size left.text) parts
  pub passes : Passes left parts (behind_token left kind size)

some_either : {A : Type 0} (t : Bool) (x y : Option A) (z : A) → cond t x y ≡ Some z → ((t ≡ true) × (x ≡ Some z)) ⊎ ((t ≡ false) × (y ≡ Some z))
some_either true x y z is = inl (refl, is)
some_either false x y z is = inr (refl, is)

abbrev Kinded : Type 0
Kinded = TokenKind × ℕ

some_is : (p q : Kinded) → ◌≡◌ {A = Option Kinded} (Some p) (Some q) → p ≡ q
some_is p q is = cc

next_by : (left : Left) (p q : Kinded) → ◌≡◌ {A = Option Kinded} (Some p) (Some q) → IsNext left p.0 p.1 → IsNext left q.0 q.1
next_by left p q is next = subst (λ (t : Kinded). IsNext left t.0 t.1) (some_is p q is) next

mapped_some : (kind : TokenKind) (o : Option ℕ) (q : Kinded) → option_map (λ size. (kind, size)) o ≡ Some q → (size : ℕ) × (o ≡ Some size) × ((kind, size) ≡ q)
mapped_some kind None q is = absurd cc
mapped_some kind (Some size) q is = (size, refl, some_is (kind, size) q is)

line_of : ℕ → List ℕ → List Span → Left
line_of total text literals = record { total = total; text = text; literals = literals }

-- so much of the text as bytes
front_passes : (left : Left) (size : ℕ) → Fits left → Passes left (bytes (take size left.text)) (at_left left (drop size left.text))
front_passes left size fits = bytes_pass left (take size left.text) (drop size left.text) fits (sym (take-append-drop size left.text))

run_some : (p : ℕ → Bool) (b : ℕ) (more : List ℕ) → p b ≡ true → take (prefix_len p (b ∷ more)) (b ∷ more) ≢ []
run_some p b more passes none =
    let front : take (prefix_len p (b ∷ more)) (b ∷ more) ≡ b ∷ take (prefix_len p more) more = ap (λ (n : ℕ). take n (b ∷ more)) (more_len p b more passes) in
    let e : b ∷ take (prefix_len p more) more ≡ [] = sym front ∙ none in
    cc

some_first : (word : List ℕ) → 0 < length word → nat_lt 0 (length word) ≡ true
some_first word some = grind (arith, nat_tests)

digits_test : (word : List ℕ) → 0 < length word → (prefix_len is_ascii_digit word == length word) ≡ true → is_digits word ≡ true
digits_test word some test = rw (some_first word some, test) refl

no_digits : (word : List ℕ) → (prefix_len is_ascii_digit word == length word) ≡ false → IsNumeral 10 word → ⊥
no_digits word test numeral =
    let both = and_parts (nat_lt 0 (length word)) (prefix_len is_ascii_digit word == length word) (is_numeral word numeral) in
    let is = both.1 in
    cc

-- a word by its kind
word_from : (left : Left) (word : List ℕ) (size : ℕ) (s t : Bool) → take size left.text ≡ word →
    bytes_eq (map to_ascii_lowercase word) (codes "nil") ≡ s → (prefix_len is_ascii_digit word == length word) ≡ t
    → IsWide word → Passes left (bytes (take size left.text)) (at_left left (drop size left.text)) →
    IsNext left (cond s kinds.Nil (cond t kinds.Number kinds.Atom)) size
word_from left word size true t is nil digits wide passes = record {
  parts = bytes (take size left.text);
  token = (
    refl,
    subst IsWide (sym is) wide,
    subst (λ (w : List ℕ). SameWord w (codes "NIL")) (sym is)
        (bytes_equal (map to_ascii_lowercase word) (codes "nil") nil),
  );
  passes = passes;
}
word_from left word size false true is nil digits wide passes =
    let some : 0 < length word = (let n = some_len word wide.0 in grind (arith, nat_tests)) in
    let numeral : IsNumeral 10 word = numeral_is word (digits_test word some digits) in
    record {
      parts = bytes (take size left.text);
      token = (refl, subst IsWide (sym is) wide, subst (IsNumeral 10) (sym is) numeral);
      passes = passes;
    }
word_from left word size false false is nil digits wide passes =
    let atom : IsAtom word = record {
      wide = wide;
      not_nil = other_bytes (map to_ascii_lowercase word) (codes "nil") nil;
      not_number =
          no_digits word digits;
    } in
    record { parts = bytes (take size left.text); token = (refl, subst IsAtom (sym is) atom); passes = passes }

module _ (left : Left) (b : ℕ) (more : List ℕ) (fits : Fits left) (is : left.text ≡ b ∷ more) where
  one_next : (kind : TokenKind) (c : ℕ) → b ≡ c → TokenIs kind (c ∷ []) (bytes (c ∷ [])) →
      Passes left (bytes (take 1 left.text)) (behind_token left kind 1) → IsNext left kind 1
  one_next kind c here token passes =
      let front : take 1 left.text ≡ c ∷ [] = ap (take 1) is ∙ ap (λ (x : ℕ). x ∷ []) here in
      record {
        parts = bytes (take 1 left.text);
        token = subst (λ (t : List ℕ). TokenIs kind t (bytes t)) (sym front) token;
        passes = passes;
      }

  space_next : b ≡ 32 → IsNext left kinds.Space (prefix_len is_space (b ∷ more))
  space_next here =
      let n : ℕ = prefix_len is_space (b ∷ more) in
      let front : take (prefix_len is_space (b ∷ more)) left.text ≡ take (prefix_len is_space (b ∷ more)) (b ∷ more) =
      ap (take (prefix_len is_space (b ∷ more))) is in
      let gap : IsGap (take (prefix_len is_space (b ∷ more)) (b ∷ more)) =
      (run_some is_space b more (byte_is b 32 here), pass_spaces _ (front_all is_space (b ∷ more))) in
      record {
        parts = bytes (take (prefix_len is_space (b ∷ more)) left.text);
        token = (refl, subst IsGap (sym front) gap);
        passes = front_passes left (prefix_len is_space (b ∷ more)) fits;
      }

  word_next : is_word_byte b ≡ true → IsNext left (word_kind (take (prefix_len is_word_byte (b ∷ more)) (b ∷ more))) (prefix_len is_word_byte (b ∷ more))
  word_next wide =
      let word : List ℕ = take (prefix_len is_word_byte (b ∷ more)) (b ∷ more) in
      word_from left (take (prefix_len is_word_byte (b ∷ more)) (b ∷ more)) (prefix_len is_word_byte (b ∷ more)) _ _
      (ap (take (prefix_len is_word_byte (b ∷ more))) is) refl refl
      (run_some is_word_byte b more wide, front_all is_word_byte (b ∷ more)) (front_passes left (prefix_len is_word_byte (b ∷ more)) fits)

  quoted_next : (size : ℕ) → b ≡ 34 → quoted_size more ≡ Some size → IsNext left kinds.Quoted size
  quoted_next size here found =
      let w = quoted_spells more size found in
      let whole : left.text ≡ quoted_text w.0 ++ w.1 = is ∙ ap (λ (x : ℕ). x ∷ more) here ∙ w.2.whole in
      let front : take size left.text ≡ quoted_text w.0 = ap (λ (k : ℕ). take k left.text) w.3 ∙ ap (take (length (quoted_text w.0))) whole
      ∙ take-append_seam (quoted_text w.0) w.1 in
      record {
        parts = bytes (take size left.text);
        token = (w.0, w.2.lawful, front, refl);
        passes = front_passes left size fits;
      }

  literal_next : (size : ℕ) → b ≡ 123 → literal_size left.literals (place left) (123 ∷ more) ≡ Some size → IsNext left kinds.Literal size
  literal_next size here found =
      let w = literal_spells left.literals (place left) more size found in
      let text : left.text ≡ 123 ∷ more = is ∙ ap (λ (x : ℕ). x ∷ more) here in
      let whole : left.text ≡ part_text (Literal w.digits w.octets) ++ w.rest = text ∙ w.front.whole in
      let front : take size left.text ≡ part_text (Literal w.digits w.octets) =
      ap (λ (k : ℕ). take k left.text) w.len ∙ ap (take (length (part_text (Literal w.digits w.octets)))) whole
      ∙ take-append_seam (part_text (Literal w.digits w.octets)) w.rest in
      let behind : drop size left.text ≡ w.rest = ap (λ (k : ℕ). drop k left.text) w.len
      ∙ ap (drop (length (part_text (Literal w.digits w.octets)))) whole
      ∙ drop-append_seam (part_text (Literal w.digits w.octets)) w.rest in
      record {
        parts = Literal w.digits w.octets ∷ [];
        token = (w.digits, w.octets, front, refl);
        passes = record {
          lawful = (w.front.numeral, tt);
          text = whole ∙ ap (λ (t : List ℕ). t ++ w.rest) (sym (append-nil (part_text (Literal w.digits w.octets))))
              ∙ ap (λ (t : List ℕ). text_of (Literal w.digits w.octets ∷ []) ++ t) (sym behind);
          total = refl;
          literals = w.front.spans ∙ ap (λ (s : List Span). literals_from (place left) (Literal w.digits w.octets ∷ []) ++ s) (sym (ap (drop 1) w.front.spans));
          fits = fits;
        };
      }

  table_next : (q : Kinded) → token_at left.literals (place left) (b ∷ more) ≡ Some q → IsNext left q.0 q.1
  table_next q found = elim (some_either (b == 32) _ _ q found) [
    | inl space ↦ next_by left (kinds.Space, prefix_len is_space (b ∷ more)) q space.1 (space_next (is_byte b 32 space.0))
    | inr found2 ↦ elim (some_either (b == 40) _ _ q found2.1) [
      | inl one ↦ next_by left (kinds.LeftParen, 1) q one.1 (one_next kinds.LeftParen 40 (is_byte b 40 one.0) (refl, refl) (front_passes left 1 fits))
      | inr found3 ↦ elim (some_either (b == 41) _ _ q found3.1) [
        | inl one ↦ next_by left (kinds.RightParen, 1) q one.1 (one_next kinds.RightParen 41 (is_byte b 41 one.0) (refl, refl) (front_passes left 1 fits))
        | inr found4 ↦ elim (some_either (b == 91) _ _ q found4.1) [
          | inl one ↦ next_by left (kinds.LeftBracket, 1) q one.1 (one_next kinds.LeftBracket 91 (is_byte b 91 one.0) (refl, refl) (front_passes left 1 fits))
          | inr found5 ↦ elim (some_either (b == 93) _ _ q found5.1) [
            | inl one ↦ next_by left (kinds.RightBracket, 1) q one.1 (one_next kinds.RightBracket 93 (is_byte b 93 one.0) (refl, refl)
                (front_passes left 1 fits))
            | inr found6 ↦ elim (some_either (b == 123) _ _ q found6.1) [
              | inl literal ↦
                  let here : b ≡ 123 = is_byte b 123 literal.0 in
                  let w = mapped_some kinds.Literal (literal_size left.literals (place left) (b ∷ more)) q literal.1 in
                  subst (λ (t : Kinded). IsNext left t.0 t.1) w.2 (literal_next w.0 here
                  (ap (λ (x : ℕ). literal_size left.literals (place left) (x ∷ more)) (sym here) ∙ w.1))
              | inr found7 ↦ elim (some_either (is_word_byte b) _ _ q found7.1) [
                | inl word ↦ next_by left (
                  word_kind (take (prefix_len is_word_byte (b ∷ more)) (b ∷ more)),
                  prefix_len is_word_byte (b ∷ more),
                ) q word.1 (word_next word.0)
                | inr none ↦ absurd (let no : ◌≡◌ {A = Option Kinded} None (Some q) = none.1 in cc)
              ]
            ]
          ]
        ]
      ]
    ]
  ]

  token_next : (q : Kinded) → token_of left.literals (place left) (b ∷ more) ≡ Some q → IsNext left q.0 q.1
  unfolding token_of
  token_next q found = elim (some_either (b == 34) _ _ q found) [
    | inl quote ↦
        let w = mapped_some kinds.Quoted (quoted_size more) q quote.1 in
        subst (λ (t : Kinded). IsNext left t.0 t.1) w.2 (quoted_next w.0 (is_byte b 34 quote.0) w.1)
    | inr table ↦ table_next q table.1
  ]

abbrev Next : Type 0
Next = TokenKind × List ℕ × Left

taken_ok : (left : Left) (o : Option Kinded) (t : Next) → taken left o ≡ Ok t →
    (q : Kinded) × (o ≡ Some q) × ((q.0, take q.1 left.text, behind_token left q.0 q.1) ≡ t)
taken_ok left None t is = absurd cc
taken_ok left (Some q) t is = (q, refl, ok_is (q.0, take q.1 left.text, behind_token left q.0 q.1) t is)

-- some parts are this token, and this is left behind it
pub record IsTaken (left : Left) (t : Next) : Type 0 where
  pub parts : List Part
  pub token : TokenIs t.0 t.1 parts
  pub passes : Passes left parts t.2

token_none : (literals : List Span) (at : ℕ) → token_of literals at [] ≡ None
unfolding token_of
token_none literals at = refl

pub next_from : (left : Left) (text : List ℕ) (q : Kinded) → Fits left → left.text ≡ text →
    token_of left.literals (place left) text ≡ Some q → IsNext left q.0 q.1
next_from left [] q fits is found = absurd (let no : ◌≡◌ {A = Option Kinded} None (Some q) = sym (token_none left.literals (place left)) ∙ found in cc)
next_from left (b ∷ more) q fits is found = token_next left b more fits is q found

pub next_spells : (left : Left) (t : Next) → Fits left → next_at left ≡ Ok t → IsTaken left t
unfolding next_at
next_spells left t fits is =
    let w = taken_ok left (token_of left.literals (place left) left.text) t is in
    let next = next_from left left.text w.0 fits refl w.1 in
    subst (IsTaken left) w.2 (record { parts = next.parts; token = next.token; passes = next.passes })
