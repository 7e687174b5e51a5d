-- A token is a quoted string or one of the table, and only one token begins at a place.
use Rattle.std.proofs.Common.{◌≡◌, inl, inr, ℕ, ◌-◌, ◌<◌, List, [], ◌∷◌, ◌++◌, length, take, drop, Option, Some, None, refl, sym, ◌∙◌, ap}
use Rattle.std.proofs.Common.{subst, arith, length-drop}
use Rattle.std.proofs.Math.Seq.{take-length}
use Rattle.std.specs.Prelude.{◌==◌, false, option_map, IfSome, IfNone, Result, Ok, Err, IsErrOf}
use Rattle.mail_base.specs.declared.span.Span.{Span}
use Rattle.imap_tokens.specs.declared.token.TokenKind.{TokenKind}
use Rattle.imap_tokens.specs.declared.token.TokenKind.TheVariants as kinds
use Rattle.imap_tokens.specs.declared.token.Token.{Token}
use Rattle.imap_tokens.specs.declared.token.TokenFault.{TokenFault}
use Rattle.imap_tokens.specs.declared.token.TokenFault.TheVariants as fault
use Rattle.imap_tokens.specs.Reading.{Reading, HasNoNext}
use Rattle.imap_tokens.specs.Tokens.{token_at, IsToken, NoToken}
use Rattle.imap_tokens.specs.Scan.{quoted_size, token_of}
use Rattle.imap_tokens.specs.Quoted.{BeginsQuoted, NoQuoted, inner_text}
use Rattle.imap_tokens.proofs.Quoted.{one_quoted}

pub other_some : (literals : List Span) (at : ℕ) (rest : List ℕ) (r : Option (TokenKind × ℕ)) → r ≡ token_at literals at rest →
    IfSome r (λ t. IsToken literals at rest t.0 t.1)
other_some literals at rest None e = tt
other_some literals at rest (Some t) e = inl (sym e)

pub other_none : (literals : List Span) (at : ℕ) (rest : List ℕ) (r : Option (TokenKind × ℕ)) → r ≡ token_at literals at rest →
    NoQuoted rest → IfNone r (NoToken literals at rest)
other_none literals at rest None e lacks = (sym e, lacks)
other_none literals at rest (Some t) e lacks = tt

-- the table has no token that begins with `"`
quote_other : (literals : List Span) (at : ℕ) (more : List ℕ) → token_at literals at (34 ∷ more) ≡ None
quote_other literals at more = refl

pub on_none : {A P : Type 0} (r : Option A) → P → IfNone r P
on_none None p = p
on_none (Some a) p = tt

pub quote_none : (literals : List Span) (at : ℕ) (rest more : List ℕ) → rest ≡ 34 ∷ more → NoQuoted (34 ∷ more) → NoToken literals at rest
quote_none literals at rest more is lacks = subst (λ (t : List ℕ). NoToken literals at t) (sym is) (quote_other literals at more, lacks)

pub quote_some : (literals : List Span) (at : ℕ) (rest more : List ℕ) (size : ℕ) → rest ≡ 34 ∷ more → BeginsQuoted (34 ∷ more) size →
    IsToken literals at rest kinds.Quoted size
quote_some literals at rest more size is quoted = inr (refl, subst (λ (t : List ℕ). BeginsQuoted t size) (sym is) quoted)

pub no_quote : (rest : List ℕ) → ((more : List ℕ) → rest ≡ 34 ∷ more → ⊥) → NoQuoted rest
no_quote rest lacks size w = lacks _ w.2.whole

pair_of : (p q : TokenKind × ℕ) → ◌≡◌ {A = Option (TokenKind × ℕ)} (Some p) (Some q) → p ≡ q
pair_of p q e = cc

same_pair : (kind kind' : TokenKind) (size size' : ℕ) → ◌≡◌ {A = Option (TokenKind × ℕ)} (Some (kind, size)) (Some (kind', size')) →
    (kind ≡ kind') × (size ≡ size')
same_pair kind kind' size size' e =
    let same = pair_of (kind, size) (kind', size') e in
    (ap (λ (t : TokenKind × ℕ). t.0) same, ap (λ (t : TokenKind × ℕ). t.1) same)

clash : (p : TokenKind × ℕ) → ◌≡◌ {A = Option (TokenKind × ℕ)} None (Some p) → ⊥
clash p e = cc

not_both : (literals : List Span) (at : ℕ) (text : List ℕ) (kind : TokenKind) (size m : ℕ) →
    token_at literals at text ≡ Some (kind, size) → BeginsQuoted text m → ⊥
not_both literals at text kind size m e w =
    clash (kind, size) (sym (ap (λ (t : List ℕ). token_at literals at t) w.2.whole ∙ quote_other literals at (inner_text w.0 ++ 34 ∷ w.1)) ∙ e)

-- one token begins at a place
pub one_token : (literals : List Span) (at : ℕ) (text : List ℕ) (kind kind' : TokenKind) (size size' : ℕ) →
    IsToken literals at text kind size → IsToken literals at text kind' size' → (kind ≡ kind') × (size ≡ size')
one_token literals at text kind kind' size size' (inl a) (inl b) = same_pair kind kind' size size' (sym a ∙ b)
one_token literals at text kind kind' size size' (inl a) (inr b) = absurd (not_both literals at text kind size size' a b.1)
one_token literals at text kind kind' size size' (inr a) (inl b) = absurd (not_both literals at text kind' size' size b a.1)
one_token literals at text kind kind' size size' (inr a) (inr b) = (a.0 ∙ sym b.0, one_quoted text size size' a.1 b.1)

-- where one begins, it isn't so that none does
pub some_token : (literals : List Span) (at : ℕ) (text : List ℕ) (kind : TokenKind) (size : ℕ) → IsToken literals at text kind size →
    NoToken literals at text → ⊥
some_token literals at text kind size (inl a) lacks = clash (kind, size) (sym lacks.0 ∙ a)
some_token literals at text kind size (inr a) lacks = lacks.1 size a.1

-- Now of a reader: it answers a bad byte exactly where it stands and no token begins.
abbrev pub Exactly : Result (Option Token) TokenFault → ℕ → Reading → Type 0
Exactly r at s = (IsErrOf r (fault.BadByte at) → (at ≡ s.at) × (at < length s.text) × HasNoNext s)
    × ((at ≡ s.at) × (at < length s.text) × HasNoNext s → IsErrOf r (fault.BadByte at))

-- the rest as code slices it
all_behind : (xs : List ℕ) (at : ℕ) → take (length xs - at) (drop at xs) ≡ drop at xs
all_behind xs at = ap (λ (k : ℕ). take k (drop at xs)) (sym (length-drop at xs)) ∙ take-length (drop at xs)

same_place : (a at : ℕ) → ◌≡◌ {A = Result (Option Token) TokenFault} (Err (fault.BadByte a)) (Err (fault.BadByte at)) → at ≡ a
same_place a at e = cc

no_fault : (o : Option Token) (f : TokenFault) → ◌≡◌ {A = Result (Option Token) TokenFault} (Ok o) (Err f) → ⊥
no_fault o f e = cc

module _ (s : Reading) (text : List ℕ) (literals : List Span) (a : ℕ) (view : record { text = text; literals = literals; at = a } ≡ s) where
  pub bad_is : a < length text → NoToken literals a (take (length text - a) (drop a text)) → (at : ℕ) → Exactly (Err (fault.BadByte a)) at s
  bad_is there none at = subst (λ (t : Reading). Exactly (Err (fault.BadByte a)) at t) view (
    (λ e. let place = same_place a at e in (place, omega (arith, place, there), subst (λ (r : List ℕ). NoToken literals a r) (all_behind text a) none)),
    (λ w. ap (λ (k : ℕ). Err (fault.BadByte k)) (sym w.0)),
  )

  pub bad_not : (kind : TokenKind) (size : ℕ) (o : Option Token) → IsToken literals a (take (length text - a) (drop a text)) kind size →
      (at : ℕ) → Exactly (Ok o) at s
  bad_not kind size o is at = subst (λ (t : Reading). Exactly (Ok o) at t) view (
    (λ e. absurd (no_fault o (fault.BadByte at) e)),
    (λ w. absurd (some_token literals a (drop a text) kind size (subst (λ (r : List ℕ). IsToken literals a r kind size) (all_behind text a) is) w.2)),
  )

-- no `"` stands in front
abbrev pub NoQuoteFirst : List ℕ → Type 0
NoQuoteFirst [] = Unit {0}
NoQuoteFirst (b ∷ more) = (b == 34) ≡ false

-- what begins with `"` is a quoted string or nothing
pub quoted_is : (literals : List Span) (at : ℕ) (rest more : List ℕ) (r : Option ℕ) → rest ≡ 34 ∷ more → r ≡ quoted_size more →
    option_map (λ size. (kinds.Quoted, size)) r ≡ token_of literals at rest
unfolding token_of
quoted_is literals at rest more r is e = ap (option_map (λ size. (kinds.Quoted, size))) e ∙ ap (token_of literals at) (sym is)

-- and what doesn't is a token of the table
pub other_is : (literals : List Span) (at : ℕ) (rest : List ℕ) → NoQuoteFirst rest → token_at literals at rest ≡ token_of literals at rest
unfolding token_of
other_is literals at [] other = refl
other_is literals at (b ∷ more) other = rw other refl

pub other_first : (rest more : List ℕ) (b : ℕ) → rest ≡ b ∷ more → (b == 34) ≡ false → NoQuoteFirst rest
other_first rest more b is other = subst (λ (t : List ℕ). NoQuoteFirst t) (sym is) other

pub none_first : (rest : List ℕ) → length rest ≡ 0 → NoQuoteFirst rest
none_first [] e = tt
none_first (b ∷ more) e = absurd (omega arith)
