-- Where bytes stop being an identifier.
use Rattle.std.proofs.Common.{◌≡◌, ℕ, zero, suc, ◌+◌, ◌<◌, ◌≤◌, List, [], ◌∷◌, ◌++◌, length, take, drop, refl, sym, ◌∙◌, ap, subst, arith}
use Rattle.std.proofs.Common.{get_or, length-take, get_or-take}
use Rattle.std.proofs.lemmas.List.{append_assoc, append-nil, length-append, take_all, take-append-drop, get_or-append-add}
use Rattle.std.proofs.lemmas.List.Elements.{All-nil, All-cons, All-push, All-head, All-tail, All-get_or}
use Rattle.std.proofs.Math.Seq.{take-suc}
use Rattle.std.specs.Prelude.{All}
use Rattle.mail_header.specs.Identifier.{IsIdByte, IsFirstOther, IsId, BeginsId, IsUnfitAt}

letter : IsIdByte 97
letter = record { low = omega arith; high = omega arith; left = λ is. omega (arith, is); right = λ is. omega (arith, is) }

-- what an identifier begins with is its front
begins-front : (bytes : List ℕ) (n : ℕ) → IsId bytes → BeginsId (take n bytes)
begins-front bytes n id = record { rest = drop n bytes; id = subst IsId (sym (take-append-drop n bytes)) id }

unfit : (bytes : List ℕ) (at : ℕ) → at < length bytes → BeginsId (take at bytes) → (BeginsId (take (at + 1) bytes) → ⊥) → IsUnfitAt bytes at
unfit bytes at below before beyond = record {
  within = omega arith;
  before = before;
  there = λ _. beyond;
  no_id = λ id. beyond (begins-front bytes (at + 1) id);
}

-- a bracket and such bytes begin an identifier
begins_open : (inside : List ℕ) → All IsIdByte inside → BeginsId (60 ∷ inside)
begins_open inside all = record {
  rest = 97 ∷ 62 ∷ [];
  id = record {
    inside = inside ++ 97 ∷ [];
    some = omega (arith, length-append inside (97 ∷ []));
    bytes = All-push IsIdByte inside 97 all letter;
    whole = ap (λ bytes. 60 ∷ bytes) (sym (append_assoc inside (97 ∷ []) (62 ∷ [])));
  };
}

-- another byte in an identifier is its end
other_place : (front rest mid : List ℕ) (at : ℕ) → front ++ rest ≡ mid ++ 62 ∷ [] → All IsIdByte mid → at < length front →
    (IsIdByte (get_or front at 0) → ⊥) → (at ≡ length mid) × (get_or front at 0 ≡ 62)
other_place [] rest mid at same all below other = absurd (omega arith)
other_place (byte ∷ front) rest [] zero same all below other = (refl, cc same)
other_place (byte ∷ front) rest [] (suc at) same all below other =
    let ends : front ++ rest ≡ [] = cc same in
    absurd (omega (arith, below, ap length ends, length-append front rest))
other_place (byte ∷ front) rest (first ∷ mid) zero same all below other =
    let head : byte ≡ first = cc same in
    absurd (other (subst IsIdByte (sym head) (All-head IsIdByte first mid all)))
other_place (byte ∷ front) rest (first ∷ mid) (suc at) same all below other =
    let later : front ++ rest ≡ mid ++ 62 ∷ [] = cc same in
    let there = other_place front rest mid at later (All-tail IsIdByte first mid all) (omega arith) other in
    (omega (arith, there.0), there.1)

-- an identifier's bytes behind its bracket
module _ (front : List ℕ) (begins : BeginsId (60 ∷ front)) where
  pub behind_bracket : front ++ begins.rest ≡ begins.id.inside ++ 62 ∷ []
  behind_bracket = cc (begins.id.whole)

  -- the place of another byte
  pub other_at : (at : ℕ) → at < length front → (IsIdByte (get_or front at 0) → ⊥) → (at ≡ length begins.id.inside) × (get_or front at 0 ≡ 62)
  other_at at below other = other_place front begins.rest begins.id.inside at behind_bracket begins.id.bytes below other

  pub fits_in : length front ≤ length begins.id.inside + 1
  fits_in = omega (arith, ap length behind_bracket, length-append front begins.rest, length-append begins.id.inside (62 ∷ []))

first_of : (bytes : List ℕ) → BeginsId (take (0 + 1) bytes) → 0 < length bytes → get_or bytes 0 0 ≡ 60
first_of [] begins some = absurd (omega arith)
first_of (byte ∷ bytes) begins some = cc (begins.id.whole)

-- what doesn't begin with the bracket
pub unfit_first : (bytes : List ℕ) → (0 < length bytes → get_or bytes 0 0 ≡ 60 → ⊥) → IsUnfitAt bytes 0
unfit_first bytes other = record {
  within = omega arith;
  before = begins-front (60 ∷ 97 ∷ 62 ∷ []) 0 (record {
    inside = 97 ∷ [];
    some = omega arith;
    bytes =
        All-cons IsIdByte 97 [] letter (All-nil IsIdByte);
    whole = refl;
  });
  there = λ some begins. other some (first_of bytes begins some);
  no_id = λ id. other (omega (arith, ap length id.whole)) (ap (λ all. get_or all 0 0) id.whole);
}

tail_of : (inside mid : List ℕ) → 60 ∷ inside ≡ 60 ∷ mid ++ 62 ∷ [] → inside ≡ mid ++ 62 ∷ []
tail_of inside mid same = cc same

-- the closing bracket may not stand between the brackets
closing_in : (mid : List ℕ) → All IsIdByte (mid ++ 62 ∷ []) → ⊥
closing_in mid all =
    let last = All-get_or IsIdByte (mid ++ 62 ∷ []) (length mid + 0) 0 (omega (arith, length-append mid (62 ∷ []))) all in
    (subst IsIdByte (get_or-append-add mid (62 ∷ []) 0 0) last).right refl

-- bytes that end too early
pub unfit_end : (inside : List ℕ) → All IsIdByte inside → IsUnfitAt (60 ∷ inside) (length inside + 1)
unfit_end inside all = record {
  within = omega arith;
  before = subst BeginsId (sym (take_all (length inside + 1) (60 ∷ inside) (omega arith))) (begins_open inside all);
  there = λ below. absurd (omega arith);
  no_id = λ id. closing_in id.inside (subst (All IsIdByte) (tail_of inside id.inside id.whole) all);
}

-- the bytes up to one more, as the code writes the place
unfit-suc : (inside : List ℕ) (at n : ℕ) → n ≡ suc at → at < length inside → BeginsId (60 ∷ take at inside) →
    (BeginsId (60 ∷ take (suc at) inside) → ⊥) → IsUnfitAt (60 ∷ inside) n
unfit-suc inside at n is below before beyond =
    let more : suc (suc at) ≡ suc at + 1 = omega arith in
    subst (IsUnfitAt (60 ∷ inside)) (sym is) (unfit (60 ∷ inside) (suc at) (omega arith) before
    (λ begins. beyond (subst (λ k. BeginsId (take k (60 ∷ inside))) (sym more) begins)))

-- the first byte that may not stand between the brackets
module _ (inside : List ℕ) (at : ℕ) (first : IsFirstOther inside at) where
  other_here : (n : ℕ) → at < n → IsIdByte (get_or (take n inside) at 0) → ⊥
  other_here n below is = first.other (subst IsIdByte (get_or-take n inside at 0 below) is)

  long : (n : ℕ) → n ≤ length inside → length (take n inside) ≡ n
  long n below = omega (arith, length-take n inside)

  -- it comes at once
  pub unfit_none : at ≡ 0 → IsUnfitAt (60 ∷ inside) 1
  unfit_none zero_is = unfit-suc inside at 1 (omega arith) first.there (begins_open (take at inside) first.before)
      (λ begins.
      let there = other_at (take (suc at) inside) begins at (omega (arith, long (suc at) (omega (arith, first.there)))) (other_here (suc at) (omega arith)) in
      omega (arith, there.0, zero_is, begins.id.some))

  -- it isn't the bracket
  pub unfit_other : (get_or inside at 0 ≡ 62 → ⊥) → IsUnfitAt (60 ∷ inside) (at + 1)
  unfit_other differs = unfit-suc inside at (at + 1) (omega arith) first.there (begins_open (take at inside) first.before)
      (λ begins.
      let there = other_at (take (suc at) inside) begins at (omega (arith, long (suc at) (omega (arith, first.there)))) (other_here (suc at) (omega arith)) in
      differs (sym (get_or-take (suc at) inside at 0 (omega arith)) ∙ there.1))

  -- it is the bracket
  module _ (some : 0 < at) (closes : get_or inside at 0 ≡ 62) where
    closed : take (suc at) inside ≡ take at inside ++ 62 ∷ []
    closed = take-suc inside at 0 first.there ∙ ap (λ byte. take at inside ++ byte ∷ []) closes

    whole_id : IsId (60 ∷ take (suc at) inside)
    whole_id = record {
      inside = take at inside;
      some = omega (arith, long at (omega (arith, first.there)), some);
      bytes =
          first.before;
      whole = ap (λ bytes. 60 ∷ bytes) closed;
    }

    -- with bytes behind it
    pub unfit_more : at + 1 < length inside → IsUnfitAt (60 ∷ inside) (at + 2)
    unfit_more below = unfit-suc inside (suc at) (at + 2) (omega arith) (omega (arith, below))
        (record { rest = []; id = subst IsId (sym (append-nil (60 ∷ take (suc at) inside))) whole_id })
        (λ begins.
        let size = long (suc (suc at)) (omega (arith, below)) in
        let there = other_at (take (suc (suc at)) inside) begins at (omega (arith, size)) (other_here (suc (suc at)) (omega arith)) in
        omega (arith, there.0, size, fits_in (take (suc (suc at)) inside) begins))

    -- with none
    pub fit : length inside ≤ at + 1 → IsId (60 ∷ inside)
    fit ends = subst (λ bytes. IsId (60 ∷ bytes)) (take_all (suc at) inside (omega (arith, ends))) whole_id
