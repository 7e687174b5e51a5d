-- A text's parts without the last one, with another number in the header at their end.
use Rattle.std.proofs.Common.{◌≡◌, ◌≢◌, inl, inr, ℕ, MatchOption, Result, Ok, Err, IfOk, Bool, true, false, not, Bor, Option, Some, None}
use Rattle.std.proofs.Common.{List, [], ◌∷◌, ◌++◌, length, decimal, refl, ap, sym, ◌∙◌, append_assoc, arith}
use Rattle.std.specs.Bool.{Decides}
use Rattle.std.proofs.Math.Dec.{eqb}
use Rattle.std.proofs.lemmas.Bool.Decides.{Decides-eqb}
use Rattle.std.proofs.lemmas.Slice.Eq.{slice_eq-Decides}
use Rattle.std.specs.Cmp.Lexicographic.{pointwise}
use Rattle.std.proofs.lemmas.List.{length-append}
use Rattle.mail_base.specs.Frames.{header}
use Rattle.imap_model.specs.CommandParts.{crlf}
use Rattle.mail_base.proofs.SameFront.{length_same}
use Rattle.command_texts.specs.Renumbered.{HasNone, IsDigit, Announcing, as_it_is, announced, IsRenumbered, digit_part}

-- a part without either header has none
pub none_of : (part : List ℕ) → ((front : List ℕ) → part ≢ front ++ (123 ∷ 48 ∷ 125 ∷ 13 ∷ 10 ∷ [])) →
    ((front : List ℕ) → part ≢ front ++ (123 ∷ 49 ∷ 125 ∷ 13 ∷ 10 ∷ [])) → HasNone part
none_of part no_zero no_one begun digit (inl is) same = no_zero begun (same ∙ ap (digit_part begun) is)
none_of part no_zero no_one begun digit (inr is) same = no_one begun (same ∙ ap (digit_part begun) is)

five : (xs ys s t : List ℕ) → length s ≡ 5 → length t ≡ 5 → xs ++ s ≡ ys ++ t → length xs ≡ length ys
five xs ys s t long long' same = omega (arith, sym (length-append xs s) ∙ ap length same ∙ length-append ys t, long, long')

begun_alike : (xs ys : List ℕ) (a b : ℕ) → digit_part xs a ≡ digit_part ys b → xs ≡ ys
begun_alike xs ys a b same = (length_same xs ys (123 ∷ a ∷ 125 ∷ 13 ∷ 10 ∷ []) (123 ∷ b ∷ 125 ∷ 13 ∷ 10 ∷ []) (five xs ys _ _ refl refl same) same).0

-- a part is written in one way
one_way : (n : ℕ) (part v w : List ℕ) → Announcing n part v → Announcing n part w → v ≡ w
one_way n part v w (as_it_is none is) (as_it_is none' is') = is ∙ sym is'
one_way n part v w (as_it_is none is) (announced begun digit d ends writes) = absurd (none begun digit d ends)
one_way n part v w (announced begun digit d ends writes) (as_it_is none is) = absurd (none begun digit d ends)
one_way n part v w (announced begun digit d ends writes) (announced begun' digit' d' ends' writes') =
    let same : begun ≡ begun' = begun_alike begun begun' digit digit' (sym ends ∙ ends') in
    writes ∙ ap (λ b. b ++ (header (decimal n) ++ crlf)) same ∙ sym writes'

snoc_same : (xs ys : List (List ℕ)) (x y : List ℕ) → xs ++ x ∷ [] ≡ ys ++ y ∷ [] → (xs ≡ ys) × (x ≡ y)
snoc_same [] [] x y same = (refl, cc)
snoc_same [] (b ∷ []) x y same = absurd cc
snoc_same [] (b ∷ c ∷ ys) x y same = absurd cc
snoc_same (a ∷ []) [] x y same = absurd cc
snoc_same (a ∷ c ∷ xs) [] x y same = absurd cc
snoc_same (a ∷ xs) (b ∷ ys) x y same =
    let first : a ≡ b = cc in
    let rest : xs ++ x ∷ [] ≡ ys ++ y ∷ [] = cc in
    let both = snoc_same xs ys x y rest in
    let tails : xs ≡ ys = both.0 in
    (cc, both.1)

-- the parts are cut from their ends
module _ (n : ℕ) (text parts front whole before : List (List ℕ)) (part final last written : List ℕ)
    (cut : text ≡ front ++ final ∷ []) (cut_front : front ≡ whole ++ part ∷ []) (cut_parts : parts ≡ before ++ last ∷ [])
    (writes : Announcing n part written) where
  pub found : last ≡ written → before ≡ whole → IsRenumbered n text parts
  found same same' = record {
    before = whole;
    part = part;
    final = final;
    written = written;
    whole = cut ∙ ap (λ f. f ++ final ∷ []) cut_front ∙ append_assoc whole (part ∷ []) (final ∷ []);
    front = cut_parts ∙ ap (λ b. b ++ last ∷ []) same' ∙ ap (λ l. whole ++ l ∷ []) same;
    announcing = writes;
  }

  pub needed : IsRenumbered n text parts → (last ≡ written) × (before ≡ whole)
  needed is =
      let outer = snoc_same front (is.before ++ is.part ∷ []) final is.final
      (sym cut ∙ is.whole ∙ sym (append_assoc is.before (is.part ∷ []) (is.final ∷ []))) in
      let inner = snoc_same whole is.before part is.part (sym cut_front ∙ outer.0) in
      let ends = snoc_same before is.before last is.written (sym cut_parts ∙ is.front) in
      let announcing : Announcing n part is.written = rw inner.1 is.announcing in
      (ends.1 ∙ sym (one_way n part written is.written writes announcing), ends.0 ∙ sym inner.0)

-- a part without the header of 0 may end with that of 1
pub second_header : (part : List ℕ) (found : Option (Bor (List ℕ))) → ((front : List ℕ) → part ≢ front ++ (123 ∷ 48 ∷ 125 ∷ 13 ∷ 10 ∷ []))
    → MatchOption found ((front : List ℕ) → part ≢ front ++ (123 ∷ 49 ∷ 125 ∷ 13 ∷ 10 ∷ [])) (λ begun. part ≡ begun.now ++ (123 ∷ 49 ∷ 125 ∷ 13 ∷ 10 ∷ []))
    → MatchOption found (HasNone part) (λ begun. (digit : ℕ) × IsDigit digit × (part ≡ digit_part begun.now digit))
second_header part None no_zero no_one = none_of part no_zero no_one
second_header part (Some begun) no_zero is = (49, inr refl, is)

pub ok_also : {T E : Type 0} (r : Result T E) (P Q : T → Type 0) → ((t : T) → P t → Q t) → IfOk r P → IfOk r Q
ok_also (Ok t) P Q also is = also t is
ok_also (Err e) P Q also is = tt

compared_from : (xs ys : List ℕ) (differ b : Bool) → Decides b (xs ≡ ys) → differ ≡ not b → (differ ≡ false → xs ≡ ys) × (differ ≡ true → xs ≡ ys → ⊥)
compared_from xs ys differ true d is = (λ e. d.0 refl, λ e same. cc)
compared_from xs ys differ false d is = (λ e. absurd cc, λ e same. let t = d.1 same in cc)

-- what a comparison of two texts says
pub compared : (xs ys : List ℕ) (differ : Bool) → differ ≡ not (pointwise eqb xs ys) → (differ ≡ false → xs ≡ ys) × (differ ≡ true → xs ≡ ys → ⊥)
compared xs ys differ is = compared_from xs ys differ (pointwise eqb xs ys) (slice_eq-Decides Decides-eqb xs ys (pointwise eqb xs ys) refl) is
