-- The pieces of a text, from its first.
use Rattle.std.proofs.Common.{◌≡◌, ℕ, suc, ◌+◌, ◌-◌, ◌≤◌, ◌<◌, Bool, true, false, cond, not, List, [], ◌∷◌, length, take, drop, Some}
use Rattle.std.proofs.Common.{None, unwrap_or, nat_lt, refl, sym, ap, ◌∙◌, arith}
use Rattle.std.proofs.lemmas.Bool.{ltb-false}
use Rattle.std.proofs.lemmas.List.{take_all}
use Rattle.std.proofs.lemmas.List.Sums.{prefix_len-le-length}
use Rattle.std.specs.List.{onto_first, position, position_or_len}
use Rattle.flag_set.specs.FlagList.{begins_with_space, is_space, pieces}

-- the place of the first byte that passes, or the end
pub place_or_len : (p : ℕ → Bool) (xs : List ℕ) → unwrap_or (position p xs) (length xs) ≡ position_or_len p xs
place_or_len p xs =
    let within = prefix_len-le-length (λ x. not (p x)) xs in
    elim (nat_lt (position_or_len p xs) (length xs)) as (λ b. nat_lt (position_or_len p xs) (length xs) ≡ b →
    unwrap_or (cond b (Some (position_or_len p xs)) None) (length xs) ≡ position_or_len p xs) [
      | true ↦ λ e. refl
      | false ↦ λ e. let above = ltb-false _ _ e in omega arith
    ] refl

one_more : (n : ℕ) → 1 + n ≡ suc n
one_more n = omega arith

-- what stands behind a run of spaces
abbrev pub behind : List ℕ → List ℕ
behind text = drop (position_or_len (λ byte. not (is_space byte)) text) text

behind_space : (b : ℕ) (rest : List ℕ) → is_space b ≡ true → behind (b ∷ rest) ≡ behind rest
behind_space b rest h =
    ap (λ t. drop (cond (not (not t)) (1 + position_or_len (λ byte. not (is_space byte)) rest) 0) (b ∷ rest)) h
    ∙ ap (λ n. drop n (b ∷ rest)) (one_more (position_or_len (λ byte. not (is_space byte)) rest))

behind_other : (b : ℕ) (rest : List ℕ) → is_space b ≡ false → behind (b ∷ rest) ≡ b ∷ rest
behind_other b rest h = ap (λ t. drop (cond (not (not t)) (1 + position_or_len (λ byte. not (is_space byte)) rest) 0) (b ∷ rest)) h

pieces_other : (b : ℕ) (rest : List ℕ) → is_space b ≡ false → pieces (b ∷ rest) ≡ onto_first b (pieces rest)
pieces_other b rest h = ap (λ t. cond t (cond (begins_with_space rest) (pieces rest) ([] ∷ pieces rest)) (onto_first b (pieces rest))) h

pieces_spaces : (rest : List ℕ) → cond (begins_with_space rest) (pieces rest) ([] ∷ pieces rest) ≡ [] ∷ pieces (behind rest)
pieces_spaces [] = refl
pieces_spaces (b ∷ rest) =
    elim (is_space b) as (λ t. is_space b ≡ t → cond t (cond t (cond (begins_with_space rest) (pieces rest) ([] ∷ pieces rest))
    (onto_first b (pieces rest))) ([] ∷ cond t (cond (begins_with_space rest) (pieces rest) ([] ∷ pieces rest))
    (onto_first b (pieces rest))) ≡ [] ∷ pieces (behind (b ∷ rest))) [
      | true ↦ λ e. pieces_spaces rest ∙ ap (λ l. [] ∷ pieces l) (sym (behind_space b rest e))
      | false ↦ λ e. ap (λ l. [] ∷ l) (sym (pieces_other b rest e)) ∙ ap (λ l. [] ∷ pieces l) (sym (behind_other b rest e))
    ] refl

-- the pieces behind the first, by what stands there
abbrev pub pieces_behind : List ℕ → List (List ℕ)
pieces_behind [] = []
pieces_behind (b ∷ rest) = pieces (behind rest)

pub pieces_first : (text : List ℕ) → pieces text ≡ take (position_or_len is_space text) text ∷ pieces_behind (drop (position_or_len is_space text) text)
pieces_first [] = refl
pieces_first (b ∷ rest) =
    let n = position_or_len is_space rest in
    elim (is_space b) as (λ t. cond t (cond (begins_with_space rest) (pieces rest) ([] ∷ pieces rest)) (onto_first b (pieces rest))
    ≡ take (cond (not t) (1 + n) 0) (b ∷ rest) ∷ pieces_behind (drop (cond (not t) (1 + n) 0) (b ∷ rest))) [
      | true ↦ pieces_spaces rest
      | false ↦ ap (onto_first b) (pieces_first rest) ∙ ap (λ m. take m (b ∷ rest) ∷ pieces_behind (drop m (b ∷ rest))) (sym (one_more n))
    ]

pub behind_none : (rest : List ℕ) → length rest < 1 → pieces_behind rest ≡ []
behind_none [] h = refl
behind_none (b ∷ rest) h = absurd (omega arith)

pub behind_some : (rest : List ℕ) → 1 ≤ length rest → pieces_behind rest ≡ pieces (behind (drop 1 rest))
behind_some [] h = absurd (omega arith)
behind_some (b ∷ rest) h = refl

pub parts : (text front back : List ℕ) (n : ℕ) → n ≡ position_or_len is_space text → front ≡ take n text → back ≡ drop n text →
    pieces text ≡ front ∷ pieces_behind back
parts text front back n e f b =
    pieces_first text
    ∙ ap (λ m. take m text ∷ pieces_behind (drop m text)) (sym e)
    ∙ ap (λ l. l ∷ pieces_behind (drop n text)) (sym f)
    ∙ ap (λ l. front ∷ pieces_behind l) (sym b)

pub tail_is : (rest : List ℕ) → 1 ≤ length rest → take (length rest - 1) (drop 1 rest) ≡ drop 1 rest
tail_is [] h = absurd (omega arith)
tail_is (b ∷ rest) h = take_all (length (b ∷ rest) - 1) rest (omega arith)
