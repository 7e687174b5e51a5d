-- How a walk finds the first place of a mark.
use Rattle.std.proofs.Common.{◌≡◌, ℕ, suc, ◌+◌, ◌-◌, ◌<◌, Bool, true, false, List, [], ◌∷◌, ◌++◌, sym, ◌∙◌, ap, arith, take, drop}
use Rattle.std.proofs.Common.{length, get_or, append_assoc, length-drop}
use Rattle.std.specs.Prelude.{nat_eq}
use Rattle.std.specs.List.{starts_with}
use Rattle.std.proofs.Math.Seq.{drop-cons}
use Rattle.std.proofs.lemmas.Bool.{cond-true, cond-false}
use Rattle.std.proofs.lemmas.List.{take_all, take_more, append-nil}
use Rattle.append_probe.specs.Question.{before}

-- what is left, read with a length
tested : (mark bytes : List ℕ) (at : ℕ) (b : Bool) → starts_with nat_eq (take (length bytes - at) (drop at bytes)) mark ≡ b →
    starts_with nat_eq (drop at bytes) mark ≡ b
tested mark bytes at b t =
    ap (λ (l : List ℕ). starts_with nat_eq l mark)
    (sym (take_all (length bytes - at) (drop at bytes) (omega (arith, length-drop at bytes)))) ∙ t

begun : (mark : List ℕ) (left rest : List ℕ) (x : ℕ) → left ≡ x ∷ rest → starts_with nat_eq left mark ≡ true → before mark left ≡ []
begun mark left rest x e t =
    ap (before mark) e ∙ cond-true (starts_with nat_eq (x ∷ rest) mark) [] (x ∷ before mark rest)
    (ap (λ (l : List ℕ). starts_with nat_eq l mark) (sym e) ∙ t)

passed : (mark : List ℕ) (left rest : List ℕ) (x : ℕ) → left ≡ x ∷ rest → starts_with nat_eq left mark ≡ false →
    before mark left ≡ x ∷ before mark rest
passed mark left rest x e f =
    ap (before mark) e ∙ cond-false (starts_with nat_eq (x ∷ rest) mark) [] (x ∷ before mark rest)
    (ap (λ (l : List ℕ). starts_with nat_eq l mark) (sym e) ∙ f)

-- the mark stands here
pub found_here : (mark bytes : List ℕ) (at : ℕ) (r : Bool) → at < length bytes →
    r ≡ starts_with nat_eq (take (length bytes - at) (drop at bytes)) mark →
    r ≡ true → before mark bytes ≡ take at bytes ++ before mark (drop at bytes) → take at bytes ≡ before mark bytes
found_here mark bytes at r l v t i =
    sym (i ∙ ap (λ (k : List ℕ). take at bytes ++ k) (begun mark (drop at bytes) (drop (suc at) bytes)
    (get_or bytes at 0) (drop-cons bytes at 0 l)
    (tested mark bytes at true (sym v ∙ t))) ∙ append-nil (take at bytes))

-- it doesn't
pub passed_here : (mark bytes : List ℕ) (at : ℕ) (r : Bool) → at < length bytes →
    r ≡ starts_with nat_eq (take (length bytes - at) (drop at bytes)) mark →
    r ≡ false → before mark bytes ≡ take at bytes ++ before mark (drop at bytes) →
    before mark bytes ≡ take (at + 1) bytes ++ before mark (drop (at + 1) bytes)
passed_here mark bytes at r l v f i =
    let x : ℕ = get_or bytes at 0 in
    let step : before mark (drop at bytes) ≡ x ∷ before mark (drop (suc at) bytes) =
    passed mark (drop at bytes) (drop (suc at) bytes) x (drop-cons bytes at 0 l) (tested mark bytes at false (sym v ∙ f)) in
    let more : take (at + 1) bytes ≡ take at bytes ++ x ∷ [] = take_more bytes at 0 l in
    let next : suc at ≡ at + 1 = omega arith in
    i ∙ ap (λ (k : List ℕ). take at bytes ++ k) step
    ∙ sym (append_assoc (take at bytes) (x ∷ []) (before mark (drop (suc at) bytes)))
    ∙ ap (λ (k : List ℕ). k ++ before mark (drop (suc at) bytes)) (sym more)
    ∙ ap (λ (n : ℕ). take (at + 1) bytes ++ before mark (drop n bytes)) next
