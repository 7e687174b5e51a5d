-- Fresh bytes behind a gate, and the gate, on the bytes of one file.
use Rattle.std.proofs.Common.{◌≡◌, ◌⊎◌, inl, inr, ℕ, ◌+◌, ◌-◌, ◌≤◌, List, [], ◌∷◌, ◌++◌, length, get_or, take, drop, replicate, refl, sym}
use Rattle.std.proofs.Common.{◌∙◌, ap, arith, append_assoc, length-append, take-append-drop}
use Rattle.std.proofs.lemmas.List.{append-nil, take_at, drop_at, drop_more}
use Rattle.std.proofs.lemmas.Bool.{cases_eq}
use Rattle.world_traits.specs.Files.{MayHold, clean, touch, put}
use Rattle.world_traits.proofs.Images.{image_front, image_length, image_back}
use Rattle.journal_core.specs.Gates.{IsShut, IsOpened}

module _ (pre : List ℕ) (place : ℕ) (at : place ≡ length pre) where
  -- a file with a gate at the place
  whole : (gate : ℕ) (rest : List ℕ) → List ℕ
  whole gate rest = pre ++ gate ∷ rest

  long : (gate : ℕ) (rest : List ℕ) → length (pre ++ gate ∷ rest) ≡ place + 1 + length rest
  long gate rest = omega (arith, at, length-append pre (gate ∷ rest))

  split : (gate : ℕ) (rest : List ℕ) → pre ++ gate ∷ rest ≡ (pre ++ gate ∷ []) ++ rest
  split gate rest = sym (append_assoc pre (gate ∷ []) rest)

  front_long : (gate : ℕ) → length (pre ++ gate ∷ []) ≡ place + 1
  front_long gate = omega (arith, at, length-append pre (gate ∷ []))

  pub to_gate : (gate : ℕ) (rest : List ℕ) → take (place + 1) (pre ++ gate ∷ rest) ≡ pre ++ gate ∷ []
  to_gate gate rest = ap (take (place + 1)) (split gate rest) ∙ take_at (pre ++ gate ∷ []) rest (place + 1) (front_long gate)

  behind_gate : (gate : ℕ) (rest : List ℕ) → drop (place + 1) (pre ++ gate ∷ rest) ≡ rest
  behind_gate gate rest = ap (drop (place + 1)) (split gate rest) ∙ drop_at (pre ++ gate ∷ []) rest (place + 1) (front_long gate)

  -- while bytes are written behind it, the gate stands in each image
  pub behind_image : (size gate : ℕ) (rest bytes : List ℕ) → MayHold (touch (place + 1) size (clean (pre ++ gate ∷ rest))) bytes →
      bytes ≡ pre ++ gate ∷ drop (place + 1) bytes
  behind_image size gate rest bytes h =
      let le : place + 1 ≤ length (pre ++ gate ∷ rest) = omega (arith, long gate rest) in
      let front : take (place + 1) bytes ≡ pre ++ gate ∷ [] = image_front (place + 1) _ bytes h (omega arith, tt) le ∙ to_gate gate rest in
      sym (take-append-drop (place + 1) bytes) ∙ ap (λ (l : List ℕ). l ++ drop (place + 1) bytes) front ∙ append_assoc pre (gate ∷ []) (drop (place + 1) bytes)

  pub no_gap : (n : ℕ) (bytes : List ℕ) → n ≤ length bytes → replicate {A = ℕ} (n - length bytes) 0 ≡ []
  no_gap n bytes le = let e : n - length bytes ≡ 0 = omega arith in ap (λ (k : ℕ). replicate {A = ℕ} k 0) e

  pub put_behind : (gate : ℕ) (rest fresh : List ℕ) → put (place + 1) fresh (pre ++ gate ∷ rest)
      ≡ pre ++ gate ∷ (fresh ++ drop (place + 1 + length fresh) (pre ++ gate ∷ rest))
  put_behind gate rest fresh =
      let tail = drop (place + 1 + length fresh) (pre ++ gate ∷ rest) in
      ap (λ (l : List ℕ). l ++ replicate (place + 1 - length (pre ++ gate ∷ rest)) 0 ++ fresh ++ tail) (to_gate gate rest)
      ∙ ap (λ (l : List ℕ). (pre ++ gate ∷ []) ++ l ++ fresh ++ tail) (no_gap (place + 1) (pre ++ gate ∷ rest) (omega (arith, long gate rest)))
      ∙ ap (λ (l : List ℕ). l ++ fresh ++ tail) (append-nil (pre ++ gate ∷ []))
      ∙ append_assoc (pre ++ gate ∷ []) fresh tail
      ∙ append_assoc pre (gate ∷ []) (fresh ++ tail)

  -- while the gate is written, all else stands in each image
  pub gate_image : (gate : ℕ) (rest bytes : List ℕ) → MayHold (touch place 1 (clean (pre ++ gate ∷ rest))) bytes → bytes ≡ pre ++ get_or bytes place 0 ∷ rest
  gate_image gate rest bytes h =
      let len = long gate rest in
      let le : place + 1 ≤ length (pre ++ gate ∷ rest) = omega arith in
      let same : length bytes ≡ length (pre ++ gate ∷ rest) = image_length place 1 _ bytes h le in
      let front : take place bytes ≡ pre = image_front place _ bytes h (omega arith, tt) (omega arith) ∙ take_at pre (gate ∷ rest) place (sym at) in
      let back : drop (place + 1) bytes ≡ rest = image_back place 1 _ bytes h le ∙ behind_gate gate rest in
      let there : drop place bytes ≡ get_or bytes place 0 ∷ rest = drop_more bytes place 0 (omega arith) ∙ ap (λ (l : List ℕ). get_or bytes place 0 ∷ l) back in
      sym (take-append-drop place bytes) ∙ ap (λ (l : List ℕ). l ++ drop place bytes) front ∙ ap (λ (l : List ℕ). pre ++ l) there

  pub put_gate : (gate new : ℕ) (rest : List ℕ) → put place (new ∷ []) (pre ++ gate ∷ rest) ≡ pre ++ new ∷ rest
  put_gate gate new rest =
      let tail = drop (place + 1) (pre ++ gate ∷ rest) in
      ap (λ (l : List ℕ). l ++ replicate (place - length (pre ++ gate ∷ rest)) 0 ++ new ∷ [] ++ tail) (take_at pre (gate ∷ rest) place (sym at))
      ∙ ap (λ (l : List ℕ). pre ++ l ++ new ∷ [] ++ tail) (no_gap place (pre ++ gate ∷ rest) (omega (arith, long gate rest)))
      ∙ ap (λ (l : List ℕ). l ++ new ∷ [] ++ tail) (append-nil pre)
      ∙ append_assoc pre (new ∷ []) tail
      ∙ ap (λ (l : List ℕ). pre ++ new ∷ l) (behind_gate gate rest)

-- behind any gate the fresh bytes count or they don't
pub either : (front fresh tail : List ℕ) (gate : ℕ) → IsShut front (front ++ gate ∷ (fresh ++ tail)) ⊎ IsOpened front fresh (front ++ gate ∷ (fresh ++ tail))
either front fresh tail gate = elim (cases_eq gate 1) [
  | inl is ↦ inr (record { rest = tail; is = ap (λ (g : ℕ). front ++ g ∷ (fresh ++ tail)) is })
  | inr shut ↦ inl (record { gate = gate; rest = fresh ++ tail; closed = shut; is = refl })
]
