-- A text in quotes, as it stands once or by its count.
use Rattle.std.proofs.Common.{◌≡◌, ℕ, zero, suc, ◌<◌, ◌≤◌, ◌+◌, ◌^◌, ◌⊎◌, slice_index, nat_le, true, false, cond, List, [], ◌∷◌, ◌++◌, Option, Some, None, is_some, unwrap_or, length, replicate, decimal, refl, sym, ap, ◌∙◌, append_assoc, append-nil, inl, inr, All, true≢false, arith}
use Rattle.std.proofs.lemmas.Bool.{and_parts}
use Rattle.cases.specs.Reading.{IsText, behind, ended, in_quotes, repeated}
use Rattle.cases.specs.Written.{counted, is_long_run, quoted}
use Rattle.cases.proofs.ReadAgain.{ended_not, run_is}

pub record Counted (text whole : List ℕ) (left : Option (List ℕ)) : Type 0 where
  pub byte : ℕ
  pub count : ℕ
  pub small : All (λ byte. byte < 256) (byte ∷ [])
  pub few : count < 2 ^ 63
  pub is : text ≡ quoted (byte ∷ []) ++ 42 ∷ (decimal count ++ ended left)
  pub run : repeated count (byte ∷ []) ≡ whole

-- a text of one byte, so often
pub repeated_one : (count byte : ℕ) → repeated count (byte ∷ []) ≡ replicate count byte
repeated_one zero byte = refl
repeated_one (suc count) byte = ap (λ l. byte ∷ l) (repeated_one count byte)

-- and once more
pub repeated_next : (count : ℕ) (text : List ℕ) → repeated (suc count) text ≡ repeated count text ++ text
repeated_next zero text = append-nil text
repeated_next (suc count) text = ap (λ l. text ++ l) (repeated_next count text) ∙ sym (append_assoc text (repeated count text) text)

pub repeated_more : (count : ℕ) (text : List ℕ) → repeated count text ++ text ≡ repeated (count + 1) text
repeated_more count text =
    let more : suc count ≡ count + 1 = omega arith in
    sym (repeated_next count text) ∙ ap (λ n. repeated n text) more

-- a text of one byte, by its length
pub one_run : (count : ℕ) (once : List ℕ) → 1 ≤ length once → length once < 2 → replicate count (slice_index once 0) ≡ repeated count once
one_run count [] least most = absurd (omega (arith, least))
one_run count (byte ∷ []) least most = sym (repeated_one count byte)
one_run count (byte ∷ next ∷ more) least most = absurd (omega (arith, most))

run_parts : (whole : List ℕ) (left : Option (List ℕ)) (text : List ℕ) → IsText whole → is_long_run whole ≡ true → text ≡ counted whole ++ ended left →
    Counted text whole left
run_parts [] left text t long is = absurd (true≢false (sym long))
run_parts (first ∷ rest) left text t long is = record {
  byte = first;
  count = length (first ∷ rest);
  small = λ k d within. one first (t.bytes 0 0 (omega arith)) k d within;
  few = t.size;
  is = is ∙ append_assoc (quoted (first ∷ [])) (42 ∷ decimal (length (first ∷ rest))) (ended left);
  run = repeated_one (length (first ∷ rest)) first
      ∙ ap (λ l. first ∷ l) (run_is first rest (and_parts (nat_le 99 (length rest)) _ long).1);
}
  where
    one : (b : ℕ) → b < 256 → All (λ byte. byte < 256) (b ∷ [])
    one b h zero d within = h
    one b h (suc k) d within = absurd (omega (arith, within))

pub parts : (whole : List ℕ) (left : Option (List ℕ)) (text : List ℕ) → IsText whole → text ≡ in_quotes whole ++ ended left →
    (text ≡ quoted whole ++ ended left) ⊎ Counted text whole left
parts whole left text t =
    elim (is_long_run whole) as (λ b. is_long_run whole ≡ b → text ≡ cond b (counted whole) (quoted whole) ++ ended left →
    (text ≡ quoted whole ++ ended left) ⊎ Counted text whole left) [
      | true ↦ λ e is. inr (run_parts whole left text t e is)
      | false ↦ λ e is. inl is
    ] refl

-- what stands behind the mark of a count
pub count_is : (rest counted more : List ℕ) → Some counted ≡ behind 42 rest → rest ≡ 42 ∷ more → counted ≡ more
count_is rest counted more told is = ap (λ o. unwrap_or o []) (told ∙ ap (behind 42) is)

pub no_count : (rest counted : List ℕ) (left : Option (List ℕ)) → Some counted ≡ behind 42 rest → rest ≡ ended left → ⊥
no_count rest counted left told is = true≢false (ap is_some (told ∙ ap (behind 42) is ∙ ended_not 42 left refl))

pub some_count : (rest more : List ℕ) → None ≡ behind 42 rest → rest ≡ 42 ∷ more → ⊥
some_count rest more told is = true≢false (sym (ap is_some (told ∙ ap (behind 42) is)))
