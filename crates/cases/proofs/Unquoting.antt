-- A byte between quotes is read as the byte.
use Rattle.std.proofs.Common.{◌≡◌, ℕ, zero, suc, ◌/◌, ◌%◌, ◌<◌, ◌==◌, ◌&&◌, nat_le, true, false, cond, List, [], ◌∷◌, ◌++◌, Some, None, codes, slice_index, refl, sym, ap, ap₂, ◌∙◌, arith}
use Rattle.std.proofs.lemmas.Bool.{eqb-true}
use Rattle.cases.specs.Written.{digit_value, hex_byte, quoted_byte}
use Rattle.cases.specs.Reading.{of_digits, unescaped, unhexed, unquoted}

-- a digit is read as its value
digit_back : (h : ℕ) → h < 16 → digit_value (slice_index (codes "0123456789abcdef") h) ≡ Some h
digit_back zero _ = refl
digit_back (suc zero) _ = refl
digit_back (suc (suc zero)) _ = refl
digit_back (suc (suc (suc zero))) _ = refl
digit_back (suc (suc (suc (suc zero)))) _ = refl
digit_back (suc (suc (suc (suc (suc zero))))) _ = refl
digit_back (suc (suc (suc (suc (suc (suc zero)))))) _ = refl
digit_back (suc (suc (suc (suc (suc (suc (suc zero))))))) _ = refl
digit_back (suc (suc (suc (suc (suc (suc (suc (suc zero)))))))) _ = refl
digit_back (suc (suc (suc (suc (suc (suc (suc (suc (suc zero))))))))) _ = refl
digit_back (suc (suc (suc (suc (suc (suc (suc (suc (suc (suc zero)))))))))) _ = refl
digit_back (suc (suc (suc (suc (suc (suc (suc (suc (suc (suc (suc zero))))))))))) _ = refl
digit_back (suc (suc (suc (suc (suc (suc (suc (suc (suc (suc (suc (suc zero)))))))))))) _ = refl
digit_back (suc (suc (suc (suc (suc (suc (suc (suc (suc (suc (suc (suc (suc zero))))))))))))) _ = refl
digit_back (suc (suc (suc (suc (suc (suc (suc (suc (suc (suc (suc (suc (suc (suc zero)))))))))))))) _ = refl
digit_back (suc (suc (suc (suc (suc (suc (suc (suc (suc (suc (suc (suc (suc (suc (suc zero))))))))))))))) _ = refl
digit_back (suc (suc (suc (suc (suc (suc (suc (suc (suc (suc (suc (suc (suc (suc (suc (suc n)))))))))))))))) within = absurd (omega arith)

hex_back : (b : ℕ) (tail : List ℕ) → b < 256 → unhexed (hex_byte b ++ tail) ≡ Some (b, tail)
hex_back b tail within =
    ap₂ (λ high low. of_digits high low tail) (digit_back (b / 16) (omega arith)) (digit_back (b % 16) (omega arith))
    ∙ ap (λ n. Some (n, tail)) (omega arith)

-- the forms of a byte that is none of the four with a letter of their own, then of one that may be a line feed, and so on
abbrev other : ℕ → List ℕ
other b = cond (nat_le 32 b && nat_le b 126) (b ∷ []) (codes "\\x" ++ hex_byte b)

abbrev lf_or_other : ℕ → List ℕ
lf_or_other b = cond (b == 10) (codes "\\n") (other b)

abbrev cr_or_other : ℕ → List ℕ
cr_or_other b = cond (b == 13) (codes "\\r") (lf_or_other b)

other_back : (b : ℕ) (tail : List ℕ) → b < 256 → (b == 34) ≡ false → (b == 92) ≡ false → unquoted (other b ++ tail) ≡ Some (b, tail)
other_back b tail within quote slash =
    elim (nat_le 32 b && nat_le b 126) as (λ t. (nat_le 32 b && nat_le b 126) ≡ t →
    unquoted (cond t (b ∷ []) (codes "\\x" ++ hex_byte b) ++ tail) ≡ Some (b, tail)) [
      | true ↦ λ e.
          ap (λ t. cond t None (cond (b == 92) (unescaped tail) (cond (nat_le 32 b && nat_le b 126) (Some (b, tail)) None))) quote
          ∙ ap (λ t. cond t (unescaped tail) (cond (nat_le 32 b && nat_le b 126) (Some (b, tail)) None)) slash
          ∙ ap (λ t. cond t (Some (b, tail)) None) e
      | false ↦ λ e. hex_back b tail within
    ] refl

lf_back : (b : ℕ) (tail : List ℕ) → b < 256 → (b == 34) ≡ false → (b == 92) ≡ false → unquoted (lf_or_other b ++ tail) ≡ Some (b, tail)
lf_back b tail within quote slash =
    elim (b == 10) as (λ t. (b == 10) ≡ t → unquoted (cond t (codes "\\n") (other b) ++ tail) ≡ Some (b, tail)) [
      | true ↦ λ e. ap (λ n. Some (n, tail)) (sym (eqb-true b 10 e))
      | false ↦ λ e. other_back b tail within quote slash
    ] refl

cr_back : (b : ℕ) (tail : List ℕ) → b < 256 → (b == 34) ≡ false → (b == 92) ≡ false → unquoted (cr_or_other b ++ tail) ≡ Some (b, tail)
cr_back b tail within quote slash =
    elim (b == 13) as (λ t. (b == 13) ≡ t → unquoted (cond t (codes "\\r") (lf_or_other b) ++ tail) ≡ Some (b, tail)) [
      | true ↦ λ e. ap (λ n. Some (n, tail)) (sym (eqb-true b 13 e))
      | false ↦ λ e. lf_back b tail within quote slash
    ] refl

slash_back : (b : ℕ) (tail : List ℕ) → b < 256 → (b == 34) ≡ false → unquoted (cond (b == 92) (codes "\\\\") (cr_or_other b) ++ tail) ≡ Some (b, tail)
slash_back b tail within quote =
    elim (b == 92) as (λ t. (b == 92) ≡ t → unquoted (cond t (codes "\\\\") (cr_or_other b) ++ tail) ≡ Some (b, tail)) [
      | true ↦ λ e. ap (λ n. Some (n, tail)) (sym (eqb-true b 92 e))
      | false ↦ λ e. cr_back b tail within quote e
    ] refl

pub byte_back : (b : ℕ) (tail : List ℕ) → b < 256 → unquoted (quoted_byte b ++ tail) ≡ Some (b, tail)
byte_back b tail within =
    elim (b == 34) as (λ t. (b == 34) ≡ t → unquoted (cond t (codes "\\\"") (cond (b == 92) (codes "\\\\") (cr_or_other b)) ++ tail) ≡ Some (b, tail)) [
      | true ↦ λ e. ap (λ n. Some (n, tail)) (sym (eqb-true b 34 e))
      | false ↦ λ e. slash_back b tail within e
    ] refl
