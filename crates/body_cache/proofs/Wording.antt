-- Which words write a UID.
use Rattle.std.proofs.Common.{◌≡◌, ℕ, List, sym, ◌∙◌, arith}
use Rattle.std.specs.Prelude.{decimal}
use Rattle.mail_top.proofs.Wording.{one_decimal}
use Rattle.body_cache.specs.Words.{WritesUid}

-- a 0 is no UID
pub zero_uid : (word : List ℕ) (number : ℕ) → word ≡ decimal number → number ≡ 0 → (uid : ℕ) → WritesUid word uid → ⊥
zero_uid word number written none uid w =
    let same = one_decimal uid number w.fits (omega (arith, none)) (sym w.is ∙ written) in omega (arith, same, none, w.from_one)
