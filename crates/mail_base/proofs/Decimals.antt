-- The decimal digits of a number are read as this number.
use Rattle.std.proofs.Common.{◌≡◌, ℕ, ◌<◌, ◌^◌, List, sym, subst, arith}
use Rattle.std.proofs.lemmas.Fmt.{decimal_is_IsNumeral}
use Rattle.std.specs.Prelude.{decimal}
use Rattle.mail_base.specs.Number.{IsNumberUpTo}

pub decimal_number : (text : List ℕ) (n : ℕ) → n < 2 ^ 32 → text ≡ decimal n → IsNumberUpTo 4294967295 text n
decimal_number text n fits is =
    let both = decimal_is_IsNumeral n (omega arith) in
    subst (λ (t : List ℕ). IsNumberUpTo 4294967295 t n) (sym is) (record { digits = both.0; value = both.1; fits = omega arith })
