-- What three words ask for.
use Rattle.std.proofs.Common.{◌≡◌, ℕ, ◌-◌, ◌^◌, ◌<◌, ◌≤◌, List, [], ◌∷◌, length, get_or, map, Option, Some, None, Result, Ok, Err, sym, ◌∙◌, ap, subst, arith}
use Rattle.std.specs.Prelude.{String, string_bytes, IfSome, ◌↔◌}
use Rattle.std.specs.Result.{result_ok}
use Rattle.std.specs.declared.alloc.Global.{Global}
use Rattle.mail_base.specs.Number.{IsNumberUpTo}
use Rattle.mail_base.specs.declared.number.NumberFault.{NumberFault}
use Rattle.mail_bench.specs.Asked.{Asks, AsksFor}
use Rattle.mail_bench.specs.declared.load.Task.{Task}

pub three_bytes : (words : List (String Global)) (x y z : String Global) (a b c : List ℕ) → 3 ≤ length words → length words < 4
    → x ≡ get_or words 0 x → y ≡ get_or words 1 y → z ≡ get_or words 2 z
    → a ≡ string_bytes x → b ≡ string_bytes y → c ≡ string_bytes z → map string_bytes words ≡ a ∷ b ∷ c ∷ []
three_bytes [] x y z a b c some few first second third va vb vc = absurd (omega (arith, some))
three_bytes (p ∷ []) x y z a b c some few first second third va vb vc = absurd (omega (arith, some))
three_bytes (p ∷ q ∷ []) x y z a b c some few first second third va vb vc = absurd (omega (arith, some))
three_bytes (p ∷ q ∷ r ∷ s ∷ rest) x y z a b c some few first second third va vb vc = absurd (omega (arith, few))
three_bytes (p ∷ q ∷ r ∷ []) x y z a b c some few first second third va vb vc =
    let one : string_bytes p ≡ a = sym (va ∙ ap (λ (t : String Global). string_bytes t) first) in
    let two : string_bytes q ≡ b = sym (vb ∙ ap (λ (t : String Global). string_bytes t) second) in
    let three : string_bytes r ≡ c = sym (vc ∙ ap (λ (t : String Global). string_bytes t) third) in
    ap (λ (t : List ℕ). t ∷ string_bytes q ∷ string_bytes r ∷ []) one
    ∙ ap (λ (t : List ℕ). a ∷ t ∷ string_bytes r ∷ []) two
    ∙ ap (λ (t : List ℕ). a ∷ b ∷ t ∷ []) three

-- a number that was read
pub read_ok : (r : Result ℕ NumberFault) (n : ℕ) → Some n ≡ result_ok r → r ≡ Ok n
read_ok (Ok m) n is = cc
read_ok (Err fault) n is = absurd (cc is)

not_read : (r : Result ℕ NumberFault) (n : ℕ) → None ≡ result_ok r → r ≡ Ok n → ⊥
not_read (Ok m) n is same = cc is
not_read (Err fault) n is same = cc same

module _ (words : List (List ℕ)) (a b c : List ℕ) (are : words ≡ a ∷ b ∷ c ∷ []) where
  pub asks_some : (number : ℕ) → IsNumberUpTo (2 ^ 32 - 1) c number → (r : Option Task) → IfSome r (AsksFor a b number) → IfSome r (Asks words)
  asks_some number is None asks = asks
  asks_some number is (Some task) asks =
      record { what = a; case = b; digits = c; number = number; are = are; is = is; asks = asks }

  -- the number that these words have
  number_of : (task : Task) (x : Asks words task) → IsNumberUpTo (2 ^ 32 - 1) c x.number
  number_of task x =
      let same : x.digits ≡ c = cc (x.are, are) in
      subst (λ (t : List ℕ). IsNumberUpTo (2 ^ 32 - 1) t x.number) same x.is

  module _ (r : Result ℕ NumberFault) (value : (n : ℕ) → (r ≡ Ok n) ↔ IsNumberUpTo (2 ^ 32 - 1) c n) where
    pub asks_unread : None ≡ result_ok r → (task : Task) → Asks words task → ⊥
    asks_unread none task x = not_read r x.number none ((value x.number).1 (number_of task x))

    pub asks_none : (number : ℕ) → r ≡ Ok number → ((task : Task) → AsksFor a b number task → ⊥) → (task : Task) → Asks words task → ⊥
    asks_none number is none task x =
        let first : x.what ≡ a = cc (x.are, are) in
        let second : x.case ≡ b = cc (x.are, are) in
        let third : x.number ≡ number = cc ((value x.number).1 (number_of task x), is) in
        none task
        (subst (λ (w : List ℕ). AsksFor w b number task) first
        (subst (λ (w : List ℕ). AsksFor x.what w number task) second
        (subst (λ (n : ℕ). AsksFor x.what x.case n task) third x.asks)))
