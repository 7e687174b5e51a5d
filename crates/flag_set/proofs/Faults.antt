-- Reading a list from the left, and its first fault.
use Rattle.std.proofs.Common.{◌≡◌, ℕ, zero, suc, ◌<◌, List, [], ◌∷◌, length, take, get_or, fold, ◌⊎◌, inl, inr, Option, Some, None}
use Rattle.std.proofs.Common.{unwrap_or, refl, sym, ap, ◌∙◌, arith}
use Rattle.std.specs.Option.{option_or}
use Rattle.flag_set.specs.declared.flag_fault.FlagFault.{FlagFault}
use Rattle.flag_set.specs.declared.flag_fault.FlagFault.TheVariants.{Memory}
use Rattle.flag_set.specs.Flag.{refusal}
use Rattle.flag_set.specs.FlagKey.{key_of}
use Rattle.flag_set.specs.FlagList.{HasNoFault, IsFirstFault, excess, fault_behind, keep, next_fault, with_flag}

-- the fault at a place of flags that come to a set
abbrev behind_at : List (List ℕ) → List (List ℕ) → ℕ → Option FlagFault
behind_at keys flags place = option_or (refusal (get_or flags place [])) (excess (fold with_flag keys (take (suc place) flags)))

record FirstBehind (keys flags : List (List ℕ)) (fault : FlagFault) : Type 0 where
  place : ℕ
  within : place < length flags
  here : behind_at keys flags place ≡ Some fault
  before : (earlier : ℕ) → earlier < place → behind_at keys flags earlier ≡ None

none_before : (keys : List (List ℕ)) (flag : List ℕ) (rest : List (List ℕ)) (place : ℕ) → next_fault keys flag ≡ None →
    ((k : ℕ) → k < place → behind_at (with_flag keys flag) rest k ≡ None) → (k : ℕ) → k < suc place → behind_at keys (flag ∷ rest) k ≡ None
none_before keys flag rest place e before zero lt = e
none_before keys flag rest place e before (suc k) lt = before k (omega arith)

further : (keys : List (List ℕ)) (flag : List ℕ) (rest : List (List ℕ)) (fault : FlagFault) → next_fault keys flag ≡ None →
    FirstBehind (with_flag keys flag) rest fault → FirstBehind keys (flag ∷ rest) fault
further keys flag rest fault e f =
    record { place = suc f.place; within = (let lt = f.within in omega arith); here = f.here; before = none_before keys flag rest f.place e f.before }

first_behind : (keys flags : List (List ℕ)) (fault : FlagFault) → fault_behind keys flags ≡ Some fault → FirstBehind keys flags fault
first_behind keys [] fault h = cc
first_behind keys (flag ∷ rest) fault h =
    elim (next_fault keys flag) as (λ o. next_fault keys flag ≡ o → option_or o (fault_behind (with_flag keys flag) rest) ≡ Some fault →
    FirstBehind keys (flag ∷ rest) fault) [
      | Some x ↦ λ e g. record { place = 0; within = omega arith; here = e ∙ g; before = λ k lt. absurd (omega arith) }
      | None ↦ λ e g. further keys flag rest fault e (first_behind (with_flag keys flag) rest fault g)
    ] refl h

or_none : (o p : Option FlagFault) → option_or o p ≡ None → (o ≡ None) × (p ≡ None)
or_none None p h = (refl, h)
or_none (Some x) p h = cc

no_fault_behind : (keys flags : List (List ℕ)) → fault_behind keys flags ≡ None → (place : ℕ) → place < length flags → behind_at keys flags place ≡ None
no_fault_behind keys [] h place lt = absurd (omega arith)
no_fault_behind keys (flag ∷ rest) h place lt =
    let both = or_none (next_fault keys flag) (fault_behind (with_flag keys flag) rest) h in
    none_before keys flag rest (length rest) both.0 (no_fault_behind (with_flag keys flag) rest both.1) place (omega arith)

-- in the words of the contract
pub first_fault : (flags : List (List ℕ)) (fault : FlagFault) → fault_behind [] flags ≡ Some fault → IsFirstFault flags fault
first_fault flags fault h =
    let f = first_behind [] flags fault h in
    record { place = f.place; within = f.within; here = f.here; before = f.before }

pub no_fault : (flags : List (List ℕ)) → fault_behind [] flags ≡ None → HasNoFault flags
no_fault flags h = no_fault_behind [] flags h

-- how much of a list is left
abbrev pub left_len : Option (List ℕ) → ℕ
left_len None = 0
left_len (Some text) = suc (length text)

-- a flag that is refused, for itself or since its key is one too many, is the first
pub flag_refused : (all : List (List ℕ)) (keys rest left : List (List ℕ)) (flag : List ℕ) (fault : FlagFault) →
    fault_behind keys left ≡ fault_behind [] all → left ≡ flag ∷ rest → fault ≡ unwrap_or (refusal flag) Memory →
    IsFirstFault all fault ⊎ (fault ≡ Memory)
flag_refused all keys rest left flag fault whole parts e =
    elim (refusal flag) as (λ o. refusal flag ≡ o → fault ≡ unwrap_or o Memory → IsFirstFault all fault ⊎ (fault ≡ Memory)) [
      | Some x ↦ λ r t. inl (first_fault all fault
          (sym whole ∙ ap (fault_behind keys) parts
          ∙ ap (λ o. option_or (option_or o (excess (with_flag keys flag))) (fault_behind (with_flag keys flag) rest)) r
          ∙ ap Some (sym t)))
      | None ↦ λ r t. inr t
    ] refl e

-- the same as an equation
pub flag_fault : (all : List (List ℕ)) (keys rest left : List (List ℕ)) (flag : List ℕ) (fault : FlagFault) →
    fault_behind keys left ≡ fault_behind [] all → left ≡ flag ∷ rest → fault ≡ unwrap_or (refusal flag) Memory →
    (fault_behind [] all ≡ Some fault) ⊎ (fault ≡ Memory)
flag_fault all keys rest left flag fault whole parts e =
    elim (refusal flag) as (λ o. refusal flag ≡ o → fault ≡ unwrap_or o Memory → (fault_behind [] all ≡ Some fault) ⊎ (fault ≡ Memory)) [
      | Some x ↦ λ r t. inl
          (sym whole ∙ ap (fault_behind keys) parts
          ∙ ap (λ o. option_or (option_or o (excess (with_flag keys flag))) (fault_behind (with_flag keys flag) rest)) r
          ∙ ap Some (sym t))
      | None ↦ λ r t. inr t
    ] refl e

pub key_fault : (all : List (List ℕ)) (keys rest left : List (List ℕ)) (flag key : List ℕ) (fault : FlagFault) →
    fault_behind keys left ≡ fault_behind [] all → left ≡ flag ∷ rest → refusal flag ≡ None → key ≡ key_of flag →
    (excess (keep key keys) ≡ Some fault) ⊎ (fault ≡ Memory) → (fault_behind [] all ≡ Some fault) ⊎ (fault ≡ Memory)
key_fault all keys rest left flag key fault whole parts r k (inl e) =
    inl (sym whole ∙ ap (fault_behind keys) parts
    ∙ ap (λ o. option_or (option_or o (excess (with_flag keys flag))) (fault_behind (with_flag keys flag) rest)) r
    ∙ ap (λ o. option_or o (fault_behind (with_flag keys flag) rest)) (ap (λ y. excess (keep y keys)) (sym k) ∙ e))
key_fault all keys rest left flag key fault whole parts r k (inr e) = inr e

pub key_refused : (all : List (List ℕ)) (keys rest left : List (List ℕ)) (flag key : List ℕ) (fault : FlagFault) →
    fault_behind keys left ≡ fault_behind [] all → left ≡ flag ∷ rest → refusal flag ≡ None → key ≡ key_of flag →
    (excess (keep key keys) ≡ Some fault) ⊎ (fault ≡ Memory) → IsFirstFault all fault ⊎ (fault ≡ Memory)
key_refused all keys rest left flag key fault whole parts r k (inl e) =
    inl (first_fault all fault
    (sym whole ∙ ap (fault_behind keys) parts
    ∙ ap (λ o. option_or (option_or o (excess (with_flag keys flag))) (fault_behind (with_flag keys flag) rest)) r
    ∙ ap (λ o. option_or o (fault_behind (with_flag keys flag) rest)) (ap (λ y. excess (keep y keys)) (sym k) ∙ e)))
key_refused all keys rest left flag key fault whole parts r k (inr e) = inr e
