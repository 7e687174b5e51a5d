-- What a fault of a run tells of the call whose fault it is.
use Rattle.std.proofs.Common.{◌≡◌, Result, Ok, Err, OnErr, IsErrAnd, ap}
use Rattle.play_driver.specs.declared.fault.PlayFault.{PlayFault}

-- one fault of a result
pub same_err : {T E : Type 0} (r : Result T E) (x y : E) → r ≡ Err x → r ≡ Err y → x ≡ y
same_err r x y p q = cc

-- no fault came
pub ok_no_err : {T E : Type 0} (r : Result T E) (x : T) (e : E) → r ≡ Ok x → r ≡ Err e → ⊥
ok_no_err r x e p q = cc

module _ {T E : Type 0} where
  pub raised_as : (r : Result T E) (x : E) → IsErrAnd r (λ fault. fault ≡ x) → r ≡ Err x
  raised_as (Ok y) x given = absurd given
  raised_as (Err fault) x given = ap (λ (f : E). Err f) given

-- The fault of a run is that of a call, as it is told.
module _ {T E : Type 0} (of : E → PlayFault) (r : Result T PlayFault) (x : E) (given : IsErrAnd r (λ fault. fault ≡ of x)) where
  pub told_as : (fault : PlayFault) → r ≡ Err fault → fault ≡ of x
  told_as fault is = same_err r fault (of x) is (raised_as r (of x) given)

-- what holds at an error
pub at_err : {T E : Type 0} (r : Result T E) (x : E) (Q : Type 0) → r ≡ Err x → OnErr r Q → Q
at_err (Ok y) x Q is q = absurd cc
at_err (Err e) x Q is q = q
