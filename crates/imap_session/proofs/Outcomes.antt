-- What a result's clauses say together.
use Rattle.std.proofs.Common.{◌≡◌, ℕ, Result, Ok, Err, IfOk, IsTrue, false, subst}
use Rattle.imap_model.specs.declared.limit.Limit.{Limit}
use Rattle.imap_model.specs.declared.response.Response.{Response}
use Rattle.imap_response.specs.Reading.{Answers}
use Rattle.imap_response.specs.declared.fault.ResponseFault.{ResponseFault}
use Rattle.imap_response.specs.declared.fault.ResponseFault.TheVariants as readings

pub if_ok_more : {T E : Type 0} (r : Result T E) (P Q : T → Type 0) → ((x : T) → P x → Q x) → IfOk r P → IfOk r Q
if_ok_more (Ok x) P Q f h = f x h
if_ok_more (Err e) P Q f h = tt

pub if_ok_both : {T E : Type 0} (r : Result T E) (P Q R : T → Type 0) → ((x : T) → P x → Q x → R x) → IfOk r P → IfOk r Q → IfOk r R
if_ok_both (Ok x) P Q R f p q = f x p q
if_ok_both (Err e) P Q R f p q = tt

pub same_err : {T E : Type 0} (r : Result T E) (x y : E) → r ≡ Err x → r ≡ Err y → x ≡ y
same_err r x y a b = cc

pub not_true : IsTrue false → ⊥
not_true e = cc

-- a limit that is told is the one that the reading on lists gives
pub answered_so : (wanted r : Result Response ResponseFault) (limit : Limit) (number : ℕ) → r ≡ Err (readings.TooLarge limit number)
    → Answers wanted r
    → wanted ≡ Err (readings.TooLarge limit number)
answered_so wanted r limit number is answers = subst (Answers wanted) is answers
