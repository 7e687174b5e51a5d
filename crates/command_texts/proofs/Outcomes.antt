-- Want of memory, and what is found.
use Rattle.std.proofs.Common.{Result, Ok, Err}
use Rattle.std.specs.Result.{IfOk, IsErr}

pub only_err : {T E : Type 0} (r : Result T E) (P : T → Type 0) → IsErr r → IfOk r P
only_err (Ok x) P e = absurd cc
only_err (Err x) P e = tt

pub if_ok_more : {T E : Type 0} (r : Result T E) (P Q : T → Type 0) → ((x : T) → P x → Q x) → IfOk r P → IfOk r Q
if_ok_more (Ok x) P Q more p = more x p
if_ok_more (Err x) P Q more p = tt

pub if_ok_both : {T E : Type 0} (r : Result T E) (P Q R : T → Type 0) → ((x : T) → P x → Q x → R x) → IfOk r P → IfOk r Q → IfOk r R
if_ok_both (Ok x) P Q R both p q = both x p q
if_ok_both (Err x) P Q R both p q = tt
