-- What a call says where it comes to its end, and of the line of a passed limit, is handed on to a caller.
use Rattle.std.proofs.Common.{◌≡◌, ℕ, List, sym, subst}
use Rattle.std.specs.Prelude.{Result, Ok, Err, IfErr, OnOk}
use Rattle.mail_drill.specs.Standing.{IsBrokenAs}
use Rattle.mail_drill.specs.declared.played.Broken.{Broken}
use Rattle.mail_drill.specs.declared.played.Broken.TheVariants as brokens

pub broken_then : (P Q : List ℕ → Type 0) → ((line : List ℕ) → P line → Q line) → (broken : Broken) → IsBrokenAs P broken → IsBrokenAs Q broken
broken_then P Q on brokens.Memory p = tt
broken_then P Q on (brokens.Limit line) p = on line p
broken_then P Q on (brokens.Unforeseen s) p = tt

pub err_then : {T : Type 0} (P Q : List ℕ → Type 0) → ((line : List ℕ) → P line → Q line) → (r : Result T Broken) → IfErr r (IsBrokenAs P) →
    IfErr r (IsBrokenAs Q)
err_then P Q on (Ok value) p = tt
err_then P Q on (Err broken) p = broken_then P Q on broken p

pub ok_then : {T : Type 0} (P Q : Type 0) → (P → Q) → (r : Result T Broken) → OnOk r P → OnOk r Q
ok_then P Q on (Ok value) p = on p
ok_then P Q on (Err broken) p = tt

-- an error that was handed on is the callee's
pub err_on : {T : Type 0} (r : Result T Broken) (broken : Broken) (P : Broken → Type 0) → r ≡ Err broken → P broken → IfErr r P
err_on {T} r broken P is has = subst (λ (x : Result T Broken). IfErr x P) (sym is) has
