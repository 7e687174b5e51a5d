-- Want of memory is no broken rule.
use Rattle.std.proofs.Common.{◌≡◌, ◌↔◌, ℕ, Option, Some, None, Result, Ok, Err, refl}
use Rattle.std.specs.Prelude.{IsErrOf}
use Rattle.server_mem.specs.declared.mem_server.ForeignFault.{ForeignFault}
use Rattle.server_mem.specs.declared.mem_server.ForeignFault.TheVariants.{Memory, NotLawful}

pub not_rule : {T P : Type 0} (number : ℕ) (r : Result T ForeignFault) → r ≡ Err Memory → IsErrOf r (NotLawful number) → P
not_rule number (Ok x) is e = absurd (cc is)
not_rule number (Err Memory) is e = absurd (cc e)
not_rule number (Err (NotLawful n)) is e = absurd (cc is)

-- what was done broke no rule
pub no_rule : {T : Type 0} (o : Option ℕ) (x : T) → ((number : ℕ) → IsErrOf {T = T} (Ok x) (NotLawful number) ↔ (o ≡ Some number)) → o ≡ None
no_rule None x rule = refl
no_rule (Some number) x rule = absurd (cc ((rule number).1 refl))
