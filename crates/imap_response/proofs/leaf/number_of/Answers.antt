use Rattle.std.proofs.Common.{refl, sym}
use Rattle.imap_response.proofs.NumberLemmas.{number_some, number_none}
use Rattle.imap_response.proofs.leaf.number_of.Goals as goal

pub returns-in-Ok : goal.returns-in-Ok
returns-in-Ok c = sym (number_some _ _ _ ((c.in-Ok.ensures.value c.in-Ok.number).0 refl))

pub returns-in-Err : goal.returns-in-Err
returns-in-Err c = sym (number_none _ _ (λ n is. absurd (let e = (c.in-Err.ensures.value n).1 is in cc)))
