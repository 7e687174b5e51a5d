use Rattle.std.proofs.Common.{refl, sym}
use Rattle.imap_response.proofs.NumberLemmas.{number_some, nonzero_reads, nonzero_none}
use Rattle.imap_response.proofs.leaf.modseq_in_whole.Goals as goal

pub returns-in-Ok-clause-value : goal.returns-in-Ok-clause-value
returns-in-Ok-clause-value c = let is = (c.in-Ok.ensures.value c.in-Ok.modseq).0 refl in
    rw c.number.ensures.value (sym (nonzero_reads _ _ (number_some _ _ _ is.0) is.1))

pub returns-in-Err-clause-value : goal.returns-in-Err-clause-value
returns-in-Err-clause-value c = sym (nonzero_none _ _ (λ n is some. absurd (let e = (c.in-Err.ensures.value n).1 (is, some) in cc)))
