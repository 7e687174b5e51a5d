use Rattle.std.proofs.Common.{◌∷◌, ◌++◌, ◌∙◌, refl, ap, drop, get_or, decimal, arith}
use Rattle.imap_model.specs.CommandParts.{crlf}
use Rattle.command_texts.proofs.Cuts.{digits_lack}
use Rattle.command_texts.proofs.CommandReading.{mark_same}
use Rattle.command_texts.proofs.reading.candidates.mark_of.Goals as goal

pub returns-then-byte_at-eq13-clause-some : goal.returns-then-byte_at-eq13-clause-some
returns-then-byte_at-eq13-clause-some c = λ v m held held' is. absurd (omega (arith, c.byte_at.ensures, c.if-byte_at-eq13.true, ap (λ x. get_or x 0 0) is))

pub returns-in_err-validity_of-clause-some : goal.returns-in_err-validity_of-clause-some
returns-in_err-validity_of-clause-some c = λ v m held held' is.
    let one = c.until.ensures.cut (decimal v) (decimal m ++ 41 ∷ 41 ∷ crlf) (digits_lack 32 v (omega (arith, held.fits)) refl)
    (c.behind.ensures ∙ ap (drop 11) is) in
    let found = c.in_err-validity_of.ensures v held one.0 in
    absurd cc

pub returns-in_err-modseq_of-clause-some : goal.returns-in_err-modseq_of-clause-some
returns-in_err-modseq_of-clause-some c = λ v m held held' is.
    let one = c.until.ensures.cut (decimal v) (decimal m ++ 41 ∷ 41 ∷ crlf) (digits_lack 32 v (omega (arith, held.fits)) refl)
    (c.behind.ensures ∙ ap (drop 11) is) in
    let two = c.until-2.ensures.cut (decimal m) (41 ∷ crlf) (digits_lack 41 m (omega (arith, held'.fits)) refl) one.1 in
    let found = c.in_err-modseq_of.ensures m held' two.0 in
    absurd cc

pub returns-clause-some : goal.returns-clause-some
returns-clause-some c = λ v m held held' is.
    let one = c.until.ensures.cut (decimal v) (decimal m ++ 41 ∷ 41 ∷ crlf) (digits_lack 32 v (omega (arith, held.fits)) refl)
    (c.behind.ensures ∙ ap (drop 11) is) in
    let two = c.until-2.ensures.cut (decimal m) (41 ∷ crlf) (digits_lack 41 m (omega (arith, held'.fits)) refl) one.1 in
    let first = c.in_ok-validity_of.ensures v held one.0 in
    let second = c.in_ok-modseq_of.ensures m held' two.0 in
    mark_same _ _ v m first second
