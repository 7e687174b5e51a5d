use Rattle.std.proofs.Common.{◌≡◌, [], ◌∷◌, Some, decimal, refl, ap, arith}
use Rattle.imap_model.specs.declared.command.Command.TheVariants as commands
use Rattle.command_texts.proofs.Cuts.{digits_lack}
use Rattle.command_texts.proofs.reading.candidates.expunge.Goals as goal

pub returns-in-Some : goal.returns-in-Some
returns-in-Some c = λ uid held is.
    let cut = c.until.ensures.cut (decimal uid) (10 ∷ []) (digits_lack 13 uid (omega (arith, held.fits)) refl) is in
    let found = c.in-Some.ensures uid held cut.0 in
    let same : c.in-Some.uid ≡ uid = cc in
    ap (λ n. Some (commands.Expunge n)) same

pub returns-in-None : goal.returns-in-None
returns-in-None c = λ uid held is.
    let cut = c.until.ensures.cut (decimal uid) (10 ∷ []) (digits_lack 13 uid (omega (arith, held.fits)) refl) is in
    let found = c.in-None.ensures uid held cut.0 in
    absurd cc
