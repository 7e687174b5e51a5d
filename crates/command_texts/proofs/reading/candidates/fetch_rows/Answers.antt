use Rattle.std.proofs.Common.{◌≡◌, [], ◌∷◌, ◌∙◌, Some, refl, ap, length, arith}
use Rattle.imap_model.specs.declared.command.Command.TheVariants as commands
use Rattle.command_texts.proofs.Cuts.{digits_lack}
use Rattle.command_texts.proofs.reading.candidates.fetch_rows.Goals as goal

pub returns-then-low-text-clause-row : goal.returns-then-low-text-clause-row
returns-then-low-text-clause-row c = λ uid held is.
    let m = c.until.ensures.missing (rw is (digits_lack 58 uid (omega (arith, held.fits)) refl)) in
    absurd (omega (arith, ap length m.0, c.if-low-text.true))

pub returns-in-Some-clause-all : goal.returns-in-Some-clause-all
returns-in-Some-clause-all c = λ is.
    let cut = c.until.ensures.cut (49 ∷ []) (42 ∷ []) refl is in
    absurd (omega (arith, ap length cut.0, ap length is, c.if-low-text.false))

pub returns-in-Some-clause-row : goal.returns-in-Some-clause-row
returns-in-Some-clause-row c = λ uid held is.
    let m = c.until.ensures.missing (rw is (digits_lack 58 uid (omega (arith, held.fits)) refl)) in
    let found = c.in-Some.ensures uid held (m.0 ∙ is) in
    let same : c.in-Some.uid ≡ uid = cc in
    ap (λ n. Some (commands.FetchRow n)) same

pub returns-in-None-clause-all : goal.returns-in-None-clause-all
returns-in-None-clause-all c = λ is.
    let cut = c.until.ensures.cut (49 ∷ []) (42 ∷ []) refl is in
    absurd (omega (arith, ap length cut.0, ap length is, c.if-low-text.false))

pub returns-in-None-clause-row : goal.returns-in-None-clause-row
returns-in-None-clause-row c = λ uid held is.
    let m = c.until.ensures.missing (rw is (digits_lack 58 uid (omega (arith, held.fits)) refl)) in
    let found = c.in-None.ensures uid held (m.0 ∙ is) in
    absurd cc
