use Rattle.std.proofs.Common.{refl, decimal, arith}
use Rattle.imap_model.specs.CommandParts.{crlf}
use Rattle.command_texts.proofs.Cuts.{digits_lack}
use Rattle.command_texts.proofs.CommandReading.{shift_text}
use Rattle.command_texts.proofs.reading.candidates.placed.Goals as goal

pub returns-in_default : goal.returns-in_default
returns-in_default c = λ uid to held name is.
    let t = shift_text uid to _ is in
    let one = c.until.ensures.cut (decimal uid) t.first (digits_lack 32 uid (omega (arith, held.fits)) refl) t.is in
    let found = c.in_default.ensures uid held one.0 in
    absurd (let none = c.in_default.is in cc)

pub returns-in-Some-2 : goal.returns-in-Some-2
returns-in-Some-2 c = λ uid to held name is.
    let t = shift_text uid to _ is in
    let one = c.until.ensures.cut (decimal uid) t.first (digits_lack 32 uid (omega (arith, held.fits)) refl) t.is in
    let found = c.in-Some.ensures uid held one.0 in
    let x = rw c.in-Some-2.is at (c.in_ok-to.ensures to crlf name refl (rw one.1 t.next)) in
    (cc, x.0)

pub returns-in-None : goal.returns-in-None
returns-in-None c = λ uid to held name is.
    let t = shift_text uid to _ is in
    let one = c.until.ensures.cut (decimal uid) t.first (digits_lack 32 uid (omega (arith, held.fits)) refl) t.is in
    absurd (rw c.in-None.is at (c.in_ok-to.ensures to crlf name refl (rw one.1 t.next)))
