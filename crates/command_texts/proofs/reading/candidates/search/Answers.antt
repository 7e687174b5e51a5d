use Rattle.std.proofs.Common.{[], ◌++◌, ◌∙◌, refl, codes, decimal, arith}
use Rattle.imap_model.specs.CommandParts.{crlf}
use Rattle.command_texts.proofs.Cuts.{digits_lack}
use Rattle.command_texts.proofs.CommandReading.{search_text, search_same}
use Rattle.command_texts.proofs.reading.candidates.search.Goals as goal

pub returns-in_default : goal.returns-in_default
returns-in_default c = λ from id held kept is.
    let t = search_text from id _ _ is in
    let one = c.until.ensures.cut (decimal from) (codes "* HEADER Message-ID " ++ t.first) (digits_lack 58 from (omega (arith, held.fits)) refl) t.is in
    let found = c.in_default.ensures from held one.0 in
    absurd (let none = c.in_default.is in cc)

pub returns-in-Some-2 : goal.returns-in-Some-2
returns-in-Some-2 c = λ from id held kept is.
    let t = search_text from id _ _ is in
    let one = c.until.ensures.cut (decimal from) (codes "* HEADER Message-ID " ++ t.first) (digits_lack 58 from (omega (arith, held.fits)) refl) t.is in
    let found = c.in-Some.ensures from held one.0 in
    let x = rw c.in-Some-2.is at (c.in_ok-id.ensures id crlf [] kept.short refl (rw (c.behind.ensures, one.1) t.next)) in
    search_same _ _ from id found (c.of.ensures ∙ x.text)

pub returns-in-None : goal.returns-in-None
returns-in-None c = λ from id held kept is.
    let t = search_text from id _ _ is in
    let one = c.until.ensures.cut (decimal from) (codes "* HEADER Message-ID " ++ t.first) (digits_lack 58 from (omega (arith, held.fits)) refl) t.is in
    absurd (rw c.in-None.is at (c.in_ok-id.ensures id crlf [] kept.short refl (rw (c.behind.ensures, one.1) t.next)))
