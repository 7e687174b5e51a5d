use Rattle.std.proofs.Common.{◌∷◌, ◌++◌, ◌∙◌, refl, ap, sym, drop, codes, decimal, arith}
use Rattle.imap_model.specs.CommandParts.{crlf}
use Rattle.command_texts.proofs.Cuts.{digits_lack}
use Rattle.command_texts.proofs.FrontReading.{id_finds}
use Rattle.command_texts.proofs.reading.fronts.search_begun.Goals as goal

pub returns-in_default : goal.returns-in_default
returns-in_default c = λ from n held count is.
    let one = c.until.ensures.cut (decimal from) (codes "* HEADER Message-ID " ++ 123 ∷ (decimal n ++ 125 ∷ crlf))
    (digits_lack 58 from (omega (arith, held.fits)) refl) is in
    let found = c.in_default.ensures from held one.0 in
    absurd (let none = c.in_default.is in cc)

pub returns-in-Some-announced : goal.returns-in-Some-announced
returns-in-Some-announced c = λ from n held count is.
    let one = c.until.ensures.cut (decimal from) (codes "* HEADER Message-ID " ++ 123 ∷ (decimal n ++ 125 ∷ crlf))
    (digits_lack 58 from (omega (arith, held.fits)) refl) is in
    let first = c.in-Some.ensures from held one.0 in
    let second = c.announced.ensures n crlf (omega (arith, count.fits)) (c.behind.ensures ∙ ap (drop 20) one.1) in
    id_finds _ _ from n _ c.search_awaited.ensures first (sym c.in-Some-announced.is ∙ second)

pub returns-in-None : goal.returns-in-None
returns-in-None c = λ from n held count is.
    let one = c.until.ensures.cut (decimal from) (codes "* HEADER Message-ID " ++ 123 ∷ (decimal n ++ 125 ∷ crlf))
    (digits_lack 58 from (omega (arith, held.fits)) refl) is in
    let second = c.announced.ensures n crlf (omega (arith, count.fits)) (c.behind.ensures ∙ ap (drop 20) one.1) in
    absurd (let none = c.in-None.is in cc)
