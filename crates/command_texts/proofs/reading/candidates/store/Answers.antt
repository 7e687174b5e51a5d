use Rattle.std.proofs.Common.{◌∷◌, ◌++◌, ◌∙◌, refl, ap, sym, drop, get_or, codes, decimal, arith}
use Rattle.imap_model.specs.CommandParts.{crlf}
use Rattle.command_texts.proofs.Cuts.{digits_lack}
use Rattle.flag_set.specs.FlagText.{list_text}
use Rattle.command_texts.proofs.FlagReading.{list_lacks}
use Rattle.command_texts.proofs.CommandReading.{store_text, store_same, sign_byte}
use Rattle.command_texts.proofs.reading.candidates.store.Goals as goal

pub returns-in_default : goal.returns-in_default
returns-in_default c = λ uid since add flags held modseq set is.
    let t = store_text uid since add flags _ is in
    let one = c.until.ensures.cut (decimal uid) (codes "(UNCHANGEDSINCE "
    ++ (decimal since ++ 41 ∷ 32 ∷ sign_byte add ∷ (codes "FLAGS (" ++ (list_text flags ++ 41 ∷ crlf))))
    (digits_lack 32 uid (omega (arith, held.fits)) refl) t in
    let found = c.in_default.ensures uid held one.0 in
    absurd (let none = c.in_default.is in cc)

pub returns-in-None : goal.returns-in-None
returns-in-None c = λ uid since add flags held modseq set is.
    let t = store_text uid since add flags _ is in
    let one = c.until.ensures.cut (decimal uid) (codes "(UNCHANGEDSINCE "
    ++ (decimal since ++ 41 ∷ 32 ∷ sign_byte add ∷ (codes "FLAGS (" ++ (list_text flags ++ 41 ∷ crlf))))
    (digits_lack 32 uid (omega (arith, held.fits)) refl) t in
    let two = c.until-2.ensures.cut (decimal since) (32 ∷ sign_byte add ∷ (codes "FLAGS (" ++ (list_text flags ++ 41 ∷ crlf)))
    (digits_lack 41 since (omega (arith, modseq.fits)) refl) (c.behind.ensures ∙ ap (drop 16) one.1) in
    let three = c.until-3.ensures.cut (list_text flags) crlf (list_lacks flags set.flags) (c.behind-2.ensures ∙ ap (drop 9) two.1) in
    let third = c.in_ok-flags.ensures flags set three.0 in
    let told = c.in-None.is in
    absurd cc

pub returns-in_default-modseq_of : goal.returns-in_default-modseq_of
returns-in_default-modseq_of c = λ uid since add flags held modseq set is.
    let t = store_text uid since add flags _ is in
    let one = c.until.ensures.cut (decimal uid) (codes "(UNCHANGEDSINCE "
    ++ (decimal since ++ 41 ∷ 32 ∷ sign_byte add ∷ (codes "FLAGS (" ++ (list_text flags ++ 41 ∷ crlf))))
    (digits_lack 32 uid (omega (arith, held.fits)) refl) t in
    let two = c.until-2.ensures.cut (decimal since) (32 ∷ sign_byte add ∷ (codes "FLAGS (" ++ (list_text flags ++ 41 ∷ crlf)))
    (digits_lack 41 since (omega (arith, modseq.fits)) refl) (c.behind.ensures ∙ ap (drop 16) one.1) in
    let found = c.in_default-modseq_of.ensures since modseq two.0 in
    absurd (let none = c.in_default-modseq_of.is in cc)

pub returns-in-Some-2 : goal.returns-in-Some-2
returns-in-Some-2 c = λ uid since add flags held modseq set is.
    let t = store_text uid since add flags _ is in
    let one = c.until.ensures.cut (decimal uid) (codes "(UNCHANGEDSINCE "
    ++ (decimal since ++ 41 ∷ 32 ∷ sign_byte add ∷ (codes "FLAGS (" ++ (list_text flags ++ 41 ∷ crlf))))
    (digits_lack 32 uid (omega (arith, held.fits)) refl) t in
    let two = c.until-2.ensures.cut (decimal since) (32 ∷ sign_byte add ∷ (codes "FLAGS (" ++ (list_text flags ++ 41 ∷ crlf)))
    (digits_lack 41 since (omega (arith, modseq.fits)) refl) (c.behind.ensures ∙ ap (drop 16) one.1) in
    let three = c.until-3.ensures.cut (list_text flags) crlf (list_lacks flags set.flags) (c.behind-2.ensures ∙ ap (drop 9) two.1) in
    let first = c.in-Some.ensures uid held one.0 in
    let second = c.in-Some-modseq_of.ensures since modseq two.0 in
    let third = c.in_ok-flags.ensures flags set three.0 in
    let told = c.in-Some-2.is in
    store_same _ _ _ _ uid since add flags first second (c.byte_at-add.ensures ∙ ap (λ x. get_or x 1 0) two.1) (sym told ∙ third)
