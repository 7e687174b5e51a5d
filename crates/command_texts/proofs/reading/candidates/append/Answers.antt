use Rattle.std.proofs.Common.{[], ◌∷◌, ◌++◌, ◌∙◌, refl, ap, sym, drop, length, decimal}
use Rattle.imap_model.specs.CommandParts.{crlf}
use Rattle.flag_set.specs.FlagText.{list_text}
use Rattle.command_texts.proofs.FlagReading.{list_lacks}
use Rattle.command_texts.proofs.CommandReading.{append_end, append_is, append_same}
use Rattle.command_texts.proofs.reading.candidates.append.Goals as goal

pub returns-in_default : goal.returns-in_default
returns-in_default c = λ to flags octets end behind name set kept is later. absurd
    (rw c.in_default.is at (c.in_ok-to.ensures to (append_end flags (123 ∷ (decimal (length octets) ++ 125 ∷ end))) name refl
    (is ∙ append_is to flags (123 ∷ (decimal (length octets) ++ 125 ∷ end)))))

pub returns-in_default-2 : goal.returns-in_default-2
returns-in_default-2 c = λ to flags octets end behind name set kept is later.
    let x = rw c.in-Some.is at (c.in_ok-to.ensures to (append_end flags (123 ∷ (decimal (length octets) ++ 125 ∷ end))) name refl
    (is ∙ append_is to flags (123 ∷ (decimal (length octets) ++ 125 ∷ end)))) in
    let cut = c.until.ensures.cut (list_text flags) (32 ∷ 123 ∷ (decimal (length octets) ++ 125 ∷ end)) (list_lacks flags set.flags)
    (c.behind.ensures ∙ ap (drop 2) x.1) in
    let second = c.in_ok-flags.ensures flags set cut.0 in
    absurd (let told = c.in_default-2.is in cc)

pub returns-in-Some-3 : goal.returns-in-Some-3
returns-in-Some-3 c = λ to flags octets end behind name set kept is later.
    let x = rw c.in-Some.is at (c.in_ok-to.ensures to (append_end flags (123 ∷ (decimal (length octets) ++ 125 ∷ end))) name refl
    (is ∙ append_is to flags (123 ∷ (decimal (length octets) ++ 125 ∷ end)))) in
    let cut = c.until.ensures.cut (list_text flags) (32 ∷ 123 ∷ (decimal (length octets) ++ 125 ∷ end)) (list_lacks flags set.flags)
    (c.behind.ensures ∙ ap (drop 2) x.1) in
    let second = c.in_ok-flags.ensures flags set cut.0 in
    let third = c.in_ok-literal.ensures octets end crlf [] kept.short (c.behind-2.ensures ∙ ap (drop 1) cut.1) later in
    let y = rw c.in-Some-3.is at third in
    let told = c.in-Some-2.is in
    append_same _ _ _ to flags octets x.0 (sym told ∙ second) (c.of.ensures ∙ y.text)

pub returns-in-None : goal.returns-in-None
returns-in-None c = λ to flags octets end behind name set kept is later.
    let x = rw c.in-Some.is at (c.in_ok-to.ensures to (append_end flags (123 ∷ (decimal (length octets) ++ 125 ∷ end))) name refl
    (is ∙ append_is to flags (123 ∷ (decimal (length octets) ++ 125 ∷ end)))) in
    let cut = c.until.ensures.cut (list_text flags) (32 ∷ 123 ∷ (decimal (length octets) ++ 125 ∷ end)) (list_lacks flags set.flags)
    (c.behind.ensures ∙ ap (drop 2) x.1) in
    let second = c.in_ok-flags.ensures flags set cut.0 in
    let third = c.in_ok-literal.ensures octets end crlf [] kept.short (c.behind-2.ensures ∙ ap (drop 1) cut.1) later in
    absurd (rw c.in-None.is at third)
