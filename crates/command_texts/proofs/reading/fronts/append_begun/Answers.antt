use Rattle.std.proofs.Common.{◌≡◌, ◌∷◌, ◌++◌, ◌∙◌, Some, refl, ap, sym, drop, decimal}
use Rattle.imap_model.specs.CommandParts.{crlf}
use Rattle.flag_set.specs.FlagText.{list_text}
use Rattle.command_texts.proofs.FlagReading.{list_lacks}
use Rattle.command_texts.proofs.CommandReading.{append_end, append_is}
use Rattle.command_texts.proofs.FrontReading.{append_stands}
use Rattle.command_texts.proofs.reading.fronts.append_begun.Goals as goal

pub returns-in_default : goal.returns-in_default
returns-in_default c = λ to flags n name set fits is. absurd
    (rw c.in_default.is at (c.in_ok-to.ensures to (append_end flags (123 ∷ (decimal n ++ 125 ∷ crlf))) name refl
    (is ∙ append_is to flags (123 ∷ (decimal n ++ 125 ∷ crlf)))))

pub returns-in_default-2 : goal.returns-in_default-2
returns-in_default-2 c = λ to flags n name set fits is.
    let x = rw c.in-Some.is at (c.in_ok-to.ensures to (append_end flags (123 ∷ (decimal n ++ 125 ∷ crlf))) name refl
    (is ∙ append_is to flags (123 ∷ (decimal n ++ 125 ∷ crlf)))) in
    let cut = c.until.ensures.cut (list_text flags) (32 ∷ 123 ∷ (decimal n ++ 125 ∷ crlf)) (list_lacks flags set.flags) (c.behind.ensures ∙ ap (drop 2) x.1) in
    let second = c.in_ok-flags.ensures flags set cut.0 in
    absurd (let told = c.in_default-2.is in cc)

pub returns-in-Some-announced : goal.returns-in-Some-announced
returns-in-Some-announced c = λ to flags n name set fits is.
    let x = rw c.in-Some.is at (c.in_ok-to.ensures to (append_end flags (123 ∷ (decimal n ++ 125 ∷ crlf))) name refl
    (is ∙ append_is to flags (123 ∷ (decimal n ++ 125 ∷ crlf)))) in
    let cut = c.until.ensures.cut (list_text flags) (32 ∷ 123 ∷ (decimal n ++ 125 ∷ crlf)) (list_lacks flags set.flags) (c.behind.ensures ∙ ap (drop 2) x.1) in
    let second = c.in_ok-flags.ensures flags set cut.0 in
    let third = c.announced.ensures n crlf fits (c.behind-2.ensures ∙ ap (drop 1) cut.1) in
    record {
      command = append_stands _ to _ flags _ n x.0 (sym c.in-Some-2.is ∙ second) c.new.ensures;
      octets = let same : Some c.in-Some-announced.octets ≡ Some n = sym c.in-Some-announced.is ∙ third in cc;
    }

pub returns-in-None : goal.returns-in-None
returns-in-None c = λ to flags n name set fits is.
    let x = rw c.in-Some.is at (c.in_ok-to.ensures to (append_end flags (123 ∷ (decimal n ++ 125 ∷ crlf))) name refl
    (is ∙ append_is to flags (123 ∷ (decimal n ++ 125 ∷ crlf)))) in
    let cut = c.until.ensures.cut (list_text flags) (32 ∷ 123 ∷ (decimal n ++ 125 ∷ crlf)) (list_lacks flags set.flags) (c.behind.ensures ∙ ap (drop 2) x.1) in
    let second = c.in_ok-flags.ensures flags set cut.0 in
    let third = c.announced.ensures n crlf fits (c.behind-2.ensures ∙ ap (drop 1) cut.1) in
    absurd (let none = c.in-None.is in cc)
