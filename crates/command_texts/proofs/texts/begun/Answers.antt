use Rattle.std.proofs.Common.{◌≡◌, ◌∙◌, sym, subst}
use Rattle.imap_model.specs.CommandText.{parts_of}
use Rattle.command_texts.specs.Renumbered.{IsRenumbered}
use Rattle.command_texts.proofs.FrontFound.{front_found}
use Rattle.command_texts.proofs.FrontHeard.{refused, stands_possible, stands_sent, stands_renumbered, possible_some}
use Rattle.command_texts.proofs.FrontWritten.{renumbered_front}
use Rattle.command_texts.proofs.texts.begun.Goals as goal

pub returns-in_default : goal.returns-in_default
returns-in_default c = λ tag command front.
    let f = front_found tag command _ front c.requires in
    rw c.in_default.is at (c.in_ok-found.ensures tag f.0 f.1)

pub returns-then-not-is_possible : goal.returns-then-not-is_possible
returns-then-not-is_possible c = λ tag command front.
    let f = front_found tag command _ front c.requires in
    let x = rw c.in-Some.is at (c.in_ok-found.ensures tag f.0 f.1) in
    refused c.is_possible.result c.is_possible.ensures.possible c.if-not-is_possible.true (stands_possible f.0 c.in-Some.found.stand_in f.1.held x.1)

pub returns-then-not-is_writable : goal.returns-then-not-is_writable
returns-then-not-is_writable c = λ tag command front.
    let f = front_found tag command _ front c.requires in
    let x = rw c.in-Some.is at (c.in_ok-found.ensures tag f.0 f.1) in
    refused c.is_writable.result c.is_writable.ensures c.if-not-is_writable.true
    (stands_sent tag f.0 _ c.in-Some.found.tag c.in-Some.found.stand_in f.1 x.0 x.1).writable

pub returns-then-not-branch : goal.returns-then-not-branch
returns-then-not-branch c = λ tag command front.
    let f = front_found tag command _ front c.requires in
    let x = rw c.in-Some.is at (c.in_ok-found.ensures tag f.0 f.1) in
    let text : c.as_slice.result.now ≡ parts_of c.in-Some.found.tag c.in-Some.found.stand_in.command = c.as_slice.ensures ∙ c.in_ok-written.ensures.text in
    refused c.in_ok-is_written.field-0 c.in_ok-is_written.ensures c.if-not-branch.true
    (subst (λ t. IsRenumbered c.in-Some.found.stand_in.octets t c.args.parts.now) (sym text)
    (stands_renumbered tag f.0 _ c.in-Some.found.tag c.in-Some.found.stand_in f.1 x.0 x.1))

pub returns : goal.returns
returns c =
    let text : c.as_slice.result.now ≡ parts_of c.in-Some.found.tag c.in-Some.found.stand_in.command = c.as_slice.ensures ∙ c.in_ok-written.ensures.text in
    renumbered_front c.in-Some.found.tag c.in-Some.found.stand_in.command c.in-Some.found.stand_in.octets _ c.in_ok-written.ensures.sent
    c.is_possible.ensures.fits
    (possible_some _ _ (c.is_possible.ensures.possible.0 c.if-not-is_possible.false))
    (subst (λ t. IsRenumbered c.in-Some.found.stand_in.octets t c.args.parts.now) text
    (c.in_ok-is_written.ensures.0 c.if-not-branch.false))
