use Rattle.std.proofs.Common.{◌∙◌, sym}
use Rattle.command_texts.proofs.FrontReading.{second_is, no_kind}
use Rattle.command_texts.proofs.reading.fronts.begun.Goals as goal

pub returns-then-kind-eq79 : goal.returns-then-kind-eq79
returns-then-kind-eq79 c = λ awaited held is. c.login_front.ensures awaited held
    (sym (second_is awaited c.args.text.now c.args.later.now is) ∙ sym c.byte_at-kind.ensures ∙ c.if-kind-eq79.true) is

pub returns-then-kind-eq85 : goal.returns-then-kind-eq85
returns-then-kind-eq85 c = λ awaited held is. c.plain_front.ensures awaited
    (sym (second_is awaited c.args.text.now c.args.later.now is) ∙ sym c.byte_at-kind.ensures ∙ c.if-kind-eq85.true)

pub returns-then-kind-eq80 : goal.returns-then-kind-eq80
returns-then-kind-eq80 c = λ awaited held is. c.append_front.ensures awaited c.args.later.now held
    (sym (second_is awaited c.args.text.now c.args.later.now is) ∙ sym c.byte_at-kind.ensures ∙ c.if-kind-eq80.true) is

pub returns-then-kind-eq73 : goal.returns-then-kind-eq73
returns-then-kind-eq73 c = λ awaited held is. c.search_front.ensures awaited c.args.later.now held
    (sym (second_is awaited c.args.text.now c.args.later.now is) ∙ sym c.byte_at-kind.ensures ∙ c.if-kind-eq73.true) is

pub returns : goal.returns
returns c = λ awaited held is.
    no_kind awaited c.byte_at-kind.result (c.byte_at-kind.ensures
    ∙ second_is awaited c.args.text.now c.args.later.now is) c.if-kind-eq79.false c.if-kind-eq85.false c.if-kind-eq80.false c.if-kind-eq73.false
