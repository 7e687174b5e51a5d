use Rattle.std.proofs.Common.{sym, arith}
use Rattle.command_texts.proofs.FirstWords.{if_none, none_empty, none_ends, none_here, word_here}
use Rattle.command_texts.proofs.first_word.tag_in.Goals as goal

pub returns-in_err-end-clause-none : goal.returns-in_err-end-clause-none
returns-in_err-end-clause-none c = if_none c.from_residual.result (none_here c.args.text.now (sym c.in_err-end.ensures.place))

pub returns-then-end-eq0-clause-none : goal.returns-then-end-eq0-clause-none
returns-then-end-eq0-clause-none c = none_empty c.args.text.now c.in_ok-end.end (sym c.in_ok-end.ensures.place) (omega (arith, c.if-end-eq0.true))

pub returns-then-not-ends_word-clause-none : goal.returns-then-not-ends_word-clause-none
returns-then-not-ends_word-clause-none c = none_ends c.args.text.now c.in_ok-end.end _ (sym c.in_ok-end.ensures.place)
    (λ ends. let is = c.ends_word.ensures.1 ends in let isnt = c.if-not-ends_word.true in cc)

pub returns-clause-some : goal.returns-clause-some
returns-clause-some c = word_here c.args.text.now c.in_ok-end.end _ (sym c.in_ok-end.ensures.place)
    (λ e. omega (arith, e, c.if-end-eq0.false)) (c.ends_word.ensures.0 c.if-not-ends_word.false)
