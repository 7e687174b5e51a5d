use Rattle.std.proofs.Common.{◌+◌, ◌-◌, ◌++◌, ◌∷◌, [], length, sym, ap, ◌∙◌}
use Rattle.std.proofs.lemmas.Result.{err_from_is_err_and}
use Rattle.imap_response.specs.WordLists.{words_from}
use Rattle.imap_response.proofs.LoopLemmas.{is_blank, not_blank, with_words, words_first, words_done, words_out, words_break, words_on}
use Rattle.imap_response.proofs.word_list.words.Goals as goal

pub returns-then-is_empty : goal.returns-then-is_empty
returns-then-is_empty c = sym c.loop.invariant ∙ words_done _ _ _ (is_blank _ c.loop.rest.now _ c.blank.ensures c.is_empty.ensures c.if-is_empty.true)

pub returns-in_err-run : goal.returns-in_err-run
returns-in_err-run c = let p = err_from_is_err_and c.from_residual.result c.from_residual.ensures.1 in
    rw (p.1, p.2) (words_break _ _ _ _ _ _ c.loop-test.true
    (not_blank _ c.loop.rest.now _ c.blank.ensures c.is_empty.ensures c.if-is_empty.false) c.in_err-run.ensures c.loop.invariant)

pub loop-init : goal.loop-init
loop-init c = rw c.new-words.ensures (words_first c.args.text.now)

pub loop-preserved : goal.loop-preserved
loop-preserved c =
    ap (λ words. with_words words (words_from (length c.args.text.now - (c.loop.counter + 1)) c.in_ok-run.later.now))
    (c.in_ok-push.ensures.done ∙ ap (λ word. c.loop.words ++ word ∷ []) c.in_ok-bytes_of.ensures)
    ∙ sym (words_on _ _ _ _ _ _ c.loop-test.true
    (not_blank _ c.loop.rest.now _ c.blank.ensures c.is_empty.ensures c.if-is_empty.false) c.in_ok-run.ensures) ∙ c.loop.invariant

pub returns : goal.returns
returns c = sym c.loop.invariant ∙ words_out _ _ _ _ c.loop-test.false
