use Rattle.std.proofs.Common.{◌≡◌, ◌++◌, ◌∙◌, OnOk, append_assoc, ap, subst}
use Rattle.cases.proofs.Counting.{one_run, repeated_more}
use Rattle.cases.proofs.words.put_repeated.Goals as goal

pub returns-in-len1 : goal.returns-in-len1
returns-in-len1 c = λ few. subst (λ run. OnOk c.put_run.result (c.put_run.new.word.items ≡ c.args.word.now.items ++ run))
    (one_run c.args.count c.args.once.now c.in-len1.len_at_least c.in-len1.len_below) (c.put_run.ensures few)

pub loop-preserved : goal.loop-preserved
loop-preserved c = c.in_ok-extend_from_slice.ensures.items ∙ ap (λ l. l ++ c.args.once.now) c.loop.invariant
    ∙ append_assoc c.args.word.now.items _ c.args.once.now ∙ ap (λ l. c.args.word.now.items ++ l) (repeated_more c.loop.counter c.args.once.now)
