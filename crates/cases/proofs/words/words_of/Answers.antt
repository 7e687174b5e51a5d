use Rattle.std.proofs.Common.{◌++◌, ◌∷◌, ◌∙◌, [], Some, ap, not, sym, subst}
use Rattle.std.specs.Option.{option_copied}
use Rattle.cases.specs.Reading.{ended}
use Rattle.cases.proofs.ReadAgain.{Unread, after, left_of, next, out_by, unread, word_is}
use Rattle.cases.proofs.words.words_of.Goals as goal

pub loop-left-init : goal.loop-left-init
loop-left-init c = λ first more texts is.
    subst (λ items. Unread items (first ∷ more) (Some c.args.line.now)) (sym c.new-words.ensures.items) (unread c.args.line.now first more texts is)

pub returns-in_err-left : goal.returns-in_err-left
returns-in_err-left c = record {
  again = λ first more texts is.
      let n = next c.loop-left.words.items (first ∷ more) c.in-Some.text.now
      (subst (λ left. Unread c.loop-left.words.items (first ∷ more) (option_copied left)) c.in-Some.is (c.loop-left.invariant first more texts is)) in
      out_by c.from_residual.result _ c.in_err-left.field-0.0 c.from_residual.ensures.0 c.from_residual.ensures.1
      (c.in_err-left.ensures.again n.word (left_of n.more) n.one n.is).1;
}

pub loop-left-preserved : goal.loop-left-preserved
loop-left-preserved c = λ first more texts is.
    let n = next c.loop-left.words.items (first ∷ more) c.in-Some.text.now
    (subst (λ left. Unread c.loop-left.words.items (first ∷ more) (option_copied left)) c.in-Some.is (c.loop-left.invariant first more texts is)) in
    let both = (c.in_ok-left.ensures.again n.word (left_of n.more) n.one n.is).0 in
    after c.loop-left.words.items (first ∷ more) c.push.new.self.items c.in-Some.text.now (option_copied c.in_ok-left.left) n both.0
    (c.in_ok-push.ensures.items
    ∙ ap (λ w. c.loop-left.words.items ++ w ∷ [])
    (word_is n.word _ c.in-Some.text.now (ended (left_of n.more)) n.one n.is
    (c.of.ensures ∙ both.1 ∙ ap (λ l. l ++ n.word.bytes) c.new-bytes.ensures.items) (ap not c.is_quoted.ensures)))
