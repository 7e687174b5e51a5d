use Rattle.std.proofs.Common.{◌≡◌, ◌∙◌, [], map, sym, subst}
use Rattle.cases.specs.Answers.{added, one_form}
use Rattle.cases.specs.Reading.{Reads}
use Rattle.cases.specs.declared.fault.WordFault.TheVariants.{Memory}
use Rattle.cases.proofs.ReadAgain.{out_by}
use Rattle.cases.proofs.Sameness.{empty_text, none_is, of_some, some_text}
use Rattle.cases.proofs.fault.one_form.Goals as goal

pub returns-then-is_empty : goal.returns-then-is_empty
returns-then-is_empty c = record {
  again = λ words are is.
      (c.new.ensures ∙ none_is words are (sym (empty_text c.args.text.now c.is_empty.result c.is_empty.ensures c.if-is_empty.true) ∙ is), tt);
}

pub returns-in_err-words : goal.returns-in_err-words
returns-in_err-words c = record {
  again = λ words are is.
      out_by c.from_residual.result _ c.in_err-words.field-0.0 c.from_residual.ensures.0 c.from_residual.ensures.1
      (of_some (λ _. c.in_err-words.field-0.0 ≡ Memory) c.args.text.now words
      (some_text c.args.text.now c.is_empty.result c.is_empty.ensures c.if-is_empty.false) are is
      (λ first more all same. (c.in_err-words.ensures.again first more all (c.as_bytes.ensures.value ∙ same)).1));
}

pub returns : goal.returns
returns c = record {
  again = λ words are is.
      subst (λ read. Reads c.of.result (λ answer. answer ≡ added [] (map one_form read)))
      (c.deref.ensures.value
      ∙ of_some (λ read. c.in_ok-words.words.items ≡ read) c.args.text.now words
      (some_text c.args.text.now c.is_empty.result c.is_empty.ensures c.if-is_empty.false) are is
      (λ first more all same. (c.in_ok-words.ensures.again first more all (c.as_bytes.ensures.value ∙ same)).0))
      c.of.ensures;
}
