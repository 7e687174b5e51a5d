use Rattle.std.proofs.Common.{◌∙◌, IfErr, sym, subst}
use Rattle.cases.specs.Comparing.{Tells}
use Rattle.cases.proofs.Sameness.{if_ok, no_err, no_ok, out_of_memory, tells_memory}
use Rattle.cases.proofs.fault.same_words.Goals as goal

pub returns-in_err-due : goal.returns-in_err-due
returns-in_err-due c = record {
  same = λ words are is. no_ok c.from_residual.result _ c.from_residual.ensures.0;
  differs = λ words are is.
      tells_memory c.from_residual.result _ _
      (out_of_memory c.from_residual.result _ c.from_residual.ensures.0 c.from_residual.ensures.1 (c.in_err-due.ensures.again words are is).1);
  exact = λ words are is same.
      out_of_memory c.from_residual.result _ c.from_residual.ensures.0 c.from_residual.ensures.1 (c.in_err-due.ensures.again words are is).1;
}

pub returns : goal.returns
returns c = record {
  same = λ words are is.
      if_ok c.same_bytes.result _
      (λ ok. sym c.as_bytes-2.ensures ∙ sym (c.same_bytes.ensures.exact.0 ok) ∙ c.as_bytes.ensures ∙ (c.in_ok-due.ensures.again words are is).0);
  differs = λ words are is.
      subst (λ due. IfErr c.same_bytes.result (λ fault. Tells fault due c.args.came.now)) (c.as_bytes.ensures ∙ (c.in_ok-due.ensures.again words are is).0)
      (subst (λ came. IfErr c.same_bytes.result (λ fault. Tells fault c.as_bytes.result.now came)) c.as_bytes-2.ensures c.same_bytes.ensures.differs);
  exact = λ words are is same.
      no_err c.same_bytes.result _
      (c.same_bytes.ensures.exact.1 (c.as_bytes.ensures ∙ (c.in_ok-due.ensures.again words are is).0 ∙ sym same ∙ sym c.as_bytes-2.ensures));
}
