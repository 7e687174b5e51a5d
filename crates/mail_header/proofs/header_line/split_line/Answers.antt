use Rattle.std.proofs.Common.{rules, ◌∙◌, inl, inr, ⊎_elim}
use Rattle.mail_header.proofs.Whole.{reached-more, reached-shorter, in_front-plain}
use Rattle.mail_header.proofs.header_line.split_line.Goals as goal

pub loop-rest-preserved : goal.loop-rest-preserved
loop-rest-preserved c =
    reached-more c.args.text.now c.loop-rest.end c.loop-rest.rest.now c.first_line-in-loop-rest.result.0.now
    c.first_line-in-loop-rest.result.1.now c.loop-rest.invariant (search rules) c.first_line-in-loop-rest.ensures

pub returns-clause-some : goal.returns-clause-some
returns-clause-some c =
    let reached = c.loop-rest.invariant in
    record {
      lines = reached.header ∙ in_front-plain _ c.loop-rest.rest.now (search rules);
      bytes = ⊎_elim (λ ended. inl ended.0) (λ here. inr here) reached.bytes;
      shorter = reached-shorter c.args.text.now c.loop-rest.end c.loop-rest.rest.now reached;
    }
