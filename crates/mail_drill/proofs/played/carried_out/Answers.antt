use Rattle.std.proofs.Common.{◌∙◌, sym, arith}
use Rattle.mail_drill.proofs.Courses.{has_run, passes_limit}
use Rattle.mail_drill.proofs.played.carried_out.Goals as goal

pub returns-in-Limit-clause-broken : goal.returns-in-Limit-clause-broken
returns-in-Limit-clause-broken c =
    passes_limit _ _ c.args.input.items c.args.world.now c.run-status.new.world c.run-status.result c.new-input.result c.new-input.ensures
    c.new-out.result c.run-status.new.out c.new-out.ensures c.in-Limit.is (c.run-status.ensures.goes tt)
    (omega (arith, c.if-refused-gt0.false, c.refused.ensures)) c.of.result
    (c.of.ensures ∙ c.in_ok-to_vec-in-Limit.ensures.items_if_clones_equal (λ x y same. same) ∙ c.bytes.ensures)

pub returns : goal.returns
returns c = record {
  done = has_run _ _ c.args.input.items c.args.world.now c.run-status.new.world c.run-status.result c.new-input.result c.new-input.ensures
      c.new-out.result c.run-status.new.out c.new-out.ensures (c.run-status.ensures.goes tt) (sym c.is_short.ensures ∙ c.if-is_short.false)
      (λ told. (c.run-status.ensures.journal.sides told).one_side) (λ told. (c.run-status.ensures.journal.sides told).each_one_side)
      (λ told one books have kept.
      c.run-status.ensures.moments.joined (record { tells = told; one_side = one; books = books; have = have; kept = kept }))
      (λ told one books have kept at reach left fair.
      c.run-status.ensures.moments.owned (record { tells = told; one_side = one; books = books; have = have; kept = kept }) at
      (record { tells = told; kept = kept; reach = reach; left = left; fair = fair }))
      (λ told writes came kept fair. c.run-status.ensures.server.synced writes came (record { tells = told; kept = kept; fair = fair }))
      c.run-status.ensures.outcomes.finishes
      (λ told writes came kept fair. c.run-status.ensures.outcomes.once_or_reported writes came (record { tells = told; kept = kept; fair = fair }));
  no_limit = c.in_default.not-Limit;
  broken = tt;
  foreseen = tt;
}
