use Rattle.std.proofs.Common.{refl, sym, ◌∙◌, arith}
use Rattle.mail_drill.proofs.CalmRuns.{calm_ends, no_disk_fault, zero_stays}
use Rattle.mail_drill.proofs.Courses.{has_run, passes_limit}
use Rattle.mail_drill.proofs.played.carried_out_calmly.Goals as goal

pub returns-in-Limit-clause-broken : goal.returns-in-Limit-clause-broken
returns-in-Limit-clause-broken c =
    passes_limit _ _ c.args.input.items c.args.world.now.quiet c.run-status.new.world.quiet c.run-status.result c.new-input.result c.new-input.ensures
    c.new-out.result c.run-status.new.out c.new-out.ensures c.in-Limit.is (c.run-status.ensures.goes tt)
    (omega (arith, c.if-refused-gt0.false, c.refused.ensures)) c.of.result
    (c.of.ensures ∙ c.in_ok-to_vec-in-Limit.ensures.items_if_clones_equal (λ x y same. same) ∙ c.bytes.ensures)

pub returns : goal.returns
returns c =
    let ran = has_run _ _ c.args.input.items c.args.world.now.quiet c.run-status.new.world.quiet c.run-status.result c.new-input.result
    c.new-input.ensures c.new-out.result c.run-status.new.out c.new-out.ensures (c.run-status.ensures.goes tt)
    (sym c.is_short.ensures ∙ c.if-is_short.false)
    (λ told. (c.run-status.ensures.journal.sides told).one_side) (λ told. (c.run-status.ensures.journal.sides told).each_one_side)
    (λ told one books have kept.
    c.run-status.ensures.moments.joined (record { tells = told; one_side = one; books = books; have = have; kept = kept }))
    (λ told one books have kept at reach left fair.
    c.run-status.ensures.moments.owned (record { tells = told; one_side = one; books = books; have = have; kept = kept }) at
    (record { tells = told; kept = kept; reach = reach; left = left; fair = fair }))
    (λ told writes came kept fair. c.run-status.ensures.server.synced writes came (record { tells = told; kept = kept; fair = fair }))
    c.run-status.ensures.outcomes.finishes
    (λ told writes came kept fair. c.run-status.ensures.outcomes.once_or_reported writes came (record { tells = told; kept = kept; fair = fair })) in
    let unfailed = zero_stays _ _ (omega (arith, c.if-refused-gt0.false, c.refused.ensures)) in
    record {
      done = record {
        ran = ran;
        no_disk = λ is. no_disk_fault _ _ c.args.input.items c.args.world.now.quiet c.run-status.new.world.quiet c.run-status.result ran
            c.run-status.new.world.calm (c.run-status.ensures.causes.disk is);
        no_input = λ is. zero_stays 0 0 refl (c.run-status.ensures.streams.reads.input_fault is);
        no_output = λ is. unfailed (c.run-status.ensures.streams.sink.output is);
        no_memory = c.in_default.not-Memory;
        no_limit = c.in_default.not-Limit;
        completes = λ writes kept untouched waits.
            calm_ends _ _ c.args.input.items c.args.world.now.quiet c.run-status.new.world.quiet c.run-status.result ran c.run-status.new.world.calm
            writes untouched (c.run-status.ensures.link.connects.at_first tt) (λ is. c.run-status.ensures.words.0 is) c.run-status.ensures.causes.disk
            c.run-status.ensures.causes.link_fault (λ is. unfailed (c.run-status.ensures.streams.sink.output is)) c.in_default.not-Limit
            (λ fair is. c.run-status.ensures.server.faultless (record { tells = tt; kept = kept; fair = fair }) is) waits
            (λ fair serving no_disk no_link.
            c.run-status.ensures.complete_play writes (record { tells = tt; kept = kept; fair = fair }) serving waits no_disk no_link unfailed
            c.in_default.not-Limit)
            c.in_default.not-Memory;
      };
      broken = tt;
      foreseen = tt;
    }
