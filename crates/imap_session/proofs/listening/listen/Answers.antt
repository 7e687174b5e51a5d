use Rattle.std.proofs.Common.{◌++◌, ◌∷◌, [], ◌∙◌, refl, rules, sym, append_assoc}
use Rattle.std.proofs.lemmas.List.{append-nil}
use Rattle.imap_model.specs.Talking.{Answering}
use Rattle.world_traits.specs.Links.{AnyStep}
use Rattle.imap_session.specs.Knowing.{IsEnd}
use Rattle.imap_session.proofs.Hearing.{as_reads, reads_as, reads_last_as}
use Rattle.imap_session.proofs.NoReply.{memory_fails}
use Rattle.imap_session.proofs.Reading.{asked_listens, no_end_more}
use Rattle.imap_session.proofs.Replying.{none_part}
use Rattle.imap_session.proofs.Taken.{on_err_always, some_none, some_of, some_then, takes_nothing, takes_one, takes_then}
use Rattle.imap_session.proofs.Talking.{linked_start, linked_then}
use Rattle.imap_session.proofs.listening.listen.Goals as goal

pub loop-line-init : goal.loop-line-init
loop-line-init g c = record {
  files = λ t. linked_start AnyStep _;
  told = λ t. linked_start Answering _;
  heard = ([], tt, takes_nothing g.H.Listen.Stands _ _, λ t heard had most r. reads_as heard _ had most _ _ _ (sym (append-nil heard)) r);
  sent = λ t. refl;
  earlier = λ t. refl;
  disk = refl;
  count = refl;
}

pub next-requires : goal.next-requires
next-requires g c = record {
  owed = λ t.
      let asked = c.requires.asked t in
      let i = c.loop-line.invariant.heard in
      let r = i.3 (g.L.Clocked.server_with_files t) asked.told _ _ (as_reads asked.told c.args.left.now _ _ asked.hears) in
      asked_listens c.args.part _ _ _ _ _ _ i.0 asked (c.loop-line.invariant.told t) r.hears i.1 (g.met.L.Link.honest c.loop-line.link t);
}

pub returns-in_err-line-clause-receives : goal.returns-in_err-line-clause-receives
returns-in_err-line-clause-receives g c = record {
  files = λ t. linked_then AnyStep _ _ _ (c.loop-line.invariant.files t) (c.next.ensures.receives.files t);
  told = λ t. linked_then Answering _ _ _ (c.loop-line.invariant.told t) (c.next.ensures.receives.told t);
  sent = search rules;
  earlier = search rules;
  blames = search rules;
}

pub returns-in_err-line-clause-why : goal.returns-in_err-line-clause-why
returns-in_err-line-clause-why g c = λ t heard had r fault is.
    let i = c.loop-line.invariant.heard in
    record { told = i.0; none = i.1; reading = c.next.ensures.why t (heard ++ i.0) had (i.3 t heard had c.args.most r) fault (search rules) }

pub returns-in_err-line-clause-honest : goal.returns-in_err-line-clause-honest
returns-in_err-line-clause-honest g c = λ t at is. c.next.ensures.honest t at (search rules)

pub returns-in_err-hear-clause-why : goal.returns-in_err-hear-clause-why
returns-in_err-hear-clause-why g c = λ t heard had r fault is. memory_fails _ heard _ _ _ fault (search rules)

pub returns-then-ends-clause-receives : goal.returns-then-ends-clause-receives
returns-then-ends-clause-receives g c = record {
  files = λ t. linked_then AnyStep _ _ _ (c.loop-line.invariant.files t) (c.next.ensures.receives.files t);
  told = λ t. linked_then Answering _ _ _ (c.loop-line.invariant.told t) (c.next.ensures.receives.told t);
  sent = search rules;
  earlier = search rules;
  blames = search rules;
}

pub returns-then-ends-clause-heard : goal.returns-then-ends-clause-heard
returns-then-ends-clause-heard g c =
    let i = c.loop-line.invariant.heard in
    record {
      told = i.0;
      none = i.1;
      takes = i.2;
      reads = λ t heard had most r. record {
        none = i.1;
        reads = reads_last_as _ _ c.in_ok-line.line.frame had most _ _ _ (append_assoc heard i.0 (c.in_ok-line.line.response ∷ []))
            (c.in_ok-line.ensures.reads t (heard ++ i.0) had most (i.3 t heard had most r));
      };
    }

pub returns-in_err-line-clause-some : goal.returns-in_err-line-clause-some
returns-in_err-line-clause-some g c =
    let i = c.loop-line.invariant.heard in
    on_err_always _ (some_of g.H.Listen.Stands i.0 _ _ _ _ (none_part c.args.part i.0 i.1) i.2)

pub returns-in_err-hear-clause-some : goal.returns-in_err-hear-clause-some
returns-in_err-hear-clause-some g c =
    let i = c.loop-line.invariant.heard in
    on_err_always _ (some_then g.H.Listen.Stands i.0 _ _ _ _ _ (none_part c.args.part i.0 i.1) i.2
    (some_none g.H.Listen.Stands _ _ c.in_err-hear.ensures.kept))

pub returns-in_err-hear-clause-receives : goal.returns-in_err-hear-clause-receives
returns-in_err-hear-clause-receives g c = record {
  files = λ t. linked_then AnyStep _ _ _ (c.loop-line.invariant.files t) (c.next.ensures.receives.files t);
  told = λ t. linked_then Answering _ _ _ (c.loop-line.invariant.told t) (c.next.ensures.receives.told t);
  sent = search rules;
  earlier = search rules;
  blames = search rules;
}

pub loop-line-preserved : goal.loop-line-preserved
loop-line-preserved g c =
    let i = c.loop-line.invariant.heard in
    let r = c.in_ok-line.line.response in
    let not : IsEnd c.args.part r → ⊥ = λ e. let yes = c.ends.ensures.1 e in let nay = c.if-ends.false in cc in
    record {
      files = λ t. linked_then AnyStep _ _ _ (c.loop-line.invariant.files t) (c.next.ensures.receives.files t);
      told = λ t. linked_then Answering _ _ _ (c.loop-line.invariant.told t) (c.next.ensures.receives.told t);
      heard = (
        i.0 ++ r ∷ [],
        no_end_more c.args.part i.0 r i.1 not,
        takes_then g.H.Listen.Stands i.0 (r ∷ []) _ _ _ _ _ _ i.2
            (takes_one g.H.Listen.Stands r _ _ _ _ (λ list s. c.in_ok-hear.ensures.stands list s) c.in_ok-hear.ensures.permits
            c.in_ok-line.ensures.small),
        λ t heard had most x. reads_as _ _ had most _ _ _ (append_assoc heard i.0 (r ∷ []))
            (c.in_ok-line.ensures.reads t (heard ++ i.0) had most (i.3 t heard had most x)).reads,
      );
      sent = λ t. c.next.ensures.receives.sent t ∙ c.loop-line.invariant.sent t;
      earlier = λ t. c.next.ensures.receives.earlier t ∙ c.loop-line.invariant.earlier t;
      disk = c.next.ensures.receives.blames.disk ∙ c.loop-line.invariant.disk;
      count = c.next.ensures.receives.blames.unfailed (search rules) ∙ c.loop-line.invariant.count;
    }
