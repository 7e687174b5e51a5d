use Rattle.std.proofs.Common.{◌∷◌, ◌∙◌, rules, inl, inr, refl, true, IsTrue}
use Rattle.world_traits.specs.Links.{AnyStep}
use Rattle.imap_session.specs.Session.{waiting_of}
use Rattle.imap_session.specs.declared.fault.SessionFault.TheVariants as faults
use Rattle.imap_session.proofs.Hearing.{as_reads, reads_at}
use Rattle.imap_session.proofs.NoReply.{link_fails, part_fails, unfit_part}
use Rattle.imap_session.proofs.Replying.{none_weaker}
use Rattle.imap_session.proofs.Sent.{sent_all}
use Rattle.imap_session.proofs.Sending.{half_asked, half_fit, half_sent, on_ok_always, one_turned, ready_arrives, ready_failed}
use Rattle.imap_session.proofs.Taken.{on_err_always, some_none, some_of, turned_heard}
use Rattle.imap_session.proofs.Talking.{linked_then, answers_asking, asking_then}
use Rattle.imap_session.proofs.asking.send_on.Goals as goal

pub send-requires : goal.send-requires
send-requires g c = record { there = λ t. let s = (c.requires.ready t).5.sending in (s.hears.connection, s.hears.there) }

pub listen-requires : goal.listen-requires
listen-requires g c = record {
  asked = λ t.
      let r = c.requires.ready t in
      let w = waiting_of r.0 c.args.tag c.args.command.now in
      let ready = r.5 in
      half_asked w r.1 c.args.part.now r.4 _ _ _
      (half_sent w r.1 c.args.part.now r.4 _ _ _ _ _ ready.sending (c.in_ok-send.ensures.received (g.L.Clocked.server_with_files t)) r.2 r.3
      ready.part_of
      (c.in_ok-send.ensures.told t c.args.tag c.args.command.now r.1 (r.2 ∷ r.3) ready.part_of ready.sending.awaits).done);
}

pub returns-in_err-send-clause-sends : goal.returns-in_err-send-clause-sends
returns-in_err-send-clause-sends g c = record {
  files = search rules;
  sent = λ t. let f = c.in_err-send.ensures.front t in record { n = f.0; is = f.1 };
  whole = search rules;
  earlier = search rules;
  blames = search rules;
}

pub returns-in_err-send-clause-goes_on : goal.returns-in_err-send-clause-goes_on
returns-in_err-send-clause-goes_on g c = λ t selected before next behind start ready.
    let w = waiting_of selected c.args.tag c.args.command.now in
    record {
      told = ready_failed w before c.args.part.now (next ∷ behind) start _ _ _ _ ready
          (c.in_err-send.ensures.told t c.args.tag c.args.command.now before (next ∷ behind) ready.part_of ready.sending.awaits).failed;
      honest = search rules;
    }

pub returns-in_err-line-clause-sends : goal.returns-in_err-line-clause-sends
returns-in_err-line-clause-sends g c = record {
  files = λ t. linked_then AnyStep _ _ _ (c.send.ensures.files t) (c.listen.ensures.receives.files t);
  sent = λ t. sent_all c.args.part.now _ _ (c.listen.ensures.receives.sent t ∙ c.in_ok-send.ensures.sent t);
  whole = search rules;
  earlier = search rules;
  blames = search rules;
}

pub returns-in_err-line-clause-goes_on : goal.returns-in_err-line-clause-goes_on
returns-in_err-line-clause-goes_on g c = λ t selected before next behind start ready.
    let w = waiting_of selected c.args.tag c.args.command.now in
    let sent = (c.in_ok-send.ensures.told t c.args.tag c.args.command.now before (next ∷ behind) ready.part_of ready.sending.awaits).done in
    record {
      told = asking_then _ c.args.tag c.args.command.now _ _ _
          (ready_arrives w before c.args.part.now (next ∷ behind) start _ _ _ _ ready sent)
          (answers_asking _ c.args.tag c.args.command.now _ _ (c.listen.ensures.receives.told t));
      honest = λ at is. c.listen.ensures.honest t at (search rules);
    }

pub returns-clause-sends : goal.returns-clause-sends
returns-clause-sends g c = record {
  files = λ t. linked_then AnyStep _ _ _ (c.send.ensures.files t) (c.listen.ensures.receives.files t);
  sent = λ t. sent_all c.args.part.now _ _ (c.listen.ensures.receives.sent t ∙ c.in_ok-send.ensures.sent t);
  whole = λ t. on_ok_always c.turned.result (c.listen.ensures.receives.sent t ∙ c.in_ok-send.ensures.sent t);
  earlier = search rules;
  blames = record {
    disk = search rules;
    count = search rules;
    cause = λ is. absurd (c.turned.ensures.why faults.Link is);
    unfailed = search rules;
  };
}

pub returns-clause-goes_on : goal.returns-clause-goes_on
returns-clause-goes_on g c = λ t selected before next behind start ready.
    let w = waiting_of selected c.args.tag c.args.command.now in
    let sent = (c.in_ok-send.ensures.told t c.args.tag c.args.command.now before (next ∷ behind) ready.part_of ready.sending.awaits).done in
    let half = half_sent w before c.args.part.now start _ _ _ _ _ ready.sending (c.in_ok-send.ensures.received (g.L.Clocked.server_with_files t)) next
    behind ready.part_of sent in
    let h = c.in_ok-line.ensures.heard.reads (g.L.Clocked.server_with_files t) half.told _ _ (as_reads half.told c.args.left.now _ _ half.hears) in
    record {
      told = asking_then _ c.args.tag c.args.command.now _ _ _
          (ready_arrives w before c.args.part.now (next ∷ behind) start _ _ _ _ ready sent)
          (answers_asking _ c.args.tag c.args.command.now _ _ (c.listen.ensures.receives.told t));
      honest = λ at is. half_fit w before c.args.part.now start _ _ _ _ _ _ c.in_ok-line.ensures.heard.told c.in_ok-line.line.response half
          (c.listen.ensures.receives.told t) h.reads.reads.hears (g.met.L.Link.honest c.listen.new.link t) c.requires.keeps (IsTrue true)
          c.in_ok-line.line.frame at (c.turned.ensures.why (faults.BadReply at) is);
    }

pub returns-clause-heard : goal.returns-clause-heard
returns-clause-heard g c =
    let h = c.in_ok-line.ensures.heard in
    turned_heard g.L.Clocked g.H.Listen.Stands c.args.tag c.args.command.now c.args.part.now _ _ _ _ _ _ _ _ _ _ _ c.in_ok-line.line h
    (λ t. c.in_ok-send.ensures.received t)
    (λ t selected before next behind start ready o is.
    let w = waiting_of selected c.args.tag c.args.command.now in
    let sent = (c.in_ok-send.ensures.told t c.args.tag c.args.command.now before (next ∷ behind) ready.part_of ready.sending.awaits).done in
    let half = half_sent w before c.args.part.now start _ _ _ _ _ ready.sending
    (c.in_ok-send.ensures.received (g.L.Clocked.server_with_files t)) next behind ready.part_of sent in
    let to = h.reads (g.L.Clocked.server_with_files t) half.told _ _ (as_reads half.told c.args.left.now _ _ half.hears) in
    one_turned w before c.args.part.now start _ _ _ _ _ _ h.told _ c.in_ok-line.line.response half (c.listen.ensures.receives.told t)
    to.reads.reads.hears (g.met.L.Link.honest c.listen.new.link t) c.requires.keeps refl o is)
    c.turned.result c.turned.ensures.value

pub returns-in_err-send-clause-some : goal.returns-in_err-send-clause-some
returns-in_err-send-clause-some g c = on_err_always _ (some_none g.H.Listen.Stands _ _ refl)

pub returns-clause-some : goal.returns-clause-some
returns-clause-some g c =
    let h = c.in_ok-line.ensures.heard in
    on_err_always c.turned.result (some_of g.H.Listen.Stands h.told _ _ _ _ (none_weaker h.told h.none) h.takes)

pub returns-in_err-send-clause-why : goal.returns-in_err-send-clause-why
returns-in_err-send-clause-why g c = λ t heard had r fault is. inl (link_fails _ heard _ _ _ fault (search rules))

pub returns-in_err-line-clause-why : goal.returns-in_err-line-clause-why
returns-in_err-line-clause-why g c = λ t heard had r fault is.
    inl (part_fails heard had c.args.most _ fault
    (c.listen.ensures.why t heard had (reads_at heard had c.args.most _ _ _ _ (c.in_ok-send.ensures.received t) r) fault (search rules)))

pub returns-clause-why : goal.returns-clause-why
returns-clause-why g c = λ t heard had r fault is.
    inr (unfit_part heard _ c.in_ok-line.line.frame c.in_ok-line.line.response had c.args.most _ _ _ c.args.tag fault
    (c.in_ok-line.ensures.heard.reads t heard had c.args.most (reads_at heard had c.args.most _ _ _ _ (c.in_ok-send.ensures.received t) r))
    c.in_ok-line.ensures.spells (c.turned.ensures.why fault is))

pub returns-clause-small : goal.returns-clause-small
returns-clause-small g c = c.turned.ensures.small c.in_ok-line.ensures.small
