use Rattle.std.proofs.Common.{◌≡◌, ◌≤◌, ◌++◌, ◌∷◌, ◌-◌, ◌+◌, [], ◌∙◌, arith, refl, rules, subst, sym, ap, List, ℕ, take, drop, length, inl, false}
use Rattle.std.proofs.lemmas.Option.{MatchOption-at_some, MatchOption-at_none}
use Rattle.std.proofs.lemmas.List.{append-nil}
use Rattle.imap_model.specs.declared.response.Response.{Response}
use Rattle.world_traits.specs.Links.{AnyStep}
use Rattle.world_traits.specs.Asking.{Asking}
use Rattle.imap_session.specs.Faults.{more_parts}
use Rattle.imap_session.specs.Knowing.{requests}
use Rattle.imap_session.specs.Replying.{read_as}
use Rattle.imap_session.specs.Sent.{joined}
use Rattle.imap_session.specs.Session.{Answered, Sending, waiting_of}
use Rattle.imap_session.proofs.Sent.{sent_all, sent_as, sent_more, sent_part}
use Rattle.imap_session.proofs.Sending.{begins_sending, begun, next_of, ready_at, end_ready, ready_arrives, ready_failed, has_parts, last_of_at}
use Rattle.imap_session.proofs.Replying.{heard_nothing, heard_at, none_append, on_on, on_done, silent_then, told_behind}
use Rattle.imap_session.proofs.NoReply.{fails_on, link_fails}
use Rattle.imap_session.proofs.Taken.{on_err_always, some_of, some_then, takes_nothing, takes_then}
use Rattle.imap_session.proofs.Talking.{linked_start, linked_then, asking_then}
use Rattle.imap_session.proofs.asking.begin.Goals as goal

pub loop-index-init : goal.loop-index-init
loop-index-init g c = record {
  files = λ t. linked_start AnyStep _;
  told = λ t. linked_start (Asking _ c.args.tag c.args.command.now) _;
  sending = λ t selected stands. begins_sending (waiting_of selected c.args.tag c.args.command.now) _ _ _ stands;
  heard = ([], tt, takes_nothing g.H.Listen.Stands _ _, λ t heard had most r. heard_nothing heard had most _ _ _ r, λ t. refl);
  sent = λ t. sym (append-nil _);
  earlier = λ t. refl;
  disk = refl;
  count = refl;
}

pub send_on-requires : goal.send_on-requires
send_on-requires g c =
    let n = next_of c.loop-index.index c.args.parts.now c.loop-index-test.true in
    record {
      ready = λ t.
          let s = c.requires.stands t in (
            s.0,
            take c.loop-index.index c.args.parts.now,
            n.0,
            n.1,
            g.L.Clocked.clock c.args.link.now,
            ready_at (waiting_of s.0 c.args.tag c.args.command.now) c.args.parts.now (take c.loop-index.index c.args.parts.now)
                c.part_at-part.result.now (drop (c.loop-index.index + 1) c.args.parts.now) (n.0 ∷ n.1) _ _ _ _ c.requires.held c.requires.text
                c.part_at-part.ensures.cut n.2 (c.loop-index.invariant.sending t s.0 s.1),
          );
      keeps = c.requires.keeps (has_parts c.args.tag c.args.command.now c.args.parts.now c.loop-index.index c.requires.text c.loop-index-test.true);
    }

pub loop-index-preserved : goal.loop-index-preserved
loop-index-preserved g c =
    let n = next_of c.loop-index.index c.args.parts.now c.loop-index-test.true in
    record {
      files = λ t. linked_then AnyStep _ _ _ (c.loop-index.invariant.files t) (c.send_on.ensures.sends.files t);
      told = λ t.
          let s = c.requires.stands t in
          let ready = ready_at (waiting_of s.0 c.args.tag c.args.command.now) c.args.parts.now (take c.loop-index.index c.args.parts.now)
          c.part_at-part.result.now (drop (c.loop-index.index + 1) c.args.parts.now) (n.0 ∷ n.1) _ _ _ _ c.requires.held c.requires.text
          c.part_at-part.ensures.cut n.2 (c.loop-index.invariant.sending t s.0 s.1) in
          asking_then _ c.args.tag c.args.command.now _ _ _ (c.loop-index.invariant.told t)
          (c.send_on.ensures.goes_on t s.0 (take c.loop-index.index c.args.parts.now) n.0 n.1 (g.L.Clocked.clock c.args.link.now) ready).told;
      sending = λ t selected stands.
          let w = waiting_of selected c.args.tag c.args.command.now in
          let ready = ready_at w c.args.parts.now (take c.loop-index.index c.args.parts.now) c.part_at-part.result.now
          (drop (c.loop-index.index + 1) c.args.parts.now) (n.0 ∷ n.1) _ _ _ _ c.requires.held c.requires.text c.part_at-part.ensures.cut n.2
          (c.loop-index.invariant.sending t selected stands) in
          let went = MatchOption-at_none _ _ c.in_default.is
          (c.in_ok-done.ensures.heard.went t selected (take c.loop-index.index c.args.parts.now) n.0 n.1 (g.L.Clocked.clock c.args.link.now) ready) in
          subst (λ (xs : List (List ℕ)). Sending w xs (g.L.Clocked.clock c.args.link.now) (g.L.Clocked.clock c.send_on.new.link)
          (g.L.Clocked.link c.send_on.new.link).connection c.send_on.new.feed) (sym c.part_at-part.ensures.more) went.1;
      heard =
          let i = c.loop-index.invariant.heard in
          let p = c.in_ok-done.ensures.heard in (
            i.0 ++ p.told,
            none_append false i.0 p.told i.1 p.none,
            takes_then g.H.Listen.Stands i.0 p.told _ _ _ _ _ _ i.2 p.takes,
            λ t heard had most r.
                let h = i.3 t heard had most r in
                on_on heard i.0 p.told c.loop-index.index had most _ _ _ _ _ _ h
                (MatchOption-at_none _ _ c.in_default.is (p.reads t (heard ++ i.0) had most h.reads)),
            λ t.
                let s = c.requires.stands t in
                let ready = ready_at (waiting_of s.0 c.args.tag c.args.command.now) c.args.parts.now (take c.loop-index.index c.args.parts.now)
                c.part_at-part.result.now (drop (c.loop-index.index + 1) c.args.parts.now) (n.0 ∷ n.1) _ _ _ _ c.requires.held c.requires.text
                c.part_at-part.ensures.cut n.2 (c.loop-index.invariant.sending t s.0 s.1) in
                let went = MatchOption-at_none _ _ c.in_default.is
                (p.went t s.0 (take c.loop-index.index c.args.parts.now) n.0 n.1 (g.L.Clocked.clock c.args.link.now) ready) in
                silent_then i.0 p.told (i.4 t) went.0,
          );
      sent = λ t. sent_more (take c.loop-index.index c.args.parts.now) c.part_at-part.result.now _ _ _ _ c.part_at-part.ensures.more
          (c.loop-index.invariant.sent t) (c.in_ok-done.ensures.sends.whole t);
      earlier = λ t. c.send_on.ensures.sends.earlier t ∙ c.loop-index.invariant.earlier t;
      disk = c.send_on.ensures.sends.blames.disk ∙ c.loop-index.invariant.disk;
      count = c.send_on.ensures.sends.blames.unfailed (search rules) ∙ c.loop-index.invariant.count;
    }

pub send-requires : goal.send-requires
send-requires g c = record {
  there = λ t.
      let s = c.requires.stands t in
      let h = (c.loop-index.invariant.sending t s.0 s.1).hears in
      (h.connection, h.there);
}

pub returns-in_err-done-clause-talks : goal.returns-in_err-done-clause-talks
returns-in_err-done-clause-talks g c = record {
  files = λ t. linked_then AnyStep _ _ _ (c.loop-index.invariant.files t) (c.send_on.ensures.sends.files t);
  told = λ t.
      let n = next_of c.loop-index.index c.args.parts.now c.loop-index-test.true in
      let s = c.requires.stands t in
      let ready = ready_at (waiting_of s.0 c.args.tag c.args.command.now) c.args.parts.now (take c.loop-index.index c.args.parts.now)
      c.part_at-part.result.now (drop (c.loop-index.index + 1) c.args.parts.now) (n.0 ∷ n.1) _ _ _ _ c.requires.held c.requires.text
      c.part_at-part.ensures.cut n.2 (c.loop-index.invariant.sending t s.0 s.1) in
      asking_then _ c.args.tag c.args.command.now _ _ _ (c.loop-index.invariant.told t)
      (c.send_on.ensures.goes_on t s.0 (take c.loop-index.index c.args.parts.now) n.0 n.1 (g.L.Clocked.clock c.args.link.now) ready).told;
  sent = λ t.
      sent_as _ _ _ _ (ap joined c.requires.text)
      (sent_part c.args.parts.now (take c.loop-index.index c.args.parts.now) c.part_at-part.result.now (drop (c.loop-index.index + 1) c.args.parts.now) _
      _ _ c.part_at-part.ensures.cut (c.loop-index.invariant.sent t) (c.send_on.ensures.sends.sent t));
  honest = λ t at is.
      let n = next_of c.loop-index.index c.args.parts.now c.loop-index-test.true in
      let s = c.requires.stands t in
      let ready = ready_at (waiting_of s.0 c.args.tag c.args.command.now) c.args.parts.now (take c.loop-index.index c.args.parts.now)
      c.part_at-part.result.now (drop (c.loop-index.index + 1) c.args.parts.now) (n.0 ∷ n.1) _ _ _ _ c.requires.held c.requires.text
      c.part_at-part.ensures.cut n.2 (c.loop-index.invariant.sending t s.0 s.1) in
      (c.send_on.ensures.goes_on t s.0 (take c.loop-index.index c.args.parts.now) n.0 n.1 (g.L.Clocked.clock c.args.link.now) ready).honest at (search rules);
  earlier = search rules;
  blames = search rules;
}

pub returns-in-Some-clause-talks : goal.returns-in-Some-clause-talks
returns-in-Some-clause-talks g c = record {
  files = λ t. linked_then AnyStep _ _ _ (c.loop-index.invariant.files t) (c.send_on.ensures.sends.files t);
  told = λ t.
      let n = next_of c.loop-index.index c.args.parts.now c.loop-index-test.true in
      let s = c.requires.stands t in
      let ready = ready_at (waiting_of s.0 c.args.tag c.args.command.now) c.args.parts.now (take c.loop-index.index c.args.parts.now)
      c.part_at-part.result.now (drop (c.loop-index.index + 1) c.args.parts.now) (n.0 ∷ n.1) _ _ _ _ c.requires.held c.requires.text
      c.part_at-part.ensures.cut n.2 (c.loop-index.invariant.sending t s.0 s.1) in
      asking_then _ c.args.tag c.args.command.now _ _ _ (c.loop-index.invariant.told t)
      (c.send_on.ensures.goes_on t s.0 (take c.loop-index.index c.args.parts.now) n.0 n.1 (g.L.Clocked.clock c.args.link.now) ready).told;
  sent = λ t.
      sent_as _ _ _ _ (ap joined c.requires.text)
      (sent_part c.args.parts.now (take c.loop-index.index c.args.parts.now) c.part_at-part.result.now (drop (c.loop-index.index + 1) c.args.parts.now) _
      _ _ c.part_at-part.ensures.cut (c.loop-index.invariant.sent t) (c.send_on.ensures.sends.sent t));
  honest = search rules;
  earlier = search rules;
  blames = search rules;
}

pub returns-in-Some-clause-heard : goal.returns-in-Some-clause-heard
returns-in-Some-clause-heard g c =
    let i = c.loop-index.invariant.heard in
    let p = c.in_ok-done.ensures.heard in
    let d = c.in-Some.done in
    let none_more : c.loop-index.index ≡ c.loop-index.index + 0 = omega arith in
    record {
      told = i.0 ++ p.told;
      none = none_append false i.0 p.told i.1 p.none;
      takes = takes_then g.H.Listen.Stands i.0 p.told _ _ _ _ _ _ i.2 p.takes;
      reads = λ t heard had most r.
          let h = i.3 t heard had most r in
          record {
            parts = c.loop-index.index;
            done = on_done heard i.0 p.told c.loop-index.index had most _ _ _ _ _ _ h c.args.tag d.ending d.code 0 c.loop-index.index
                none_more (MatchOption-at_some _ _ d c.in-Some.is (p.reads t (heard ++ i.0) had most h.reads));
            sent = sent_more (take c.loop-index.index c.args.parts.now) c.part_at-part.result.now _ _ _ _ c.part_at-part.ensures.more
                (c.loop-index.invariant.sent t) (c.in_ok-done.ensures.sends.whole t);
          };
      begun = λ t selected stands.
          let n = next_of c.loop-index.index c.args.parts.now c.loop-index-test.true in
          let w = waiting_of selected c.args.tag c.args.command.now in
          let ready = ready_at w c.args.parts.now (take c.loop-index.index c.args.parts.now)
          c.part_at-part.result.now (drop (c.loop-index.index + 1) c.args.parts.now) (n.0 ∷ n.1) _ _ _ _ c.requires.held c.requires.text
          c.part_at-part.ensures.cut n.2 (c.loop-index.invariant.sending t selected stands) in
          subst (λ (rows : List Response). Answered w (read_as rows d.ending d.code) (g.L.Clocked.clock c.args.link.now)
          (g.L.Clocked.clock c.send_on.new.link) (g.L.Clocked.link c.send_on.new.link).connection c.send_on.new.feed)
          (sym (told_behind i.0 p.told (i.4 t)))
          (MatchOption-at_some _ _ d c.in-Some.is
          (p.went t selected (take c.loop-index.index c.args.parts.now) n.0 n.1 (g.L.Clocked.clock c.args.link.now) ready));
    }

pub returns-in_err-send-clause-talks : goal.returns-in_err-send-clause-talks
returns-in_err-send-clause-talks g c = record {
  files = λ t. linked_then AnyStep _ _ _ (c.loop-index.invariant.files t) (c.send.ensures.files t);
  told = λ t.
      let s = c.requires.stands t in
      let w = waiting_of s.0 c.args.tag c.args.command.now in
      let at_end : c.loop-index.index ≡ length c.args.parts.now - 1 = omega (arith, c.loop-index-test.false, c.loop-index.auto.index-end) in
      let ready = end_ready w c.args.parts.now c.loop-index.index c.part_at-end.result.now _ _ _ _ c.requires.held c.requires.text c.requires.some
      at_end c.part_at-end.ensures.cut (c.loop-index.invariant.sending t s.0 s.1) in
      asking_then _ c.args.tag c.args.command.now _ _ _ (c.loop-index.invariant.told t)
      (ready_failed w _ c.part_at-end.result.now [] _ _ _ _ _ ready
      (c.in_err-send.ensures.told t c.args.tag c.args.command.now (take (length c.args.parts.now - 1) c.args.parts.now) [] ready.part_of
      ready.sending.awaits).failed);
  sent = λ t.
      let f = c.in_err-send.ensures.front t in
      let at_end : c.loop-index.index ≡ length c.args.parts.now - 1 = omega (arith, c.loop-index-test.false, c.loop-index.auto.index-end) in
      sent_as _ _ _ _ (ap joined c.requires.text)
      (sent_part c.args.parts.now (take (length c.args.parts.now - 1) c.args.parts.now) c.part_at-end.result.now
      (drop (length c.args.parts.now - 1 + 1) c.args.parts.now) _ _ _ c.part_at-end.ensures.cut
      (c.loop-index.invariant.sent t ∙ ap (λ (i : ℕ). (g.L.Clocked.link c.args.link.now).sent ++ joined (take i c.args.parts.now)) at_end)
      (record { n = f.0; is = f.1 }));
  honest = search rules;
  earlier = search rules;
  blames = search rules;
}

pub returns-clause-talks : goal.returns-clause-talks
returns-clause-talks g c = record {
  files = λ t. linked_then AnyStep _ _ _ (c.loop-index.invariant.files t) (c.send.ensures.files t);
  told = λ t.
      let s = c.requires.stands t in
      let w = waiting_of s.0 c.args.tag c.args.command.now in
      let at_end : c.loop-index.index ≡ length c.args.parts.now - 1 = omega (arith, c.loop-index-test.false, c.loop-index.auto.index-end) in
      let ready = end_ready w c.args.parts.now c.loop-index.index c.part_at-end.result.now _ _ _ _ c.requires.held c.requires.text c.requires.some
      at_end c.part_at-end.ensures.cut (c.loop-index.invariant.sending t s.0 s.1) in
      asking_then _ c.args.tag c.args.command.now _ _ _ (c.loop-index.invariant.told t)
      (ready_arrives w _ c.part_at-end.result.now [] _ _ _ _ _ ready
      (c.in_ok-send.ensures.told t c.args.tag c.args.command.now (take (length c.args.parts.now - 1) c.args.parts.now) [] ready.part_of
      ready.sending.awaits).done);
  sent = λ t.
      let at_end : c.loop-index.index ≡ length c.args.parts.now - 1 = omega (arith, c.loop-index-test.false, c.loop-index.auto.index-end) in
      sent_as _ _ _ _ (ap joined c.requires.text)
      (sent_part c.args.parts.now (take (length c.args.parts.now - 1) c.args.parts.now) c.part_at-end.result.now
      (drop (length c.args.parts.now - 1 + 1) c.args.parts.now) _ _ _ c.part_at-end.ensures.cut
      (c.loop-index.invariant.sent t ∙ ap (λ (i : ℕ). (g.L.Clocked.link c.args.link.now).sent ++ joined (take i c.args.parts.now)) at_end)
      (sent_all c.part_at-end.result.now _ _ (c.in_ok-send.ensures.sent t)));
  honest = search rules;
  earlier = search rules;
  blames = search rules;
}

pub returns-clause-heard : goal.returns-clause-heard
returns-clause-heard g c =
    let i = c.loop-index.invariant.heard in
    let at_end : c.loop-index.index ≡ length c.args.parts.now - 1 = omega (arith, c.loop-index-test.false, c.loop-index.auto.index-end) in
    record {
      told = i.0;
      none = i.1;
      takes = i.2;
      reads = λ t heard had most r. heard_at heard had most _ _ _ i.0 c.loop-index.index (length c.args.parts.now - 1) _
          (c.in_ok-send.ensures.received t) at_end (i.3 t heard had most r);
      begun = λ t selected stands.
          let w = waiting_of selected c.args.tag c.args.command.now in
          let ready = end_ready w c.args.parts.now c.loop-index.index c.part_at-end.result.now (g.L.Clocked.clock c.args.link.now) _ _ _
          c.requires.held c.requires.text c.requires.some at_end c.part_at-end.ensures.cut (c.loop-index.invariant.sending t selected stands) in (
            i.4 t,
            begun w (take (length c.args.parts.now - 1) c.args.parts.now) c.part_at-end.result.now _ _ _ _ _ _ ready.sending
                (c.in_ok-send.ensures.received (g.L.Clocked.server_with_files t)) ready.part_of
                (c.in_ok-send.ensures.told t c.args.tag c.args.command.now (take (length c.args.parts.now - 1) c.args.parts.now) []
                ready.part_of ready.sending.awaits).done,
          );
    }

pub returns-in_err-done-clause-some : goal.returns-in_err-done-clause-some
returns-in_err-done-clause-some g c =
    let i = c.loop-index.invariant.heard in
    on_err_always _ (some_then g.H.Listen.Stands i.0 _ _ _ _ _ i.1 i.2 c.in_err-done.ensures.some)

pub returns-in_err-send-clause-some : goal.returns-in_err-send-clause-some
returns-in_err-send-clause-some g c =
    let i = c.loop-index.invariant.heard in
    on_err_always _ (some_of g.H.Listen.Stands i.0 _ _ _ _ i.1 i.2)

pub returns-in_err-done-clause-why : goal.returns-in_err-done-clause-why
returns-in_err-done-clause-why g c = λ t heard had r fault is.
    let i = c.loop-index.invariant.heard in
    let h = i.3 t heard had c.args.most r in
    let few : requests i.0 + 1 ≤ more_parts c.args.tag c.args.command.now = omega
    (arith, h.asked, c.loop-index-test.true, ap (λ (xs : List (List ℕ)). length xs) c.requires.text) in
    fails_on heard i.0 i.1 had c.args.most _ c.args.tag 1 (more_parts c.args.tag c.args.command.now) fault few
    (c.send_on.ensures.why t (heard ++ i.0) had h.reads fault (search rules))

pub returns-in_err-send-clause-why : goal.returns-in_err-send-clause-why
returns-in_err-send-clause-why g c = λ t heard had r fault is. inl (link_fails _ heard _ _ _ fault (search rules))

pub returns-clause-whole : goal.returns-clause-whole
returns-clause-whole g c = λ t.
    let at_end : c.loop-index.index ≡ length c.args.parts.now - 1 = omega (arith, c.loop-index-test.false, c.loop-index.auto.index-end) in
    let none = last_of_at (length c.args.parts.now - 1) c.args.parts.now c.requires.some refl in
    sent_more (take (length c.args.parts.now - 1) c.args.parts.now) c.part_at-end.result.now c.args.parts.now _ _ _
    (c.part_at-end.ensures.cut ∙ ap (λ (xs : List (List ℕ)). take (length c.args.parts.now - 1) c.args.parts.now ++ c.part_at-end.result.now ∷ xs)
    none)
    (c.loop-index.invariant.sent t ∙ ap (λ (i : ℕ). (g.L.Clocked.link c.args.link.now).sent ++ joined (take i c.args.parts.now)) at_end)
    (c.in_ok-send.ensures.sent t)

pub returns-in-Some-clause-small : goal.returns-in-Some-clause-small
returns-in-Some-clause-small g c = MatchOption-at_some _ _ c.in-Some.done c.in-Some.is c.in_ok-done.ensures.small
