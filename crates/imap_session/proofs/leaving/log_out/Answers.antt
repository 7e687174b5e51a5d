use Rattle.std.proofs.Common.{◌++◌, [], ◌∙◌, ◌+◌, ℕ, refl, rules, ap, inl, List}
use Rattle.std.proofs.Common.{length}
use Rattle.imap_model.specs.declared.command.Command.TheVariants as commands
use Rattle.world_traits.specs.Links.{AnyStep}
use Rattle.imap_session.specs.Dialogue.{next_tag}
use Rattle.imap_session.specs.Leaving.{IsFarewell}
use Rattle.imap_session.specs.Most.{most_since}
use Rattle.imap_session.specs.Session.{waiting_of}
use Rattle.imap_session.specs.declared.fault.SessionFault.TheVariants as faults
use Rattle.imap_session.proofs.Dialogues.{on_ok_then}
use Rattle.imap_session.proofs.Farewells.{left_so, logout_alone, logout_ready, logout_sent, stays_so}
use Rattle.imap_session.proofs.Hearing.{at_most, reads_at, reads_from}
use Rattle.imap_session.proofs.NoReply.{last_whole, link_fails, memory_fails}
use Rattle.imap_session.proofs.Sending.{begun, begun_asked, begun_fit, on_ok_always, ready_arrives, ready_failed}
use Rattle.imap_session.proofs.Sent.{sent_all, sent_as, sent_none}
use Rattle.imap_session.proofs.Talking.{answers_asking, asking_then, linked_then}
use Rattle.imap_session.proofs.leaving.log_out.Goals as goal

pub returns-in_err-parts-clause-leaves : goal.returns-in_err-parts-clause-leaves
returns-in_err-parts-clause-leaves g c = record {
  left = search rules;
  within = search rules;
  whole = search rules;
  why = λ t heard h fault is. inl (memory_fails _ heard _ _ _ fault (search rules));
}

pub returns-in_err-send-clause-leaves : goal.returns-in_err-send-clause-leaves
returns-in_err-send-clause-leaves g c = record {
  left = search rules;
  within = search rules;
  whole = search rules;
  why = λ t heard h fault is. inl (link_fails _ heard _ _ _ fault (search rules));
}

pub returns-in_err-parts-clause-talks : goal.returns-in_err-parts-clause-talks
returns-in_err-parts-clause-talks g c = record {
  files = search rules;
  told = search rules;
  sent = λ t. sent_none _ _ _ refl;
  honest = search rules;
  earlier = search rules;
  blames = search rules;
}

pub only_part-requires : goal.only_part-requires
only_part-requires g c = ap (λ (xs : List (List ℕ)). length xs) (c.as_slice.ensures ∙ c.in_ok-parts.ensures.text) ∙ logout_alone (c.args.count + 1)

pub send-requires : goal.send-requires
send-requires g c = record { there = λ t. let s = c.requires.stands t in (s.1.hears.connection, s.1.hears.there) }

pub returns-in_err-send-clause-talks : goal.returns-in_err-send-clause-talks
returns-in_err-send-clause-talks g c = record {
  files = search rules;
  told = λ t.
      let s = c.requires.stands t in
      let ready = logout_ready s.0 (next_tag c.args.count) _ c.only_part.result.now _ _ _ s.1 c.write.ensures.sent
      (c.as_slice.ensures ∙ c.in_ok-parts.ensures.text) c.only_part.ensures in
      ready_failed (waiting_of s.0 (next_tag c.args.count) commands.Logout) [] c.only_part.result.now [] _ _ _ _ _ ready
      (c.in_err-send.ensures.told t (next_tag c.args.count) commands.Logout [] [] ready.part_of ready.sending.awaits).failed;
  sent = λ t.
      let f = c.in_err-send.ensures.front t in
      sent_as c.only_part.result.now _ _ _ (logout_sent (next_tag c.args.count) _ _ (c.as_slice.ensures
      ∙ c.in_ok-parts.ensures.text) c.only_part.ensures) (record { n = f.0; is = f.1 });
  honest = search rules;
  earlier = search rules;
  blames = search rules;
}

pub listen-requires : goal.listen-requires
listen-requires g c = record {
  asked = λ t.
      let s = c.requires.stands t in
      let w = waiting_of s.0 (next_tag c.args.count) commands.Logout in
      let ready = logout_ready s.0 (next_tag c.args.count) _ c.only_part.result.now _ _ _ s.1 c.write.ensures.sent
      (c.as_slice.ensures ∙ c.in_ok-parts.ensures.text) c.only_part.ensures in
      begun_asked w _ _ _ _ (begun w [] c.only_part.result.now _ _ _ _ _ _ ready.sending (c.in_ok-send.ensures.received
      (g.L.Clocked.server_with_files t)) ready.part_of
      (c.in_ok-send.ensures.told t (next_tag c.args.count) commands.Logout [] [] ready.part_of ready.sending.awaits).done);
}

pub returns-in_err-line-clause-talks : goal.returns-in_err-line-clause-talks
returns-in_err-line-clause-talks g c = record {
  files = λ t. linked_then AnyStep _ _ _ (c.send.ensures.files t) (c.listen.ensures.receives.files t);
  told = λ t.
      let s = c.requires.stands t in
      let ready = logout_ready s.0 (next_tag c.args.count) _ c.only_part.result.now _ _ _ s.1 c.write.ensures.sent
      (c.as_slice.ensures ∙ c.in_ok-parts.ensures.text) c.only_part.ensures in
      asking_then _ (next_tag c.args.count) commands.Logout _ _ _
      (ready_arrives (waiting_of s.0 (next_tag c.args.count) commands.Logout) [] c.only_part.result.now [] _ _ _ _ _ ready
      (c.in_ok-send.ensures.told t (next_tag c.args.count) commands.Logout [] [] ready.part_of ready.sending.awaits).done)
      (answers_asking _ (next_tag c.args.count) commands.Logout _ _ (c.listen.ensures.receives.told t));
  sent = λ t.
      sent_as c.only_part.result.now _ _ _ (logout_sent (next_tag c.args.count) _ _ (c.as_slice.ensures
      ∙ c.in_ok-parts.ensures.text) c.only_part.ensures)
      (sent_all c.only_part.result.now _ _ (c.listen.ensures.receives.sent t ∙ c.in_ok-send.ensures.sent t));
  honest = λ t at is. c.listen.ensures.honest t at (search rules);
  earlier = search rules;
  blames = search rules;
}

pub returns-in_err-line-clause-leaves : goal.returns-in_err-line-clause-leaves
returns-in_err-line-clause-leaves g c = record {
  left = search rules;
  within = search rules;
  whole = search rules;
  why = λ t heard h fault is.
      inl (c.listen.ensures.why t heard _ (reads_at heard _ _ _ _ _ _ (c.in_ok-send.ensures.received t) (reads_from heard most_since _ _ _ c.from-left.ensures h)) fault
      (search rules));
}

pub returns-clause-talks : goal.returns-clause-talks
returns-clause-talks g c = record {
  files = λ t. linked_then AnyStep _ _ _ (c.send.ensures.files t) (c.listen.ensures.receives.files t);
  told = λ t.
      let s = c.requires.stands t in
      let ready = logout_ready s.0 (next_tag c.args.count) _ c.only_part.result.now _ _ _ s.1 c.write.ensures.sent
      (c.as_slice.ensures ∙ c.in_ok-parts.ensures.text) c.only_part.ensures in
      asking_then _ (next_tag c.args.count) commands.Logout _ _ _
      (ready_arrives (waiting_of s.0 (next_tag c.args.count) commands.Logout) [] c.only_part.result.now [] _ _ _ _ _ ready
      (c.in_ok-send.ensures.told t (next_tag c.args.count) commands.Logout [] [] ready.part_of ready.sending.awaits).done)
      (answers_asking _ (next_tag c.args.count) commands.Logout _ _ (c.listen.ensures.receives.told t));
  sent = λ t.
      sent_as c.only_part.result.now _ _ _ (logout_sent (next_tag c.args.count) _ _ (c.as_slice.ensures
      ∙ c.in_ok-parts.ensures.text) c.only_part.ensures)
      (sent_all c.only_part.result.now _ _ (c.listen.ensures.receives.sent t ∙ c.in_ok-send.ensures.sent t));
  honest = λ t at is.
      let f = g.L.Clocked.server_with_files t in
      let s = c.requires.stands t in
      let w = waiting_of s.0 (next_tag c.args.count) commands.Logout in
      let ready = logout_ready s.0 (next_tag c.args.count) _ c.only_part.result.now _ _ _ s.1 c.write.ensures.sent
      (c.as_slice.ensures ∙ c.in_ok-parts.ensures.text) c.only_part.ensures in
      let started = begun w [] c.only_part.result.now _ _ _ _ _ _ ready.sending (c.in_ok-send.ensures.received f) ready.part_of
      (c.in_ok-send.ensures.told t (next_tag c.args.count) commands.Logout [] [] ready.part_of ready.sending.awaits).done in
      let reads = c.in_ok-line.ensures.heard.reads f started.told _ _ (reads_from started.told most_since _ _ _ c.from-left.ensures started.hears) in
      begun_fit w _ _ _ _ _ _ _ c.in_ok-line.ensures.heard.told c.in_ok-line.line.response started (c.listen.ensures.receives.told t) reads.reads.reads.hears
      (g.met.L.Link.honest c.listen.new.link t) ⊥ c.in_ok-line.line.frame at (λ no. no) (c.farewell.ensures.why (faults.BadReply at) is).0;
  earlier = search rules;
  blames = record {
    disk = search rules;
    count = search rules;
    cause = λ is. absurd (c.farewell.ensures.why faults.Link is).0;
    unfailed = search rules;
  };
}

pub returns-clause-leaves : goal.returns-clause-leaves
returns-clause-leaves g c = record {
  left = λ t heard h.
      let r = c.in_ok-line.ensures.heard.reads t heard _ _
      (reads_at heard _ _ _ _ _ _ (c.in_ok-send.ensures.received t) (reads_from heard most_since _ _ _ c.from-left.ensures h)) in
      on_ok_then c.farewell.result (IsFarewell (next_tag c.args.count) c.in_ok-line.line.response) _
      (λ f. left_so heard c.in_ok-line.ensures.heard.told c.in_ok-line.line.response (next_tag c.args.count) _ _ r.reads.reads.hears r.none f)
      c.farewell.ensures.farewell;
  within = λ t heard h.
      let r = c.in_ok-line.ensures.heard.reads t heard _ _
      (reads_at heard _ _ _ _ _ _ (c.in_ok-send.ensures.received t) (reads_from heard most_since _ _ _ c.from-left.ensures h)) in
      on_ok_always c.farewell.result (at_most _ _ _ _ _ _ r.reads.reads);
  whole = λ t.
      on_ok_always c.farewell.result
      (c.listen.ensures.receives.sent t ∙ c.in_ok-send.ensures.sent t
      ∙ ap (λ (x : List ℕ). (g.L.Clocked.link c.args.link.now).sent ++ x)
      (logout_sent (next_tag c.args.count) _ _ (c.as_slice.ensures ∙ c.in_ok-parts.ensures.text) c.only_part.ensures));
  why = λ t heard h fault is.
      let r = c.in_ok-line.ensures.heard.reads t heard _ _
      (reads_at heard _ _ _ _ _ _ (c.in_ok-send.ensures.received t) (reads_from heard most_since _ _ _ c.from-left.ensures h)) in
      stays_so heard (next_tag c.args.count) _ _ c.in_ok-line.line.frame c.in_ok-line.line.response fault
      (last_whole heard _ c.in_ok-line.line.frame c.in_ok-line.line.response _ _ _ _ _ r c.in_ok-line.ensures.spells) (c.farewell.ensures.why fault is);
}
