use Rattle.std.proofs.Common.{◌++◌, ◌∙◌, ◌<◌, ◌≤◌, ◌+◌, ◌-◌, arith, take, refl, rules, subst, sym, ap, inl, inr, false, IsTrue, List, ℕ, length}
use Rattle.std.proofs.lemmas.Option.{MatchOption-at_some, MatchOption-at_none}
use Rattle.world_traits.specs.Links.{AnyStep}
use Rattle.imap_session.specs.Faults.{more_parts}
use Rattle.imap_session.specs.Hearing.{all_told_by}
use Rattle.imap_session.specs.Knowing.{requests}
use Rattle.imap_session.specs.Most.{most_of}
use Rattle.imap_session.specs.Sent.{joined}
use Rattle.imap_session.specs.Session.{waiting_of}
use Rattle.imap_session.specs.declared.fault.SessionFault.TheVariants as faults
use Rattle.imap_session.proofs.Hearing.{as_reads, at_most, reads_from}
use Rattle.imap_session.proofs.Outcomes.{not_true}
use Rattle.imap_session.proofs.Replying.{on_done, whole_done, done_came, all_sent, bad_memory, link_memory, done_within, told_behind}
use Rattle.imap_session.proofs.Sent.{sent_none, sent_still}
use Rattle.imap_session.proofs.Sending.{begun_asked, begun_answered, concluded_as, some_parts, begun_fit}
use Rattle.imap_session.proofs.NoReply.{unfit_whole, fails_of, fails_on, memory_fails, reading_on}
use Rattle.imap_session.proofs.Taken.{heard_as, on_err_always, some_none, some_of, some_then, takes_then}
use Rattle.imap_session.proofs.Talking.{linked_then, answers_asking, asking_then}
use Rattle.imap_session.proofs.asking.exchange.Goals as goal

pub begin-requires-clause-some : goal.begin-requires-clause-some
begin-requires-clause-some g c = subst (λ (xs : List (List ℕ)). 0 < length xs) (sym (c.as_slice.ensures ∙ c.in_ok-parts.ensures.text))
    (some_parts c.args.tag c.args.command.now)

pub returns-in_err-parts-clause-fails : goal.returns-in_err-parts-clause-fails
returns-in_err-parts-clause-fails g c = record {
  why = λ t heard h fault is. inl (memory_fails _ heard _ _ _ fault (search rules));
}

pub returns-in_err-early-clause-fails : goal.returns-in_err-early-clause-fails
returns-in_err-early-clause-fails g c = record {
  why = λ t heard h fault is. fails_of heard c.args.tag _ _ _ _ _ fault c.most_of-most.ensures
      (c.begin.ensures.why t heard _ (reads_from heard c.most_of-most.result _ _ _ c.from-left.ensures h) fault (search rules));
}

-- refused before the last part
pub returns-in-Some-clause-heard : goal.returns-in-Some-clause-heard
returns-in-Some-clause-heard g c =
    let d = c.in-Some.done in
    let h = c.in_ok-early.ensures.heard in
    let early = MatchOption-at_some _ _ d c.in-Some.is c.in_ok-early.ensures.early in
    heard_as g.L.Clocked g.H.Listen.Stands c.args.tag c.args.command.now _ _ _ _ _ _ c.args.permits _ h.told d h.takes
    (record {
      answered = λ t selected stands. MatchOption-at_some _ _ d c.in-Some.is (h.begun t selected stands);
      accepted = early.accepted;
      came = λ t heard before.
          let e = MatchOption-at_some _ _ d c.in-Some.is (h.reads t heard _ _ (reads_from heard (most_of c.args.command.now) _ _ _ (c.from-left.ensures ∙ c.most_of-most.ensures) before)) in
          done_came heard h.told c.args.tag c.args.command.now d.ending d.code e.parts _ _ _ _ _ _
          (e.sent ∙ ap (λ (parts : List (List ℕ)). (g.L.Clocked.link c.args.link.now).sent ++ joined (take (e.parts + 1) parts))
          (c.as_slice.ensures ∙ c.in_ok-parts.ensures.text))
          (λ ok. absurd (early.refused ok)) e.done;
      small = record { untagged = h.takes.small; code = MatchOption-at_some _ _ d c.in-Some.is c.in_ok-early.ensures.small };
      within = λ t heard before.
          let e = MatchOption-at_some _ _ d c.in-Some.is (h.reads t heard _ _ (reads_from heard (most_of c.args.command.now) _ _ _ (c.from-left.ensures ∙ c.most_of-most.ensures) before)) in
          done_within heard h.told c.args.tag d.ending d.code _ _ _ _ _ _ e.done;
      whole = λ t ok. absurd (early.refused ok);
    })
    c.conclude.result c.conclude.ensures.last c.conclude.ensures.permits

pub returns-in-Some-clause-some : goal.returns-in-Some-clause-some
returns-in-Some-clause-some g c =
    let h = c.in_ok-early.ensures.heard in
    on_err_always c.conclude.result (some_of g.H.Listen.Stands h.told _ _ _ _ h.none h.takes)

pub returns-in_err-parts-clause-some : goal.returns-in_err-parts-clause-some
returns-in_err-parts-clause-some g c = on_err_always _ (some_none g.H.Listen.Stands _ _ refl)

pub returns-in_err-line-clause-some : goal.returns-in_err-line-clause-some
returns-in_err-line-clause-some g c =
    let h = c.in_ok-early.ensures.heard in
    on_err_always _ (some_then g.H.Listen.Stands h.told _ _ _ _ _ h.none h.takes c.in_err-line.ensures.some)

pub returns-in_err-done-clause-some : goal.returns-in_err-done-clause-some
returns-in_err-done-clause-some g c =
    let h = c.in_ok-early.ensures.heard in
    let l = c.in_ok-line.ensures.heard in
    on_err_always _ (some_then g.H.Listen.Stands h.told _ _ _ _ _ h.none h.takes (some_of g.H.Listen.Stands l.told _ _ _ _ l.none l.takes))

pub returns-clause-some : goal.returns-clause-some
returns-clause-some g c =
    let h = c.in_ok-early.ensures.heard in
    let l = c.in_ok-line.ensures.heard in
    on_err_always c.conclude-2.result
    (some_then g.H.Listen.Stands h.told _ _ _ _ _ h.none h.takes (some_of g.H.Listen.Stands l.told _ _ _ _ l.none l.takes))

pub returns-in-Some-clause-fails : goal.returns-in-Some-clause-fails
returns-in-Some-clause-fails g c = record {
  why = λ t heard h fault is.
      inl (memory_fails _ heard _ _ _ fault (c.conclude.ensures.why fault is));
}

pub returns-in-Some-clause-talks : goal.returns-in-Some-clause-talks
returns-in-Some-clause-talks g c = record {
  files = search rules;
  told = search rules;
  sent = λ t. c.begin.ensures.talks.sent t;
  honest = λ t at is. bad_memory at (c.conclude.ensures.why (faults.BadReply at) is);
  earlier = search rules;
  blames = record {
    disk = search rules;
    count = search rules;
    cause = λ is. absurd (link_memory (c.conclude.ensures.why faults.Link is));
    unfailed = search rules;
  };
}

pub listen-requires : goal.listen-requires
listen-requires g c = record {
  asked = λ t.
      let s = c.requires.stands t in
      begun_asked (waiting_of s.0 c.args.tag c.args.command.now) _ _ _ _
      (MatchOption-at_none _ _ c.in_default.is (c.in_ok-early.ensures.heard.begun t s.0 s.1)).1;
}

pub returns-in_err-line-clause-talks : goal.returns-in_err-line-clause-talks
returns-in_err-line-clause-talks g c = record {
  files = λ t. linked_then AnyStep _ _ _ (c.begin.ensures.talks.files t) (c.listen.ensures.receives.files t);
  told = λ t. asking_then _ c.args.tag c.args.command.now _ _ _ (c.begin.ensures.talks.told t)
      (answers_asking _ c.args.tag c.args.command.now _ _ (c.listen.ensures.receives.told t));
  sent = λ t. sent_still _ _ _ _ (c.begin.ensures.talks.sent t) (c.listen.ensures.receives.sent t);
  honest = λ t at is.
      c.listen.ensures.honest t at (search rules);
  earlier = search rules;
  blames = search rules;
}

pub returns-in_err-line-clause-fails : goal.returns-in_err-line-clause-fails
returns-in_err-line-clause-fails g c = record {
  why = λ t heard h fault is.
      let e = c.in_ok-early.ensures.heard in
      let r = MatchOption-at_none _ _ c.in_default.is (e.reads t heard _ _ (reads_from heard c.most_of-most.result _ _ _ c.from-left.ensures h)) in
      fails_of heard c.args.tag _ _ _ _ _ fault c.most_of-most.ensures
      (inl (reading_on heard e.told e.none _ _ _ fault (c.listen.ensures.why t (heard ++ e.told) _ r.reads fault (search rules))));
}

pub returns-in_err-done-clause-talks : goal.returns-in_err-done-clause-talks
returns-in_err-done-clause-talks g c = record {
  files = λ t. linked_then AnyStep _ _ _ (c.begin.ensures.talks.files t) (c.listen.ensures.receives.files t);
  told = λ t. asking_then _ c.args.tag c.args.command.now _ _ _ (c.begin.ensures.talks.told t)
      (answers_asking _ c.args.tag c.args.command.now _ _ (c.listen.ensures.receives.told t));
  sent = λ t. sent_still _ _ _ _ (c.begin.ensures.talks.sent t) (c.listen.ensures.receives.sent t);
  honest = λ t at is.
      let s = c.requires.stands t in
      let w = waiting_of s.0 c.args.tag c.args.command.now in
      let b = MatchOption-at_none _ _ c.in_default.is (c.in_ok-early.ensures.heard.begun t s.0 s.1) in
      let h = c.in_ok-line.ensures.heard.reads (g.L.Clocked.server_with_files t) b.1.told _ _ (as_reads b.1.told c.begin.new.left _ _ b.1.hears) in
      begun_fit w _ _ _ _ _ _ _ c.in_ok-line.ensures.heard.told c.in_ok-line.line.response b.1 (c.listen.ensures.receives.told t) h.reads.reads.hears
      (g.met.L.Link.honest c.listen.new.link t) (IsTrue false) c.in_ok-line.line.frame at not_true
      (c.finish.ensures.why (faults.BadReply at) (search rules));
  earlier = search rules;
  blames = record {
    disk = search rules;
    count = search rules;
    cause = λ is. absurd (c.finish.ensures.why faults.Link (search rules));
    unfailed = search rules;
  };
}

pub returns-in_err-done-clause-fails : goal.returns-in_err-done-clause-fails
returns-in_err-done-clause-fails g c = record {
  why = λ t heard h fault is.
      let e = c.in_ok-early.ensures.heard in
      let r = MatchOption-at_none _ _ c.in_default.is (e.reads t heard _ _ (reads_from heard (most_of c.args.command.now) _ _ _ (c.from-left.ensures ∙ c.most_of-most.ensures) h)) in
      let few : requests e.told + 0 ≤ more_parts c.args.tag c.args.command.now = omega
      (arith, r.asked, ap (λ (xs : List (List ℕ)). length xs) (c.as_slice.ensures ∙ c.in_ok-parts.ensures.text)) in
      fails_on heard e.told e.none _ _ _ c.args.tag 0 (more_parts c.args.tag c.args.command.now) fault few
      (inr (unfit_whole (heard ++ e.told) _ c.in_ok-line.line.frame c.in_ok-line.line.response _ _ _ _ _ c.args.tag fault
      (c.in_ok-line.ensures.heard.reads t (heard ++ e.told) _ _ r.reads) c.in_ok-line.ensures.spells (c.finish.ensures.why fault (search rules))));
}

-- the whole reply
pub returns-clause-talks : goal.returns-clause-talks
returns-clause-talks g c = record {
  files = λ t. linked_then AnyStep _ _ _ (c.begin.ensures.talks.files t) (c.listen.ensures.receives.files t);
  told = λ t. asking_then _ c.args.tag c.args.command.now _ _ _ (c.begin.ensures.talks.told t)
      (answers_asking _ c.args.tag c.args.command.now _ _ (c.listen.ensures.receives.told t));
  sent = λ t. sent_still _ _ _ _ (c.begin.ensures.talks.sent t) (c.listen.ensures.receives.sent t);
  honest = λ t at is. bad_memory at (c.conclude-2.ensures.why (faults.BadReply at) is);
  earlier = search rules;
  blames = record {
    disk = search rules;
    count = search rules;
    cause = λ is. absurd (link_memory (c.conclude-2.ensures.why faults.Link is));
    unfailed = search rules;
  };
}

pub returns-clause-heard : goal.returns-clause-heard
returns-clause-heard g c =
    let d = c.in_ok-done.done in
    let e = c.in_ok-early.ensures.heard in
    let l = c.in_ok-line.ensures.heard in
    heard_as g.L.Clocked g.H.Listen.Stands c.args.tag c.args.command.now _ _ _ _ _ _ c.args.permits _ (e.told ++ l.told) d
    (takes_then g.H.Listen.Stands e.told l.told _ _ _ _ _ _ e.takes l.takes)
    (record {
      answered = λ t selected stands.
          let w = waiting_of selected c.args.tag c.args.command.now in
          let b = MatchOption-at_none _ _ c.in_default.is (e.begun t selected stands) in
          let h = l.reads (g.L.Clocked.server_with_files t) b.1.told _ _ (as_reads b.1.told c.begin.new.left _ _ b.1.hears) in
          concluded_as w l.told (all_told_by (e.told ++ l.told)) d.ending d.code _ _ _ _ (told_behind e.told l.told b.0)
          (begun_answered w _ _ _ _ _ _ _ l.told c.in_ok-line.line.response b.1 (c.listen.ensures.receives.told t) h.reads.reads.hears
          (g.met.L.Link.honest c.listen.new.link t) c.args.tag d.ending d.code c.in_ok-done.ensures.value);
      accepted = c.in_ok-done.ensures.accepted;
      came = λ t heard h.
          let r = MatchOption-at_none _ _ c.in_default.is (e.reads t heard _ _ (reads_from heard (most_of c.args.command.now) _ _ _ (c.from-left.ensures ∙ c.most_of-most.ensures) h)) in
          let line = l.reads t (heard ++ e.told) _ _ r.reads in
          let whole = whole_done (heard ++ e.told) l.told c.in_ok-line.line.frame c.in_ok-line.line.response _ _ _ _ _ line c.args.tag d.ending d.code
          c.in_ok-done.ensures.value in
          let parts : ℕ = length c.as_slice.result.now - 1 + requests l.told in
          let enough : length c.as_slice.result.now - 1 ≤ parts = omega arith in
          let all : more_parts c.args.tag c.args.command.now ≤ parts = omega
          (arith, ap (λ (xs : List (List ℕ)). length xs) (c.as_slice.ensures ∙ c.in_ok-parts.ensures.text)) in
          done_came heard (e.told ++ l.told) c.args.tag c.args.command.now d.ending d.code parts _ _ _ _ _ _
          (all_sent c.as_slice.result.now _ parts _ _ (c.as_slice.ensures ∙ c.in_ok-parts.ensures.text) enough
          (c.listen.ensures.receives.sent t ∙ MatchOption-at_none _ _ c.in_default.is (c.in_ok-early.ensures.whole t)))
          (λ ok. all)
          (on_done heard e.told l.told _ _ _ _ _ _ _ _ _ r c.args.tag d.ending d.code (requests l.told) parts refl whole);
      small = record {
        untagged = (takes_then g.H.Listen.Stands e.told l.told _ _ _ _ _ _ e.takes l.takes).small;
        code = c.in_ok-done.ensures.small c.in_ok-line.ensures.small;
      };
      within = λ t heard h.
          let r = MatchOption-at_none _ _ c.in_default.is (e.reads t heard _ _ (reads_from heard (most_of c.args.command.now) _ _ _ (c.from-left.ensures ∙ c.most_of-most.ensures) h)) in
          at_most _ _ _ _ _ _ (l.reads t (heard ++ e.told) _ _ r.reads).reads.reads;
      whole = λ t ok. c.listen.ensures.receives.sent t ∙ MatchOption-at_none _ _ c.in_default.is (c.in_ok-early.ensures.whole t)
          ∙ ap (λ (parts : List (List ℕ)). (g.L.Clocked.link c.args.link.now).sent ++ joined parts) (c.as_slice.ensures ∙ c.in_ok-parts.ensures.text);
    })
    c.conclude-2.result c.conclude-2.ensures.last c.conclude-2.ensures.permits

pub returns-clause-fails : goal.returns-clause-fails
returns-clause-fails g c = record {
  why = λ t heard h fault is.
      inl (memory_fails _ heard _ _ _ fault (c.conclude-2.ensures.why fault is));
}

-- what was sent
pub returns-in_err-parts-clause-talks : goal.returns-in_err-parts-clause-talks
returns-in_err-parts-clause-talks g c = record {
  files = search rules;
  told = search rules;
  sent = λ t. sent_none _ _ _ refl;
  honest = search rules;
  earlier = search rules;
  blames = search rules;
}
