use Rattle.std.proofs.Common.{[], None, Some, arith, refl, rules, ◌+◌, ℕ, sym, ◌∙◌, ap, subst}
use Rattle.std.specs.Option.{option_copied}
use Rattle.mail_base.specs.declared.tag.Tag.TheVariants as tags
use Rattle.world_traits.specs.Links.{AnyStep}
use Rattle.imap_session.specs.Faults.{IsCount}
use Rattle.imap_session.specs.Replying.{read_as}
use Rattle.imap_session.proofs.Talking.{linked_then}
use Rattle.play_driver.specs.Sessions.{selected_in, count_of}
use Rattle.play_driver.proofs.Gathers.{answered_by, answered_two, both_told, came_one, came_two, select_told, sent_two, why_two}
use Rattle.play_driver.proofs.GroundChains.{both_grounded, select_grounded}
use Rattle.play_driver.proofs.OverOne.{both_over, select_over}
use Rattle.play_driver.proofs.gathering.gather.Goals as goal

pub returns-in_err-answer-clause-gathers : goal.returns-in_err-answer-clause-gathers
returns-in_err-answer-clause-gathers g c = record {
  files = search rules;
  told = λ t. select_told c.args.name.now c.mark_kept.result (count_of c.args.session) _ _ (c.select_into.ensures.talks.told t);
  asks = λ t. select_over c.args.name.now c.mark_kept.result (count_of c.args.session) _ _ (c.select_into.ensures.talks.told t);
  grounds = λ t names is.
      select_grounded names c.args.name.now is c.mark_kept.result (count_of c.args.session) _ _ (c.select_into.ensures.talks.told t);
  sent = search rules;
  why = search rules;
  honest = search rules;
  earlier = c.select_into.ensures.talks.earlier;
  blames = search rules;
}

pub returns-then-not-is_fetch_due-clause-gathers : goal.returns-then-not-is_fetch_due-clause-gathers
returns-then-not-is_fetch_due-clause-gathers g c = record {
  files = search rules;
  told = λ t. select_told c.args.name.now c.mark_kept.result (count_of c.args.session) _ _ (c.select_into.ensures.talks.told t);
  asks = λ t. select_over c.args.name.now c.mark_kept.result (count_of c.args.session) _ _ (c.select_into.ensures.talks.told t);
  grounds = λ t names is.
      select_grounded names c.args.name.now is c.mark_kept.result (count_of c.args.session) _ _ (c.select_into.ensures.talks.told t);
  sent = search rules;
  why = search rules;
  honest = search rules;
  earlier = c.select_into.ensures.talks.earlier;
  blames = search rules;
}

pub returns-then-not-is_fetch_due-clause-heard : goal.returns-then-not-is_fetch_due-clause-heard
returns-then-not-is_fetch_due-clause-heard g c = record {
  gathered = record { selected = (read_as c.in_ok-answer.ensures.heard.0 c.in_ok-answer.answer.1.ending c.in_ok-answer.answer.1.code); all = None };
  stand = record { select = c.in_ok-answer.ensures.heard.1.taken [] c.requires.empty.0; code = refl; fetch = tt };
  heard = record {
    answered = λ t. (
      g.L.Clocked.clock c.select_into.new.link,
      answered_by (selected_in c.args.session) (count_of c.args.session) _ c.mark_kept.result c.args.name.now (read_as c.in_ok-answer.ensures.heard.0 c.in_ok-answer.answer.1.ending c.in_ok-answer.answer.1.code) _ _ _ _ c.mark_kept.ensures
          (c.in_ok-answer.ensures.heard.1.reply.accepted tt)
          (c.in_ok-answer.ensures.heard.1.reply.answered t (selected_in c.args.session) (c.requires.stands t)),
      refl,
    );
    fetched = sym c.if-not-is_fetch_due.true ∙ c.is_fetch_due.ensures (read_as c.in_ok-answer.ensures.heard.0 c.in_ok-answer.answer.1.ending c.in_ok-answer.answer.1.code) (c.in_ok-answer.ensures.heard.1.taken [] c.requires.empty.0);
    came = λ t heard h.
        came_one c.args.name.now (option_copied c.args.kept) c.mark_kept.result c.mark_kept.ensures (count_of c.args.session) heard h.connection.received
        (read_as c.in_ok-answer.ensures.heard.0 c.in_ok-answer.answer.1.ending c.in_ok-answer.answer.1.code) _ _ _ (c.in_ok-answer.ensures.heard.1.reply.accepted tt) c.in_ok-answer.ensures.heard.1.reply.small (c.in_ok-answer.ensures.heard.1.reply.whole t (c.in_ok-answer.ensures.heard.1.reply.accepted tt))
        (c.in_ok-answer.ensures.heard.1.reply.came t heard h) (c.in_ok-answer.ensures.heard.1.reply.within t heard h);
    small = (c.in_ok-answer.ensures.heard.1.reply.small, tt);
  };
  accepted = c.in_ok-answer.ensures.heard.1.reply.accepted tt;
  permitted = c.in_ok-answer.ensures.heard.2;
  asked = omega (arith, c.in_ok-answer.ensures.counted);
}

pub returns-in_err-fetched-clause-gathers : goal.returns-in_err-fetched-clause-gathers
returns-in_err-fetched-clause-gathers g c = record {
  files = λ t. linked_then AnyStep _ _ _ (c.select_into.ensures.talks.files t) (c.ask_into.ensures.talks.files t);
  told = λ t.
      both_told c.args.name.now c.mark_kept.result (count_of c.args.session) c.next_tag-tag.result _ _ _ (c.select_into.ensures.talks.told t) (c.ask_into.ensures.talks.told t);
  asks = λ t.
      both_over c.args.name.now c.mark_kept.result (count_of c.args.session) c.next_tag-tag.result _ _ _ (c.select_into.ensures.talks.told t) (c.ask_into.ensures.talks.told t);
  grounds = λ t names is.
      both_grounded names c.args.name.now is c.mark_kept.result (count_of c.args.session) c.next_tag-tag.result _ _ _ (c.select_into.ensures.talks.told t)
      _ _ (c.in_ok-answer.ensures.stands t) (c.ask_into.ensures.talks.told t);
  sent = λ t next.
      sent_two c.args.name.now (option_copied c.args.kept) c.mark_kept.result c.mark_kept.ensures (count_of c.args.session) next c.next_tag-tag.result
      (read_as c.in_ok-answer.ensures.heard.0 c.in_ok-answer.answer.1.ending c.in_ok-answer.answer.1.code) _ _ _ (c.next_tag-tag.ensures ∙ ap (λ (k : ℕ). tags.Count (k + 1)) c.in_ok-answer.ensures.counted)
      (sym c.if-not-is_fetch_due.false ∙ c.is_fetch_due.ensures (read_as c.in_ok-answer.ensures.heard.0 c.in_ok-answer.answer.1.ending c.in_ok-answer.answer.1.code) (c.in_ok-answer.ensures.heard.1.taken [] c.requires.empty.0)) (c.in_ok-answer.ensures.heard.1.reply.whole t (c.in_ok-answer.ensures.heard.1.reply.accepted tt)) (c.ask_into.ensures.talks.sent t);
  why = λ t next heard h fault is.
      let q = c.in_ok-answer.ensures.heard.1.reply.came t heard h in
      why_two c.args.name.now (option_copied c.args.kept) c.mark_kept.result c.mark_kept.ensures (count_of c.args.session) heard h.connection.received
      (read_as c.in_ok-answer.ensures.heard.0 c.in_ok-answer.answer.1.ending c.in_ok-answer.answer.1.code) _ _ _ (c.in_ok-answer.ensures.heard.1.reply.accepted tt) c.in_ok-answer.ensures.heard.1.reply.small (c.in_ok-answer.ensures.heard.1.reply.whole t (c.in_ok-answer.ensures.heard.1.reply.accepted tt)) q
      (c.in_ok-answer.ensures.heard.1.reply.within t heard h) c.next_tag-tag.result
      (c.next_tag-tag.ensures ∙ ap (λ (k : ℕ). tags.Count (k + 1)) c.in_ok-answer.ensures.counted)
      (sym c.if-not-is_fetch_due.false ∙ c.is_fetch_due.ensures (read_as c.in_ok-answer.ensures.heard.0 c.in_ok-answer.answer.1.ending c.in_ok-answer.answer.1.code) (c.in_ok-answer.ensures.heard.1.taken [] c.requires.empty.0)) next _ fault (c.ask_into.ensures.talks.sent t) (c.ask_into.ensures.fails.why t _ q.hears fault (search rules));
  honest = search rules;
  earlier = λ t. c.ask_into.ensures.talks.earlier t ∙ c.select_into.ensures.talks.earlier t;
  blames = search rules;
}

pub returns-clause-gathers : goal.returns-clause-gathers
returns-clause-gathers g c = record {
  files = λ t. linked_then AnyStep _ _ _ (c.select_into.ensures.talks.files t) (c.ask_into.ensures.talks.files t);
  told = λ t.
      both_told c.args.name.now c.mark_kept.result (count_of c.args.session) c.next_tag-tag.result _ _ _ (c.select_into.ensures.talks.told t) (c.ask_into.ensures.talks.told t);
  asks = λ t.
      both_over c.args.name.now c.mark_kept.result (count_of c.args.session) c.next_tag-tag.result _ _ _ (c.select_into.ensures.talks.told t) (c.ask_into.ensures.talks.told t);
  grounds = λ t names is.
      both_grounded names c.args.name.now is c.mark_kept.result (count_of c.args.session) c.next_tag-tag.result _ _ _ (c.select_into.ensures.talks.told t)
      _ _ (c.in_ok-answer.ensures.stands t) (c.ask_into.ensures.talks.told t);
  sent = λ t next.
      sent_two c.args.name.now (option_copied c.args.kept) c.mark_kept.result c.mark_kept.ensures (count_of c.args.session) next c.next_tag-tag.result
      (read_as c.in_ok-answer.ensures.heard.0 c.in_ok-answer.answer.1.ending c.in_ok-answer.answer.1.code) _ _ _ (c.next_tag-tag.ensures ∙ ap (λ (k : ℕ). tags.Count (k + 1)) c.in_ok-answer.ensures.counted)
      (sym c.if-not-is_fetch_due.false ∙ c.is_fetch_due.ensures (read_as c.in_ok-answer.ensures.heard.0 c.in_ok-answer.answer.1.ending c.in_ok-answer.answer.1.code) (c.in_ok-answer.ensures.heard.1.taken [] c.requires.empty.0)) (c.in_ok-answer.ensures.heard.1.reply.whole t (c.in_ok-answer.ensures.heard.1.reply.accepted tt)) (c.ask_into.ensures.talks.sent t);
  why = search rules;
  honest = search rules;
  earlier = λ t. c.ask_into.ensures.talks.earlier t ∙ c.select_into.ensures.talks.earlier t;
  blames = search rules;
}

pub returns-clause-heard : goal.returns-clause-heard
returns-clause-heard g c = record {
  gathered = record { selected = (read_as c.in_ok-answer.ensures.heard.0 c.in_ok-answer.answer.1.ending c.in_ok-answer.answer.1.code); all = Some (read_as c.in_ok-fetched.ensures.heard.0 c.in_ok-fetched.fetched.1.ending c.in_ok-fetched.fetched.1.code) };
  stand = record { select = c.in_ok-answer.ensures.heard.1.taken [] c.requires.empty.0; code = refl; fetch = c.in_ok-fetched.ensures.heard.1.taken [] c.requires.empty.1 };
  heard = record {
    answered = λ t.
        let tagged = c.next_tag-tag.ensures ∙ ap (λ (k : ℕ). tags.Count (k + 1)) c.in_ok-answer.ensures.counted in
        answered_two c.args.name.now (option_copied c.args.kept) c.mark_kept.result c.mark_kept.ensures (count_of c.args.session) (selected_in c.args.session)
        (read_as c.in_ok-answer.ensures.heard.0 c.in_ok-answer.answer.1.ending c.in_ok-answer.answer.1.code) (read_as c.in_ok-fetched.ensures.heard.0 c.in_ok-fetched.fetched.1.ending c.in_ok-fetched.fetched.1.code) c.next_tag-tag.result c.args.name.now _ _ _ _ _ _ _ tagged
        refl (c.in_ok-answer.ensures.heard.1.reply.accepted tt) (c.in_ok-fetched.ensures.heard.1.reply.accepted (subst IsCount (sym tagged) tt))
        (c.in_ok-answer.ensures.stands t) (c.in_ok-answer.ensures.heard.1.reply.answered t (selected_in c.args.session) (c.requires.stands t)) (c.in_ok-fetched.ensures.heard.1.reply.answered t _ (c.in_ok-answer.ensures.stands t));
    fetched = sym c.if-not-is_fetch_due.false ∙ c.is_fetch_due.ensures (read_as c.in_ok-answer.ensures.heard.0 c.in_ok-answer.answer.1.ending c.in_ok-answer.answer.1.code) (c.in_ok-answer.ensures.heard.1.taken [] c.requires.empty.0);
    came = λ t heard h.
        let q = c.in_ok-answer.ensures.heard.1.reply.came t heard h in
        let tagged = c.next_tag-tag.ensures ∙ ap (λ (k : ℕ). tags.Count (k + 1)) c.in_ok-answer.ensures.counted in
        let fine = c.in_ok-fetched.ensures.heard.1.reply.accepted (subst IsCount (sym tagged) tt) in
        came_two c.args.name.now (option_copied c.args.kept) c.mark_kept.result c.mark_kept.ensures (count_of c.args.session) heard h.connection.received
        (read_as c.in_ok-answer.ensures.heard.0 c.in_ok-answer.answer.1.ending c.in_ok-answer.answer.1.code) _ _ _ (c.in_ok-answer.ensures.heard.1.reply.accepted tt) c.in_ok-answer.ensures.heard.1.reply.small (c.in_ok-answer.ensures.heard.1.reply.whole t (c.in_ok-answer.ensures.heard.1.reply.accepted tt)) q
        (c.in_ok-answer.ensures.heard.1.reply.within t heard h) c.next_tag-tag.result tagged (sym c.if-not-is_fetch_due.false ∙ c.is_fetch_due.ensures (read_as c.in_ok-answer.ensures.heard.0 c.in_ok-answer.answer.1.ending c.in_ok-answer.answer.1.code) (c.in_ok-answer.ensures.heard.1.taken [] c.requires.empty.0))
        (read_as c.in_ok-fetched.ensures.heard.0 c.in_ok-fetched.fetched.1.ending c.in_ok-fetched.fetched.1.code) _ _ fine c.in_ok-fetched.ensures.heard.1.reply.small (c.in_ok-fetched.ensures.heard.1.reply.whole t fine)
        (c.in_ok-fetched.ensures.heard.1.reply.came t _ q.hears) (c.in_ok-fetched.ensures.heard.1.reply.within t _ q.hears);
    small = (c.in_ok-answer.ensures.heard.1.reply.small, c.in_ok-fetched.ensures.heard.1.reply.small);
  };
  accepted = c.in_ok-answer.ensures.heard.1.reply.accepted tt;
  permitted = c.in_ok-fetched.ensures.permits ∙ c.in_ok-answer.ensures.heard.2;
  asked = omega (arith, c.in_ok-answer.ensures.counted, c.in_ok-fetched.ensures.counted);
}
