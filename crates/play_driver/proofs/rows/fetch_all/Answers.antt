use Rattle.std.proofs.Common.{[], None, Some, arith, refl, rules, subst, sym, ◌∙◌}
use Rattle.imap_session.specs.Faults.{IsCount}
use Rattle.imap_session.specs.Replying.{read_as}
use Rattle.world_traits.specs.Links.{Any, AnyStep, LinkStep}
use Rattle.imap_session.specs.Enquiring.{Enquiring}
use Rattle.play_driver.specs.Questioning.{Questioning}
use Rattle.play_driver.specs.Grounds.{GroundStep}
use Rattle.world_traits.proofs.Passing.{since_start}
use Rattle.play_driver.proofs.Fetched.{fetch_answered, fetch_came, fetch_why, none_blamed, none_came}
use Rattle.play_driver.proofs.Gathers.{fetch_told}
use Rattle.play_driver.proofs.GroundChains.{fetch_grounded}
use Rattle.play_driver.proofs.OverOne.{fetch_over}
use Rattle.play_driver.proofs.rows.fetch_all.Goals as goal

-- no rows are due
pub returns-then-not-is_fetch_due-clause-fetches : goal.returns-then-not-is_fetch_due-clause-fetches
returns-then-not-is_fetch_due-clause-fetches g c = record {
  files = λ t. since_start Any (LinkStep AnyStep) _;
  told = λ t. since_start Any (LinkStep Enquiring) _;
  asks = λ t. since_start Any (LinkStep Questioning) _;
  grounds = λ t names. since_start Any (GroundStep names) _;
  why = search rules;
  honest = search rules;
  earlier = search rules;
  blames = none_blamed g.L.Clocked c.args.link.now c.args.chosen;
}

pub returns-then-not-is_fetch_due-clause-heard : goal.returns-then-not-is_fetch_due-clause-heard
returns-then-not-is_fetch_due-clause-heard g c = record {
  all = None;
  stands = tt;
  due = λ r stands. sym c.if-not-is_fetch_due.true ∙ c.is_fetch_due.ensures r stands;
  answered = λ t. refl;
  came = λ t heard h. none_came heard (g.L.Clocked.link c.args.link.now) c.args.chosen.conversation.feed h;
  small = tt;
  asked = omega arith;
}

-- they aren't answered
pub returns-in_err-fetched-clause-fetches : goal.returns-in_err-fetched-clause-fetches
returns-in_err-fetched-clause-fetches g c = record {
  files = c.ask_into.ensures.talks.files;
  told = λ t. fetch_told c.next_tag-tag.result _ _ (c.ask_into.ensures.talks.told t);
  asks = λ t. fetch_over c.next_tag-tag.result _ _ (c.ask_into.ensures.talks.told t);
  grounds = λ t names. fetch_grounded names c.args.chosen.name c.next_tag-tag.result _ _ _ _ (c.requires.stands t) (c.ask_into.ensures.talks.told t);
  why = λ t next heard h fault is.
      fetch_why c.args.chosen.conversation.count c.next_tag-tag.result c.next_tag-tag.ensures next heard h.connection.received
      (g.L.Clocked.link c.args.link.now) (g.L.Clocked.link c.ask_into.new.link) fault
      (c.ask_into.ensures.talks.sent t) (c.ask_into.ensures.fails.why t heard h fault (search rules));
  honest = search rules;
  earlier = c.ask_into.ensures.talks.earlier;
  blames = search rules;
}

-- they are answered
pub returns-clause-fetches : goal.returns-clause-fetches
returns-clause-fetches g c = record {
  files = c.ask_into.ensures.talks.files;
  told = λ t. fetch_told c.next_tag-tag.result _ _ (c.ask_into.ensures.talks.told t);
  asks = λ t. fetch_over c.next_tag-tag.result _ _ (c.ask_into.ensures.talks.told t);
  grounds = λ t names. fetch_grounded names c.args.chosen.name c.next_tag-tag.result _ _ _ _ (c.requires.stands t) (c.ask_into.ensures.talks.told t);
  why = search rules;
  honest = search rules;
  earlier = c.ask_into.ensures.talks.earlier;
  blames = search rules;
}

pub returns-clause-heard : goal.returns-clause-heard
returns-clause-heard g c =
    let all = read_as c.in_ok-fetched.ensures.heard.0 c.in_ok-fetched.fetched.1.ending c.in_ok-fetched.fetched.1.code in
    let fine = c.in_ok-fetched.ensures.heard.1.reply.accepted (subst IsCount (sym c.next_tag-tag.ensures) tt) in
    record {
      all = Some all;
      stands = c.in_ok-fetched.ensures.heard.1.taken [] c.requires.empty;
      due = λ r stands. sym c.if-not-is_fetch_due.false ∙ c.is_fetch_due.ensures r stands;
      answered = λ t.
          fetch_answered c.args.chosen.conversation.count c.next_tag-tag.result c.next_tag-tag.ensures c.args.chosen.name all _ _ _ _ fine
          (c.in_ok-fetched.ensures.heard.1.reply.answered t _ (c.requires.stands t));
      came = λ t heard h.
          fetch_came c.args.chosen.conversation.count c.next_tag-tag.result c.next_tag-tag.ensures heard h.connection.received all _ _ _ fine
          c.in_ok-fetched.ensures.heard.1.reply.small (c.in_ok-fetched.ensures.heard.1.reply.whole t fine)
          (c.in_ok-fetched.ensures.heard.1.reply.came t heard h) (c.in_ok-fetched.ensures.heard.1.reply.within t heard h);
      small = c.in_ok-fetched.ensures.heard.1.reply.small;
      asked = omega (arith, c.in_ok-fetched.ensures.counted);
    }

pub returns-clause-stands : goal.returns-clause-stands
returns-clause-stands g c = search rules
