use Rattle.std.proofs.Common.{None, refl, rules, sym, ◌∙◌}
use Rattle.imap_model.specs.declared.command.Command.TheVariants as commands
use Rattle.imap_session.specs.Dialogue.{next_tag}
use Rattle.body_cache.specs.Fetching.NotSelected.{unanswered}
use Rattle.body_cache.proofs.OnlyAsking.{asks_done, asks_failed, by_talks, ok_own, own_unfit, same_err, told_err}
use Rattle.body_cache.proofs.TextHad.{codes_come}
use Rattle.body_cache.proofs.TextServed.{err_is, failed_faultless, fit_faultless, select_converses}
use Rattle.body_cache.proofs.TextSteps.{unfit_so}
use Rattle.body_cache.proofs.fetching.select_key.Goals as goal

-- it wasn't answered
pub returns-in_err-answer-clause-asks : goal.returns-in_err-answer-clause-asks
returns-in_err-answer-clause-asks g c =
    asks_failed g.L.Clocked c.args.link.now c.select.new.link c.select.result c.from_residual.result c.in_err-answer.field-0.0
    (by_talks g.L.Clocked c.args.link.now c.select.new.link c.select.result (next_tag c.args.ready.conversation.count)
    (commands.Select c.args.key.now.name None) refl c.select.ensures.talks)
    c.in_err-answer.was (told_err c.from_residual.result _ c.from_residual.ensures.1)

pub returns-in_err-answer-clause-why : goal.returns-in_err-answer-clause-why
returns-in_err-answer-clause-why g c = λ t fault is.
    let follows = c.requires.follows t in
    let f = c.in_err-answer.field-0.0 in
    unanswered f (same_err c.from_residual.result fault _ is (told_err c.from_residual.result _ c.from_residual.ensures.1))
    (record {
      heard = follows.0;
      hears = follows.1;
      sent = c.select.ensures.talks.sent t;
      failing = c.select.ensures.fails.why t follows.0 follows.1 f c.in_err-answer.was;
    })

pub returns-in_err-answer-clause-converses : goal.returns-in_err-answer-clause-converses
returns-in_err-answer-clause-converses g c =
    select_converses g.L.Clocked c.args.key.now c.args.link.now c.select.new.link c.select.result c.from_residual.result
    (λ t.
    let files = g.L.Clocked.server_with_files t in
    let follows = c.requires.follows files in
    let f = c.in_err-answer.field-0.0 in
    failed_faultless c.select.result c.from_residual.result f follows.0 (next_tag c.args.ready.conversation.count)
    (commands.Select c.args.key.now.name None) follows.1.connection.received _ (c.select.ensures.talks.honest t) c.in_err-answer.was
    (told_err c.from_residual.result _ c.from_residual.ensures.1) (c.select.ensures.fails.why files follows.0 follows.1 f c.in_err-answer.was))
    c.args.ready.conversation.count c.select.ensures.talks

-- it is the key's mailbox
pub returns-in-Ok-clause-converses : goal.returns-in-Ok-clause-converses
returns-in-Ok-clause-converses g c =
    select_converses g.L.Clocked c.args.key.now c.args.link.now c.select.new.link c.select.result _ (λ t fault is bad. cc is)
    c.args.ready.conversation.count c.select.ensures.talks

pub returns-in-Ok-clause-asks : goal.returns-in-Ok-clause-asks
returns-in-Ok-clause-asks g c =
    asks_done g.L.Clocked c.args.link.now c.select.new.link c.select.result c.in_ok-answer.answer _
    (by_talks g.L.Clocked c.args.link.now c.select.new.link c.select.result (next_tag c.args.ready.conversation.count)
    (commands.Select c.args.key.now.name None) refl c.select.ensures.talks)
    c.in_ok-answer.was (ok_own c.in_ok-answer.answer.0)

pub returns-in-Ok-clause-selects : goal.returns-in-Ok-clause-selects
returns-in-Ok-clause-selects g c = λ t.
    let follows = c.requires.follows t in
    let fits = c.in-Ok.ensures.same in
    record {
      replies = c.in_ok-answer.answer.1;
      asked = record {
        heard = follows.0;
        hears = follows.1;
        came = c.in_ok-answer.ensures.replied.came t follows.0 follows.1;
        counted = c.in_ok-answer.ensures.counted;
      };
      codes = fits.codes;
      told = sym c.codes_of-told.ensures ∙ fits.is;
      same = fits.same;
    }

pub returns-in-Ok-clause-told : goal.returns-in-Ok-clause-told
returns-in-Ok-clause-told g c = λ t.
    let fits = c.in-Ok.ensures.same in
    record {
      replies = c.in_ok-answer.answer.1;
      answered = record {
        connection = _;
        feed = _;
        answered = c.in_ok-answer.ensures.replied.answered t None (c.requires.stands t);
        accepted = c.in_ok-answer.ensures.replied.accepted tt;
      };
      codes = fits.codes;
      told = sym c.codes_of-told.ensures ∙ fits.is;
      same = fits.same;
    }

-- it isn't
pub returns-in-Err-clause-asks : goal.returns-in-Err-clause-asks
returns-in-Err-clause-asks g c =
    asks_done g.L.Clocked c.args.link.now c.select.new.link c.select.result c.in_ok-answer.answer _
    (by_talks g.L.Clocked c.args.link.now c.select.new.link c.select.result (next_tag c.args.ready.conversation.count)
    (commands.Select c.args.key.now.name None) refl c.select.ensures.talks)
    c.in_ok-answer.was (own_unfit c.args.key.now.validity c.codes_of-told.result c.in-Err.fault (c.in-Err.ensures.why c.in-Err.fault (search rules)))

pub returns-in-Err-clause-why : goal.returns-in-Err-clause-why
returns-in-Err-clause-why g c = λ t fault is.
    let follows = c.requires.follows t in
    unfit_so c.args.key.now _ _ (record { link = g.L.Clocked.link c.select.new.link; feed = c.in_ok-answer.answer.0.conversation.feed; count = c.in_ok-answer.answer.0.conversation.count })
    refl c.in_ok-answer.answer.1
    (record {
      heard = follows.0;
      hears = follows.1;
      came = c.in_ok-answer.ensures.replied.came t follows.0 follows.1;
      counted = c.in_ok-answer.ensures.counted;
    })
    c.codes_of-told.result c.codes_of-told.ensures fault (c.in-Err.ensures.why fault (search rules))

pub returns-in-Err-clause-converses : goal.returns-in-Err-clause-converses
returns-in-Err-clause-converses g c =
    select_converses g.L.Clocked c.args.key.now c.args.link.now c.select.new.link c.select.result _
    (λ t fault is bad.
    fit_faultless c.args.key.now.validity c.codes_of-told.result _
    (c.codes_of-told.ensures
    ∙ codes_come c.args.key.now.name None (next_tag c.args.ready.conversation.count) c.in_ok-answer.answer.1 (g.L.Clocked.clock c.args.link.now)
    (g.L.Clocked.clock c.select.new.link)
    (record {
      connection = _;
      feed = _;
      answered = c.in_ok-answer.ensures.replied.answered t None (c.requires.stands t);
      accepted = c.in_ok-answer.ensures.replied.accepted tt;
    }))
    c.in-Err.fault (c.in-Err.ensures.why c.in-Err.fault (search rules)) fault (err_is c.in-Err.fault fault is))
    c.args.ready.conversation.count c.select.ensures.talks
