use Rattle.std.proofs.Common.{Some, refl, rules}
use Rattle.imap_model.specs.declared.command.Command.TheVariants as commands
use Rattle.play_driver.specs.Stages.{stage_of}
use Rattle.play_driver.specs.declared.session.Session.TheVariants as sessions
use Rattle.body_cache.specs.TextFound.{text_found}
use Rattle.body_cache.proofs.OnlyAsking.{asks_done, asks_failed, by_talks, ok_own, own_none, same_err, told_err}
use Rattle.body_cache.proofs.TextServed.{err_is, failed_faultless, none_faultless, text_converses}
use Rattle.body_cache.proofs.TextSteps.{answered_so, asked_so, is_count, unanswered_so, untold_so}
use Rattle.body_cache.proofs.fetching.ask_text.Goals as goal

-- it wasn't answered
pub returns-in_err-answer-clause-asks : goal.returns-in_err-answer-clause-asks
returns-in_err-answer-clause-asks g c =
    asks_failed g.L.Clocked c.args.link.now c.ask-asked.new.link c.ask-asked.result c.from_residual.result c.in_err-answer.field-0.0
    (by_talks g.L.Clocked c.args.link.now c.ask-asked.new.link c.ask-asked.result _ (commands.FetchText c.args.key.now.uid) refl c.ask-asked.ensures.talks)
    c.in_err-answer.was (told_err c.from_residual.result _ c.from_residual.ensures.1)

pub returns-in_err-answer-clause-why : goal.returns-in_err-answer-clause-why
returns-in_err-answer-clause-why g c = λ t fault is.
    let follows = c.requires.follows t in
    let f = c.in_err-answer.field-0.0 in
    unanswered_so c.args.key.now (stage_of (g.L.Clocked.link c.args.link.now) (sessions.Chosen c.args.chosen)) c.next_tag-tag.result
    c.next_tag-tag.ensures (g.L.Clocked.link c.ask-asked.new.link) f fault
    (same_err c.from_residual.result fault _ is (told_err c.from_residual.result _ c.from_residual.ensures.1))
    (record {
      heard = follows.0;
      hears = follows.1;
      sent = c.ask-asked.ensures.talks.sent t;
      failing = c.ask-asked.ensures.fails.why t follows.0 follows.1 f c.in_err-answer.was;
    })

pub returns-in_err-answer-clause-converses : goal.returns-in_err-answer-clause-converses
returns-in_err-answer-clause-converses g c =
    text_converses g.L.Clocked c.args.key.now c.args.link.now c.ask-asked.new.link c.ask-asked.result c.from_residual.result
    (λ t.
    let files = g.L.Clocked.server_with_files t in
    let follows = c.requires.follows files in
    let f = c.in_err-answer.field-0.0 in
    failed_faultless c.ask-asked.result c.from_residual.result f follows.0 c.next_tag-tag.result (commands.FetchText c.args.key.now.uid)
    follows.1.connection.received _ (c.ask-asked.ensures.talks.honest t) c.in_err-answer.was
    (told_err c.from_residual.result _ c.from_residual.ensures.1) (c.ask-asked.ensures.fails.why files follows.0 follows.1 f c.in_err-answer.was))
    c.args.chosen.name c.next_tag-tag.result c.args.chosen.conversation.feed c.requires.stands c.ask-asked.ensures.talks

-- a text was told
pub returns-in-Ok-clause-converses : goal.returns-in-Ok-clause-converses
returns-in-Ok-clause-converses g c =
    text_converses g.L.Clocked c.args.key.now c.args.link.now c.ask-asked.new.link c.ask-asked.result _ (λ t fault is bad. cc is)
    c.args.chosen.name c.next_tag-tag.result c.args.chosen.conversation.feed c.requires.stands c.ask-asked.ensures.talks

pub returns-in-Ok-clause-asks : goal.returns-in-Ok-clause-asks
returns-in-Ok-clause-asks g c =
    asks_done g.L.Clocked c.args.link.now c.ask-asked.new.link c.ask-asked.result c.in_ok-answer.answer _
    (by_talks g.L.Clocked c.args.link.now c.ask-asked.new.link c.ask-asked.result _ (commands.FetchText c.args.key.now.uid) refl c.ask-asked.ensures.talks)
    c.in_ok-answer.was (ok_own _)

pub returns-in-Ok-clause-tells : goal.returns-in-Ok-clause-tells
returns-in-Ok-clause-tells g c = λ t.
    let follows = c.requires.follows t in
    record {
      replies = c.in_ok-answer.answer.1;
      asked = asked_so c.args.key.now (stage_of (g.L.Clocked.link c.args.link.now) (sessions.Chosen c.args.chosen)) c.next_tag-tag.result
          c.next_tag-tag.ensures c.in_ok-answer.answer.1 (stage_of (g.L.Clocked.link c.ask-asked.new.link) (sessions.Chosen c.in_ok-answer.answer.0))
          (record {
            heard = follows.0;
            hears = follows.1;
            came = c.in_ok-answer.ensures.replied.came t follows.0 follows.1;
            counted = c.in_ok-answer.ensures.counted;
          });
      found = c.in-Ok.ensures.text;
    }

pub returns-in-Ok-clause-told : goal.returns-in-Ok-clause-told
returns-in-Ok-clause-told g c = λ t.
    let here = stage_of (g.L.Clocked.link c.args.link.now) (sessions.Chosen c.args.chosen) in
    record {
      replies = c.in_ok-answer.answer.1;
      answered = answered_so c.args.key.now here c.next_tag-tag.result c.next_tag-tag.ensures c.args.chosen.name c.requires.named _ _ _
          (record {
            connection = _;
            feed = _;
            answered = c.in_ok-answer.ensures.replied.answered t (Some c.args.chosen.name) (c.requires.stands t);
            accepted = c.in_ok-answer.ensures.replied.accepted (is_count c.args.key.now here c.next_tag-tag.result c.next_tag-tag.ensures);
          });
      found = c.in-Ok.ensures.text;
    }

-- none was
pub returns-in-Err-clause-asks : goal.returns-in-Err-clause-asks
returns-in-Err-clause-asks g c =
    asks_done g.L.Clocked c.args.link.now c.ask-asked.new.link c.ask-asked.result c.in_ok-answer.answer _
    (by_talks g.L.Clocked c.args.link.now c.ask-asked.new.link c.ask-asked.result _ (commands.FetchText c.args.key.now.uid) refl c.ask-asked.ensures.talks)
    c.in_ok-answer.was (own_none _ c.in-Err.fault (c.in-Err.ensures.why c.in-Err.fault (search rules)))

pub returns-in-Err-clause-why : goal.returns-in-Err-clause-why
returns-in-Err-clause-why g c = λ t fault is.
    let follows = c.requires.follows t in
    let here = stage_of (g.L.Clocked.link c.args.link.now) (sessions.Chosen c.args.chosen) in
    let last = stage_of (g.L.Clocked.link c.ask-asked.new.link) (sessions.Chosen c.in_ok-answer.answer.0) in
    untold_so c.args.key.now here (g.L.Clocked.link c.ask-asked.new.link) last refl c.in_ok-answer.answer.1
    (asked_so c.args.key.now here c.next_tag-tag.result c.next_tag-tag.ensures c.in_ok-answer.answer.1 last
    (record {
      heard = follows.0;
      hears = follows.1;
      came = c.in_ok-answer.ensures.replied.came t follows.0 follows.1;
      counted = c.in_ok-answer.ensures.counted;
    }))
    (text_found c.args.key.now.uid c.in_ok-answer.answer.1.untagged) refl fault (c.in-Err.ensures.why fault (search rules))

pub returns-in-Err-clause-converses : goal.returns-in-Err-clause-converses
returns-in-Err-clause-converses g c =
    let here = stage_of (g.L.Clocked.link c.args.link.now) (sessions.Chosen c.args.chosen) in
    text_converses g.L.Clocked c.args.key.now c.args.link.now c.ask-asked.new.link c.ask-asked.result _
    (λ t fault is bad.
    none_faultless c.args.chosen.name c.args.key.now.uid c.next_tag-tag.result c.in_ok-answer.answer.1 (g.L.Clocked.clock c.args.link.now)
    (g.L.Clocked.clock c.ask-asked.new.link)
    (record {
      connection = _;
      feed = _;
      answered = c.in_ok-answer.ensures.replied.answered t (Some c.args.chosen.name) (c.requires.stands t);
      accepted = c.in_ok-answer.ensures.replied.accepted (is_count c.args.key.now here c.next_tag-tag.result c.next_tag-tag.ensures);
    })
    c.in-Err.fault (c.in-Err.ensures.why c.in-Err.fault (search rules)) fault (err_is c.in-Err.fault fault is))
    c.args.chosen.name c.next_tag-tag.result c.args.chosen.conversation.feed c.requires.stands c.ask-asked.ensures.talks
