use Rattle.std.proofs.Common.{◌<◌, ◌+◌, ℕ, List, Some, arith, rules, sym, subst}
use Rattle.mail_base.specs.BoxName.{IsBoxName}
use Rattle.mail_base.specs.declared.tag.Tag.TheVariants as tags
use Rattle.imap_model.specs.declared.command.Command.TheVariants as commands
use Rattle.imap_session.specs.Session.{Stands}
use Rattle.imap_session.specs.Exchange.{FailsFor, IsHeard, Talks}
use Rattle.imap_session.proofs.OnePart.{select_whole}
use Rattle.imap_session.proofs.Selects.{select_stands}
use Rattle.imap_session.proofs.selecting.select_into.Goals as goal

pub exchange-requires-clause-writable : goal.exchange-requires-clause-writable
exchange-requires-clause-writable g c = let some : 0 < c.args.conversation.count + 1 = omega arith in record { tagged = some; carried = tt }

pub exchange-requires-clause-keeps : goal.exchange-requires-clause-keeps
exchange-requires-clause-keeps g c = λ parts.
    let some : 0 < c.args.conversation.count + 1 = omega arith in
    absurd (select_whole _ _ _ some (subst IsBoxName (sym c.copy.ensures) c.name_fits.ensures) parts)

pub returns-in_err-answer-clause-talks : goal.returns-in_err-answer-clause-talks
returns-in_err-answer-clause-talks g c =
    let same = subst (λ (n : List ℕ). Talks g.L.Clocked (tags.Count (c.args.conversation.count + 1)) (commands.Select n c.args.since)
    c.args.link.now c.exchange.new.link c.exchange.result) c.copy.ensures c.exchange.ensures.talks in
    search rules

pub returns-in_err-answer-clause-fails : goal.returns-in_err-answer-clause-fails
returns-in_err-answer-clause-fails g c =
    let same = subst (λ (n : List ℕ). FailsFor g.L.Clocked (tags.Count (c.args.conversation.count + 1)) (commands.Select n c.args.since)
    c.args.link.now c.exchange.new.link c.args.conversation.feed c.exchange.result) c.copy.ensures c.exchange.ensures.fails in
    record { why = λ t heard h fault is. same.why t heard h fault (search rules) }

pub returns-clause-talks : goal.returns-clause-talks
returns-clause-talks g c =
    let same = subst (λ (n : List ℕ). Talks g.L.Clocked (tags.Count (c.args.conversation.count + 1)) (commands.Select n c.args.since)
    c.args.link.now c.exchange.new.link c.exchange.result) c.copy.ensures c.exchange.ensures.talks in
    search rules

pub returns-clause-heard : goal.returns-clause-heard
returns-clause-heard g c =
    let h = c.in_ok-answer.ensures.heard in (
      h.0,
      subst (λ (n : List ℕ). IsHeard g.L.Clocked g.H.Listen.Stands (tags.Count (c.args.conversation.count + 1)) (commands.Select n c.args.since)
          c.args.link.now c.exchange.new.link c.args.conversation.feed c.exchange.new.feed c.args.heard.now c.exchange.new.heard h.0
          c.in_ok-answer.answer.last)
          c.copy.ensures h.1,
      h.2,
    )

pub returns-clause-stands : goal.returns-clause-stands
returns-clause-stands g c = λ t.
    let s = c.requires.stands t in
    let r = c.in_ok-answer.ensures.heard.1.reply in
    subst (λ (n : List ℕ). Stands (Some n) (g.L.Clocked.clock c.exchange.new.link) (g.L.Clocked.link c.exchange.new.link).connection
    c.exchange.new.feed)
    c.copy.ensures
    (select_stands s.0 _ _ _ _ _ _ _ _ (r.accepted tt) (r.answered t s.0 s.1))

pub returns-clause-still : goal.returns-clause-still
returns-clause-still g c = λ t.
    let f = c.requires.follows t in
    (_, (c.in_ok-answer.ensures.heard.1.reply.came t f.0 f.1).hears)
