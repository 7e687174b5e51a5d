use Rattle.std.proofs.Common.{◌∙◌, [], ◌∷◌, refl, sym, subst, None, Some}
use Rattle.imap_model.specs.declared.command.Command.TheVariants as commands
use Rattle.imap_session.specs.Dialogue.{Known, next_tag, so_far}
use Rattle.imap_session.specs.Faults.{IsCount}
use Rattle.imap_session.specs.LogIn.{enabling, entering}
use Rattle.imap_session.proofs.Talks.{answers_enquires, asks_enquires, connects_enquires, enabling_asks, entering_asks, talks_enquires}
use Rattle.mail_tests.proofs.InOrder.{answers_so, later, stands_by, still}
use Rattle.mail_tests.proofs.OneSession.{asks_on, came_sent, from_first, sent_so}
use Rattle.mail_tests.proofs.whole_session.read_mailbox.Goals as goal

pub ask-requires-clause-stands : goal.ask-requires-clause-stands
ask-requires-clause-stands g c = λ t. stands_by _ _ _ _ _ c.in_ok-first.ensures.name (c.in_ok-first.ensures.stands t)

pub leave-requires-clause-stands : goal.leave-requires-clause-stands
leave-requires-clause-stands g c = λ t. c.in_ok-second.ensures.stands t

pub returns-clause-in_order : goal.returns-clause-in_order
returns-clause-in_order g c = λ t.
    let f = g.L.Clocked.server_with_files t in
    let greeted = later _ _ _ (c.connect.ensures.files f) (c.greet.ensures.receives.files f) in
    let known = later _ _ _ greeted (c.authenticate.ensures.converses.files f) in
    let ready = later _ _ _ known (c.enable.ensures.converses.files f) in
    record {
      between = g.L.Clocked.clock c.select.new.link;
      first = answers_so None _ (commands.Select c.args.name.now None) c.in_ok-first.first.1 _ _ _ _ _ _ ready
          (c.in_ok-first.ensures.replied.answered t None (c.in_ok-ready.ensures.concludes.stands t))
          (c.in_ok-first.ensures.replied.accepted tt) (still _);
      second = answers_so (Some c.args.name.now) _ commands.FetchAll c.in_ok-second.second.1 _ _ _ _ _ _ (still _)
          (c.in_ok-second.ensures.replied.answered t (Some c.args.name.now) (c.in_ok-first.ensures.stands t))
          (c.in_ok-second.ensures.replied.accepted (subst IsCount (sym c.next_tag-tag.ensures) tt)) (c.leave.ensures.talks.files f);
    }

-- only questions are asked
pub returns-in_err-fresh-clause-told : goal.returns-in_err-fresh-clause-told
returns-in_err-fresh-clause-told g c = λ t. connects_enquires _ _ (c.connect.ensures.told t)

pub returns-in_err-greeted-clause-told : goal.returns-in_err-greeted-clause-told
returns-in_err-greeted-clause-told g c = λ t.
    asks_on _ _ _ (connects_enquires _ _ (c.connect.ensures.told t)) (answers_enquires _ _ (c.greet.ensures.receives.told t))

pub returns-in_err-known-clause-told : goal.returns-in_err-known-clause-told
returns-in_err-known-clause-told g c = λ t.
    let k1 = asks_on _ _ _ (connects_enquires _ _ (c.connect.ensures.told t)) (answers_enquires _ _ (c.greet.ensures.receives.told t)) in
    let p = c.in_ok-greeted.greeted.preauth in
    let k2 = asks_on _ _ _ k1 (talks_enquires (entering p c.args.account.now) (entering_asks p c.args.account.now)
    c.in_ok-greeted.greeted.conversation.count
    (so_far (g.L.Clocked.clock c.greet.new.link) (g.L.Clocked.link c.greet.new.link))
    (so_far (g.L.Clocked.clock c.authenticate.new.link) (g.L.Clocked.link c.authenticate.new.link)) (c.authenticate.ensures.converses.told t)) in
    k2

pub returns-in_err-ready-clause-told : goal.returns-in_err-ready-clause-told
returns-in_err-ready-clause-told g c = λ t.
    let k1 = asks_on _ _ _ (connects_enquires _ _ (c.connect.ensures.told t)) (answers_enquires _ _ (c.greet.ensures.receives.told t)) in
    let p = c.in_ok-greeted.greeted.preauth in
    let k2 = asks_on _ _ _ k1 (talks_enquires (entering p c.args.account.now) (entering_asks p c.args.account.now)
    c.in_ok-greeted.greeted.conversation.count
    (so_far (g.L.Clocked.clock c.greet.new.link) (g.L.Clocked.link c.greet.new.link))
    (so_far (g.L.Clocked.clock c.authenticate.new.link) (g.L.Clocked.link c.authenticate.new.link)) (c.authenticate.ensures.converses.told t)) in
    let r = c.in_ok-known.known.rev2 in
    let k3 = asks_on _ _ _ k2 (talks_enquires (enabling r) (enabling_asks r) c.in_ok-known.known.conversation.count
    (so_far (g.L.Clocked.clock c.authenticate.new.link) (g.L.Clocked.link c.authenticate.new.link))
    (so_far (g.L.Clocked.clock c.enable.new.link) (g.L.Clocked.link c.enable.new.link)) (c.enable.ensures.converses.told t)) in
    k3

pub returns-in_err-first-clause-told : goal.returns-in_err-first-clause-told
returns-in_err-first-clause-told g c = λ t.
    let k1 = asks_on _ _ _ (connects_enquires _ _ (c.connect.ensures.told t)) (answers_enquires _ _ (c.greet.ensures.receives.told t)) in
    let p = c.in_ok-greeted.greeted.preauth in
    let k2 = asks_on _ _ _ k1 (talks_enquires (entering p c.args.account.now) (entering_asks p c.args.account.now)
    c.in_ok-greeted.greeted.conversation.count
    (so_far (g.L.Clocked.clock c.greet.new.link) (g.L.Clocked.link c.greet.new.link))
    (so_far (g.L.Clocked.clock c.authenticate.new.link) (g.L.Clocked.link c.authenticate.new.link)) (c.authenticate.ensures.converses.told t)) in
    let r = c.in_ok-known.known.rev2 in
    let k3 = asks_on _ _ _ k2 (talks_enquires (enabling r) (enabling_asks r) c.in_ok-known.known.conversation.count
    (so_far (g.L.Clocked.clock c.authenticate.new.link) (g.L.Clocked.link c.authenticate.new.link))
    (so_far (g.L.Clocked.clock c.enable.new.link) (g.L.Clocked.link c.enable.new.link)) (c.enable.ensures.converses.told t)) in
    let k4 = asks_on _ _ _ k3 (asks_enquires _ (next_tag c.in_ok-ready.ready.conversation.count) (commands.Select c.args.name.now None) refl _ _
    (c.select.ensures.talks.told t)) in
    k4

pub returns-in_err-second-clause-told : goal.returns-in_err-second-clause-told
returns-in_err-second-clause-told g c = λ t.
    let k1 = asks_on _ _ _ (connects_enquires _ _ (c.connect.ensures.told t)) (answers_enquires _ _ (c.greet.ensures.receives.told t)) in
    let p = c.in_ok-greeted.greeted.preauth in
    let k2 = asks_on _ _ _ k1 (talks_enquires (entering p c.args.account.now) (entering_asks p c.args.account.now)
    c.in_ok-greeted.greeted.conversation.count
    (so_far (g.L.Clocked.clock c.greet.new.link) (g.L.Clocked.link c.greet.new.link))
    (so_far (g.L.Clocked.clock c.authenticate.new.link) (g.L.Clocked.link c.authenticate.new.link)) (c.authenticate.ensures.converses.told t)) in
    let r = c.in_ok-known.known.rev2 in
    let k3 = asks_on _ _ _ k2 (talks_enquires (enabling r) (enabling_asks r) c.in_ok-known.known.conversation.count
    (so_far (g.L.Clocked.clock c.authenticate.new.link) (g.L.Clocked.link c.authenticate.new.link))
    (so_far (g.L.Clocked.clock c.enable.new.link) (g.L.Clocked.link c.enable.new.link)) (c.enable.ensures.converses.told t)) in
    let k4 = asks_on _ _ _ k3 (asks_enquires _ (next_tag c.in_ok-ready.ready.conversation.count) (commands.Select c.args.name.now None) refl _ _
    (c.select.ensures.talks.told t)) in
    let k5 = asks_on _ _ _ k4 (asks_enquires _ c.next_tag-tag.result commands.FetchAll refl _ _ (c.ask.ensures.talks.told t)) in
    k5

pub returns-in_err-leave-clause-told : goal.returns-in_err-leave-clause-told
returns-in_err-leave-clause-told g c = λ t.
    let k1 = asks_on _ _ _ (connects_enquires _ _ (c.connect.ensures.told t)) (answers_enquires _ _ (c.greet.ensures.receives.told t)) in
    let p = c.in_ok-greeted.greeted.preauth in
    let k2 = asks_on _ _ _ k1 (talks_enquires (entering p c.args.account.now) (entering_asks p c.args.account.now)
    c.in_ok-greeted.greeted.conversation.count
    (so_far (g.L.Clocked.clock c.greet.new.link) (g.L.Clocked.link c.greet.new.link))
    (so_far (g.L.Clocked.clock c.authenticate.new.link) (g.L.Clocked.link c.authenticate.new.link)) (c.authenticate.ensures.converses.told t)) in
    let r = c.in_ok-known.known.rev2 in
    let k3 = asks_on _ _ _ k2 (talks_enquires (enabling r) (enabling_asks r) c.in_ok-known.known.conversation.count
    (so_far (g.L.Clocked.clock c.authenticate.new.link) (g.L.Clocked.link c.authenticate.new.link))
    (so_far (g.L.Clocked.clock c.enable.new.link) (g.L.Clocked.link c.enable.new.link)) (c.enable.ensures.converses.told t)) in
    let k4 = asks_on _ _ _ k3 (asks_enquires _ (next_tag c.in_ok-ready.ready.conversation.count) (commands.Select c.args.name.now None) refl _ _
    (c.select.ensures.talks.told t)) in
    let k5 = asks_on _ _ _ k4 (asks_enquires _ c.next_tag-tag.result commands.FetchAll refl _ _ (c.ask.ensures.talks.told t)) in
    let k6 = asks_on _ _ _ k5 (asks_enquires _ (next_tag c.in_ok-second.second.0.conversation.count) commands.Logout refl _ _
    (c.leave.ensures.talks.told t)) in
    k6

pub returns-clause-told : goal.returns-clause-told
returns-clause-told g c = λ t.
    let k1 = asks_on _ _ _ (connects_enquires _ _ (c.connect.ensures.told t)) (answers_enquires _ _ (c.greet.ensures.receives.told t)) in
    let p = c.in_ok-greeted.greeted.preauth in
    let k2 = asks_on _ _ _ k1 (talks_enquires (entering p c.args.account.now) (entering_asks p c.args.account.now)
    c.in_ok-greeted.greeted.conversation.count
    (so_far (g.L.Clocked.clock c.greet.new.link) (g.L.Clocked.link c.greet.new.link))
    (so_far (g.L.Clocked.clock c.authenticate.new.link) (g.L.Clocked.link c.authenticate.new.link)) (c.authenticate.ensures.converses.told t)) in
    let r = c.in_ok-known.known.rev2 in
    let k3 = asks_on _ _ _ k2 (talks_enquires (enabling r) (enabling_asks r) c.in_ok-known.known.conversation.count
    (so_far (g.L.Clocked.clock c.authenticate.new.link) (g.L.Clocked.link c.authenticate.new.link))
    (so_far (g.L.Clocked.clock c.enable.new.link) (g.L.Clocked.link c.enable.new.link)) (c.enable.ensures.converses.told t)) in
    let k4 = asks_on _ _ _ k3 (asks_enquires _ (next_tag c.in_ok-ready.ready.conversation.count) (commands.Select c.args.name.now None) refl _ _
    (c.select.ensures.talks.told t)) in
    let k5 = asks_on _ _ _ k4 (asks_enquires _ c.next_tag-tag.result commands.FetchAll refl _ _ (c.ask.ensures.talks.told t)) in
    let k6 = asks_on _ _ _ k5 (asks_enquires _ (next_tag c.in_ok-second.second.0.conversation.count) commands.Logout refl _ _
    (c.leave.ensures.talks.told t)) in
    k6

-- and each text is sent whole
pub returns-clause-sent : goal.returns-clause-sent
returns-clause-sent g c = λ t.
    let greeted = c.in_ok-greeted.greeted in
    let known = c.in_ok-known.known in
    let ready = c.in_ok-ready.ready in
    let link = g.L.Clocked.link in
    let hello = c.in_ok-greeted.ensures.greeting t in
    let follows = c.in_ok-known.ensures.still t in
    let first : Known = record { count = known.conversation.count; rev2 = known.rev2 } in
    let second : Known = record { count = ready.conversation.count; rev2 = known.rev2 } in
    let entered = came_sent (entering greeted.preauth c.args.account.now) greeted.conversation.count (link c.greet.new.link).sent
    hello.hears.connection.received (hello.greeting ∷ []) first (link c.authenticate.new.link) known.conversation.feed
    (c.in_ok-known.ensures.concludes.came t (hello.greeting ∷ []) hello.hears) in
    let enabled = came_sent (enabling known.rev2) known.conversation.count (link c.authenticate.new.link).sent follows.1.connection.received follows.0
    second (link c.enable.new.link) ready.conversation.feed (c.in_ok-ready.ensures.concludes.came t follows.0 follows.1) in
    sent_so c.args.account.now c.args.name.now greeted.preauth first second (link c.authenticate.new.link).sent (link c.enable.new.link).sent _ _ _
    c.in_ok-first.first.0.conversation.count c.in_ok-second.second.0.conversation.count c.next_tag-tag.result
    (from_first (entering greeted.preauth c.args.account.now) greeted.conversation.count first (link c.greet.new.link).sent
    (link c.authenticate.new.link).sent (c.in_ok-greeted.ensures.counted ∙ c.in_ok-fresh.ensures.counted)
    (c.greet.ensures.receives.sent t ∙ c.in_ok-fresh.ensures.sent t) entered)
    enabled (c.in_ok-first.ensures.replied.whole t (c.in_ok-first.ensures.replied.accepted tt)) c.in_ok-first.ensures.counted c.next_tag-tag.ensures
    (c.in_ok-second.ensures.replied.whole t (c.in_ok-second.ensures.replied.accepted (subst IsCount (sym c.next_tag-tag.ensures) tt)))
    c.in_ok-second.ensures.counted (c.in_ok-leave.ensures.leaves.whole t)
