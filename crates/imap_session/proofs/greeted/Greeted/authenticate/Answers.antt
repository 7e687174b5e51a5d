use Rattle.std.proofs.Common.{◌≡◌, ◌∙◌, ◌+◌, None, ap, rules, arith, sym}
use Rattle.imap_model.specs.declared.command.Command.TheVariants as commands
use Rattle.imap_session.specs.LogIn.{behind_offer, logged_in, way_by}
use Rattle.imap_session.proofs.Conversing.{counted_as, not_answered, then_concludes, then_converses}
use Rattle.imap_session.proofs.Dialogues.{came_follows, stands_left}
use Rattle.imap_session.proofs.LoggingIn.{behind_false, behind_true}
use Rattle.imap_session.proofs.greeted.Greeted.authenticate.Goals as goal

pub returns-in_err-offer-clause-converses : goal.returns-in_err-offer-clause-converses
returns-in_err-offer-clause-converses g c =
    not_answered g.L.Clocked commands.Capability (behind_offer c.args.self.preauth c.args.account.now) c.args.self.conversation.count _ _ _
    c.ask_offer.result _ (λ fault is. search rules) (λ is. search rules) c.requires.follows c.ask_offer.ensures.talks c.ask_offer.ensures.fails

pub check_offer-requires-clause-follows : goal.check_offer-requires-clause-follows
check_offer-requires-clause-follows g c = λ t.
    let f = c.requires.follows t in
    (_, (c.in_ok-offer.ensures.replied.2.came t f.0 f.1).hears)

pub log_in-requires-clause-follows : goal.log_in-requires-clause-follows
log_in-requires-clause-follows g c = λ t.
    let f = c.requires.follows t in
    (_, (c.in_ok-offer.ensures.replied.2.came t f.0 f.1).hears)

pub check_offer-requires-clause-stands : goal.check_offer-requires-clause-stands
check_offer-requires-clause-stands g c = λ t. stands_left _ c.in_ok-offer.ensures.replied.0 _ _ _ _ (c.in_ok-offer.ensures.replied.2.answered t None (c.requires.stands t))
    tt

pub log_in-requires-clause-stands : goal.log_in-requires-clause-stands
log_in-requires-clause-stands g c = λ t. stands_left _ c.in_ok-offer.ensures.replied.0 _ _ _ _ (c.in_ok-offer.ensures.replied.2.answered t None (c.requires.stands t)) tt

-- the user is logged in already
pub returns-in_err-rev2-clause-converses : goal.returns-in_err-rev2-clause-converses
returns-in_err-rev2-clause-converses g c =
    then_converses g.L.Clocked commands.Capability (behind_offer c.args.self.preauth c.args.account.now) c.args.self.conversation.count _ _ _ _ _
    c.ask_offer.result c.in_ok-offer.ensures.replied.0 c.ask_offer.ensures.talks c.in_ok-offer.ensures.replied.2 c.requires.stands logged_in
    (behind_true c.args.self.preauth c.args.account.now c.in_ok-offer.ensures.replied.0 c.if-preauth.true)
    c.check_offer.result _ (λ fault is. search rules) (λ is. search rules) (search rules) c.check_offer.ensures.converses

pub returns-then-preauth-clause-converses : goal.returns-then-preauth-clause-converses
returns-then-preauth-clause-converses g c =
    then_converses g.L.Clocked commands.Capability (behind_offer c.args.self.preauth c.args.account.now) c.args.self.conversation.count _ _ _ _ _
    c.ask_offer.result c.in_ok-offer.ensures.replied.0 c.ask_offer.ensures.talks c.in_ok-offer.ensures.replied.2 c.requires.stands logged_in
    (behind_true c.args.self.preauth c.args.account.now c.in_ok-offer.ensures.replied.0 c.if-preauth.true)
    c.check_offer.result _ (λ fault is. search rules) (λ is. search rules) (search rules) c.check_offer.ensures.converses

pub returns-then-preauth-clause-concludes : goal.returns-then-preauth-clause-concludes
returns-then-preauth-clause-concludes g c =
    let n : c.args.self.conversation.count + 1 + 1 ≡ c.args.self.conversation.count + 2 = omega arith in
    then_concludes g.L.Clocked commands.Capability (behind_offer c.args.self.preauth c.args.account.now) c.args.self.conversation.count _ _ _ _ _
    c.ask_offer.result c.in_ok-offer.ensures.replied.0 c.ask_offer.ensures.talks c.in_ok-offer.ensures.replied.2 c.requires.stands logged_in
    (behind_true c.args.self.preauth c.args.account.now c.in_ok-offer.ensures.replied.0 c.if-preauth.true)
    _ _ (counted_as g.L.Clocked logged_in _ _ _ _ _ _ _ (record { count = 0; rev2 = c.in_ok-rev2.rev2 }) n c.in_ok-rev2.ensures.concludes)

pub returns-then-preauth-clause-still : goal.returns-then-preauth-clause-still
returns-then-preauth-clause-still g c = λ t.
    let f = c.requires.follows t in
    let q = c.in_ok-offer.ensures.replied.2.came t f.0 f.1 in
    came_follows logged_in (c.args.self.conversation.count + 1) _ _ _ _ _ _ (c.in_ok-rev2.ensures.concludes.came t _ q.hears)

-- or is logged in
pub returns-in_err-rev2-2-clause-converses : goal.returns-in_err-rev2-2-clause-converses
returns-in_err-rev2-2-clause-converses g c =
    then_converses g.L.Clocked commands.Capability (behind_offer c.args.self.preauth c.args.account.now) c.args.self.conversation.count _ _ _ _ _
    c.ask_offer.result c.in_ok-offer.ensures.replied.0 c.ask_offer.ensures.talks c.in_ok-offer.ensures.replied.2 c.requires.stands
    (way_by c.args.account.now c.in_ok-offer.offer)
    (behind_false c.args.self.preauth c.args.account.now c.in_ok-offer.ensures.replied.0 c.if-preauth.false
    ∙ ap (way_by c.args.account.now) (sym c.in_ok-offer.ensures.replied.1))
    c.log_in.result _ (λ fault is. search rules) (λ is. search rules) (search rules) c.log_in.ensures.converses

pub returns-clause-converses : goal.returns-clause-converses
returns-clause-converses g c =
    then_converses g.L.Clocked commands.Capability (behind_offer c.args.self.preauth c.args.account.now) c.args.self.conversation.count _ _ _ _ _
    c.ask_offer.result c.in_ok-offer.ensures.replied.0 c.ask_offer.ensures.talks c.in_ok-offer.ensures.replied.2 c.requires.stands
    (way_by c.args.account.now c.in_ok-offer.offer)
    (behind_false c.args.self.preauth c.args.account.now c.in_ok-offer.ensures.replied.0 c.if-preauth.false
    ∙ ap (way_by c.args.account.now) (sym c.in_ok-offer.ensures.replied.1))
    c.log_in.result _ (λ fault is. search rules) (λ is. search rules) (search rules) c.log_in.ensures.converses

pub returns-clause-concludes : goal.returns-clause-concludes
returns-clause-concludes g c =
    let n : c.args.self.conversation.count + 1 + 2 ≡ c.args.self.conversation.count + 3 = omega arith in
    then_concludes g.L.Clocked commands.Capability (behind_offer c.args.self.preauth c.args.account.now) c.args.self.conversation.count _ _ _ _ _
    c.ask_offer.result c.in_ok-offer.ensures.replied.0 c.ask_offer.ensures.talks c.in_ok-offer.ensures.replied.2 c.requires.stands
    (way_by c.args.account.now c.in_ok-offer.offer)
    (behind_false c.args.self.preauth c.args.account.now c.in_ok-offer.ensures.replied.0 c.if-preauth.false
    ∙ ap (way_by c.args.account.now) (sym c.in_ok-offer.ensures.replied.1))
    _ _ (counted_as g.L.Clocked (way_by c.args.account.now c.in_ok-offer.offer) _ _ _ _ _ _ _ (record { count = 0; rev2 = c.in_ok-rev2-2.rev2 }) n
    c.in_ok-rev2-2.ensures.concludes)

pub returns-clause-still : goal.returns-clause-still
returns-clause-still g c = λ t.
    let f = c.requires.follows t in
    let q = c.in_ok-offer.ensures.replied.2.came t f.0 f.1 in
    came_follows (way_by c.args.account.now c.in_ok-offer.offer) (c.args.self.conversation.count + 1) _ _ _ _ _ _
    (c.in_ok-rev2-2.ensures.concludes.came t _ q.hears)
