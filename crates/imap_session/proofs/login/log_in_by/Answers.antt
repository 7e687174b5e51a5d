use Rattle.std.proofs.Common.{◌≡◌, ◌+◌, arith, refl, rules, None}
use Rattle.imap_model.specs.declared.replies.Replies.{Replies}
use Rattle.imap_session.specs.LogIn.{logged_in}
use Rattle.imap_session.proofs.Conversing.{counted_as, not_answered, then_concludes, then_converses}
use Rattle.imap_session.proofs.Dialogues.{stands_left}
use Rattle.imap_session.proofs.Outcomes.{if_ok_more}
use Rattle.imap_session.proofs.login.log_in_by.Goals as goal

pub returns-in_err-enter-clause-converses : goal.returns-in_err-enter-clause-converses
returns-in_err-enter-clause-converses g c =
    not_answered g.L.Clocked c.args.command.now (λ (s : Replies). logged_in) c.args.count _ _ _ c.enter.result _ (λ fault is. search rules)
    (λ is. search rules) c.requires.follows c.enter.ensures.talks c.enter.ensures.fails

pub check_offer-requires : goal.check_offer-requires
check_offer-requires g c =
    let e = c.in_ok-enter.ensures.replied in
    record {
      room = omega (arith, c.requires.room);
      follows = λ t. let f = c.requires.follows t in (_, (e.1.came t f.0 f.1).hears);
      stands = λ t. stands_left _ e.0 _ _ _ _ (e.1.answered t None (c.requires.stands t)) c.requires.keeps;
    }

pub returns-clause-converses : goal.returns-clause-converses
returns-clause-converses g c =
    let e = c.in_ok-enter.ensures.replied in
    then_converses g.L.Clocked c.args.command.now (λ (s : Replies). logged_in) c.args.count _ _ _ _ _ c.enter.result e.0
    c.enter.ensures.talks e.1 c.requires.stands logged_in refl c.check_offer.result _ (λ fault is. is) (λ is. is) (search rules)
    c.check_offer.ensures.converses

pub returns-clause-concludes : goal.returns-clause-concludes
returns-clause-concludes g c =
    let e = c.in_ok-enter.ensures.replied in
    let n : c.args.count + 1 + 1 ≡ c.args.count + 2 = omega arith in
    if_ok_more c.check_offer.result _ _
    (λ rev2 x. then_concludes g.L.Clocked c.args.command.now (λ (s : Replies). logged_in) c.args.count _ _ _ _ _ c.enter.result
    e.0 c.enter.ensures.talks e.1 c.requires.stands logged_in refl _ _
    (counted_as g.L.Clocked logged_in _ _ _ _ _ _ _ (record { count = 0; rev2 = rev2 }) n x))
    c.check_offer.ensures.concludes
