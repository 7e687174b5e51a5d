use Rattle.std.proofs.Common.{◌≡◌, ◌∙◌, None, ap, rules, sym}
use Rattle.imap_model.specs.declared.command.Command.TheVariants as commands
use Rattle.imap_session.specs.Dialogue.Dialogue.{Ends}
use Rattle.imap_session.specs.LogIn.{fitness, fitness_of}
use Rattle.imap_session.proofs.Conversing.{concludes_here, fits_here, not_answered, then_concludes, then_converses}
use Rattle.imap_session.proofs.Dialogues.{stands_left}
use Rattle.imap_session.proofs.Outcomes.{if_ok_more}
use Rattle.imap_session.proofs.login.check_offer.Goals as goal

pub returns-in_err-offer-clause-converses : goal.returns-in_err-offer-clause-converses
returns-in_err-offer-clause-converses g c =
    not_answered g.L.Clocked commands.Capability fitness c.args.count _ _ _ c.ask_offer.result _ (λ fault is. search rules) (λ is. search rules)
    c.requires.follows c.ask_offer.ensures.talks c.ask_offer.ensures.fails

pub returns-clause-converses : goal.returns-clause-converses
returns-clause-converses g c =
    let e = c.in_ok-offer.ensures.replied in
    then_converses g.L.Clocked commands.Capability fitness c.args.count _ _ _ _ _ c.ask_offer.result e.0 c.ask_offer.ensures.talks e.2
    c.requires.stands (fitness_of c.in_ok-offer.offer) (ap fitness_of (sym e.1)) c.fit.result _ (λ fault is. is) (λ is. is) (search rules)
    (fits_here g.L.Clocked _ _ _ (fitness_of c.in_ok-offer.offer) c.fit.result c.fit.ensures.fit c.fit.ensures.lacking)

pub returns-clause-concludes : goal.returns-clause-concludes
returns-clause-concludes g c =
    let e = c.in_ok-offer.ensures.replied in
    if_ok_more c.fit.result (λ rev2. fitness_of c.in_ok-offer.offer ≡ Ends rev2) _
    (λ rev2 is. then_concludes g.L.Clocked commands.Capability fitness c.args.count _ _ _ _ _ c.ask_offer.result e.0
    c.ask_offer.ensures.talks e.2 c.requires.stands (Ends rev2) (ap fitness_of (sym e.1) ∙ is) _ _
    (concludes_here g.L.Clocked _ _ _ rev2 (λ t. stands_left _ e.0 _ _ _ _ (e.2.answered t None (c.requires.stands t)) tt)))
    c.fit.ensures.fit
