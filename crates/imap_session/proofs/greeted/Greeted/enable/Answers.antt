use Rattle.std.proofs.Common.{◌∙◌, None, rules, sym}
use Rattle.imap_model.specs.declared.command.Command.TheVariants as commands
use Rattle.imap_model.specs.declared.item.Item.TheVariants as items
use Rattle.imap_session.specs.Dialogue.Dialogue.{Ends, Lacks}
use Rattle.imap_session.specs.LogIn.{switched_on}
use Rattle.imap_session.proofs.Conversing.{concludes_here, ends_here, lacks_here, not_answered, then_concludes, then_converses}
use Rattle.imap_session.proofs.Dialogues.{stands_left}
use Rattle.imap_session.proofs.LoggingIn.{off_lacks, on_ends}
use Rattle.imap_session.proofs.greeted.Greeted.enable.Goals as goal

pub returns-in_err-enabled-clause-converses : goal.returns-in_err-enabled-clause-converses
returns-in_err-enabled-clause-converses g c =
    not_answered g.L.Clocked (commands.Enable c.args.self.rev2) (switched_on c.args.self.rev2) c.args.self.conversation.count _ _ _
    c.ask_enabled.result _ (λ fault is. search rules) (λ is. search rules) c.requires.follows c.ask_enabled.ensures.talks c.ask_enabled.ensures.fails

pub returns-in_err-check_enabled-clause-converses : goal.returns-in_err-check_enabled-clause-converses
returns-in_err-check_enabled-clause-converses g c =
    let off = c.check_enabled.ensures.off _ c.in_err-check_enabled.was in
    then_converses g.L.Clocked (commands.Enable c.args.self.rev2) (switched_on c.args.self.rev2) c.args.self.conversation.count _ _ _ _ _
    c.ask_enabled.result c.in_ok-enabled.ensures.replied.0 c.ask_enabled.ensures.talks c.in_ok-enabled.ensures.replied.2 c.requires.stands (Lacks items.Qresync)
    (off_lacks c.args.self.rev2 _ c.in_ok-enabled.ensures.replied.0 c.in_ok-enabled.ensures.replied.1 off.1) c.check_enabled.result _ (λ fault is. search rules) (λ is. search rules) (search rules)
    (lacks_here g.L.Clocked _ _ _ items.Qresync c.check_enabled.result (λ fault is. (c.check_enabled.ensures.off fault is).0))

pub returns-clause-converses : goal.returns-clause-converses
returns-clause-converses g c =
    then_converses g.L.Clocked (commands.Enable c.args.self.rev2) (switched_on c.args.self.rev2) c.args.self.conversation.count _ _ _ _ _
    c.ask_enabled.result c.in_ok-enabled.ensures.replied.0 c.ask_enabled.ensures.talks c.in_ok-enabled.ensures.replied.2 c.requires.stands (Ends c.args.self.rev2)
    (on_ends c.args.self.rev2 _ c.in_ok-enabled.ensures.replied.0 c.in_ok-enabled.ensures.replied.1 c.in_ok-check_enabled.ensures.on) c.check_enabled.result _ (λ fault is. search rules) (λ is. search rules) (search rules)
    (ends_here g.L.Clocked _ _ _ c.args.self.rev2 c.check_enabled.result (λ fault is. search rules))

pub returns-clause-concludes : goal.returns-clause-concludes
returns-clause-concludes g c =
    then_concludes g.L.Clocked (commands.Enable c.args.self.rev2) (switched_on c.args.self.rev2) c.args.self.conversation.count _ _ _ _ _
    c.ask_enabled.result c.in_ok-enabled.ensures.replied.0 c.ask_enabled.ensures.talks c.in_ok-enabled.ensures.replied.2 c.requires.stands (Ends c.args.self.rev2)
    (on_ends c.args.self.rev2 _ c.in_ok-enabled.ensures.replied.0 c.in_ok-enabled.ensures.replied.1 c.in_ok-check_enabled.ensures.on) _ _
    (concludes_here g.L.Clocked _ _ _ c.args.self.rev2
    (λ t. stands_left _ c.in_ok-enabled.ensures.replied.0 _ _ _ _ (c.in_ok-enabled.ensures.replied.2.answered t None (c.requires.stands t)) tt))

pub returns-clause-enabled : goal.returns-clause-enabled
returns-clause-enabled g c = λ t. record {
  replies = c.in_ok-enabled.ensures.replied.0;
  answered = c.in_ok-enabled.ensures.replied.2.answered t None (c.requires.stands t);
  accepted = c.in_ok-enabled.ensures.replied.2.accepted tt;
  told = sym c.in_ok-enabled.ensures.replied.1 ∙ c.in_ok-check_enabled.ensures.on;
}

pub returns-clause-still : goal.returns-clause-still
returns-clause-still g c = λ t.
    let f = c.requires.follows t in
    (_, (c.in_ok-enabled.ensures.replied.2.came t f.0 f.1).hears)
