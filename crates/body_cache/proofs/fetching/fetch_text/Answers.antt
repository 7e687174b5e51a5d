use Rattle.std.proofs.Common.{Err, Ok, [], ap, refl, subst, sym, ℕ, ◌∙◌, ◌∷◌}
use Rattle.imap_model.specs.declared.command.Command.TheVariants as commands
use Rattle.imap_session.proofs.Talks.{asks_enquires}
use Rattle.imap_session.specs.declared.fault.SessionFault.{SessionFault}
use Rattle.play_driver.proofs.CompleteRun.{comes_session, leaving_lacks, unrefused_leave}
use Rattle.play_driver.proofs.EntersServed.{enters_talking}
use Rattle.play_driver.proofs.GroundChains.{grounds_then, leave_grounded}
use Rattle.play_driver.proofs.OverOne.{goes_behind}
use Rattle.play_driver.specs.Faults.{of_session}
use Rattle.play_driver.specs.Questioning.{TalkStep}
use Rattle.play_driver.specs.declared.fault.PlayFault.TheVariants as plays
use Rattle.play_driver.specs.Stages.{stage_of}
use Rattle.play_driver.specs.declared.session.Session.TheVariants as sessions
use Rattle.body_cache.proofs.TextServed.{comes_served, has_own, only_box, selected_told, texts_told}
use Rattle.body_cache.specs.Asking.{ComesServed}
use Rattle.body_cache.specs.Fetching.{TellsAt}
use Rattle.body_cache.specs.Fetching.NotFetched.{not_entered, not_left, not_selected, not_told}
use Rattle.body_cache.proofs.OnlyAsking.{asks_as, asks_done, asks_failed, by_enters, by_talks, err_back, ok_own, only_then, same_err, told_err}
use Rattle.body_cache.specs.declared.fault.TextFault.{TextFault}
use Rattle.body_cache.specs.declared.fault.TextFault.TheVariants as faults
use Rattle.body_cache.proofs.fetching.fetch_text.Goals as goal

-- it didn't enter
pub returns-in_err-ready-clause-why : goal.returns-in_err-ready-clause-why
returns-in_err-ready-clause-why g c = λ t fault is.
    let f = c.in_err-ready.field-0.0 in
    not_entered f (same_err c.from_residual.result fault _ is (told_err c.from_residual.result _ c.from_residual.ensures.1))
    (c.enter.ensures.enters.why t f c.in_err-ready.was)

-- the mailbox wasn't selected
pub returns-in_err-chosen-clause-asks : goal.returns-in_err-chosen-clause-asks
returns-in_err-chosen-clause-asks g c =
    let r = c.in_ok-ready.ready in
    only_then g.L.Clocked c.args.link.now c.enter.new.link c.select_key.new.link (Ok r) r c.from_residual-in_err-chosen.result refl
    (asks_done g.L.Clocked c.args.link.now c.enter.new.link c.enter.result r (Ok r)
    (by_enters g.L.Clocked c.args.link.now c.enter.new.link c.enter.result c.args.account.now c.enter.ensures.enters) c.in_ok-ready.was (ok_own r))
    (asks_as g.L.Clocked c.enter.new.link c.select_key.new.link c.select_key.result c.from_residual-in_err-chosen.result c.in_err-chosen.field-0.0
    c.in_err-chosen.was (told_err c.from_residual-in_err-chosen.result _ c.from_residual-in_err-chosen.ensures.1) c.select_key.ensures.asks)

pub returns-in_err-chosen-clause-why : goal.returns-in_err-chosen-clause-why
returns-in_err-chosen-clause-why g c = λ t fault is.
    not_selected (stage_of (g.L.Clocked.link c.enter.new.link) (sessions.Ready c.in_ok-ready.ready)) (c.in_ok-ready.ensures.entered t)
    (c.select_key.ensures.why t fault
    (err_back c.select_key.result c.from_residual-in_err-chosen.result c.in_err-chosen.field-0.0 fault c.in_err-chosen.was
    (told_err c.from_residual-in_err-chosen.result _ c.from_residual-in_err-chosen.ensures.1) is))

-- no text was told
pub returns-in_err-asked-clause-asks : goal.returns-in_err-asked-clause-asks
returns-in_err-asked-clause-asks g c =
    let r = c.in_ok-ready.ready in
    only_then g.L.Clocked c.args.link.now c.enter.new.link c.ask_text.new.link (Ok r) r c.from_residual-in_err-asked.result refl
    (asks_done g.L.Clocked c.args.link.now c.enter.new.link c.enter.result r (Ok r)
    (by_enters g.L.Clocked c.args.link.now c.enter.new.link c.enter.result c.args.account.now c.enter.ensures.enters) c.in_ok-ready.was (ok_own r))
    (only_then g.L.Clocked c.enter.new.link c.select_key.new.link c.ask_text.new.link c.select_key.result c.in_ok-chosen.chosen
    c.from_residual-in_err-asked.result c.in_ok-chosen.was c.select_key.ensures.asks
    (asks_as g.L.Clocked c.select_key.new.link c.ask_text.new.link c.ask_text.result c.from_residual-in_err-asked.result c.in_err-asked.field-0.0
    c.in_err-asked.was (told_err c.from_residual-in_err-asked.result _ c.from_residual-in_err-asked.ensures.1) c.ask_text.ensures.asks))

pub returns-in_err-asked-clause-why : goal.returns-in_err-asked-clause-why
returns-in_err-asked-clause-why g c = λ t fault is.
    not_told (stage_of (g.L.Clocked.link c.enter.new.link) (sessions.Ready c.in_ok-ready.ready))
    (stage_of (g.L.Clocked.link c.select_key.new.link) (sessions.Chosen c.in_ok-chosen.chosen)) (c.in_ok-ready.ensures.entered t)
    (c.in_ok-chosen.ensures.selects t)
    (c.ask_text.ensures.why t fault
    (err_back c.ask_text.result c.from_residual-in_err-asked.result c.in_err-asked.field-0.0 fault c.in_err-asked.was
    (told_err c.from_residual-in_err-asked.result _ c.from_residual-in_err-asked.ensures.1) is))

-- the connection wasn't left
pub returns-in_err-leave-clause-asks : goal.returns-in_err-leave-clause-asks
returns-in_err-leave-clause-asks g c =
    let r = c.in_ok-ready.ready in
    only_then g.L.Clocked c.args.link.now c.enter.new.link c.leave.new.link (Ok r) r c.from_residual-in_err-leave.result refl
    (asks_done g.L.Clocked c.args.link.now c.enter.new.link c.enter.result r (Ok r)
    (by_enters g.L.Clocked c.args.link.now c.enter.new.link c.enter.result c.args.account.now c.enter.ensures.enters) c.in_ok-ready.was (ok_own r))
    (only_then g.L.Clocked c.enter.new.link c.select_key.new.link c.leave.new.link c.select_key.result c.in_ok-chosen.chosen
    c.from_residual-in_err-leave.result c.in_ok-chosen.was c.select_key.ensures.asks
    (only_then g.L.Clocked c.select_key.new.link c.ask_text.new.link c.leave.new.link c.ask_text.result c.in_ok-asked.asked
    c.from_residual-in_err-leave.result c.in_ok-asked.was c.ask_text.ensures.asks
    (asks_failed g.L.Clocked c.ask_text.new.link c.leave.new.link c.leave.result c.from_residual-in_err-leave.result c.in_err-leave.field-0.0
    (by_talks g.L.Clocked c.ask_text.new.link c.leave.new.link c.leave.result _ commands.Logout refl c.leave.ensures.talks)
    c.in_err-leave.was (told_err c.from_residual-in_err-leave.result _ c.from_residual-in_err-leave.ensures.1))))

pub returns-in_err-leave-clause-why : goal.returns-in_err-leave-clause-why
returns-in_err-leave-clause-why g c = λ t fault is.
    let f = c.in_err-leave.field-0.0 in
    not_left (stage_of (g.L.Clocked.link c.enter.new.link) (sessions.Ready c.in_ok-ready.ready))
    (stage_of (g.L.Clocked.link c.select_key.new.link) (sessions.Chosen c.in_ok-chosen.chosen))
    (stage_of (g.L.Clocked.link c.ask_text.new.link) (sessions.Chosen c.in_ok-asked.asked.0)) c.in_ok-asked.asked.1 f (c.in_ok-ready.ensures.entered t)
    (c.in_ok-chosen.ensures.selects t) (c.in_ok-asked.ensures.tells t)
    (same_err c.from_residual-in_err-leave.result fault _ is (told_err c.from_residual-in_err-leave.result _ c.from_residual-in_err-leave.ensures.1))
    (c.leave.ensures.why t f c.in_err-leave.was)

-- the text was fetched
pub returns-clause-asks : goal.returns-clause-asks
returns-clause-asks g c =
    let r = c.in_ok-ready.ready in
    only_then g.L.Clocked c.args.link.now c.enter.new.link c.leave.new.link (Ok r) r _ refl
    (asks_done g.L.Clocked c.args.link.now c.enter.new.link c.enter.result r (Ok r)
    (by_enters g.L.Clocked c.args.link.now c.enter.new.link c.enter.result c.args.account.now c.enter.ensures.enters) c.in_ok-ready.was (ok_own r))
    (only_then g.L.Clocked c.enter.new.link c.select_key.new.link c.leave.new.link c.select_key.result c.in_ok-chosen.chosen
    _ c.in_ok-chosen.was c.select_key.ensures.asks
    (only_then g.L.Clocked c.select_key.new.link c.ask_text.new.link c.leave.new.link c.ask_text.result c.in_ok-asked.asked
    _ c.in_ok-asked.was c.ask_text.ensures.asks
    (asks_done g.L.Clocked c.ask_text.new.link c.leave.new.link c.leave.result _ _
    (by_talks g.L.Clocked c.ask_text.new.link c.leave.new.link c.leave.result _ commands.Logout refl c.leave.ensures.talks)
    c.in_ok-leave.was (ok_own _))))

pub returns-clause-told : goal.returns-clause-told
returns-clause-told g c = λ t.
    let r = c.in_ok-ready.ready in
    let stands = c.in_ok-ready.ensures.stands t in
    record {
      count = r.conversation.count;
      entered = g.L.Clocked.clock c.enter.new.link;
      enters = c.enter.ensures.enters.told t;
      none_waits = stands.nothing;
      none_arrives = stands.no_part;
      selected = g.L.Clocked.clock c.select_key.new.link;
      selects = c.in_ok-chosen.ensures.told t;
      told = g.L.Clocked.clock c.ask_text.new.link;
      tells = subst (λ (n : ℕ). TellsAt c.args.key.now c.in_ok-asked.asked.1 n (g.L.Clocked.clock c.select_key.new.link) (g.L.Clocked.clock c.ask_text.new.link))
          c.in_ok-chosen.ensures.chosen.1 (c.in_ok-asked.ensures.told t);
      leaves = asks_enquires _ _ commands.Logout refl (g.L.Clocked.clock c.ask_text.new.link) (g.L.Clocked.clock c.leave.new.link) (c.leave.ensures.talks.told t);
    }

-- At a server that serves.
pub returns-in_err-ready-clause-serves : goal.returns-in_err-ready-clause-serves
returns-in_err-ready-clause-serves g c = λ t serving box fault is.
    let f = c.in_err-ready.field-0.0 in
    let entry = c.enter.ensures.serves t serving in
    subst ComesServed (sym (same_err c.from_residual.result fault _ is (told_err c.from_residual.result _ c.from_residual.ensures.1)))
    (comes_session f (λ line e. entry.0 line (c.in_err-ready.was ∙ ap (λ (x : SessionFault). Err x) e))
    (λ item e. entry.1 item (c.in_err-ready.was ∙ ap (λ (x : SessionFault). Err x) e))
    (λ at e. c.enter.ensures.enters.honest t at (c.in_err-ready.was ∙ ap (λ (x : SessionFault). Err x) e)) (of_session f) refl)

pub returns-in_err-chosen-clause-serves : goal.returns-in_err-chosen-clause-serves
returns-in_err-chosen-clause-serves g c = λ t serving box fault is.
    let files = g.L.Clocked.server_with_files t in
    let name = c.args.key.now.name in
    let names = name ∷ [] in
    let start = g.L.Clocked.clock c.args.link.now in
    let entered = g.L.Clocked.clock c.enter.new.link in
    let end = g.L.Clocked.clock c.select_key.new.link in
    let told = err_back c.select_key.result c.from_residual-in_err-chosen.result c.in_err-chosen.field-0.0 fault c.in_err-chosen.was
    (told_err c.from_residual-in_err-chosen.result _ c.from_residual-in_err-chosen.ensures.1) is in
    comes_served names start end
    (goes_behind TalkStep start entered end (enters_talking start entered (c.enter.ensures.enters.once t)) (c.select_key.ensures.converses.talks t))
    (grounds_then names start entered end (c.enter.ensures.enters.grounds t names) (c.select_key.ensures.converses.grounds t names (has_own name)))
    (only_box name start.now.outside.server box) serving fault
    (λ line e.
    selected_told c.args.key.now (stage_of (g.L.Clocked.link c.enter.new.link) (sessions.Ready c.in_ok-ready.ready))
    (g.L.Clocked.link c.select_key.new.link) line end.now.outside.talk.told
    (c.select_key.ensures.why files (faults.Stopped (plays.Refused line)) (told ∙ ap (λ (x : TextFault). Err x) e))
    (g.met.L.Link.honest c.select_key.new.link t))
    (λ f e bad. c.select_key.ensures.converses.faultless t f (told ∙ ap (λ (x : TextFault). Err x) e) bad)

pub returns-in_err-asked-clause-serves : goal.returns-in_err-asked-clause-serves
returns-in_err-asked-clause-serves g c = λ t serving box fault is.
    let files = g.L.Clocked.server_with_files t in
    let name = c.args.key.now.name in
    let names = name ∷ [] in
    let start = g.L.Clocked.clock c.args.link.now in
    let entered = g.L.Clocked.clock c.enter.new.link in
    let mid = g.L.Clocked.clock c.select_key.new.link in
    let end = g.L.Clocked.clock c.ask_text.new.link in
    let told = err_back c.ask_text.result c.from_residual-in_err-asked.result c.in_err-asked.field-0.0 fault c.in_err-asked.was
    (told_err c.from_residual-in_err-asked.result _ c.from_residual-in_err-asked.ensures.1) is in
    comes_served names start end
    (goes_behind TalkStep start mid end
    (goes_behind TalkStep start entered mid (enters_talking start entered (c.enter.ensures.enters.once t)) (c.select_key.ensures.converses.talks t))
    (c.ask_text.ensures.converses.talks t))
    (grounds_then names start mid end
    (grounds_then names start entered mid (c.enter.ensures.enters.grounds t names) (c.select_key.ensures.converses.grounds t names (has_own name)))
    (c.ask_text.ensures.converses.grounds t names (has_own name)))
    (only_box name start.now.outside.server box) serving fault
    (λ line e.
    texts_told c.args.key.now (stage_of (g.L.Clocked.link c.select_key.new.link) (sessions.Chosen c.in_ok-chosen.chosen))
    (g.L.Clocked.link c.ask_text.new.link) line end.now.outside.talk.told
    (c.ask_text.ensures.why files (faults.Stopped (plays.Refused line)) (told ∙ ap (λ (x : TextFault). Err x) e))
    (g.met.L.Link.honest c.ask_text.new.link t))
    (λ f e bad. c.ask_text.ensures.converses.faultless t f (told ∙ ap (λ (x : TextFault). Err x) e) bad)

pub returns-in_err-leave-clause-serves : goal.returns-in_err-leave-clause-serves
returns-in_err-leave-clause-serves g c = λ t serving box fault is.
    let files = g.L.Clocked.server_with_files t in
    let name = c.args.key.now.name in
    let names = name ∷ [] in
    let start = g.L.Clocked.clock c.args.link.now in
    let entered = g.L.Clocked.clock c.enter.new.link in
    let mid = g.L.Clocked.clock c.select_key.new.link in
    let asked = g.L.Clocked.clock c.ask_text.new.link in
    let end = g.L.Clocked.clock c.leave.new.link in
    let f = c.in_err-leave.field-0.0 in
    let here = stage_of (g.L.Clocked.link c.ask_text.new.link) (sessions.Chosen c.in_ok-asked.asked.0) in
    let why = c.leave.ensures.why files f c.in_err-leave.was in
    let grounds = grounds_then names start asked end
    (grounds_then names start mid asked
    (grounds_then names start entered mid (c.enter.ensures.enters.grounds t names) (c.select_key.ensures.converses.grounds t names (has_own name)))
    (c.ask_text.ensures.converses.grounds t names (has_own name)))
    (leave_grounded names _ _ asked end (c.leave.ensures.talks.told t)) in
    subst ComesServed
    (sym (same_err c.from_residual-in_err-leave.result fault _ is (told_err c.from_residual-in_err-leave.result _ c.from_residual-in_err-leave.ensures.1)))
    (comes_session f
    (λ line e.
    unrefused_leave names start end grounds (only_box name start.now.outside.server box) serving here (g.L.Clocked.link c.leave.new.link) f why
    (g.met.L.Link.honest c.leave.new.link t) line e)
    (leaving_lacks here (g.L.Clocked.link c.leave.new.link) f why)
    (λ at e. c.leave.ensures.talks.honest t at (c.in_err-leave.was ∙ ap (λ (x : SessionFault). Err x) e)) (of_session f) refl)
