use Rattle.std.proofs.Common.{[], ◌∙◌, ℕ, arith, inl, inr, refl, rules, subst, sym}
use Rattle.imap_session.proofs.Outcomes.{if_ok_more}
use Rattle.imap_session.proofs.Talks.{answers_enquires, connects_enquires, enabling_asks, entering_asks}
use Rattle.imap_session.proofs.Talking.{linked_then}
use Rattle.imap_session.specs.Dialogue.{so_far}
use Rattle.imap_session.specs.LogIn.{enabling, entering}
use Rattle.imap_session.specs.declared.fault.SessionFault.TheVariants as faults
use Rattle.imap_session.specs.Enquiring.{Enquiring}
use Rattle.world_traits.specs.Links.{AnyStep, LinkStep}
use Rattle.play_driver.specs.Questioning.{Questioning}
use Rattle.play_driver.proofs.OverOne.{answers_over, connects_first, enabling_over, entering_over, goes_behind, once_then}
use Rattle.play_driver.specs.Entering.NotEntered.{unconnected, ungreeted}
use Rattle.play_driver.specs.Stages.{Stage}
use Rattle.play_driver.specs.Refusals.{RefusesRun}
use Rattle.play_driver.specs.Serving.{begins_preauth}
use Rattle.play_driver.proofs.EntersServed.{asks_behind, began_so, enters_talking, greeting_lacks, lacks_behind, link_lacks, link_refuses}
use Rattle.play_driver.proofs.Fitness.{LacksNothing, enabling_lacks_none, entering_lacks_none}
use Rattle.play_driver.proofs.Remaining.{enabling_remains, entering_remains}
use Rattle.play_driver.proofs.Served.{served_end}
use Rattle.play_driver.proofs.ToldRefusals.{entry_told, never_told}
use Rattle.play_driver.proofs.Enters.{enabling_told, entered_so, entering_told, unfit_so, unknown_so}
use Rattle.play_driver.proofs.GroundChains.{connects_grounded, enabling_grounded, entering_grounded, greets_grounded, grounds_then}
use Rattle.play_driver.proofs.Opened.{in_any, opens_from}
use Rattle.play_driver.proofs.SentRuns.{unentered_once}
use Rattle.play_driver.proofs.entering.enter.Goals as goal

pub returns-in_err-fresh-clause-enters : goal.returns-in_err-fresh-clause-enters
returns-in_err-fresh-clause-enters g c = record {
  files = search rules;
  told = λ t. connects_enquires _ _ (c.connect.ensures.told t);
  once = λ t. connects_first (LinkStep Questioning) _ _ (c.connect.ensures.told t);
  grounds = λ t names. connects_grounded names _ _ (c.connect.ensures.told t);
  why = λ t fault is.
      unconnected (c.connect.ensures.only fault (search rules)) (c.in_err-fresh.ensures.unsent t) (c.in_err-fresh.ensures.unmade t);
  one = λ t. inl (c.in_err-fresh.ensures.unmade t);
  sends = λ t fault is. inl (record { sent = c.in_err-fresh.ensures.unsent t; earlier = c.in_err-fresh.ensures.unmade t });
  honest = search rules;
  blames = search rules;
}

pub returns-in_err-fresh-clause-serves : goal.returns-in_err-fresh-clause-serves
returns-in_err-fresh-clause-serves g c = λ t serving. (
  λ line is. link_refuses line (c.connect.ensures.only (faults.Refused line) (search rules)),
  λ item is. link_lacks item (c.connect.ensures.only (faults.Lacking item) (search rules)),
)

pub returns-in_err-greeted-clause-enters : goal.returns-in_err-greeted-clause-enters
returns-in_err-greeted-clause-enters g c = record {
  files = λ t. linked_then AnyStep _ _ _ (c.connect.ensures.files t) (c.greet.ensures.receives.files t);
  told = λ t.
      linked_then Enquiring _ _ _ (connects_enquires _ _ (c.connect.ensures.told t)) (answers_enquires _ _ (c.greet.ensures.receives.told t));
  once = λ t.
      goes_behind (LinkStep Questioning) _ _ _ (connects_first (LinkStep Questioning) _ _ (c.connect.ensures.told t))
      (answers_over _ _ (c.greet.ensures.receives.told t));
  grounds = λ t names.
      greets_grounded names _ _ _ (c.connect.ensures.told t) (c.greet.ensures.receives.told t);
  why = λ t fault is.
      ungreeted (c.greet.ensures.why t fault (search rules)) (c.greet.ensures.receives.sent t ∙ c.in_ok-fresh.ensures.sent t);
  one = λ t.
      once_then (g.L.Clocked.link c.args.link.now) (g.L.Clocked.link c.connect.new.link) (g.L.Clocked.link c.greet.new.link)
      (inr (c.in_ok-fresh.ensures.earlier t)) (c.greet.ensures.receives.earlier t);
  sends = λ t fault is.
      unentered_once c.args.account.now (g.L.Clocked.link c.args.link.now) (g.L.Clocked.link c.greet.new.link) fault
      (c.greet.ensures.receives.earlier t ∙ c.in_ok-fresh.ensures.earlier t)
      (ungreeted (c.greet.ensures.why t fault (search rules)) (c.greet.ensures.receives.sent t ∙ c.in_ok-fresh.ensures.sent t));
  honest = search rules;
  blames = search rules;
}

pub returns-in_err-greeted-clause-serves : goal.returns-in_err-greeted-clause-serves
returns-in_err-greeted-clause-serves g c = λ t serving.
    let f = g.L.Clocked.server_with_files t in
    let served = served_end [] _ _ (enters_talking _ _ ((returns-in_err-greeted-clause-enters g c).once t)) ((returns-in_err-greeted-clause-enters g c).grounds t []) (λ name has. absurd cc) serving in (
      λ line is.
          let why = (returns-in_err-greeted-clause-enters g c).why f (faults.Refused line) is in
          never_told RefusesRun _ served.told (entry_told _ _ _ line _ why (g.met.L.Link.honest c.greet.new.link t)),
      λ item is. greeting_lacks _ item (c.greet.ensures.why f (faults.Lacking item) (search rules)),
    )

pub returns-in_err-known-clause-enters : goal.returns-in_err-known-clause-enters
returns-in_err-known-clause-enters g c = record {
  files = λ t.
      linked_then AnyStep _ _ _ (linked_then AnyStep _ _ _ (c.connect.ensures.files t) (c.greet.ensures.receives.files t)) (c.authenticate.ensures.converses.files t);
  told = λ t.
      let first = linked_then Enquiring _ _ _ (connects_enquires _ _ (c.connect.ensures.told t)) (answers_enquires _ _ (c.greet.ensures.receives.told t)) in
      entering_told _ _ _ first (g.L.Clocked.link c.greet.new.link) (g.L.Clocked.link c.authenticate.new.link) c.in_ok-greeted.greeted.conversation.count
      c.in_ok-greeted.greeted.preauth c.args.account.now (c.authenticate.ensures.converses.told t);
  once = λ t.
      let first =
      goes_behind (LinkStep Questioning) _ _ _ (connects_first (LinkStep Questioning) _ _ (c.connect.ensures.told t))
      (answers_over _ _ (c.greet.ensures.receives.told t)) in
      entering_over _ _ _ first (g.L.Clocked.link c.greet.new.link) (g.L.Clocked.link c.authenticate.new.link) c.in_ok-greeted.greeted.conversation.count
      c.in_ok-greeted.greeted.preauth c.args.account.now (c.authenticate.ensures.converses.told t);
  grounds = λ t names.
      let first = greets_grounded names _ _ _ (c.connect.ensures.told t) (c.greet.ensures.receives.told t) in
      grounds_then names _ _ _ first
      (entering_grounded names c.in_ok-greeted.greeted.preauth c.args.account.now c.in_ok-greeted.greeted.conversation.count
      (so_far (g.L.Clocked.clock c.greet.new.link) (g.L.Clocked.link c.greet.new.link))
      (so_far (g.L.Clocked.clock c.authenticate.new.link) (g.L.Clocked.link c.authenticate.new.link)) (c.authenticate.ensures.converses.told t));
  why = λ t fault is.
      let greeted = c.in_ok-greeted.greeted in
      let p : Stage = record { link = g.L.Clocked.link c.greet.new.link; feed = greeted.conversation.feed; count = greeted.conversation.count } in
      unknown_so c.args.account.now (g.L.Clocked.link c.args.link.now) greeted.preauth p
      (record {
        unasked = c.in_ok-greeted.ensures.counted ∙ c.in_ok-fresh.ensures.counted;
        unsent = c.greet.ensures.receives.sent t ∙ c.in_ok-fresh.ensures.sent t;
        greets = c.in_ok-greeted.ensures.greeting t;
      }) (c.in_ok-greeted.ensures.still t) c.authenticate.result (g.L.Clocked.link c.authenticate.new.link) (c.authenticate.ensures.converses.why t) fault (search rules);
  one = λ t.
      let first = once_then (g.L.Clocked.link c.args.link.now) (g.L.Clocked.link c.connect.new.link) (g.L.Clocked.link c.greet.new.link)
      (inr (c.in_ok-fresh.ensures.earlier t)) (c.greet.ensures.receives.earlier t) in
      once_then (g.L.Clocked.link c.args.link.now) (g.L.Clocked.link c.greet.new.link) (g.L.Clocked.link c.authenticate.new.link) first (c.authenticate.ensures.converses.earlier t);
  sends = λ t fault is.
      let greeted = c.in_ok-greeted.greeted in
      let p : Stage = record { link = g.L.Clocked.link c.greet.new.link; feed = greeted.conversation.feed; count = greeted.conversation.count } in
      unentered_once c.args.account.now (g.L.Clocked.link c.args.link.now) (g.L.Clocked.link c.authenticate.new.link) fault
      (c.authenticate.ensures.converses.earlier t ∙ c.greet.ensures.receives.earlier t ∙ c.in_ok-fresh.ensures.earlier t)
      (unknown_so c.args.account.now (g.L.Clocked.link c.args.link.now) greeted.preauth p
      (record {
        unasked = c.in_ok-greeted.ensures.counted ∙ c.in_ok-fresh.ensures.counted;
        unsent = c.greet.ensures.receives.sent t ∙ c.in_ok-fresh.ensures.sent t;
        greets = c.in_ok-greeted.ensures.greeting t;
      }) (c.in_ok-greeted.ensures.still t) c.authenticate.result (g.L.Clocked.link c.authenticate.new.link) (c.authenticate.ensures.converses.why t) fault (search rules));
  honest = search rules;
  blames = search rules;
}

pub returns-in_err-known-clause-serves : goal.returns-in_err-known-clause-serves
returns-in_err-known-clause-serves g c = λ t serving.
    let f = g.L.Clocked.server_with_files t in
    let greeted = c.in_ok-greeted.greeted in
    let d = entering greeted.preauth c.args.account.now in
    let at = so_far (g.L.Clocked.clock c.greet.new.link) (g.L.Clocked.link c.greet.new.link) in
    let new = so_far (g.L.Clocked.clock c.authenticate.new.link) (g.L.Clocked.link c.authenticate.new.link) in
    let served = served_end [] _ _ (enters_talking _ _ ((returns-in_err-known-clause-enters g c).once t)) ((returns-in_err-known-clause-enters g c).grounds t []) (λ name has. absurd cc) serving in (
      λ line is.
          let why = (returns-in_err-known-clause-enters g c).why f (faults.Refused line) is in
          never_told RefusesRun _ served.told (entry_told _ _ _ line _ why (g.met.L.Link.honest c.authenticate.new.link t)),
      λ item is. lacks_behind _ _ (c.connect.ensures.told t) (c.in_ok-fresh.ensures.greeted t) at new greeted.preauth d
          (entering_asks greeted.preauth c.args.account.now) (entering_remains greeted.preauth c.args.account.now) greeted.conversation.count item
          (answers_over _ _ (c.greet.ensures.receives.told t)) (began_so greeted.preauth _ (c.in_ok-greeted.ensures.begun t))
          (subst (λ (n : ℕ). LacksNothing greeted.preauth d n) (sym (c.in_ok-greeted.ensures.counted ∙ c.in_ok-fresh.ensures.counted))
          (entering_lacks_none greeted.preauth c.args.account.now))
          (c.authenticate.ensures.converses.lacking t item (search rules)) serving,
    )

pub enable-requires-clause-room : goal.enable-requires-clause-room
enable-requires-clause-room g c = omega (arith, c.in_ok-known.ensures.counted, c.in_ok-greeted.ensures.counted, c.in_ok-fresh.ensures.counted)

pub returns-clause-enters : goal.returns-clause-enters
returns-clause-enters g c = record {
  files = λ t.
      let first = linked_then AnyStep _ _ _ (c.connect.ensures.files t) (c.greet.ensures.receives.files t) in
      linked_then AnyStep _ _ _ (linked_then AnyStep _ _ _ first (c.authenticate.ensures.converses.files t)) (c.enable.ensures.converses.files t);
  told = λ t.
      let first = linked_then Enquiring _ _ _ (connects_enquires _ _ (c.connect.ensures.told t)) (answers_enquires _ _ (c.greet.ensures.receives.told t)) in
      let second =
      entering_told _ _ _ first (g.L.Clocked.link c.greet.new.link) (g.L.Clocked.link c.authenticate.new.link) c.in_ok-greeted.greeted.conversation.count
      c.in_ok-greeted.greeted.preauth c.args.account.now (c.authenticate.ensures.converses.told t) in
      enabling_told _ _ _ second (g.L.Clocked.link c.authenticate.new.link) (g.L.Clocked.link c.enable.new.link) c.in_ok-known.known.conversation.count
      c.in_ok-known.known.rev2 (c.enable.ensures.converses.told t);
  once = λ t.
      let first =
      goes_behind (LinkStep Questioning) _ _ _ (connects_first (LinkStep Questioning) _ _ (c.connect.ensures.told t))
      (answers_over _ _ (c.greet.ensures.receives.told t)) in
      let second =
      entering_over _ _ _ first (g.L.Clocked.link c.greet.new.link) (g.L.Clocked.link c.authenticate.new.link) c.in_ok-greeted.greeted.conversation.count
      c.in_ok-greeted.greeted.preauth c.args.account.now (c.authenticate.ensures.converses.told t) in
      enabling_over _ _ _ second (g.L.Clocked.link c.authenticate.new.link) (g.L.Clocked.link c.enable.new.link) c.in_ok-known.known.conversation.count
      c.in_ok-known.known.rev2 (c.enable.ensures.converses.told t);
  grounds = λ t names.
      let first = greets_grounded names _ _ _ (c.connect.ensures.told t) (c.greet.ensures.receives.told t) in
      let second = grounds_then names _ _ _ first
      (entering_grounded names c.in_ok-greeted.greeted.preauth c.args.account.now c.in_ok-greeted.greeted.conversation.count
      (so_far (g.L.Clocked.clock c.greet.new.link) (g.L.Clocked.link c.greet.new.link))
      (so_far (g.L.Clocked.clock c.authenticate.new.link) (g.L.Clocked.link c.authenticate.new.link)) (c.authenticate.ensures.converses.told t)) in
      grounds_then names _ _ _ second
      (enabling_grounded names c.in_ok-known.known.rev2 c.in_ok-known.known.conversation.count
      (so_far (g.L.Clocked.clock c.authenticate.new.link) (g.L.Clocked.link c.authenticate.new.link))
      (so_far (g.L.Clocked.clock c.enable.new.link) (g.L.Clocked.link c.enable.new.link)) (c.enable.ensures.converses.told t));
  why = λ t fault is.
      let greeted = c.in_ok-greeted.greeted in
      let known = c.in_ok-known.known in
      let p : Stage = record { link = g.L.Clocked.link c.greet.new.link; feed = greeted.conversation.feed; count = greeted.conversation.count } in
      let k : Stage = record { link = g.L.Clocked.link c.authenticate.new.link; feed = known.conversation.feed; count = known.conversation.count } in
      unfit_so c.args.account.now (g.L.Clocked.link c.args.link.now) greeted.preauth p
      (record {
        unasked = c.in_ok-greeted.ensures.counted ∙ c.in_ok-fresh.ensures.counted;
        unsent = c.greet.ensures.receives.sent t ∙ c.in_ok-fresh.ensures.sent t;
        greets = c.in_ok-greeted.ensures.greeting t;
      }) (c.in_ok-greeted.ensures.still t) known.rev2 k (c.in_ok-known.ensures.concludes.came t) (c.in_ok-known.ensures.still t) (g.L.Clocked.link c.enable.new.link)
      c.enable.result (c.enable.ensures.converses.why t) fault is;
  one = λ t.
      let first = once_then (g.L.Clocked.link c.args.link.now) (g.L.Clocked.link c.connect.new.link) (g.L.Clocked.link c.greet.new.link)
      (inr (c.in_ok-fresh.ensures.earlier t)) (c.greet.ensures.receives.earlier t) in
      let second = once_then (g.L.Clocked.link c.args.link.now) (g.L.Clocked.link c.greet.new.link) (g.L.Clocked.link c.authenticate.new.link) first (c.authenticate.ensures.converses.earlier t) in
      once_then (g.L.Clocked.link c.args.link.now) (g.L.Clocked.link c.authenticate.new.link) (g.L.Clocked.link c.enable.new.link) second (c.enable.ensures.converses.earlier t);
  sends = λ t fault is.
      let greeted = c.in_ok-greeted.greeted in
      let known = c.in_ok-known.known in
      let p : Stage = record { link = g.L.Clocked.link c.greet.new.link; feed = greeted.conversation.feed; count = greeted.conversation.count } in
      let k : Stage = record { link = g.L.Clocked.link c.authenticate.new.link; feed = known.conversation.feed; count = known.conversation.count } in
      unentered_once c.args.account.now (g.L.Clocked.link c.args.link.now) (g.L.Clocked.link c.enable.new.link) fault
      (c.enable.ensures.converses.earlier t ∙ c.authenticate.ensures.converses.earlier t ∙ c.greet.ensures.receives.earlier t
      ∙ c.in_ok-fresh.ensures.earlier t)
      (unfit_so c.args.account.now (g.L.Clocked.link c.args.link.now) greeted.preauth p
      (record {
        unasked = c.in_ok-greeted.ensures.counted ∙ c.in_ok-fresh.ensures.counted;
        unsent = c.greet.ensures.receives.sent t ∙ c.in_ok-fresh.ensures.sent t;
        greets = c.in_ok-greeted.ensures.greeting t;
      }) (c.in_ok-greeted.ensures.still t) known.rev2 k (c.in_ok-known.ensures.concludes.came t) (c.in_ok-known.ensures.still t) (g.L.Clocked.link c.enable.new.link)
      c.enable.result (c.enable.ensures.converses.why t) fault is);
  honest = search rules;
  blames = search rules;
}

pub returns-clause-entered : goal.returns-clause-entered
returns-clause-entered g c = λ t.
    let greeted = c.in_ok-greeted.greeted in
    let known = c.in_ok-known.known in
    let p : Stage = record { link = g.L.Clocked.link c.greet.new.link; feed = greeted.conversation.feed; count = greeted.conversation.count } in
    let k : Stage = record { link = g.L.Clocked.link c.authenticate.new.link; feed = known.conversation.feed; count = known.conversation.count } in
    if_ok_more c.enable.result _ _
    (λ s ends. entered_so c.args.account.now (g.L.Clocked.link c.args.link.now) greeted.preauth p
    (record {
      unasked = c.in_ok-greeted.ensures.counted ∙ c.in_ok-fresh.ensures.counted;
      unsent = c.greet.ensures.receives.sent t ∙ c.in_ok-fresh.ensures.sent t;
      greets = c.in_ok-greeted.ensures.greeting t;
    }) (c.in_ok-greeted.ensures.still t) known.rev2 k (c.in_ok-known.ensures.concludes.came t) (c.in_ok-known.ensures.still t)
    (g.L.Clocked.link c.enable.new.link) s (ends.came t))
    c.enable.ensures.concludes

pub returns-clause-stands : goal.returns-clause-stands
returns-clause-stands g c = λ t. if_ok_more c.enable.result _ _ (λ s ends. ends.stands t) c.enable.ensures.concludes

pub returns-clause-made : goal.returns-clause-made
returns-clause-made g c = λ t.
    in_any c.enable.result _
    (c.enable.ensures.converses.earlier t ∙ c.authenticate.ensures.converses.earlier t ∙ c.greet.ensures.receives.earlier t
    ∙ c.in_ok-fresh.ensures.earlier t)

pub returns-clause-opened : goal.returns-clause-opened
returns-clause-opened g c = λ t.
    let greeted = g.L.Clocked.link c.greet.new.link in
    let known = g.L.Clocked.link c.authenticate.new.link in
    in_any c.enable.result _
    (opens_from _ _ _ _ _ (c.connect.ensures.told t) (c.in_ok-fresh.ensures.greeted t) (c.greet.ensures.receives.told t) greeted known known
    (g.L.Clocked.link c.enable.new.link) c.in_ok-greeted.greeted.conversation.count c.in_ok-known.known.conversation.count
    c.in_ok-greeted.greeted.preauth c.in_ok-known.known.rev2 c.args.account.now (c.authenticate.ensures.converses.told t) (c.enable.ensures.converses.told t))

pub returns-clause-serves : goal.returns-clause-serves
returns-clause-serves g c = λ t serving.
    let f = g.L.Clocked.server_with_files t in
    let greeted = c.in_ok-greeted.greeted in
    let known = c.in_ok-known.known in
    let at = so_far (g.L.Clocked.clock c.greet.new.link) (g.L.Clocked.link c.greet.new.link) in
    let mid = so_far (g.L.Clocked.clock c.authenticate.new.link) (g.L.Clocked.link c.authenticate.new.link) in
    let new = so_far (g.L.Clocked.clock c.enable.new.link) (g.L.Clocked.link c.enable.new.link) in
    let asks = asks_behind (g.L.Clocked.clock c.connect.new.link) at mid (entering greeted.preauth c.args.account.now)
    (entering_asks greeted.preauth c.args.account.now)
    (entering_remains greeted.preauth c.args.account.now) greeted.conversation.count (answers_over _ _ (c.greet.ensures.receives.told t))
    (c.authenticate.ensures.converses.told t) in
    let served = served_end [] _ _ (enters_talking _ _ ((returns-clause-enters g c).once t)) ((returns-clause-enters g c).grounds t []) (λ name has. absurd cc) serving in (
      λ line is.
          let why = (returns-clause-enters g c).why f (faults.Refused line) is in
          never_told RefusesRun _ served.told (entry_told _ _ _ line _ why (g.met.L.Link.honest c.enable.new.link t)),
      λ item is. lacks_behind _ _ (c.connect.ensures.told t) (c.in_ok-fresh.ensures.greeted t) mid new
          (begins_preauth (g.L.Clocked.clock c.authenticate.new.link).now.outside.talk.told) (enabling known.rev2) (enabling_asks known.rev2)
          (enabling_remains known.rev2) known.conversation.count item asks refl
          (enabling_lacks_none (begins_preauth (g.L.Clocked.clock c.authenticate.new.link).now.outside.talk.told) known.rev2 known.conversation.count) (c.enable.ensures.converses.lacking t item is) serving,
    )
