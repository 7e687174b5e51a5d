use Rattle.std.proofs.Common.{rules, Some, None}
use Rattle.imap_session.specs.LogIn.{way_by}
use Rattle.imap_session.specs.declared.fault.SessionFault.TheVariants as faults
use Rattle.imap_session.proofs.Dialogues.{broke_as, came_as, idle_sent, idle_talked, out_as, sent_as_dialogue, talked_as}
use Rattle.imap_session.proofs.LoggingIn.{no_way_broke, no_way_lacks, no_way_bad, no_way_link}
use Rattle.imap_session.proofs.Outcomes.{if_ok_more}
use Rattle.imap_session.proofs.login.log_in.Goals as goal

pub returns-in_err-command-clause-converses : goal.returns-in_err-command-clause-converses
returns-in_err-command-clause-converses g c = record {
  files = search rules;
  told = λ t. idle_talked (way_by c.args.account.now c.args.offer) c.args.count _;
  sent = λ t. idle_sent (way_by c.args.account.now c.args.offer) c.args.count _;
  lacking = λ t item is. no_way_lacks c.args.account.now c.args.offer item c.args.count _ _
      (c.way.ensures.why (faults.Lacking item) (search rules));
  why = λ t heard h fault is. no_way_broke c.args.account.now c.args.offer fault c.args.count heard _ _ h
      (c.way.ensures.why fault (search rules));
  honest = λ t at is. no_way_bad c.args.account.now c.args.offer at
      (c.way.ensures.why (faults.BadReply at) (search rules));
  earlier = search rules;
  blames = record {
    disk = search rules;
    count = search rules;
    cause = λ is. absurd (no_way_link c.args.account.now c.args.offer (c.way.ensures.why faults.Link
        (search rules)));
    unfailed = search rules;
  };
}

pub returns-clause-converses : goal.returns-clause-converses
returns-clause-converses g c = record {
  files = search rules;
  told = λ t. talked_as _ _ c.args.count _ _ c.in_ok-command.ensures.way (c.log_in_by.ensures.converses.told t);
  sent = λ t. sent_as_dialogue _ _ c.args.count _ _ c.in_ok-command.ensures.way (c.log_in_by.ensures.converses.sent t);
  lacking = λ t item is. out_as _ _ c.args.count (Some item) _ _ c.in_ok-command.ensures.way (c.log_in_by.ensures.converses.lacking t item is);
  why = λ t heard h fault is. broke_as _ _ c.args.count _ _ _ _ fault c.in_ok-command.ensures.way
      (c.log_in_by.ensures.converses.why t heard h fault is);
  honest = search rules;
  earlier = search rules;
  blames = search rules;
}

pub returns-clause-concludes : goal.returns-clause-concludes
returns-clause-concludes g c = if_ok_more c.log_in_by.result _ _
    (λ rev2 x. record {
      answered = λ t. out_as _ _ c.args.count None _ _ c.in_ok-command.ensures.way (x.answered t);
      came = λ t heard h. came_as _ _ c.args.count _ _ _ _ _ _ c.in_ok-command.ensures.way (x.came t heard h);
      stands = x.stands;
    })
    c.log_in_by.ensures.concludes
