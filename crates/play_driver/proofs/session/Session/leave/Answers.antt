use Rattle.std.proofs.Common.{OnOk, sym, subst}
use Rattle.imap_session.specs.Session.{Follows}
use Rattle.imap_session.specs.declared.fault.SessionFault.{SessionFault}
use Rattle.std.specs.Prelude.{IsErrOf}
use Rattle.play_driver.specs.Playing.{HasLeft, NotLeft}
use Rattle.play_driver.specs.Sessions.{feed_of}
use Rattle.play_driver.specs.Stages.{stage_of}
use Rattle.play_driver.specs.declared.session.Session.{Session}
use Rattle.play_driver.proofs.Ends.{has_left, not_left}
use Rattle.play_driver.proofs.session.Session.leave.Goals as goal

pub returns-in-Ready-clause-left : goal.returns-in-Ready-clause-left
returns-in-Ready-clause-left g c = λ t.
    let follows = subst (λ (s : Session). Follows (g.L.Clocked.link c.args.link.now).connection (feed_of s)) c.in-Ready.is (c.requires.follows t) in
    subst (λ (s : Session). OnOk c.leave.result (HasLeft (stage_of (g.L.Clocked.link c.args.link.now) s) (g.L.Clocked.link c.leave.new.link)))
    (sym c.in-Ready.is) (has_left _ _ c.leave.result follows (c.leave.ensures.leaves.left t) (c.leave.ensures.leaves.whole t))

pub returns-in-Ready-clause-why : goal.returns-in-Ready-clause-why
returns-in-Ready-clause-why g c = λ t.
    let follows = subst (λ (s : Session). Follows (g.L.Clocked.link c.args.link.now).connection (feed_of s)) c.in-Ready.is (c.requires.follows t) in
    subst (λ (s : Session). (fault : SessionFault) → IsErrOf c.leave.result fault →
    NotLeft (stage_of (g.L.Clocked.link c.args.link.now) s) (g.L.Clocked.link c.leave.new.link) fault)
    (sym c.in-Ready.is) (not_left _ _ c.leave.result follows (c.leave.ensures.talks.sent t) (c.leave.ensures.leaves.why t))

pub returns-in-Chosen-clause-left : goal.returns-in-Chosen-clause-left
returns-in-Chosen-clause-left g c = λ t.
    let follows = subst (λ (s : Session). Follows (g.L.Clocked.link c.args.link.now).connection (feed_of s)) c.in-Chosen.is (c.requires.follows t) in
    subst (λ (s : Session). OnOk c.leave-in-Chosen.result (HasLeft (stage_of (g.L.Clocked.link c.args.link.now) s)
    (g.L.Clocked.link c.leave-in-Chosen.new.link)))
    (sym c.in-Chosen.is) (has_left _ _ c.leave-in-Chosen.result follows (c.leave-in-Chosen.ensures.leaves.left t) (c.leave-in-Chosen.ensures.leaves.whole t))

pub returns-in-Chosen-clause-why : goal.returns-in-Chosen-clause-why
returns-in-Chosen-clause-why g c = λ t.
    let follows = subst (λ (s : Session). Follows (g.L.Clocked.link c.args.link.now).connection (feed_of s)) c.in-Chosen.is (c.requires.follows t) in
    subst (λ (s : Session). (fault : SessionFault) → IsErrOf c.leave-in-Chosen.result fault →
    NotLeft (stage_of (g.L.Clocked.link c.args.link.now) s) (g.L.Clocked.link c.leave-in-Chosen.new.link) fault)
    (sym c.in-Chosen.is) (not_left _ _ c.leave-in-Chosen.result follows (c.leave-in-Chosen.ensures.talks.sent t) (c.leave-in-Chosen.ensures.leaves.why t))
