use Rattle.std.proofs.Common.{ap, length, ◌≡◌, ◌∙◌, arith, rules, subst, sym}
use Rattle.std.proofs.lemmas.Option.{MatchOption-at_some, MatchOption-at_none}
use Rattle.literal_feed.specs.Stream.{Stream}
use Rattle.mail_base.specs.Frames.{NoWhole}
use Rattle.mail_base.specs.declared.frame.Frame.{Frame}
use Rattle.mail_base.proofs.Frames.{next_size}
use Rattle.imap_model.specs.Talking.{Answering}
use Rattle.imap_model.specs.Responses.{Spells}
use Rattle.imap_response.specs.Within.{SpellsWithin}
use Rattle.world_traits.specs.Links.{AnyStep}
use Rattle.imap_session.specs.declared.fault.SessionFault.TheVariants as faults
use Rattle.imap_session.specs.Faults.{Reading}
use Rattle.imap_session.proofs.Hearing.{reads_line, line_why, as_reads, reads_same, fed_why, feed_no_link}
use Rattle.imap_session.proofs.Outcomes.{if_ok_both, if_ok_more}
use Rattle.imap_session.proofs.Reading.{listens_on, listens_same}
use Rattle.imap_session.proofs.Spelled.{all_spelled}
use Rattle.imap_session.proofs.Talking.{linked_then}
use Rattle.imap_session.proofs.listening.next.Goals as goal

pub returns-in-Some-clause-reads : goal.returns-in-Some-clause-reads
returns-in-Some-clause-reads g c = λ tells heard had most r.
    let took = MatchOption-at_some _ _ c.in-Some.frame c.in-Some.is c.in_ok-frame.ensures.frame in
    if_ok_both c.line_of.result (λ line. line.frame ≡ c.in-Some.frame)
    (λ line. Spells c.in-Some.frame line.response × SpellsWithin c.in-Some.frame line.response) _
    (λ line same spells. reads_line _ _ c.in-Some.frame took.0 took.1 heard had most _ _ line.response line.frame same
    (c.loop-frame.invariant.reads tells heard had most r) spells)
    c.line_of.ensures.frame c.line_of.ensures.spells

pub returns-in-Some-clause-spells : goal.returns-in-Some-clause-spells
returns-in-Some-clause-spells g c =
    if_ok_both c.line_of.result (λ line. line.frame ≡ c.in-Some.frame)
    (λ line. Spells c.in-Some.frame line.response × SpellsWithin c.in-Some.frame line.response) _
    (λ line same spells. subst (λ (f : Frame). Spells f line.response) (sym same) spells.0)
    c.line_of.ensures.frame c.line_of.ensures.spells

pub returns-in-Some-clause-why : goal.returns-in-Some-clause-why
returns-in-Some-clause-why g c = λ tells heard had r fault is.
    let took = MatchOption-at_some _ _ c.in-Some.frame c.in-Some.is c.in_ok-frame.ensures.frame in
    line_why _ _ c.in-Some.frame took.0 took.1 heard had c.args.most _ _ fault (c.loop-frame.invariant.reads tells heard had c.args.most r)
    (c.line_of.ensures.why fault is)

pub returns-in_err-check-clause-why : goal.returns-in_err-check-clause-why
returns-in_err-check-clause-why g c = λ tells heard had r fault is.
    let none = MatchOption-at_none _ _ c.in_default.is c.in_ok-frame.ensures.none in
    let same = c.check.ensures.kept ∙ none.1 in
    let reads = reads_same heard had c.args.most _ _ _ _ (c.loop-frame.invariant.reads tells heard had c.args.most r) same in
    let cut = subst (λ (s : Stream). NoWhole s.bytes) (sym same) none.0 in
    let bad = c.check.ensures.why fault (search rules) in
    subst (Reading heard had c.args.most _) (sym bad.1) (fed_why heard had c.args.most _ _ _ reads cut bad.0 bad.2)

pub returns-in_err-check-clause-receives : goal.returns-in_err-check-clause-receives
returns-in_err-check-clause-receives g c = record {
  files = search rules;
  told = search rules;
  sent = search rules;
  earlier = search rules;
  blames = record {
    disk = search rules;
    count = search rules;
    cause = λ is. let bad = c.check.ensures.why faults.Link (search rules) in absurd (feed_no_link bad.0 bad.1);
    unfailed = search rules;
  };
}

pub receive-requires : goal.receive-requires
receive-requires g c =
    let none = MatchOption-at_none _ _ c.in_default.is c.in_ok-frame.ensures.none in
    let same = c.check.ensures.kept ∙ none.1 in
    record {
      owed = λ t. listens_same _ _ _ _ (c.loop-frame.invariant.owed t) same;
      cut = subst (λ (s : Stream). NoWhole s.bytes) (sym same) none.0;
      sound = c.in_ok-check.ensures.sound;
    }

pub loop-frame-preserved : goal.loop-frame-preserved
loop-frame-preserved g c =
    let none = MatchOption-at_none _ _ c.in_default.is c.in_ok-frame.ensures.none in
    let same = c.check.ensures.kept ∙ none.1 in
    record {
      files = λ t. linked_then AnyStep _ _ _ (c.loop-frame.invariant.files t) (c.receive.ensures.receives.files t);
      told = λ t. linked_then Answering _ _ _ (c.loop-frame.invariant.told t) (c.receive.ensures.receives.told t);
      owed = λ t. listens_on _ _ _ _ _ _ (listens_same _ _ _ _ (c.loop-frame.invariant.owed t) same) (c.receive.ensures.receives.told t)
          (λ heard h. (c.in_ok-receive.ensures.reads (g.L.Clocked.server_with_files t) heard _ _ (as_reads heard c.loop-frame.left _ _ h)).hears);
      reads = λ t heard had most r. c.in_ok-receive.ensures.reads t heard had most
          (reads_same heard had most _ _ _ _ (c.loop-frame.invariant.reads t heard had most r) same);
      sent = λ t. c.receive.ensures.receives.sent t ∙ c.loop-frame.invariant.sent t;
      earlier = λ t. c.receive.ensures.receives.earlier t ∙ c.loop-frame.invariant.earlier t;
      sum = omega (arith, c.in_ok-receive.ensures.sum, ap (λ (s : Stream). length s.bytes) same, c.loop-frame.invariant.sum);
      disk = c.receive.ensures.receives.blames.disk ∙ c.loop-frame.invariant.disk;
      count = c.receive.ensures.receives.blames.unfailed (search rules) ∙ c.loop-frame.invariant.count;
    }

pub returns-in_err-receive-clause-receives : goal.returns-in_err-receive-clause-receives
returns-in_err-receive-clause-receives g c = record {
  files = λ t. linked_then AnyStep _ _ _ (c.loop-frame.invariant.files t) (c.receive.ensures.receives.files t);
  told = λ t. linked_then Answering _ _ _ (c.loop-frame.invariant.told t) (c.receive.ensures.receives.told t);
  sent = search rules;
  earlier = search rules;
  blames = search rules;
}

pub returns-in_err-receive-clause-why : goal.returns-in_err-receive-clause-why
returns-in_err-receive-clause-why g c = λ tells heard had r fault is.
    let none = MatchOption-at_none _ _ c.in_default.is c.in_ok-frame.ensures.none in
    c.receive.ensures.why tells heard had
    (reads_same heard had c.args.most _ _ _ _ (c.loop-frame.invariant.reads tells heard had c.args.most r) (c.check.ensures.kept ∙ none.1)) fault
    (search rules)

pub returns-in-Some-clause-receives : goal.returns-in-Some-clause-receives
returns-in-Some-clause-receives g c = record {
  files = search rules;
  told = search rules;
  sent = search rules;
  earlier = search rules;
  blames = record {
    disk = search rules;
    count = search rules;
    cause = λ is. absurd (c.line_of.ensures.why faults.Link is);
    unfailed = search rules;
  };
}

pub returns-in-Some-clause-less : goal.returns-in-Some-clause-less
returns-in-Some-clause-less g c =
    let took = MatchOption-at_some _ _ c.in-Some.frame c.in-Some.is c.in_ok-frame.ensures.frame in
    if_ok_more c.line_of.result (λ line. line.frame ≡ c.in-Some.frame) _
    (λ line same. omega (arith, next_size _ _ c.in-Some.frame _ took.0, c.loop-frame.invariant.sum))
    c.line_of.ensures.frame

-- no honest server's line is called bad
pub returns-in-Some-clause-honest : goal.returns-in-Some-clause-honest
returns-in-Some-clause-honest g c = λ t at is.
    let took = MatchOption-at_some _ _ c.in-Some.frame c.in-Some.is c.in_ok-frame.ensures.frame in
    let l = c.loop-frame.invariant.owed t in
    all_spelled l.heard at l.hears.connection.received (g.L.Clocked.clock c.loop-frame.link).now.outside _
    (line_why _ _ c.in-Some.frame took.0 took.1 l.heard _ c.loop-frame.left c.loop-frame.left _ (faults.BadReply at)
    (as_reads l.heard c.loop-frame.left _ _ l.hears) (c.line_of.ensures.why (faults.BadReply at) is))
    (g.met.L.Link.honest c.loop-frame.link t)

pub returns-in_err-check-clause-honest : goal.returns-in_err-check-clause-honest
returns-in_err-check-clause-honest g c = λ t at is.
    let none = MatchOption-at_none _ _ c.in_default.is c.in_ok-frame.ensures.none in
    let same = c.check.ensures.kept ∙ none.1 in
    let l = listens_same _ _ _ _ (c.loop-frame.invariant.owed t) same in
    let cut = subst (λ (s : Stream). NoWhole s.bytes) (sym same) none.0 in
    let bad = c.check.ensures.why (faults.BadReply at) (search rules) in
    all_spelled l.heard at l.hears.connection.received (g.L.Clocked.clock c.loop-frame.link).now.outside _
    (subst (Reading l.heard l.hears.connection.received c.loop-frame.left (g.L.Clocked.link c.loop-frame.link).connection) (sym bad.1)
    (fed_why l.heard _ c.loop-frame.left c.loop-frame.left _ _ (as_reads l.heard c.loop-frame.left _ _ l.hears) cut bad.0 bad.2))
    (g.met.L.Link.honest c.loop-frame.link t)

pub returns-in_err-receive-clause-honest : goal.returns-in_err-receive-clause-honest
returns-in_err-receive-clause-honest g c = λ t at is. c.receive.ensures.unjudged at (search rules)
