use Rattle.std.proofs.Common.{rules, arith, ◌≤◌, ◌+◌, ap, length, refl, sym, subst, ℕ}
use Rattle.imap_session.specs.Faults.{Reading}
use Rattle.imap_session.specs.declared.fault.SessionFault.TheVariants as faults
use Rattle.imap_session.proofs.Dialogues.{on_ok_then}
use Rattle.imap_session.proofs.Hearing.{reads_piece, sum_after, too_many}
use Rattle.imap_session.proofs.Outcomes.{same_err}
use Rattle.imap_session.proofs.Reading.{due}
use Rattle.imap_session.proofs.Replying.{bad_memory, link_memory}
use Rattle.imap_session.proofs.Sending.{on_ok_always}
use Rattle.imap_session.proofs.listening.receive.Goals as goal

pub recv-requires-clause-due : goal.recv-requires-clause-due
recv-requires-clause-due g c = λ tells. due _ _ _ (c.requires.owed tells) c.requires.cut c.requires.sound

pub returns-then-left-size-clause-why : goal.returns-then-left-size-clause-why
returns-then-left-size-clause-why g c = λ tells heard had r fault is.
    let fits : c.in_ok-count.count ≤ length c.recv.new.into = omega (arith, c.in_ok-count.ensures.fits) in
    let few : c.in_ok-count.count ≤ 4096 = omega (arith, c.in_ok-count.ensures.fits) in
    subst (Reading heard had c.args.most _) (same_err _ _ _ refl is)
    (too_many heard had c.args.most _ c.in_ok-count.count _ _ _ _ r (c.in_ok-count.ensures.received tells) fits _
    (ap (λ (n : ℕ). n + 1) c.from.ensures) c.requires.cut few c.if-left-size.true)

pub returns-clause-reads : goal.returns-clause-reads
returns-clause-reads g c = λ tells heard had most r.
    let fits : c.in_ok-count.count ≤ length c.recv.new.into = omega (arith, c.in_ok-count.ensures.fits) in
    on_ok_then c.put_in.result _ _ (λ put. reads_piece heard had most _ c.in_ok-count.count _ _ _ _ r (c.in_ok-count.ensures.received tells) fits _
    (omega (arith, c.if-left-size.false)) put)
    c.put_in.ensures.put

pub returns-clause-sum : goal.returns-clause-sum
returns-clause-sum g c =
    let fits : c.in_ok-count.count ≤ length c.recv.new.into = omega (arith, c.in_ok-count.ensures.fits) in
    on_ok_then c.put_in.result _ _ (λ put. sum_after _ _ _ c.in_ok-count.count _ put fits c.if-left-size.false) c.put_in.ensures.put

pub returns-clause-why : goal.returns-clause-why
returns-clause-why g c = λ t heard had r fault is. subst (Reading heard had c.args.most _) (sym (c.put_in.ensures.why fault is)) tt

pub returns-clause-unjudged : goal.returns-clause-unjudged
returns-clause-unjudged g c = λ at is. bad_memory at (c.put_in.ensures.why (faults.BadReply at) is)

pub returns-clause-receives : goal.returns-clause-receives
returns-clause-receives g c = record {
  files = search rules;
  told = search rules;
  sent = search rules;
  earlier = search rules;
  blames = record {
    disk = search rules;
    count = search rules;
    cause = λ is. absurd (link_memory (c.put_in.ensures.why faults.Link is));
    unfailed = search rules;
  };
}

pub returns-clause-less : goal.returns-clause-less
returns-clause-less g c = on_ok_always c.put_in.result (omega (arith, c.in_ok-count.ensures.some, c.if-left-size.false))
