use Rattle.std.proofs.Common.{[], inl, inr, rules}
use Rattle.imap_session.specs.Most.{most_before}
use Rattle.imap_session.specs.declared.fault.SessionFault.TheVariants as faults
use Rattle.imap_session.proofs.Hello.{fresh_reads, greeting_owed, greeting_fit, greeting_told, greeted_stands, first_line}
use Rattle.imap_session.proofs.Greetings.{begun_so, greets_so}
use Rattle.imap_session.proofs.Hearing.{at_most}
use Rattle.imap_session.proofs.fresh.Fresh.greet.Goals as goal

pub next-requires : goal.next-requires
next-requires g c = record { owed = λ t. greeting_owed _ _ _ (c.requires.greeted t) (c.requires.fresh (g.L.Clocked.server_with_files t)) }

pub returns-in_err-line-clause-why : goal.returns-in_err-line-clause-why
returns-in_err-line-clause-why g c = λ t fault is. inl (c.next.ensures.why t [] _ (fresh_reads _ _ most_before _ c.from-left.ensures (c.requires.fresh t)) fault
    (search rules))

pub returns-in_err-line-clause-honest : goal.returns-in_err-line-clause-honest
returns-in_err-line-clause-honest g c = λ t at is. c.next.ensures.honest t at (search rules)

pub returns-in_err-greeting-clause-why : goal.returns-in_err-greeting-clause-why
returns-in_err-greeting-clause-why g c = λ t fault is.
    let h = fresh_reads _ _ most_before _ c.from-left.ensures (c.requires.fresh t) in
    let r = c.in_ok-line.ensures.reads t [] _ _ h in
    inr (record {
      frame = c.in_ok-line.line.frame;
      response = c.in_ok-line.line.response;
      line = first_line c.in_ok-line.line.frame c.in_ok-line.line.response _ _ _ _ r c.in_ok-line.ensures.spells;
      unfit = c.hello.ensures.why fault (search rules);
    })

pub returns-in_err-greeting-clause-honest : goal.returns-in_err-greeting-clause-honest
returns-in_err-greeting-clause-honest g c = λ t at is.
    let h = fresh_reads _ _ most_before _ c.from-left.ensures (c.requires.fresh (g.L.Clocked.server_with_files t)) in
    let r = c.in_ok-line.ensures.reads (g.L.Clocked.server_with_files t) [] _ _ h in
    greeting_fit _ _ _ _ c.in_ok-line.line.response (c.requires.greeted t) (c.next.ensures.receives.told t) r.reads.hears
    (g.met.L.Link.honest c.next.new.link t) c.in_ok-line.line.frame at (c.hello.ensures.why (faults.BadReply at) (search rules))

pub returns-in_err-greeting-clause-receives : goal.returns-in_err-greeting-clause-receives
returns-in_err-greeting-clause-receives g c = record {
  files = search rules;
  told = search rules;
  sent = search rules;
  earlier = search rules;
  blames = record {
    disk = search rules;
    count = search rules;
    cause = λ is. absurd (c.hello.ensures.why faults.Link (search rules));
    unfailed = search rules;
  };
}

pub returns-clause-greeting : goal.returns-clause-greeting
returns-clause-greeting g c = λ t.
    let h = fresh_reads _ _ most_before _ c.from-left.ensures (c.requires.fresh t) in
    let r = c.in_ok-line.ensures.reads t [] _ _ h in
    greets_so _ c.in_ok-line.line.response c.in_ok-greeting.greeting _ _ c.in_ok-greeting.ensures.value c.in_ok-greeting.ensures.greets
    r.reads.hears c.is_preauth.ensures

pub returns-clause-stands : goal.returns-clause-stands
returns-clause-stands g c = λ t.
    let h = fresh_reads _ _ most_before _ c.from-left.ensures (c.requires.fresh (g.L.Clocked.server_with_files t)) in
    let r = c.in_ok-line.ensures.reads (g.L.Clocked.server_with_files t) [] _ _ h in
    greeted_stands _ _ _ _ c.in_ok-line.line.response (c.requires.greeted t) (c.next.ensures.receives.told t) r.reads.hears
    (g.met.L.Link.honest c.next.new.link t)

pub returns-clause-still : goal.returns-clause-still
returns-clause-still g c = λ t.
    let h = fresh_reads _ _ most_before _ c.from-left.ensures (c.requires.fresh t) in
    (_, (c.in_ok-line.ensures.reads t [] _ _ h).reads.hears)

pub returns-clause-begun : goal.returns-clause-begun
returns-clause-begun g c = λ t.
    let h = fresh_reads _ _ most_before _ c.from-left.ensures (c.requires.fresh (g.L.Clocked.server_with_files t)) in
    let r = c.in_ok-line.ensures.reads (g.L.Clocked.server_with_files t) [] _ _ h in
    begun_so _ c.in_ok-line.line.response c.in_ok-greeting.greeting _ c.in_ok-greeting.ensures.value c.in_ok-greeting.ensures.greets
    (greeting_told _ _ _ _ c.in_ok-line.line.response (c.requires.greeted t) (c.next.ensures.receives.told t) r.reads.hears
    (g.met.L.Link.honest c.next.new.link t))
    c.is_preauth.ensures

pub returns-clause-within : goal.returns-clause-within
returns-clause-within g c = λ t.
    at_most _ _ _ _ _ _ (c.in_ok-line.ensures.reads t [] _ _ (fresh_reads _ _ most_before _ c.from-left.ensures (c.requires.fresh t))).reads
