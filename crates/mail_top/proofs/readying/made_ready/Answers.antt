use Rattle.std.proofs.Common.{◌∙◌, ap, arith, inr, refl, subst, sym}
use Rattle.journal_core.specs.Standing.{Standing}
use Rattle.journal_core.proofs.HeldBodies.{narrowed}
use Rattle.action_queue.specs.Book.{Meaning}
use Rattle.store_core.specs.Books.{HasBook}
use Rattle.store_core.specs.Fold.{IsFold}
use Rattle.store_core.specs.Mail.{mail}
use Rattle.store_core.proofs.Choosing.{only_left}
use Rattle.mail_top.specs.Course.{course_of}
use Rattle.mail_top.specs.declared.refusal.Refusal.TheVariants as refusals
use Rattle.mail_top.proofs.MadeReady.{keeps_still, none_due_anew, none_due_taken, opened_anew, opened_taken, readies_anew, readies_opening, ready_left}
use Rattle.mail_top.proofs.MadeReady.{told_anew, unready_open, unready_told, unready_turn}
use Rattle.mail_top.proofs.Openings.{handed_back, handed_on, never_err, rose_later, store_disk, store_failed, store_input}
use Rattle.mail_top.proofs.Takeovers.{long_as_read, unready_taken, untaken_input}
use Rattle.mail_top.proofs.readying.made_ready.Goals as goal

pub take_over-requires : goal.take_over-requires
take_over-requires g c = record {
  sound = λ failed. absurd (cc (failed, c.in_ok-store.ensures.sound));
  still = λ tells. c.in_ok-store.ensures.still tells;
}

pub turn-requires : goal.turn-requires
turn-requires g c = record {
  sound = λ failed. absurd (cc (failed, c.in_ok-take_over.ensures.sound_still));
  later = (c.is_turn_due.ensures.0 c.if-not-is_turn_due.false).more;
  still = λ tells. c.in_ok-take_over.ensures.done tells;
}

-- it isn't opened
pub returns-in_err-store-clause-moments : goal.returns-in_err-store-clause-moments
returns-in_err-store-clause-moments g c tells = readies_opening _ _ _ (c.open.ensures.moments tells)

pub returns-in_err-store-clause-unready : goal.returns-in_err-store-clause-unready
returns-in_err-store-clause-unready g c tells refusal is =
    unready_told _ _ _ refusal c.from_residual.ensures.1 is
    (unready_open _ c.open.result _ c.in_err-store.was (narrowed _ _ (c.open.ensures.moments tells).told) (λ other. c.open.ensures.seen tells other)
    c.open.ensures.only (λ why is. c.open.ensures.broken tells why is))

pub returns-in_err-store-clause-blames : goal.returns-in_err-store-clause-blames
returns-in_err-store-clause-blames g c = record {
  link = c.open.ensures.blames.link;
  count = c.open.ensures.blames.count;
  cause = λ is. c.open.ensures.blames.cause (store_disk _ _ _ c.in_err-store.was c.from_residual.ensures.1 is);
  unfailed = λ other. c.open.ensures.blames.unfailed (λ is. other (store_failed _ _ _ c.in_err-store.was c.from_residual.ensures.1 is));
}

pub returns-in_err-store-clause-never : goal.returns-in_err-store-clause-never
returns-in_err-store-clause-never g c is = store_input _ _ _ c.in_err-store.was c.from_residual.ensures.1 is

-- it isn't taken over
pub returns-in_err-take_over-clause-moments : goal.returns-in_err-take_over-clause-moments
returns-in_err-take_over-clause-moments g c tells =
    readies_anew c.in_ok-store.store.book _ _ _ _ (c.in_ok-store.ensures.value tells) (only_left mail _ _ _ (c.in_ok-store.ensures.still tells))
    (readies_opening _ _ _ (c.open.ensures.moments tells)) (c.take_over.ensures.moments tells)

pub returns-in_err-take_over-clause-unready : goal.returns-in_err-take_over-clause-unready
returns-in_err-take_over-clause-unready g c tells refusal is =
    let moments = readies_anew c.in_ok-store.store.book _ _ _ _ (c.in_ok-store.ensures.value tells) (only_left mail _ _ _ (c.in_ok-store.ensures.still tells))
    (readies_opening _ _ _ (c.open.ensures.moments tells)) (c.take_over.ensures.moments tells) in
    unready_told _ _ _ refusal c.from_residual-in_err-take_over.ensures.1 is
    (unready_taken _ c.in_ok-store.store _ _ (c.in_ok-store.ensures.still tells) (c.in_ok-store.ensures.seen tells (never_err _ _))
    (narrowed _ _ (c.open.ensures.moments tells).told) _ c.in_err-take_over.ensures.why (ready_left _ _ _ moments)
    (λ other.
    let kept = c.in_err-take_over.ensures.kept refl (λ disk. other (cc disk)) in
    (ap (λ d. (g.D.Clocked.clock d).now) kept.1, ap (λ d. g.D.Disk.seen d) kept.1)))

pub returns-in_err-take_over-clause-blames : goal.returns-in_err-take_over-clause-blames
returns-in_err-take_over-clause-blames g c = record {
  link = c.take_over.ensures.blames.link ∙ c.open.ensures.blames.link;
  count = omega (arith, c.take_over.ensures.blames.count, c.open.ensures.blames.count);
  cause = λ is. rose_later _ _ _ c.open.ensures.blames.count
      (c.take_over.ensures.blames.cause (handed_back _ _ _ c.in_err-take_over.was c.from_residual-in_err-take_over.ensures.1 refusals.Disk is));
  unfailed = λ other. c.take_over.ensures.blames.unfailed
      (λ is. other (handed_on _ _ _ c.in_err-take_over.was c.from_residual-in_err-take_over.ensures.1 refusals.Disk is))
      ∙ c.in_ok-store.ensures.blames.unfailed (never_err _ _);
}

pub returns-in_err-take_over-clause-never : goal.returns-in_err-take_over-clause-never
returns-in_err-take_over-clause-never g c is =
    untaken_input c.in_ok-store.store _ _ c.from_residual-in_err-take_over.ensures.1 c.in_err-take_over.ensures.why is

-- no turn is due for its length
pub returns-then-not-is_turn_due-clause-moments : goal.returns-then-not-is_turn_due-clause-moments
returns-then-not-is_turn_due-clause-moments g c tells =
    readies_anew c.in_ok-store.store.book _ _ _ _ (c.in_ok-store.ensures.value tells) (only_left mail _ _ _ (c.in_ok-store.ensures.still tells))
    (readies_opening _ _ _ (c.open.ensures.moments tells)) (c.take_over.ensures.moments tells)

pub returns-then-not-is_turn_due-clause-opened : goal.returns-then-not-is_turn_due-clause-opened
returns-then-not-is_turn_due-clause-opened g c tells =
    opened_taken _ _ _ _ _ _ c.in_ok-store.store c.take_over.new.store (narrowed _ _ (c.open.ensures.moments tells).told)
    (c.in_ok-store.ensures.still tells) (c.in_ok-store.ensures.seen tells (never_err _ _)) (c.in_ok-take_over.ensures.done tells)
    c.in_ok-take_over.ensures.value c.take_over.ensures.stays c.in_ok-take_over.ensures.written
    (λ is.
    let same = c.take_over.ensures.same is in
    (ap (λ d. (g.D.Clocked.clock d).now) same.1, ap (λ d. g.D.Disk.seen d) same.1))
    (λ due. let here = c.is_turn_due.ensures.1 due in absurd (cc (here, c.if-not-is_turn_due.true)))

pub returns-then-not-is_turn_due-clause-none_due : goal.returns-then-not-is_turn_due-clause-none_due
returns-then-not-is_turn_due-clause-none_due g c tells =
    none_due_taken _ _ _ _ _ _ c.in_ok-store.store c.take_over.new.store (narrowed _ _ (c.open.ensures.moments tells).told)
    (c.in_ok-store.ensures.still tells) (c.in_ok-store.ensures.seen tells (never_err _ _)) (c.in_ok-take_over.ensures.done tells)
    c.in_ok-take_over.ensures.value c.take_over.ensures.stays c.in_ok-take_over.ensures.written
    (λ is.
    let same = c.take_over.ensures.same is in
    (ap (λ d. (g.D.Clocked.clock d).now) same.1, ap (λ d. g.D.Disk.seen d) same.1))
    (λ due. let here = c.is_turn_due.ensures.1 due in absurd (cc (here, c.if-not-is_turn_due.true)))

pub returns-then-not-is_turn_due-clause-fold : goal.returns-then-not-is_turn_due-clause-fold
returns-then-not-is_turn_due-clause-fold g c = subst IsFold (sym c.take_over.ensures.stays) c.in_ok-store.ensures.fold

pub returns-then-not-is_turn_due-clause-blames : goal.returns-then-not-is_turn_due-clause-blames
returns-then-not-is_turn_due-clause-blames g c = record {
  link = c.take_over.ensures.blames.link ∙ c.open.ensures.blames.link;
  count = omega (arith, c.take_over.ensures.blames.count, c.open.ensures.blames.count);
  cause = λ is. absurd (never_err _ _ is);
  unfailed = λ other. c.in_ok-take_over.ensures.blames.unfailed (never_err _ _) ∙ c.in_ok-store.ensures.blames.unfailed (never_err _ _);
}

-- the turn failed
pub returns-in_err-turn-clause-moments : goal.returns-in_err-turn-clause-moments
returns-in_err-turn-clause-moments g c tells =
    readies_anew c.take_over.new.store.book _ _ _ _
    (subst (λ (b : Meaning). HasBook mail b (g.D.Disk.seen c.args.disk.now)) (sym c.take_over.ensures.stays) (c.in_ok-store.ensures.value tells))
    (only_left mail _ _ _ (c.in_ok-take_over.ensures.done tells))
    (readies_anew c.in_ok-store.store.book _ _ _ _ (c.in_ok-store.ensures.value tells) (only_left mail _ _ _ (c.in_ok-store.ensures.still tells))
    (readies_opening _ _ _ (c.open.ensures.moments tells)) (c.take_over.ensures.moments tells)) (c.turn.ensures.moments tells)

pub returns-in_err-turn-clause-unready : goal.returns-in_err-turn-clause-unready
returns-in_err-turn-clause-unready g c tells refusal is =
    let moments = readies_anew c.take_over.new.store.book _ _ _ _
    (subst (λ (b : Meaning). HasBook mail b (g.D.Disk.seen c.args.disk.now)) (sym c.take_over.ensures.stays) (c.in_ok-store.ensures.value tells))
    (only_left mail _ _ _ (c.in_ok-take_over.ensures.done tells))
    (readies_anew c.in_ok-store.store.book _ _ _ _ (c.in_ok-store.ensures.value tells) (only_left mail _ _ _ (c.in_ok-store.ensures.still tells))
    (readies_opening _ _ _ (c.open.ensures.moments tells)) (c.take_over.ensures.moments tells)) (c.turn.ensures.moments tells) in
    let due = c.is_turn_due.ensures.0 c.if-not-is_turn_due.false in
    let same = c.take_over.ensures.same (long_as_read c.in_ok-store.store c.take_over.new.store c.in_ok-take_over.ensures.value due c.take_over.ensures.stays) in
    unready_told _ _ _ refusal c.from_residual-in_err-turn.ensures.1 is
    (unready_turn _ c.turn.result _ c.in_err-turn.was (ready_left _ _ _ moments)
    (λ other.
    let kept = c.turn.ensures.kept (rw c.in_err-turn.was refl) other in
    keeps_still (course_of g.D.Clocked g.D.Disk.seen c.args.disk.now c.turn.new.disk) _ _ (narrowed _ _ (c.open.ensures.moments tells).told)
    (c.in_ok-store.ensures.seen tells (never_err _ _))
    (ap (λ d. (g.D.Clocked.clock d).now) (kept.1 ∙ same.1)) (ap (λ d. g.D.Disk.seen d) (kept.1 ∙ same.1)))
    c.turn.ensures.only
    (λ end wanted full. absurd (omega (arith, c.turn.ensures.full end wanted full, due.fits))))

pub returns-in_err-turn-clause-blames : goal.returns-in_err-turn-clause-blames
returns-in_err-turn-clause-blames g c = record {
  link = c.turn.ensures.blames.link ∙ (c.take_over.ensures.blames.link ∙ c.open.ensures.blames.link);
  count = omega (arith, c.turn.ensures.blames.count, c.take_over.ensures.blames.count, c.open.ensures.blames.count);
  cause = λ is. rose_later _ _ _ (omega (arith, c.take_over.ensures.blames.count, c.open.ensures.blames.count))
      (c.turn.ensures.blames.cause (store_disk _ _ _ c.in_err-turn.was c.from_residual-in_err-turn.ensures.1 is));
  unfailed = λ other. c.turn.ensures.blames.unfailed (λ is. other (store_failed _ _ _ c.in_err-turn.was c.from_residual-in_err-turn.ensures.1 is))
      ∙ (c.in_ok-take_over.ensures.blames.unfailed (never_err _ _) ∙ c.in_ok-store.ensures.blames.unfailed (never_err _ _));
}

pub returns-in_err-turn-clause-never : goal.returns-in_err-turn-clause-never
returns-in_err-turn-clause-never g c is = store_input _ _ _ c.in_err-turn.was c.from_residual-in_err-turn.ensures.1 is

-- its book was told anew
pub returns-clause-moments : goal.returns-clause-moments
returns-clause-moments g c tells =
    readies_anew c.take_over.new.store.book _ _ _ _
    (subst (λ (b : Meaning). HasBook mail b (g.D.Disk.seen c.args.disk.now)) (sym c.take_over.ensures.stays) (c.in_ok-store.ensures.value tells))
    (only_left mail _ _ _ (c.in_ok-take_over.ensures.done tells))
    (readies_anew c.in_ok-store.store.book _ _ _ _ (c.in_ok-store.ensures.value tells) (only_left mail _ _ _ (c.in_ok-store.ensures.still tells))
    (readies_opening _ _ _ (c.open.ensures.moments tells)) (c.take_over.ensures.moments tells)) (c.turn.ensures.moments tells)

pub returns-clause-opened : goal.returns-clause-opened
returns-clause-opened g c tells =
    let due = c.is_turn_due.ensures.0 c.if-not-is_turn_due.false in
    let same = c.take_over.ensures.same (long_as_read c.in_ok-store.store c.take_over.new.store c.in_ok-take_over.ensures.value due c.take_over.ensures.stays) in
    opened_anew c.take_over.new.store c.turn.new.self c.turn.ensures.value c.in_ok-turn.ensures.moved _ _ _ (c.in_ok-take_over.ensures.done tells)
    (ap (λ d. g.D.Disk.seen d) same.1 ∙ c.in_ok-store.ensures.seen tells (never_err _ _)) (inr due) _ _ _
    (subst (λ (b : Meaning). HasBook mail b (g.D.Disk.seen c.args.disk.now)) (sym c.take_over.ensures.stays) (c.in_ok-store.ensures.value tells))
    (c.in_ok-turn.ensures.done tells)

pub returns-clause-none_due : goal.returns-clause-none_due
returns-clause-none_due g c tells =
    let due = c.is_turn_due.ensures.0 c.if-not-is_turn_due.false in
    let same = c.take_over.ensures.same (long_as_read c.in_ok-store.store c.take_over.new.store c.in_ok-take_over.ensures.value due c.take_over.ensures.stays) in
    none_due_anew c.turn.new.self _ _ (c.in_ok-turn.ensures.done tells) _
    (told_anew c.take_over.new.store c.turn.new.self c.turn.ensures.value c.in_ok-turn.ensures.moved _ _ _ (c.in_ok-take_over.ensures.done tells)
    (ap (λ d. g.D.Disk.seen d) same.1 ∙ c.in_ok-store.ensures.seen tells (never_err _ _)) (inr due))

pub returns-clause-sound : goal.returns-clause-sound
returns-clause-sound g c = ap (λ (j : Standing). j.failed) c.in_ok-turn.ensures.moved

pub returns-clause-written : goal.returns-clause-written
returns-clause-written g c = ap (λ (j : Standing). j.version) c.in_ok-turn.ensures.moved

pub returns-clause-fold : goal.returns-clause-fold
returns-clause-fold g c = subst IsFold (sym (c.turn.ensures.value ∙ c.take_over.ensures.stays)) c.in_ok-store.ensures.fold

pub returns-clause-blames : goal.returns-clause-blames
returns-clause-blames g c = record {
  link = c.turn.ensures.blames.link ∙ (c.take_over.ensures.blames.link ∙ c.open.ensures.blames.link);
  count = omega (arith, c.turn.ensures.blames.count, c.take_over.ensures.blames.count, c.open.ensures.blames.count);
  cause = λ is. absurd (never_err _ _ is);
  unfailed = λ other. c.in_ok-turn.ensures.blames.unfailed (never_err _ _)
      ∙ (c.in_ok-take_over.ensures.blames.unfailed (never_err _ _) ∙ c.in_ok-store.ensures.blames.unfailed (never_err _ _));
}
