use Rattle.std.proofs.Common.{ap, arith, refl, rules}
use Rattle.journal_core.specs.Standing.{Standing}
use Rattle.store_core.proofs.Moments.{tells_none}
use Rattle.mail_top.proofs.Openings.{never_err, store_disk, store_failed}
use Rattle.mail_top.proofs.Takeovers.{first_of, never_failed, not_taken_told, taken_told, untouched}
use Rattle.mail_top.proofs.takeover.take_over.Goals as goal

pub turn-requires : goal.turn-requires
turn-requires g c = record {
  sound = λ failed. c.requires.sound failed;
  later = omega (arith, c.generation.ensures, c.if-generation-eq4294967295.false, c.generation.type_inv);
  still = λ tells. c.requires.still tells;
}

-- it is of the version that is written
pub returns-then-eq-clause-moments : goal.returns-then-eq-clause-moments
returns-then-eq-clause-moments g c tells = tells_none c.args.store.now _ _ (c.requires.still tells)

pub returns-then-eq-clause-value : goal.returns-then-eq-clause-value
returns-then-eq-clause-value g c = untouched c.args.store.now (search (rules, c.version.ensures, c.if-eq.ensures))

pub returns-then-eq-clause-sound_still : goal.returns-then-eq-clause-sound_still
returns-then-eq-clause-sound_still g c = never_failed _ c.requires.sound

pub returns-then-eq-clause-written : goal.returns-then-eq-clause-written
returns-then-eq-clause-written g c = search (rules, c.version.ensures, c.if-eq.ensures)

-- no generation is to come
pub returns-then-generation-eq4294967295-clause-moments : goal.returns-then-generation-eq4294967295-clause-moments
returns-then-generation-eq4294967295-clause-moments g c tells = tells_none c.args.store.now _ _ (c.requires.still tells)

pub returns-then-generation-eq4294967295-clause-why : goal.returns-then-generation-eq4294967295-clause-why
returns-then-generation-eq4294967295-clause-why g c = record {
  older = λ written. absurd (search (rules, c.version.ensures, c.if-eq.ensures, written));
  last = omega (arith, c.generation.ensures, c.if-generation-eq4294967295.true);
}

-- the turn failed
pub returns-in_err-turn-clause-why : goal.returns-in_err-turn-clause-why
returns-in_err-turn-clause-why g c =
    not_taken_told c.args.store.now c.turn.result (λ written. absurd (search (rules, c.version.ensures, c.if-eq.ensures, written))) c.turn.ensures.over
    c.turn.ensures.full c.turn.ensures.only _ _ c.in_err-turn.was c.from_residual.ensures.1

pub returns-in_err-turn-clause-kept : goal.returns-in_err-turn-clause-kept
returns-in_err-turn-clause-kept g c is other =
    c.turn.ensures.kept (rw c.in_err-turn.was refl) (λ disk. other (store_failed _ _ _ c.in_err-turn.was c.from_residual.ensures.1 disk))

pub returns-in_err-turn-clause-blames : goal.returns-in_err-turn-clause-blames
returns-in_err-turn-clause-blames g c = record {
  link = c.turn.ensures.blames.link;
  count = c.turn.ensures.blames.count;
  cause = λ is. c.turn.ensures.blames.cause (store_disk _ _ _ c.in_err-turn.was c.from_residual.ensures.1 is);
  unfailed = λ other. c.turn.ensures.blames.unfailed (λ is. other (store_failed _ _ _ c.in_err-turn.was c.from_residual.ensures.1 is));
}

-- its book was told anew
pub returns-clause-value : goal.returns-clause-value
returns-clause-value g c =
    taken_told c.args.store.now c.turn.new.self
    (first_of c.args.store.now.journal.version (λ written. absurd (search (rules, c.version.ensures, c.if-eq.ensures, written))))
    c.turn.ensures.value c.in_ok-turn.ensures.moved

pub returns-clause-sound_still : goal.returns-clause-sound_still
returns-clause-sound_still g c = ap (λ (j : Standing). j.failed) c.in_ok-turn.ensures.moved

pub returns-clause-written : goal.returns-clause-written
returns-clause-written g c = ap (λ (j : Standing). j.version) c.in_ok-turn.ensures.moved

pub returns-clause-blames : goal.returns-clause-blames
returns-clause-blames g c = record {
  link = c.turn.ensures.blames.link;
  count = c.turn.ensures.blames.count;
  cause = λ is. absurd (never_err _ _ is);
  unfailed = λ other. c.in_ok-turn.ensures.blames.unfailed (never_err _ _);
}
