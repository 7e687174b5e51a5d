use Rattle.std.proofs.Common.{rules}
use Rattle.store_core.proofs.Anew.{well_second}
use Rattle.store_core.proofs.Moments.{tells_none}
use Rattle.store_core.proofs.store.Store.turn.Goals as goal

pub told_bodies-requires : goal.told_bodies-requires
told_bodies-requires g c = record {
  well = well_second c.self.inside.journal.version _ c.self.invariant.1;
  fits = search rules;
}

pub returns-then-wanted-gt-MAX_SIDE-clause-moments : goal.returns-then-wanted-gt-MAX_SIDE-clause-moments
returns-then-wanted-gt-MAX_SIDE-clause-moments g c tells = tells_none c.args.self.now _ _ (c.requires.still tells)

pub returns-in_err-bodies-clause-moments : goal.returns-in_err-bodies-clause-moments
returns-in_err-bodies-clause-moments g c tells = tells_none c.args.self.now _ _ (c.requires.still tells)
