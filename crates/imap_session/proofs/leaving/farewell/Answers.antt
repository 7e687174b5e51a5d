use Rattle.std.proofs.Common.{rules}
use Rattle.imap_session.proofs.Farewells.{unfit_never}
use Rattle.imap_session.proofs.leaving.farewell.Goals as goal

pub returns-in_err-finish : goal.returns-in_err-finish
returns-in_err-finish c = record {
  farewell = search rules;
  why = λ fault is. (
    unfit_never c.args.tag c.args.line.frame c.args.line.response fault (c.finish.ensures.why fault
        (search rules)),
    c.in_default.not-Bye,
  );
}
