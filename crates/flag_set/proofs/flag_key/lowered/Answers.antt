use Rattle.std.proofs.Common.{sym, subst}
use Rattle.flag_set.specs.FlagKey.{IsKey}
use Rattle.flag_set.proofs.Keys.{key_is}
use Rattle.flag_set.proofs.flag_key.lowered.Goals as goal

pub invariant_of-result : goal.invariant_of-result
invariant_of-result c = subst IsKey (sym c.in_ok-bytes.ensures) (key_is c.args.text.now c.requires)
