use Rattle.std.specs.Prelude.{[], map, string_bytes}
use Rattle.flag_set.specs.FlagKey.{key_of}
use Rattle.mail_top.proofs.Naming.{bytes_at}
use Rattle.mail_top.proofs.Admitting.{asked_handed, bad_text, good_text, keys_text, put_most, put_least}
use Rattle.mail_top.proofs.weighing.keys_of.Goals as goal

pub returns-in_err-add_flag-clause-value : goal.returns-in_err-add_flag-clause-value
returns-in_err-add_flag-clause-value c =
    let at = bytes_at c.args.flags.now c.loop-flag.flag-index c.flag-item.result c.loop-flag-test.true c.flag-item.is in
    asked_handed (map string_bytes c.args.flags.now) _ _ c.from_residual.ensures.1
    (λ other. bad_text (map string_bytes c.args.flags.now) _ _ _ at.0 at.1 c.as_str.ensures.value c.loop-flag.keys []
    c.loop-flag.invariant.good c.loop-flag.invariant.keys (c.in_err-add_flag.ensures.bad other))

pub loop-flag-preserved : goal.loop-flag-preserved
loop-flag-preserved c =
    let at = bytes_at c.args.flags.now c.loop-flag.flag-index c.flag-item.result c.loop-flag-test.true c.flag-item.is in
    let before = c.loop-flag.invariant in
    record {
      good = good_text (map string_bytes c.args.flags.now) _ _ _ at.0 at.1 c.as_str.ensures.value c.loop-flag.keys [] before.good before.keys
          c.in_ok-add_flag.ensures.good;
      keys = keys_text _ _ _ _ at.0 at.1 c.as_str.ensures.value _ _ before.good before.keys c.in_ok-add_flag.ensures.added;
      most = put_most (key_of c.as_str.result.now) c.loop-flag.keys _ _ c.in_ok-add_flag.ensures.added before.most;
      least = λ some. put_least (key_of c.as_str.result.now) c.loop-flag.keys _ c.in_ok-add_flag.ensures.added;
    }
