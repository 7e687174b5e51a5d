use Rattle.std.proofs.Common.{◌≡◌, ap, Some}
use Rattle.command_texts.proofs.FlagReading.{next, done_all}
use Rattle.command_texts.proofs.SetReading.{none_long, some_long}
use Rattle.command_texts.proofs.reading.flags.flags_of.Goals as goal

pub returns-in_default : goal.returns-in_default
returns-in_default c = λ keys set is.
    let n = next keys _ _ _ _ set (c.loop-left.invariant keys set is) (some_long _ _ c.is_empty.ensures c.loop-left-test.true)
    (record { cut = c.until.ensures.cut; missing = c.until.ensures.missing }) in
    let found = c.in_ok-key.ensures n.key n.is_key n.flag in
    absurd (let none = c.in_default.is in cc)

pub loop-left-smaller : goal.loop-left-smaller
loop-left-smaller c = c.until.ensures.shorter (some_long _ _ c.is_empty.ensures c.loop-left-test.true)

pub loop-left-preserved : goal.loop-left-preserved
loop-left-preserved c = λ keys set is.
    let n = next keys _ _ _ _ set (c.loop-left.invariant keys set is) (some_long _ _ c.is_empty.ensures c.loop-left-test.true)
    (record { cut = c.until.ensures.cut; missing = c.until.ensures.missing }) in
    let found = c.in_ok-key.ensures n.key n.is_key n.flag in
    let told = c.in-Some.is in
    let same : c.in-Some.key ≡ n.key = cc in
    rw (c.in_ok-add.ensures.value, same, n.puts) n.reads

pub returns : goal.returns
returns c = λ keys set is. ap Some (done_all keys _ _ set (c.loop-left.invariant keys set is) (none_long _ _ c.is_empty.ensures c.loop-left-test.false))
