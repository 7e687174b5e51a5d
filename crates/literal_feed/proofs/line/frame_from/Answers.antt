use Rattle.std.proofs.Common.{◌≡◌, take, refl, rules}
use Rattle.literal_feed.proofs.Lines.{open_line, bad_line}
use Rattle.mail_base.proofs.Frames.{fault_no_whole}
use Rattle.literal_feed.proofs.Ends.{open_no_whole}
use Rattle.literal_feed.proofs.Literals.{in_so, past_so, goes_so, whole_so}
use Rattle.literal_feed.proofs.line.frame_from.Goals as goal

pub returns-in-Open-clause-none : goal.returns-in-Open-clause-none
returns-in-Open-clause-none c =
    let line = c.args.bytes.now in
    let k = c.loop-cursor.cursor in
    let is = in_so line k c.loop-cursor.literals c.loop-cursor.invariant c.loop-cursor-test.true in
    open_no_whole line (open_line line k.part k.searched k.counted is.0 is.1 is.2 c.in-Open.ensures)

pub returns-in-Bad-clause-none : goal.returns-in-Bad-clause-none
returns-in-Bad-clause-none c =
    let line = c.args.bytes.now in
    let k = c.loop-cursor.cursor in
    let is = in_so line k c.loop-cursor.literals c.loop-cursor.invariant c.loop-cursor-test.true in
    fault_no_whole line c.args.at c.in-Bad.field-0 (bad_line line k.part k.searched k.counted is.0 is.1 is.2 c.args.at c.in-Bad.field-0 c.in-Bad.ensures)

pub loop-cursor-preserved : goal.loop-cursor-preserved
loop-cursor-preserved c =
    let next = c.behind-cursor in
    goes_so c.args.bytes.now c.loop-cursor.cursor next.result c.loop-cursor.literals c.push.new.self c.loop-cursor.invariant
    c.loop-cursor-test.true c.in-Opens.low c.in-Opens.octets
    c.in-Opens.ensures next.ensures.part next.ensures.searched next.ensures.counted c.in_ok-push-in-Opens.ensures.done

pub returns-in-Last-clause-frame : goal.returns-in-Last-clause-frame
returns-in-Last-clause-frame c =
    let bytes : c.of-bytes.result ≡ take c.in-Last.end c.args.bytes.now = search rules in
    (whole_so c.args.bytes.now c.loop-cursor.cursor c.loop-cursor.literals c.args.at c.in-Last.end c.ranges.at.fits c.loop-cursor.invariant
    c.loop-cursor-test.true c.in-Last.ensures (record {
      bytes = c.of-bytes.result;
      literals = c.loop-cursor.literals;
      at =
          c.args.at;
    }) bytes refl refl).1

pub returns-clause-none : goal.returns-clause-none
returns-clause-none c = past_so c.args.bytes.now c.loop-cursor.cursor c.loop-cursor.literals c.loop-cursor.invariant c.loop-cursor-test.false
