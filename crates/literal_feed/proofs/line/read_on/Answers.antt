use Rattle.std.proofs.Common.{◌-◌, drop, take, inl}
use Rattle.std.proofs.Math.Logic.{∥∥₁_elim}
use Rattle.literal_feed.proofs.Lines.{known, in_part, past_end, searched_plain, open_part, open_line, last_line, bad_line, goes_on}
use Rattle.mail_base.proofs.Lf.{no_lf-prop}
use Rattle.literal_feed.proofs.line.read_on.Goals as goal

pub step_of-requires-clause-plain : goal.step_of-requires-clause-plain
step_of-requires-clause-plain c =
    let line = c.args.line.now in
    let k = c.loop-cursor.cursor in
    ∥∥₁_elim c.loop-cursor.invariant (no_lf-prop (take (k.searched - k.part) (drop k.part line))) (λ s.
    let is = in_part line k s c.loop-cursor-test.true in
    searched_plain line k.part k.searched k.counted is.0 is.1 is.2)

pub returns-in-Open : goal.returns-in-Open
returns-in-Open c =
    let line = c.args.line.now in
    let k = c.loop-cursor.cursor in (
      known c.loop-cursor.invariant (λ s.
          let is = in_part line k s c.loop-cursor-test.true in
          inl (is.0, is.1, open_part line k.part k.searched k.counted is.0 is.1 is.2 c.in-Open.ensures)),
      known c.loop-cursor.invariant (λ s.
          let is = in_part line k s c.loop-cursor-test.true in
          open_line line k.part k.searched k.counted is.0 is.1 is.2 c.in-Open.ensures),
    )

pub returns-in-Last : goal.returns-in-Last
returns-in-Last c =
    let line = c.args.line.now in
    let k = c.loop-cursor.cursor in
    let closes = c.in-Last.ensures in
    known c.loop-cursor.invariant (λ s.
    let is = in_part line k s c.loop-cursor-test.true in
    let whole = last_line line k.part k.searched k.counted is.0 is.1 is.2 closes.0 closes.1 c.in-Last.end closes.2 closes.3 in
    (is.0, closes.0, closes.1, whole.0, whole.1))

pub returns-in-Bad : goal.returns-in-Bad
returns-in-Bad c =
    let line = c.args.line.now in
    let k = c.loop-cursor.cursor in
    known c.loop-cursor.invariant (λ s.
    let is = in_part line k s c.loop-cursor-test.true in
    bad_line line k.part k.searched k.counted is.0 is.1 is.2 c.args.at c.in-Bad.fault c.in-Bad.ensures)

pub loop-cursor-preserved : goal.loop-cursor-preserved
loop-cursor-preserved c =
    let next = c.behind-cursor in
    known c.loop-cursor.invariant
    (λ s. goes_on c.args.line.now c.loop-cursor.cursor next.result s c.loop-cursor-test.true c.in-Opens.low c.in-Opens.octets
    c.in-Opens.ensures next.ensures.part next.ensures.searched next.ensures.counted)

pub returns : goal.returns
returns c =
    (c.loop-cursor.invariant, known c.loop-cursor.invariant (λ s. past_end c.args.line.now c.loop-cursor.cursor s c.loop-cursor-test.false))
