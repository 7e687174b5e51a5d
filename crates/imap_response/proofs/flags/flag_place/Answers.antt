use Rattle.std.proofs.Common.{◌≡◌, ◌+◌, drop, get_or, length, sym, ap, ◌∙◌, arith}
use Rattle.imap_response.specs.Flags.{flag_place}
use Rattle.imap_response.proofs.Steps.{flag_on, flag_stops, flag_end}
use Rattle.imap_response.proofs.flags.flag_place.Goals as goal

pub returns-then-not-follows : goal.returns-then-not-follows
returns-then-not-follows c = c.token_place.ensures ∙ sym (flag_stops _ _ _ _ _ c.loop-at-test.true
    (sym c.follows.ensures ∙ c.if-not-follows.true)) ∙ c.loop-at.invariant

pub loop-at-preserved : goal.loop-at-preserved
loop-at-preserved c =
    ap (λ start. flag_place c.args.permanent (get_or c.args.list.now c.loop-at.at 0) start (c.loop-at.at + 1)
    (drop (c.loop-at.at + 1) c.args.list.now)) c.start_behind-start.ensures
    ∙ sym (flag_on _ _ _ _ _ c.loop-at-test.true (sym c.follows.ensures ∙ c.if-not-follows.false)) ∙ c.loop-at.invariant

pub returns : goal.returns
returns c =
    let all : c.loop-at.at ≡ length c.args.list.now = omega (arith, c.loop-at-test.false, c.loop-at.auto.at-end) in
    sym all ∙ sym (flag_end c.args.permanent c.args.list.now c.loop-at.before c.loop-at.start c.loop-at.at all) ∙ c.loop-at.invariant
