use Rattle.std.proofs.Common.{◌≡◌, ◌<◌, ◌≤◌, ◌+◌, ◌-◌, ℕ, List, length, drop, refl, sym, ap, subst, ◌∙◌, arith, rules, Option, Some}
use Rattle.std.specs.Prelude.{IfSome}
use Rattle.mail_base.specs.Frames.{IsNext, told}
use Rattle.mail_base.specs.declared.frame.Frame.{Frame}
use Rattle.literal_feed.specs.declared.progress.Progress.{Progress}
use Rattle.literal_feed.specs.Streams.{Holds}
use Rattle.literal_feed.proofs.Cuts.{frame_taken}
use Rattle.literal_feed.proofs.Lines.{known}
use Rattle.literal_feed.proofs.Streams.{sure_le, on_err, stream_whole, stream_some, holds_taken}
use Rattle.literal_feed.proofs.feed.Feed.take.Goals as goal

pub returns-then-self-eq0-clause-none : goal.returns-then-self-eq0-clause-none
returns-then-self-eq0-clause-none c =
    (stream_whole c.args.self.now c.self.inside.at c.self.inside.bytes c.self.inside.progress c.self.view_is c.self.invariant c.if-self-eq0.true, refl)

pub returns-in_err-frame-clause-kept : goal.returns-in_err-frame-clause-kept
returns-in_err-frame-clause-kept c =
    let some : 0 < c.self.inside.progress.whole = omega (arith, c.if-self-eq0.false) in
    on_err _ c.from_residual.result (
      refl,
      stream_some c.args.self.now c.self.inside.at c.self.inside.bytes c.self.inside.progress c.self.view_is c.self.invariant some,
    )

-- the frame that was cut, as the code counts it
next_is : (at : ℕ) (bytes slice : List ℕ) (found : Option Frame) (frame : Frame) → slice ≡ bytes → found ≡ Some frame →
    IfSome found (λ f. IsNext at slice f (drop (length f.bytes + 2) slice)) → IsNext at bytes frame (drop (length frame.bytes + 2) bytes)
next_is at bytes slice found frame same some is =
    subst (λ (b : List ℕ). IsNext at b frame (drop (length frame.bytes + 2) b)) same
    (subst (λ (o : Option Frame). IfSome o (λ f. IsNext at slice f (drop (length f.bytes + 2) slice))) some is)

pub overflow_sub-self : goal.overflow_sub-self
overflow_sub-self c =
    let old = c.self.inside.progress in
    let frame = c.in-Some.frame in
    let some : 0 < old.whole = omega (arith, c.if-self-eq0.false) in
    let next = next_is c.self.inside.at c.self.inside.bytes c.as_slice.result.now c.in_ok-frame.field-0 frame c.as_slice.ensures
    c.in-Some.is c.in_ok-frame.ensures.frame in
    let le : length frame.bytes + 2 ≤ old.whole = sure_le _ _ c.self.invariant
    (λ h. (holds_taken c.self.inside.at c.self.inside.bytes old (record {
      whole = old.whole - (length frame.bytes + 2);
      cursor =
          old.cursor;
      fault = old.fault;
    }) frame some h next refl refl refl).0) in
    omega (arith, le, ap length c.as_slice-2.ensures)

pub invariant_of-self : goal.invariant_of-self
invariant_of-self c =
    let old = c.self.inside.progress in
    let frame = c.in-Some.frame in
    let count : length c.as_slice-2.result.now + 2 ≡ length frame.bytes + 2 = omega (arith, ap length c.as_slice-2.ensures) in
    let some : 0 < old.whole = omega (arith, c.if-self-eq0.false) in
    let next = next_is c.self.inside.at c.self.inside.bytes c.as_slice.result.now c.in_ok-frame.field-0 frame c.as_slice.ensures
    c.in-Some.is c.in_ok-frame.ensures.frame in
    let new : Progress = record { whole = old.whole - (length c.as_slice-2.result.now + 2); cursor = old.cursor; fault = old.fault } in
    let bytes : drop (length frame.bytes + 2) c.self.inside.bytes ≡ c.give_up.new.self =
    sym (c.give_up.ensures ∙ ap (λ (k : ℕ). drop k c.self.inside.bytes) count) in
    let at : told (c.self.inside.at + (length frame.bytes + 2)) ≡ c.told-self-inside.result =
    sym (c.told-self-inside.ensures ∙ ap (λ (k : ℕ). told (c.self.inside.at + k)) count) in
    known c.self.invariant (λ h.
    subst (λ (b : List ℕ). Holds c.told-self-inside.result b new) bytes
    (subst (λ (k : ℕ). Holds k (drop (length frame.bytes + 2) c.self.inside.bytes) new) at
    (holds_taken c.self.inside.at c.self.inside.bytes old new frame some h next (ap (λ (k : ℕ). old.whole - k) count) refl refl).1))

-- the frame that was taken
pub returns-clause-frame : goal.returns-clause-frame
returns-clause-frame c = search rules

-- the frame was taken behind the others
pub returns-clause-stands : goal.returns-clause-stands
returns-clause-stands c = λ all taken stands. let next = returns-clause-frame c in frame_taken all taken c.args.self.now _ c.in-Some.frame stands next.0 next.1
