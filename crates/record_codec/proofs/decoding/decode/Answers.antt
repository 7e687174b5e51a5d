use Rattle.std.proofs.Common.{◌≡◌, ◌<◌, ◌≤◌, ℕ, List, length, Ok, Err, sym, ap, subst, ◌∙◌, arith}
use Rattle.record_codec.specs.declared.fault.RecordFault.{RecordFault}
use Rattle.record_codec.specs.declared.fault.RecordFault.TheVariants as faults
use Rattle.record_codec.specs.declared.misfit.Misfit.{Misfit}
use Rattle.record_codec.specs.Giving.{Fails}
use Rattle.record_codec.specs.Reading.{AreBytes, plain, plain_at, place_of, body_at}
use Rattle.record_codec.specs.Refusing.{WhyRefused}
use Rattle.record_codec.proofs.EventsRead.{read_spelled}
use Rattle.record_codec.proofs.Verdicts.{too_many, too_long, all_read, not_read, none_spelled}
use Rattle.record_codec.proofs.decoding.decode.Goals as goal

why : (body : List ℕ) (fault : RecordFault) (at : ℕ) → fault ≡ faults.BadForm at → body_at body ≡ Err at → WhyRefused body fault
why body fault at is misfit = subst (WhyRefused body) (sym is) (misfit, none_spelled body at misfit)

pub returns-then-left-gt0-clause-found : goal.returns-then-left-gt0-clause-found
returns-then-left-gt0-clause-found c =
    let read : plain_at c.args.body.now ≡ Ok (plain c.in-Ok.event, c.event.new.self.rest.now) = ap plain_at (sym c.of-fields.ensures) ∙ c.in-Ok.ensures in
    let some : 0 < length c.event.new.self.rest.now = omega arith in
    λ event spelled. absurd (none_spelled c.args.body.now (place_of c.args.body.now (length c.event.new.self.rest.now))
    (too_many c.args.body.now (plain c.in-Ok.event) c.event.new.self.rest.now read some) event spelled)

pub returns-then-left-gt0-clause-refused : goal.returns-then-left-gt0-clause-refused
returns-then-left-gt0-clause-refused c =
    let read : plain_at c.args.body.now ≡ Ok (plain c.in-Ok.event, c.event.new.self.rest.now) = ap plain_at (sym c.of-fields.ensures) ∙ c.in-Ok.ensures in
    let some : 0 < length c.event.new.self.rest.now = omega arith in
    why c.args.body.now c.bad_form.result (place_of c.args.body.now (length c.event.new.self.rest.now))
    (c.bad_form.ensures ∙ ap (λ (n : ℕ). faults.BadForm (place_of c.args.body.now n)) c.left-then-left-gt0.ensures)
    (too_many c.args.body.now (plain c.in-Ok.event) c.event.new.self.rest.now read some)

pub returns-then-body-gt-MAX_BODY-clause-refused :
    goal.returns-then-body-gt-MAX_BODY-clause-refused
returns-then-body-gt-MAX_BODY-clause-refused c =
    let read : plain_at c.args.body.now ≡ Ok (plain c.in-Ok.event, c.event.new.self.rest.now) = ap plain_at (sym c.of-fields.ensures) ∙ c.in-Ok.ensures in
    let none : length c.event.new.self.rest.now ≤ 0 = omega arith in
    why c.args.body.now c.bad_form-then-body-gt-MAX_BODY.result (place_of c.args.body.now 0) c.bad_form-then-body-gt-MAX_BODY.ensures
    (too_long c.args.body.now (plain c.in-Ok.event) c.event.new.self.rest.now read none c.if-body-gt-MAX_BODY.true)

pub returns-else-body-gt-MAX_BODY-clause-value : goal.returns-else-body-gt-MAX_BODY-clause-value
returns-else-body-gt-MAX_BODY-clause-value c =
    let read : plain_at c.args.body.now ≡ Ok (plain c.in-Ok.event, c.event.new.self.rest.now) = ap plain_at (sym c.of-fields.ensures) ∙ c.in-Ok.ensures in
    let none : length c.event.new.self.rest.now ≤ 0 = omega arith in
    let clean : AreBytes c.args.body.now = λ i. omega (arith, c.type_inv.body i) in
    read_spelled c.args.body.now c.in-Ok.event clean (all_read c.args.body.now
    (plain c.in-Ok.event) c.event.new.self.rest.now read none c.if-body-gt-MAX_BODY.false)

pub returns-in-Err-Left-clause-found : goal.returns-in-Err-Left-clause-found
returns-in-Err-Left-clause-found c =
    let fails = subst (λ (m : Misfit). Fails m (plain_at c.of-fields.result.rest.now)) c.in-Err-Left.field-0-is c.in-Err-Left.ensures in
    let misfit : plain_at c.args.body.now ≡ Err c.in-Err-Left.left = ap plain_at (sym c.of-fields.ensures) ∙ fails in
    λ event spelled. absurd (none_spelled c.args.body.now (place_of c.args.body.now c.in-Err-Left.left)
    (not_read c.args.body.now c.in-Err-Left.left misfit) event spelled)

pub returns-in-Err-Left-clause-refused : goal.returns-in-Err-Left-clause-refused
returns-in-Err-Left-clause-refused c =
    let fails = subst (λ (m : Misfit). Fails m (plain_at c.of-fields.result.rest.now)) c.in-Err-Left.field-0-is c.in-Err-Left.ensures in
    let misfit : plain_at c.args.body.now ≡ Err c.in-Err-Left.left = ap plain_at (sym c.of-fields.ensures) ∙ fails in
    why c.args.body.now c.bad_form-in-Err-Left.result (place_of c.args.body.now c.in-Err-Left.left)
    (c.bad_form-in-Err-Left.ensures ∙ ap (λ (n : ℕ). faults.BadForm (place_of c.args.body.now n)) c.in-Err-Left.left-is)
    (not_read c.args.body.now c.in-Err-Left.left misfit)
