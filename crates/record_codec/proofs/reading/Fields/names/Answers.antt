use Rattle.std.proofs.Common.{rules, ◌≡◌, ℕ, List, [], ◌-◌, Err, sym, ap, subst, ◌∙◌}
use Rattle.record_codec.specs.Giving.{Fails}
use Rattle.record_codec.specs.Reading.{many_at, new_name_at, and_name}
use Rattle.record_codec.proofs.Reader.{onto, many_more, many_fails, many_ends, fails_on}
use Rattle.record_codec.proofs.reading.Fields.names.Goals as goal

pub returns-in_err-name : goal.returns-in_err-name
returns-in_err-name c =
    let was : c.from_residual.result ≡ Err c.in_err-name.field-0.0 = search rules in
    rw was (fails_on c.in_err-name.field-0.0 (new_name_at c.loop-left.names.items c.loop-left.self.rest.now)
    (many_at new_name_at and_name c.args.count [] c.args.self.now.rest.now)
    (λ n is. c.loop-left.invariant ∙ many_fails new_name_at and_name c.loop-left.left c.loop-left.names.items c.loop-left.self.rest.now n
    c.loop-left.names.items c.loop-left-test.true is) (subst (λ (names : List (List ℕ)). Fails c.in_err-name.field-0.0
    (new_name_at names c.loop-left.self.rest.now)) c.deref.ensures.value c.in_err-name.ensures))

pub loop-left-preserved : goal.loop-left-preserved
loop-left-preserved c =
    c.loop-left.invariant
    ∙ many_more new_name_at and_name c.loop-left.left c.loop-left.names.items c.loop-left.self.rest.now
    (c.in_ok-name.name, c.new_name.new.self.rest.now) c.loop-left.names.items c.loop-left-test.true
    (ap (λ (names : List (List ℕ)). new_name_at names c.loop-left.self.rest.now) (sym c.deref.ensures.value) ∙ c.in_ok-name.ensures)
    ∙ ap (λ (names : List (List ℕ)). onto names (many_at new_name_at and_name (c.loop-left.left - 1) names c.new_name.new.self.rest.now))
    (sym c.in_ok-push.ensures.items)

pub returns : goal.returns
returns c = c.loop-left.invariant ∙ many_ends new_name_at and_name c.loop-left.left c.loop-left.names.items c.loop-left.self.rest.now
    c.loop-left.names.items c.loop-left-test.false
