use Rattle.std.proofs.Common.{rules, ◌≡◌, ℕ, List, [], ◌∷◌, ◌++◌, ◌-◌, Err, None, Option, sym, ap, ◌∙◌}
use Rattle.record_codec.specs.Reading.{many_at, key_at, this_key, last_key}
use Rattle.record_codec.proofs.Reader.{onto, many_more, many_fails, many_ends, fails_on}
use Rattle.record_codec.proofs.KeyOrder.{last_key-last}
use Rattle.record_codec.proofs.reading.Fields.keys.Goals as goal

pub returns-in_err-key : goal.returns-in_err-key
returns-in_err-key c =
    let was : c.from_residual.result ≡ Err c.in_err-key.field-0.0 = search rules in
    rw was (fails_on c.in_err-key.field-0.0 (key_at (last_key c.loop-left.set) c.loop-left.self.rest.now)
    (many_at key_at this_key c.args.count None c.args.self.now.rest.now)
    (λ n is. c.loop-left.invariant ∙ many_fails key_at this_key c.loop-left.left
    (last_key c.loop-left.set) c.loop-left.self.rest.now n c.loop-left.set c.loop-left-test.true is) c.in_err-key.ensures.read)

pub loop-left-preserved : goal.loop-left-preserved
loop-left-preserved c =
    c.loop-left.invariant
    ∙ many_more key_at this_key c.loop-left.left (last_key c.loop-left.set) c.loop-left.self.rest.now
    (c.in_ok-key.key, c.key.new.self.rest.now) c.loop-left.set c.loop-left-test.true c.in_ok-key.ensures.read
    ∙ ap (λ (o : Option (List ℕ)). onto (c.loop-left.set ++ c.in_ok-key.key ∷ [])
    (many_at key_at this_key (c.loop-left.left - 1) o c.key.new.self.rest.now)) (sym (last_key-last c.loop-left.set c.in_ok-key.key))
    ∙ ap (λ (set : List (List ℕ)). onto set (many_at key_at this_key (c.loop-left.left - 1) (last_key set) c.key.new.self.rest.now))
    (sym (c.in_ok-add.ensures.value ∙ c.in_ok-key.ensures.behind))

pub returns : goal.returns
returns c = c.loop-left.invariant ∙ many_ends key_at this_key c.loop-left.left
    (last_key c.loop-left.set) c.loop-left.self.rest.now c.loop-left.set c.loop-left-test.false
