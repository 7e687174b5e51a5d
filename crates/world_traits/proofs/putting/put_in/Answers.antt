use Rattle.std.proofs.Common.{◌≡◌, length, ◌∙◌, ap, arith}
use Rattle.world_traits.proofs.PuttingIn.{all_back, put_back}
use Rattle.world_traits.proofs.putting.put_in.Goals as goal

pub returns-clause-done : goal.returns-clause-done
returns-clause-done c =
    let v = c.reach.new.content in
    let s = c.deref_mut.ensures.value in
    let same : length c.write_over.new.content ≡ length v.items = c.write_over.auto.content ∙ ap length s in
    let full : v.len ≡ length v.items = omega arith in
    all_back v.len c.write_over.new.content v.items same full
    ∙ put_back c.args.at c.args.bytes.now c.args.content.now.items c.deref_mut.result.now c.write_over.new.content
    (s ∙ c.in_ok-reach.ensures.done) c.write_over.ensures
