use Rattle.std.proofs.Common.{◌≡◌, ◌+◌, ◌≤◌, ◌++◌, Some, IfSome, arith, sym, subst, length, reverse, take}
use Rattle.world_mem.specs.Scripted.{Scripted, connection_of, coming_in}
use Rattle.world_mem.proofs.Stepping.{gives_more, receives_more}
use Rattle.world_mem.proofs.script_link.ScriptLink.pass.Goals as goal

pub invariant_of-self : goal.invariant_of-self
invariant_of-self c =
    let there = subst (λ (p : Scripted). c.args.count ≤ length (coming_in p)) (sym c.self.view_is) c.requires.there in
    (gives_more c.self.inside.given c.args.count c.self.inside.script.items c.self.invariant.0 there, omega (arith, c.self.invariant.1))

pub returns-clause-received : goal.returns-clause-received
returns-clause-received c =
    let there = subst (λ (p : Scripted). c.args.count ≤ length (coming_in p)) (sym c.self.view_is) c.requires.there in
    let fields : Scripted = record {
      script = c.self.inside.script.items;
      given = c.self.inside.given;
      began = c.self.inside.began;
      on = c.self.inside.on;
      sent = c.self.inside.sent.items;
      faults = c.self.inside.faults;
      earlier = reverse c.self.inside.earlier.items;
    } in
    subst (λ (p : Scripted). IfSome (connection_of p) (λ k. connection_of (record fields { given = fields.given + c.args.count })
    ≡ Some (record k { received = k.received ++ take c.args.count (coming_in p) }))) c.self.view_is
    (receives_more fields c.args.count c.self.invariant.0 c.self.invariant.1 there)
