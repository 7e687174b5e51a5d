use Rattle.std.proofs.Common.{◌≡◌, ◌+◌, ◌++◌, ◌∙◌, ℕ, List, Some, IfSome, ap, sym, subst, take, drop}
use Rattle.std.proofs.lemmas.List.{take_rest}
use Rattle.world_mem.specs.Standing.{connection_in}
use Rattle.world_traits.specs.LinkState.{LinkState}
use Rattle.mail_scenario.proofs.MutedLinks.{receives_more}
use Rattle.mail_scenario.proofs.muted_link.MutedLink.recv.Goals as goal

pub returns-clause-received : goal.returns-clause-received
returns-clause-received c =
    let was = c.self.inside in
    let n = c.give-count.result in
    let bytes : take n c.give-count.new.into ≡ take n (drop was.received was.told.items) =
    c.give-count.ensures.bytes
    ∙ ap (take n) (take_rest c.deref.result.now was.received ∙ ap (drop was.received) c.deref.ensures.value) in
    subst (λ (p : LinkState). IfSome p.connection (λ k. connection_in was.is_on was.told.items (was.received + n)
    ≡ Some (record k { received = k.received ++ take n c.give-count.new.into }))) c.self.view_is
    (subst (λ (l : List ℕ). IfSome (connection_in was.is_on was.told.items was.received)
    (λ k. connection_in was.is_on was.told.items (was.received + n) ≡ Some (record k { received = k.received ++ l })))
    (sym bytes) (receives_more was.is_on was.told.items was.received n))
