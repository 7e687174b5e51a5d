use Rattle.std.proofs.Common.{◌≡◌, ℕ, rules, List, [], ◌∷◌, ◌++◌, ◌+◌, length, ◌∙◌, ap}
use Rattle.world_traits.specs.Files.{Range}
use Rattle.world_mem.proofs.Tearing.{write_whole}
use Rattle.world_mem.proofs.torn_file.TornFile.write.Goals as goal

pub invariant_of-self-2 : goal.invariant_of-self-2
invariant_of-self-2 c =
    let f = c.self.inside in
    let range : Range = record { low = c.args.at; high = c.args.at + length c.args.bytes.now } in
    let end : c.in_ok-high.high ≡ c.args.at + length c.args.bytes.now = search rules in
    let is = c.push_reserved.ensures.items ∙ ap (λ (n : ℕ). c.reserve.new.self.items ++ record { low = c.args.at; high = n } ∷ []) end
    ∙ ap (λ (l : List Range). l ++ range ∷ []) c.reserve.ensures.items in
    write_whole f.synced f.later c.put_later.new.later f.written.items c.push_reserved.new.self.items c.args.at c.args.bytes.now
    c.self.invariant c.in_ok-put_later.ensures.done is
