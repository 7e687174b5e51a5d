use Rattle.std.proofs.Common.{◌≡◌, List, [], ◌∷◌, ◌++◌, rules, ◌∙◌, ap}
use Rattle.world_traits.specs.declared.call.Did.{Did}
use Rattle.world_traits.specs.declared.call.Did.TheVariants.{Wrote}
use Rattle.world_traits.proofs.Remembered.{write_steps, write_holds}
use Rattle.world_traits.proofs.memory.MemDisk.write.Goals as goal

pub invariant_of-self-2 : goal.invariant_of-self-2
invariant_of-self-2 c =
    let d = c.args.self.now in
    let own = c.in_ok-own.own in
    let same : own.items ≡ c.args.bytes.now = search rules in
    let is = c.push_reserved.ensures.items ∙ ap (λ (l : List Did). l ++ Wrote c.args.side c.args.at own ∷ []) c.reserve.ensures.items in
    record {
      files_are = write_holds d.calls.items c.push_reserved.new.self.items c.args.side c.args.at own c.args.bytes.now d.files
          c.put.new.self same is c.in_ok-put.ensures.done d.files_are;
    }

pub returns-clause-done : goal.returns-clause-done
returns-clause-done c =
    let d = c.args.self.now in
    let own = c.in_ok-own.own in
    let same : own.items ≡ c.args.bytes.now = search rules in
    let is = c.push_reserved.ensures.items ∙ ap (λ (l : List Did). l ++ Wrote c.args.side c.args.at own ∷ []) c.reserve.ensures.items in (
      own,
      same,
      write_steps d.calls.items c.push_reserved.new.self.items c.args.side c.args.at own c.args.bytes.now d.files
          c.put.new.self same is c.in_ok-put.ensures.done,
    )
