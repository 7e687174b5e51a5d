use Rattle.std.proofs.Common.{List, [], ◌∷◌, ◌++◌, ◌∙◌, ap}
use Rattle.world_traits.specs.declared.call.Did.{Did}
use Rattle.world_traits.specs.declared.call.Did.TheVariants.{Synced}
use Rattle.world_traits.proofs.Remembered.{start_of, one_more, sync_holds}
use Rattle.world_traits.proofs.memory.MemDisk.settle.Goals as goal

pub invariant_of-self-2 : goal.invariant_of-self-2
invariant_of-self-2 c =
    let d = c.args.self.now in
    let is = c.push_reserved.ensures.items ∙ ap (λ (l : List Did). l ++ Synced c.args.side ∷ []) c.reserve.ensures.items in
    record { files_are = sync_holds d.calls.items c.push_reserved.new.self.items c.args.side d.files d.files_are is }

pub returns-clause-done : goal.returns-clause-done
returns-clause-done c =
    let d = c.args.self.now in
    let is = c.push_reserved.ensures.items ∙ ap (λ (l : List Did). l ++ Synced c.args.side ∷ []) c.reserve.ensures.items in
    one_more d.calls.items c.push_reserved.new.self.items (start_of d.files) (Synced c.args.side) is
