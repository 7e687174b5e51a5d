use Rattle.std.proofs.Common.{◌≡◌}
use Rattle.world_mem.specs.Draws.{after}
use Rattle.world_mem.specs.Unsynced.{unsynced_before}
use Rattle.world_mem.specs.Image.{byte_at, tabulated}
use Rattle.world_mem.proofs.torn_file.TornFile.drawn.Given as goal

abbrev pub invariant-loop-at : goal.invariant-loop-at
invariant-loop-at l = record {
  bytes : l.image.items ≡ tabulated (byte_at l.fn.draws l.self) l.at;
  drawn : l.draws ≡ after (unsynced_before l.self.stored l.at) l.fn.draws;
}
