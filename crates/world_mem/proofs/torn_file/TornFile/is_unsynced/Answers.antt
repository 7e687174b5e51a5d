use Rattle.std.proofs.Common.{◌≡◌, ◌<◌, ℕ, List, length, ◌∙◌, ap, arith}
use Rattle.world_mem.specs.Torn.{Torn}
use Rattle.world_mem.specs.Unsynced.{covers, is_unsynced}
use Rattle.std.specs.List.{list_any}
use Rattle.world_mem.proofs.Tearing.{unsynced_by}
use Rattle.world_mem.proofs.torn_file.TornFile.is_unsynced.Goals as goal

pub returns-else-at-as_slice : goal.returns-else-at-as_slice
returns-else-at-as_slice c =
    let f = c.self.inside in
    let at = c.args.at in
    let lt : at < length f.synced = omega (arith, ap (λ (l : List ℕ). length l) c.as_slice.ensures) in
    let is : c.covers_any.result ≡ list_any (covers at) f.written.items = c.covers_any.ensures ∙ ap (list_any (covers at)) c.deref.ensures.value in
    unsynced_by f.synced f.later f.written.items at c.covers_any.result lt is
    ∙ ap (λ (t : Torn). is_unsynced t.stored at) c.self.view_is
