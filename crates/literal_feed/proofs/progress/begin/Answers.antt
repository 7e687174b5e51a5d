use Rattle.std.proofs.Common.{refl, None}
use Rattle.literal_feed.proofs.Streams.{holds_nothing}
use Rattle.literal_feed.proofs.progress.begin.Goals as goal

pub returns : goal.returns
returns c = ∣ holds_nothing (record {
  whole = 0;
  cursor = c.start.result;
  fault =
      None;
}) refl refl c.start.ensures.part c.start.ensures.searched c.start.ensures.counted ∣₁
