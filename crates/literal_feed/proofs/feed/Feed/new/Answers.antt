use Rattle.std.proofs.Common.{ℕ, List, subst, sym}
use Rattle.literal_feed.specs.Streams.{Holds}
use Rattle.literal_feed.proofs.feed.Feed.new.Goals as goal

pub invariant_of-result : goal.invariant_of-result
invariant_of-result c = subst (λ (b : List ℕ). ∥ Holds 0 b c.begin.result ∥₁) (sym c.new.ensures) c.begin.ensures
