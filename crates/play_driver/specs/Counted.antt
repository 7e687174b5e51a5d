-- How many actions a run settled, and how many of them as conflicts.
use Rattle.std.specs.Prelude.{ℕ, ◌+◌, List, [], ◌∷◌, Option, Some, None}
use Rattle.action_queue.specs.Book.{Meaning}
use Rattle.action_queue.specs.declared.outcome.Outcome.{Outcome}
use Rattle.action_queue.specs.declared.outcome.Outcome.TheVariants as outcomes
use Rattle.action_queue.specs.declared.queued.Queued.{Queued}
use Rattle.play_driver.specs.declared.played.Played.{Played}

-- one where the outcome is a conflict
abbrev pub conflicts_of : Outcome → ℕ
conflicts_of (outcomes.Done place) = 0
conflicts_of (outcomes.Conflict kind) = 1

-- what an action counts that had the first outcome at entry and has the second one now
abbrev pub counts_of : (Outcome → ℕ) → Option Outcome → Option Outcome → ℕ
counts_of count (Some before) now = 0
counts_of count None None = 0
counts_of count None (Some outcome) = count outcome

-- all actions of a queue as it was, and as it is
abbrev pub counted : (Outcome → ℕ) → List Queued → List Queued → ℕ
counted count [] queue = 0
counted count (q ∷ qs) [] = 0
counted count (q ∷ qs) (r ∷ rs) = counts_of count q.outcome r.outcome + counted count qs rs

-- the actions with an outcome now and none at entry, and the conflicts among them
abbrev pub played_since : Meaning → Meaning → Played
played_since entry b = record {
  settled = counted (λ outcome. 1) entry.queue b.queue;
  conflicts = counted conflicts_of entry.queue b.queue;
}
