-- How surely a run's actions end (this client's profile of RFC 4549, section 4.2).
use Rattle.std.specs.Prelude.{◌≡◌, ◌⊎◌, ℕ, true, Some, is_some, slice_get}
use Rattle.action_queue.specs.Book.{Meaning}
use Rattle.action_queue.specs.Queues.{due}
use Rattle.action_queue.specs.declared.outcome.Kind.{Kind}
use Rattle.action_queue.specs.declared.outcome.Outcome.TheVariants as outcomes
use Rattle.action_queue.specs.declared.queued.Queued.{Queued}
use Rattle.book_laws.specs.Once.{is_unsure}

-- An action that ended as unsure in the later book had ended so in the earlier one, or it was due there, with its intent pending. So at
-- most one ended as unsure meanwhile; and where no intent was pending, each that ended meanwhile ended as done, or as a conflict of
-- another kind.
abbrev pub EndSurely : Meaning → Meaning → Type 0
EndSurely b c =
    (i : ℕ) (q : Queued) (kind : Kind) → slice_get c.queue i ≡ Some q → q.outcome ≡ Some (outcomes.Conflict kind) → is_unsure kind ≡ true
    → (slice_get b.queue i ≡ Some q) ⊎ ((i ≡ due b.queue) × (is_some b.pending ≡ true))
