-- What became of a book's actions, by a server's history.
use Rattle.std.specs.Prelude.{ℕ, suc, ◌==◌, Bool, true, false, not, ◌&&◌, nat_lt, is_some, List, [], ◌∷◌, length, Option, Some, None, if◌then◌else◌}
use Rattle.imap_model.specs.Ours.{ours}
use Rattle.imap_model.specs.declared.deed.Deed.{Deed}
use Rattle.action_queue.specs.declared.outcome.Outcome.{Outcome}
use Rattle.action_queue.specs.declared.outcome.Outcome.TheVariants as outcomes
use Rattle.action_queue.specs.declared.queued.Queued.{Queued}

abbrev pub one_more_if : Bool → ℕ → ℕ
one_more_if b n = if b then suc n else n

-- how many of these actions have this, the first of which stands at this place
abbrev pub how_many : (ℕ → Queued → Bool) → ℕ → List Queued → ℕ
how_many has place [] = 0
how_many has place (q ∷ qs) = one_more_if (has place q) (how_many has (suc place) qs)

-- how often the action at a place took effect
abbrev pub deeds_at : List Deed → ℕ → ℕ
deeds_at history place = length (ours (suc place) history)

-- the action ended as a conflict
abbrev pub is_conflict : Option Outcome → Bool
is_conflict None = false
is_conflict (Some (outcomes.Done place)) = false
is_conflict (Some (outcomes.Conflict kind)) = true

-- it has an outcome
abbrev pub is_settled : ℕ → Queued → Bool
is_settled place q = is_some q.outcome

-- it took effect more than once
abbrev pub is_twice : List Deed → ℕ → Queued → Bool
is_twice history place q = nat_lt 1 (deeds_at history place)

-- it neither took effect once nor ended as a conflict
abbrev pub is_missing : List Deed → ℕ → Queued → Bool
is_missing history place q = not (is_conflict q.outcome) && not (deeds_at history place == 1)

-- how many actions of a queue are so
abbrev pub settled_in : List Queued → ℕ
settled_in queue = how_many is_settled 0 queue

abbrev pub twice_in : List Queued → List Deed → ℕ
twice_in queue history = how_many (is_twice history) 0 queue

abbrev pub missing_in : List Queued → List Deed → ℕ
missing_in queue history = how_many (is_missing history) 0 queue
