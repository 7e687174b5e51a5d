-- How counts of failures go on, and which calls of an object are planned to fail.
use Rattle.std.specs.Prelude.{◌≡◌, ℕ, ◌+◌, ◌-◌, ◌^◌, min, List, Contains, Result, IsErr, MatchResult}

-- one more, up to the last value of a count, 2^64 - 1
abbrev pub counted : ℕ → ℕ
counted n = min (n + 1) (2 ^ 64 - 1)

-- a call failed exactly where this count went on in it
abbrev pub CountsFailure : {T E : Type 0} → Result T E → ℕ → ℕ → Type 0
CountsFailure result before after = MatchResult result (λ done. after ≡ before) (λ fault. after ≡ counted before)

-- The numbers of the calls that are to fail, counted from 1, and how many calls there were. A number stands still at
-- the last value of a count.
pub record Plan : Type 0 where
  pub fails : List ℕ
  pub calls : ℕ

-- a plan in which no call was counted
abbrev pub unbegun : List ℕ → Plan
unbegun fails = record { fails = fails; calls = 0 }

-- one call more
abbrev pub next_call : Plan → Plan
next_call plan = record plan { calls = counted plan.calls }

-- the last call is one of those that are to fail
abbrev pub IsPlanned : Plan → Type 0
IsPlanned plan = Contains plan.fails plan.calls

-- The last call failed exactly where it was to fail, or was refused room. Where it was to fail, nothing else happened.
pub record FailsAsPlanned {T E A : Type 0} (plan : Plan) (result : Result T E) (refused : A → ℕ) (old new : A) : Type 0 where
  pub planned : IsPlanned plan → IsErr result × (new ≡ old)
  pub others : (IsPlanned plan → ⊥) → CountsFailure result (refused old) (refused new)
