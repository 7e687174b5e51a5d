-- How the connection to a muted server goes on.
use Rattle.std.proofs.Common.{◌≡◌, ◌+◌, ◌++◌, ℕ, Bool, true, false, List, Some, IfSome, ap, take, drop}
use Rattle.std.proofs.Math.Seq.{take-add}
use Rattle.world_mem.specs.Standing.{connection_in}

-- in a connection so many bytes more are received
pub receives_more : (on : Bool) (told : List ℕ) (received n : ℕ) → IfSome (connection_in on told received)
    (λ c. connection_in on told (received + n) ≡ Some (record c { received = c.received ++ take n (drop received told) }))
receives_more false told received n = tt
receives_more true told received n = ap (λ (l : List ℕ). Some (record { received = l })) (take-add received n told)
