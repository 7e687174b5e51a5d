-- What a call of the link makes of the connection, and of what was sent.
use Rattle.std.specs.Prelude.{◌≡◌, ◌⊎◌, ℕ, List, [], ◌∷◌, ◌++◌, take, None, Some, Result, IfOk, IfSome, OnErr, OnOk}
use Rattle.world_traits.specs.LinkState.{fresh}
use Rattle.world_mem.specs.Memory.{SentSome}
use Rattle.world_mem.specs.Planned.{IsStopped}
use Rattle.world_mem.specs.Worlds.{connection_at, earlier_in, planned_of, sent_in}
use Rattle.world_mem.specs.declared.mem_world.MemWorld.{MemWorld}

-- A connection begins in which nothing was sent, and what was sent up to now stands before what was sent earlier; after an error there is
-- none, and what was sent stays.
pub record BeginsLine {T E : Type 0} (old new : MemWorld) (result : Result T E) : Type 0 where
  pub begins : OnOk result (connection_at new ≡ Some fresh)
  pub sent : OnOk result (sent_in new ≡ [])
  pub earlier : OnOk result (earlier_in new ≡ sent_in old ∷ earlier_in old)
  pub unsent : OnErr result (sent_in new ≡ sent_in old)
  pub unmade : OnErr result (earlier_in new ≡ earlier_in old)
  pub lost : OnErr result (connection_at new ≡ None)

-- These bytes were sent in the connection; after an error some front of them, and there is none any more. Without a connection, or once
-- the world has stopped, no byte counts as sent.
pub record SendsLine {T E : Type 0} (bytes : List ℕ) (old new : MemWorld) (result : Result T E) : Type 0 where
  pub sent : OnOk result (sent_in new ≡ sent_in old ++ bytes)
  pub front : OnErr result (SentSome bytes (sent_in old) (sent_in new))
  pub unsent : IsStopped (planned_of new) ⊎ (connection_at old ≡ None) → sent_in new ≡ sent_in old
  pub earlier : earlier_in new ≡ earlier_in old
  pub received : OnOk result (connection_at new ≡ connection_at old)
  pub lost : OnErr result (connection_at new ≡ None)

-- So many of these bytes were received besides; after an error there is no connection any more.
pub record GivesLine {E : Type 0} (into : List ℕ) (old new : MemWorld) (result : Result ℕ E) : Type 0 where
  pub sent : sent_in new ≡ sent_in old
  pub earlier : earlier_in new ≡ earlier_in old
  pub received : IfOk result (λ n. IfSome (connection_at old) (λ c.
      connection_at new ≡ Some (record c { received = c.received ++ take n into })))
  pub lost : OnErr result (connection_at new ≡ None)
