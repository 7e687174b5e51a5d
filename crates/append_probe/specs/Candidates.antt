-- Which messages are told to be found (RFC 9051, sections 6.4.4 and 7.3.4).
use Rattle.std.specs.Prelude.{◌↔◌, ◌⊎◌, ℕ, ◌≤◌, List, [], ◌∷◌}
use Rattle.uid_sets.specs.UidSet.{Member}
use Rattle.uid_sets.specs.declared.uid.UidRange.{UidRange}
use Rattle.imap_model.specs.CarriedOut.{FoundTold}
use Rattle.imap_model.specs.declared.response.Response.{Response}
use Rattle.imap_model.specs.declared.response.Response.TheVariants as responses

-- The set holds each UID that is told to be found and is at least this one. (A search of `n:*` is always about the last message too,
-- whichever UID that has.)
abbrev pub AreCandidates : ℕ → List Response → List UidRange → Type 0
AreCandidates low told set = (uid : ℕ) → Member set uid ↔ (FoundTold told uid × (low ≤ uid))

-- the response tells that the UID is found
abbrev pub Finds : ℕ → Response → Type 0
Finds uid (responses.Done tag ending code) = ⊥
Finds uid (responses.Untagged ending code) = ⊥
Finds uid responses.Bye = ⊥
Finds uid (responses.Preauth code) = ⊥
Finds uid responses.Go = ⊥
Finds uid (responses.Capability words) = ⊥
Finds uid (responses.Enabled words) = ⊥
Finds uid (responses.Exists count) = ⊥
Finds uid (responses.Fetch fetched) = ⊥
Finds uid (responses.Vanished earlier uids) = ⊥
Finds uid (responses.Found uids) = Member uids uid
Finds uid responses.Other = ⊥

-- one of the responses tells it
abbrev pub IsFound : ℕ → List Response → Type 0
IsFound uid [] = ⊥
IsFound uid (response ∷ told) = Finds uid response ⊎ IsFound uid told
