-- Which of the candidates have exactly the Message-ID, by the Message-ID fields that were fetched (RFC 9051, sections 6.4.5 and 7.5.2;
-- RFC 5322, section 3.6.4).
use Rattle.std.specs.Prelude.{◌≡◌, ◌⊎◌, ℕ, ◌<◌, ◌≤◌, ◌==◌, true, List, [], ◌∷◌, Option, Some, None, if◌then◌else◌}
use Rattle.std.specs.Option.{option_or}
use Rattle.uid_sets.specs.UidSet.{Member}
use Rattle.uid_sets.specs.declared.uid.UidRange.{UidRange}
use Rattle.imap_model.specs.declared.response.Response.{Response}
use Rattle.imap_model.specs.declared.response.Response.TheVariants as responses
use Rattle.append_probe.specs.Marked.{has_id}
use Rattle.append_probe.specs.declared.verdict.Verdict.{Verdict}
use Rattle.append_probe.specs.declared.verdict.Verdict.TheVariants as verdicts

-- the fields, where they are told of this UID
abbrev pub ids_under : ℕ → Option ℕ → Option (List ℕ) → Option (List ℕ)
ids_under uid None ids = None
ids_under uid (Some other) ids = if other == uid then ids else None

-- the Message-ID fields that a response tells of a UID
abbrev pub ids_in : ℕ → Response → Option (List ℕ)
ids_in uid (responses.Done tag ending code) = None
ids_in uid (responses.Untagged ending code) = None
ids_in uid responses.Bye = None
ids_in uid (responses.Preauth code) = None
ids_in uid responses.Go = None
ids_in uid (responses.Capability words) = None
ids_in uid (responses.Enabled words) = None
ids_in uid (responses.Exists count) = None
ids_in uid (responses.Fetch fetched) = ids_under uid fetched.uid fetched.ids
ids_in uid (responses.Vanished earlier uids) = None
ids_in uid (responses.Found uids) = None
ids_in uid responses.Other = None

-- the Message-ID fields that are told of a UID, by the last response that tells some
abbrev pub ids_told : ℕ → List Response → Option (List ℕ)
ids_told uid [] = None
ids_told uid (response ∷ told) = option_or (ids_told uid told) (ids_in uid response)

-- Whether a UID matches by the fields that are told of it, if some are: it is a candidate, and the fields have exactly this Message-ID.
-- Where none are told, what was so before stays.
abbrev pub MatchesBy : List UidRange → List ℕ → ℕ → Type 0 → Option (List ℕ) → Type 0
MatchesBy set id uid Before None = Before
MatchesBy set id uid Before (Some fields) = Member set uid × (has_id id fields ≡ true)

-- the UID is a candidate's, and the fields that are told of it have exactly this Message-ID
abbrev pub Matches : List UidRange → List Response → List ℕ → ℕ → Type 0
Matches set told id uid = MatchesBy set id uid ⊥ (ids_told uid told)

-- this one is so, and no other
pub record IsOnly (So : ℕ → Type 0) (u : ℕ) : Type 0 where
  pub so : So u
  pub only : (uid : ℕ) → So uid → uid ≡ u

-- these are the two least that are so
pub record AreLeast (So : ℕ → Type 0) (u v : ℕ) : Type 0 where
  pub rise : u < v
  pub first : So u
  pub second : So v
  pub least : (uid : ℕ) → So uid → (uid ≡ u) ⊎ (v ≤ uid)

-- how many UIDs are so, and which
abbrev pub IsVerdict : (ℕ → Type 0) → Verdict → Type 0
IsVerdict So verdicts.NotThere = (uid : ℕ) → ¬ So uid
IsVerdict So (verdicts.There uid) = IsOnly So uid
IsVerdict So (verdicts.Several first second) = AreLeast So first second
