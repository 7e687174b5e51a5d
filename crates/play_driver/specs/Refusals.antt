-- What a server tells where it refuses a run: BYE, or NO or BAD to a question (RFC 9051, sections 7.1.2, 7.1.3 and 7.1.5).
use Rattle.std.specs.Prelude.{◌≡◌, ◌≢◌, ◌⊎◌, List, [], ◌∷◌}
use Rattle.imap_model.specs.declared.ending.Ending.TheVariants as endings
use Rattle.imap_model.specs.declared.response.Response.{Response}
use Rattle.imap_model.specs.declared.response.Response.TheVariants as responses
use Rattle.imap_session.specs.Faults.{IsCount}

-- the completion of a question, which says NO or BAD
abbrev pub DeniesQuestion : Response → Type 0
DeniesQuestion (responses.Done tag ending code) = IsCount tag × (ending ≢ endings.Ok)
DeniesQuestion (responses.Untagged ending code) = ⊥
DeniesQuestion responses.Bye = ⊥
DeniesQuestion (responses.Preauth code) = ⊥
DeniesQuestion responses.Go = ⊥
DeniesQuestion (responses.Capability words) = ⊥
DeniesQuestion (responses.Enabled words) = ⊥
DeniesQuestion (responses.Exists count) = ⊥
DeniesQuestion (responses.Fetch fetched) = ⊥
DeniesQuestion (responses.Vanished earlier uids) = ⊥
DeniesQuestion (responses.Found uids) = ⊥
DeniesQuestion responses.Other = ⊥

abbrev pub IsBye : Response → Type 0
IsBye r = r ≡ responses.Bye

-- BYE is a refusal too
abbrev pub RefusesRun : Response → Type 0
RefusesRun r = IsBye r ⊎ DeniesQuestion r

-- nothing that was told is so
abbrev pub NeverTold : (Response → Type 0) → List Response → Type 0
NeverTold P [] = Unit {0}
NeverTold P (r ∷ rs) = (P r → ⊥) × NeverTold P rs
