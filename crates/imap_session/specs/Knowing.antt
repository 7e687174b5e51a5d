-- What is known of a server with its connection while a command is sent and answered.
use Rattle.std.specs.Prelude.{◌≡◌, ℕ, ◌+◌, Bool, true, false, List, [], ◌∷◌, ◌++◌, Option, Some, None}
use Rattle.mail_base.specs.declared.tag.Tag.{Tag}
use Rattle.imap_model.specs.CarriedOut.{CarriesOut, told_in}
use Rattle.imap_model.specs.Carrying.{Waiting}
use Rattle.imap_model.specs.Talking.{Peer, Arriving, IsRefusal}
use Rattle.imap_model.specs.declared.ending.Ending.TheVariants as endings
use Rattle.imap_model.specs.declared.replies.Replies.{Replies}
use Rattle.imap_model.specs.declared.response.Response.{Response}
use Rattle.imap_model.specs.declared.response.Response.TheVariants as responses

-- a whole command waits, and this was told before
pub record Whole (w : Waiting) (told : List Response) (p : Peer) : Type 0 where
  pub waits : p.waiting ≡ Some w
  pub no_part : p.talk.arriving ≡ None
  pub before : p.talk.told ≡ told

-- a part waits for its answer
pub record Partly (a : Arriving) (selected : Option (List ℕ)) (told : List Response) (p : Peer) : Type 0 where
  pub nothing : p.waiting ≡ None
  pub part : p.talk.arriving ≡ Some a
  pub unasked : a.asked ≡ false
  pub selects : p.talk.selected ≡ selected
  pub before : p.talk.told ≡ told

-- nothing waits or arrives, and this was told and is selected
pub record Finished (told : List Response) (selected : Option (List ℕ)) (p : Peer) : Type 0 where
  pub nothing : p.waiting ≡ None
  pub no_part : p.talk.arriving ≡ None
  pub selects : p.talk.selected ≡ selected
  pub all : p.talk.told ≡ told

-- the part was answered by a request to go on
pub record Went (a : Arriving) (selected : Option (List ℕ)) (told : List Response) (p : Peer) : Type 0 where
  pub nothing : p.waiting ≡ None
  pub part : p.talk.arriving ≡ Some (record a { asked = true })
  pub selects : p.talk.selected ≡ selected
  pub all : p.talk.told ≡ told ++ responses.Go ∷ []

-- The replies are the table's answer to the step from one to the next; before it this was told, and behind it the replies
-- besides. Where they say OK, the command was waiting: it may be refused as its text arrives.
pub record Tells (w : Waiting) (told : List Response) (r : Replies) (after : Option (List ℕ)) (p q : Peer) : Type 0 where
  pub is : CarriesOut w p.server r q.server after
  pub waits : r.ending ≡ endings.Ok → p.waiting ≡ Some w
  pub before : p.talk.told ≡ told
  pub behind : q.talk.told ≡ told ++ told_in w.tag r

-- a part is refused, and the server stays
pub record Denies (tag : Tag) (told : List Response) (selected : Option (List ℕ)) (r : Replies) (p q : Peer) : Type 0 where
  pub server : q.server ≡ p.server
  pub selects : p.talk.selected ≡ selected
  pub refusal : IsRefusal p r
  pub before : p.talk.told ≡ told
  pub behind : q.talk.told ≡ told ++ told_in tag r

-- requests to go on, and nothing else
abbrev pub AllGo : List Response → Type 0
AllGo [] = Unit {0}
AllGo (r ∷ rs) = (r ≡ responses.Go) × AllGo rs

-- 1 where the response asks for a part of a command
abbrev pub request_of : Response → ℕ
request_of (responses.Done tag ending code) = 0
request_of (responses.Untagged ending code) = 0
request_of responses.Bye = 0
request_of (responses.Preauth code) = 0
request_of responses.Go = 1
request_of (responses.Capability words) = 0
request_of (responses.Enabled words) = 0
request_of (responses.Exists count) = 0
request_of (responses.Fetch fetched) = 0
request_of (responses.Vanished earlier uids) = 0
request_of (responses.Found uids) = 0
request_of responses.Other = 0

-- how many parts are asked for
abbrev pub requests : List Response → ℕ
requests [] = 0
requests (r ∷ rs) = request_of r + requests rs

-- ends a reply; where a text is arriving, a request to go on ends it too
abbrev pub IsEnd : Bool → Response → Type 0
IsEnd part (responses.Done tag ending code) = Unit {0}
IsEnd part (responses.Untagged ending code) = ⊥
IsEnd part responses.Bye = Unit {0}
IsEnd part (responses.Preauth code) = ⊥
IsEnd true responses.Go = Unit {0}
IsEnd false responses.Go = ⊥
IsEnd part (responses.Capability words) = ⊥
IsEnd part (responses.Enabled words) = ⊥
IsEnd part (responses.Exists count) = ⊥
IsEnd part (responses.Fetch fetched) = ⊥
IsEnd part (responses.Vanished earlier uids) = ⊥
IsEnd part (responses.Found uids) = ⊥
IsEnd part responses.Other = ⊥

abbrev pub NoEnd : Bool → List Response → Type 0
NoEnd part [] = Unit {0}
NoEnd part (r ∷ rs) = (IsEnd part r → ⊥) × NoEnd part rs

-- an answer is awaited: of a part, or of a whole command
abbrev pub Pending : Bool → List Response → Peer → Type 0
Pending true told p = (a : Arriving) × (selected : Option (List ℕ)) × Partly a selected told p
Pending false told p = (w : Waiting) × Whole w told p
