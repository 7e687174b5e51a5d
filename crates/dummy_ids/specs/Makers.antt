-- The action that makes a message, and how far it has come (this client's profile).
use Rattle.std.specs.Prelude.{◌≡◌, ℕ, List, Option, Some, None, ⊤}
use Rattle.action_queue.specs.Targets.{action_at}
use Rattle.action_queue.specs.declared.outcome.Kind.{Kind}
use Rattle.action_queue.specs.declared.outcome.Outcome.{Outcome}
use Rattle.action_queue.specs.declared.outcome.Outcome.TheVariants as outcomes
use Rattle.action_queue.specs.declared.outcome.Place.{Place}
use Rattle.action_queue.specs.declared.queued.Queued.{Queued}
use Rattle.dummy_ids.specs.Places.{to_of}

-- where it is done, its place was told
abbrev pub HasPlace : Option Outcome → Type 0
HasPlace None = ⊤
HasPlace (Some (outcomes.Conflict kind)) = ⊤
HasPlace (Some (outcomes.Done None)) = ⊥
HasPlace (Some (outcomes.Done (Some place))) = ⊤

-- Action n is a move or an append; where it is done, its place was told.
pub record IsMaker (queue : List Queued) (n : ℕ) : Type 0 where
  pub queued : Queued
  pub is : action_at queue n ≡ Some queued
  pub to : List ℕ
  pub into : to_of queued.action ≡ Some to
  pub place : HasPlace queued.outcome

-- action n is unsettled
pub record IsOpen (queue : List Queued) (n : ℕ) : Type 0 where
  pub queued : Queued
  pub is : action_at queue n ≡ Some queued
  pub unsettled : queued.outcome ≡ None

-- action n ended as a conflict
pub record HasFailed (queue : List Queued) (n : ℕ) : Type 0 where
  pub queued : Queued
  pub is : action_at queue n ≡ Some queued
  pub kind : Kind
  pub conflict : queued.outcome ≡ Some (outcomes.Conflict kind)

-- action n is done, and its message is in this mailbox, at this place
pub record HasLanded (queue : List Queued) (n : ℕ) (to : List ℕ) (validity uid : ℕ) : Type 0 where
  pub queued : Queued
  pub is : action_at queue n ≡ Some queued
  pub into : to_of queued.action ≡ Some to
  pub place : Place
  pub under : place.validity ≡ validity
  pub at : place.uid ≡ uid
  pub done : queued.outcome ≡ Some (outcomes.Done (Some place))
