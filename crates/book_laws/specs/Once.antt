-- No action takes effect twice: how many changes of a server's history belong to each action (this client's profile of RFC 4549).
use Rattle.std.specs.Prelude.{◌≡◌, ℕ, suc, ◌≤◌, ◌<◌, Bool, true, false, List, [], ◌∷◌, length, slice_get, Option, Some, None}
use Rattle.mail_base.specs.declared.tag.Tag.{Tag}
use Rattle.imap_model.specs.Ours.{is_try, ours}
use Rattle.imap_model.specs.declared.deed.Deed.{Deed}
use Rattle.imap_model.specs.declared.deed.Author.{Author}
use Rattle.imap_model.specs.declared.deed.Author.TheVariants.{Other, Ours}
use Rattle.imap_model.specs.declared.deed.Change.{Change}
use Rattle.imap_model.specs.declared.deed.Change.TheVariants as changes
use Rattle.action_queue.specs.Queues.{due}
use Rattle.action_queue.specs.Book.{Meaning}
use Rattle.action_queue.specs.declared.outcome.Place.{Place}
use Rattle.action_queue.specs.declared.outcome.Kind.{Kind}
use Rattle.action_queue.specs.declared.outcome.Kind.TheVariants as kinds
use Rattle.action_queue.specs.declared.outcome.Outcome.{Outcome}
use Rattle.action_queue.specs.declared.outcome.Outcome.TheVariants as outcomes
use Rattle.action_queue.specs.declared.queued.Queued.{Queued}
use Rattle.book_laws.specs.Wanted.{IsWanted}

-- the deed has a tag of an action of the queue, and is what that action wants
pub record OwnedBy (queue : List Queued) (deed : Deed) (tag : Tag) : Type 0 where
  pub place : ℕ
  pub queued : Queued
  pub there : slice_get queue place ≡ Some queued
  pub tagged : is_try (suc place) tag ≡ true
  pub wanted : IsWanted queue queued.action deed.name deed.validity deed.change

-- a deed by another, or by an action of the queue
abbrev pub IsOwned : List Queued → Deed → Author → Type 0
IsOwned queue deed Other = Unit {0}
IsOwned queue deed (Ours tag) = OwnedBy queue deed tag

abbrev pub AllOwned : List Queued → List Deed → Type 0
AllOwned queue [] = Unit {0}
AllOwned queue (d ∷ ds) = IsOwned queue d d.author × AllOwned queue ds

-- the UID that a change gives a message
abbrev pub new_uid : Change → Option ℕ
new_uid (changes.Add flags text uid) = Some uid
new_uid (changes.SetFlags uid flags) = None
new_uid (changes.Drop uid) = None
new_uid (changes.Shift uid to received) = Some received
new_uid (changes.Reset under uids uidnext highest) = None

-- the place of an outcome is where the deed put the message
abbrev pub IsPlace : Option Place → Deed → Type 0
IsPlace None deed = Unit {0}
IsPlace (Some place) deed = (place.validity ≡ deed.received) × (new_uid deed.change ≡ Some place.uid)

-- exactly one deed, with this place
abbrev pub IsOne : Option Place → List Deed → Type 0
IsOne place [] = ⊥
IsOne place (d ∷ []) = IsPlace place d
IsOne place (d ∷ e ∷ ds) = ⊥

-- kinds of conflict that leave open whether the action took effect
abbrev pub is_unsure : Kind → Bool
is_unsure kinds.MessageGone = false
is_unsure kinds.AlreadySo = false
is_unsure (kinds.FlagsChanged m) = false
is_unsure kinds.RefusedNo = false
is_unsure kinds.RefusedBad = false
is_unsure kinds.NotPermanent = false
is_unsure (kinds.TargetUnknown k) = false
is_unsure kinds.FoundSo = true
is_unsure (kinds.StoreUnsure m f) = true
is_unsure kinds.SourceGone = true
is_unsure kinds.GoneAfterLoss = true
is_unsure (kinds.Ambiguous u v) = true
is_unsure (kinds.ValidityChanged o n) = false
is_unsure (kinds.ResetAfterLoss o n) = true

abbrev pub FitsConflict : Bool → List Deed → Type 0
FitsConflict true mine = length mine ≤ 1
FitsConflict false mine = mine ≡ []

-- the deeds of an action fit its outcome
abbrev pub Fits : Outcome → List Deed → Type 0
Fits (outcomes.Done place) mine = IsOne place mine
Fits (outcomes.Conflict kind) mine = FitsConflict (is_unsure kind) mine

-- Each deed of this client is by an action of the queue. Each settled action's deeds fit its outcome. The action that is due has at
-- most one deed, and none where no intent is pending. Later actions have none, nor has a number that isn't in the queue yet.
pub record Once (b : Meaning) (history : List Deed) : Type 0 where
  pub owned : AllOwned b.queue history
  pub settled : (i : ℕ) (q : Queued) (outcome : Outcome) → slice_get b.queue i ≡ Some q → q.outcome ≡ Some outcome → Fits outcome (ours (suc i) history)
  pub once : length (ours (suc (due b.queue)) history) ≤ 1
  pub idle : b.pending ≡ None → ours (suc (due b.queue)) history ≡ []
  pub later : (i : ℕ) → due b.queue < i → ours (suc i) history ≡ []
