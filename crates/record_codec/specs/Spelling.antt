-- Which bytes are the record of which event (this client's journal).
use Rattle.std.specs.Prelude.{◌≡◌, ℕ, ◌<◌, ◌≤◌, ◌^◌, List, length, Option, Some, None, ⊤}
use Rattle.std.specs.List.{AllByRecursion}
use Rattle.flag_set.specs.FlagSet.{IsFlagSet}
use Rattle.mail_base.specs.BoxName.{IsBoxName}
use Rattle.uid_sets.specs.UidSet.{IsCanonical}
use Rattle.mailbox_cache.specs.declared.row.Row.{Row}
use Rattle.mailbox_cache.specs.declared.delta.Delta.{Delta}
use Rattle.action_queue.specs.declared.target.Target.{Target}
use Rattle.action_queue.specs.declared.target.Target.TheVariants as targets
use Rattle.action_queue.specs.declared.action.Action.{Action}
use Rattle.action_queue.specs.declared.action.Action.TheVariants as actions
use Rattle.action_queue.specs.declared.intent.Intent.{Intent}
use Rattle.action_queue.specs.declared.intent.Intent.TheVariants as intents
use Rattle.action_queue.specs.declared.outcome.Place.{Place}
use Rattle.action_queue.specs.declared.outcome.Kind.{Kind}
use Rattle.action_queue.specs.declared.outcome.Kind.TheVariants as kinds
use Rattle.action_queue.specs.declared.outcome.Outcome.{Outcome}
use Rattle.action_queue.specs.declared.outcome.Outcome.TheVariants as outcomes
use Rattle.action_queue.specs.declared.event.Event.{Event}
use Rattle.action_queue.specs.declared.event.Event.TheVariants as events
use Rattle.action_queue.specs.Writable.{IsWritable}
use Rattle.record_codec.specs.Bodies.{body_of}
use Rattle.record_codec.specs.Fields.{flag_field}

-- a nonzero number of 32 bits: a UID, a UIDVALIDITY or an action's number
abbrev pub IsNumber : ℕ → Type 0
IsNumber n = (0 < n) × (n < 2 ^ 32)

-- a mod-sequence (RFC 7162, section 7)
abbrev pub IsModSeq : ℕ → Type 0
IsModSeq n = (0 < n) × (n < 2 ^ 63)

-- a message as its type keeps it
abbrev pub IsKeptTarget : Target → Type 0
IsKeptTarget (targets.Real name validity uid) = IsBoxName name × IsNumber validity × IsNumber uid
IsKeptTarget (targets.Dummy id) = IsNumber id

-- an action as its type keeps it
abbrev pub IsKeptAction : Action → Type 0
IsKeptAction (actions.Flag target add flags) = IsKeptTarget target × IsFlagSet flags
IsKeptAction (actions.Move target to) = IsKeptTarget target × IsBoxName to
IsKeptAction (actions.Append to flags text id) = IsBoxName to × IsFlagSet flags

-- an intent as its type keeps it
abbrev pub IsKeptIntent : Intent → Type 0
IsKeptIntent (intents.Store name validity uid modseq) = IsBoxName name × IsNumber validity × IsNumber uid × IsModSeq modseq
IsKeptIntent (intents.Shift from validity uid to) = IsBoxName from × IsNumber validity × IsNumber uid × IsBoxName to
IsKeptIntent (intents.Put to validity uidnext) = IsBoxName to × IsNumber validity × IsNumber uidnext

-- a place as its type keeps it
abbrev pub IsKeptPlace : Option Place → Type 0
IsKeptPlace None = ⊤
IsKeptPlace (Some place) = IsNumber place.validity × IsNumber place.uid

-- a kind as its type keeps it
abbrev pub IsKeptKind : Kind → Type 0
IsKeptKind kinds.MessageGone = ⊤
IsKeptKind kinds.AlreadySo = ⊤
IsKeptKind (kinds.FlagsChanged m) = IsModSeq m
IsKeptKind kinds.RefusedNo = ⊤
IsKeptKind kinds.RefusedBad = ⊤
IsKeptKind kinds.NotPermanent = ⊤
IsKeptKind (kinds.TargetUnknown k) = IsNumber k
IsKeptKind kinds.FoundSo = ⊤
IsKeptKind (kinds.StoreUnsure m f) = IsModSeq m × IsModSeq f
IsKeptKind kinds.SourceGone = ⊤
IsKeptKind kinds.GoneAfterLoss = ⊤
IsKeptKind (kinds.Ambiguous u v) = IsNumber u × IsNumber v
IsKeptKind (kinds.ValidityChanged o n) = IsNumber o × IsNumber n
IsKeptKind (kinds.ResetAfterLoss o n) = IsNumber o × IsNumber n

-- an outcome as its type keeps it
abbrev pub IsKeptOutcome : Outcome → Type 0
IsKeptOutcome (outcomes.Done place) = IsKeptPlace place
IsKeptOutcome (outcomes.Conflict kind) = IsKeptKind kind

-- the bytes are the field of these flags, which can be written
pub record SpellFlags (text : List ℕ) (flags : List (List ℕ)) : Type 0 where
  pub spelled : text ≡ flag_field flags
  pub set : IsFlagSet flags
  pub few : length flags ≤ 1024

-- a row as its type keeps it
pub record IsKeptRow (r : ℕ × Row) : Type 0 where
  pub uid : IsNumber r.0
  pub modseq : IsModSeq r.1.modseq
  pub flags : IsFlagSet r.1.flags

-- a delta as its type keeps it
pub record IsKeptDelta (delta : Delta) : Type 0 where
  pub validity : IsNumber delta.validity
  pub highest : IsModSeq delta.highest
  pub uidnext : IsNumber delta.uidnext
  pub vanished : IsCanonical delta.vanished
  pub rows : AllByRecursion IsKeptRow delta.rows

-- an event as its type keeps it
abbrev pub IsKept : Event → Type 0
IsKept (events.Begin names) = AllByRecursion IsBoxName names
IsKept (events.Accept id action) = IsNumber id × IsKeptAction action
IsKept (events.Intend id intent) = IsNumber id × IsKeptIntent intent
IsKept (events.Settle id outcome) = IsNumber id × IsKeptOutcome outcome
IsKept (events.Learn name delta) = IsBoxName name × IsKeptDelta delta
IsKept (events.Old id action outcome) = IsNumber id × IsKeptAction action × IsKeptOutcome outcome
IsKept (events.Reset name kept told) = IsBoxName name × IsNumber kept × IsNumber told
IsKept (events.Withdraw id tries) = IsNumber id × (tries < 256)

-- the bytes are the body of the event's record
pub record Spelled (body : List ℕ) (event : Event) : Type 0 where
  pub kept : IsKept event
  pub writable : IsWritable event
  pub fits : length body ≤ 1073741824
  pub is : body ≡ body_of event

-- no bytes are the bodies of two events' records
abbrev pub OneEvent : Type 0
OneEvent = (body : List ℕ) (left right : Event) → Spelled body left → Spelled body right → left ≡ right
