-- Why a command is refused by the book as it is, or by its input (this client's profile).
use Rattle.std.specs.Prelude.{◌≡◌, ◌==◌, ℕ, suc, Bool, true, false, not, is_some, nat_le, nat_lt, List, [], ◌∷◌, length, bytes_eq, Option, Some, None, ⊤}
use Rattle.std.specs.List.{list_any}
use Rattle.mail_base.specs.declared.limits.TheConstants.{MAX_QUEUE, MAX_TEXT}
use Rattle.flag_set.specs.Flag.{asked_refusal}
use Rattle.mail_header.specs.BareLf.{crlf_of}
use Rattle.mail_header.specs.Identifier.{HasMessageId}
use Rattle.action_queue.specs.Book.{Meaning}
use Rattle.action_queue.specs.Rules.{is_unknown}
use Rattle.action_queue.specs.declared.outcome.Outcome.{Outcome}
use Rattle.action_queue.specs.declared.queued.Queued.{Queued}
use Rattle.local_view.specs.Listing.{view, has_row}
use Rattle.local_view.specs.declared.seen.Ident.{Ident}
use Rattle.mail_top.specs.Words.{Wanted, Flag, Move, Append}
use Rattle.mail_top.specs.declared.reason.Reason.{Reason}
use Rattle.mail_top.specs.declared.reason.Reason.TheVariants as reasons

-- the mailboxes that are named
abbrev pub boxes_of : Wanted → List (List ℕ)
boxes_of (Flag change) = change.name ∷ []
boxes_of (Move transfer) = transfer.name ∷ transfer.to ∷ []
boxes_of (Append addition input) = addition.to ∷ []

-- the message isn't in the view of the mailbox
abbrev pub is_absent : Meaning → List ℕ → Ident → Bool
is_absent b name id = not (has_row id (view b name))

-- the message that is named isn't in the view of its mailbox
abbrev pub lacks_message : Meaning → Wanted → Bool
lacks_message b (Flag change) = is_absent b change.name change.id
lacks_message b (Move transfer) = is_absent b transfer.name transfer.id
lacks_message b (Append addition input) = false

-- the flags that are asked for
abbrev pub flags_of : Wanted → List (List ℕ)
flags_of (Flag change) = change.flags
flags_of (Move transfer) = []
flags_of (Append addition input) = addition.flags

-- a user can't ask for this flag
abbrev pub is_bad_flag : List ℕ → Bool
is_bad_flag flag = is_some (asked_refusal flag)

-- both mailboxes of a move are one
abbrev pub is_within_one : Wanted → Bool
is_within_one (Flag change) = false
is_within_one (Move transfer) = bytes_eq transfer.name transfer.to
is_within_one (Append addition input) = false

abbrev pub one_if_open : Option Outcome → ℕ → ℕ
one_if_open None n = suc n
one_if_open (Some outcome) n = n

-- how many actions are unsettled
abbrev pub open_len : List Queued → ℕ
open_len [] = 0
open_len (q ∷ qs) = one_if_open q.outcome (open_len qs)

-- the queue has as many unsettled actions as it may
abbrev pub is_full : List Queued → Bool
is_full queue = nat_le MAX_QUEUE (open_len queue)

-- the message that an input gives has more than 2^25 bytes
abbrev pub is_large : List ℕ → Bool
is_large input = nat_lt MAX_TEXT (length (crlf_of input))

-- it has a byte 0
abbrev pub has_zero : List ℕ → Bool
has_zero input = list_any (λ byte. byte == 0) (crlf_of input)

abbrev pub is_too_large : Wanted → Bool
is_too_large (Flag change) = false
is_too_large (Move transfer) = false
is_too_large (Append addition input) = is_large input

abbrev pub has_nul : Wanted → Bool
has_nul (Flag change) = false
has_nul (Move transfer) = false
has_nul (Append addition input) = has_zero input

-- the message that is to be put into a mailbox has no Message-ID
abbrev pub LacksId : Wanted → Type 0
LacksId (Flag change) = ⊥
LacksId (Move transfer) = ⊥
LacksId (Append addition input) = (id : List ℕ) → HasMessageId (crlf_of input) id → ⊥

-- a reason speaks against an action
abbrev pub Stops : Wanted → Meaning → Reason → Type 0
Stops wanted b reasons.NoMailbox = list_any (is_unknown b.boxes) (boxes_of wanted) ≡ true
Stops wanted b reasons.NoMessage = lacks_message b wanted ≡ true
Stops wanted b reasons.BadFlag = list_any is_bad_flag (flags_of wanted) ≡ true
Stops wanted b reasons.SameMailbox = is_within_one wanted ≡ true
Stops wanted b reasons.QueueFull = is_full b.queue ≡ true
Stops wanted b reasons.TooLarge = is_too_large wanted ≡ true
Stops wanted b reasons.BadText = has_nul wanted ≡ true
Stops wanted b reasons.NoMessageId = LacksId wanted

-- none of these reasons speaks against it
abbrev pub NoneStops : Wanted → Meaning → List Reason → Type 0
NoneStops wanted b [] = ⊤
NoneStops wanted b (reason ∷ others) = (Stops wanted b reason → ⊥) × NoneStops wanted b others

-- the reasons that are looked for before the input is read, in their order
abbrev pub at_once : List Reason
at_once = reasons.NoMailbox ∷ reasons.NoMessage ∷ reasons.BadFlag ∷ reasons.SameMailbox ∷ reasons.QueueFull ∷ []

-- the reasons that are looked for before one
abbrev pub before : Reason → List Reason
before reasons.NoMailbox = []
before reasons.NoMessage = reasons.NoMailbox ∷ []
before reasons.BadFlag = reasons.NoMailbox ∷ reasons.NoMessage ∷ []
before reasons.SameMailbox = reasons.NoMailbox ∷ reasons.NoMessage ∷ reasons.BadFlag ∷ []
before reasons.QueueFull = reasons.NoMailbox ∷ reasons.NoMessage ∷ reasons.BadFlag ∷ reasons.SameMailbox ∷ []
before reasons.TooLarge = at_once
before reasons.BadText = reasons.TooLarge ∷ at_once
before reasons.NoMessageId = reasons.BadText ∷ reasons.TooLarge ∷ at_once

-- The reason is the first that speaks against it.
pub record IsFirst (wanted : Wanted) (b : Meaning) (reason : Reason) : Type 0 where
  pub stops : Stops wanted b reason
  pub others : NoneStops wanted b (before reason)

-- no reason speaks against it
abbrev pub IsFree : Wanted → Meaning → Type 0
IsFree wanted b = NoneStops wanted b (reasons.NoMessageId ∷ reasons.BadText ∷ reasons.TooLarge ∷ at_once)
