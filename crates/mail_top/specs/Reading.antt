-- How the input of a command is read.
use Rattle.std.specs.Prelude.{◌≡◌, ℕ, ◌≤◌, ◌<◌, true, false, List, [], length, drop, Result, Ok, Err, ⊤}
use Rattle.mail_base.specs.declared.limits.TheConstants.{MAX_TEXT}
use Rattle.mail_header.specs.BareLf.{crlf_of}
use Rattle.mail_header.specs.Identifier.{HasMessageId}
use Rattle.world_traits.specs.Files.{Files}
use Rattle.action_queue.specs.Book.{Meaning}
use Rattle.store_core.specs.Mail.{mail}
use Rattle.store_core.specs.Books.{HasBook}
use Rattle.mail_top.specs.Reasons.{NoneStops, at_once, is_large, has_zero}
use Rattle.mail_top.specs.Words.{Addition, Wanted, Flag, Move, Append, WritesAppend, wanted_of}
use Rattle.mail_top.specs.declared.reason.Reason.{Reason}
use Rattle.mail_top.specs.declared.request.Asked.{Asked}
use Rattle.mail_top.specs.declared.request.Asked.TheVariants as asked
use Rattle.mail_top.specs.declared.request.AskedAction.{AskedAction}
use Rattle.mail_top.specs.declared.request.AskedAction.TheVariants as asked_action
use Rattle.mail_top.specs.declared.reason.Reason.TheVariants as reasons
use Rattle.mail_top.specs.declared.refusal.Refusal.{Refusal}
use Rattle.mail_top.specs.declared.refusal.Refusal.TheVariants as refusals

-- the words ask for an append
pub record AsksAppend (words : List (List ℕ)) : Type 0 where
  pub addition : Addition
  pub asks : WritesAppend words addition

-- what a program takes words for is an append
abbrev pub IsAppendAsked : AskedAction → Type 0
IsAppendAsked (asked_action.Flag flags) = ⊥
IsAppendAsked (asked_action.Move move) = ⊥
IsAppendAsked (asked_action.Append append) = ⊤

-- An append is asked for on this book, and none of the reasons that are looked for at once speaks against it.
pub record Awaits (wanted : Wanted) (b : Meaning) : Type 0 where
  pub addition : Addition
  pub input : List ℕ
  pub append : wanted ≡ Append addition input
  pub free : NoneStops wanted b at_once

-- The same of the book that the files hold.
pub record AwaitsOn (wanted : Wanted) (seen : Files) : Type 0 where
  pub book : Meaning
  pub holds : HasBook mail book seen
  pub awaits : Awaits wanted book

-- The words ask for an append, the files hold a book, and none of the reasons that are looked for at once speaks against it.
pub record AwaitsInput (words : List (List ℕ)) (seen : Files) : Type 0 where
  pub addition : Addition
  pub asks : WritesAppend words addition
  pub awaits : AwaitsOn (Append addition []) seen

-- At most 2^25 + 1 bytes were taken off the front of the input.
pub record TakesFront (rest rest_after : List ℕ) : Type 0 where
  pub count : ℕ
  pub most : count ≤ 33554433
  pub taken : rest_after ≡ drop count rest

-- the input was read to its end, or 2^25 + 1 bytes of it
abbrev pub IsReadOut : List ℕ → List ℕ → Type 0
IsReadOut rest rest_after = rest_after ≡ drop 33554433 rest

-- the input that a command acts on: where its source tells, what there was to be read
abbrev pub IsInput : Type 0 → List ℕ → List ℕ → Type 0
IsInput tells rest input = tells → input ≡ rest

-- The input's bytes; or it has more than a message may have; or it failed, or memory is wanting.
abbrev pub InputRead : List ℕ → Result (List ℕ) Refusal → Type 0
InputRead input (Ok given) = given ≡ input
InputRead input (Err (refusals.Reason reason)) = (reason ≡ reasons.TooLarge) × (MAX_TEXT < length input)
InputRead input (Err refusals.Input) = ⊤
InputRead input (Err refusals.Memory) = ⊤
InputRead input (Err refusals.Actions) = ⊥
InputRead input (Err refusals.Disk) = ⊥
InputRead input (Err refusals.Already) = ⊥
InputRead input (Err (refusals.NotAJournal why)) = ⊥
InputRead input (Err (refusals.Full end)) = ⊥
InputRead input (Err refusals.Generation) = ⊥

-- The text's Message-ID, or that it has none; or memory is wanting.
abbrev pub Identified : List ℕ → Result (List ℕ) Refusal → Type 0
Identified text (Ok id) = HasMessageId text id
Identified text (Err (refusals.Reason reason)) = (reason ≡ reasons.NoMessageId) × ((id : List ℕ) → HasMessageId text id → ⊥)
Identified text (Err refusals.Memory) = ⊤
Identified text (Err refusals.Input) = ⊥
Identified text (Err refusals.Actions) = ⊥
Identified text (Err refusals.Disk) = ⊥
Identified text (Err refusals.Already) = ⊥
Identified text (Err (refusals.NotAJournal why)) = ⊥
Identified text (Err (refusals.Full end)) = ⊥
Identified text (Err refusals.Generation) = ⊥

-- what speaks against the message that an input gives
abbrev pub StopsMessage : List ℕ → Reason → Type 0
StopsMessage input reasons.TooLarge = is_large input ≡ true
StopsMessage input reasons.BadText = (is_large input ≡ false) × (has_zero input ≡ true)
StopsMessage input reasons.NoMessageId = (is_large input ≡ false) × (has_zero input ≡ false) × ((id : List ℕ) → HasMessageId (crlf_of input) id → ⊥)
StopsMessage input reasons.NoMailbox = ⊥
StopsMessage input reasons.NoMessage = ⊥
StopsMessage input reasons.BadFlag = ⊥
StopsMessage input reasons.SameMailbox = ⊥
StopsMessage input reasons.QueueFull = ⊥

-- The message that an input gives, and its Message-ID; or what is the first that speaks against it; or the input failed, or memory
-- is wanting.
abbrev pub MessageRead : List ℕ → Result (List ℕ × List ℕ) Refusal → Type 0
MessageRead input (Ok both) =
    (both.0 ≡ crlf_of input) × (is_large input ≡ false) × (has_zero input ≡ false) × HasMessageId (crlf_of input) both.1
MessageRead input (Err (refusals.Reason reason)) = StopsMessage input reason
MessageRead input (Err refusals.Input) = ⊤
MessageRead input (Err refusals.Memory) = ⊤
MessageRead input (Err refusals.Actions) = ⊥
MessageRead input (Err refusals.Disk) = ⊥
MessageRead input (Err refusals.Already) = ⊥
MessageRead input (Err (refusals.NotAJournal why)) = ⊥
MessageRead input (Err (refusals.Full end)) = ⊥
MessageRead input (Err refusals.Generation) = ⊥

-- what a program takes words for is an append
abbrev pub IsAppend : Asked → Type 0
IsAppend (asked.Init texts) = ⊥
IsAppend (asked.Act action) = IsAppendAsked action
IsAppend (asked.Rows name) = ⊥
IsAppend asked.Queue = ⊥
IsAppend asked.Report = ⊥
IsAppend asked.Play = ⊥

-- and the book that the files hold awaits its input
abbrev pub AwaitsAsked : Asked → Files → Type 0
AwaitsAsked (asked.Init texts) seen = ⊥
AwaitsAsked (asked.Act action) seen = AwaitsOn (wanted_of action []) seen
AwaitsAsked (asked.Rows name) seen = ⊥
AwaitsAsked asked.Queue seen = ⊥
AwaitsAsked asked.Report seen = ⊥
AwaitsAsked asked.Play seen = ⊥

-- where the action is an append, its source tells
abbrev pub NeedsInput : Wanted → Type 0 → Type 0
NeedsInput (Flag change) tells = ⊤
NeedsInput (Move transfer) tells = ⊤
NeedsInput (Append addition input) tells = tells
