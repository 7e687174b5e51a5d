-- The words of a command, and what they ask for.
use Rattle.std.specs.Prelude.{◌≡◌, ℕ, ◌<◌, ◌≤◌, ◌^◌, Bool, List, [], ◌∷◌, length, map, codes, decimal, string_bytes, ⊤}
use Rattle.mail_base.specs.Arguments.{WritesBox}
use Rattle.conflict_report.specs.QueueLines.{sign_of}
use Rattle.local_view.specs.declared.seen.Ident.{Ident}
use Rattle.local_view.specs.declared.seen.Ident.TheVariants as ident
use Rattle.mail_top.specs.Names.{name_of, WriteNames}
use Rattle.mail_top.specs.declared.request.Asked.{Asked}
use Rattle.mail_top.specs.declared.request.Asked.TheVariants as asked
use Rattle.mail_top.specs.declared.request.AskedAction.{AskedAction}
use Rattle.mail_top.specs.declared.request.AskedAction.TheVariants as asked_action
use Rattle.mail_top.specs.declared.request.AskedFlags.{AskedFlags}
use Rattle.mail_top.specs.declared.request.AskedMove.{AskedMove}
use Rattle.mail_top.specs.declared.request.AskedAppend.{AskedAppend}

-- that a message of a mailbox has these flags, or is without them; the flags as they are written
pub record Change : Type 0 where
  pub name : List ℕ
  pub id : Ident
  pub add : Bool
  pub flags : List (List ℕ)

-- that a message of a mailbox is moved to another one
pub record Transfer : Type 0 where
  pub name : List ℕ
  pub id : Ident
  pub to : List ℕ

-- that the message that the input gives is put into a mailbox, with these flags, as they are written
pub record Addition : Type 0 where
  pub to : List ℕ
  pub flags : List (List ℕ)

-- an action that is asked for; behind an append the bytes that its input gives
pub data Wanted : Type 0 where
  Flag : Change → Wanted
  Move : Transfer → Wanted
  Append : Addition → List ℕ → Wanted

-- what a command asks for: that a journal is set up for mailboxes, an action, a mailbox's rows, the queue, the conflicts, or that the queue is
-- played
pub data Request : Type 0 where
  Init : List (List ℕ) → Request
  Act : Wanted → Request
  Rows : List ℕ → Request
  Queue : Request
  Report : Request
  Play : Request

-- a message, as it is written: its UID, or `d` and the number of the action that makes it
abbrev pub ident_text : Ident → List ℕ
ident_text (ident.Real uid) = decimal uid
ident_text (ident.Dummy n) = 100 ∷ decimal n

-- the number by which it is written
abbrev pub number_of : Ident → ℕ
number_of (ident.Real uid) = uid
number_of (ident.Dummy n) = n

-- The word writes a message: a number from 1 to 4,294,967,295 without leading zeros, or `d` and such a number.
pub record WritesIdent (word : List ℕ) (id : Ident) : Type 0 where
  pub is : word ≡ ident_text id
  pub from_one : 0 < number_of id
  pub fits : number_of id < 2 ^ 32

-- The words are `init BOX ..` with 1 to 32 texts, and these are the names that they write, no two of them the same.
pub record WritesInit (words names : List (List ℕ)) : Type 0 where
  pub texts : List (List ℕ)
  pub are : words ≡ codes "init" ∷ texts
  pub named : WriteNames texts
  pub kept : names ≡ map name_of texts

-- The words are `flag BOX ID SIGN FLAG ..` with 1 to 32 flags. The flags may be any words.
pub record WritesFlag (words : List (List ℕ)) (change : Change) : Type 0 where
  pub box : List ℕ
  pub id : List ℕ
  pub are : words ≡ codes "flag" ∷ box ∷ id ∷ (sign_of change.add ∷ []) ∷ change.flags
  pub names : WritesBox box change.name
  pub message : WritesIdent id change.id
  pub some : 1 ≤ length change.flags
  pub few : length change.flags ≤ 32

-- The words are `move BOX ID BOX`.
pub record WritesMove (words : List (List ℕ)) (transfer : Transfer) : Type 0 where
  pub box : List ℕ
  pub id : List ℕ
  pub to : List ℕ
  pub are : words ≡ codes "move" ∷ box ∷ id ∷ to ∷ []
  pub names : WritesBox box transfer.name
  pub message : WritesIdent id transfer.id
  pub receives : WritesBox to transfer.to

-- The words are `append BOX FLAG ..` with at most 32 flags. The flags may be any words.
pub record WritesAppend (words : List (List ℕ)) (addition : Addition) : Type 0 where
  pub box : List ℕ
  pub are : words ≡ codes "append" ∷ box ∷ addition.flags
  pub names : WritesBox box addition.to
  pub few : length addition.flags ≤ 32

-- The words are `list BOX`.
pub record WritesRows (words : List (List ℕ)) (name : List ℕ) : Type 0 where
  pub box : List ℕ
  pub are : words ≡ codes "list" ∷ box ∷ []
  pub names : WritesBox box name

-- The words are `queue`.
pub record WritesQueue (words : List (List ℕ)) : Type 0 where
  pub are : words ≡ codes "queue" ∷ []

-- The words are `report`.
pub record WritesReport (words : List (List ℕ)) : Type 0 where
  pub are : words ≡ codes "report" ∷ []

-- The words are `play`.
pub record WritesPlay (words : List (List ℕ)) : Type 0 where
  pub are : words ≡ codes "play" ∷ []

-- the words and the input ask for this action
abbrev pub AsksAction : List (List ℕ) → List ℕ → Wanted → Type 0
AsksAction words input (Flag change) = WritesFlag words change
AsksAction words input (Move transfer) = WritesMove words transfer
AsksAction words input (Append addition text) = WritesAppend words addition × (text ≡ input)

-- the words and the input ask for this
abbrev pub Asks : List (List ℕ) → List ℕ → Request → Type 0
Asks words input (Init names) = WritesInit words names
Asks words input (Act wanted) = AsksAction words input wanted
Asks words input (Rows name) = WritesRows words name
Asks words input Queue = WritesQueue words
Asks words input Report = WritesReport words
Asks words input Play = WritesPlay words

-- the words ask for nothing, whatever the input is
abbrev pub AsksNothing : List (List ℕ) → Type 0
AsksNothing words = (input : List ℕ) → (request : Request) → Asks words input request → ⊥

-- what a program takes the words and the input for, as what they ask
abbrev pub change_of : AskedFlags → Change
change_of flags = record { name = flags.name; id = flags.id; add = flags.add; flags = map string_bytes flags.flags.now }

abbrev pub transfer_of : AskedMove → Transfer
transfer_of move = record { name = move.name; id = move.id; to = move.to }

abbrev pub addition_of : AskedAppend → Addition
addition_of append = record { to = append.to; flags = map string_bytes append.flags.now }

abbrev pub wanted_of : AskedAction → List ℕ → Wanted
wanted_of (asked_action.Flag flags) input = Flag (change_of flags)
wanted_of (asked_action.Move move) input = Move (transfer_of move)
wanted_of (asked_action.Append append) input = Append (addition_of append) input

abbrev pub request_of : Asked → List ℕ → Request
request_of (asked.Init texts) input = Init (map name_of (map string_bytes texts.now))
request_of (asked.Act action) input = Act (wanted_of action input)
request_of (asked.Rows name) input = Rows name
request_of asked.Queue input = Queue
request_of asked.Report input = Report
request_of asked.Play input = Play

-- an action is asked for with as many flags as words may have
abbrev pub HasFewFlags : Wanted → Type 0
HasFewFlags (Flag change) = (1 ≤ length change.flags) × (length change.flags ≤ 32)
HasFewFlags (Move transfer) = ⊤
HasFewFlags (Append addition text) = length addition.flags ≤ 32

-- what a program takes words for alone
abbrev pub IsLawful : Asked → Type 0
IsLawful (asked.Init texts) = WriteNames (map string_bytes texts.now)
IsLawful (asked.Act action) = HasFewFlags (wanted_of action [])
IsLawful (asked.Rows name) = ⊤
IsLawful asked.Queue = ⊤
IsLawful asked.Report = ⊤
IsLawful asked.Play = ⊤

-- what a program takes words for is `play`
abbrev pub IsPlay : Asked → Type 0
IsPlay (asked.Init texts) = ⊥
IsPlay (asked.Act action) = ⊥
IsPlay (asked.Rows name) = ⊥
IsPlay asked.Queue = ⊥
IsPlay asked.Report = ⊥
IsPlay asked.Play = ⊤
