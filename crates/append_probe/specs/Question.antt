-- What a server is asked about an append whose reply was lost (RFC 9051, section 6.4.4; RFC 5322, section 3.6.4; RFC 2047, section 2).
use Rattle.std.specs.Prelude.{ℕ, List, [], ◌∷◌, Option, Some, None, codes, drop, length, nat_eq, nat_lt, if◌then◌else◌}
use Rattle.std.specs.List.{starts_with}
use Rattle.std.specs.Option.{option_and_then, option_or, unwrap_or}
use Rattle.action_queue.specs.declared.action.Action.{Action}
use Rattle.action_queue.specs.declared.action.Action.TheVariants as actions
use Rattle.action_queue.specs.declared.intent.Intent.{Intent}
use Rattle.action_queue.specs.declared.intent.Intent.TheVariants as intents
use Rattle.imap_model.specs.declared.command.Command.{Command}
use Rattle.imap_model.specs.declared.command.Command.TheVariants as commands

-- an encoded word begins with these bytes, and ends with those
abbrev pub word_begins : List ℕ
word_begins = codes "=?"

abbrev pub word_ends : List ℕ
word_ends = codes "?="

-- the bytes in front of the first place at which the mark stands, and all where it stands nowhere
abbrev pub before : List ℕ → List ℕ → List ℕ
before mark [] = []
before mark (byte ∷ rest) = if starts_with nat_eq (byte ∷ rest) mark then [] else byte ∷ before mark rest

-- the bytes behind the last place at which the mark stands
abbrev pub behind : List ℕ → List ℕ → Option (List ℕ)
behind mark [] = None
behind mark (byte ∷ rest) =
    option_or (behind mark rest) (if starts_with nat_eq (byte ∷ rest) mark then Some (drop (length mark) (byte ∷ rest)) else None)

-- the bytes behind all encoded words, and none where none ends behind the last that begins
abbrev pub behind_words : List ℕ → List ℕ
behind_words id = unwrap_or (option_and_then (behind word_ends) (behind word_begins id)) []

-- the longer one, and the first of two that are equally long
abbrev pub longer : List ℕ → List ℕ → List ℕ
longer first second = if nat_lt (length first) (length second) then second else first

-- The part of an identifier that is searched for: all of it where no encoded word begins in it, and else what stands in front of those
-- words or behind them. A server may decode such words in the field, and then finds no text that has one.
abbrev pub question_part : List ℕ → List ℕ
question_part id = longer (before word_begins id) (behind_words id)

-- a search for that part, among the UIDs from this one on
abbrev pub question_of : ℕ → List ℕ → Command
question_of uidnext id = commands.Search uidnext (question_part id)

-- the UIDNEXT as the intent of an append was recorded
abbrev pub put_uidnext : Intent → ℕ
put_uidnext (intents.Store name validity uid modseq) = 0
put_uidnext (intents.Shift from validity uid to) = 0
put_uidnext (intents.Put to validity uidnext) = uidnext

-- the identifier of an append
abbrev pub append_id : Action → List ℕ
append_id (actions.Flag target add flags) = []
append_id (actions.Move target to) = []
append_id (actions.Append to flags text id) = id

-- the intent is that of an append
abbrev pub IsPut : Intent → Type 0
IsPut (intents.Store name validity uid modseq) = ⊥
IsPut (intents.Shift from validity uid to) = ⊥
IsPut (intents.Put to validity uidnext) = Unit {0}

-- the action is an append
abbrev pub IsAppend : Action → Type 0
IsAppend (actions.Flag target add flags) = ⊥
IsAppend (actions.Move target to) = ⊥
IsAppend (actions.Append to flags text id) = Unit {0}
