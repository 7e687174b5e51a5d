-- A run in which an action takes effect, so that the law isn't empty: a journal begins, an action is accepted that sets a flag of the one
-- message of a server, its intent is recorded, its command is sent and carried out, and its outcome is recorded (RFC 9051,
-- section 6.4.6; RFC 7162, section 3.1.3).
use Rattle.std.specs.Prelude.{◌≡◌, ℕ, true, false, List, [], ◌∷◌, length, Some, None}
use Rattle.mail_base.specs.declared.tag.Tag.TheVariants.{Play}
use Rattle.imap_model.specs.Carrying.{Waiting}
use Rattle.imap_model.specs.Ours.{ours}
use Rattle.imap_model.specs.declared.command.Command.TheVariants as commands
use Rattle.imap_model.specs.declared.deed.Author.TheVariants.{Ours}
use Rattle.imap_model.specs.declared.deed.Change.TheVariants as changes
use Rattle.imap_model.specs.declared.server.Message.{Message}
use Rattle.imap_model.specs.declared.server.Mailbox.{Mailbox}
use Rattle.imap_model.specs.declared.server.Server.{Server}
use Rattle.action_queue.specs.Book.{Meaning, begun, after}
use Rattle.action_queue.specs.declared.target.Target.TheVariants as targets
use Rattle.action_queue.specs.declared.action.Action.{Action}
use Rattle.action_queue.specs.declared.action.Action.TheVariants as actions
use Rattle.action_queue.specs.declared.intent.Intent.{Intent}
use Rattle.action_queue.specs.declared.intent.Intent.TheVariants as intents
use Rattle.action_queue.specs.declared.outcome.Outcome.TheVariants as outcomes
use Rattle.action_queue.specs.declared.event.Event.TheVariants as events
use Rattle.book_laws.specs.Machine.{State, KeptState, Firm, Label, Begin, Choose, Send, Carry, Run}

-- the mailbox's name, and the flag
abbrev pub box_name : List ℕ
box_name = 73 ∷ []

abbrev pub flag : List ℕ
flag = 83 ∷ []

abbrev pub message_with : List (List ℕ) → ℕ → Message
message_with flags modseq = record { uid = 1; flags = flags; modseq = modseq; text = [] }

abbrev pub box_with : List (List ℕ) → ℕ → Mailbox
box_with flags modseq = record {
  name = box_name;
  validity = 5;
  uidnext = 2;
  highest = modseq;
  messages = message_with flags modseq ∷ [];
  gone = [];
}

abbrev pub server_before : Server
server_before = record { boxes = box_with [] 10 ∷ []; history = [] }

abbrev pub server_after : Server
server_after = record {
  boxes = box_with (flag ∷ []) 11 ∷ [];
  history = record { author = Ours (Play 1); name = box_name; validity = 5; received = 5; change = changes.SetFlags 1 (flag ∷ []) } ∷ [];
}

abbrev pub asked : Action
asked = actions.Flag (targets.Real box_name 5 1) true (flag ∷ [])

abbrev pub meant : Intent
meant = intents.Store box_name 5 1 10

abbrev pub sent_out : Waiting
sent_out = record { selected = Some box_name; tag = Play 1; command = commands.Store 1 10 true (flag ∷ []) }

abbrev pub book_one : Meaning
book_one = begun (box_name ∷ [])

abbrev pub book_two : Meaning
book_two = after book_one (events.Accept 1 asked)

abbrev pub book_three : Meaning
book_three = after book_two (events.Intend 1 meant)

abbrev pub book_four : Meaning
book_four = after book_three (events.Settle 1 (outcomes.Done None))

abbrev pub start_state : State
start_state = record { books = Firm None; server = server_before; waiting = None }

abbrev pub end_state : State
end_state = record { books = Firm (Some book_four); server = server_after; waiting = None }

abbrev pub schedule : List Label
schedule =
    Begin (events.Begin (box_name ∷ [])) ∷ Choose false ∷ Begin (events.Accept 1 asked) ∷ Choose false ∷ Begin (events.Intend 1 meant) ∷ Choose false
    ∷ Send sent_out ∷ Carry ∷ Begin (events.Settle 1 (outcomes.Done None)) ∷ Choose false ∷ []

-- it is a run, it starts kept, and the action has its one deed
pub record TakesEffect : Type 0 where
  pub run : Run schedule start_state end_state
  pub kept : KeptState start_state
  pub effect : length (ours 1 end_state.server.history) ≡ 1
