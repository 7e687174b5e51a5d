-- An action of each kind can take effect, so that the law is empty for none: from a kept book and server its command is sent and carried
-- out, its number then has one change in the history, and its outcome may be recorded (RFC 9051, sections 6.3.12, 6.4.6 and 6.4.8).
use Rattle.std.specs.Prelude.{◌≡◌, ℕ, List, [], ◌∷◌, length, Some, None}
use Rattle.mail_base.specs.declared.tag.Tag.TheVariants.{Play}
use Rattle.imap_model.specs.Carrying.{Waiting, Carries}
use Rattle.imap_model.specs.Ours.{ours}
use Rattle.imap_model.specs.declared.command.Command.TheVariants as commands
use Rattle.imap_model.specs.declared.deed.Author.TheVariants.{Ours}
use Rattle.imap_model.specs.declared.deed.Change.TheVariants as changes
use Rattle.imap_model.specs.declared.server.Message.{Message}
use Rattle.imap_model.specs.declared.server.Gone.{Gone}
use Rattle.imap_model.specs.declared.server.Mailbox.{Mailbox}
use Rattle.imap_model.specs.declared.server.Server.{Server}
use Rattle.action_queue.specs.Book.{Meaning, begun, after}
use Rattle.action_queue.specs.Events.{IsLawful}
use Rattle.action_queue.specs.declared.action.Action.{Action}
use Rattle.action_queue.specs.declared.action.Action.TheVariants as actions
use Rattle.action_queue.specs.declared.event.Event.TheVariants as events
use Rattle.action_queue.specs.declared.intent.Intent.TheVariants as intents
use Rattle.action_queue.specs.declared.outcome.Outcome.{Outcome}
use Rattle.action_queue.specs.declared.outcome.Outcome.TheVariants as outcomes
use Rattle.action_queue.specs.declared.target.Target.TheVariants as targets
use Rattle.book_laws.specs.Of.{IsOf}
use Rattle.book_laws.specs.Kept.{KeptBook}
use Rattle.book_laws.specs.Permitted.{Permits}
use Rattle.book_laws.specs.Example.{box_name, box_with, server_before, server_after, sent_out, book_three}
use Rattle.book_laws.specs.Needed.{text, book_that_appends, box_with_one_more}

-- the outcome of an action whose message went to this UID
abbrev pub done_at : ℕ → Outcome
done_at uid = outcomes.Done (Some (record { validity = 5; uid = uid }))

pub record HasEffect (b : Meaning) (s t : Server) (w : Waiting) (outcome : Outcome) : Type 0 where
  pub kept : KeptBook b s None
  pub is_of : IsOf b s w
  pub carries : Carries w s t
  pub one : length (ours 1 t.history) ≡ 1
  pub lawful : IsLawful b (events.Settle 1 outcome)
  pub permitted : Permits (Some b) (events.Settle 1 outcome) t None

-- the append
abbrev pub append_sent : Waiting
append_sent = record { selected = Some box_name; tag = Play 1; command = commands.Append box_name [] text }

abbrev pub server_appended : Server
server_appended = record {
  boxes = box_with_one_more ∷ [];
  history = record { author = Ours (Play 1); name = box_name; validity = 5; received = 5; change = changes.Add [] text 2 } ∷ [];
}

-- the move, to another mailbox
abbrev pub other_name : List ℕ
other_name = 74 ∷ []

abbrev pub box_of : List ℕ → ℕ → ℕ → List Message → List Gone → Mailbox
box_of name uidnext highest messages gone =
    record { name = name; validity = 5; uidnext = uidnext; highest = highest; messages = messages; gone = gone }

abbrev pub server_of_two : Server
server_of_two = record { boxes = box_with [] 10 ∷ box_of other_name 1 1 [] [] ∷ []; history = [] }

abbrev pub server_moved : Server
server_moved = record {
  boxes = box_of box_name 2 11 [] (record { uid = 1; modseq = 11 } ∷ [])
      ∷ box_of other_name 2 2 (record { uid = 1; flags = []; modseq = 2; text = [] } ∷ []) [] ∷ [];
  history = record { author = Ours (Play 1); name = box_name; validity = 5; received = 5; change = changes.Shift 1 other_name 1 } ∷ [];
}

abbrev pub moves : Action
moves = actions.Move (targets.Real box_name 5 1) other_name

abbrev pub book_of_two : Meaning
book_of_two = begun (box_name ∷ other_name ∷ [])

abbrev pub book_with_move : Meaning
book_with_move = after book_of_two (events.Accept 1 moves)

abbrev pub book_that_moves : Meaning
book_that_moves = after book_with_move (events.Intend 1 (intents.Shift box_name 5 1 other_name))

abbrev pub move_sent : Waiting
move_sent = record { selected = Some box_name; tag = Play 1; command = commands.Shift 1 other_name }

pub record EachKindTakesEffect : Type 0 where
  pub store : HasEffect book_three server_before server_after sent_out (outcomes.Done None)
  pub shift : HasEffect book_that_moves server_of_two server_moved move_sent (done_at 1)
  pub put : HasEffect book_that_appends server_before server_appended append_sent (done_at 2)
