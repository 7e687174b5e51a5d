-- The command of a book: what its pending intent and the action of that intent give (RFC 9051, sections 6.3.12 and 6.4.8; RFC 7162,
-- section 3.1.3).
use Rattle.std.specs.Prelude.{◌≡◌, ℕ, suc, true, [], Option, Some, None}
use Rattle.mail_base.specs.Tags.{try_tag}
use Rattle.mail_base.specs.declared.tag.Tag.{Tag}
use Rattle.book_laws.specs.InBox.{InBoxNow}
use Rattle.book_laws.specs.Open.{intent_name, intent_validity}
use Rattle.imap_model.specs.Carrying.{Waiting}
use Rattle.imap_model.specs.Mutating.{is_mutating}
use Rattle.imap_model.specs.Ours.{ours}
use Rattle.imap_model.specs.declared.command.Command.TheVariants as commands
use Rattle.imap_model.specs.declared.server.Server.{Server}
use Rattle.action_queue.specs.Queues.{due, due_action}
use Rattle.action_queue.specs.Book.{Meaning}
use Rattle.action_queue.specs.declared.action.Action.{Action}
use Rattle.action_queue.specs.declared.action.Action.TheVariants as actions
use Rattle.action_queue.specs.declared.intent.Intent.{Intent}
use Rattle.action_queue.specs.declared.intent.Intent.TheVariants as intents
use Rattle.action_queue.specs.declared.queued.Queued.{Queued}

-- the tag under which the command of action n is sent, as the action stands in the queue: that of the try behind those that were taken back
abbrev pub tag_of : ℕ → Queued → Tag
tag_of n q = try_tag n q.tries

-- the selected mailbox, the tag and the command that an intent and its action give
abbrev pub command_of : Tag → Action → Intent → Option Waiting
command_of tag (actions.Flag target add flags) (intents.Store name validity uid modseq) =
    Some (record { selected = Some name; tag = tag; command = commands.Store uid modseq add flags })
command_of tag (actions.Flag target add flags) (intents.Shift from validity uid to) = None
command_of tag (actions.Flag target add flags) (intents.Put to validity uidnext) = None
command_of tag (actions.Move target other) (intents.Store name validity uid modseq) = None
command_of tag (actions.Move target other) (intents.Shift from validity uid to) =
    Some (record { selected = Some from; tag = tag; command = commands.Shift uid to })
command_of tag (actions.Move target other) (intents.Put to validity uidnext) = None
command_of tag (actions.Append other flags text id) (intents.Store name validity uid modseq) = None
command_of tag (actions.Append other flags text id) (intents.Shift from validity uid to) = None
command_of tag (actions.Append other flags text id) (intents.Put to validity uidnext) =
    Some (record { selected = Some to; tag = tag; command = commands.Append to flags text })

-- the command is the book's, and its action has had no effect
pub record IsOf (b : Meaning) (s : Server) (w : Waiting) : Type 0 where
  pub intent : Intent
  pub pending : b.pending ≡ Some intent
  pub queued : Queued
  pub there : due_action b.queue ≡ Some queued
  pub is : command_of (tag_of (suc (due b.queue)) queued) queued.action intent ≡ Some w
  pub none : ours (suc (due b.queue)) s.history ≡ []
  pub at : InBoxNow (λ _. Unit {0}) (intent_name intent) (intent_validity intent) s.boxes

-- a command that changes a mailbox waits
pub record MutatingWaits (waiting : Option Waiting) : Type 0 where
  pub command : Waiting
  pub waits : waiting ≡ Some command
  pub mutating : is_mutating command.command ≡ true
