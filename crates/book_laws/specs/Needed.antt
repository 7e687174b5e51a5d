-- Each condition is needed: where it is passed over, a step from a kept state leads to one that isn't. The states are those of the
-- example, and of an append beside it (this client's profile of RFC 4549, section 4.2).
use Rattle.std.specs.Prelude.{◌≡◌, ℕ, true, List, [], ◌∷◌, codes, Some, None}
use Rattle.imap_model.specs.Changes.{Batch}
use Rattle.imap_model.specs.Ours.{ours}
use Rattle.imap_model.specs.declared.deed.Author.TheVariants.{Other}
use Rattle.imap_model.specs.declared.deed.Change.TheVariants as changes
use Rattle.imap_model.specs.declared.server.Mailbox.{Mailbox}
use Rattle.imap_model.specs.declared.server.Server.{Server}
use Rattle.mailbox_cache.specs.declared.delta.Delta.{Delta}
use Rattle.action_queue.specs.Book.{Meaning, after}
use Rattle.action_queue.specs.Events.{IsLawful}
use Rattle.action_queue.specs.declared.action.Action.{Action}
use Rattle.action_queue.specs.declared.action.Action.TheVariants as actions
use Rattle.action_queue.specs.declared.event.Event.{Event}
use Rattle.action_queue.specs.declared.event.Event.TheVariants as events
use Rattle.action_queue.specs.declared.intent.Intent.TheVariants as intents
use Rattle.action_queue.specs.declared.outcome.Kind.TheVariants as kinds
use Rattle.action_queue.specs.declared.outcome.Outcome.TheVariants as outcomes
use Rattle.book_laws.specs.Kept.{KeptBook}
use Rattle.book_laws.specs.Example.{box_name, message_with, server_before, server_after, sent_out, book_one, book_two, book_three}

abbrev pub done : Event
done = events.Settle 1 (outcomes.Done None)

abbrev pub refused : Event
refused = events.Settle 1 (outcomes.Conflict kinds.RefusedNo)

-- an intent with a mark above all mod-sequences of its mailbox
abbrev pub meant_above : Event
meant_above = events.Intend 1 (intents.Store box_name 5 1 99)

-- a delta with the mailbox's mark that lacks the row at it
abbrev pub without_the_row : Delta
without_the_row = record { whole = true; validity = 5; highest = 10; uidnext = 2; vanished = []; rows = []; rising = tt; apart = tt }

abbrev pub learns : Event
learns = events.Learn box_name without_the_row

-- a text with a Message-ID, and the append of it
abbrev pub text : List ℕ
text = codes "Message-ID:<a>\r\n\r\n"

abbrev pub id : List ℕ
id = codes "<a>"

abbrev pub appends : Action
appends = actions.Append box_name [] text id

abbrev pub book_that_appends : Meaning
book_that_appends = after (after book_one (events.Accept 1 appends)) (events.Intend 1 (intents.Put box_name 5 2))

-- another client adds such a message
abbrev pub box_with_one_more : Mailbox
box_with_one_more = record {
  name = box_name;
  validity = 5;
  uidnext = 3;
  highest = 11;
  messages = message_with [] 10 ∷ record { uid = 2; flags = []; modseq = 11; text = text } ∷ [];
  gone = [];
}

abbrev pub server_with_one_more : Server
server_with_one_more = record {
  boxes = box_with_one_more ∷ [];
  history = record { author = Other; name = box_name; validity = 5; received = 5; change = changes.Add [] text 2 } ∷ [];
}

-- another client renews the mailbox
abbrev pub box_renewed : Mailbox
box_renewed = record { name = box_name; validity = 6; uidnext = 2; highest = 12; messages = message_with [] 12 ∷ []; gone = [] }

abbrev pub server_renewed : Server
server_renewed = record {
  boxes = box_renewed ∷ [];
  history = record { author = Other; name = box_name; validity = 6; received = 6; change = changes.Reset 6 (1 ∷ []) 2 12 } ∷ [];
}

-- an event that may come next leads from a kept book to one that isn't kept
pub record BreaksIt (b : Meaning) (event : Event) (s : Server) : Type 0 where
  pub kept : KeptBook b s None
  pub lawful : IsLawful b event
  pub broken : ¬ (KeptBook (after b event) s None)

-- Without "the outcome fits the deeds", "no command waits", "the intent says what is so", "the new cache is fresh", "the action has no deed
-- as its command is sent", "others spare the append that is due", and "others renew no mailbox in which a command waits", the law would be
-- false.
pub record ConditionsAreNeeded : Type 0 where
  pub outcome_fits : BreaksIt book_three done server_before
  pub none_waits : KeptBook book_three server_before (Some sent_out) × IsLawful book_three refused × (ours 1 server_before.history ≡ [])
      × ¬ (KeptBook (after book_three refused) server_before (Some sent_out))
  pub intent_is_so : BreaksIt book_two meant_above server_before
  pub cache_is_fresh : BreaksIt book_one learns server_before
  pub no_deed_yet : KeptBook book_three server_after None × ¬ (KeptBook book_three server_after (Some sent_out))
  pub others_spare : KeptBook book_that_appends server_before None × Batch server_before.boxes server_before server_with_one_more
      × ¬ (KeptBook book_that_appends server_with_one_more None)
  pub others_settle : KeptBook book_three server_before (Some sent_out) × Batch server_before.boxes server_before server_renewed
      × ¬ (KeptBook book_three server_renewed (Some sent_out))
