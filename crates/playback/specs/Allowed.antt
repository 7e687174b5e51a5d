-- That what is needed may be done, and that what is recorded is true (this client's profile of RFC 4549, section 4.2).
use Rattle.action_queue.specs.Book.{Meaning, cache_at, learned}
use Rattle.action_queue.specs.Queues.{due_action}
use Rattle.action_queue.specs.Targets.{resolved}
use Rattle.action_queue.specs.declared.action.Action.{Action}
use Rattle.action_queue.specs.declared.event.Event.{Event}
use Rattle.action_queue.specs.declared.queued.Queued.{Queued}
use Rattle.imap_model.specs.Carrying.{Waiting}
use Rattle.imap_model.specs.Mutating.{is_mutating}
use Rattle.imap_model.specs.declared.command.Command.{Command}
use Rattle.imap_model.specs.declared.mark.Mark.{Mark}
use Rattle.imap_model.specs.declared.replies.Replies.{Replies}
use Rattle.mail_base.specs.declared.limits.TheConstants.{MAX_ROWS}
use Rattle.mailbox_cache.specs.declared.cache.Cache.{Cache}
use Rattle.mailbox_cache.specs.declared.delta.Delta.{Delta}
use Rattle.playback.specs.Course.{Course, Said}
use Rattle.playback.specs.Knows.{OfTag, SelectsBox, with_rows}
use Rattle.playback.specs.Needs.{need_of}
use Rattle.book_laws.specs.Of.{IsOf, MutatingWaits}
use Rattle.book_laws.specs.Permitted.{Permits}
use Rattle.playback.specs.Why.{OfDue, TellsLack, TellsValidity, WasPassed, WasSelected, WhyIntent, WhyOutcome}
use Rattle.playback.specs.Worlds.{World, name_of}
use Rattle.playback.specs.declared.need.Need.{Need}
use Rattle.playback.specs.declared.need.Unheard.{Unheard}
use Rattle.playback.specs.declared.player.Player.{Player}
use Rattle.qresync_core.specs.Resync.{TellsDelta, is_told_empty}
use Rattle.qresync_core.specs.declared.fault.ResyncFault.{ResyncFault}
use Rattle.std.specs.Option.{is_none, is_some}
use Rattle.std.specs.Prelude.{Bool, Err, List, None, Ok, Option, Result, Some, false, length, not, ℕ, ◌&&◌, ◌<◌, ◌∷◌, ◌≡◌, ◌≢◌}
use Rattle.action_queue.specs.declared.action.Action.TheVariants as actions
use Rattle.imap_model.specs.declared.command.Command.TheVariants as commands
use Rattle.imap_model.specs.declared.ending.Ending.TheVariants as endings
use Rattle.action_queue.specs.declared.event.Event.TheVariants as events
use Rattle.action_queue.specs.declared.found.Found.TheVariants as found
use Rattle.action_queue.specs.declared.intent.Intent.TheVariants as intents
use Rattle.playback.specs.declared.need.Need.TheVariants as needs
use Rattle.playback.specs.declared.need.Unheard.TheVariants as unheards

-- The command may be sent now: no command waits that changes something, and it is the book's, under its action's tag.
pub record MaySend (n : ℕ) (command : Command) (b : Meaning) (w : World) : Type 0 where
  pub quiet : ¬ (MutatingWaits w.waiting)
  pub sends : Waiting
  pub of_tag : OfTag n command sends w.selected b
  pub is_of : IsOf b w.course.now sends

-- why an event is recorded that isn't an outcome
abbrev pub WhyCommit : Event → Meaning → Course → Type 0
WhyCommit (events.Begin names) b c = ⊥
WhyCommit (events.Accept n action) b c = ⊥
WhyCommit (events.Intend n intent) b c = WhyIntent intent b c
WhyCommit (events.Settle n outcome) b c = ⊥
WhyCommit (events.Learn name delta) b c = Unit {0}
WhyCommit (events.Old n action outcome) b c = ⊥
WhyCommit (events.Reset name kept told) b c = (kept < told) × WasSelected name (TellsValidity told) c
WhyCommit (events.Withdraw n tries) b c = WasPassed b.pending b c

-- the event may be recorded now, the outcome too, each for its reason; the command may be sent
abbrev pub IsAllowed : Need → Player → Meaning → World → Type 0
IsAllowed (needs.Select name) p b w = Unit {0}
IsAllowed (needs.Ask command) p b w = Unit {0}
IsAllowed (needs.Commit event) p b w = Permits (Some b) event w.course.now w.waiting × WhyCommit event b w.course
IsAllowed (needs.Settle n outcome) p b w =
    Permits (Some b) (events.Settle n outcome) w.course.now w.waiting × WhyOutcome outcome p.resumed b w.course
IsAllowed (needs.Withdraw n tries) p b w =
    Permits (Some b) (events.Withdraw n tries) w.course.now w.waiting × WhyCommit (events.Withdraw n tries) b w.course
IsAllowed (needs.Send n command) p b w = MaySend n command b w
IsAllowed needs.Finished p b w = Unit {0}

-- The last reply of the connection, which the player wasn't given yet; a question's says OK. It isn't that to a SELECT.
pub record IsReply (r : Replies) (w : World) : Type 0 where
  pub said : Said
  pub rest : List Said
  pub last : w.course.said ≡ said ∷ rest
  pub is : said.reply ≡ r
  pub command : Waiting
  pub asks : said.command ≡ command
  pub owed : w.owed ≡ Some command
  pub answered : w.waiting ≡ None
  pub no_select : (name : List ℕ) (since : Option Mark) → command.command ≢ commands.Select name since
  pub accepted : is_mutating command.command ≡ false → r.ending ≡ endings.Ok

-- of a flag action that is due: a SELECT of the mailbox that is selected told that its flags aren't kept
abbrev pub LacksFlags : World → Action → Type 0
LacksFlags w (actions.Flag target add asked) =
    (name : List ℕ) × (name_of w.selected ≡ Some name) × WasSelected name (TellsLack asked) w.course
LacksFlags w (actions.Move target to) = Unit {0}
LacksFlags w (actions.Append to flags text id) = Unit {0}

-- where the flags of the action that is due are said not to be kept, a SELECT told so
abbrev pub PermitsTruly : Bool → Meaning → World → Type 0
PermitsTruly permits b w = permits ≡ false → (q : Queued) → due_action b.queue ≡ Some q → LacksFlags w q.action

-- the reply to what was said, where something was
abbrev pub reply_of : Option Said → Option Replies
reply_of None = None
reply_of (Some e) = Some e.reply

-- Where nothing was kept of the mailbox, and it isn't told to be empty, its rows were asked for.
abbrev pub is_due : Option Cache → Replies → Bool
is_due kept selected = is_none kept && not (is_told_empty selected)

-- The delta is what the last replies of the connection tell, those to a SELECT and to the FETCH of all rows where that was due; both said
-- OK, and the player wasn't given them yet.
pub record IsGathered (delta : Delta) (b : Meaning) (w : World) : Type 0 where
  pub selected : Said
  pub rows : Option Said
  pub rest : List Said
  pub last : w.course.said ≡ with_rows rows (selected ∷ rest)
  pub command : Waiting
  pub owed : w.owed ≡ Some command
  pub answered : w.waiting ≡ None
  pub asks : selected.command ≡ command
  pub name : List ℕ
  pub selects : SelectsBox name b command
  pub accepted : selected.reply.ending ≡ endings.Ok
  pub all_asks : (e : Said) → rows ≡ Some e → e.command.command ≡ commands.FetchAll
  pub all_accepted : (e : Said) → rows ≡ Some e → e.reply.ending ≡ endings.Ok
  pub fetched : is_some rows ≡ is_due (cache_at name b.boxes) selected.reply
  pub tells : TellsDelta (cache_at name b.boxes) selected.reply (reply_of rows) delta

-- an event that a need records
abbrev pub Records : Need → Event → Type 0
Records (needs.Select name) event = ⊥
Records (needs.Ask command) event = ⊥
Records (needs.Commit recorded) event = event ≡ recorded
Records (needs.Settle n outcome) event = event ≡ events.Settle n outcome
Records (needs.Withdraw n tries) event = event ≡ events.Withdraw n tries
Records (needs.Send n command) event = ⊥
Records needs.Finished event = ⊥

-- The UIDVALIDITY that this mailbox is to have for the action that is due: it is that of its message, or of its intent.
abbrev pub IsToHave : List ℕ → ℕ → Meaning → Action → Type 0
IsToHave name validity b (actions.Flag target add flags) = (uid : ℕ) × (resolved b.queue target ≡ found.Real name validity uid)
IsToHave name validity b (actions.Move target to) = (uid : ℕ) × (resolved b.queue target ≡ found.Real name validity uid)
IsToHave name validity b (actions.Append to flags text id) =
    (uidnext : ℕ) × (other : List ℕ) × (name ≡ to) × (b.pending ≡ Some (intents.Put other validity uidnext))

-- the SELECT of that mailbox told a UIDVALIDITY below that
pub record IsLowerValidity (old told : ℕ) (delta : Delta) (p : Player) (b : Meaning) : Type 0 where
  pub below : told < old
  pub is_told : delta.validity ≡ told
  pub name : List ℕ
  pub selects : need_of p b ≡ needs.Select name
  pub to_have : OfDue (IsToHave name old b) b

-- the cache of the mailbox that is selected would have too many rows
pub record IsTooManyRows (count : ℕ) (delta : Delta) (p : Player) (b : Meaning) : Type 0 where
  pub name : List ℕ
  pub selects : need_of p b ≡ needs.Select name
  pub many : MAX_ROWS < count
  pub is : length (learned (cache_at name b.boxes) delta).rows ≡ count

-- why a SELECT's answer isn't taken, in the words of the book and the delta
abbrev pub WhyNotChosen : Unheard → Result Delta ResyncFault → Player → Meaning → Type 0
WhyNotChosen unheards.Memory told p b = Unit {0}
WhyNotChosen (unheards.Resync fault) told p b = told ≡ Err fault
WhyNotChosen (unheards.Target old new) told p b = (delta : Delta) × (told ≡ Ok delta) × IsLowerValidity old new delta p b
WhyNotChosen (unheards.Lacks item) told p b = ⊥
WhyNotChosen (unheards.Rows count) told p b = (delta : Delta) × (told ≡ Ok delta) × IsTooManyRows count delta p b
