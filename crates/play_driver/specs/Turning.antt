-- One turn of playback: what is needed next is done, and what came of it is kept (this client's profile of RFC 4549, section 4.2).
use Rattle.std.specs.Prelude.{◌≡◌, ◌≤◌, ℕ, Bool, true, List, Option, Some, None, is_some, Result, Ok}
use Rattle.std.specs.List.{list_all}
use Rattle.action_queue.specs.Book.{Meaning, after, cache_at}
use Rattle.action_queue.specs.Queues.{due_action, tries_due}
use Rattle.action_queue.specs.declared.action.Action.{Action}
use Rattle.action_queue.specs.declared.action.Action.TheVariants as actions
use Rattle.action_queue.specs.declared.event.Event.{Event}
use Rattle.action_queue.specs.declared.queued.Queued.{Queued}
use Rattle.imap_model.specs.Mutating.{is_mutating}
use Rattle.imap_model.specs.declared.command.Command.{Command}
use Rattle.imap_model.specs.declared.command.Command.TheVariants as commands
use Rattle.imap_model.specs.declared.replies.Replies.{Replies}
use Rattle.imap_model.specs.declared.response.Response.{Response}
use Rattle.imap_model.specs.CommandText.{parts_of}
use Rattle.imap_session.specs.Causes.{FailsBehind}
use Rattle.imap_session.specs.Counting.{count_after}
use Rattle.imap_session.specs.Dialogue.{next_tag}
use Rattle.imap_session.specs.Dialogue.Dialogue.{Asks, Ends}
use Rattle.imap_session.specs.Hearing.{Hears}
use Rattle.imap_session.specs.Permanent.{keeps, permitted}
use Rattle.imap_session.specs.Replying.{Came}
use Rattle.imap_session.specs.Sent.{SentFront, joined}
use Rattle.imap_session.specs.declared.fault.SessionFault.{SessionFault}
use Rattle.imap_session.specs.declared.permits.Permits.{Permits}
use Rattle.mail_base.specs.declared.tag.Tag.{Tag}
use Rattle.mail_base.specs.Tags.{try_tag}
use Rattle.mailbox_cache.specs.declared.delta.Delta.{Delta}
use Rattle.playback.specs.Allowed.{Records, WhyNotChosen}
use Rattle.playback.specs.Choosing.{IsChosen, IsChosenFault, committed, reset_of}
use Rattle.playback.specs.Needs.{NeedsNoMemory, need_of}
use Rattle.playback.specs.Replying.{IsHeard, IsHeardFault}
use Rattle.playback.specs.Why.{TellsValidity}
use Rattle.playback.specs.declared.need.Need.{Need}
use Rattle.playback.specs.declared.need.Need.TheVariants as needs
use Rattle.playback.specs.declared.need.Unheard.{Unheard}
use Rattle.playback.specs.declared.player.Player.{Player}
use Rattle.qresync_core.specs.declared.fault.ResyncFault.{ResyncFault}
use Rattle.store_core.specs.Holding.{Holding}
use Rattle.store_core.specs.Mail.{mail}
use Rattle.world_traits.specs.LinkState.{LinkState}
use Rattle.play_driver.specs.Faults.{of_session, of_unheard}
use Rattle.play_driver.specs.Recording.{NotRecorded, recorded}
use Rattle.play_driver.specs.Holds.{IsHeldReply}
use Rattle.play_driver.specs.Resynchronising.{RowsCame, resync, select_of}
use Rattle.play_driver.specs.Sessions.{held_in, permits_in, selected_in}
use Rattle.play_driver.specs.Stages.{Broke, DeltaCameOf, DeltaCameTo, Stage, stage_of}
use Rattle.play_driver.specs.declared.fault.PlayFault.{PlayFault}
use Rattle.play_driver.specs.declared.fault.PlayFault.TheVariants as faults
use Rattle.play_driver.specs.declared.session.Held.{Held}
use Rattle.play_driver.specs.declared.session.Session.{Session}

-- How far a run is: its session, with what is selected and the flags that can be changed for good there, and the reply to SELECT that is held,
-- if one is; its store; and its player.
pub record Standing : Type 0 where
  pub stage : Stage
  pub selected : Option (List ℕ)
  pub permits : Option Permits
  pub held : Option Held
  pub store : Holding mail
  pub player : Player

abbrev pub standing_of : LinkState → Session → Holding mail → Player → Standing
standing_of link session store player = record {
  stage = stage_of link session;
  selected = selected_in session;
  permits = permits_in session;
  held = held_in session;
  store = store;
  player = player;
}

-- what is needed there
abbrev pub need_at : Standing → Need
need_at p = need_of p.player p.store.book

-- how many tries of the action that is due were taken back
abbrev pub tries_at : Standing → ℕ
tries_at p = tries_due p.store.book.queue

-- a delta waits to be recorded; or this is needed
abbrev pub IsNext : Option Need → Player → Meaning → Type 0
IsNext None p b = is_some p.learns ≡ true
IsNext (Some need) p b = need ≡ need_of p b

-- the need is this command, which is asked under this tag where so many tries of the action were taken back, and so many questions were asked
-- before: a question under their next number, and an action's command under that of its try, of which there are three
abbrev pub IsAskedFor : Need → ℕ → ℕ → Tag → Command → Type 0
IsAskedFor (needs.Select name) tries count tag command = ⊥
IsAskedFor (needs.Ask asked) tries count tag command = (command ≡ asked) × (tag ≡ next_tag count)
IsAskedFor (needs.Commit event) tries count tag command = ⊥
IsAskedFor (needs.Settle n outcome) tries count tag command = ⊥
IsAskedFor (needs.Withdraw n k) tries count tag command = ⊥
IsAskedFor (needs.Send n sent) tries count tag command = (command ≡ sent) × (tag ≡ try_tag n tries) × (tries ≤ 2)
IsAskedFor needs.Finished tries count tag command = ⊥

-- from one stage to another this command was sent under this tag, and these replies are all that came
pub record AskedBetween (tag : Tag) (command : Command) (r : Replies) (p q : Stage) : Type 0 where
  pub heard : List Response
  pub hears : Hears heard p.link.connection p.feed
  pub came : Came heard tag command r p.link q.link q.feed
  pub counted : q.count ≡ count_after (is_mutating command) p.count

-- from a stage on it was sent to no more than its end, and no reply came
pub record NotAnswered (tag : Tag) (command : Command) (p : Stage) (link : LinkState) (fault : SessionFault) : Type 0 where
  pub heard : List Response
  pub hears : Hears heard p.link.connection p.feed
  pub sent : SentFront (joined (parts_of tag command)) p.link.sent link.sent
  pub failing : FailsBehind heard tag command hears.connection.received link.connection fault

-- whether the flags of a flag action can be changed for good
abbrev pub permits_action : Option Permits → Action → Bool
permits_action permits (actions.Flag target add flags) = list_all (keeps permits) flags
permits_action permits (actions.Move target to) = true
permits_action permits (actions.Append to flags text id) = true

-- the same of the action that is due
abbrev pub permits_due : Option Permits → Option Queued → Bool
permits_due permits None = true
permits_due permits (Some q) = permits_action permits q.action

-- the event that takes away the cache of the mailbox whose SELECT's reply is held
abbrev pub reset_at : Held → Standing → Option Event
reset_at h p = reset_of h.chosen.name (cache_at h.chosen.name p.store.book.boxes) h.told

-- from one stage to another the rows of a mailbox were asked for behind a reply to SELECT that is held, and this came of it
pub record RowsCameOf (h : Held) (delta : Result Delta ResyncFault) (p q : Stage) : Type 0 where
  pub heard : List Response
  pub hears : Hears heard p.link.connection p.feed
  pub came : RowsCame h p.count q.count delta p.link.sent hears.connection.received heard q.link q.feed

-- A turn: the event that is needed is recorded; or the mailbox that is needed is resynchronised, and its delta is taken; or the question
-- or the command that is needed is asked, and its reply is taken. Where the SELECT that is needed told a UIDVALIDITY above that of the cache, its
-- reply is held; then the cache is taken away; and then the rows are asked for, and the delta is taken.
pub data Turns (p q : Standing) : Type 0 where
  records : (event : Event) → p.held ≡ None → Records (need_at p) event →
      q ≡ record p { store = recorded p.store event; player = committed p.player (after p.store.book event) } → Turns p q
  selects : (name : List ℕ) (delta : Delta) → p.held ≡ None → need_at p ≡ needs.Select name →
      DeltaCameOf name (cache_at name p.store.book.boxes) (Ok delta) q.permits p.stage q.stage →
      IsChosen p.player p.store.book (Ok delta) q.player → q.selected ≡ Some name → q.held ≡ None → q.store ≡ p.store → Turns p q
  holds : (h : Held) (r : Replies) (event : Event) → p.held ≡ None → need_at p ≡ needs.Select h.chosen.name →
      AskedBetween (next_tag p.stage.count) (select_of h.chosen.name (cache_at h.chosen.name p.store.book.boxes)) r p.stage q.stage →
      IsHeldReply h r → TellsValidity h.told r → reset_at h p ≡ Some event → q.permits ≡ permitted None r → q.selected ≡ Some h.chosen.name → q.held ≡ Some h →
      q.store ≡ p.store → q.player ≡ p.player → Turns p q
  resets : (h : Held) (event : Event) → p.held ≡ Some h → need_at p ≡ needs.Select h.chosen.name → reset_at h p ≡ Some event → q ≡ record p { store = recorded p.store event } → Turns p q
  fetches : (h : Held) (delta : Delta) → p.held ≡ Some h → need_at p ≡ needs.Select h.chosen.name → cache_at h.chosen.name p.store.book.boxes ≡ None →
      RowsCameOf h (Ok delta) p.stage q.stage → IsChosen p.player p.store.book (Ok delta) q.player →
      q.selected ≡ p.selected → q.permits ≡ p.permits → q.held ≡ None → q.store ≡ p.store → Turns p q
  asks : (tag : Tag) (command : Command) (r : Replies) → p.held ≡ None → IsAskedFor (need_at p) (tries_at p) p.stage.count tag command →
      AskedBetween tag command r p.stage q.stage →
      IsHeard p.player p.store.book (permits_due p.permits (due_action p.store.book.queue)) r q.player →
      q.selected ≡ p.selected → q.permits ≡ p.permits → q.held ≡ None → q.store ≡ p.store → Turns p q

-- Why a turn fails, on the bytes received; and what was sent. Memory is wanting to say what is needed; or the event isn't recorded; or the
-- mailbox's questions aren't answered, or what they tell isn't taken; or the question or the command isn't answered, or its reply isn't
-- taken. The same of a reply that is held.
pub data TurnFails (p : Standing) (link : LinkState) (fault : PlayFault) : Type 0 where
  wanting : (NeedsNoMemory (need_at p) → ⊥) → link ≡ p.stage.link → fault ≡ faults.Memory → TurnFails p link fault
  not_recorded : (event : Event) → Records (need_at p) event → link ≡ p.stage.link → NotRecorded event p.store fault → TurnFails p link fault
  not_told : (name : List ℕ) (f : SessionFault) → p.held ≡ None → need_at p ≡ needs.Select name → fault ≡ of_session f →
      Broke (resync name (cache_at name p.store.book.boxes) (Ends true)) p.stage link f → TurnFails p link fault
  not_chosen : (name : List ℕ) (told : Result Delta ResyncFault) (permits : Option Permits) (unheard : Unheard) → p.held ≡ None →
      need_at p ≡ needs.Select name → DeltaCameTo name (cache_at name p.store.book.boxes) told permits p.stage link →
      IsChosenFault p.player p.store.book told unheard → WhyNotChosen unheard told p.player p.store.book →
      fault ≡ of_unheard name unheard → TurnFails p link fault
  not_reset : (h : Held) (event : Event) → p.held ≡ Some h → need_at p ≡ needs.Select h.chosen.name → reset_at h p ≡ Some event → link ≡ p.stage.link → NotRecorded event p.store fault →
      TurnFails p link fault
  not_fetched : (h : Held) (f : SessionFault) → p.held ≡ Some h → need_at p ≡ needs.Select h.chosen.name → fault ≡ of_session f → Broke (Asks commands.FetchAll (λ all. Ends true)) p.stage link f →
      TurnFails p link fault
  not_taken : (h : Held) (told : Result Delta ResyncFault) (q : Stage) (unheard : Unheard) → p.held ≡ Some h →
      need_at p ≡ needs.Select h.chosen.name → RowsCameOf h told p.stage q →
      q.link ≡ link → IsChosenFault p.player p.store.book told unheard → WhyNotChosen unheard told p.player p.store.book →
      fault ≡ of_unheard h.chosen.name unheard → TurnFails p link fault
  not_answered : (tag : Tag) (command : Command) (f : SessionFault) → IsAskedFor (need_at p) (tries_at p) p.stage.count tag command →
      fault ≡ of_session f → NotAnswered tag command p.stage link f → TurnFails p link fault
  not_heard : (tag : Tag) (command : Command) (r : Replies) (q : Stage) (unheard : Unheard) (name : List ℕ) →
      p.selected ≡ Some name → IsAskedFor (need_at p) (tries_at p) p.stage.count tag command → AskedBetween tag command r p.stage q → q.link ≡ link →
      IsHeardFault p.player p.store.book (permits_due p.permits (due_action p.store.book.queue)) r unheard →
      fault ≡ of_unheard name unheard → TurnFails p link fault
