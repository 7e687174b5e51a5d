-- When an event may be recorded: what the one who records it must know of the server at that moment (this client's profile of RFC
-- 4549, section 4.2).
use Rattle.std.specs.Prelude.{◌≡◌, suc, [], Option, Some, None}
use Rattle.imap_model.specs.Carrying.{Waiting}
use Rattle.imap_model.specs.Ours.{ours}
use Rattle.imap_model.specs.declared.server.Server.{Server}
use Rattle.action_queue.specs.Queues.{due}
use Rattle.action_queue.specs.Book.{Meaning, cache_at, learned}
use Rattle.action_queue.specs.Events.{IsLawful, IsFirst}
use Rattle.action_queue.specs.Writable.{IsWritable}
use Rattle.action_queue.specs.declared.event.Event.{Event}
use Rattle.action_queue.specs.declared.event.Event.TheVariants as events
use Rattle.book_laws.specs.Once.{Fits}
use Rattle.book_laws.specs.Open.{OpensNow}
use Rattle.book_laws.specs.Fresh.{IsFreshNow, IsRenewed}
use Rattle.book_laws.specs.Of.{MutatingWaits}
use Rattle.book_laws.specs.Kept.{NoneOurs}
use Rattle.book_laws.specs.Reached.{ActionReached}

-- the event may come next, whatever the server is
abbrev pub MayFollow : Option Meaning → Event → Type 0
MayFollow None event = IsFirst event
MayFollow (Some b) event = IsLawful b event

-- A book begins where this client changed nothing and is about to change nothing. An action is accepted that can be written, and
-- names no UIDVALIDITY above its mailbox's. An intent is recorded that says what is so, and an outcome that fits the action's deeds, each
-- while no command waits that changes something. A try is taken back where the action has no deed, while no such command waits. A delta is
-- learned where the new cache says what is so, and a cache is taken away where its mailbox was renewed.
abbrev pub Permits : Option Meaning → Event → Server → Option Waiting → Type 0
Permits None (events.Begin names) s waiting = NoneOurs s.history × ¬ (MutatingWaits waiting)
Permits None (events.Accept id action) s waiting = ⊥
Permits None (events.Intend id intent) s waiting = ⊥
Permits None (events.Settle id outcome) s waiting = ⊥
Permits None (events.Learn name delta) s waiting = ⊥
Permits None (events.Old id action outcome) s waiting = ⊥
Permits None (events.Reset name kept told) s waiting = ⊥
Permits None (events.Withdraw id tries) s waiting = ⊥
Permits (Some b) (events.Begin names) s waiting = ⊥
Permits (Some b) (events.Accept id action) s waiting = IsWritable (events.Accept id action) × ActionReached s.boxes action
Permits (Some b) (events.Intend id intent) s waiting = ¬ (MutatingWaits waiting) × OpensNow b intent s
Permits (Some b) (events.Settle id outcome) s waiting = ¬ (MutatingWaits waiting) × Fits outcome (ours (suc (due b.queue)) s.history)
Permits (Some b) (events.Learn name delta) s waiting = IsFreshNow name (learned (cache_at name b.boxes) delta) s.boxes
Permits (Some b) (events.Old id action outcome) s waiting = ⊥
Permits (Some b) (events.Reset name kept told) s waiting = IsRenewed name kept s.boxes
Permits (Some b) (events.Withdraw id tries) s waiting = ¬ (MutatingWaits waiting) × (ours (suc (due b.queue)) s.history ≡ [])
