-- Why a run recorded an intent or a conflict: what was so at a moment of this run, or was told in it (this client's profile of RFC
-- 4549, section 4.2). An intent is open where it was pending as the run began.
use Rattle.std.specs.Option.{option_or}
use Rattle.std.specs.Prelude.{◌≡◌, ◌≢◌, ℕ, suc, ◌<◌, Bool, true, false, ◌&&◌, ◌==◌, is_some, List, [], ◌∷◌, length, Contains, Option, Some, None, Ok}
use Rattle.flag_set.specs.Flag.{is_keyword}
use Rattle.flag_set.specs.FlagSet.{has}
use Rattle.uid_sets.specs.UidSet.{Member}
use Rattle.mailbox_cache.specs.declared.row.Row.{Row}
use Rattle.imap_model.specs.Mutating.{is_mutating}
use Rattle.imap_model.specs.Ours.{ours}
use Rattle.imap_model.specs.declared.code.Code.{Code}
use Rattle.imap_model.specs.declared.code.Code.TheVariants as codings
use Rattle.imap_model.specs.declared.command.Command.{Command}
use Rattle.imap_model.specs.declared.command.Command.TheVariants as commands
use Rattle.imap_model.specs.declared.ending.Ending.{Ending}
use Rattle.imap_model.specs.declared.ending.Ending.TheVariants as endings
use Rattle.imap_model.specs.declared.mark.Mark.{Mark}
use Rattle.imap_model.specs.declared.replies.Replies.{Replies}
use Rattle.imap_model.specs.declared.server.Mailbox.{Mailbox}
use Rattle.imap_model.specs.declared.server.Server.{Server}
use Rattle.qresync_core.specs.Behind.{behind_closed}
use Rattle.qresync_core.specs.Fresh.{server_row}
use Rattle.qresync_core.specs.ToldCodes.{codes_in, told_codes}
use Rattle.qresync_core.specs.declared.codes.Codes.{Codes}
use Rattle.action_queue.specs.Queues.{due, due_action, tries_due}
use Rattle.action_queue.specs.Targets.{resolved, is_never}
use Rattle.action_queue.specs.Book.{Meaning}
use Rattle.action_queue.specs.declared.action.Action.{Action}
use Rattle.action_queue.specs.declared.action.Action.TheVariants as actions
use Rattle.action_queue.specs.declared.event.Event.{Event}
use Rattle.action_queue.specs.declared.event.Event.TheVariants as events
use Rattle.action_queue.specs.declared.found.Found.TheVariants as found
use Rattle.action_queue.specs.declared.intent.Intent.{Intent}
use Rattle.action_queue.specs.declared.intent.Intent.TheVariants as intents
use Rattle.action_queue.specs.declared.outcome.Outcome.{Outcome}
use Rattle.action_queue.specs.declared.outcome.Outcome.TheVariants as outcomes
use Rattle.action_queue.specs.declared.outcome.Kind.{Kind}
use Rattle.action_queue.specs.declared.outcome.Kind.TheVariants as kinds
use Rattle.action_queue.specs.declared.queued.Queued.{Queued}
use Rattle.playback.specs.Course.{Said, Course, AtMoment, WasSaid}
use Rattle.book_laws.specs.InBox.{InBoxNow}
use Rattle.append_probe.specs.Marked.{at_least, marked}
use Rattle.book_laws.specs.Of.{tag_of}
use Rattle.book_laws.specs.Open.{intent_name, intent_validity}
use Rattle.book_laws.specs.Wanted.{IsAsked}

-- the action that is due has this
pub record OfDue (P : Action → Type 0) (b : Meaning) : Type 0 where
  pub queued : Queued
  pub there : due_action b.queue ≡ Some queued
  pub holds : P queued.action

-- the message that a flag action or a move is about
abbrev pub IsAbout : List Queued → Action → List ℕ → ℕ → ℕ → Type 0
IsAbout queue (actions.Flag target add flags) name validity uid = resolved queue target ≡ found.Real name validity uid
IsAbout queue (actions.Move target to) name validity uid = resolved queue target ≡ found.Real name validity uid
IsAbout queue (actions.Append to flags text id) name validity uid = ⊥

-- at a server the row of that message, or that there is none, was so
pub record RowIs (P : Option Row → Type 0) (queue : List Queued) (action : Action) (s : Server) : Type 0 where
  pub name : List ℕ
  pub validity : ℕ
  pub uid : ℕ
  pub about : IsAbout queue action name validity uid
  pub at_it : InBoxNow (λ box. P (server_row uid box)) name validity s.boxes

-- at a moment it was so
abbrev pub RowWas : (Action → Option Row → Type 0) → Meaning → Course → Type 0
RowWas P b c = OfDue (λ action. AtMoment (RowIs (P action) b.queue action) c) b

-- the message isn't there
abbrev pub NoRow : Action → Option Row → Type 0
NoRow action row = row ≡ None

-- the message is there
abbrev pub SomeRow : Action → Option Row → Type 0
SomeRow action None = ⊥
SomeRow action (Some row) = Unit {0}

-- the flags are as a flag action asks
abbrev pub IsSo : Action → Row → Type 0
IsSo (actions.Flag target add asked) row = IsAsked add asked row.flags
IsSo (actions.Move target to) row = ⊥
IsSo (actions.Append to flags text id) row = ⊥

-- the message is there, has a mod-sequence of which this is so, and its flags are as asked
abbrev pub RowSo : (ℕ → Type 0) → Action → Option Row → Type 0
RowSo P action None = ⊥
RowSo P action (Some row) = P row.modseq × IsSo action row

-- the same, and its flags aren't as asked
abbrev pub RowNotSo : (ℕ → Type 0) → Action → Option Row → Type 0
RowNotSo P action None = ⊥
RowNotSo P action (Some row) = P row.modseq × ¬ (IsSo action row)

-- the message is there with this mod-sequence
abbrev pub RowAt : ℕ → Action → Option Row → Type 0
RowAt m action None = ⊥
RowAt m action (Some row) = row.modseq ≡ m

-- the message isn't there, or has a mod-sequence above this one
abbrev pub RowPassed : ℕ → Action → Option Row → Type 0
RowPassed m action None = Unit {0}
RowPassed m action (Some row) = m < row.modseq

-- the command of the action that is due was carried out, and its reply, and the server before it, were so
abbrev pub WasCarried : (Action → Said → Type 0) → Meaning → Course → Type 0
WasCarried P b c = (q : Queued) × (due_action b.queue ≡ Some q)
    × WasSaid (λ e. (e.command.tag ≡ tag_of (suc (due b.queue)) q) × (is_mutating e.command.command ≡ true) × P q.action e) c

-- the UID of a command that changes a message that is there
abbrev pub IsCommandFor : Command → ℕ → Type 0
IsCommandFor commands.Capability named = ⊥
IsCommandFor (commands.Login account) named = ⊥
IsCommandFor (commands.Plain account) named = ⊥
IsCommandFor (commands.Enable rev2) named = ⊥
IsCommandFor (commands.Select name since) named = ⊥
IsCommandFor commands.FetchAll named = ⊥
IsCommandFor (commands.FetchRow uid) named = ⊥
IsCommandFor (commands.Search from id) named = ⊥
IsCommandFor (commands.FetchIds uids) named = ⊥
IsCommandFor (commands.FetchText uid) named = ⊥
IsCommandFor (commands.Store uid since add flags) named = uid ≡ named
IsCommandFor (commands.Shift uid to) named = uid ≡ named
IsCommandFor (commands.Copy uid to) named = ⊥
IsCommandFor (commands.Expunge uid) named = uid ≡ named
IsCommandFor (commands.Append to flags octets) named = ⊥
IsCommandFor commands.Logout named = ⊥

-- the code names the command's UID in MODIFIED
abbrev pub NamesModified : Command → Code → Type 0
NamesModified command codings.None = ⊥
NamesModified command (codings.Capability words) = ⊥
NamesModified command (codings.UidNext uid) = ⊥
NamesModified command (codings.UidValidity validity) = ⊥
NamesModified command (codings.PermanentFlags flags any) = ⊥
NamesModified command (codings.HighestModSeq modseq) = ⊥
NamesModified command codings.NoModSeq = ⊥
NamesModified command codings.UidNotSticky = ⊥
NamesModified command (codings.AppendUid validity uid) = ⊥
NamesModified command (codings.CopyUid validity source target) = ⊥
NamesModified command (codings.Modified uids) = (uid : ℕ) × IsCommandFor command uid × Member uids uid
NamesModified command codings.Closed = ⊥
NamesModified command codings.Other = ⊥

-- the completion was this one, and named no such UID in MODIFIED
abbrev pub EndedBy : Ending → Action → Said → Type 0
EndedBy ending action e = (e.reply.ending ≡ ending) × ¬ (NamesModified e.command.command e.reply.code)

-- a SELECT of this mailbox was answered so
abbrev pub WasSelected : List ℕ → (Replies → Type 0) → Course → Type 0
WasSelected name P c = WasSaid (λ e. ((since : Option Mark) × (e.command.command ≡ commands.Select name since)) × P e.reply) c

-- the reply tells this UIDVALIDITY and this UIDNEXT
abbrev pub TellsNext : ℕ → ℕ → Replies → Type 0
TellsNext validity uidnext r = (codes : Codes) × (told_codes r ≡ Ok codes) × (codes.validity ≡ validity) × (codes.uidnext ≡ uidnext)

-- the reply tells this UIDVALIDITY
abbrev pub TellsValidity : ℕ → Replies → Type 0
TellsValidity validity r = (codes : Codes) × (told_codes r ≡ Ok codes) × (codes.validity ≡ validity)

-- PERMANENTFLAGS lack an asked flag, and lack `\*` where that flag is a keyword: one without `\` (RFC 9051, sections 2.3.2 and 7.1)
pub record Lacks (asked permanent : List (List ℕ)) (any : Bool) : Type 0 where
  pub key : List ℕ
  pub is_asked : has asked key ≡ true
  pub lacks : has permanent key ≡ false
  pub no_star : is_keyword key ≡ true → any ≡ false

-- PERMANENTFLAGS of a code, with whether `\*` is among them
pub record Permanent : Type 0 where
  pub flags : List (List ℕ)
  pub any : Bool

-- the PERMANENTFLAGS that the code tells
abbrev pub permanent_in : Code → Option Permanent
permanent_in codings.None = None
permanent_in (codings.Capability words) = None
permanent_in (codings.UidNext uid) = None
permanent_in (codings.UidValidity validity) = None
permanent_in (codings.PermanentFlags flags any) = Some (record { flags = flags; any = any })
permanent_in (codings.HighestModSeq modseq) = None
permanent_in codings.NoModSeq = None
permanent_in codings.UidNotSticky = None
permanent_in (codings.AppendUid validity uid) = None
permanent_in (codings.CopyUid validity source target) = None
permanent_in (codings.Modified uids) = None
permanent_in codings.Closed = None
permanent_in codings.Other = None

-- of several PERMANENTFLAGS those that are told last
abbrev pub last_permanent : List Code → Option Permanent
last_permanent [] = None
last_permanent (code ∷ codes) = option_or (last_permanent codes) (permanent_in code)

-- the reply tells such PERMANENTFLAGS: the last ones behind CLOSED
abbrev pub TellsLack : List (List ℕ) → Replies → Type 0
TellsLack asked r = (told : Permanent) × (last_permanent (codes_in (behind_closed r.untagged) r.code) ≡ Some told) × Lacks asked told.flags told.any

-- a SELECT of the target's mailbox told so of the action's flags
abbrev pub WasRefused : List Queued → Course → Action → Type 0
WasRefused queue c (actions.Flag target add asked) =
    (name : List ℕ) × (validity : ℕ) × (uid : ℕ) × (resolved queue target ≡ found.Real name validity uid) × WasSelected name (TellsLack asked) c
WasRefused queue c (actions.Move target to) = ⊥
WasRefused queue c (actions.Append to flags text id) = ⊥

-- the target is the message that action k never makes
abbrev pub IsNever : List Queued → ℕ → Action → Type 0
IsNever queue k (actions.Flag target add flags) = is_never (resolved queue target) k ≡ true
IsNever queue k (actions.Move target to) = is_never (resolved queue target) k ≡ true
IsNever queue k (actions.Append to flags text id) = ⊥

-- the pending intent is a STORE with this mod-sequence
abbrev pub IsMark : Option Intent → ℕ → Type 0
IsMark None m = ⊥
IsMark (Some (intents.Store name validity uid modseq)) m = modseq ≡ m
IsMark (Some (intents.Shift from validity uid to)) m = ⊥
IsMark (Some (intents.Put to validity uidnext)) m = ⊥

-- two messages from the recorded UIDNEXT on have the append's Message-ID
pub record AreTwo (u v uidnext : ℕ) (id : List ℕ) (box : Mailbox) : Type 0 where
  pub apart : u ≢ v
  pub first : Contains (at_least uidnext (marked id box.messages)) u
  pub second : Contains (at_least uidnext (marked id box.messages)) v

-- at a moment there were two such messages for the pending intent of an append
abbrev pub TwoWere : ℕ → ℕ → Course → Option Intent → Action → Type 0
TwoWere u v c (Some (intents.Put to validity uidnext)) (actions.Append other flags text id) =
    AtMoment (λ s. InBoxNow (AreTwo u v uidnext id) to validity s.boxes) c
TwoWere u v c (Some (intents.Put to validity uidnext)) (actions.Flag target add flags) = ⊥
TwoWere u v c (Some (intents.Put to validity uidnext)) (actions.Move target other) = ⊥
TwoWere u v c (Some (intents.Store name validity uid modseq)) (actions.Flag target add flags) = ⊥
TwoWere u v c (Some (intents.Store name validity uid modseq)) (actions.Move target other) = ⊥
TwoWere u v c (Some (intents.Store name validity uid modseq)) (actions.Append other flags text id) = ⊥
TwoWere u v c (Some (intents.Shift from validity uid to)) (actions.Flag target add flags) = ⊥
TwoWere u v c (Some (intents.Shift from validity uid to)) (actions.Move target other) = ⊥
TwoWere u v c (Some (intents.Shift from validity uid to)) (actions.Append other flags text id) = ⊥
TwoWere u v c None (actions.Flag target add flags) = ⊥
TwoWere u v c None (actions.Move target other) = ⊥
TwoWere u v c None (actions.Append other flags text id) = ⊥

-- An intent was pending in the book with which the run began, its action is due still, and its try wasn't taken back since. So the pending intent
-- was recorded by an earlier run: this is `resumed` below.
abbrev pub is_open : Meaning → Meaning → Bool
is_open entry b = is_some entry.pending && ((due entry.queue == due b.queue) && (tries_due entry.queue == tries_due b.queue))

-- the intent was pending as the run began, and the action has as many deeds as it had as the connection was made: so no command that
-- was sent again took effect
pub record IsOpenStill (resumed : Bool) (b : Meaning) (c : Course) : Type 0 where
  pub open_then : resumed ≡ true
  pub as_many : length (ours (suc (due b.queue)) c.now.history) ≡ length (ours (suc (due b.queue)) c.first.history)

-- the mailbox of the message had a UIDVALIDITY at a moment that is above the one under which it is named
abbrev pub WasAbove : ℕ → ℕ → Meaning → Course → Type 0
WasAbove o n b c = OfDue (λ action. (name : List ℕ) × (uid : ℕ) × IsAbout b.queue action name o uid × (o < n)
    × AtMoment (λ s. InBoxNow (λ _. Unit {0}) name n s.boxes) c) b

-- the same of the mailbox of the pending intent
abbrev pub WasAboveIntent : ℕ → ℕ → Option Intent → Course → Type 0
WasAboveIntent o n None c = ⊥
WasAboveIntent o n (Some intent) c = (intent_validity intent ≡ o) × (o < n)
    × AtMoment (λ s. InBoxNow (λ _. Unit {0}) (intent_name intent) n s.boxes) c

-- Why the action that is due ended so. `resumed` says that its intent was pending as the run began.
abbrev pub WhyKind : Kind → Bool → Meaning → Course → Type 0
WhyKind kinds.MessageGone resumed b c = (resumed ≡ false) × RowWas NoRow b c
WhyKind kinds.AlreadySo resumed b c = (resumed ≡ false) × RowWas (RowSo (λ _. Unit {0})) b c
WhyKind (kinds.FlagsChanged m) resumed b c = RowWas (RowAt m) b c × WasCarried (λ action e. RowIs (RowPassed m action) b.queue action e.before) b c
WhyKind kinds.RefusedNo resumed b c = WasCarried (EndedBy endings.No) b c
WhyKind kinds.RefusedBad resumed b c = WasCarried (EndedBy endings.Bad) b c
WhyKind kinds.NotPermanent resumed b c = OfDue (WasRefused b.queue c) b
WhyKind (kinds.TargetUnknown k) resumed b c = OfDue (IsNever b.queue k) b
WhyKind kinds.FoundSo resumed b c = IsOpenStill resumed b c × ((m : ℕ) × IsMark b.pending m × RowWas (RowSo (λ k. k ≢ m)) b c)
WhyKind (kinds.StoreUnsure m f) resumed b c = IsOpenStill resumed b c × IsMark b.pending m × (f ≢ m) × RowWas (RowNotSo (λ k. k ≡ f)) b c
WhyKind kinds.SourceGone resumed b c = IsOpenStill resumed b c × RowWas NoRow b c
WhyKind kinds.GoneAfterLoss resumed b c = IsOpenStill resumed b c × RowWas NoRow b c
WhyKind (kinds.Ambiguous u v) resumed b c = IsOpenStill resumed b c × OfDue (TwoWere u v c b.pending) b
WhyKind (kinds.ValidityChanged o n) resumed b c = (resumed ≡ false) × WasAbove o n b c
WhyKind (kinds.ResetAfterLoss o n) resumed b c = IsOpenStill resumed b c × WasAboveIntent o n b.pending c

-- When the STORE of the pending intent was carried out, the message wasn't there, or had a mod-sequence above the intent's.
abbrev pub WasPassed : Option Intent → Meaning → Course → Type 0
WasPassed None b c = ⊥
WasPassed (Some (intents.Store name validity uid modseq)) b c =
    WasCarried (λ action e. RowIs (RowPassed modseq action) b.queue action e.before) b c
WasPassed (Some (intents.Shift from validity uid to)) b c = ⊥
WasPassed (Some (intents.Put to validity uidnext)) b c = ⊥

-- Why an intent of the action that is due was recorded: at a moment the row had the intent's mod-sequence and flags that weren't as
-- asked; the message that is to be moved was there; a SELECT told the UIDNEXT.
abbrev pub WhyIntent : Intent → Meaning → Course → Type 0
WhyIntent (intents.Store name validity uid modseq) b c = RowWas (RowNotSo (λ k. k ≡ modseq)) b c
WhyIntent (intents.Shift from validity uid to) b c = RowWas SomeRow b c
WhyIntent (intents.Put to validity uidnext) b c = WasSelected to (TellsNext validity uidnext) c

-- Why the action that is due ended so: a conflict has a reason, and what is done rests on the history alone (`Fits`).
abbrev pub WhyOutcome : Outcome → Bool → Meaning → Course → Type 0
WhyOutcome (outcomes.Done place) resumed b c = Unit {0}
WhyOutcome (outcomes.Conflict kind) resumed b c = WhyKind kind resumed b c

-- Why a run that began with the book `entry` recorded this event behind the book `b`: all that a turn of it has to cite. Its course is
-- one (`IsCourse`). What begins a journal, what is accepted and what is learned rests on nothing that was told of an action.
abbrev pub WhyEvent : Event → Meaning → Meaning → Course → Type 0
WhyEvent (events.Begin names) entry b c = Unit {0}
WhyEvent (events.Accept id action) entry b c = Unit {0}
WhyEvent (events.Intend id intent) entry b c = WhyIntent intent b c
WhyEvent (events.Settle id outcome) entry b c = WhyOutcome outcome (is_open entry b) b c
WhyEvent (events.Learn name delta) entry b c = Unit {0}
WhyEvent (events.Old id action outcome) entry b c = ⊥
WhyEvent (events.Reset name kept told) entry b c = (kept < told) × WasSelected name (TellsValidity told) c
WhyEvent (events.Withdraw id tries) entry b c = WasPassed b.pending b c
