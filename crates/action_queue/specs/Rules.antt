-- The rules of the book (this client's profile): each as a test of its own, and the first one that an event breaks.
use Rattle.std.specs.Prelude.{ℕ, ◌+◌, Bool, true, false, not, ◌&&◌, ◌||◌, ◌==◌, cond, nat_lt, nat_le, List, [], ◌∷◌, length, bytes_eq}
use Rattle.std.specs.Prelude.{Option, Some, None, is_some, is_none}
use Rattle.mail_base.specs.declared.limits.TheConstants.{MAX_ACTIONS, MAX_ROWS}
use Rattle.mailbox_cache.specs.declared.cache.Cache.{Cache}
use Rattle.mailbox_cache.specs.declared.delta.Delta.{Delta}
use Rattle.action_queue.specs.declared.target.Target.{Target}
use Rattle.action_queue.specs.declared.target.Target.TheVariants as targets
use Rattle.action_queue.specs.declared.action.Action.{Action}
use Rattle.action_queue.specs.declared.action.Action.TheVariants as actions
use Rattle.action_queue.specs.declared.found.Found.{Found}
use Rattle.action_queue.specs.declared.found.Found.TheVariants as found
use Rattle.action_queue.specs.declared.intent.Intent.{Intent}
use Rattle.action_queue.specs.declared.intent.Intent.TheVariants as intents
use Rattle.action_queue.specs.declared.outcome.Place.{Place}
use Rattle.action_queue.specs.declared.outcome.Kind.{Kind}
use Rattle.action_queue.specs.declared.outcome.Kind.TheVariants as kinds
use Rattle.action_queue.specs.declared.outcome.Outcome.{Outcome}
use Rattle.action_queue.specs.declared.outcome.Outcome.TheVariants as outcomes
use Rattle.action_queue.specs.declared.queued.Queued.{Queued}
use Rattle.action_queue.specs.declared.event.Event.{Event}
use Rattle.action_queue.specs.declared.event.Event.TheVariants as events
use Rattle.action_queue.specs.declared.rule.Rule.{Rule}
use Rattle.action_queue.specs.declared.rule.Rule.TheVariants as rule
use Rattle.action_queue.specs.declared.rule.Version.{Version}
use Rattle.action_queue.specs.declared.rule.Version.TheVariants as versions
use Rattle.action_queue.specs.declared.book.Known.{Known}
use Rattle.action_queue.specs.Queues.{due, due_action}
use Rattle.action_queue.specs.Targets.{action_at, resolved, is_at, is_never}
use Rattle.action_queue.specs.Book.{Meaning, known_at, cache_at, learned}

-- the name isn't one of the book's
abbrev pub is_unknown : List Known → List ℕ → Bool
is_unknown boxes name = is_none (known_at name boxes)

-- the target's mailbox isn't one of the book's
abbrev pub is_unknown_target : List Known → Target → Bool
is_unknown_target boxes (targets.Real name validity uid) = is_unknown boxes name
is_unknown_target boxes (targets.Dummy n) = false

-- a mailbox of the action isn't one of the book's
abbrev pub is_unknown_action : List Known → Action → Bool
is_unknown_action boxes (actions.Flag target add flags) = is_unknown_target boxes target
is_unknown_action boxes (actions.Move target to) = is_unknown_target boxes target || is_unknown boxes to
is_unknown_action boxes (actions.Append to flags text id) = is_unknown boxes to

-- a mailbox of the intent isn't one of the book's
abbrev pub is_unknown_intent : List Known → Intent → Bool
is_unknown_intent boxes (intents.Store name validity uid modseq) = is_unknown boxes name
is_unknown_intent boxes (intents.Shift from validity uid to) = is_unknown boxes from || is_unknown boxes to
is_unknown_intent boxes (intents.Put to validity uidnext) = is_unknown boxes to

-- the action puts a message into a mailbox
abbrev pub makes : Action → Bool
makes (actions.Flag target add flags) = false
makes (actions.Move target to) = true
makes (actions.Append to flags text id) = true

abbrev pub makes_queued : Option Queued → Bool
makes_queued None = false
makes_queued (Some q) = makes q.action

-- a dummy that names no move or append of the queue
abbrev pub is_bad_target : List Queued → Target → Bool
is_bad_target queue (targets.Real name validity uid) = false
is_bad_target queue (targets.Dummy n) = not (makes_queued (action_at queue n))

abbrev pub is_bad_action : List Queued → Action → Bool
is_bad_action queue (actions.Flag target add flags) = is_bad_target queue target
is_bad_action queue (actions.Move target to) = is_bad_target queue target
is_bad_action queue (actions.Append to flags text id) = false

-- the intent is one for this action: its kind, what the target resolves to, and where the message goes
abbrev pub suits : List Queued → Action → Intent → Bool
suits queue (actions.Flag target add flags) (intents.Store name validity uid modseq) = is_at (resolved queue target) name validity uid
suits queue (actions.Flag target add flags) (intents.Shift from validity uid to) = false
suits queue (actions.Flag target add flags) (intents.Put to validity uidnext) = false
suits queue (actions.Move target to) (intents.Store name validity uid modseq) = false
suits queue (actions.Move target to) (intents.Shift from validity uid other) = is_at (resolved queue target) from validity uid && bytes_eq other to
suits queue (actions.Move target to) (intents.Put other validity uidnext) = false
suits queue (actions.Append to flags text id) (intents.Store name validity uid modseq) = false
suits queue (actions.Append to flags text id) (intents.Shift from validity uid other) = false
suits queue (actions.Append to flags text id) (intents.Put other validity uidnext) = bytes_eq other to

abbrev pub is_unsuited : List Queued → Option Queued → Intent → Bool
is_unsuited queue None intent = false
is_unsuited queue (Some q) intent = not (suits queue q.action intent)

-- kinds that a command's reply, or its loss, gives
abbrev pub follows_intent : Kind → Bool
follows_intent kinds.MessageGone = false
follows_intent kinds.AlreadySo = false
follows_intent (kinds.FlagsChanged m) = true
follows_intent kinds.RefusedNo = true
follows_intent kinds.RefusedBad = true
follows_intent kinds.NotPermanent = false
follows_intent (kinds.TargetUnknown k) = false
follows_intent kinds.FoundSo = true
follows_intent (kinds.StoreUnsure m f) = true
follows_intent kinds.SourceGone = true
follows_intent kinds.GoneAfterLoss = true
follows_intent (kinds.Ambiguous u v) = true
follows_intent (kinds.ValidityChanged o n) = false
follows_intent (kinds.ResetAfterLoss o n) = true

-- kinds that are told before anything is sent
abbrev pub precedes_intent : Kind → Bool
precedes_intent kinds.MessageGone = false
precedes_intent kinds.AlreadySo = true
precedes_intent (kinds.FlagsChanged m) = false
precedes_intent kinds.RefusedNo = false
precedes_intent kinds.RefusedBad = false
precedes_intent kinds.NotPermanent = true
precedes_intent (kinds.TargetUnknown k) = true
precedes_intent kinds.FoundSo = false
precedes_intent (kinds.StoreUnsure m f) = false
precedes_intent kinds.SourceGone = false
precedes_intent kinds.GoneAfterLoss = false
precedes_intent (kinds.Ambiguous u v) = false
precedes_intent (kinds.ValidityChanged o n) = true
precedes_intent (kinds.ResetAfterLoss o n) = false

abbrev pub rests_on_intent : Outcome → Bool
rests_on_intent (outcomes.Done place) = true
rests_on_intent (outcomes.Conflict kind) = follows_intent kind

abbrev pub comes_before_intent : Outcome → Bool
comes_before_intent (outcomes.Done place) = false
comes_before_intent (outcomes.Conflict kind) = precedes_intent kind

abbrev pub is_misplaced_by : Action → Option Place → Bool
is_misplaced_by (actions.Flag target add flags) place = is_some place
is_misplaced_by (actions.Move target to) place = is_none place
is_misplaced_by (actions.Append to flags text id) place = is_none place

-- a flag action done with a place, or a move or an append done without
abbrev pub is_misplaced_of : Action → Outcome → Bool
is_misplaced_of action (outcomes.Done place) = is_misplaced_by action place
is_misplaced_of action (outcomes.Conflict kind) = false

abbrev pub is_misplaced : Option Queued → Outcome → Bool
is_misplaced None outcome = false
is_misplaced (Some q) outcome = is_misplaced_of q.action outcome

-- the pending intent is a STORE that names this mod-sequence
abbrev pub names_mark : Option Intent → ℕ → Bool
names_mark None m = false
names_mark (Some (intents.Store name validity uid modseq)) m = modseq == m
names_mark (Some (intents.Shift from validity uid to)) m = false
names_mark (Some (intents.Put to validity uidnext)) m = false

-- what a target resolves to has this UIDVALIDITY
abbrev pub is_found_under : Found → ℕ → Bool
is_found_under (found.Real name validity uid) o = validity == o
is_found_under (found.NotYet by) o = false
is_found_under (found.Never by) o = false

abbrev pub intent_validity : Intent → ℕ
intent_validity (intents.Store name validity uid modseq) = validity
intent_validity (intents.Shift from validity uid to) = validity
intent_validity (intents.Put to validity uidnext) = validity

-- the pending intent names this UIDVALIDITY
abbrev pub names_validity : Option Intent → ℕ → Bool
names_validity None o = false
names_validity (Some intent) o = intent_validity intent == o

-- which kinds a flag action ends as, and with which numbers
abbrev pub fits_flag : Meaning → Target → Kind → Bool
fits_flag b target kinds.MessageGone = true
fits_flag b target kinds.AlreadySo = true
fits_flag b target (kinds.FlagsChanged m) = names_mark b.pending m
fits_flag b target kinds.RefusedNo = true
fits_flag b target kinds.RefusedBad = true
fits_flag b target kinds.NotPermanent = true
fits_flag b target (kinds.TargetUnknown k) = is_never (resolved b.queue target) k
fits_flag b target kinds.FoundSo = true
fits_flag b target (kinds.StoreUnsure m f) = names_mark b.pending m
fits_flag b target kinds.SourceGone = false
fits_flag b target kinds.GoneAfterLoss = true
fits_flag b target (kinds.Ambiguous u v) = false
fits_flag b target (kinds.ValidityChanged o n) = is_found_under (resolved b.queue target) o && nat_lt o n
fits_flag b target (kinds.ResetAfterLoss o n) = names_validity b.pending o && nat_lt o n

-- which kinds a move ends as
abbrev pub fits_move : Meaning → Target → Kind → Bool
fits_move b target kinds.MessageGone = true
fits_move b target kinds.AlreadySo = false
fits_move b target (kinds.FlagsChanged m) = false
fits_move b target kinds.RefusedNo = true
fits_move b target kinds.RefusedBad = true
fits_move b target kinds.NotPermanent = false
fits_move b target (kinds.TargetUnknown k) = is_never (resolved b.queue target) k
fits_move b target kinds.FoundSo = false
fits_move b target (kinds.StoreUnsure m f) = false
fits_move b target kinds.SourceGone = true
fits_move b target kinds.GoneAfterLoss = false
fits_move b target (kinds.Ambiguous u v) = false
fits_move b target (kinds.ValidityChanged o n) = is_found_under (resolved b.queue target) o && nat_lt o n
fits_move b target (kinds.ResetAfterLoss o n) = names_validity b.pending o && nat_lt o n

-- which kinds an append ends as
abbrev pub fits_append : Meaning → Kind → Bool
fits_append b kinds.MessageGone = false
fits_append b kinds.AlreadySo = false
fits_append b (kinds.FlagsChanged m) = false
fits_append b kinds.RefusedNo = true
fits_append b kinds.RefusedBad = true
fits_append b kinds.NotPermanent = false
fits_append b (kinds.TargetUnknown k) = false
fits_append b kinds.FoundSo = false
fits_append b (kinds.StoreUnsure m f) = false
fits_append b kinds.SourceGone = false
fits_append b kinds.GoneAfterLoss = false
fits_append b (kinds.Ambiguous u v) = true
fits_append b (kinds.ValidityChanged o n) = false
fits_append b (kinds.ResetAfterLoss o n) = names_validity b.pending o && nat_lt o n

abbrev pub fits : Meaning → Action → Kind → Bool
fits b (actions.Flag target add flags) kind = fits_flag b target kind
fits b (actions.Move target to) kind = fits_move b target kind
fits b (actions.Append to flags text id) kind = fits_append b kind

-- a conflict of a kind that isn't one for the action that is due
abbrev pub is_misfit_of : Meaning → Action → Outcome → Bool
is_misfit_of b action (outcomes.Done place) = false
is_misfit_of b action (outcomes.Conflict kind) = not (fits b action kind)

abbrev pub is_misfit : Meaning → Option Queued → Outcome → Bool
is_misfit b None outcome = false
is_misfit b (Some q) outcome = is_misfit_of b q.action outcome

abbrev pub is_wrong_whole : Option Cache → Delta → Bool
is_wrong_whole None delta = not delta.whole
is_wrong_whole (Some cache) delta = delta.whole

abbrev pub is_wrong_validity : Option Cache → Delta → Bool
is_wrong_validity None delta = false
is_wrong_validity (Some cache) delta = not (cache.validity == delta.validity)

abbrev pub is_lower_mark : Option Cache → Delta → Bool
is_lower_mark None delta = false
is_lower_mark (Some cache) delta = nat_lt delta.highest cache.highest

-- the first rule that a delta breaks on a known mailbox with this cache
abbrev pub delta_of : Option Cache → Delta → Option Rule
delta_of cache delta =
    cond (is_wrong_whole cache delta) (Some rule.WrongWhole) (cond (is_wrong_validity cache delta) (Some rule.WrongValidity)
    (cond (is_lower_mark cache delta) (Some rule.LowerMark) (cond (nat_lt MAX_ROWS (length (learned cache delta).rows)) (Some rule.TooManyRows) None)))

-- whether an event breaks a rule that speaks of accepted actions
abbrev pub breaks_accept : Meaning → ℕ → Action → Rule → Bool
breaks_accept b id action rule.BeginAgain = false
breaks_accept b id action rule.WrongNumber = not (id == length b.queue + 1)
breaks_accept b id action rule.UnknownBox = is_unknown_action b.boxes action
breaks_accept b id action rule.BadTarget = is_bad_action b.queue action
breaks_accept b id action rule.TooMany = nat_le MAX_ACTIONS (length b.queue)
breaks_accept b id action rule.NotAllSettled = false
breaks_accept b id action rule.PendingAlready = false
breaks_accept b id action rule.NothingWaiting = false
breaks_accept b id action rule.WrongAction = false
breaks_accept b id action rule.WrongIntent = false
breaks_accept b id action rule.WrongTries = false
breaks_accept b id action rule.NeedsIntent = false
breaks_accept b id action rule.NoIntentDue = false
breaks_accept b id action rule.WrongPlace = false
breaks_accept b id action rule.WrongKind = false
breaks_accept b id action rule.WrongWhole = false
breaks_accept b id action rule.WrongValidity = false
breaks_accept b id action rule.LowerMark = false
breaks_accept b id action rule.TooManyRows = false

-- which kinds a flag action may have ended as, whatever was sent
abbrev pub fits_old_flag : Meaning → Target → Kind → Bool
fits_old_flag b target kinds.MessageGone = true
fits_old_flag b target kinds.AlreadySo = true
fits_old_flag b target (kinds.FlagsChanged m) = true
fits_old_flag b target kinds.RefusedNo = true
fits_old_flag b target kinds.RefusedBad = true
fits_old_flag b target kinds.NotPermanent = true
fits_old_flag b target (kinds.TargetUnknown k) = is_never (resolved b.queue target) k
fits_old_flag b target kinds.FoundSo = true
fits_old_flag b target (kinds.StoreUnsure m f) = true
fits_old_flag b target kinds.SourceGone = false
fits_old_flag b target kinds.GoneAfterLoss = true
fits_old_flag b target (kinds.Ambiguous u v) = false
fits_old_flag b target (kinds.ValidityChanged o n) = is_found_under (resolved b.queue target) o && nat_lt o n
fits_old_flag b target (kinds.ResetAfterLoss o n) = nat_lt o n

-- which kinds a move may have ended as
abbrev pub fits_old_move : Meaning → Target → Kind → Bool
fits_old_move b target kinds.MessageGone = true
fits_old_move b target kinds.AlreadySo = false
fits_old_move b target (kinds.FlagsChanged m) = false
fits_old_move b target kinds.RefusedNo = true
fits_old_move b target kinds.RefusedBad = true
fits_old_move b target kinds.NotPermanent = false
fits_old_move b target (kinds.TargetUnknown k) = is_never (resolved b.queue target) k
fits_old_move b target kinds.FoundSo = false
fits_old_move b target (kinds.StoreUnsure m f) = false
fits_old_move b target kinds.SourceGone = true
fits_old_move b target kinds.GoneAfterLoss = false
fits_old_move b target (kinds.Ambiguous u v) = false
fits_old_move b target (kinds.ValidityChanged o n) = is_found_under (resolved b.queue target) o && nat_lt o n
fits_old_move b target (kinds.ResetAfterLoss o n) = nat_lt o n

-- which kinds an append may have ended as
abbrev pub fits_old_append : Kind → Bool
fits_old_append kinds.MessageGone = false
fits_old_append kinds.AlreadySo = false
fits_old_append (kinds.FlagsChanged m) = false
fits_old_append kinds.RefusedNo = true
fits_old_append kinds.RefusedBad = true
fits_old_append kinds.NotPermanent = false
fits_old_append (kinds.TargetUnknown k) = false
fits_old_append kinds.FoundSo = false
fits_old_append (kinds.StoreUnsure m f) = false
fits_old_append kinds.SourceGone = false
fits_old_append kinds.GoneAfterLoss = false
fits_old_append (kinds.Ambiguous u v) = true
fits_old_append (kinds.ValidityChanged o n) = false
fits_old_append (kinds.ResetAfterLoss o n) = nat_lt o n

abbrev pub fits_old : Meaning → Action → Kind → Bool
fits_old b (actions.Flag target add flags) kind = fits_old_flag b target kind
fits_old b (actions.Move target to) kind = fits_old_move b target kind
fits_old b (actions.Append to flags text id) kind = fits_old_append kind

-- a conflict of a kind as which the action can't have ended
abbrev pub is_misfit_old : Meaning → Action → Outcome → Bool
is_misfit_old b action (outcomes.Done place) = false
is_misfit_old b action (outcomes.Conflict kind) = not (fits_old b action kind)

-- whether an event breaks a rule that speaks of an action that ended
abbrev pub breaks_old : Meaning → ℕ → Action → Outcome → Rule → Bool
breaks_old b id action outcome rule.BeginAgain = false
breaks_old b id action outcome rule.WrongNumber = not (id == length b.queue + 1)
breaks_old b id action outcome rule.UnknownBox = is_unknown_action b.boxes action
breaks_old b id action outcome rule.BadTarget = is_bad_action b.queue action
breaks_old b id action outcome rule.TooMany = nat_le MAX_ACTIONS (length b.queue)
breaks_old b id action outcome rule.NotAllSettled = is_some (due_action b.queue)
breaks_old b id action outcome rule.PendingAlready = false
breaks_old b id action outcome rule.NothingWaiting = false
breaks_old b id action outcome rule.WrongAction = false
breaks_old b id action outcome rule.WrongIntent = false
breaks_old b id action outcome rule.WrongTries = false
breaks_old b id action outcome rule.NeedsIntent = false
breaks_old b id action outcome rule.NoIntentDue = false
breaks_old b id action outcome rule.WrongPlace = is_misplaced_of action outcome
breaks_old b id action outcome rule.WrongKind = is_misfit_old b action outcome
breaks_old b id action outcome rule.WrongWhole = false
breaks_old b id action outcome rule.WrongValidity = false
breaks_old b id action outcome rule.LowerMark = false
breaks_old b id action outcome rule.TooManyRows = false

-- the same of intents
abbrev pub breaks_intend : Meaning → ℕ → Intent → Rule → Bool
breaks_intend b id intent rule.BeginAgain = false
breaks_intend b id intent rule.WrongNumber = false
breaks_intend b id intent rule.UnknownBox = is_unknown_intent b.boxes intent
breaks_intend b id intent rule.BadTarget = false
breaks_intend b id intent rule.TooMany = false
breaks_intend b id intent rule.NotAllSettled = false
breaks_intend b id intent rule.PendingAlready = is_some b.pending
breaks_intend b id intent rule.NothingWaiting = is_none (due_action b.queue)
breaks_intend b id intent rule.WrongAction = not (id == due b.queue + 1)
breaks_intend b id intent rule.WrongIntent = is_unsuited b.queue (due_action b.queue) intent
breaks_intend b id intent rule.WrongTries = false
breaks_intend b id intent rule.NeedsIntent = false
breaks_intend b id intent rule.NoIntentDue = false
breaks_intend b id intent rule.WrongPlace = false
breaks_intend b id intent rule.WrongKind = false
breaks_intend b id intent rule.WrongWhole = false
breaks_intend b id intent rule.WrongValidity = false
breaks_intend b id intent rule.LowerMark = false
breaks_intend b id intent rule.TooManyRows = false

-- In a second version flags-changed is no outcome while a further try is left: two were taken back before it.
abbrev pub is_early_in : ℕ → Outcome → Bool
is_early_in tries (outcomes.Done place) = false
is_early_in tries (outcomes.Conflict kinds.MessageGone) = false
is_early_in tries (outcomes.Conflict kinds.AlreadySo) = false
is_early_in tries (outcomes.Conflict (kinds.FlagsChanged m)) = not (tries == 2)
is_early_in tries (outcomes.Conflict kinds.RefusedNo) = false
is_early_in tries (outcomes.Conflict kinds.RefusedBad) = false
is_early_in tries (outcomes.Conflict kinds.NotPermanent) = false
is_early_in tries (outcomes.Conflict (kinds.TargetUnknown k)) = false
is_early_in tries (outcomes.Conflict kinds.FoundSo) = false
is_early_in tries (outcomes.Conflict (kinds.StoreUnsure m f)) = false
is_early_in tries (outcomes.Conflict kinds.SourceGone) = false
is_early_in tries (outcomes.Conflict kinds.GoneAfterLoss) = false
is_early_in tries (outcomes.Conflict (kinds.Ambiguous u v)) = false
is_early_in tries (outcomes.Conflict (kinds.ValidityChanged o n)) = false
is_early_in tries (outcomes.Conflict (kinds.ResetAfterLoss o n)) = false

abbrev pub is_early : Version → Option Queued → Outcome → Bool
is_early versions.First q outcome = false
is_early versions.Second None outcome = false
is_early versions.Second (Some q) outcome = is_early_in q.tries outcome

-- the same of outcomes
abbrev pub breaks_settle : Version → Meaning → ℕ → Outcome → Rule → Bool
breaks_settle version b id outcome rule.BeginAgain = false
breaks_settle version b id outcome rule.WrongNumber = false
breaks_settle version b id outcome rule.UnknownBox = false
breaks_settle version b id outcome rule.BadTarget = false
breaks_settle version b id outcome rule.TooMany = false
breaks_settle version b id outcome rule.NotAllSettled = false
breaks_settle version b id outcome rule.PendingAlready = false
breaks_settle version b id outcome rule.NothingWaiting = is_none (due_action b.queue)
breaks_settle version b id outcome rule.WrongAction = not (id == due b.queue + 1)
breaks_settle version b id outcome rule.WrongIntent = false
breaks_settle version b id outcome rule.WrongTries = false
breaks_settle version b id outcome rule.NeedsIntent = is_none b.pending && rests_on_intent outcome
breaks_settle version b id outcome rule.NoIntentDue = is_some b.pending && comes_before_intent outcome
breaks_settle version b id outcome rule.WrongPlace = is_misplaced (due_action b.queue) outcome
breaks_settle version b id outcome rule.WrongKind = is_misfit b (due_action b.queue) outcome || is_early version (due_action b.queue) outcome
breaks_settle version b id outcome rule.WrongWhole = false
breaks_settle version b id outcome rule.WrongValidity = false
breaks_settle version b id outcome rule.LowerMark = false
breaks_settle version b id outcome rule.TooManyRows = false

-- the same of what a resynchronisation told
abbrev pub breaks_learn : Meaning → List ℕ → Delta → Rule → Bool
breaks_learn b name delta rule.BeginAgain = false
breaks_learn b name delta rule.WrongNumber = false
breaks_learn b name delta rule.UnknownBox = is_unknown b.boxes name
breaks_learn b name delta rule.BadTarget = false
breaks_learn b name delta rule.TooMany = false
breaks_learn b name delta rule.NotAllSettled = false
breaks_learn b name delta rule.PendingAlready = false
breaks_learn b name delta rule.NothingWaiting = false
breaks_learn b name delta rule.WrongAction = false
breaks_learn b name delta rule.WrongIntent = false
breaks_learn b name delta rule.WrongTries = false
breaks_learn b name delta rule.NeedsIntent = false
breaks_learn b name delta rule.NoIntentDue = false
breaks_learn b name delta rule.WrongPlace = false
breaks_learn b name delta rule.WrongKind = false
breaks_learn b name delta rule.WrongWhole = is_wrong_whole (cache_at name b.boxes) delta
breaks_learn b name delta rule.WrongValidity = is_wrong_validity (cache_at name b.boxes) delta
breaks_learn b name delta rule.LowerMark = is_lower_mark (cache_at name b.boxes) delta
breaks_learn b name delta rule.TooManyRows = nat_lt MAX_ROWS (length (learned (cache_at name b.boxes) delta).rows)

-- A cache that is to be taken away isn't there, or has another UIDVALIDITY than is said, or none below the one that was told.
abbrev pub is_wrong_reset : Option Cache → ℕ → ℕ → Bool
is_wrong_reset None kept told = true
is_wrong_reset (Some cache) kept told = not (cache.validity == kept) || nat_le told kept

-- the same of a cache that is taken away
abbrev pub breaks_reset : Meaning → List ℕ → ℕ → ℕ → Rule → Bool
breaks_reset b name kept told rule.BeginAgain = false
breaks_reset b name kept told rule.WrongNumber = false
breaks_reset b name kept told rule.UnknownBox = is_unknown b.boxes name
breaks_reset b name kept told rule.BadTarget = false
breaks_reset b name kept told rule.TooMany = false
breaks_reset b name kept told rule.NotAllSettled = false
breaks_reset b name kept told rule.PendingAlready = false
breaks_reset b name kept told rule.NothingWaiting = false
breaks_reset b name kept told rule.WrongAction = false
breaks_reset b name kept told rule.WrongIntent = false
breaks_reset b name kept told rule.WrongTries = false
breaks_reset b name kept told rule.NeedsIntent = false
breaks_reset b name kept told rule.NoIntentDue = false
breaks_reset b name kept told rule.WrongPlace = false
breaks_reset b name kept told rule.WrongKind = false
breaks_reset b name kept told rule.WrongWhole = false
breaks_reset b name kept told rule.WrongValidity = is_wrong_reset (cache_at name b.boxes) kept told
breaks_reset b name kept told rule.LowerMark = false
breaks_reset b name kept told rule.TooManyRows = false

-- the action that is due changes no flags
abbrev pub is_no_flag_of : Action → Bool
is_no_flag_of (actions.Flag target add flags) = false
is_no_flag_of (actions.Move target to) = true
is_no_flag_of (actions.Append to flags text id) = true

abbrev pub is_no_flag : Option Queued → Bool
is_no_flag None = false
is_no_flag (Some q) = is_no_flag_of q.action

-- While an intent is pending one try more was taken back; without one, as where a book is told anew, those so far.
abbrev pub is_no_turn : Option Intent → ℕ → ℕ → Bool
is_no_turn None old tries = not (old == 0)
is_no_turn (Some intent) old tries = not (tries == old + 1)

-- only two tries are taken back, one behind the other
abbrev pub is_wrong_number : Option Intent → ℕ → ℕ → Bool
is_wrong_number pending old tries = not (tries == 1 || tries == 2) || is_no_turn pending old tries

abbrev pub is_wrong_turn : Option Queued → Option Intent → ℕ → Bool
is_wrong_turn None pending tries = false
is_wrong_turn (Some q) pending tries = is_wrong_number pending q.tries tries

-- the number of tries isn't one that may come; a first version knows none
abbrev pub is_wrong_tries : Version → Meaning → ℕ → Bool
is_wrong_tries versions.First b tries = true
is_wrong_tries versions.Second b tries = is_wrong_turn (due_action b.queue) b.pending tries

-- the same of a command that is taken back, since it had no effect
abbrev pub breaks_withdraw : Version → Meaning → ℕ → ℕ → Rule → Bool
breaks_withdraw version b id tries rule.BeginAgain = false
breaks_withdraw version b id tries rule.WrongNumber = false
breaks_withdraw version b id tries rule.UnknownBox = false
breaks_withdraw version b id tries rule.BadTarget = false
breaks_withdraw version b id tries rule.TooMany = false
breaks_withdraw version b id tries rule.NotAllSettled = false
breaks_withdraw version b id tries rule.PendingAlready = false
breaks_withdraw version b id tries rule.NothingWaiting = is_none (due_action b.queue)
breaks_withdraw version b id tries rule.WrongAction = not (id == due b.queue + 1)
breaks_withdraw version b id tries rule.WrongIntent = is_no_flag (due_action b.queue)
breaks_withdraw version b id tries rule.WrongTries = is_wrong_tries version b tries
breaks_withdraw version b id tries rule.NeedsIntent = false
breaks_withdraw version b id tries rule.NoIntentDue = false
breaks_withdraw version b id tries rule.WrongPlace = false
breaks_withdraw version b id tries rule.WrongKind = false
breaks_withdraw version b id tries rule.WrongWhole = false
breaks_withdraw version b id tries rule.WrongValidity = false
breaks_withdraw version b id tries rule.LowerMark = false
breaks_withdraw version b id tries rule.TooManyRows = false

-- a book has begun, so it never begins again
abbrev pub breaks_begin : Rule → Bool
breaks_begin rule.BeginAgain = true
breaks_begin rule.WrongNumber = false
breaks_begin rule.UnknownBox = false
breaks_begin rule.BadTarget = false
breaks_begin rule.TooMany = false
breaks_begin rule.NotAllSettled = false
breaks_begin rule.PendingAlready = false
breaks_begin rule.NothingWaiting = false
breaks_begin rule.WrongAction = false
breaks_begin rule.WrongIntent = false
breaks_begin rule.WrongTries = false
breaks_begin rule.NeedsIntent = false
breaks_begin rule.NoIntentDue = false
breaks_begin rule.WrongPlace = false
breaks_begin rule.WrongKind = false
breaks_begin rule.WrongWhole = false
breaks_begin rule.WrongValidity = false
breaks_begin rule.LowerMark = false
breaks_begin rule.TooManyRows = false

-- whether an event breaks a rule of a journal of this version, on this book
abbrev pub breaks : Version → Meaning → Event → Rule → Bool
breaks version b (events.Begin names) rule = breaks_begin rule
breaks version b (events.Accept id action) rule = breaks_accept b id action rule
breaks version b (events.Intend id intent) rule = breaks_intend b id intent rule
breaks version b (events.Settle id outcome) rule = breaks_settle version b id outcome rule
breaks version b (events.Learn name delta) rule = breaks_learn b name delta rule
breaks version b (events.Old id action outcome) rule = breaks_old b id action outcome rule
breaks version b (events.Reset name kept told) rule = breaks_reset b name kept told rule
breaks version b (events.Withdraw id tries) rule = breaks_withdraw version b id tries rule

-- the rules in the order in which they are tried
abbrev pub rules_in_order : List Rule
rules_in_order =
    rule.BeginAgain ∷ rule.WrongNumber ∷ rule.UnknownBox ∷ rule.BadTarget ∷ rule.TooMany ∷ rule.NotAllSettled ∷ rule.PendingAlready
    ∷ rule.NothingWaiting ∷ rule.WrongAction ∷ rule.WrongIntent ∷ rule.WrongTries ∷ rule.NeedsIntent ∷ rule.NoIntentDue
    ∷ rule.WrongPlace ∷ rule.WrongKind ∷ rule.WrongWhole ∷ rule.WrongValidity ∷ rule.LowerMark ∷ rule.TooManyRows ∷ []

abbrev pub first_of : (Rule → Bool) → List Rule → Option Rule
first_of broken [] = None
first_of broken (r ∷ rs) = cond (broken r) (Some r) (first_of broken rs)

-- the first rule that the event breaks
abbrev pub first_broken : Version → Meaning → Event → Option Rule
first_broken version b event = first_of (breaks version b event) rules_in_order
