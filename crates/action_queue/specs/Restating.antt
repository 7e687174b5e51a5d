-- A book that is told anew by events: how its actions are (this client's profile of RFC 4549, section 4.2).
use Rattle.std.specs.Prelude.{◌≡◌, ℕ, zero, suc, ◌≤◌, Bool, true, false, List, [], ◌∷◌, ◌++◌, length, map, Option, Some, None, ⊤}
use Rattle.mail_base.specs.declared.limits.TheConstants.{MAX_ACTIONS, MAX_ROWS}
use Rattle.mailbox_cache.specs.Rows.{AllBelow, Rises, put_rows}
use Rattle.mailbox_cache.specs.declared.cache.Cache.{Cache}
use Rattle.mailbox_cache.specs.declared.delta.Delta.{Delta}
use Rattle.mailbox_cache.specs.declared.row.Row.{Row}
use Rattle.action_queue.specs.Book.{Meaning, after, begun, cache_at, put_cache}
use Rattle.action_queue.specs.Events.{AreNames}
use Rattle.action_queue.specs.Queues.{due, due_action, untried, tries_due, IsInOrder}
use Rattle.action_queue.specs.Rules.{is_unknown, is_unknown_action, is_unknown_intent, suits, is_bad_action, is_misplaced_of, is_misfit_old}
use Rattle.action_queue.specs.Rules.{is_no_flag_of, first_broken}
use Rattle.action_queue.specs.Writable.{IsWritable, IsWritableAction, HaveFewFlags}
use Rattle.action_queue.specs.declared.action.Action.{Action}
use Rattle.action_queue.specs.declared.book.Known.{Known}
use Rattle.action_queue.specs.declared.event.Event.{Event}
use Rattle.action_queue.specs.declared.event.Event.TheVariants as events
use Rattle.action_queue.specs.declared.intent.Intent.{Intent}
use Rattle.action_queue.specs.declared.outcome.Outcome.{Outcome}
use Rattle.action_queue.specs.declared.queued.Queued.{Queued}
use Rattle.action_queue.specs.declared.rule.Version.{Version}
use Rattle.action_queue.specs.declared.rule.Version.TheVariants as versions

-- the events may come one behind the other, each has a record, and they make this of a book
abbrev pub FoldsTo : Version → Meaning → List Event → Meaning → Type 0
FoldsTo version b [] c = c ≡ b
FoldsTo version b (event ∷ events) c = (first_broken version b event ≡ None) × IsWritable event × FoldsTo version (after b event) events c

-- the event that tells an action anew
abbrev pub action_event : ℕ → Action → Option Outcome → Event
action_event id action None = events.Accept id action
action_event id action (Some outcome) = events.Old id action outcome

-- those of a queue's actions, behind so many others
abbrev pub action_events : ℕ → List Queued → List Event
action_events n [] = []
action_events n (q ∷ qs) = action_event (suc n) q.action q.outcome ∷ action_events (suc n) qs

-- the book of these mailboxes and actions, with nothing pending
abbrev pub book_of : List Known → List Queued → Meaning
book_of boxes queue = record { boxes = boxes; queue = queue; pending = None }

-- An action as a lawful book has it behind these others: it has a record, its mailboxes are the book's, a dummy that it is about is one
-- of the others', no try of it was taken back, and where it ended, it may have ended so.
pub record IsWell (boxes : List Known) (before : List Queued) (q : Queued) : Type 0 where
  pub writable : IsWritableAction q.action
  pub known : is_unknown_action boxes q.action ≡ false
  pub good : is_bad_action before q.action ≡ false
  pub fresh : q.tries ≡ 0
  pub placed : (outcome : Outcome) → q.outcome ≡ Some outcome → is_misplaced_of q.action outcome ≡ false
  pub fits : (outcome : Outcome) → q.outcome ≡ Some outcome → is_misfit_old (book_of boxes before) q.action outcome ≡ false

-- so are all of these, each behind the others in front of it
abbrev pub AreWell : List Known → List Queued → List Queued → Type 0
AreWell boxes before [] = ⊤
AreWell boxes before (q ∷ qs) = IsWell boxes before q × AreWell boxes (before ++ q ∷ []) qs

-- A queue whose actions are well and in order is the fold of the events that tell it anew.
abbrev pub QueueFolds : Type 0
QueueFolds = (version : Version) (boxes : List Known) (queue : List Queued) → length queue ≤ MAX_ACTIONS → IsInOrder queue → AreWell boxes [] queue →
    FoldsTo version (book_of boxes []) (action_events 0 queue) (book_of boxes queue)

-- each of the first rows stands behind all of the second
abbrev pub AreBehind : List (ℕ × Row) → List (ℕ × Row) → Type 0
AreBehind [] rows = ⊤
AreBehind (r ∷ new) rows = AllBelow r.0 rows × AreBehind new rows

-- Rows that rise, put behind others, follow them.
abbrev pub RowsFollow : Type 0
RowsFollow = (rows new : List (ℕ × Row)) → AreBehind new rows → Rises new → put_rows new rows ≡ rows ++ new

-- the event tells these rows of a mailbox, with the numbers of its cache
pub record TellsRows (name : List ℕ) (cache : Cache) (whole : Bool) (rows : List (ℕ × Row)) (event : Event) : Type 0 where
  pub delta : Delta
  pub is : event ≡ events.Learn name delta
  pub whole_is : delta.whole ≡ whole
  pub validity : delta.validity ≡ cache.validity
  pub highest : delta.highest ≡ cache.highest
  pub uidnext : delta.uidnext ≡ cache.uidnext
  pub vanished : delta.vanished ≡ []
  pub rows_are : delta.rows ≡ rows

-- each event tells a part of the rows
abbrev pub TellParts : List ℕ → Cache → List (List (ℕ × Row)) → List Event → Type 0
TellParts name cache [] [] = ⊤
TellParts name cache [] (event ∷ events) = ⊥
TellParts name cache (part ∷ parts) [] = ⊥
TellParts name cache (part ∷ parts) (event ∷ events) = TellsRows name cache false part event × TellParts name cache parts events

-- the rows of all parts
abbrev pub joined : List (List (ℕ × Row)) → List (ℕ × Row)
joined [] = []
joined (part ∷ parts) = part ++ joined parts

-- a cache is told anew: the first of its rows as a whole mailbox, and the later ones part by part
abbrev pub TellsCache : List ℕ → Cache → List (ℕ × Row) → List (List (ℕ × Row)) → List Event → Type 0
TellsCache name cache first later [] = ⊥
TellsCache name cache first later (event ∷ events) = TellsRows name cache true first event × TellParts name cache later events

-- a cache as lawful events make it
pub record IsWellCache (cache : Cache) : Type 0 where
  pub rising : Rises cache.rows
  pub few : length cache.rows ≤ MAX_ROWS
  pub flags : HaveFewFlags cache.rows

-- A cache that is told anew, in parts of any size, is the mailbox's again.
abbrev pub CacheFolds : Type 0
CacheFolds = (version : Version) (boxes : List Known) (name : List ℕ) (cache : Cache) (first : List (ℕ × Row)) (later : List (List (ℕ × Row)))
    (events : List Event) → is_unknown boxes name ≡ false → cache_at name boxes ≡ None → IsWellCache cache → cache.rows ≡ first ++ joined later →
    TellsCache name cache first later events → FoldsTo version (book_of boxes []) events (book_of (put_cache name (Some cache) boxes) [])

-- a mailbox's cache is told anew, or there is none
abbrev pub TellsKnown : List ℕ → Option Cache → List Event → Type 0
TellsKnown name None events = events ≡ []
TellsKnown name (Some cache) events = (first : List (ℕ × Row)) × (later : List (List (ℕ × Row))) × (cache.rows ≡ first ++ joined later)
    × TellsCache name cache first later events

-- the mailboxes' caches are told anew, one mailbox behind the other
abbrev pub TellBoxes : List Known → List Event → Type 0
TellBoxes [] events = events ≡ []
TellBoxes (k ∷ ks) events = (mine : List Event) × (others : List Event) × (events ≡ mine ++ others) × TellsKnown k.name k.cache mine × TellBoxes ks others

abbrev pub names_of : List Known → List (List ℕ)
names_of boxes = map (λ (k : Known). k.name) boxes

abbrev pub withdrawn : ℕ → ℕ → List Event
withdrawn id zero = []
withdrawn id (suc n) = events.Withdraw id (suc n) ∷ []

-- the tries of the action that is due are told anew, where some were taken back
abbrev pub tries_events : List Queued → List Event
tries_events queue = withdrawn (suc (due queue)) (tries_due queue)

-- the pending intent is told anew
abbrev pub intent_events : Option Intent → List Queued → List Event
intent_events None queue = []
intent_events (Some intent) queue = events.Intend (suc (due queue)) intent ∷ []

-- the events behind the Begin of the book's names: its caches, its actions, the tries of the one that is due, and its pending intent
pub record TellsBook (b : Meaning) (events : List Event) : Type 0 where
  pub caches : List Event
  pub boxes : TellBoxes b.boxes caches
  pub is : events ≡ caches ++ (action_events 0 b.queue ++ (tries_events b.queue ++ intent_events b.pending b.queue))

abbrev pub IsWellKnown : Option Cache → Type 0
IsWellKnown None = ⊤
IsWellKnown (Some cache) = IsWellCache cache

abbrev pub AreWellBoxes : List Known → Type 0
AreWellBoxes [] = ⊤
AreWellBoxes (k ∷ ks) = IsWellKnown k.cache × AreWellBoxes ks

-- the intent is one for the action that is due, and its mailboxes are the book's
pub record IsWellIntent (b : Meaning) (intent : Intent) : Type 0 where
  pub known : is_unknown_intent b.boxes intent ≡ false
  pub queued : Queued
  pub there : due_action b.queue ≡ Some queued
  pub suited : suits b.queue queued.action intent ≡ true

-- Of a journal of this version: a first one takes no try back, a second one at most two, of a flag action alone.
abbrev pub MayBeTried : Version → Queued → Type 0
MayBeTried versions.First q = q.tries ≡ 0
MayBeTried versions.Second q = (q.tries ≤ 2) × (1 ≤ q.tries → is_no_flag_of q.action ≡ false)

-- A book as lawful events of a journal of this version make it.
pub record IsWellBook (version : Version) (b : Meaning) : Type 0 where
  pub names : AreNames (names_of b.boxes)
  pub caches : AreWellBoxes b.boxes
  pub few : length b.queue ≤ MAX_ACTIONS
  pub order : IsInOrder b.queue
  pub actions : AreWell b.boxes [] (untried b.queue)
  pub tries : (q : Queued) → due_action b.queue ≡ Some q → MayBeTried version q
  pub intent : (intent : Intent) → b.pending ≡ Some intent → IsWellIntent b intent

-- A book that is told anew is the fold of the events that tell it, by the rules of each version in which it may stand.
abbrev pub BookFolds : Type 0
BookFolds = (version : Version) (b : Meaning) (events : List Event) → IsWellBook version b → TellsBook b events →
    FoldsTo version (begun (names_of b.boxes)) events b

-- The book of a journal that begins is well, and so is the book after a lawful event that has a record.
abbrev pub WellAtFirst : Type 0
WellAtFirst = (version : Version) (names : List (List ℕ)) → AreNames names → IsWellBook version (begun names)

abbrev pub WellStays : Type 0
WellStays = (version : Version) (b : Meaning) (event : Event) → first_broken version b event ≡ None → IsWritable event → IsWellBook version b →
    IsWellBook version (after b event)

-- A book of a journal of the first version may stand in one of the second.
abbrev pub WellInSecond : Type 0
WellInSecond = (b : Meaning) → IsWellBook versions.First b → IsWellBook versions.Second b
