-- How a reading ends: what each status says of the words, of the book as read, of the link, of the shelf, and of the printed text.
use Rattle.std.specs.Prelude.{◌≡◌, ◌⊎◌, ℕ, List, Some, None}
use Rattle.mail_base.specs.Account.{Credentials}
use Rattle.mail_base.specs.Lines.{error_memory, error_words}
use Rattle.mail_base.specs.declared.status.Status.{Status}
use Rattle.mail_base.specs.declared.status.Status.TheVariants as status
use Rattle.world_traits.specs.Moments.{Within}
use Rattle.action_queue.specs.Book.{Meaning}
use Rattle.mail_top.specs.Course.{Course, OnFiles}
use Rattle.mail_top.specs.Saying.{SaysBroken, SaysDisk}
use Rattle.mail_top.specs.Telling.{status_of_fault, text_of_fault}
use Rattle.play_driver.specs.declared.fault.PlayFault.{PlayFault}
use Rattle.body_cache.specs.Fetching.{Fetches, NotFetched}
use Rattle.body_cache.specs.Finding.{Finds, FindsNone, Reads}
use Rattle.body_cache.specs.Keys.{cached_in}
use Rattle.body_cache.specs.Lines.{dates_text, error_shelf, error_validity, kept_line, refused}
use Rattle.body_cache.specs.Shelf.{IsPut, KeepsOthers, text_at}
use Rattle.body_cache.specs.Words.{Asks, AsksNothing}
use Rattle.body_cache.specs.declared.fault.TextFault.TheVariants as texts
use Rattle.body_cache.specs.declared.key.Key.{Key}
use Rattle.body_cache.specs.declared.key.KeptText.{KeptText}
use Rattle.body_cache.specs.declared.keys.Cached.{Cached}
use Rattle.body_cache.specs.declared.reading.ReadReason.{ReadReason}
use Rattle.body_cache.specs.declared.reading.ReadReason.TheVariants as reasons
use Rattle.body_cache.specs.declared.reading.Reading.{Reading}
use Rattle.body_cache.specs.declared.reading.Reading.TheVariants as readings

-- the texts on a shelf at entry and now, where it tells them
pub record Shelving : Type 1 where
  pub tells : Type 0
  pub old : List KeptText
  pub new : List KeptText

-- no entry changed
abbrev pub Untouched : Shelving → Type 0
Untouched v = v.tells → v.new ≡ v.old

-- The text was fetched and put under its key, no other entry changed, and its length is printed.
pub record SaysKept (account : Credentials) (name : List ℕ) (uid : ℕ) (k : Course) (v : Shelving) (text : List ℕ) : Type 0 where
  pub key : Key
  pub finds : Finds name uid k key
  pub message : List ℕ
  pub fetches : Fetches account key message k.link_after
  pub put : v.tells → IsPut key message v.old v.new
  pub text_is : text ≡ kept_line message

-- The text was fetched, and the shelf failed: its entry may have changed, and no other one.
pub record SaysUnput (account : Credentials) (name : List ℕ) (uid : ℕ) (k : Course) (v : Shelving) (text : List ℕ) : Type 0 where
  pub key : Key
  pub finds : Finds name uid k key
  pub message : List ℕ
  pub fetches : Fetches account key message k.link_after
  pub others : v.tells → KeepsOthers key v.old v.new
  pub text_is : text ≡ error_shelf

-- The session ended early, by a fault of this status and this text.
pub record SaysStopped (account : Credentials) (name : List ℕ) (uid : ℕ) (k : Course) (v : Shelving) (s : Status) (text : List ℕ) : Type 0 where
  pub key : Key
  pub finds : Finds name uid k key
  pub fault : PlayFault
  pub why : NotFetched account key k.link k.link_after (texts.Stopped fault)
  pub untouched : Untouched v
  pub status_is : s ≡ status_of_fault fault
  pub text_is : text ≡ text_of_fault fault

-- SELECT told another UIDVALIDITY than the cache's.
pub record SaysRenewed (account : Credentials) (name : List ℕ) (uid : ℕ) (k : Course) (v : Shelving) (text : List ℕ) : Type 0 where
  pub key : Key
  pub finds : Finds name uid k key
  pub told : ℕ
  pub why : NotFetched account key k.link k.link_after (texts.Renewed told)
  pub untouched : Untouched v
  pub text_is : text ≡ error_validity name key.validity told

-- No FETCH of the message was told.
pub record SaysGone (account : Credentials) (name : List ℕ) (uid : ℕ) (k : Course) (v : Shelving) (text : List ℕ) : Type 0 where
  pub key : Key
  pub finds : Finds name uid k key
  pub why : NotFetched account key k.link k.link_after texts.Gone
  pub untouched : Untouched v
  pub text_is : text ≡ refused reasons.Gone

-- The message has no key, for the text's reason.
pub record SaysNone (name : List ℕ) (uid : ℕ) (k : Course) (text : List ℕ) : Type 0 where
  pub reason : ReadReason
  pub finds : FindsNone name uid k reason
  pub text_is : text ≡ refused reason

-- The shelf's entry is printed.
pub record SaysShown (name : List ℕ) (uid : ℕ) (k : Course) (v : Shelving) (text : List ℕ) : Type 0 where
  pub key : Key
  pub finds : Finds name uid k key
  pub is : v.tells → text_at key v.old ≡ Some text
  pub untouched : Untouched v

-- The shelf has no entry.
pub record SaysNotKept (name : List ℕ) (uid : ℕ) (k : Course) (v : Shelving) (text : List ℕ) : Type 0 where
  pub key : Key
  pub finds : Finds name uid k key
  pub none : v.tells → text_at key v.old ≡ None
  pub untouched : Untouched v
  pub text_is : text ≡ refused reasons.NotKept

-- The dates of the kept texts of the mailbox's messages are printed.
pub record SaysDates (name : List ℕ) (k : Course) (v : Shelving) (text : List ℕ) : Type 0 where
  pub book : Meaning
  pub reads : Reads k book
  pub cached : Cached
  pub has : cached_in book name ≡ Some cached
  pub is : v.tells → text ≡ dates_text name cached v.old
  pub untouched : Untouched v

-- The mailbox isn't one of the book's.
pub record SaysUnknown (name : List ℕ) (k : Course) (v : Shelving) (text : List ℕ) : Type 0 where
  pub book : Meaning
  pub reads : Reads k book
  pub none : cached_in book name ≡ None
  pub untouched : Untouched v
  pub text_is : text ≡ refused reasons.NoMailbox

-- so it came with the journal alone: the link and the shelf are as they were
pub record OnJournal (k : Course) (v : Shelving) (Says : Type 0) : Type 0 where
  pub on_files : OnFiles k Says
  pub untouched : Untouched v

-- memory is wanting, or the shelf failed, and its entries stay
pub record SaysOnly (v : Shelving) (line text : List ℕ) : Type 0 where
  pub untouched : Untouched v
  pub text_is : text ≡ line

-- What each status says of `fetch BOX ID`. The others don't come.
abbrev pub EndsFetch : Credentials → List ℕ → ℕ → Course → Shelving → Status → List ℕ → Type 0
EndsFetch account name uid k v status.Done text = SaysKept account name uid k v text
EndsFetch account name uid k v status.Output text = SaysKept account name uid k v text
EndsFetch account name uid k v status.Disk text = OnJournal k v (SaysDisk (Within k.old.now k.new.now) text)
EndsFetch account name uid k v status.Journal text = OnJournal k v (SaysBroken k text)
EndsFetch account name uid k v status.Reason text = OnJournal k v (SaysNone name uid k text) ⊎ SaysGone account name uid k v text
EndsFetch account name uid k v status.Memory text = SaysOnly v error_memory text
EndsFetch account name uid k v status.Link text = SaysStopped account name uid k v status.Link text
EndsFetch account name uid k v status.Refused text = SaysStopped account name uid k v status.Refused text
EndsFetch account name uid k v status.Reply text = SaysStopped account name uid k v status.Reply text
EndsFetch account name uid k v status.Lacking text = SaysStopped account name uid k v status.Lacking text
EndsFetch account name uid k v status.Limit text = SaysStopped account name uid k v status.Limit text
EndsFetch account name uid k v status.Validity text = SaysRenewed account name uid k v text
EndsFetch account name uid k v status.Shelf text = SaysUnput account name uid k v text
EndsFetch account name uid k v status.Words text = ⊥
EndsFetch account name uid k v status.Conflicts text = ⊥
EndsFetch account name uid k v status.Input text = ⊥

-- What each status says of `show BOX ID`.
abbrev pub EndsShow : List ℕ → ℕ → Course → Shelving → Status → List ℕ → Type 0
EndsShow name uid k v status.Done text = SaysShown name uid k v text
EndsShow name uid k v status.Output text = SaysShown name uid k v text
EndsShow name uid k v status.Disk text = OnJournal k v (SaysDisk (Within k.old.now k.new.now) text)
EndsShow name uid k v status.Journal text = OnJournal k v (SaysBroken k text)
EndsShow name uid k v status.Reason text = OnJournal k v (SaysNone name uid k text) ⊎ SaysNotKept name uid k v text
EndsShow name uid k v status.Memory text = SaysOnly v error_memory text
EndsShow name uid k v status.Shelf text = SaysOnly v error_shelf text
EndsShow name uid k v status.Words text = ⊥
EndsShow name uid k v status.Conflicts text = ⊥
EndsShow name uid k v status.Link text = ⊥
EndsShow name uid k v status.Refused text = ⊥
EndsShow name uid k v status.Reply text = ⊥
EndsShow name uid k v status.Lacking text = ⊥
EndsShow name uid k v status.Limit text = ⊥
EndsShow name uid k v status.Validity text = ⊥
EndsShow name uid k v status.Input text = ⊥

-- What each status says of `dates BOX`.
abbrev pub EndsDates : List ℕ → Course → Shelving → Status → List ℕ → Type 0
EndsDates name k v status.Done text = SaysDates name k v text
EndsDates name k v status.Output text = SaysDates name k v text
EndsDates name k v status.Disk text = OnJournal k v (SaysDisk (Within k.old.now k.new.now) text)
EndsDates name k v status.Journal text = OnJournal k v (SaysBroken k text)
EndsDates name k v status.Reason text = SaysUnknown name k v text
EndsDates name k v status.Memory text = SaysOnly v error_memory text
EndsDates name k v status.Shelf text = SaysOnly v error_shelf text
EndsDates name k v status.Words text = ⊥
EndsDates name k v status.Conflicts text = ⊥
EndsDates name k v status.Link text = ⊥
EndsDates name k v status.Refused text = ⊥
EndsDates name k v status.Reply text = ⊥
EndsDates name k v status.Lacking text = ⊥
EndsDates name k v status.Limit text = ⊥
EndsDates name k v status.Validity text = ⊥
EndsDates name k v status.Input text = ⊥

-- what each status says of a reading
abbrev pub EndsReading : Credentials → Reading → Course → Shelving → Status → List ℕ → Type 0
EndsReading account (readings.Fetch name uid) k v s text = EndsFetch account name uid k v s text
EndsReading account (readings.Show name uid) k v s text = EndsShow name uid k v s text
EndsReading account (readings.Dates name) k v s text = EndsDates name k v s text

-- the words ask for nothing, and nothing was done
pub record SaysWords (words : List (List ℕ)) (k : Course) (v : Shelving) (s : Status) (text : List ℕ) : Type 0 where
  pub nothing : AsksNothing words
  pub stays : k.new ≡ k.old
  pub reads : k.seen_after ≡ k.seen
  pub link : k.link_after ≡ k.link
  pub untouched : Untouched v
  pub told : s ≡ status.Words
  pub text_is : text ≡ error_words

-- the words ask for a reading, and so it ended
pub record SaysReading (account : Credentials) (words : List (List ℕ)) (k : Course) (v : Shelving) (s : Status) (text : List ℕ) : Type 0 where
  pub reading : Reading
  pub asks : Asks words reading
  pub ends : EndsReading account reading k v s text

abbrev pub Ends : Credentials → List (List ℕ) → Course → Shelving → Status → List ℕ → Type 0
Ends account words k v s text = SaysWords words k v s text ⊎ SaysReading account words k v s text
