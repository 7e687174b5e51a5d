-- What is done where nothing prevents it.
use Rattle.std.specs.Prelude.{◌≡◌, ◌≢◌, ◌⊎◌, ℕ, List, codes, Some, None, Ok}
use Rattle.mail_base.specs.declared.status.Status.{Status}
use Rattle.mail_base.specs.declared.status.Status.TheVariants as status
use Rattle.world_traits.specs.Calls.{Rose}
use Rattle.world_traits.specs.Files.{Files}
use Rattle.world_traits.specs.declared.clocked.Clocked.{Ghosts}
use Rattle.action_queue.specs.Book.{Meaning}
use Rattle.store_core.specs.Books.{HasBook}
use Rattle.store_core.specs.Mail.{mail}
use Rattle.play_driver.specs.Granting.{IsBox}
use Rattle.play_driver.specs.Serving.{AllServing}
use Rattle.mail_top.specs.Ending.{IsDone}
use Rattle.body_cache.specs.Ending.{Shelving}
use Rattle.body_cache.specs.Fetched.{PutsTold}
use Rattle.body_cache.specs.Keys.{cached_in, key_in}
use Rattle.body_cache.specs.Shelf.{text_at}
use Rattle.body_cache.specs.Words.{WritesDates, WritesMessage}
use Rattle.body_cache.specs.declared.key.Key.{Key}
use Rattle.body_cache.specs.declared.shelf.Shelf.{Ghosts as ShelfGhosts}

-- no call of the shelf failed
abbrev pub NoShelfFault : {Self : Type 0} → ShelfGhosts Self → Self → Self → Type 0
NoShelfFault K old new = Rose (K.shelf_faults old) (K.shelf_faults new) → ⊥

-- The files hold a book in which the message has this key.
pub record AreKeyed (name : List ℕ) (uid : ℕ) (files : Files) (key : Key) : Type 0 where
  pub book : Meaning
  pub holds : HasBook mail book files
  pub is : key_in book name uid ≡ Ok key

-- The files hold a book that has the mailbox.
pub record AreListed (name : List ℕ) (files : Files) : Type 0 where
  pub book : Meaning
  pub holds : HasBook mail book files
  pub known : cached_in book name ≢ None

-- A message whose text is kept is shown, and the dates of a mailbox of the book are told; or memory is wanting.
pub record Completes (words : List (List ℕ)) (files : Files) (v : Shelving) (s : Status) : Type 0 where
  pub show : (name : List ℕ) (uid : ℕ) (key : Key) (text : List ℕ) → WritesMessage (codes "show") words name uid → AreKeyed name uid files key →
      v.tells → text_at key v.old ≡ Some text → IsDone s
  pub dates : (name : List ℕ) → WritesDates words name → AreListed name files → IsDone s

-- the server refused nothing, and neither lacked a thing nor told one at fault
abbrev pub IsServed : Status → Type 0
IsServed status.Done = Unit {0}
IsServed status.Conflicts = Unit {0}
IsServed status.Words = Unit {0}
IsServed status.Disk = Unit {0}
IsServed status.Link = Unit {0}
IsServed status.Refused = ⊥
IsServed status.Reply = ⊥
IsServed status.Lacking = ⊥
IsServed status.Validity = Unit {0}
IsServed status.Journal = Unit {0}
IsServed status.Reason = Unit {0}
IsServed status.Memory = Unit {0}
IsServed status.Output = Unit {0}
IsServed status.Input = Unit {0}
IsServed status.Limit = Unit {0}
IsServed status.Shelf = Unit {0}

-- the text is kept, or memory is wanting; or the server told another UIDVALIDITY than the cache's, or that the message is gone
abbrev pub IsFetched : Status → Type 0
IsFetched s = IsDone s ⊎ (s ≡ status.Validity) ⊎ (s ≡ status.Reason)

-- What is so at the server of a message whose text is to be fetched: where it was put, it is what the server told; and a server that serves, and has the
-- mailbox, ends the fetching by none of its own statuses.
pub record FetchesOver {Self : Type 0} (W : Ghosts Self) (old new : Self) (IsWanted : List ℕ → ℕ → Type 0) (v : Shelving) (s : Status) : Type 0 where
  pub told : W.tells_server → (name : List ℕ) (uid : ℕ) → IsWanted name uid → s ≡ status.Done → PutsTold name uid (W.clock old) (W.clock new) v
  pub serves : W.tells_server → (name : List ℕ) (uid : ℕ) → IsWanted name uid → AllServing (W.clock old) (W.clock new) →
      IsBox name (W.clock old).now.outside.server → IsServed s
