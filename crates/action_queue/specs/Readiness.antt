-- What an event needs to be entered without memory.
use Rattle.std.specs.Prelude.{◌≤◌, ℕ, Option, Some, None, ⊤}
use Rattle.mailbox_cache.specs.Rows.{room_for}
use Rattle.mailbox_cache.specs.declared.cache.Cache.{Cache}
use Rattle.mailbox_cache.specs.declared.delta.Delta.{Delta}
use Rattle.action_queue.specs.declared.event.Event.{Event}
use Rattle.action_queue.specs.declared.event.Event.TheVariants as events
use Rattle.action_queue.specs.declared.book.Book.{Book}
use Rattle.action_queue.specs.Book.{meaning, cache_at}
use Rattle.action_queue.specs.Events.{IsLawful}

-- room for a delta's rows among those of a cache; a first cache is made of the delta's rows, and needs none
abbrev pub HasRoom : Option Cache → Delta → ℕ → Type 0
HasRoom None delta room = ⊤
HasRoom (Some cache) delta room = room_for cache.rows delta.rows ≤ room

-- an action needs room in the queue, and a resynchronised mailbox room for its rows
abbrev pub AtHand : Book → Event → ℕ → Type 0
AtHand book (events.Begin names) room = ⊤
AtHand book (events.Accept id action) room = 1 ≤ book.queue.spare
AtHand book (events.Intend id intent) room = ⊤
AtHand book (events.Settle id outcome) room = ⊤
AtHand book (events.Learn name delta) room = HasRoom (cache_at name book.boxes) delta room
AtHand book (events.Old id action outcome) room = 1 ≤ book.queue.spare
AtHand book (events.Reset name kept told) room = ⊤
AtHand book (events.Withdraw id tries) room = ⊤

-- the event was prepared on this book as it is
pub record IsReady (book : Book) (event : Event) (room : ℕ) : Type 0 where
  pub lawful : IsLawful (meaning book) event
  pub at_hand : AtHand book event room
