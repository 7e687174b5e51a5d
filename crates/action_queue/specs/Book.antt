-- The book: what a journal's events make, and what one more event makes of it (RFC 4549, section 4.2).
use Rattle.std.specs.Prelude.{ℕ, cond, List, [], ◌∷◌, ◌++◌, map, bytes_eq, Option, Some, None}
use Rattle.mailbox_cache.specs.Cache.{first, applied}
use Rattle.mailbox_cache.specs.declared.cache.Cache.{Cache}
use Rattle.mailbox_cache.specs.declared.delta.Delta.{Delta}
use Rattle.action_queue.specs.declared.intent.Intent.{Intent}
use Rattle.action_queue.specs.declared.queued.Queued.{Queued}
use Rattle.action_queue.specs.declared.event.Event.{Event}
use Rattle.action_queue.specs.declared.event.Event.TheVariants as events
use Rattle.action_queue.specs.declared.book.Known.{Known}
use Rattle.action_queue.specs.declared.book.Book.{Book}
use Rattle.action_queue.specs.Queues.{accepted, ended, settled, tried, change_first}

-- what a book means: what it knows of each mailbox, its actions, and the intent that is pending for the one that is due
pub record Meaning : Type 0 where
  pub boxes : List Known
  pub queue : List Queued
  pub pending : Option Intent

-- the room that a queue has is no part of it
abbrev pub meaning : Book → Meaning
meaning book = record { boxes = book.boxes; queue = book.queue.items; pending = book.pending }

-- what a book knows of a name
abbrev pub known_at : List ℕ → List Known → Option Known
known_at name [] = None
known_at name (k ∷ ks) = cond (bytes_eq k.name name) (Some k) (known_at name ks)

abbrev pub cache_of : Option Known → Option Cache
cache_of None = None
cache_of (Some k) = k.cache

-- the cache of a name, if it has one
abbrev pub cache_at : List ℕ → List Known → Option Cache
cache_at name boxes = cache_of (known_at name boxes)

-- a cache in place of that of a name
abbrev pub put_cache : List ℕ → Option Cache → List Known → List Known
put_cache name cache [] = []
put_cache name cache (k ∷ ks) = cond (bytes_eq k.name name) (record k { cache = cache } ∷ ks) (k ∷ put_cache name cache ks)

-- the cache after a delta: the first one, or the old one with what was told
abbrev pub learned : Option Cache → Delta → Cache
learned None delta = first delta
learned (Some cache) delta = applied cache delta

abbrev pub known_of : List ℕ → Known
known_of name = record { name = name; cache = None }

-- the book of a journal that has begun: the names, without caches and actions
abbrev pub begun : List (List ℕ) → Meaning
begun names = record { boxes = map known_of names; queue = []; pending = None }

-- the book after an event
abbrev pub after : Meaning → Event → Meaning
after b (events.Begin names) = b
after b (events.Accept id action) = record b { queue = b.queue ++ accepted action ∷ [] }
after b (events.Intend id intent) = record b { pending = Some intent }
after b (events.Settle id outcome) = record b { queue = change_first (settled outcome) b.queue; pending = None }
after b (events.Learn name delta) = record b { boxes = put_cache name (Some (learned (cache_at name b.boxes) delta)) b.boxes }
after b (events.Old id action outcome) = record b { queue = b.queue ++ ended action outcome ∷ [] }
after b (events.Reset name kept told) = record b { boxes = put_cache name None b.boxes }
after b (events.Withdraw id tries) = record b { queue = change_first (tried tries) b.queue; pending = None }
