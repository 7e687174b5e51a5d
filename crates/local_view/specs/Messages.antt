-- The messages that the user can see: those of each cache, and those that unsettled actions make (RFC 9051, section 2.3.1.1).
use Rattle.std.specs.Prelude.{ℕ, Bool, false, ◌&&◌, ◌==◌, cond, List, bytes_eq, Option, Some, None}
use Rattle.mailbox_cache.specs.declared.cache.Cache.{Cache}
use Rattle.action_queue.specs.Book.{cache_at}
use Rattle.action_queue.specs.declared.book.Known.{Known}
use Rattle.action_queue.specs.declared.found.Found.{Found}
use Rattle.action_queue.specs.declared.found.Found.TheVariants as found
use Rattle.local_view.specs.declared.message.Message.{Message}
use Rattle.local_view.specs.declared.message.Message.TheVariants as message

-- whether two messages are one
abbrev pub is_same : Message → Message → Bool
is_same (message.Cached name uid) (message.Cached other number) = bytes_eq name other && (uid == number)
is_same (message.Cached name uid) (message.Made n) = false
is_same (message.Made n) (message.Cached name uid) = false
is_same (message.Made n) (message.Made m) = n == m

-- whether there is a cache of this UIDVALIDITY
abbrev pub is_under : ℕ → Option Cache → Bool
is_under validity None = false
is_under validity (Some cache) = cache.validity == validity

-- The message that a target resolves to: that of a UID in its mailbox, where the UID is meant under the cache's UIDVALIDITY; the
-- one that action n is still to make; and none where action n never makes it.
abbrev pub message_of : List Known → Found → Option Message
message_of boxes (found.Real name validity uid) = cond (is_under validity (cache_at name boxes)) (Some (message.Cached name uid)) None
message_of boxes (found.NotYet n) = Some (message.Made n)
message_of boxes (found.Never n) = None
