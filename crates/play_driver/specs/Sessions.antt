-- A session in which a mailbox can be selected (RFC 9051, section 3).
use Rattle.std.specs.Prelude.{ℕ, List, Option, Some, None}
use Rattle.literal_feed.specs.Stream.{Stream}
use Rattle.imap_session.specs.declared.permits.Permits.{Permits}
use Rattle.play_driver.specs.declared.session.Held.{Held}
use Rattle.play_driver.specs.declared.session.Session.{Session}
use Rattle.play_driver.specs.declared.session.Session.TheVariants as sessions

-- what is selected in it
abbrev pub selected_in : Session → Option (List ℕ)
selected_in (sessions.Ready ready) = None
selected_in (sessions.Chosen chosen) = Some chosen.name
selected_in (sessions.Held held) = Some held.chosen.name

-- how many questions were asked in it
abbrev pub count_of : Session → ℕ
count_of (sessions.Ready ready) = ready.conversation.count
count_of (sessions.Chosen chosen) = chosen.conversation.count
count_of (sessions.Held held) = held.chosen.conversation.count

-- what came in it and wasn't read yet
abbrev pub feed_of : Session → Stream
feed_of (sessions.Ready ready) = ready.conversation.feed
feed_of (sessions.Chosen chosen) = chosen.conversation.feed
feed_of (sessions.Held held) = held.chosen.conversation.feed

-- the flags that can be changed for good in what is selected
abbrev pub permits_in : Session → Option Permits
permits_in (sessions.Ready ready) = None
permits_in (sessions.Chosen chosen) = chosen.permits
permits_in (sessions.Held held) = held.chosen.permits

-- the reply to SELECT that is held in it, if one is
abbrev pub held_in : Session → Option Held
held_in (sessions.Ready ready) = None
held_in (sessions.Chosen chosen) = None
held_in (sessions.Held held) = Some held
