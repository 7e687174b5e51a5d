-- A run's conversation as it goes on: the player, the book and the connection together (this client's profile of RFC 4549, section 4.2).
use Rattle.action_queue.specs.Book.{Meaning, after}
use Rattle.action_queue.specs.declared.event.Event.{Event}
use Rattle.imap_model.specs.CarriedOut.{CarriesOut}
use Rattle.imap_model.specs.Carrying.{Waiting}
use Rattle.imap_model.specs.Changes.{Batch}
use Rattle.imap_model.specs.declared.replies.Replies.{Replies}
use Rattle.imap_model.specs.declared.server.Server.{Server}
use Rattle.mailbox_cache.specs.declared.delta.Delta.{Delta}
use Rattle.playback.specs.Allowed.{IsAllowed, IsGathered, IsReply, PermitsTruly, Records, WhyCommit}
use Rattle.playback.specs.Choosing.{FitsWanted, IsChosen, committed}
use Rattle.book_laws.specs.Kept.{KeptBook}
use Rattle.playback.specs.Knows.{IsNeeded, Knows, MayAskRows, MayReset}
use Rattle.playback.specs.Needs.{IsBeside, IsLawfulNeed, IsReadyEvent, need_of}
use Rattle.book_laws.specs.Permitted.{Permits}
use Rattle.book_laws.specs.Polite.{KeepsBox, KeepsWaiting, Spares}
use Rattle.playback.specs.Replying.{IsHeard}
use Rattle.playback.specs.Worlds.{World, answered_world, asks_rows, given, moved, name_of, says}
use Rattle.playback.specs.declared.player.Player.{Player}
use Rattle.std.specs.Prelude.{Bool, List, None, Ok, Option, Some, ℕ, ◌≡◌}
use Rattle.action_queue.specs.declared.event.Event.TheVariants as events

-- the player of a run, its book, and its connection
pub record Game : Type 0 where
  pub player : Player
  pub book : Meaning
  pub world : World

-- others change something, and spare the append that is due
pub record OthersAct (x : Game) (t : Server) : Type 0 where
  pub changes : Batch x.world.course.now.boxes x.world.course.now t
  pub spares : Spares x.book x.world.course.now.boxes t.boxes
  pub stays : KeepsBox (name_of x.world.selected) x.world.course.now.boxes t.boxes
  pub settled : KeepsWaiting x.world.waiting x.world.course.now.boxes t.boxes

-- What may happen next: others act; a command that is needed arrives at the server; behind a SELECT the rows of all messages are asked
-- for; what waits is carried out; its reply, or that to a resynchronisation, is handed over; an event that is needed is recorded. Behind a
-- SELECT that told a greater UIDVALIDITY the cache is taken away, while its reply is owed still: the player is as before.
pub data Turn (x : Game) : Game → Type 0 where
  others : (t : Server) → OthersAct x t → Turn x (record x { world = moved t x.world })
  sends : (c : Waiting) → x.world.owed ≡ None → IsNeeded (need_of x.player x.book) c x.player.selected x.book
      → Turn x (record x { world = says c x.world })
  asks : (c : Waiting) → MayAskRows c x.player x.book x.world → Turn x (record x { world = asks_rows c x.world })
  carries : (c : Waiting) (r : Replies) (t : Server) (after : Option (List ℕ)) → x.world.waiting ≡ Some c → CarriesOut c x.world.course.now r t after
      → Turn x (record x { world = answered_world c r t x.world })
  hears : (r : Replies) (permits : Bool) (p : Player) → IsReply r x.world → PermitsTruly permits x.book x.world → IsHeard x.player x.book permits r p
      → Turn x (record { player = p; book = x.book; world = given x.world })
  chooses : (delta : Delta) (p : Player) → FitsWanted x.player x.book (Ok delta) → IsGathered delta x.book x.world
      → IsChosen x.player x.book (Ok delta) p → Turn x (record { player = p; book = x.book; world = given x.world })
  records : (event : Event) → x.world.owed ≡ None → Records (need_of x.player x.book) event
      → Turn x (record { player = committed x.player (after x.book event); book = after x.book event; world = x.world })
  resets : (name : List ℕ) (kept told : ℕ) → MayReset name kept told x.book x.world
      → Turn x (record x { book = after x.book (events.Reset name kept told) })

-- any list of turns
pub data Play : Game → Game → Type 0 where
  rests : {x : Game} → Play x x
  turns : {x y z : Game} → Turn x y → Play y z → Play x z

-- what holds at each moment
pub record IsGood (x : Game) : Type 0 where
  pub kept : KeptBook x.book x.world.course.now x.world.waiting
  pub beside : IsBeside x.player x.book
  pub knows : Knows x.player x.book x.world

-- that a cache is taken away may come next in the book, and is true
pub record IsReset (name : List ℕ) (kept told : ℕ) (b : Meaning) (w : World) : Type 0 where
  pub ready : IsReadyEvent b (events.Reset name kept told)
  pub permitted : Permits (Some b) (events.Reset name kept told) w.course.now w.waiting
  pub why : WhyCommit (events.Reset name kept told) b w.course

-- what the player needs may be done, may come next in the book, and is true
abbrev pub IsSafeNeed : Game → Type 0
IsSafeNeed x = x.world.owed ≡ None → IsLawfulNeed (need_of x.player x.book) x.player x.book × IsAllowed (need_of x.player x.book) x.player x.book x.world

-- And so what the player needs may be done, may come next in the book, and is true; and a cache that may be taken away is one of a mailbox
-- that was renewed.
abbrev pub IsSafe : Game → Type 0
IsSafe x = IsSafeNeed x × ((name : List ℕ) (kept told : ℕ) → MayReset name kept told x.book x.world → IsReset name kept told x.book x.world)

-- As others act, a command arrives, the rows are asked for, what waits is carried out, or a cache is taken away, the player knows what it
-- knew.
pub record KnownOnward : Type 0 where
  pub others : (p : Player) (b : Meaning) (w : World) (t : Server) → KeptBook b w.course.now w.waiting
      → Batch w.course.now.boxes w.course.now t → Spares b w.course.now.boxes t.boxes
      → KeepsBox (name_of w.selected) w.course.now.boxes t.boxes → KeepsWaiting w.waiting w.course.now.boxes t.boxes → Knows p b w → Knows p b (moved t w)
  pub sends : (p : Player) (b : Meaning) (w : World) (c : Waiting) → KeptBook b w.course.now w.waiting → w.owed ≡ None
      → IsNeeded (need_of p b) c p.selected b → Knows p b w → Knows p b (says c w)
  pub asks : (p : Player) (b : Meaning) (w : World) (c : Waiting) → MayAskRows c p b w → Knows p b w → Knows p b (asks_rows c w)
  pub carries : (p : Player) (b : Meaning) (w : World) (c : Waiting) (r : Replies) (t : Server) (after : Option (List ℕ))
      → w.waiting ≡ Some c → CarriesOut c w.course.now r t after → KeptBook b w.course.now (Some c) → KeptBook b t None → Knows p b w
      → Knows p b (answered_world c r t w)
  pub resets : (p : Player) (b : Meaning) (w : World) (name : List ℕ) (kept told : ℕ) → MayReset name kept told b w
      → KeptBook b w.course.now w.waiting → Knows p b w
      → Knows p (after b (events.Reset name kept told)) w

-- Whatever turns follow, the state stays good, and whatever is needed then is safe.
pub record PlaysWell : Type 0 where
  pub keeps : (x y : Game) → Play x y → IsGood x → IsGood y
  pub safe : (x y : Game) → Play x y → IsGood x → IsSafe y
