-- A world in memory as contracts see it.
use Rattle.std.specs.Prelude.{◌≡◌, ℕ, List, [], ◌++◌, Option, take, drop, reverse, if◌then◌else◌}
use Rattle.world_traits.specs.LinkState.{Connection}
use Rattle.world_mem.specs.Image.{bytes_of}
use Rattle.world_mem.specs.Running.{Run, run, start}
use Rattle.world_mem.specs.Standing.{is_on, connection_in}
use Rattle.world_mem.specs.declared.course.Course.{Course}
use Rattle.world_mem.specs.declared.course.Phase.{Phase}

-- the world as it was at the first moment
abbrev pub start_of : Course → Run
start_of course = start (bytes_of course.given) course.began.value course.began_held.value

-- the world as what was done left it
abbrev pub run_of : Course → Run
run_of course = run course.log.items (start_of course)

-- the connection: how it stands, what was sent, the lines that were told in it, how many bytes of them were received, and what was sent
-- before each connection that was made, since the one before it, the latest first
pub record Line : Type 0 where
  pub phase : Phase
  pub sent : List ℕ
  pub lines : List ℕ
  pub received : ℕ
  pub earlier : List (List ℕ)

abbrev pub earlier_of : Course → List (List ℕ)
earlier_of course = reverse course.earlier.items

abbrev pub line_of : Course → Line
line_of course = record {
  phase = course.phase;
  sent = course.sent.items;
  lines = course.lines.items;
  received = course.received;
  earlier = earlier_of course;
}

-- no connection was made
abbrev pub unmade : Phase → Line
unmade phase = record { phase = phase; sent = []; lines = []; received = 0; earlier = [] }

-- what was sent, and what was received
pub record Had : Type 0 where
  pub sent : List ℕ
  pub received : List ℕ

abbrev pub had_in : Line → Had
had_in l = record { sent = l.sent; received = take l.received l.lines }

-- these bytes were sent besides
abbrev pub sending : List ℕ → Had → Had
sending bytes had = record had { sent = had.sent ++ bytes }

-- some front of these bytes was sent besides
abbrev pub SentSome : List ℕ → List ℕ → List ℕ → Type 0
SentSome bytes old new = (n : ℕ) × (new ≡ old ++ take n bytes)

-- the connection as a link tells it
abbrev pub told_line : Line → Option Connection
told_line l = connection_in (is_on l.phase) l.lines l.received

abbrev pub sent_of : Course → List ℕ
sent_of course = course.sent.items

abbrev pub connection_of : Course → Option Connection
connection_of course = told_line (line_of course)

-- what waits to be received
abbrev pub waits_in : Line → List ℕ
waits_in l = if is_on l.phase then drop l.received l.lines else []
