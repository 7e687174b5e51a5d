-- A connection as it goes on: its course, what is selected in it, the command that waits at the server, and the one whose reply the player
-- wasn't given yet (RFC 9051, sections 2.2 and 3).
use Rattle.imap_model.specs.Carrying.{Waiting}
use Rattle.imap_model.specs.Evolving.{EvolvesFrom}
use Rattle.imap_model.specs.Ours.{ours}
use Rattle.imap_model.specs.WellFormed.{IsWellFormed}
use Rattle.imap_model.specs.declared.command.Command.{Command}
use Rattle.imap_model.specs.declared.ending.Ending.{Ending}
use Rattle.imap_model.specs.declared.replies.Replies.{Replies}
use Rattle.imap_model.specs.declared.server.Server.{Server}
use Rattle.playback.specs.Course.{Course, IsAmong, Said}
use Rattle.book_laws.specs.InBox.{InBoxNow}
use Rattle.playback.specs.declared.finding.Selected.{Selected}
use Rattle.qresync_core.specs.ToldCodes.{told_codes}
use Rattle.qresync_core.specs.declared.codes.Codes.{Codes}
use Rattle.qresync_core.specs.declared.fault.CodeFault.{CodeFault}
use Rattle.std.specs.Prelude.{Err, List, None, Ok, Option, Result, Some, [], codes, ℕ, ◌∷◌, ◌≡◌, ◌⊎◌}
use Rattle.imap_model.specs.declared.command.Command.TheVariants as commands
use Rattle.imap_model.specs.declared.ending.Ending.TheVariants as endings

-- What happened in the connection, the mailbox that is selected in it, the command that waits, and the one whose reply is owed.
pub record World : Type 0 where
  pub course : Course
  pub selected : Option Selected
  pub waiting : Option Waiting
  pub owed : Option Waiting

-- the server of one of the moments
abbrev pub Among : Server → World → Type 0
Among s w = IsAmong s (w.course.now ∷ w.course.past)

-- the mailbox of this name is there, under this UIDVALIDITY
abbrev pub IsUnder : List ℕ → ℕ → Server → Type 0
IsUnder name validity s = InBoxNow (λ _. Unit {0}) name validity s.boxes

-- the mailbox that was selected is there, under the UIDVALIDITY that was told
abbrev pub IsAt : Selected → Server → Type 0
IsAt selected s = IsUnder selected.name selected.validity s

-- the name of the mailbox that is selected
abbrev pub name_of : Option Selected → Option (List ℕ)
name_of None = None
name_of (Some selected) = Some selected.name

-- what a SELECT leaves selected, under the UIDVALIDITY that it tells: nothing where it is refused
abbrev pub selected_by : List ℕ → Result Codes CodeFault → Option Selected
selected_by name (Err fault) = None
selected_by name (Ok codes) = Some (record { name = name; validity = codes.validity })

-- what a SELECT that ends so leaves selected
abbrev pub selected_on : List ℕ → Replies → Ending → Option Selected
selected_on name r endings.Ok = selected_by name (told_codes r)
selected_on name r endings.No = None
selected_on name r endings.Bad = None

-- what is selected behind a command
abbrev pub selected_after : Command → Replies → Option Selected → Option Selected
selected_after commands.Capability r selected = selected
selected_after (commands.Login account) r selected = selected
selected_after (commands.Plain account) r selected = selected
selected_after (commands.Enable rev2) r selected = selected
selected_after (commands.Select name since) r selected = selected_on name r r.ending
selected_after commands.FetchAll r selected = selected
selected_after (commands.FetchRow uid) r selected = selected
selected_after (commands.Search from id) r selected = selected
selected_after (commands.FetchIds uids) r selected = selected
selected_after (commands.FetchText uid) r selected = selected
selected_after (commands.Store uid since add flags) r selected = selected
selected_after (commands.Shift uid to) r selected = selected
selected_after (commands.Copy uid to) r selected = selected
selected_after (commands.Expunge uid) r selected = selected
selected_after (commands.Append to flags text) r selected = selected
selected_after commands.Logout r selected = selected

-- a connection as it begins
abbrev pub begins : Server → World
begins s = record { course = record { first = s; now = s; past = []; said = [] }; selected = None; waiting = None; owed = None }

-- a moment is added
abbrev pub moved : Server → World → World
moved t w = record w { course = record w.course { now = t; past = w.course.now ∷ w.course.past } }

-- the course behind a command that was carried out
abbrev pub answered_course : Waiting → Replies → Server → Course → Course
answered_course c r t course = record {
  first = course.first;
  now = t;
  past = course.now ∷ course.past;
  said = record { command = c; before = course.now; behind = t; reply = r } ∷ course.said;
}

-- the command that waits is carried out
abbrev pub answered_world : Waiting → Replies → Server → World → World
answered_world c r t w = record w { course = answered_course c r t w.course; selected = selected_after c.command r w.selected; waiting = None }

-- a command's last byte has arrived, and its reply is owed
abbrev pub says : Waiting → World → World
says c w = record w { waiting = Some c; owed = Some c }

-- behind a SELECT the rows of all messages are asked for; what is owed is the reply to both
abbrev pub asks_rows : Waiting → World → World
asks_rows c w = record w { waiting = Some c }

-- the player was given the reply
abbrev pub given : World → World
given w = record w { owed = None }

-- what is known of one server stays known of a later one
pub record LeadsTo (s now : Server) : Type 0 where
  pub well : IsWellFormed s.boxes
  pub evolves : EvolvesFrom s.boxes s.boxes now.boxes
  pub grows : (n : ℕ) → ours n now.history ≡ [] → ours n s.history ≡ []

-- no moment and nothing that was said is forgotten; at most one moment is new
pub record KeepsCourse (w v : World) : Type 0 where
  pub among : (s : Server) → Among s w → Among s v
  pub back : (s : Server) → Among s v → (s ≡ v.course.now) ⊎ Among s w
  pub said : (e : Said) → IsAmong e w.course.said → IsAmong e v.course.said
  pub first : v.course.first ≡ w.course.first
