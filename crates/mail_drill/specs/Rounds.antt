-- How a round ends, and how the rounds end.
use Rattle.std.specs.Prelude.{◌≡◌, ℕ, List, [], Some, ⊤}
use Rattle.mail_base.specs.declared.status.Status.{Status}
use Rattle.mail_base.specs.declared.status.Status.TheVariants as status
use Rattle.action_queue.specs.Book.{Meaning}
use Rattle.world_mem.specs.declared.mem_world.MemWorld.{MemWorld}
use Rattle.mail_drill.specs.Came.{Begins, Runs}
use Rattle.mail_drill.specs.Held.{CameToItsEnd, EndsPlaying, play_words}
use Rattle.mail_drill.specs.Misfortunes.{nothing_fails}
use Rattle.mail_drill.specs.Standing.{IsPlayedOut, PlaysOn}
use Rattle.mail_drill.specs.declared.quiet_world.QuietWorld.{QuietWorld}
use Rattle.mail_drill.specs.declared.rounds.Ended.{Ended}
use Rattle.mail_drill.specs.declared.rounds.Ended.TheVariants as ended
use Rattle.mail_drill.specs.declared.rounds.Turn.{Turn}
use Rattle.mail_drill.specs.declared.rounds.Turn.TheVariants as turns

-- all of the book's actions are played; or a limit was passed, or the last round didn't come to its end, which says nothing of them
abbrev pub EndsIn : Meaning → Ended → QuietWorld → Type 0
EndsIn b ended.Played w = IsPlayedOut b w
EndsIn b (ended.Limit line) w = ⊤
EndsIn b (ended.Unfinished s) w = ⊤

-- all is played, or a limit was passed
abbrev pub IsOver : Ended → Type 0
IsOver ended.Played = ⊤
IsOver (ended.Limit line) = ⊤
IsOver (ended.Unfinished s) = ⊥

-- so it is, or they are to be played again
abbrev pub TurnsTo : Meaning → Turn → QuietWorld → Type 0
TurnsTo b (turns.Ended e) w = EndsIn b e w
TurnsTo b turns.Again w = PlaysOn b w

-- it was run from one world to the other, and ended so: no round but the last one is unfinished
abbrev pub RunsTo : Turn → MemWorld → MemWorld → Type 0
RunsTo (turns.Ended ended.Played) old new = (s : Status) × (text : List ℕ) × CameToItsEnd s × Runs play_words [] old new s text
RunsTo (turns.Ended (ended.Limit line)) old new = Runs play_words [] old new status.Limit line
RunsTo (turns.Ended (ended.Unfinished s)) old new = ⊥
RunsTo turns.Again old new = (s : Status) × (text : List ℕ) × (CameToItsEnd s → ⊥) × (s ≡ status.Limit → ⊥) × Runs play_words [] old new s text

-- from the first world on, where this is what the draws had left, the rounds were played, and the last one ended so
abbrev pub RoundsEnd : MemWorld → ℕ → Ended → MemWorld → Type 0
RoundsEnd first seed ended.Played w = (s : Status) × (text : List ℕ) × CameToItsEnd s × EndsPlaying first seed w s text
RoundsEnd first seed (ended.Limit line) w = EndsPlaying first seed w status.Limit line
RoundsEnd first seed (ended.Unfinished s) w = (text : List ℕ) × EndsPlaying first seed w s text

-- so the last round was run
abbrev pub RunsLast : Ended → MemWorld → MemWorld → Type 0
RunsLast ended.Played old new = RunsTo (turns.Ended ended.Played) old new
RunsLast (ended.Limit line) old new = RunsTo (turns.Ended (ended.Limit line)) old new
RunsLast (ended.Unfinished s) old new = (text : List ℕ) × Runs play_words [] old new s text

-- The last round goes on from what a stop left by this pick, with a plan by which nothing fails, and ended so.
pub record IsLastRound (pick : ℕ) (before : MemWorld) (e : Ended) (world : MemWorld) : Type 0 where
  pub begun : MemWorld
  pub begins : Begins (Some pick) nothing_fails before begun
  pub runs : RunsLast e begun world
