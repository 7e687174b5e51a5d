-- A world after a stop: it goes on from files that the stop left, with the same server and without a connection, so that nothing is
-- selected and no text arrives.
use Rattle.std.specs.Prelude.{[], Option, Some, None}
use Rattle.server_mem.specs.States.{State, disconnected}
use Rattle.world_traits.specs.Files.{Files}
use Rattle.world_mem.specs.Memory.{Line, unmade}
use Rattle.world_mem.specs.Running.{Run, start}
use Rattle.world_mem.specs.Standing.{phase_of}
use Rattle.world_mem.specs.declared.did.Held.{Held}

-- the server keeps its mailboxes, its history and its choices, and of the lost connection what a command that waits needs
abbrev pub left_of : Option Held → State → State
left_of None s = disconnected s
left_of (Some held) s = record s { begun = [] }

-- what waited waits on, and there is one moment
abbrev pub goes_on_from : Files → Run → Run
goes_on_from files r = start files (left_of r.held r.state) r.held

-- no connection was made since
abbrev pub no_line : Option Held → Line
no_line held = unmade (phase_of held)
