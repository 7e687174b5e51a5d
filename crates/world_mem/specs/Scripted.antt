-- A link over which a script comes, as contracts see it.
use Rattle.std.specs.Prelude.{ℕ, Bool, true, false, List, [], Option, Some, None, drop}
use Rattle.world_traits.specs.LinkState.{Connection}
use Rattle.world_mem.specs.Scripts.{next_of, coming}
use Rattle.world_mem.specs.declared.script.Script.{Script}

-- The script, how many of its bytes were given, how many as the present or last connection began, whether there is one, what was
-- sent in it, how often the link failed, and what was sent before each connection, since the one before it, the latest first.
pub record Scripted : Type 0 where
  pub script : List Script
  pub given : ℕ
  pub began : ℕ
  pub on : Bool
  pub sent : List ℕ
  pub faults : ℕ
  pub earlier : List (List ℕ)

-- nothing was given, and nothing sent
abbrev pub at_front : List Script → Scripted
at_front script = record { script = script; given = 0; began = 0; on = false; sent = []; faults = 0; earlier = [] }

-- what the next call that receives gives from, at its front
abbrev pub coming_in : Scripted → List ℕ
coming_in p = coming p.given p.script

-- where there is a connection, these bytes were received in it
abbrev pub connection_with : Bool → List ℕ → Option Connection
connection_with false received = None
connection_with true received = Some (record { received = received })

-- its connection, in which all was received that was given since it began
abbrev pub connection_of : Scripted → Option Connection
connection_of p = connection_with p.on (drop p.began (next_of p.given p.script))
