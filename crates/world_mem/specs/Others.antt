-- What others do to a world as a call of its link begins: they change the server, and nothing of the connection.
use Rattle.std.specs.Prelude.{◌≡◌, ◌==◌, ◌||◌, ℕ, Bool, true, false, List, [], ◌∷◌, Option, take, is_some, if◌then◌else◌}
use Rattle.imap_model.specs.Lawful.{broken_rule}
use Rattle.imap_model.specs.Talking.{Answering}
use Rattle.imap_model.specs.declared.deed.Change.{Change}
use Rattle.imap_model.specs.declared.deed.Change.TheVariants as deeds
use Rattle.server_mem.specs.States.{is_named}
use Rattle.world_traits.specs.Links.{Linked}
use Rattle.world_mem.specs.Planned.{Planned}
use Rattle.world_mem.specs.Running.{Run, step}
use Rattle.world_mem.specs.declared.did.Did.TheVariants as did

pub record OthersChange (old new : Run) : Type 0 where
  pub told : Linked Answering old.clock new.clock
  pub waiting : new.clock.now.outside.waiting ≡ old.clock.now.outside.waiting
  pub talk : new.clock.now.outside.talk ≡ old.clock.now.outside.talk
  pub held : new.held ≡ old.held

-- the mailbox that is in use would be renewed by the change
abbrev pub renews : Option (List ℕ) → List ℕ → Change → Bool
renews used name (deeds.Add flags text uid) = false
renews used name (deeds.SetFlags uid flags) = false
renews used name (deeds.Drop uid) = false
renews used name (deeds.Shift uid to new) = false
renews used name (deeds.Reset validity uids uidnext highest) = is_named name used

-- a change by others, which is passed over where it breaks a rule, or would renew the mailbox that is in use
abbrev pub changed : Option (List ℕ) → List ℕ → Change → Run → Run
changed used name change r =
    if renews used name change || is_some (broken_rule r.state.server.boxes name change) then r else step (did.Changed name change) r

-- those of these changes that are planned for a call, one behind another
abbrev pub changes : List (ℕ × List ℕ × Change) → ℕ → Option (List ℕ) → Run → Run
changes [] call used r = r
changes (f ∷ fs) call used r = changes fs call used (if f.0 == call then changed used f.1 f.2 r else r)

-- what others do as the last call of the link begins
abbrev pub others_in : Planned → Option (List ℕ) → Run → Run
others_in s used r = changes s.plan.foreign s.link used r

-- some of it, from the front
abbrev pub OthersSome : Planned → Option (List ℕ) → Run → Run → Type 0
OthersSome s used old new = (n : ℕ) × (new ≡ changes (take n s.plan.foreign) s.link used old)

-- where there is no connection, it is told that the last one is at its end
abbrev pub rested : Bool → Run → Run
rested true r = r
rested false r = step did.Ended r

-- a change by others at a moment of its own, where there is a connection or none: it is passed over where it would renew the mailbox that
-- is in use
abbrev pub alone : Bool → Option (List ℕ) → List ℕ → Change → Run → Run
alone on used name change r = if renews used name change then r else step (did.Changed name change) (rested on r)
