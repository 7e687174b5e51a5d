-- Which change of a mailbox an action wants (RFC 9051, sections 6.3.12, 6.4.6 and 6.4.8).
use Rattle.std.specs.Prelude.{◌≡◌, ℕ, Bool, true, false, List}
use Rattle.flag_set.specs.FlagSet.{has}
use Rattle.imap_model.specs.declared.deed.Change.{Change}
use Rattle.imap_model.specs.declared.deed.Change.TheVariants as changes
use Rattle.action_queue.specs.Targets.{resolved}
use Rattle.action_queue.specs.declared.action.Action.{Action}
use Rattle.action_queue.specs.declared.action.Action.TheVariants as actions
use Rattle.action_queue.specs.declared.found.Found.TheVariants as found
use Rattle.action_queue.specs.declared.queued.Queued.{Queued}

-- flags that hold all of the asked ones, or none of them
abbrev pub IsAsked : Bool → List (List ℕ) → List (List ℕ) → Type 0
IsAsked true asked flags = (key : List ℕ) → has asked key ≡ true → has flags key ≡ true
IsAsked false asked flags = (key : List ℕ) → has asked key ≡ true → has flags key ≡ false

-- The change, in the mailbox of this name and UIDVALIDITY, is the action's: it is made to the message that the target
-- resolves to, and gives the asked flags, or moves it to the asked mailbox; or it adds the message that is to be appended.
abbrev pub IsWanted : List Queued → Action → List ℕ → ℕ → Change → Type 0
IsWanted queue (actions.Flag target add asked) name validity (changes.SetFlags uid flags) =
    (resolved queue target ≡ found.Real name validity uid) × IsAsked add asked flags
IsWanted queue (actions.Flag target add asked) name validity (changes.Add flags text uid) = ⊥
IsWanted queue (actions.Flag target add asked) name validity (changes.Drop uid) = ⊥
IsWanted queue (actions.Flag target add asked) name validity (changes.Shift uid to received) = ⊥
IsWanted queue (actions.Flag target add asked) name validity (changes.Reset under uids uidnext highest) = ⊥
IsWanted queue (actions.Move target to) name validity (changes.Shift uid other received) =
    (resolved queue target ≡ found.Real name validity uid) × (other ≡ to)
IsWanted queue (actions.Move target to) name validity (changes.Add flags text uid) = ⊥
IsWanted queue (actions.Move target to) name validity (changes.SetFlags uid flags) = ⊥
IsWanted queue (actions.Move target to) name validity (changes.Drop uid) = ⊥
IsWanted queue (actions.Move target to) name validity (changes.Reset under uids uidnext highest) = ⊥
IsWanted queue (actions.Append to flags text id) name validity (changes.Add others content uid) = (name ≡ to) × (others ≡ flags) × (content ≡ text)
IsWanted queue (actions.Append to flags text id) name validity (changes.SetFlags uid others) = ⊥
IsWanted queue (actions.Append to flags text id) name validity (changes.Drop uid) = ⊥
IsWanted queue (actions.Append to flags text id) name validity (changes.Shift uid other received) = ⊥
IsWanted queue (actions.Append to flags text id) name validity (changes.Reset under uids uidnext highest) = ⊥
