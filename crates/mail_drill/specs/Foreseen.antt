-- That a command of a drill ends as it must in a world in which nothing fails: no status comes that isn't looked for.
use Rattle.std.specs.Prelude.{◌≡◌, ℕ, List, [], ⊤}
use Rattle.mail_base.specs.Account.{Credentials}
use Rattle.mail_base.specs.declared.status.Status.{Status}
use Rattle.mail_base.specs.declared.status.Status.TheVariants as status
use Rattle.mail_top.specs.CompletePlay.{HasEachBox}
use Rattle.mail_top.specs.KeptNow.{IsKeptNow}
use Rattle.mail_top.specs.Words.{WritesPlay}
use Rattle.mail_drill.specs.Connected.{Untouched}
use Rattle.mail_drill.specs.Held.{CameToItsEnd}
use Rattle.mail_drill.specs.Ran.{Ran}
use Rattle.mail_drill.specs.Standing.{clock_of, now_of, seen_of}
use Rattle.mail_drill.specs.declared.played.Broken.{Broken}
use Rattle.mail_drill.specs.declared.played.Broken.TheVariants as brokens
use Rattle.mail_drill.specs.declared.quiet_world.QuietWorld.{QuietWorld}

-- What is known of a command that was carried out in a world in which nothing fails. Neither the disk nor the input nor the output is to
-- blame, memory sufficed, and no limit was passed. And a `play` came to its end, where none was connected before it and the server has each
-- mailbox of the book.
pub record RanCalmly (account : Credentials) (words : List (List ℕ)) (input : List ℕ) (old new : QuietWorld) (s : Status) : Type 0 where
  pub ran : Ran account words input old new s
  pub no_disk : s ≡ status.Disk → ⊥
  pub no_input : s ≡ status.Input → ⊥
  pub no_output : s ≡ status.Output → ⊥
  pub no_memory : s ≡ status.Memory → ⊥
  pub no_limit : s ≡ status.Limit → ⊥
  pub completes : WritesPlay words → IsKeptNow (now_of old) → Untouched (clock_of old)
      → HasEachBox (seen_of old) (now_of old).outside.server → CameToItsEnd s

-- nothing is against a command without an input: carried out in such a world it ends with 0
abbrev pub NothingAgainst : Credentials → List (List ℕ) → QuietWorld → QuietWorld → Type 0
NothingAgainst account words old new = (s : Status) → RanCalmly account words [] old new s → s ≡ status.Done

-- a drill ended before its time for want of memory, or since a limit was passed
abbrev pub IsForeseen : Broken → Type 0
IsForeseen brokens.Memory = ⊤
IsForeseen (brokens.Limit line) = ⊤
IsForeseen (brokens.Unforeseen s) = ⊥
