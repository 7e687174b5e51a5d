-- The exit status of a command, as the manual lists them.
use Rattle.std.specs.Prelude.{ℕ}
use Rattle.mail_base.specs.declared.status.Status.{Status}
use Rattle.mail_base.specs.declared.status.Status.TheVariants as status

-- the number of each status
abbrev pub number_of : Status → ℕ
number_of status.Done = 0
number_of status.Conflicts = 1
number_of status.Words = 2
number_of status.Disk = 3
number_of status.Link = 4
number_of status.Refused = 5
number_of status.Reply = 6
number_of status.Lacking = 7
number_of status.Validity = 8
number_of status.Journal = 9
number_of status.Reason = 10
number_of status.Memory = 11
number_of status.Output = 12
number_of status.Input = 13
number_of status.Limit = 14
number_of status.Shelf = 16
