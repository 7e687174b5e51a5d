-- The words that name what is asked for.
use Rattle.std.specs.Prelude.{ℕ, List, codes}
use Rattle.mail_bench.specs.declared.load.Case.{Case}
use Rattle.mail_bench.specs.declared.load.Case.TheVariants as cases
use Rattle.mail_bench.specs.declared.records.Direction.{Direction}
use Rattle.mail_bench.specs.declared.records.Direction.TheVariants as directions
use Rattle.mail_bench.specs.declared.replies.Keeper.{Keeper}
use Rattle.mail_bench.specs.declared.replies.Keeper.TheVariants as keepers
use Rattle.mail_bench.specs.declared.replies.Kind.{Kind}
use Rattle.mail_bench.specs.declared.replies.Kind.TheVariants as kinds
use Rattle.mail_bench.specs.declared.stores.Part.{Part}
use Rattle.mail_bench.specs.declared.stores.Part.TheVariants as parts
use Rattle.mail_bench.specs.declared.commits.Told.{Told}
use Rattle.mail_bench.specs.declared.commits.Told.TheVariants as resyncs

-- which stream
abbrev pub name_of_case : Case → List ℕ
name_of_case cases.Lines = codes "lines"
name_of_case cases.Literals = codes "literals"
name_of_case cases.Bytes = codes "bytes"

-- what is done with a record
abbrev pub name_of_direction : Direction → List ℕ
name_of_direction directions.Encode = codes "encode"
name_of_direction directions.Decode = codes "decode"

-- what is done with a journal
abbrev pub name_of_part : Part → List ℕ
name_of_part parts.Make = codes "make"
name_of_part parts.Open = codes "open"

-- what a resynchronisation tells
abbrev pub name_of_told : Told → List ℕ
name_of_told resyncs.Nothing = codes "nothing"
name_of_told resyncs.All = codes "all"

-- what is kept of the lines of replies
abbrev pub name_of_keeper : Keeper → List ℕ
name_of_keeper keepers.Make = codes "make"
name_of_keeper keepers.Gather = codes "gather"

-- which lines they are
abbrev pub name_of_kind : Kind → List ℕ
name_of_kind kinds.Rising = codes "rising"
name_of_kind kinds.Mixed = codes "mixed"
name_of_kind kinds.Same = codes "same"
name_of_kind kinds.Vanished = codes "vanished"
name_of_kind kinds.Idle = codes "idle"
