-- UIDs that several lines told to be gone (RFC 7162, section 3.2.10).
use Rattle.std.specs.Prelude.{List, [], ◌∷◌, ◌++◌}
use Rattle.uid_sets.specs.declared.uid.UidRange.{UidRange}
use Rattle.qresync_core.specs.declared.gone_sets.Lines.{Lines}

-- the ranges of all of them: a UID is in one of these where one of the lines told it
abbrev pub all_ranges : List Lines → List UidRange
all_ranges [] = []
all_ranges (lines ∷ sets) = lines.uids ++ all_ranges sets
