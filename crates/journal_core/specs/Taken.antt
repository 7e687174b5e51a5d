-- Why no journal can be created.
use Rattle.std.specs.Prelude.{◌≡◌}
use Rattle.world_traits.specs.Files.{Files}
use Rattle.journal_core.specs.Creating.{IsTaken}
use Rattle.journal_core.specs.Reading.{AnyWrong}
use Rattle.journal_core.specs.declared.creating.CreateFault.{CreateFault}
use Rattle.journal_core.specs.declared.creating.CreateFault.TheVariants.{Memory, Disk, NotAJournal, Already, Full}
use Rattle.journal_core.specs.declared.fault.Place9.TheVariants.{Header}

-- a side has a wrong header, or else one is set up
abbrev pub IsWhyTaken : CreateFault → Files → Type 0
IsWhyTaken Memory files = ⊥
IsWhyTaken Disk files = ⊥
IsWhyTaken (NotAJournal why) files = (why ≡ Header) × AnyWrong files
IsWhyTaken Already files = IsTaken files
IsWhyTaken (Full end wanted) files = ⊥
