-- Why a store isn't made or opened, or an event isn't recorded, as its parts tell it.
use Rattle.journal_core.specs.declared.fault.OpenFault.{OpenFault}
use Rattle.journal_core.specs.declared.fault.OpenFault.TheVariants as opening
use Rattle.journal_core.specs.declared.creating.CreateFault.{CreateFault}
use Rattle.journal_core.specs.declared.creating.CreateFault.TheVariants as creating
use Rattle.journal_core.specs.declared.appending.AppendFault.{AppendFault}
use Rattle.journal_core.specs.declared.appending.AppendFault.TheVariants as adding
use Rattle.journal_core.specs.declared.turning.TurnFault.{TurnFault}
use Rattle.journal_core.specs.declared.turning.TurnFault.TheVariants as turning
use Rattle.store_core.specs.declared.fault.StoreFault.{StoreFault}
use Rattle.store_core.specs.declared.fault.StoreFault.TheVariants as store
use Rattle.store_core.specs.declared.fault.CommitFault.{CommitFault}
use Rattle.store_core.specs.declared.fault.CommitFault.TheVariants as commit

-- the same fault
abbrev pub of_opening : OpenFault → StoreFault
of_opening opening.Memory = store.Memory
of_opening opening.Disk = store.Disk
of_opening (opening.NotAJournal why) = store.NotAJournal why

abbrev pub of_creating : CreateFault → StoreFault
of_creating creating.Memory = store.Memory
of_creating creating.Disk = store.Disk
of_creating (creating.NotAJournal why) = store.NotAJournal why
of_creating creating.Already = store.Already
of_creating (creating.Full end wanted) = store.Full end wanted

abbrev pub of_adding : AppendFault → CommitFault
of_adding adding.Disk = commit.Disk
of_adding (adding.Full end wanted) = commit.Full end wanted

abbrev pub of_turning : TurnFault → StoreFault
of_turning turning.Disk = store.Disk
of_turning (turning.Full end wanted) = store.Full end wanted
