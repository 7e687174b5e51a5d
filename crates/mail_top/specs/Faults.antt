-- Why a command isn't carried out, as its parts tell it.
use Rattle.flag_set.specs.declared.flag_fault.FlagFault.{FlagFault}
use Rattle.flag_set.specs.declared.flag_fault.FlagFault.TheVariants as flaws
use Rattle.mail_header.specs.declared.identifier.IdFault.{IdFault}
use Rattle.mail_header.specs.declared.identifier.IdFault.TheVariants as ids
use Rattle.store_core.specs.declared.fault.StoreFault.{StoreFault}
use Rattle.store_core.specs.declared.fault.StoreFault.TheVariants as stores
use Rattle.store_core.specs.declared.fault.CommitFault.{CommitFault}
use Rattle.store_core.specs.declared.fault.CommitFault.TheVariants as commits
use Rattle.mail_top.specs.declared.reason.Reason.TheVariants as reasons
use Rattle.mail_top.specs.declared.refusal.Refusal.{Refusal}
use Rattle.mail_top.specs.declared.refusal.Refusal.TheVariants as refusals

-- the same fault; of a full journal the end that it would have
abbrev pub of_store : StoreFault → Refusal
of_store stores.Memory = refusals.Memory
of_store stores.Disk = refusals.Disk
of_store stores.Already = refusals.Already
of_store (stores.Full end wanted) = refusals.Full wanted
of_store (stores.NotAJournal why) = refusals.NotAJournal why

abbrev pub of_commit : CommitFault → Refusal
of_commit commits.Memory = refusals.Memory
of_commit commits.Disk = refusals.Disk
of_commit (commits.Full end wanted) = refusals.Full wanted

-- want of memory, or a flag that a user can't ask for
abbrev pub of_flag : FlagFault → Refusal
of_flag flaws.Memory = refusals.Memory
of_flag (flaws.TooLong length) = refusals.Reason reasons.BadFlag
of_flag (flaws.BadFlag at) = refusals.Reason reasons.BadFlag
of_flag (flaws.TooMany count) = refusals.Reason reasons.BadFlag

-- want of memory, or a message whose Message-ID is refused
abbrev pub of_id : IdFault → Refusal
of_id ids.Memory = refusals.Memory
of_id ids.Missing = refusals.Reason reasons.NoMessageId
of_id (ids.Twice second) = refusals.Reason reasons.NoMessageId
of_id (ids.TooLong length) = refusals.Reason reasons.NoMessageId
of_id (ids.BadForm at) = refusals.Reason reasons.NoMessageId
