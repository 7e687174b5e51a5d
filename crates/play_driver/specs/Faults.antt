-- The fault of a run for that of a session, of a resynchronisation, or of a record.
use Rattle.std.specs.Prelude.{ℕ, List}
use Rattle.imap_model.specs.declared.item.Item.TheVariants as items
use Rattle.imap_model.specs.declared.limit.Limit.TheVariants as limits
use Rattle.imap_session.specs.declared.fault.SessionFault.{SessionFault}
use Rattle.imap_session.specs.declared.fault.SessionFault.TheVariants as sessions
use Rattle.playback.specs.declared.need.Unheard.{Unheard}
use Rattle.playback.specs.declared.need.Unheard.TheVariants as unheards
use Rattle.qresync_core.specs.declared.fault.ResyncFault.{ResyncFault}
use Rattle.qresync_core.specs.declared.fault.ResyncFault.TheVariants as resyncs
use Rattle.store_core.specs.declared.fault.CommitFault.{CommitFault}
use Rattle.store_core.specs.declared.fault.CommitFault.TheVariants as commits
use Rattle.play_driver.specs.declared.fault.PlayFault.{PlayFault}
use Rattle.play_driver.specs.declared.fault.PlayFault.TheVariants as faults
use Rattle.play_driver.specs.declared.fault.Why.TheVariants as whys

-- a session ended
abbrev pub of_session : SessionFault → PlayFault
of_session sessions.Memory = faults.Memory
of_session sessions.Link = faults.Link
of_session (sessions.Refused line) = faults.Refused line
of_session (sessions.BadReply at) = faults.BadReply (whys.At at)
of_session (sessions.Lacking item) = faults.Lacking item
of_session (sessions.TooLarge limit number) = faults.Limit limit number

-- what was told of the mailbox of this name makes no delta
abbrev pub of_resync : List ℕ → ResyncFault → PlayFault
of_resync name resyncs.Memory = faults.Memory
of_resync name resyncs.NoModSeq = faults.Lacking items.ModSeqs
of_resync name resyncs.NotSticky = faults.Lacking items.Sticky
of_resync name (resyncs.NoCode which) = faults.BadReply (whys.Lacks which)
of_resync name (resyncs.Validity kept told) = faults.BadReply (whys.Older name kept told)
of_resync name (resyncs.Unfit kept told) = faults.BadReply (whys.Lower kept told)
of_resync name (resyncs.BareRow index) = faults.BadReply (whys.Lacks items.Row)

-- what was told of the mailbox of this name isn't taken
abbrev pub of_unheard : List ℕ → Unheard → PlayFault
of_unheard name unheards.Memory = faults.Memory
of_unheard name (unheards.Resync fault) = of_resync name fault
of_unheard name (unheards.Target kept told) = faults.BadReply (whys.Older name kept told)
of_unheard name (unheards.Lacks item) = faults.BadReply (whys.Lacks item)
of_unheard name (unheards.Rows count) = faults.Limit limits.Rows count

-- an event isn't recorded
abbrev pub of_commit : CommitFault → PlayFault
of_commit commits.Memory = faults.Memory
of_commit commits.Disk = faults.Disk
of_commit (commits.Full end wanted) = faults.Limit limits.Journal wanted

-- what the server told is at fault: it is no reply, lacks something, or tells that a needed thing is lacking
abbrev pub IsReplyFault : PlayFault → Type 0
IsReplyFault faults.Memory = ⊥
IsReplyFault faults.Disk = ⊥
IsReplyFault faults.Link = ⊥
IsReplyFault (faults.Refused line) = ⊥
IsReplyFault (faults.BadReply why) = Unit {0}
IsReplyFault (faults.Lacking what) = Unit {0}
IsReplyFault (faults.Limit which number) = ⊥

-- what may end a run whose server serves it: want of memory, the disk, the link, or a limit that is passed
abbrev pub ComesAnyway : PlayFault → Type 0
ComesAnyway faults.Memory = Unit {0}
ComesAnyway faults.Disk = Unit {0}
ComesAnyway faults.Link = Unit {0}
ComesAnyway (faults.Refused line) = ⊥
ComesAnyway (faults.BadReply why) = ⊥
ComesAnyway (faults.Lacking what) = ⊥
ComesAnyway (faults.Limit which number) = Unit {0}
