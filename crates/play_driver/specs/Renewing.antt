-- Whether a mailbox was renewed since it was cached: SELECT told a UIDVALIDITY above the cache's (RFC 9051, section 2.3.1.1).
use Rattle.std.specs.Prelude.{ℕ, nat_lt, Option, Some, None, Result, Ok, Err, if◌then◌else◌}
use Rattle.imap_model.specs.declared.replies.Replies.{Replies}
use Rattle.imap_session.specs.declared.chosen.Chosen.{Chosen}
use Rattle.mailbox_cache.specs.declared.cache.Cache.{Cache}
use Rattle.mailbox_cache.specs.declared.delta.Delta.{Delta}
use Rattle.qresync_core.specs.ToldCodes.{told_codes}
use Rattle.qresync_core.specs.declared.codes.Codes.{Codes}
use Rattle.qresync_core.specs.declared.fault.CodeFault.{CodeFault}
use Rattle.qresync_core.specs.declared.fault.ResyncFault.{ResyncFault}
use Rattle.play_driver.specs.declared.resync.Heard.{Heard}
use Rattle.play_driver.specs.declared.resync.Heard.TheVariants as heards
use Rattle.play_driver.specs.declared.session.Held.{Held}
use Rattle.play_driver.specs.declared.session.Session.{Session}
use Rattle.play_driver.specs.declared.session.Session.TheVariants as sessions

-- the second number, where it is above the first
abbrev pub above : ℕ → ℕ → Option ℕ
above kept told = if nat_lt kept told then Some told else None

abbrev pub above_codes : ℕ → Result Codes CodeFault → Option ℕ
above_codes kept (Err fault) = None
above_codes kept (Ok codes) = above kept codes.validity

-- the UIDVALIDITY that this reply to SELECT tells, where it is above the cache's
abbrev pub renewed_to : Option Cache → Replies → Option ℕ
renewed_to None selected = None
renewed_to (Some cache) selected = above_codes cache.validity (told_codes selected)

-- of what was told
abbrev pub IfTold : (Chosen → Result Delta ResyncFault → Type 0) → Heard → Type 0
IfTold P (heards.Told chosen told) = P chosen told
IfTold P (heards.Renewed held) = Unit {0}

-- of a reply that is held
abbrev pub IfRenewed : (Held → Type 0) → Heard → Type 0
IfRenewed P (heards.Told chosen told) = Unit {0}
IfRenewed P (heards.Renewed held) = P held

-- the session then
abbrev pub session_of : Heard → Session
session_of (heards.Told chosen told) = sessions.Chosen chosen
session_of (heards.Renewed held) = sessions.Held held
