-- What a server has under a name, and a mailbox under a UID (RFC 9051, sections 2.3.1.1 and 5.1).
use Rattle.std.specs.Prelude.{ℕ, ◌==◌, List, [], ◌∷◌, Option, Some, None, if◌then◌else◌}
use Rattle.std.specs.Str.{bytes_eq}
use Rattle.imap_model.specs.declared.server.Message.{Message}
use Rattle.imap_model.specs.declared.server.Gone.{Gone}
use Rattle.imap_model.specs.declared.server.Mailbox.{Mailbox}

-- the mailbox of a name
abbrev pub box_at : List ℕ → List Mailbox → Option Mailbox
box_at name [] = None
box_at name (b ∷ bs) = if bytes_eq b.name name then Some b else box_at name bs

-- a mailbox in place of that of its name
abbrev pub put_box : Mailbox → List Mailbox → List Mailbox
put_box new [] = []
put_box new (b ∷ bs) = if bytes_eq b.name new.name then new ∷ bs else b ∷ put_box new bs

-- the message of a UID
abbrev pub message_at : ℕ → List Message → Option Message
message_at uid [] = None
message_at uid (m ∷ ms) = if m.uid == uid then Some m else message_at uid ms

-- a message in place of that of its UID
abbrev pub put_message : Message → List Message → List Message
put_message new [] = []
put_message new (m ∷ ms) = if m.uid == new.uid then new ∷ ms else m ∷ put_message new ms

-- the messages but that of a UID
abbrev pub without_message : ℕ → List Message → List Message
without_message uid [] = []
without_message uid (m ∷ ms) = if m.uid == uid then without_message uid ms else m ∷ without_message uid ms

-- the messages under new UIDs, in their order, all with one mod-sequence
abbrev pub renumbered : List ℕ → ℕ → List Message → List Message
renumbered [] highest ms = []
renumbered (u ∷ us) highest [] = []
renumbered (u ∷ us) highest (m ∷ ms) = record m { uid = u; modseq = highest } ∷ renumbered us highest ms

-- the mod-sequence at which a UID went
abbrev pub gone_at : ℕ → List Gone → Option ℕ
gone_at uid [] = None
gone_at uid (g ∷ gs) = if g.uid == uid then Some g.modseq else gone_at uid gs

-- the highest mod-sequence of a mailbox, and 0 where there is none
abbrev pub highest_of : Option Mailbox → ℕ
highest_of None = 0
highest_of (Some b) = b.highest

-- the UIDVALIDITY of a mailbox, and 0 where there is none
abbrev pub validity_of : Option Mailbox → ℕ
validity_of None = 0
validity_of (Some b) = b.validity
