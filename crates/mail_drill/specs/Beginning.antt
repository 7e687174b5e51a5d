-- The world that a drill begins with.
use Rattle.std.specs.Prelude.{◌≡◌, ℕ, zero, suc, ◌+◌, true, List, [], ◌∷◌, ◌++◌, codes}
use Rattle.imap_model.specs.declared.server.Mailbox.{Mailbox}
use Rattle.imap_model.specs.declared.server.Message.{Message}
use Rattle.journal_core.specs.Creating.{IsUnbegun}
use Rattle.world_traits.specs.Moments.{Moment, Rests}
use Rattle.world_mem.specs.Planned.{unbegun as not_begun}
use Rattle.world_mem.specs.Worlds.{planned_of, run_in}
use Rattle.world_mem.specs.declared.mem_world.MemWorld.{MemWorld}
use Rattle.mail_top.specs.KeptNow.{IsKeptNow}
use Rattle.mail_drill.specs.Alone.{is_alone}
use Rattle.mail_drill.specs.Came.{files_of}
use Rattle.mail_drill.specs.Misfortunes.{nothing_fails}
use Rattle.mail_drill.specs.Texts.{message_text}

-- its moment
abbrev pub moment_of : MemWorld → Moment
moment_of world = (run_in world).clock.now

-- a message has no flags, and its UID for a mod-sequence; its text names the UID
abbrev pub message_at_first : ℕ → Message
message_at_first uid = record { uid = uid; flags = []; modseq = uid; text = message_text 109 uid }

-- so many of them, by the UIDs from 1
abbrev pub messages_at_first : ℕ → List Message
messages_at_first zero = []
messages_at_first (suc before) = messages_at_first before ++ message_at_first (suc before) ∷ []

-- INBOX has so many messages, and Archive none
abbrev pub boxes_at_first : ℕ → List Mailbox
boxes_at_first size =
    record {
      name = codes "INBOX";
      validity = 5;
      uidnext = size + 1;
      highest = size;
      messages = messages_at_first size;
      gone = [];
    } ∷ record { name = codes "Archive"; validity = 9; uidnext = 1; highest = 1; messages = []; gone = [] } ∷ []

-- No side is begun, the server has these mailboxes, in which nothing was changed, and has told nothing; and by its plan nothing fails and
-- nobody else changes anything.
pub record IsNew (size : ℕ) (world : MemWorld) : Type 0 where
  pub rests : Rests (moment_of world) (files_of world)
  pub unbegun : IsUnbegun (files_of world)
  pub kept : IsKeptNow (moment_of world)
  pub boxes : (moment_of world).outside.server.boxes ≡ boxes_at_first size
  pub history : (moment_of world).outside.server.history ≡ []
  pub untold : (moment_of world).outside.talk.told ≡ []
  pub offers : (run_in world).state.choices.offers ≡ codes "IMAP4rev2" ∷ codes "QRESYNC" ∷ []
  pub planned : planned_of world ≡ not_begun nothing_fails
  pub alone : is_alone (run_in world).clock ≡ true
