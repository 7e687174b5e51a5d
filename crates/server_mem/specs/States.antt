-- A server in memory: its mailboxes and history, what it chooses, what is selected, and what has come of a text that isn't complete.
use Rattle.std.specs.Prelude.{ℕ, Bool, true, false, ◌&&◌, List, [], Option, None, Some, codes, bytes_eq, if◌then◌else◌}
use Rattle.flag_set.specs.FlagList.{flags_of, set_of}
use Rattle.imap_model.specs.PlainServer.{Choices, Turn, turn_of}
use Rattle.imap_model.specs.declared.code.Code.{Code}
use Rattle.imap_model.specs.declared.code.Code.TheVariants as codings
use Rattle.imap_model.specs.declared.command.Command.{Command}
use Rattle.imap_model.specs.declared.server.Mailbox.{Mailbox}
use Rattle.imap_model.specs.declared.server.Server.{Server}
use Rattle.mail_base.specs.declared.tag.Tag.{Tag}

-- `muted` says that APPENDUID is left out. `parts` are the whole parts of the text that is arriving, and `begun` are the bytes behind them. `failed` says that memory
-- was wanting in the midst of what came, and the connection wasn't ended since.
pub record State : Type 0 where
  pub choices : Choices
  pub muted : Bool
  pub selected : Option (List ℕ)
  pub server : Server
  pub parts : List (List ℕ)
  pub begun : List ℕ
  pub failed : Bool

-- the code of an APPEND that was carried out
abbrev pub is_append_uid : Code → Bool
is_append_uid codings.None = false
is_append_uid (codings.Capability words) = false
is_append_uid (codings.UidNext uid) = false
is_append_uid (codings.UidValidity validity) = false
is_append_uid (codings.PermanentFlags flags any) = false
is_append_uid (codings.HighestModSeq modseq) = false
is_append_uid codings.NoModSeq = false
is_append_uid codings.UidNotSticky = false
is_append_uid (codings.AppendUid validity uid) = true
is_append_uid (codings.CopyUid validity source target) = false
is_append_uid (codings.Modified uids) = false
is_append_uid codings.Closed = false
is_append_uid codings.Other = false

-- the code that is told in place of one: a muted server leaves APPENDUID out, as no lawful server does (RFC 4315, section 3)
abbrev pub muted_code : Bool → Code → Code
muted_code muted code = if muted && is_append_uid code then codings.None else code

-- what it would do and tell for a command if it weren't muted
abbrev pub plain_at : State → Tag → Command → Turn
plain_at s tag command = turn_of s.choices s.selected tag command s.server

-- what it does and tells for a command
abbrev pub turn_at : State → Tag → Command → Turn
turn_at s tag command = record (plain_at s tag command) {
  replies = record (plain_at s tag command).replies { code = muted_code s.muted (plain_at s tag command).replies.code };
}

-- this mailbox is selected
abbrev pub is_named : List ℕ → Option (List ℕ) → Bool
is_named name None = false
is_named name (Some selected) = bytes_eq selected name

-- the state after it
abbrev pub after_turn : State → Turn → State
after_turn s turn = record s { server = turn.server; selected = turn.selected }

-- the system flags of RFC 9051, section 2.3.2
abbrev pub usual_flags : List (List ℕ)
usual_flags = set_of (flags_of (codes "\\Answered \\Flagged \\Deleted \\Seen \\Draft"))

-- a server that nothing has happened to
abbrev pub fresh : List Mailbox → List (List ℕ) → State
fresh boxes offers = record {
  choices = record { offers = offers; flags = usual_flags; any = true; closed = None };
  muted = false;
  selected = None;
  server = record { boxes = boxes; history = [] };
  parts = [];
  begun = [];
  failed = false;
}

-- no connection: nothing is selected, and no text has begun
abbrev pub disconnected : State → State
disconnected s = record s { selected = None; parts = []; begun = []; failed = false }
