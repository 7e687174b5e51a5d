-- The lines of `play`, of why it ended early, of an input that failed, and of a limit (this client's profile). Each ends with an LF.
use Rattle.std.specs.Prelude.{ℕ, List, [], ◌∷◌, ◌++◌, codes, decimal, map, take, cond, nat_le, ◌&&◌}
use Rattle.imap_model.specs.declared.item.Item.{Item}
use Rattle.imap_model.specs.declared.item.Item.TheVariants as items
use Rattle.imap_model.specs.declared.limit.Limit.{Limit}
use Rattle.imap_model.specs.declared.limit.Limit.TheVariants as limits
use Rattle.mail_base.specs.Lines.{numbered}

-- the run came to its end: so many actions were settled in it, and so many of them as conflicts
abbrev pub played : ℕ → ℕ → List ℕ
played settled conflicts = codes "played " ++ decimal settled ++ codes " conflicts " ++ decimal conflicts ++ 10 ∷ []

-- the link failed
abbrev pub error_link : List ℕ
error_link = codes "error link" ++ 10 ∷ []

-- the input failed
abbrev pub error_input : List ℕ
error_input = codes "error input" ++ 10 ∷ []

-- a byte of a server's line as it is printed: one from 32 to 126 as it is, and any other as `?`
abbrev pub shown_byte : ℕ → ℕ
shown_byte byte = cond (nat_le 32 byte && nat_le byte 126) byte 63

-- the server refused by this line, of which at most the first 200 bytes are shown
abbrev pub error_refused : List ℕ → List ℕ
error_refused line = codes "error refused: " ++ map shown_byte (take 200 line) ++ 10 ∷ []

-- the name of what a server lacks: as the standards write it (RFC 9051; RFC 7162; RFC 4315; RFC 6851), but LOGIN, STICKY and ROW
-- are this client's
abbrev pub item_name : Item → List ℕ
item_name items.Qresync = codes "QRESYNC"
item_name items.Uidplus = codes "UIDPLUS"
item_name items.Move = codes "MOVE"
item_name items.Login = codes "LOGIN"
item_name items.ModSeqs = codes "MODSEQ"
item_name items.Sticky = codes "STICKY"
item_name items.UidValidity = codes "UIDVALIDITY"
item_name items.UidNext = codes "UIDNEXT"
item_name items.HighestModSeq = codes "HIGHESTMODSEQ"
item_name items.CopyUid = codes "COPYUID"
item_name items.AppendUid = codes "APPENDUID"
item_name items.Flags = codes "FLAGS"
item_name items.ModSeq = codes "MODSEQ"
item_name items.Row = codes "ROW"
item_name items.Body = codes "BODY"

-- the bytes that came in the connection don't go on as a reply at this place
abbrev pub error_reply_at : ℕ → List ℕ
error_reply_at at = numbered (codes "error reply ") at

-- the reply lacks this
abbrev pub error_reply_lacks : Item → List ℕ
error_reply_lacks item = codes "error reply lacks " ++ item_name item ++ 10 ∷ []

-- the highest mod-sequence that was told is below the kept one
abbrev pub error_reply_modseq : ℕ → ℕ → List ℕ
error_reply_modseq kept told = codes "error reply modseq " ++ decimal kept ++ 32 ∷ decimal told ++ 10 ∷ []

-- the UIDVALIDITY that was told of the mailbox is below that of its cache, or of an action's message or intent
abbrev pub error_reply_validity : List ℕ → ℕ → ℕ → List ℕ
error_reply_validity name kept told = codes "error reply validity " ++ name ++ 32 ∷ decimal kept ++ 32 ∷ decimal told ++ 10 ∷ []

-- the server lacks a thing that this client needs
abbrev pub error_lacking : Item → List ℕ
error_lacking item = codes "error lacking " ++ item_name item ++ 10 ∷ []

-- a limit's name
abbrev pub limit_name : Limit → List ℕ
limit_name limits.Literal = codes "literal"
limit_name limits.Line = codes "line"
limit_name limits.Reply = codes "reply"
limit_name limits.Rows = codes "rows"
limit_name limits.Flags = codes "flags"
limit_name limits.Flag = codes "flag"
limit_name limits.Journal = codes "journal"
limit_name limits.Actions = codes "actions"
limit_name limits.Generation = codes "generation"

-- a limit is passed by this number
abbrev pub error_limit : Limit → ℕ → List ℕ
error_limit which number = codes "error limit " ++ limit_name which ++ 32 ∷ decimal number ++ 10 ∷ []

-- the queue would have more actions than it may
abbrev pub limit_actions : List ℕ
limit_actions = error_limit limits.Actions 1000001
