-- One lawful server, as a plain program: what it does and tells for each command (RFC 9051, sections 6 and 7; RFC 7162,
-- sections 3.1 and 3.2). Where a server may choose, this is a choice and no rule.
use Rattle.std.specs.Prelude.{ℕ, ◌==◌, ◌&&◌, nat_lt, nat_le, Bool, false, true, List, [], ◌∷◌, ◌++◌, Option, Some, None, is_some, length}
use Rattle.std.specs.Prelude.{map, filter, codes, if◌then◌else◌}
use Rattle.std.specs.List.{list_any}
use Rattle.std.specs.Str.{bytes_eq}
use Rattle.flag_set.specs.FlagSet.{has, union, minus}
use Rattle.mail_base.specs.declared.tag.Tag.{Tag}
use Rattle.uid_sets.specs.declared.uid.UidRange.{UidRange}
use Rattle.imap_model.specs.CarriedOut.{only}
use Rattle.imap_model.specs.Carrying.{deleted}
use Rattle.imap_model.specs.Lawful.{broken_rule}
use Rattle.imap_model.specs.Lookups.{box_at, message_at, validity_of}
use Rattle.imap_model.specs.PlainChanges.{with_change}
use Rattle.imap_model.specs.Remarks.{selected_box}
use Rattle.imap_model.specs.Searching.{in_tail, lower, has_in_id_caseless}
use Rattle.imap_model.specs.ToldRows.{told_flags, row_of, ids_of, text_of}
use Rattle.imap_model.specs.UidLists.{set_of}
use Rattle.imap_model.specs.declared.code.Code.{Code}
use Rattle.imap_model.specs.declared.code.Code.TheVariants as codings
use Rattle.imap_model.specs.declared.command.Command.{Command}
use Rattle.imap_model.specs.declared.command.Command.TheVariants as commands
use Rattle.imap_model.specs.declared.deed.Author.TheVariants.{Ours}
use Rattle.imap_model.specs.declared.deed.Change.{Change}
use Rattle.imap_model.specs.declared.deed.Change.TheVariants as changes
use Rattle.imap_model.specs.declared.ending.Ending.TheVariants as endings
use Rattle.imap_model.specs.declared.mark.Mark.{Mark}
use Rattle.imap_model.specs.declared.replies.Replies.{Replies}
use Rattle.imap_model.specs.declared.response.Response.{Response}
use Rattle.imap_model.specs.declared.response.Response.TheVariants as responses
use Rattle.imap_model.specs.declared.server.Gone.{Gone}
use Rattle.imap_model.specs.declared.server.Message.{Message}
use Rattle.imap_model.specs.declared.server.Mailbox.{Mailbox}
use Rattle.imap_model.specs.declared.server.Server.{Server}

-- What the server offers, which flags it says can be changed for good, and the mailbox that it appends nothing to, if any.
pub record Choices : Type 0 where
  pub offers : List (List ℕ)
  pub flags : List (List ℕ)
  pub any : Bool
  pub closed : Option (List ℕ)

-- the replies to a command, the server after it, and what is selected then
pub record Turn : Type 0 where
  pub replies : Replies
  pub server : Server
  pub selected : Option (List ℕ)

-- whether a name is offered, in any case
abbrev pub is_offered : List (List ℕ) → List ℕ → Bool
is_offered offers name = list_any (λ word. bytes_eq (lower word) (lower name)) offers

abbrev pub has_rev2 : Choices → Bool
has_rev2 c = is_offered c.offers (codes "IMAP4rev2")

-- an OK, and a NO without more
abbrev pub accepted : List Response → Code → Replies
accepted untagged code = record { untagged = untagged; ending = endings.Ok; code = code }

abbrev pub denied : Code → Replies
denied code = record { untagged = []; ending = endings.No; code = code }

-- nothing changes
abbrev pub answered : Option (List ℕ) → Server → Replies → Turn
answered selected s r = record { replies = r; server = s; selected = selected }

-- CAPABILITY: what is offered; a server that offers nothing has no line for it
abbrev pub offers_told : List (List ℕ) → List Response
offers_told [] = []
offers_told (word ∷ words) = responses.Capability (word ∷ words) ∷ []

-- ENABLE: what was asked for and is offered
abbrev pub enabled_names : Choices → Bool → List (List ℕ)
enabled_names c rev2 = filter (is_offered c.offers) (if rev2 then codes "IMAP4rev2" ∷ codes "QRESYNC" ∷ [] else codes "QRESYNC" ∷ [])

-- the rows of those messages that pass a test
abbrev pub rows_where : (Message → Bool) → List Message → List Response
rows_where test messages = map (λ m. responses.Fetch (row_of m)) (filter test messages)

abbrev pub any_message : Message → Bool
any_message m = true

abbrev pub row_if : Option Message → List Response
row_if None = []
row_if (Some m) = responses.Fetch (row_of m) ∷ []

-- IMAP4rev1: the highest mod-sequence is told with each UID FETCH
abbrev pub fetch_code : Choices → Mailbox → Code
fetch_code c b = if has_rev2 c then codings.None else codings.HighestModSeq b.highest

-- the UIDs that went above a mod-sequence
abbrev pub gone_above : ℕ → List Gone → List ℕ
gone_above modseq [] = []
gone_above modseq (g ∷ gone) = if nat_lt modseq g.modseq then g.uid ∷ gone_above modseq gone else gone_above modseq gone

-- VANISHED: no line where nothing went
abbrev pub vanished_of : List ℕ → List Response
vanished_of [] = []
vanished_of (uid ∷ uids) = responses.Vanished true (set_of (uid ∷ uids)) ∷ []

abbrev pub told_above : ℕ → Mailbox → List Response
told_above modseq b = vanished_of (gone_above modseq b.gone) ++ rows_where (λ m. nat_lt modseq m.modseq) b.messages

abbrev pub told_since : Option Mark → Mailbox → List Response
told_since None b = []
told_since (Some mark) b = if mark.validity == b.validity then told_above mark.modseq b else []

-- IMAP4rev1: RECENT, FLAGS, and a line that no standard knows
abbrev pub older_told : Choices → List Response
older_told c = if has_rev2 c then [] else responses.Other ∷ responses.Other ∷ responses.Other ∷ []

abbrev pub coded : Code → Response
coded code = responses.Untagged endings.Ok code

-- SELECT: CLOSED where a mailbox was selected, and then what is told of the new one
abbrev pub closed_told : Option (List ℕ) → List Response
closed_told None = []
closed_told (Some name) = coded codings.Closed ∷ []

abbrev pub select_told : Choices → Option Mark → Mailbox → List Response
select_told c since b =
    responses.Exists (length b.messages) ∷ coded (codings.PermanentFlags (told_flags c.flags) c.any) ∷ coded (codings.UidValidity b.validity)
    ∷ coded (codings.UidNext b.uidnext) ∷ coded (codings.HighestModSeq b.highest) ∷ (older_told c ++ told_since since b)

abbrev pub select_turn : Choices → Option (List ℕ) → List ℕ → Option Mark → Server → Option Mailbox → Turn
select_turn c selected name since s None = answered None s (denied codings.Other)
select_turn c selected name since s (Some b) = answered (Some name) s (accepted (closed_told selected ++ select_told c since b) codings.Other)

-- a question about the selected mailbox: NO where there is none
abbrev pub question_turn : Option (List ℕ) → Server → (Mailbox → Replies) → Option Mailbox → Turn
question_turn selected s reply None = answered selected s (denied codings.Other)
question_turn selected s reply (Some b) = answered selected s (reply b)

-- SEARCH: ASCII's case doesn't count
abbrev pub is_found : ℕ → List ℕ → List Message → Message → Bool
is_found from id messages m = in_tail from messages m.uid && has_in_id_caseless id m.text

abbrev pub found_in : ℕ → List ℕ → List Message → List ℕ
found_in from id messages = map (λ m. m.uid) (filter (is_found from id messages) messages)

-- FETCH of Message-ID fields
abbrev pub is_named : List UidRange → Message → Bool
is_named uids m = list_any (λ range. nat_le range.low m.uid && nat_le m.uid range.high) uids

abbrev pub ids_in : List UidRange → List Message → List Response
ids_in uids messages = map (λ m. responses.Fetch (ids_of m)) (filter (is_named uids) messages)

-- FETCH of a text: no line where the UID isn't there
abbrev pub text_if : Option Message → List Response
text_if None = []
text_if (Some m) = responses.Fetch (text_of m) ∷ []

-- a change by this client, unless a rule forbids it
abbrev pub change_turn : Option (List ℕ) → Tag → List ℕ → Change → Server → (Server → Replies) → Turn
change_turn selected tag name change s reply =
    if is_some (broken_rule s.boxes name change) then answered selected s (denied codings.Other) else
    answered selected (with_change (Ours tag) name change s) (reply (with_change (Ours tag) name change s))

-- STORE: the message's flags with, or without, those that are asked for
abbrev pub stored_flags : Bool → List (List ℕ) → List (List ℕ) → List (List ℕ)
stored_flags add asked old = if add then union old asked else minus old asked

abbrev pub row_in : ℕ → Option Mailbox → List Response
row_in uid None = []
row_in uid (Some b) = row_if (message_at uid b.messages)

abbrev pub store_message : List ℕ → Tag → ℕ → ℕ → Bool → List (List ℕ) → Server → Option Message → Turn
store_message name tag uid since add asked s None = answered (Some name) s (accepted [] codings.None)
store_message name tag uid since add asked s (Some m) =
    if nat_lt since m.modseq then answered (Some name) s (denied (codings.Modified (only uid))) else
    change_turn (Some name) tag name (changes.SetFlags uid (stored_flags add asked m.flags)) s
    (λ t. accepted (row_in uid (box_at name t.boxes)) codings.None)

abbrev pub store_in : List ℕ → Tag → ℕ → ℕ → Bool → List (List ℕ) → Server → Option Mailbox → Turn
store_in name tag uid since add asked s None = answered (Some name) s (denied codings.Other)
store_in name tag uid since add asked s (Some b) = store_message name tag uid since add asked s (message_at uid b.messages)

abbrev pub store_turn : Option (List ℕ) → Tag → ℕ → ℕ → Bool → List (List ℕ) → Server → Turn
store_turn None tag uid since add asked s = answered None s (denied codings.Other)
store_turn (Some name) tag uid since add asked s = store_in name tag uid since add asked s (box_at name s.boxes)

-- MOVE: a UID that isn't there is passed over; what came has the UIDNEXT of its new mailbox
abbrev pub copied_code : ℕ → List ℕ → ℕ → Server → Code
copied_code uid to new t = codings.CopyUid (validity_of (box_at to t.boxes)) (only uid) (only new)

abbrev pub move_message : List ℕ → Tag → ℕ → List ℕ → Server → Mailbox → Option Message → Turn
move_message name tag uid to s target None = answered (Some name) s (accepted [] codings.None)
move_message name tag uid to s target (Some m) =
    change_turn (Some name) tag name (changes.Shift uid to target.uidnext) s
    (λ t. accepted (coded (copied_code uid to target.uidnext t) ∷ responses.Vanished false (only uid) ∷ []) codings.None)

abbrev pub move_in : List ℕ → Tag → ℕ → List ℕ → Server → Option Mailbox → Option Mailbox → Turn
move_in name tag uid to s None target = answered (Some name) s (denied codings.Other)
move_in name tag uid to s (Some b) None = answered (Some name) s (denied codings.Other)
move_in name tag uid to s (Some b) (Some target) = move_message name tag uid to s target (message_at uid b.messages)

abbrev pub move_turn : Option (List ℕ) → Tag → ℕ → List ℕ → Server → Turn
move_turn None tag uid to s = answered None s (denied codings.Other)
move_turn (Some name) tag uid to s = move_in name tag uid to s (box_at name s.boxes) (box_at to s.boxes)

-- COPY: a UID that isn't there is passed over; what came has the UIDNEXT that its mailbox had
abbrev pub copy_message : List ℕ → Tag → ℕ → List ℕ → Server → Mailbox → Option Message → Turn
copy_message name tag uid to s target None = answered (Some name) s (accepted [] codings.None)
copy_message name tag uid to s target (Some m) =
    change_turn (Some name) tag to (changes.Add m.flags m.text target.uidnext) s (λ t. accepted [] (copied_code uid to target.uidnext t))

abbrev pub copy_in : List ℕ → Tag → ℕ → List ℕ → Server → Option Mailbox → Option Mailbox → Turn
copy_in name tag uid to s None target = answered (Some name) s (denied codings.Other)
copy_in name tag uid to s (Some b) None = answered (Some name) s (denied codings.Other)
copy_in name tag uid to s (Some b) (Some target) = copy_message name tag uid to s target (message_at uid b.messages)

abbrev pub copy_turn : Option (List ℕ) → Tag → ℕ → List ℕ → Server → Turn
copy_turn None tag uid to s = answered None s (denied codings.Other)
copy_turn (Some name) tag uid to s = copy_in name tag uid to s (box_at name s.boxes) (box_at to s.boxes)

-- EXPUNGE: a UID that isn't there is passed over, and so is a message that isn't marked as deleted
abbrev pub expunge_message : List ℕ → Tag → ℕ → Server → Option Message → Turn
expunge_message name tag uid s None = answered (Some name) s (accepted [] codings.None)
expunge_message name tag uid s (Some m) =
    if has m.flags deleted then
    change_turn (Some name) tag name (changes.Drop uid) s (λ t. accepted (responses.Vanished false (only uid) ∷ []) codings.None)
    else answered (Some name) s (accepted [] codings.None)

abbrev pub expunge_in : List ℕ → Tag → ℕ → Server → Option Mailbox → Turn
expunge_in name tag uid s None = answered (Some name) s (denied codings.Other)
expunge_in name tag uid s (Some b) = expunge_message name tag uid s (message_at uid b.messages)

abbrev pub expunge_turn : Option (List ℕ) → Tag → ℕ → Server → Turn
expunge_turn None tag uid s = answered None s (denied codings.Other)
expunge_turn (Some name) tag uid s = expunge_in name tag uid s (box_at name s.boxes)

-- APPEND: NO where the mailbox is missing, or is the one that nothing is appended to
abbrev pub is_closed : Option (List ℕ) → List ℕ → Bool
is_closed None name = false
is_closed (Some closed) name = bytes_eq closed name

abbrev pub append_turn : Option (List ℕ) → Tag → List ℕ → List (List ℕ) → List ℕ → Server → Option Mailbox → Turn
append_turn selected tag to flags text s None = answered selected s (denied codings.Other)
append_turn selected tag to flags text s (Some b) =
    change_turn selected tag to (changes.Add flags text b.uidnext) s
    (λ t. accepted [] (codings.AppendUid (validity_of (box_at to t.boxes)) b.uidnext))

-- what the server does and tells for a command
abbrev pub turn_of : Choices → Option (List ℕ) → Tag → Command → Server → Turn
turn_of c selected tag commands.Capability s = answered selected s (accepted (offers_told c.offers) codings.None)
turn_of c selected tag (commands.Login account) s = answered selected s (accepted [] codings.None)
turn_of c selected tag (commands.Plain account) s = answered selected s (accepted [] codings.None)
turn_of c selected tag (commands.Enable rev2) s = answered selected s (accepted (responses.Enabled (enabled_names c rev2) ∷ []) codings.None)
turn_of c selected tag (commands.Select name since) s = select_turn c selected name since s (box_at name s.boxes)
turn_of c selected tag commands.FetchAll s =
    question_turn selected s (λ b. accepted (rows_where any_message b.messages) (fetch_code c b)) (selected_box selected s.boxes)
turn_of c selected tag (commands.FetchRow uid) s =
    question_turn selected s (λ b. accepted (row_if (message_at uid b.messages)) (fetch_code c b)) (selected_box selected s.boxes)
turn_of c selected tag (commands.Search from id) s =
    question_turn selected s (λ b. accepted (responses.Found (set_of (found_in from id b.messages)) ∷ []) codings.None) (selected_box selected s.boxes)
turn_of c selected tag (commands.FetchIds uids) s =
    question_turn selected s (λ b. accepted (ids_in uids b.messages) (fetch_code c b)) (selected_box selected s.boxes)
turn_of c selected tag (commands.FetchText uid) s =
    question_turn selected s (λ b. accepted (text_if (message_at uid b.messages)) (fetch_code c b)) (selected_box selected s.boxes)
turn_of c selected tag (commands.Store uid since add flags) s = store_turn selected tag uid since add flags s
turn_of c selected tag (commands.Shift uid to) s = move_turn selected tag uid to s
turn_of c selected tag (commands.Copy uid to) s = copy_turn selected tag uid to s
turn_of c selected tag (commands.Expunge uid) s = expunge_turn selected tag uid s
turn_of c selected tag (commands.Append to flags text) s =
    if is_closed c.closed to then answered selected s (denied codings.Other) else append_turn selected tag to flags text s (box_at to s.boxes)
turn_of c selected tag commands.Logout s = answered selected s (accepted (responses.Bye ∷ []) codings.None)
