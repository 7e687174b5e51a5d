-- What a server does and tells as it carries out a command, all of it at one moment (RFC 9051, sections 6 and 7; RFC 7162,
-- sections 3.1 and 3.2; RFC 4315, sections 2.1 and 3).
use Rattle.std.specs.Prelude.{◌≡◌, ◌⊎◌, ℕ, ◌≤◌, Bool, IsTrue, List, [], ◌∷◌, ◌++◌, Option, Some, None, Contains, codes, if◌then◌else◌}
use Rattle.std.specs.List.{AllByRecursion, list_any}
use Rattle.std.specs.Str.{bytes_eq}
use Rattle.mail_base.specs.declared.tag.Tag.{Tag}
use Rattle.uid_sets.specs.UidSet.{Member}
use Rattle.uid_sets.specs.declared.uid.UidRange.{UidRange}
use Rattle.imap_model.specs.Carrying.{Waiting, IsThere, Stores, StoresNothing, Moves, MovesNothing, Copies, Expunges, ExpungesNothing, Appends}
use Rattle.imap_model.specs.Lookups.{box_at, message_at, validity_of}
use Rattle.imap_model.specs.Remarks.{selected_box, MayCode, MaySay, Remarks, CodeTold, RowTold}
use Rattle.imap_model.specs.Searching.{in_tail, lower, has_in_id, has_in_id_caseless}
use Rattle.imap_model.specs.SelectTells.{SelectTells}
use Rattle.imap_model.specs.ToldRows.{TellsIds, TellsText}
use Rattle.imap_model.specs.declared.code.Code.{Code}
use Rattle.imap_model.specs.declared.code.Code.TheVariants as codings
use Rattle.imap_model.specs.declared.command.Command.{Command}
use Rattle.imap_model.specs.declared.command.Command.TheVariants as commands
use Rattle.imap_model.specs.declared.ending.Ending.{Ending}
use Rattle.imap_model.specs.declared.ending.Ending.TheVariants as endings
use Rattle.imap_model.specs.declared.fetched.Fetched.{Fetched}
use Rattle.imap_model.specs.declared.mark.Mark.{Mark}
use Rattle.imap_model.specs.declared.replies.Replies.{Replies}
use Rattle.imap_model.specs.declared.response.Response.{Response}
use Rattle.imap_model.specs.declared.response.Response.TheVariants as responses
use Rattle.imap_model.specs.declared.server.Message.{Message}
use Rattle.imap_model.specs.declared.server.Mailbox.{Mailbox}
use Rattle.imap_model.specs.declared.server.Server.{Server}

-- all that is told in a reply: the untagged responses, and the completion with the command's tag
abbrev pub told_in : Tag → Replies → List Response
told_in tag r = r.untagged ++ responses.Done tag r.ending r.code ∷ []

-- the set of one UID
abbrev pub only : ℕ → List UidRange
only uid = record { low = uid; high = uid } ∷ []

-- neither the server nor the selection changes
pub record Stays (w : Waiting) (s t : Server) (after : Option (List ℕ)) : Type 0 where
  pub server : t ≡ s
  pub selection : after ≡ w.selected

-- nothing but remarks is told
pub record SaysRemarks (selected : Option Mailbox) (r : Replies) : Type 0 where
  pub untagged : Remarks selected r.untagged
  pub code : MayCode selected r.code

-- CAPABILITY, LOGIN, AUTHENTICATE: nothing changes. What is offered is what the server says.
pub record Greets (w : Waiting) (s : Server) (r : Replies) (t : Server) (after : Option (List ℕ)) : Type 0 where
  pub stays : Stays w s t after
  pub says : SaysRemarks (selected_box w.selected s.boxes) r

-- ENABLE: what is told to be enabled was asked for, or is CONDSTORE, which QRESYNC enables too (RFC 7162, section 3.2.3)
abbrev pub asked_names : Bool → List (List ℕ)
asked_names rev2 = if rev2 then codes "IMAP4rev2" ∷ codes "QRESYNC" ∷ codes "CONDSTORE" ∷ [] else codes "QRESYNC" ∷ codes "CONDSTORE" ∷ []

abbrev pub is_asked : Bool → List ℕ → Bool
is_asked rev2 name = list_any (λ asked. bytes_eq (lower asked) (lower name)) (asked_names rev2)

abbrev pub EnableSays : Bool → Option Mailbox → Response → Type 0
EnableSays rev2 selected (responses.Enabled names) = AllByRecursion (λ name. IsTrue (is_asked rev2 name)) names
EnableSays rev2 selected response = MaySay selected response

pub record Enables (rev2 : Bool) (w : Waiting) (s : Server) (r : Replies) (t : Server) (after : Option (List ℕ)) : Type 0 where
  pub stays : Stays w s t after
  pub says : AllByRecursion (EnableSays rev2 (selected_box w.selected s.boxes)) r.untagged
  pub code : MayCode (selected_box w.selected s.boxes) r.code
  pub names : List (List ℕ)
  pub told : Contains r.untagged (responses.Enabled names)

-- SELECT: the mailbox is there, and is selected from now on
pub record Selects (name : List ℕ) (since : Option Mark) (w : Waiting) (s : Server) (r : Replies) (t : Server) (after : Option (List ℕ)) : Type 0 where
  pub box : Mailbox
  pub there : box_at name s.boxes ≡ Some box
  pub server : t ≡ s
  pub selection : after ≡ Some name
  pub tells : SelectTells (selected_box w.selected s.boxes) since box r.untagged r.code

-- a question about the selected mailbox, whose reply may hold these responses
pub record Asks (May : Mailbox → Response → Type 0) (Tells : Mailbox → List Response → Type 0) (w : Waiting) (s : Server) (r : Replies)
    (t : Server) (after : Option (List ℕ)) : Type 0 where
  pub stays : Stays w s t after
  pub box : Mailbox
  pub there : selected_box w.selected s.boxes ≡ Some box
  pub says : AllByRecursion (May box) r.untagged
  pub code : MayCode (Some box) r.code
  pub tells : Tells box r.untagged

-- remarks alone
abbrev pub RowsSay : Mailbox → Response → Type 0
RowsSay b response = MaySay (Some b) response

-- FETCH of all rows: that of each message
abbrev pub EachRow : Mailbox → List Response → Type 0
EachRow b told = (uid : ℕ) (m : Message) → message_at uid b.messages ≡ Some m → RowTold told m

-- FETCH of one row: where the UID is there. (Each row that is told is that of a message that is there.)
abbrev pub OneRow : ℕ → Mailbox → List Response → Type 0
OneRow uid b told = (m : Message) → message_at uid b.messages ≡ Some m → RowTold told m

-- SEARCH: each UID that is told to be found is that of a message of `n:*` in whose Message-ID field the text stands, if
-- ASCII's case doesn't count
abbrev pub IsFoundTrue : ℕ → List ℕ → Mailbox → ℕ → Type 0
IsFoundTrue from id b uid = (m : Message) × (message_at uid b.messages ≡ Some m) × IsTrue (in_tail from b.messages uid) × IsTrue (has_in_id_caseless id m.text)

abbrev pub SearchSays : ℕ → List ℕ → Mailbox → Response → Type 0
SearchSays from id b (responses.Found uids) = (uid : ℕ) → Member uids uid → IsFoundTrue from id b uid
SearchSays from id b response = MaySay (Some b) response

-- the UID is among those that are told to be found
abbrev pub FoundTold : List Response → ℕ → Type 0
FoundTold told uid = (uids : List UidRange) × Contains told (responses.Found uids) × Member uids uid

-- each message of `n:*` with the very text is told
abbrev pub EachFound : ℕ → List ℕ → Mailbox → List Response → Type 0
EachFound from id b told =
    (uid : ℕ) (m : Message) → message_at uid b.messages ≡ Some m → IsTrue (in_tail from b.messages uid) → IsTrue (has_in_id id m.text) → FoundTold told uid

-- FETCH of Message-ID fields: those of each named UID that is there
abbrev pub IdsSay : List UidRange → Mailbox → Response → Type 0
IdsSay uids b (responses.Fetch fetched) = MaySay (Some b) (responses.Fetch fetched)
    ⊎ ((uid : ℕ) × (m : Message) × Member uids uid × (message_at uid b.messages ≡ Some m) × TellsIds m fetched)
IdsSay uids b response = MaySay (Some b) response

-- the message's fields are told
abbrev pub IdsTold : List Response → Message → Type 0
IdsTold told m = (fetched : Fetched) × TellsIds m fetched × Contains told (responses.Fetch fetched)

abbrev pub EachIds : List UidRange → Mailbox → List Response → Type 0
EachIds uids b told = (uid : ℕ) (m : Message) → Member uids uid → message_at uid b.messages ≡ Some m → IdsTold told m

-- FETCH of a message's text: where the UID is there. (Each text that is told is that of the message of this UID.)
abbrev pub TextSays : ℕ → Mailbox → Response → Type 0
TextSays uid b (responses.Fetch fetched) = MaySay (Some b) (responses.Fetch fetched)
    ⊎ ((m : Message) × (message_at uid b.messages ≡ Some m) × TellsText m fetched)
TextSays uid b response = MaySay (Some b) response

-- the message's text is told
abbrev pub TextTold : List Response → Message → Type 0
TextTold told m = (fetched : Fetched) × TellsText m fetched × Contains told (responses.Fetch fetched)

abbrev pub OneText : ℕ → Mailbox → List Response → Type 0
OneText uid b told = (m : Message) → message_at uid b.messages ≡ Some m → TextTold told m

-- STORE with effect: the message's new row is told, and no MODIFIED
pub record Stored (uid since : ℕ) (add : Bool) (flags : List (List ℕ)) (w : Waiting) (s : Server) (r : Replies) (t : Server)
    (after : Option (List ℕ)) : Type 0 where
  pub effect : Stores w.tag w.selected uid since add flags s t
  pub selection : after ≡ w.selected
  pub says : SaysRemarks (selected_box w.selected t.boxes) r
  pub row : (b : Mailbox) (m : Message) → selected_box w.selected t.boxes ≡ Some b → message_at uid b.messages ≡ Some m → RowTold r.untagged m

-- STORE without effect: MODIFIED is told where the message is there, and may be told where it isn't
pub record Unstored (uid since : ℕ) (w : Waiting) (s : Server) (r : Replies) (t : Server) (after : Option (List ℕ)) : Type 0 where
  pub effect : StoresNothing w.selected uid since s t
  pub selection : after ≡ w.selected
  pub says : Remarks (selected_box w.selected s.boxes) r.untagged
  pub code : MayCode (selected_box w.selected s.boxes) r.code ⊎ (r.code ≡ codings.Modified (only uid))
  pub modified : IsThere w.selected uid s → r.code ≡ codings.Modified (only uid)

-- MOVE or COPY with effect: COPYUID is told with this UID and the new one, and no other COPYUID
abbrev pub MoveCode : Code → Option Mailbox → Code → Type 0
MoveCode copied selected code = MayCode selected code ⊎ (code ≡ copied)

abbrev pub MoveSays : Code → Option Mailbox → Response → Type 0
MoveSays copied selected (responses.Untagged ending code) = MoveCode copied selected code
MoveSays copied selected response = MaySay selected response

pub record Moved (uid : ℕ) (to : List ℕ) (w : Waiting) (s : Server) (r : Replies) (t : Server) (after : Option (List ℕ)) : Type 0 where
  pub effect : Moves w.tag w.selected uid to s t
  pub selection : after ≡ w.selected
  pub copied : Code
  pub copied_is : copied ≡ codings.CopyUid (validity_of (box_at to t.boxes)) (only uid) (only effect.received)
  pub says : AllByRecursion (MoveSays copied (selected_box w.selected t.boxes)) r.untagged
  pub code : MoveCode copied (selected_box w.selected t.boxes) r.code
  pub told : CodeTold r.untagged r.code copied

-- MOVE of a UID that isn't there: no COPYUID
pub record Unmoved (uid : ℕ) (w : Waiting) (s : Server) (r : Replies) (t : Server) (after : Option (List ℕ)) : Type 0 where
  pub effect : MovesNothing w.selected uid s t
  pub selection : after ≡ w.selected
  pub says : SaysRemarks (selected_box w.selected s.boxes) r

-- COPY with effect: COPYUID is told of the message that came, as by MOVE
pub record Copied (uid : ℕ) (to : List ℕ) (w : Waiting) (s : Server) (r : Replies) (t : Server) (after : Option (List ℕ)) : Type 0 where
  pub effect : Copies w.tag w.selected uid to s t
  pub selection : after ≡ w.selected
  pub copied : Code
  pub copied_is : copied ≡ codings.CopyUid (validity_of (box_at to t.boxes)) (only uid) (only effect.received)
  pub says : AllByRecursion (MoveSays copied (selected_box w.selected t.boxes)) r.untagged
  pub code : MoveCode copied (selected_box w.selected t.boxes) r.code
  pub told : CodeTold r.untagged r.code copied

-- COPY of a UID that isn't there: no COPYUID
abbrev pub Uncopied : ℕ → Waiting → Server → Replies → Server → Option (List ℕ) → Type 0
Uncopied uid w s r t after = Unmoved uid w s r t after

-- EXPUNGE with effect: that the message is gone may be told, as after any command
pub record Expunged (uid : ℕ) (w : Waiting) (s : Server) (r : Replies) (t : Server) (after : Option (List ℕ)) : Type 0 where
  pub effect : Expunges w.tag w.selected uid s t
  pub selection : after ≡ w.selected
  pub says : SaysRemarks (selected_box w.selected t.boxes) r

-- EXPUNGE of a UID that isn't there, or whose message isn't marked as deleted
pub record Unexpunged (uid : ℕ) (w : Waiting) (s : Server) (r : Replies) (t : Server) (after : Option (List ℕ)) : Type 0 where
  pub effect : ExpungesNothing w.selected uid s t
  pub selection : after ≡ w.selected
  pub says : SaysRemarks (selected_box w.selected s.boxes) r

-- APPEND: APPENDUID is told with the new UID
pub record Appended (to : List ℕ) (flags : List (List ℕ)) (text : List ℕ) (w : Waiting) (s : Server) (r : Replies) (t : Server)
    (after : Option (List ℕ)) : Type 0 where
  pub effect : Appends w.tag to flags text s t
  pub selection : after ≡ w.selected
  pub says : Remarks (selected_box w.selected t.boxes) r.untagged
  pub code : r.code ≡ codings.AppendUid (validity_of (box_at to t.boxes)) effect.uid

-- LOGOUT: BYE is told
abbrev pub ByeSays : Option Mailbox → Response → Type 0
ByeSays selected responses.Bye = Unit {0}
ByeSays selected response = MaySay selected response

pub record LogsOut (w : Waiting) (s : Server) (r : Replies) (t : Server) (after : Option (List ℕ)) : Type 0 where
  pub stays : Stays w s t after
  pub says : AllByRecursion (ByeSays (selected_box w.selected s.boxes)) r.untagged
  pub code : MayCode (selected_box w.selected s.boxes) r.code
  pub bye : Contains r.untagged responses.Bye

-- a command that is answered OK
abbrev pub Fulfils : Command → Waiting → Server → Replies → Server → Option (List ℕ) → Type 0
Fulfils commands.Capability w s r t after = Greets w s r t after
Fulfils (commands.Login account) w s r t after = Greets w s r t after
Fulfils (commands.Plain account) w s r t after = Greets w s r t after
Fulfils (commands.Enable rev2) w s r t after = Enables rev2 w s r t after
Fulfils (commands.Select name since) w s r t after = Selects name since w s r t after
Fulfils commands.FetchAll w s r t after = Asks RowsSay EachRow w s r t after
Fulfils (commands.FetchRow uid) w s r t after = Asks RowsSay (OneRow uid) w s r t after
Fulfils (commands.Search from id) w s r t after = Asks (SearchSays from id) (EachFound from id) w s r t after
Fulfils (commands.FetchIds uids) w s r t after = Asks (IdsSay uids) (EachIds uids) w s r t after
Fulfils (commands.FetchText uid) w s r t after = Asks (TextSays uid) (OneText uid) w s r t after
Fulfils (commands.Store uid since add flags) w s r t after = Stored uid since add flags w s r t after ⊎ Unstored uid since w s r t after
Fulfils (commands.Shift uid to) w s r t after = Moved uid to w s r t after ⊎ Unmoved uid w s r t after
Fulfils (commands.Copy uid to) w s r t after = Copied uid to w s r t after ⊎ Uncopied uid w s r t after
Fulfils (commands.Expunge uid) w s r t after = Expunged uid w s r t after ⊎ Unexpunged uid w s r t after
Fulfils (commands.Append to flags text) w s r t after = Appended to flags text w s r t after
Fulfils commands.Logout w s r t after = LogsOut w s r t after

-- after a refused SELECT nothing is selected
abbrev pub left_selected : Command → Option (List ℕ) → Option (List ℕ)
left_selected commands.Capability selected = selected
left_selected (commands.Login account) selected = selected
left_selected (commands.Plain account) selected = selected
left_selected (commands.Enable rev2) selected = selected
left_selected (commands.Select name since) selected = None
left_selected commands.FetchAll selected = selected
left_selected (commands.FetchRow uid) selected = selected
left_selected (commands.Search from id) selected = selected
left_selected (commands.FetchIds uids) selected = selected
left_selected (commands.FetchText uid) selected = selected
left_selected (commands.Store uid since add flags) selected = selected
left_selected (commands.Shift uid to) selected = selected
left_selected (commands.Copy uid to) selected = selected
left_selected (commands.Expunge uid) selected = selected
left_selected (commands.Append to flags octets) selected = selected
left_selected commands.Logout selected = selected

-- a refused STORE may tell MODIFIED where the message isn't there, or has a greater mod-sequence
abbrev pub RefusalCode : Command → Waiting → Server → Code → Type 0
RefusalCode commands.Capability w s code = MayCode (selected_box w.selected s.boxes) code
RefusalCode (commands.Login account) w s code = MayCode (selected_box w.selected s.boxes) code
RefusalCode (commands.Plain account) w s code = MayCode (selected_box w.selected s.boxes) code
RefusalCode (commands.Enable rev2) w s code = MayCode (selected_box w.selected s.boxes) code
RefusalCode (commands.Select name since) w s code = MayCode (selected_box w.selected s.boxes) code
RefusalCode commands.FetchAll w s code = MayCode (selected_box w.selected s.boxes) code
RefusalCode (commands.FetchRow uid) w s code = MayCode (selected_box w.selected s.boxes) code
RefusalCode (commands.Search from id) w s code = MayCode (selected_box w.selected s.boxes) code
RefusalCode (commands.FetchIds uids) w s code = MayCode (selected_box w.selected s.boxes) code
RefusalCode (commands.FetchText uid) w s code = MayCode (selected_box w.selected s.boxes) code
RefusalCode (commands.Store uid since add flags) w s code =
    MayCode (selected_box w.selected s.boxes) code
    ⊎ ((code ≡ codings.Modified (only uid)) × ((found : IsThere w.selected uid s) → found.message.modseq ≤ since → ⊥))
RefusalCode (commands.Shift uid to) w s code = MayCode (selected_box w.selected s.boxes) code
RefusalCode (commands.Copy uid to) w s code = MayCode (selected_box w.selected s.boxes) code
RefusalCode (commands.Expunge uid) w s code = MayCode (selected_box w.selected s.boxes) code
RefusalCode (commands.Append to flags octets) w s code = MayCode (selected_box w.selected s.boxes) code
RefusalCode commands.Logout w s code = MayCode (selected_box w.selected s.boxes) code

-- that the old mailbox is closed, or a remark
abbrev pub ClosedSays : Option Mailbox → Response → Type 0
ClosedSays selected (responses.Untagged endings.Ok codings.Closed) = Unit {0}
ClosedSays selected response = MaySay selected response

-- a refused SELECT may tell that the old mailbox is closed
abbrev pub RefusalSays : Command → Option Mailbox → Response → Type 0
RefusalSays commands.Capability selected response = MaySay selected response
RefusalSays (commands.Login account) selected response = MaySay selected response
RefusalSays (commands.Plain account) selected response = MaySay selected response
RefusalSays (commands.Enable rev2) selected response = MaySay selected response
RefusalSays (commands.Select name since) selected response = ClosedSays selected response
RefusalSays commands.FetchAll selected response = MaySay selected response
RefusalSays (commands.FetchRow uid) selected response = MaySay selected response
RefusalSays (commands.Search from id) selected response = MaySay selected response
RefusalSays (commands.FetchIds uids) selected response = MaySay selected response
RefusalSays (commands.FetchText uid) selected response = MaySay selected response
RefusalSays (commands.Store uid since add flags) selected response = MaySay selected response
RefusalSays (commands.Shift uid to) selected response = MaySay selected response
RefusalSays (commands.Copy uid to) selected response = MaySay selected response
RefusalSays (commands.Expunge uid) selected response = MaySay selected response
RefusalSays (commands.Append to flags octets) selected response = MaySay selected response
RefusalSays commands.Logout selected response = MaySay selected response

-- Any command may be refused, by NO or by BAD. Then nothing changes.
pub record Refuses (command : Command) (w : Waiting) (s : Server) (r : Replies) (t : Server) (after : Option (List ℕ)) : Type 0 where
  pub server : t ≡ s
  pub selection : after ≡ left_selected command w.selected
  pub says : AllByRecursion (RefusalSays command (selected_box w.selected s.boxes)) r.untagged
  pub code : RefusalCode command w s r.code

abbrev pub Decides : Ending → Command → Waiting → Server → Replies → Server → Option (List ℕ) → Type 0
Decides endings.Ok command w s r t after = Fulfils command w s r t after
Decides endings.No command w s r t after = Refuses command w s r t after
Decides endings.Bad command w s r t after = Refuses command w s r t after

-- a waiting command is carried out: the server, the replies, the server after it and what is selected then
abbrev pub CarriesOut : Waiting → Server → Replies → Server → Option (List ℕ) → Type 0
CarriesOut w s r t after = Decides r.ending w.command w s r t after
