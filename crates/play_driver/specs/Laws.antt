-- The joining law: over any ledger, and any relation of its book, or of none, with a server and the command that waits there
-- (this client's profile of RFC 4549).
use Rattle.std.specs.Prelude.{List, Option, Some, None}
use Rattle.mail_base.specs.declared.tag.Tag.{Tag}
use Rattle.imap_model.specs.Talking.{Peer}
use Rattle.imap_model.specs.declared.command.Command.{Command}
use Rattle.imap_model.specs.declared.response.Response.{Response}
use Rattle.world_traits.specs.Asking.{Asking}
use Rattle.world_traits.specs.Files.{Files}
use Rattle.world_traits.specs.Links.{Any, Linked}
use Rattle.world_traits.specs.Moments.{Moment, MayLeave, Clock, Since, Narrows, restarted}
use Rattle.journal_core.specs.declared.version.Version.{Version}
use Rattle.journal_core.specs.Settling.{Settles}
use Rattle.store_core.specs.Keeping.{Keeping}
use Rattle.store_core.specs.Taking.{HasBooks, Takes, ChoosesStep, BeginsBehind}
use Rattle.store_core.specs.Steps.{Books, Firm}
use Rattle.play_driver.specs.States.{state_of}
use Rattle.play_driver.specs.Machine.{Machine, Relation, Step}
use Rattle.play_driver.specs.Joining.{IsKept, Joined, StaysJoined, SparesAt, AnyTwo}
use Rattle.play_driver.specs.BookSteps.{BooksJoined, OfBook}
use Rattle.imap_session.specs.Enquiring.{Enquiring}
use Rattle.play_driver.specs.SentOnce.{AsksOnce}

-- The disk is called, and the link stands still: where the relation holds for the book before an event and for the one after it,
-- it holds at each moment of the recording.
abbrev pub RecordingKeeps : (K : Keeping) → Relation K → Type 0
RecordingKeeps K R = (b : Option K.Book) (e : K.Event) (old new : Clock) → R b old.now.outside.server old.now.outside.waiting →
    R (Some (K.next_book b e)) old.now.outside.server old.now.outside.waiting → Takes K b e old new → Since (IsKept K R) AnyTwo old new

-- Calls that only look, and syncs as a journal is opened, keep every relation; so does a stop.
abbrev pub OpeningKeeps : (K : Keeping) → Relation K → Type 0
OpeningKeeps K R = (old new : Clock) → IsKept K R old.now → Narrows old new → Since (IsKept K R) AnyTwo old new

abbrev pub StopKeeps : (K : Keeping) → Relation K → Type 0
StopKeeps K R = (m : Moment) (files : Files) → MayLeave m files → IsKept K R m → IsKept K R (restarted files m)

-- The link is called, and the files stand still: where each change of server and waiting command keeps the relation for each
-- book, it is kept at each moment.
abbrev pub LinkKeeps : (K : Keeping) → Relation K → (Peer → Peer → Type 0) → Type 0
LinkKeeps K R S = ((b : Option K.Book) (p q : Peer) → S p q → R b p.server p.waiting → R b q.server q.waiting) →
    (old new : Clock) → IsKept K R old.now → Linked S old new → Since (IsKept K R) AnyTwo old new

-- The same, with each moment joined to the one before it by a step of a machine that the relation withstands, where others are
-- fair. An event is recorded that may come next, and that is permitted.
abbrev pub RecordingJoins : (K : Keeping) → Relation K → Machine K → Type 0
RecordingJoins K R M = (version : Version) (b : Option K.Book) (e : K.Event) (old new : Clock) → K.MayCome version b e →
    M.Permits b e old.now.outside.server old.now.outside.waiting → IsKept K R old.now → Takes K b e old new → StaysJoined K R M old new

-- A journal is opened, where one side is at rest.
abbrev pub OpeningJoins : (K : Keeping) → Relation K → Machine K → Type 0
OpeningJoins K R M = (x : Books K) (old new : Clock) (seen : Files) → HasBooks K x old.now → MayLeave old.now seen → IsKept K R old.now →
    Settles old new seen → Narrows old new → StaysJoined K R M old new

-- A stop leaves these files.
abbrev pub StopJoins : (K : Keeping) → Machine K → Type 0
StopJoins K M = (x : Books K) (m : Moment) (files : Files) → HasBooks K x m → MayLeave m files → Joined K M m (restarted files m)

-- The link is called: each step of server and connection is one of the machine beside these books, by what is known of both, and
-- stays known.
abbrev pub LinkJoins : (K : Keeping) → Relation K → Machine K → (Peer → Peer → Type 0) → (Peer → Type 0) → Type 0
LinkJoins K R M S Known = (x : Books K) → ((p q : Peer) → S p q → SparesAt K M x p q → Known p → Known q × Step K M (state_of K x p) (state_of K x q)) →
    (old new : Clock) → HasBooks K x old.now → Known old.now.outside → IsKept K R old.now → Linked S old new → StaysJoined K R M old new

-- So it is as a connection is made and questions are asked;
abbrev pub EnquiryJoins : (K : Keeping) → Relation K → Machine K → Type 0
EnquiryJoins K R M = (x : Books K) (old new : Clock) → HasBooks K x old.now → IsKept K R old.now → Linked Enquiring old new → StaysJoined K R M old new

-- and as a command of the book is asked, which may be sent, and is sent once.
abbrev pub SendingJoins : (K : Keeping) → Relation K → Machine K → Type 0
SendingJoins K R M = (b : K.Book) (told : List Response) (tag : Tag) (command : Command) (old new : Clock) → HasBooks K (Firm (Some b)) old.now →
    AsksOnce K M b told tag command old.now.outside → IsKept K R old.now → Linked (Asking told tag command) old new → StaysJoined K R M old new

-- A store is opened, or a book is begun by an event that may come first, and that is permitted.
abbrev pub ChoosingJoins : (K : Keeping) → Relation K → Machine K → Type 0
ChoosingJoins K R M = (old new : Clock) → IsKept K R old.now → Since Any (ChoosesStep K) old new → StaysJoined K R M old new

abbrev pub BeginningJoins : (K : Keeping) → Relation K → Machine K → Type 0
BeginningJoins K R M = (version : Version) (e : K.Event) (old new : Clock) → K.MayCome version None e →
    M.Permits None e old.now.outside.server old.now.outside.waiting → IsKept K R old.now → BeginsBehind K e old new → StaysJoined K R M old new

-- The books alone, whatever becomes of the server: they go on by steps of their own,
abbrev pub RecordingGoesOn : Keeping → Type 0
RecordingGoesOn K = (version : Version) (b : Option K.Book) (e : K.Event) (old new : Clock) → K.MayCome version b e → Takes K b e old new →
    Since Any (BooksJoined K) old new

abbrev pub OpeningGoesOn : Keeping → Type 0
OpeningGoesOn K = (x : Books K) (old new : Clock) (seen : Files) → HasBooks K x old.now → MayLeave old.now seen → Settles old new seen →
    Narrows old new → Since Any (BooksJoined K) old new

abbrev pub StopGoesOn : Keeping → Type 0
StopGoesOn K = (x : Books K) (m : Moment) (files : Files) → HasBooks K x m → MayLeave m files → BooksJoined K m (restarted files m)

abbrev pub LinkStays : Keeping → (Peer → Peer → Type 0) → Type 0
LinkStays K S = (x : Books K) (old new : Clock) → HasBooks K x old.now → Linked S old new → Since Any (BooksJoined K) old new

-- and what each event keeps of a book is kept.
abbrev pub BooksKeep : (K : Keeping) → (Option K.Book → Type 0) → Type 0
BooksKeep K P = ((version : Version) (b : Option K.Book) (e : K.Event) → K.MayCome version b e → P b → P (Some (K.next_book b e))) →
    (old new : Clock) → IsKept K (OfBook K P) old.now → Since Any (BooksJoined K) old new → Since (IsKept K (OfBook K P)) (BooksJoined K) old new

-- So they go on as a store is opened, or a book begun.
abbrev pub ChoosingGoesOn : Keeping → Type 0
ChoosingGoesOn K = (old new : Clock) → Since Any (ChoosesStep K) old new → Since Any (BooksJoined K) old new

abbrev pub BeginningGoesOn : Keeping → Type 0
BeginningGoesOn K = (version : Version) (e : K.Event) (old new : Clock) → K.MayCome version None e → BeginsBehind K e old new →
    Since Any (BooksJoined K) old new
