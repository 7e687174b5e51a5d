-- What the player knows of the connection, as it goes on (this client's profile of RFC 4549, section 4.2).
--
-- Two kinds of facts are kept apart. What was so at a moment stays so, whatever happens (`IsTold`). What follows from it for the server as
-- it is now holds as long as no command of the action that is due was carried out in this connection (`Holds`).
use Rattle.action_queue.specs.Book.{Meaning, cache_at, learned}
use Rattle.action_queue.specs.Queues.{due_action}
use Rattle.action_queue.specs.declared.action.Action.{Action}
use Rattle.action_queue.specs.declared.intent.Intent.{Intent}
use Rattle.action_queue.specs.declared.outcome.Outcome.{Outcome}
use Rattle.action_queue.specs.declared.queued.Queued.{Queued}
use Rattle.append_probe.specs.Laws.{Covers}
use Rattle.append_probe.specs.declared.verdict.Verdict.{Verdict}
use Rattle.imap_model.specs.CarriedOut.{CarriesOut}
use Rattle.imap_model.specs.Carrying.{Waiting}
use Rattle.imap_model.specs.Evolving.{EvolvesFrom}
use Rattle.imap_model.specs.Mutating.{is_mutating}
use Rattle.imap_model.specs.Ours.{ours}
use Rattle.imap_model.specs.declared.command.Command.{Command}
use Rattle.imap_model.specs.declared.mark.Mark.{Mark}
use Rattle.imap_model.specs.declared.server.Mailbox.{Mailbox}
use Rattle.imap_model.specs.declared.server.Server.{Server}
use Rattle.mailbox_cache.specs.declared.cache.Cache.{Cache}
use Rattle.mailbox_cache.specs.declared.row.Row.{Row}
use Rattle.playback.specs.Course.{AtMoment, Course, IsAmong, IsCourse, Said}
use Rattle.book_laws.specs.Fresh.{Fresh, IsFreshFor}
use Rattle.book_laws.specs.InBox.{InBox, InBoxNow}
use Rattle.book_laws.specs.Kept.{KeptBook}
use Rattle.playback.specs.Needs.{IsPlaced, IsPlain, due_id, need_of}
use Rattle.book_laws.specs.Of.{IsOf, tag_of}
use Rattle.book_laws.specs.Once.{Fits}
use Rattle.book_laws.specs.Open.{Open, PutFacts}
use Rattle.book_laws.specs.Polite.{Spares}
use Rattle.playback.specs.Replying.{read_sent}
use Rattle.playback.specs.Why.{AreTwo, NoRow, OfDue, RowAt, RowNotSo, RowSo, RowWas, TellsNext, WasRefused, WasSelected, WhyIntent}
use Rattle.playback.specs.Worlds.{Among, IsAt, LeadsTo, World, name_of, selected_after}
use Rattle.playback.specs.declared.finding.Finding.{Finding}
use Rattle.playback.specs.declared.finding.Resynced.{Resynced}
use Rattle.playback.specs.declared.finding.Selected.{Selected}
use Rattle.playback.specs.declared.need.Need.{Need}
use Rattle.playback.specs.declared.player.Player.{Player}
use Rattle.qresync_core.specs.Marking.{mark_of}
use Rattle.qresync_core.specs.ToldCodes.{told_codes}
use Rattle.qresync_core.specs.declared.codes.Codes.{Codes}
use Rattle.std.specs.Prelude.{Bool, List, None, Ok, Option, Some, [], false, true, ℕ, ◌<◌, ◌∷◌, ◌≡◌, ◌≤◌, ◌⊎◌}
use Rattle.uid_sets.specs.UidSet.{Member}
use Rattle.uid_sets.specs.declared.uid.UidRange.{UidRange}
use Rattle.action_queue.specs.declared.action.Action.TheVariants as actions
use Rattle.imap_model.specs.declared.command.Command.TheVariants as commands
use Rattle.imap_model.specs.declared.ending.Ending.TheVariants as endings
use Rattle.playback.specs.declared.finding.Finding.TheVariants as findings
use Rattle.action_queue.specs.declared.intent.Intent.TheVariants as intents
use Rattle.playback.specs.declared.need.Need.TheVariants as needs
use Rattle.action_queue.specs.declared.outcome.Outcome.TheVariants as outcomes
use Rattle.append_probe.specs.declared.verdict.Verdict.TheVariants as verdicts

-- the message has a row with this mod-sequence, and its flags are as asked, or not
abbrev pub RowTold : ℕ → Bool → Action → Option Row → Type 0
RowTold m true = RowSo (λ k. k ≡ m)
RowTold m false = RowNotSo (λ k. k ≡ m)

-- of the append that is due: its mailbox and its Message-ID
pub record OfAppend (P : List ℕ → List ℕ → Type 0) (b : Meaning) : Type 0 where
  pub queued : Queued
  pub there : due_action b.queue ≡ Some queued
  pub to : List ℕ
  pub flags : List (List ℕ)
  pub text : List ℕ
  pub id : List ℕ
  pub action : queued.action ≡ actions.Append to flags text id
  pub holds : P to id

-- and of its intent: the UIDVALIDITY and the UIDNEXT
pub record OfPut (P : List ℕ → List ℕ → ℕ → ℕ → Type 0) (b : Meaning) : Type 0 where
  pub append : OfAppend (λ to id. Unit {0}) b
  pub validity : ℕ
  pub uidnext : ℕ
  pub pending : b.pending ≡ Some (intents.Put append.to validity uidnext)
  pub holds : P append.to append.id validity uidnext

-- two messages have the Message-ID of the append that is due, at a moment
abbrev pub TwoWereFound : ℕ → ℕ → Meaning → Course → Type 0
TwoWereFound u v b c = OfPut (λ to id validity uidnext. AtMoment (λ s. InBoxNow (AreTwo u v uidnext id) to validity s.boxes) c) b

-- what a verdict tells of a moment
abbrev pub IsProbed : Verdict → Meaning → Course → Type 0
IsProbed verdicts.NotThere b c = Unit {0}
IsProbed (verdicts.There uid) b c = Unit {0}
IsProbed (verdicts.Several first second) b c = TwoWereFound first second b c

-- what the player keeps was so at a moment of the connection, or was told in it
abbrev pub IsTold : Finding → Meaning → Course → Type 0
IsTold findings.Nothing b c = Unit {0}
IsTold findings.NoRow b c = RowWas NoRow b c
IsTold (findings.Row modseq so) b c = RowWas (RowTold modseq so) b c
IsTold findings.Barred b c = OfDue (WasRefused b.queue c) b
IsTold (findings.Ended outcome) b c = Unit {0}
IsTold (findings.Next validity uidnext) b c = OfAppend (λ to id. WasSelected to (TellsNext validity uidnext) c) b
IsTold (findings.Candidates uids) b c = Unit {0}
IsTold (findings.Probed verdict) b c = IsProbed verdict b c

-- the messages of the mailbox from this UID on with exactly this Message-ID are among these, and these are from it on
pub record Covered (low : ℕ) (id : List ℕ) (uids : List UidRange) (box : Mailbox) : Type 0 where
  pub each : Covers low id box uids
  pub least : (uid : ℕ) → Member uids uid → low ≤ uid

-- what a verdict says of the action's deeds
abbrev pub HoldsVerdict : Verdict → Meaning → Server → Type 0
HoldsVerdict verdicts.NotThere b s = ours (due_id b) s.history ≡ []
HoldsVerdict (verdicts.There uid) b s =
    OfPut (λ to id validity uidnext. Fits (outcomes.Done (Some (record { validity = validity; uid = uid }))) (ours (due_id b) s.history)) b
HoldsVerdict (verdicts.Several first second) b s = Unit {0}

-- what follows for the server as it is, as long as no command of the action was carried out
abbrev pub Holds : Finding → Meaning → Server → Type 0
Holds findings.Nothing b s = Unit {0}
Holds findings.NoRow b s = Unit {0}
Holds (findings.Row modseq so) b s = Unit {0}
Holds findings.Barred b s = Unit {0}
Holds (findings.Ended outcome) b s = Unit {0}
Holds (findings.Next validity uidnext) b s = OfAppend (λ to id. InBox (PutFacts id uidnext validity []) to validity s.boxes) b
Holds (findings.Candidates uids) b s = OfPut (λ to id validity uidnext. InBox (Covered uidnext id uids) to validity s.boxes) b
Holds (findings.Probed verdict) b s = HoldsVerdict verdict b s

-- nothing of the action that is due happened from one server to the other
pub record Stays (b : Meaning) (s t : Server) : Type 0 where
  pub evolves : EvolvesFrom s.boxes s.boxes t.boxes
  pub spares : Spares b s.boxes t.boxes
  pub same : ours (due_id b) t.history ≡ ours (due_id b) s.history

-- no command of the action that is due was carried out in this connection
pub record IsUnsent (told : Finding) (resumed : Bool) (b : Meaning) (w : World) : Type 0 where
  pub same : (s : Server) → Among s w → ours (due_id b) s.history ≡ ours (due_id b) w.course.now.history
  pub none : resumed ≡ false → ours (due_id b) w.course.now.history ≡ []
  pub holds : Holds told b w.course.now

-- one command of it was carried out, and nothing of the action happened since
pub record IsSent (b : Meaning) (e : Said) (w : World) : Type 0 where
  pub among : Among e.before w
  pub was_said : IsAmong e w.course.said
  pub after : Option (List ℕ)
  pub carries : CarriesOut e.command e.before e.reply e.behind after
  pub kept : KeptBook b e.before (Some e.command)
  pub is_of : IsOf b e.before e.command
  pub first : ours (due_id b) w.course.first.history ≡ []
  pub later : ours (due_id b) w.course.now.history ≡ ours (due_id b) e.behind.history

-- the row that a STORE's intent names had its mod-sequence at a moment
abbrev pub WasSeen : Intent → Meaning → Course → Type 0
WasSeen (intents.Store name validity uid modseq) b c = RowWas (RowAt modseq) b c
WasSeen (intents.Shift from validity uid to) b c = Unit {0}
WasSeen (intents.Put to validity uidnext) b c = Unit {0}

-- the command of the action that is due was carried out, and the player keeps how the action ended
pub record HasEnded (outcome : Outcome) (resumed : Bool) (b : Meaning) (w : World) : Type 0 where
  pub said : Said
  pub sent : IsSent b said w
  pub queued : Queued
  pub there : due_action b.queue ≡ Some queued
  pub intent : Intent
  pub pending : b.pending ≡ Some intent
  pub read : read_sent resumed queued.action intent said.reply ≡ Ok (findings.Ended outcome)
  pub seen : WasSeen intent b w.course

-- what is so while nothing is owed to the player
abbrev pub Rests : Finding → Bool → Meaning → World → Type 0
Rests findings.Nothing resumed b w = IsUnsent findings.Nothing resumed b w
Rests findings.NoRow resumed b w = IsUnsent findings.NoRow resumed b w
Rests (findings.Row modseq so) resumed b w = IsUnsent (findings.Row modseq so) resumed b w
Rests findings.Barred resumed b w = IsUnsent findings.Barred resumed b w
Rests (findings.Ended outcome) resumed b w = HasEnded outcome resumed b w
Rests (findings.Next validity uidnext) resumed b w = IsUnsent (findings.Next validity uidnext) resumed b w
Rests (findings.Candidates uids) resumed b w = IsUnsent (findings.Candidates uids) resumed b w
Rests (findings.Probed verdict) resumed b w = IsUnsent (findings.Probed verdict) resumed b w

-- the command of the action that is due, under its tag
pub record OfTag (n : ℕ) (command : Command) (c : Waiting) (selected : Option Selected) (b : Meaning) : Type 0 where
  pub number : n ≡ due_id b
  pub queued : Queued
  pub there : due_action b.queue ≡ Some queued
  pub is : c ≡ record { selected = name_of selected; tag = tag_of (due_id b) queued; command = command }

-- A SELECT of this mailbox, with what its cache knows. (Where it has none, it may have had one as the command was sent.)
pub record SelectsBox (name : List ℕ) (b : Meaning) (c : Waiting) : Type 0 where
  pub since : Option Mark
  pub is : c.command ≡ commands.Select name since
  pub knows : (cache : Cache) → cache_at name b.boxes ≡ Some cache → since ≡ Some (mark_of cache)

-- a question about the mailbox that is selected
pub record IsQuestion (command : Command) (selected : Option Selected) (c : Waiting) : Type 0 where
  pub is : c.command ≡ command
  pub at : c.selected ≡ name_of selected
  pub harmless : is_mutating command ≡ false

-- the command is the one that is needed
abbrev pub IsNeeded : Need → Waiting → Option Selected → Meaning → Type 0
IsNeeded (needs.Select name) c selected b = SelectsBox name b c
IsNeeded (needs.Ask command) c selected b = IsQuestion command selected c
IsNeeded (needs.Commit event) c selected b = ⊥
IsNeeded (needs.Settle n outcome) c selected b = ⊥
IsNeeded (needs.Withdraw n tries) c selected b = ⊥
IsNeeded (needs.Send n command) c selected b = OfTag n command c selected b
IsNeeded needs.Finished c selected b = ⊥

-- a question was carried out: the server stayed, and nothing of the action happened since
pub record IsQuiet (e : Said) (told : Finding) (resumed : Bool) (b : Meaning) (w : World) : Type 0 where
  pub unsent : IsUnsent told resumed b w
  pub stays : Stays b e.before w.course.now

-- what came of the command that was carried out, by whether it is the action's or a question
abbrev pub HasCome : Bool → Said → Finding → Bool → Meaning → World → Type 0
HasCome true e told resumed b w = IsSent b e w
HasCome false e told resumed b w = IsQuiet e told resumed b w

-- behind what was said the FETCH of all rows was, or it wasn't
abbrev pub with_rows : Option Said → List Said → List Said
with_rows None said = said
with_rows (Some rows) said = rows ∷ said

-- the FETCH of all rows of the mailbox that this SELECT selected
pub record IsFetched (e rows : Said) (w : World) : Type 0 where
  pub asks : rows.command.command ≡ commands.FetchAll
  pub selected : rows.command.selected ≡ name_of w.selected
  pub among : Among rows.before w
  pub after : Option (List ℕ)
  pub carries : CarriesOut rows.command rows.before rows.reply rows.behind after
  pub evolves : EvolvesFrom e.before.boxes e.before.boxes rows.before.boxes

-- the command was carried out, and its reply is owed
pub record ReplyIsOwed (c : Waiting) (p : Player) (b : Meaning) (w : World) : Type 0 where
  pub said : Said
  pub rows : Option Said
  pub rest : List Said
  pub last : w.course.said ≡ with_rows rows (said ∷ rest)
  pub fetched : (e : Said) → rows ≡ Some e → IsFetched said e w
  pub command : said.command ≡ c
  pub among : Among said.before w
  pub after : Option (List ℕ)
  pub carries : CarriesOut c said.before said.reply said.behind after
  pub selected : w.selected ≡ selected_after c.command said.reply p.selected
  pub at : (selected : Selected) → p.selected ≡ Some selected → IsAt selected said.before
  pub fresh : Fresh b said.before.boxes
  pub come : HasCome (is_mutating c.command) said p.told p.resumed b w

-- the command waits
pub record IsWaiting (c waits : Waiting) (p : Player) (b : Meaning) (w : World) : Type 0 where
  pub is : waits ≡ c
  pub selected : w.selected ≡ p.selected
  pub unsent : IsUnsent p.told p.resumed b w

-- a SELECT was carried out, and the FETCH of all rows waits
pub record FetchesRows (c waits : Waiting) (p : Player) (b : Meaning) (w : World) : Type 0 where
  pub asks : waits.command ≡ commands.FetchAll
  pub selected : waits.selected ≡ name_of w.selected
  pub answered : ReplyIsOwed c p b w
  pub none : answered.rows ≡ None
  pub quiet : is_mutating c.command ≡ false

-- no command waits, and no reply is owed to the player
pub record IsResting (p : Player) (b : Meaning) (w : World) : Type 0 where
  pub selected : w.selected ≡ p.selected
  pub rests : Rests p.told p.resumed b w

-- what a resynchronisation told: the cache that it makes knows its mailbox
pub record IsLearning (told : Resynced) (p : Player) (b : Meaning) (now : Server) : Type 0 where
  pub selected : p.selected ≡ Some (record { name = told.name; validity = told.delta.validity })
  pub plain : IsPlain p.told
  pub fresh : IsFreshFor told.name (learned (cache_at told.name b.boxes) told.delta) now.boxes

-- where something is to be recorded of a mailbox: it is what its resynchronisation told
abbrev pub Learning : Option Resynced → Player → Meaning → Server → Type 0
Learning None p b now = Unit {0}
Learning (Some told) p b now = IsLearning told p b now

-- How far the conversation is, by the command whose reply is owed and the one that waits. A command waits only while its reply is owed.
abbrev pub Came : Option Waiting → Option Waiting → Player → Meaning → World → Type 0
Came None None p b w = IsResting p b w
Came None (Some waits) p b w = ⊥
Came (Some c) (Some waits) p b w = IsNeeded (need_of p b) c p.selected b × (IsWaiting c waits p b w ⊎ FetchesRows c waits p b w)
Came (Some c) None p b w = IsNeeded (need_of p b) c p.selected b × ReplyIsOwed c p b w

-- What the player knows: the course tells the truth; each server of its moments went on to the one now; the selected mailbox has the
-- UIDVALIDITY that was told; an intent that this run recorded had its reason, and its mailbox is selected still; one of an earlier run
-- says what is so at each moment;
-- what it keeps was so; and how far the conversation is.
pub record Knows (p : Player) (b : Meaning) (w : World) : Type 0 where
  pub course : IsCourse w.course
  pub since : (s : Server) → Among s w → LeadsTo s w.course.now
  pub valid : (selected : Selected) → w.selected ≡ Some selected → IsAt selected w.course.now
  pub fresh : b.pending ≡ None → p.resumed ≡ false
  pub meant : p.resumed ≡ false → (intent : Intent) → b.pending ≡ Some intent → WhyIntent intent b w.course
  pub placed : p.resumed ≡ false → (intent : Intent) → b.pending ≡ Some intent → IsPlaced intent p
  pub resumed : p.resumed ≡ true → (s : Server) → Among s w → Open b s
  pub told : IsTold p.told b w.course
  pub learns : Learning p.learns p b w.course.now
  pub came : Came w.owed w.waiting p b w

-- Behind a SELECT whose reply is owed the rows of all messages may be asked for: it was answered, and they weren't asked for yet.
pub record MayAskRows (c : Waiting) (p : Player) (b : Meaning) (w : World) : Type 0 where
  pub select : Waiting
  pub owed : w.owed ≡ Some select
  pub none_waits : w.waiting ≡ None
  pub name : List ℕ
  pub selects : SelectsBox name b select
  pub said : Said
  pub rest : List Said
  pub last : w.course.said ≡ said ∷ rest
  pub answers : said.command ≡ select
  pub asks : c.command ≡ commands.FetchAll
  pub selected : c.selected ≡ name_of w.selected

-- Behind a SELECT whose reply is owed its mailbox's cache may be taken away: the reply told a UIDVALIDITY above the cache's, and the rows
-- of all messages weren't asked for yet.
pub record MayReset (name : List ℕ) (kept told : ℕ) (b : Meaning) (w : World) : Type 0 where
  pub select : Waiting
  pub owed : w.owed ≡ Some select
  pub none_waits : w.waiting ≡ None
  pub selects : SelectsBox name b select
  pub said : Said
  pub rest : List Said
  pub last : w.course.said ≡ said ∷ rest
  pub answers : said.command ≡ select
  pub accepted : said.reply.ending ≡ endings.Ok
  pub codes : Codes
  pub tells : told_codes said.reply ≡ Ok codes
  pub validity : codes.validity ≡ told
  pub cache : Cache
  pub there : cache_at name b.boxes ≡ Some cache
  pub old : cache.validity ≡ kept
  pub above : kept < told
