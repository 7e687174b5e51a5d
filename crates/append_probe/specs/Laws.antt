-- Why the answers to a question about a lost append tell what became of it (RFC 9051, sections 6.4.4 and 6.4.5; RFC 5322, section 3.6.4).
use Rattle.std.specs.Prelude.{◌≡◌, ◌≢◌, ℕ, ◌≤◌, ◌<◌, true, false, List, [], ◌∷◌, length, Contains, Option, Some}
use Rattle.mail_header.specs.Identifier.{IsId}
use Rattle.uid_sets.specs.UidSet.{Member}
use Rattle.uid_sets.specs.declared.uid.UidRange.{UidRange}
use Rattle.imap_model.specs.CarriedOut.{CarriesOut}
use Rattle.imap_model.specs.Carrying.{Waiting}
use Rattle.imap_model.specs.Lookups.{box_at}
use Rattle.imap_model.specs.Searching.{holds_part, has_in_id}
use Rattle.imap_model.specs.WellFormed.{IsWellFormedBox}
use Rattle.imap_model.specs.declared.command.Command.{Command}
use Rattle.imap_model.specs.declared.command.Command.TheVariants as commands
use Rattle.imap_model.specs.declared.ending.Ending.TheVariants as endings
use Rattle.imap_model.specs.declared.replies.Replies.{Replies}
use Rattle.imap_model.specs.declared.server.Mailbox.{Mailbox}
use Rattle.imap_model.specs.declared.server.Server.{Server}
use Rattle.append_probe.specs.Candidates.{AreCandidates}
use Rattle.append_probe.specs.Marked.{at_least, has_id, marked}
use Rattle.append_probe.specs.Question.{question_of, question_part, word_begins}
use Rattle.append_probe.specs.Verdict.{IsVerdict, Matches}
use Rattle.append_probe.specs.declared.verdict.Verdict.{Verdict}
use Rattle.append_probe.specs.declared.verdict.Verdict.TheVariants as verdicts

-- A part of an identifier that may be searched for: it stands there, no encoded word begins in it, it is the identifier where none
-- begins there, and of what is an identifier it is neither empty nor holds a NUL.
pub record IsPart (id part : List ℕ) : Type 0 where
  pub stands : holds_part part id ≡ true
  pub plain : holds_part word_begins part ≡ false
  pub whole : holds_part word_begins id ≡ false → part ≡ id
  pub some : IsId id → 0 < length part
  pub no_nul : IsId id → ¬ (Contains part 0)

-- the part that is searched for is such a one
abbrev pub PartsAreParts : Type 0
PartsAreParts = (id : List ℕ) → IsPart id (question_part id)

-- where a text has the Message-ID, its part stands in the text's field
abbrev pub PartsAreFound : Type 0
PartsAreFound = (id text : List ℕ) → has_id id text ≡ true → has_in_id (question_part id) text ≡ true

-- a command is carried out and answered OK, where this mailbox is selected
pub record IsAnswered (command : Command) (name : List ℕ) (box : Mailbox) (w : Waiting) (s : Server) (r : Replies) (t : Server)
    (after : Option (List ℕ)) : Type 0 where
  pub is : w.command ≡ command
  pub selected : w.selected ≡ Some name
  pub there : box_at name s.boxes ≡ Some box
  pub ok : r.ending ≡ endings.Ok
  pub carried : CarriesOut w s r t after

-- each message from this UID on with the Message-ID is a candidate
abbrev pub Covers : ℕ → List ℕ → Mailbox → List UidRange → Type 0
Covers low id box set = (uid : ℕ) → Contains (marked id box.messages) uid → low ≤ uid → Member set uid

-- the candidates of a search cover the mailbox as it was at that moment
abbrev pub SearchCovers : Type 0
SearchCovers = (low : ℕ) (id name : List ℕ) (box : Mailbox) (w : Waiting) (s t : Server) (r : Replies) (after : Option (List ℕ))
    (set : List UidRange)
    → IsWellFormedBox box → IsAnswered (question_of low id) name box w s r t after → AreCandidates low r.untagged set
    → Covers low id box set

-- these two differ and are among the UIDs
pub record AreAmong (u v : ℕ) (uids : List ℕ) : Type 0 where
  pub apart : u ≢ v
  pub first : Contains uids u
  pub second : Contains uids v

-- the UIDs are as the verdict says
abbrev pub Counts : Verdict → List ℕ → Type 0
Counts verdicts.NotThere uids = uids ≡ []
Counts (verdicts.There uid) uids = uids ≡ uid ∷ []
Counts (verdicts.Several first second) uids = AreAmong first second uids

-- The verdict on candidates that cover the mailbox, and of which none is below this UID, counts the messages from it on with the
-- Message-ID, as they are at the moment of the fetch.
abbrev pub VerdictCounts : Type 0
VerdictCounts = (low : ℕ) (id name : List ℕ) (box : Mailbox) (w : Waiting) (s t : Server) (r : Replies) (after : Option (List ℕ))
    (set : List UidRange) (verdict : Verdict)
    → IsWellFormedBox box → IsAnswered (commands.FetchIds set) name box w s r t after → Covers low id box set
    → ((uid : ℕ) → Member set uid → low ≤ uid) → IsVerdict (Matches set r.untagged id) verdict
    → Counts verdict (at_least low (marked id box.messages))
