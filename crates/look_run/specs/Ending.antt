-- How a look ends: what each status says of the words, of the book as read, of what a stop leaves, and of the printed text.
use Rattle.std.specs.Prelude.{◌≡◌, ◌⊎◌, ℕ, List, Ok, Err}
use Rattle.mail_base.specs.Lines.{error_words}
use Rattle.mail_base.specs.declared.status.Status.{Status}
use Rattle.mail_base.specs.declared.status.Status.TheVariants as status
use Rattle.world_traits.specs.Files.{Files}
use Rattle.world_traits.specs.Moments.{Within}
use Rattle.action_queue.specs.Book.{Meaning}
use Rattle.store_core.specs.Mail.{mail}
use Rattle.store_core.specs.Books.{HasBook}
use Rattle.mail_top.specs.Course.{Course, Stays}
use Rattle.mail_top.specs.Ending.{EndsShown}
use Rattle.mail_top.specs.Runs.{AreBook}
use Rattle.mail_top.specs.Saying.{SaysBroken, SaysDisk, SaysMemory}
use Rattle.look_run.specs.HistoryText.{history_text}
use Rattle.look_run.specs.LetterText.{IsLetter}
use Rattle.look_run.specs.Telling.{refused}
use Rattle.look_run.specs.Words.{Asks, AsksNothing}
use Rattle.look_run.specs.declared.look.Look.{Look}
use Rattle.look_run.specs.declared.look.Look.TheVariants as looks
use Rattle.look_run.specs.declared.look.LookReason.{LookReason}

-- The files as read hold a book in which action n has this letter.
pub record SaysLetter (n : ℕ) (k : Course) (text : List ℕ) : Type 0 where
  pub book : Meaning
  pub stays : Stays k book
  pub is : IsLetter book n (Ok text)

-- The files as read hold a book without a letter of action n, for the text's reason.
pub record SaysNoLetter (n : ℕ) (k : Course) (text : List ℕ) : Type 0 where
  pub book : Meaning
  pub stays : Stays k book
  pub reason : LookReason
  pub is : IsLetter book n (Err reason)
  pub text_is : text ≡ refused reason

-- What each status says of `letter N`. The others don't come.
abbrev pub EndsLetter : ℕ → Course → Status → List ℕ → Type 0
EndsLetter n k status.Done text = SaysLetter n k text
EndsLetter n k status.Output text = SaysLetter n k text
EndsLetter n k status.Disk text = SaysDisk (Within k.old.now k.new.now) text
EndsLetter n k status.Journal text = SaysBroken k text
EndsLetter n k status.Reason text = SaysNoLetter n k text
EndsLetter n k status.Memory text = SaysMemory k text
EndsLetter n k status.Words text = ⊥
EndsLetter n k status.Limit text = ⊥
EndsLetter n k status.Conflicts text = ⊥
EndsLetter n k status.Link text = ⊥
EndsLetter n k status.Refused text = ⊥
EndsLetter n k status.Reply text = ⊥
EndsLetter n k status.Lacking text = ⊥
EndsLetter n k status.Validity text = ⊥
EndsLetter n k status.Input text = ⊥
EndsLetter n k status.Shelf text = ⊥

-- what each status says of a look; of `history` as of `queue`, by another text
abbrev pub EndsLook : Look → Course → Status → List ℕ → Type 0
EndsLook looks.History k s text = EndsShown history_text k s text
EndsLook (looks.Letter n) k s text = EndsLetter n k s text

-- the words ask for no look, and nothing was done
pub record SaysWords (words : List (List ℕ)) (k : Course) (s : Status) (text : List ℕ) : Type 0 where
  pub nothing : AsksNothing words
  pub stays : k.new ≡ k.old
  pub reads : k.seen_after ≡ k.seen
  pub told : s ≡ status.Words
  pub text_is : text ≡ error_words

-- the words ask for a look, and so it ended
pub record SaysLook (words : List (List ℕ)) (k : Course) (s : Status) (text : List ℕ) : Type 0 where
  pub look : Look
  pub asks : Asks words look
  pub ends : EndsLook look k s text

abbrev pub Ends : List (List ℕ) → Course → Status → List ℕ → Type 0
Ends words k s text = SaysWords words k s text ⊎ SaysLook words k s text

-- the files hold a book in which action n has a letter
pub record AreWithLetter (n : ℕ) (files : Files) : Type 0 where
  pub book : Meaning
  pub holds : HasBook mail book files
  pub text : List ℕ
  pub is : IsLetter book n (Ok text)

-- the files hold what is looked at
abbrev pub AreSeen : Look → Files → Type 0
AreSeen looks.History files = AreBook files
AreSeen (looks.Letter n) files = AreWithLetter n files
