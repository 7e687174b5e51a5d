-- A journal of an older version is taken over: its book is told anew on the journal's other side, in the version that is written.
use Rattle.std.specs.Prelude.{◌≡◌, ◌≢◌, ◌<◌, ◌-◌, ◌^◌, ℕ}
use Rattle.journal_core.specs.Appending.{told_end}
use Rattle.journal_core.specs.Sides.{version_written}
use Rattle.journal_core.specs.declared.version.Version.{Version}
use Rattle.journal_core.specs.declared.version.Version.TheVariants.{First, Second}
use Rattle.action_queue.specs.Book.{Meaning}
use Rattle.record_codec.specs.Restated.{restated_end}
use Rattle.store_core.specs.Anew.{told_on}
use Rattle.store_core.specs.Holding.{Holding}
use Rattle.store_core.specs.Mail.{mail}
use Rattle.mail_top.specs.declared.refusal.Refusal.{Refusal}
use Rattle.mail_top.specs.declared.refusal.Refusal.TheVariants as refusals

-- the store on the journal that is written to: the second version is
abbrev pub taken_as : Version → Holding mail → Holding mail
taken_as First store = record store { journal = told_on (restated_end store.book) store.journal }
taken_as Second store = store

abbrev pub taken_over : Holding mail → Holding mail
taken_over store = taken_as store.journal.version store

-- The last generation is in use, in which a journal of an older version stands.
pub record IsLastGeneration (version : Version) (generation : ℕ) : Type 0 where
  pub older : version ≢ version_written
  pub last : generation ≡ 2 ^ 32 - 1

-- The book has no room on a side where it is told anew, and its journal is of an older version.
pub record HasNoRoom (version : Version) (b : Meaning) (end : ℕ) : Type 0 where
  pub older : version ≢ version_written
  pub past : 2 ^ 30 < restated_end b
  pub is : end ≡ told_end (restated_end b)

-- why a journal of this version, in this generation, with this book, isn't taken over
abbrev pub IsNotTakenAs : Version → ℕ → Meaning → Refusal → Type 0
IsNotTakenAs version generation b refusals.Generation = IsLastGeneration version generation
IsNotTakenAs version generation b (refusals.Full end) = HasNoRoom version b end
IsNotTakenAs version generation b refusals.Memory = version ≢ version_written
IsNotTakenAs version generation b refusals.Disk = version ≢ version_written
IsNotTakenAs version generation b refusals.Input = ⊥
IsNotTakenAs version generation b refusals.Already = ⊥
IsNotTakenAs version generation b (refusals.NotAJournal why) = ⊥
IsNotTakenAs version generation b (refusals.Reason reason) = ⊥
IsNotTakenAs version generation b refusals.Actions = ⊥

-- the same of a store's
abbrev pub IsNotTaken : Holding mail → Refusal → Type 0
IsNotTaken store refusal = IsNotTakenAs store.journal.version store.journal.generation store.book refusal
