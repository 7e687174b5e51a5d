-- A book that is the fold of some events (this client's profile of RFC 4549, section 4.2).
use Rattle.std.specs.Prelude.{ℕ, List}
use Rattle.action_queue.specs.Book.{Meaning, after, begun}
use Rattle.action_queue.specs.Events.{AreNames, IsLawful}
use Rattle.action_queue.specs.Restating.{IsWellBook}
use Rattle.action_queue.specs.Writable.{IsWritable}
use Rattle.action_queue.specs.declared.event.Event.{Event}
use Rattle.journal_core.specs.declared.version.Version.{Version}
use Rattle.store_core.specs.Mail.{rules_of}

-- A Begin makes the book; and so does each event that may come next and that has a record.
pub data IsFold : Meaning → Type 0 where
  begins : (names : List (List ℕ)) → AreNames names → IsFold (begun names)
  follows : (b : Meaning) (event : Event) → IsFold b → IsLawful b event → IsWritable event → IsFold (after b event)

-- A book of a journal of this version: the fold of some events, and as lawful events by the journal's rules make it.
pub record IsMade (version : Version) (b : Meaning) : Type 0 where
  pub fold : IsFold b
  pub well : IsWellBook (rules_of version) b
