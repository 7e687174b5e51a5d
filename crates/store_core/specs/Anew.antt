-- A book that is told anew on the other side of its journal (this client's profile of RFC 4549, section 4.2).
use Rattle.std.specs.Prelude.{ℕ, ◌+◌, ◌-◌, true, false, List, [], ◌∷◌, Option, Some, None, ⊤}
use Rattle.world_traits.specs.Files.{other}
use Rattle.journal_core.specs.Sides.{version_written}
use Rattle.journal_core.specs.Standing.{Standing}
use Rattle.action_queue.specs.Book.{Meaning}
use Rattle.action_queue.specs.Telling.{Piece, IsTold, pieces}
use Rattle.action_queue.specs.declared.event.Event.{Event}
use Rattle.record_codec.specs.Spelling.{Spelled}

-- the body spells an event that tells this piece of a book
pub record SpellsPiece (piece : Piece) (body : List ℕ) : Type 0 where
  pub event : Event
  pub told : IsTold piece event
  pub spelled : Spelled body event

-- the same, or neither is there
abbrev pub MaySpell : Option Piece → Option (List ℕ) → Type 0
MaySpell None None = ⊤
MaySpell None (Some body) = ⊥
MaySpell (Some piece) None = ⊥
MaySpell (Some piece) (Some body) = SpellsPiece piece body

-- each body spells an event that tells the piece in its place
abbrev pub SpellPieces : List Piece → List (List ℕ) → Type 0
SpellPieces [] [] = ⊤
SpellPieces [] (body ∷ bodies) = ⊥
SpellPieces (piece ∷ list) [] = ⊥
SpellPieces (piece ∷ list) (body ∷ bodies) = SpellsPiece piece body × SpellPieces list bodies

-- the bodies tell this book anew
abbrev pub Restates : Meaning → List (List ℕ) → Type 0
Restates b bodies = SpellPieces (pieces b) bodies

-- the journal that a book was told anew on: its other side, in the next generation, with so many bytes
abbrev pub told_on : ℕ → Standing → Standing
told_on end journal = record {
  side = other journal.side;
  version = version_written;
  generation = journal.generation + 1;
  place = end - 1;
  all_read = true;
  failed = false;
}
