-- How the books that a stop may leave go on, whatever becomes of the server.
use Rattle.std.specs.Prelude.{◌≡◌, Bool, Option, Some}
use Rattle.world_traits.specs.Moments.{Moment}
use Rattle.journal_core.specs.declared.version.Version.{Version}
use Rattle.store_core.specs.Keeping.{Keeping}
use Rattle.store_core.specs.Steps.{Books, Firm, Begun, chosen}
use Rattle.store_core.specs.Taking.{HasBooks}
use Rattle.play_driver.specs.Machine.{Relation}

-- they stay; or an event that may come next is begun; or it is made firm; or either book is chosen
pub data BooksStep (K : Keeping) (x : Books K) : Books K → Type 0 where
  keep : BooksStep K x x
  begin : (version : Version) (b : Option K.Book) (e : K.Event) → x ≡ Firm b → K.MayCome version b e → BooksStep K x (Begun b (Some (K.next_book b e)))
  confirm : (b c : Option K.Book) → x ≡ Begun b c → BooksStep K x (Firm c)
  choose : (first : Bool) (b c : Option K.Book) → x ≡ Begun b c → BooksStep K x (Firm (chosen first b c))

-- so they go on from one moment to the next
pub record BooksJoined (K : Keeping) (m n : Moment) : Type 0 where
  pub old : Books K
  pub new : Books K
  pub at_old : HasBooks K old m
  pub at_new : HasBooks K new n
  pub step : BooksStep K old new

-- what is so of a book is a relation in which server and waiting command have no part
abbrev pub OfBook : (K : Keeping) → (Option K.Book → Type 0) → Relation K
OfBook K P b s w = P b
