-- How the books that a stop may leave go on, while one event is written: it is begun, made firm, or either is chosen.
use Rattle.std.specs.Prelude.{◌≡◌, Bool, true, false, Option, Some}
use Rattle.journal_core.specs.declared.version.Version.{Version}
use Rattle.store_core.specs.Keeping.{Keeping}

-- the books of what a stop may leave: one, or those before and after an event. No book stands for no journal
pub data Books (K : Keeping) : Type 0 where
  Firm : Option K.Book → Books K
  Begun : Option K.Book → Option K.Book → Books K

-- an event that may come in a journal of this version is begun
pub record Begins (K : Keeping) (version : Version) (event : K.Event) (old new : Books K) : Type 0 where
  pub book : Option K.Book
  pub firm : old ≡ Firm book
  pub may : K.MayCome version book event
  pub becomes : new ≡ Begun book (Some (K.next_book book event))

-- an event that was begun is made firm
pub record MakesFirm (K : Keeping) (old new : Books K) : Type 0 where
  pub before : Option K.Book
  pub later : Option K.Book
  pub begun : old ≡ Begun before later
  pub becomes : new ≡ Firm later

abbrev pub chosen : {A : Type 0} → Bool → A → A → A
chosen true before later = before
chosen false before later = later

-- a stop, or an opening after a failed write, chooses either book
pub record Chooses (K : Keeping) (first : Bool) (old new : Books K) : Type 0 where
  pub before : Option K.Book
  pub later : Option K.Book
  pub begun : old ≡ Begun before later
  pub becomes : new ≡ Firm (chosen first before later)

-- the books hold something each
abbrev pub EachBook : (K : Keeping) → (Option K.Book → Type 0) → Books K → Type 0
EachBook K P (Firm b) = P b
EachBook K P (Begun b c) = P b × P c
