-- Which events are lawful, and the book after the next event of a journal (this client's profile of RFC 4549).
use Rattle.std.specs.Prelude.{◌≡◌, ◌≢◌, ℕ, ◌≤◌, List, [], ◌∷◌, length, Option, Some, None, ⊤}
use Rattle.action_queue.specs.declared.event.Event.{Event}
use Rattle.action_queue.specs.declared.event.Event.TheVariants as events
use Rattle.action_queue.specs.declared.rule.Version.{Version}
use Rattle.action_queue.specs.Book.{Meaning, begun, after}
use Rattle.action_queue.specs.Rules.{first_broken}

-- the event breaks no rule of a version
pub record IsLawful (b : Meaning) (event : Event) : Type 0 where
  pub version : Version
  pub unbroken : first_broken version b event ≡ None

-- no name is this one
abbrev pub IsAbsent : List ℕ → List (List ℕ) → Type 0
IsAbsent name [] = ⊤
IsAbsent name (other ∷ names) = (other ≢ name) × IsAbsent name names

-- no name comes twice
abbrev pub AreDistinct : List (List ℕ) → Type 0
AreDistinct [] = ⊤
AreDistinct (name ∷ names) = IsAbsent name names × AreDistinct names

-- the names with which a journal may begin
pub record AreNames (names : List (List ℕ)) : Type 0 where
  pub some : 1 ≤ length names
  pub few : length names ≤ 32
  pub distinct : AreDistinct names

-- what may be the first event
abbrev pub IsFirst : Event → Type 0
IsFirst (events.Begin names) = AreNames names
IsFirst (events.Accept id action) = ⊥
IsFirst (events.Intend id intent) = ⊥
IsFirst (events.Settle id outcome) = ⊥
IsFirst (events.Learn name delta) = ⊥
IsFirst (events.Old id action outcome) = ⊥
IsFirst (events.Reset name kept told) = ⊥
IsFirst (events.Withdraw id tries) = ⊥

abbrev pub first_book : Event → Meaning
first_book (events.Begin names) = begun names
first_book (events.Accept id action) = begun []
first_book (events.Intend id intent) = begun []
first_book (events.Settle id outcome) = begun []
first_book (events.Learn name delta) = begun []
first_book (events.Old id action outcome) = begun []
first_book (events.Reset name kept told) = begun []
first_book (events.Withdraw id tries) = begun []

-- the book after the next event; no book stands for a journal without events
abbrev pub next_book : Option Meaning → Event → Meaning
next_book None event = first_book event
next_book (Some b) event = after b event
