-- The mail book on a journal (this client's profile of RFC 4549).
use Rattle.std.specs.Prelude.{◌≡◌, Option, Some, None, ⊤}
use Rattle.journal_core.specs.declared.version.Version.{Version}
use Rattle.journal_core.specs.declared.version.Version.TheVariants.{First, Second}
use Rattle.action_queue.specs.declared.rule.Version.{Version as Rules}
use Rattle.action_queue.specs.declared.rule.Version.TheVariants as rules
use Rattle.action_queue.specs.declared.event.Event.{Event}
use Rattle.action_queue.specs.declared.event.Event.TheVariants as events
use Rattle.action_queue.specs.Book.{Meaning}
use Rattle.action_queue.specs.Events.{IsFirst, next_book}
use Rattle.action_queue.specs.Rules.{first_broken}
use Rattle.record_codec.specs.Spelling.{Spelled}
use Rattle.store_core.specs.Keeping.{Keeping}

-- the rules of a journal of this version
abbrev pub rules_of : Version → Rules
rules_of First = rules.First
rules_of Second = rules.Second

-- an action that ended before the book was told anew
abbrev pub IsOld : Event → Type 0
IsOld (events.Begin names) = ⊥
IsOld (events.Accept id action) = ⊥
IsOld (events.Intend id intent) = ⊥
IsOld (events.Settle id outcome) = ⊥
IsOld (events.Learn name delta) = ⊥
IsOld (events.Old id action outcome) = ⊤
IsOld (events.Reset name kept told) = ⊥
IsOld (events.Withdraw id tries) = ⊥

-- what may be the next event of a journal of this version
abbrev pub MayCome : Version → Option Meaning → Event → Type 0
MayCome version None event = IsFirst event
MayCome version (Some b) event = first_broken (rules_of version) b event ≡ None

abbrev pub mail : Keeping
mail = record { Event = Event; Book = Meaning; Spelled = Spelled; MayCome = MayCome; next_book = next_book }
