-- How a command of a drill is answered, behind those before it.
use Rattle.std.specs.Prelude.{◌≡◌, ℕ, ◌≤◌, Bool, true, false, List, length}
use Rattle.action_queue.specs.Book.{Meaning, after}
use Rattle.mail_top.specs.Actions.{accepts}
use Rattle.mail_drill.specs.Accepted.{is_refused}
use Rattle.mail_drill.specs.Asked.{action_of}
use Rattle.mail_drill.specs.Orders.{NamesOneOf}
use Rattle.mail_drill.specs.Standing.{HasAsked, HasOne, Knows}
use Rattle.mail_drill.specs.declared.orders.Order.{Order}
use Rattle.mail_drill.specs.declared.orders.Order.TheVariants as orders
use Rattle.mail_drill.specs.declared.quiet_world.QuietWorld.{QuietWorld}

-- an append has no greater number than the last command of the largest drill
abbrev pub IsNumbered : Order → Type 0
IsNumbered (orders.Flag uid) = Unit {0}
IsNumbered (orders.Move uid) = Unit {0}
IsNumbered (orders.Append number) = number ≤ 4000

-- Each stop leaves this book, whose actions are what these commands ask for, and the next command names a message of INBOX, or has a number
-- up to 4,000.
pub record Awaits (size : ℕ) (os : List Order) (o : Order) (b : Meaning) (w : QuietWorld) : Type 0 where
  pub has : HasOne b w
  pub knows : Knows size b
  pub asked : HasAsked os b
  pub few : length os ≤ 4000
  pub most : size ≤ 2000
  pub named : NamesOneOf size o
  pub numbered : IsNumbered o

-- It was accepted: no earlier command moved the message that it names, and now each stop leaves the book with its action behind the
-- others. Or it was refused: an earlier one did, and each stop leaves the book as it was.
abbrev pub Answers : Bool → List Order → Order → Meaning → QuietWorld → Type 0
Answers true os o b w = (is_refused os o ≡ false) × HasOne (after b (accepts b (action_of o))) w
Answers false os o b w = (is_refused os o ≡ true) × HasOne b w
