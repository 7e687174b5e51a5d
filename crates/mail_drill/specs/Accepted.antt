-- Which commands of a drill are accepted: all but those that name a message that an earlier one moved.
use Rattle.std.specs.Prelude.{ℕ, ◌==◌, Bool, false, List, [], ◌∷◌, if◌then◌else◌}
use Rattle.std.specs.List.{list_any}
use Rattle.mail_drill.specs.declared.orders.Order.{Order}
use Rattle.mail_drill.specs.declared.orders.Order.TheVariants as orders

-- the command moves the message of this UID
abbrev pub moves : ℕ → Order → Bool
moves uid (orders.Flag n) = false
moves uid (orders.Move n) = n == uid
moves uid (orders.Append number) = false

-- one of these commands moves it
abbrev pub is_moved : List Order → ℕ → Bool
is_moved earlier uid = list_any (moves uid) earlier

-- behind these commands the command names a message that one of them moved
abbrev pub is_refused : List Order → Order → Bool
is_refused earlier (orders.Flag uid) = is_moved earlier uid
is_refused earlier (orders.Move uid) = is_moved earlier uid
is_refused earlier (orders.Append number) = false

-- of these commands, behind these earlier ones, those that aren't refused
abbrev pub accepted : List Order → List Order → List Order
accepted earlier [] = []
accepted earlier (o ∷ os) = if is_refused earlier o then accepted (o ∷ earlier) os else o ∷ accepted (o ∷ earlier) os
