-- The commands of a drill, as its draws decide them.
use Rattle.std.specs.Prelude.{ℕ, zero, suc, ◌+◌, ◌*◌, ◌≤◌, nat_lt, List, [], ◌∷◌, if◌then◌else◌}
use Rattle.world_mem.specs.Draws.{next, drawn}
use Rattle.mail_drill.specs.declared.orders.Order.{Order}
use Rattle.mail_drill.specs.declared.orders.Order.TheVariants as orders
use Rattle.mail_drill.specs.declared.task.Task.{Task}

-- the draw that tells what kind a command is, where this number was left before it
abbrev pub kind_at : ℕ → ℕ
kind_at x = drawn 10 (next x)

-- the message that it names, which a second draw tells
abbrev pub uid_at : ℕ → ℕ → ℕ
uid_at size x = 1 + drawn size (next (next x))

-- the command: of ten kinds six flag a message, two move one, and two put one into a mailbox, which takes no second draw
abbrev pub order_at : ℕ → ℕ → ℕ → Order
order_at size number x =
    if nat_lt (kind_at x) 6 then orders.Flag (uid_at size x) else if nat_lt (kind_at x) 8 then orders.Move (uid_at size x) else orders.Append number

-- the number that its draws leave
abbrev pub behind_order : ℕ → ℕ
behind_order x = if nat_lt (kind_at x) 8 then next (next x) else next x

-- the message that it names, if it names one, is there
abbrev pub NamesOneOf : ℕ → Order → Type 0
NamesOneOf size (orders.Flag uid) = (1 ≤ uid) × (uid ≤ size)
NamesOneOf size (orders.Move uid) = (1 ≤ uid) × (uid ≤ size)
NamesOneOf size (orders.Append number) = Unit {0}

-- so many commands, of which the first has this number
abbrev pub orders_from : ℕ → ℕ → ℕ → ℕ → List Order
orders_from size zero number x = []
orders_from size (suc count) number x = order_at size number x ∷ orders_from size count (suc number) (behind_order x)

-- the number that their draws leave
abbrev pub behind_orders : ℕ → ℕ → ℕ
behind_orders zero x = x
behind_orders (suc count) x = behind_orders count (behind_order x)

-- the commands of a drill: twice as many as INBOX has messages
abbrev pub orders_of : Task → List Order
orders_of task = orders_from task.size (2 * task.size) 1 task.seed

-- the number that they leave for the rounds
abbrev pub behind_all : Task → ℕ
behind_all task = behind_orders (2 * task.size) task.seed
