-- What is so of every list of steps (this client's profile of RFC 4549, section 4.2).
use Rattle.std.specs.Prelude.{◌≡◌, ◌≤◌, ℕ, List, length}
use Rattle.imap_model.specs.Ours.{ours}
use Rattle.book_laws.specs.Machine.{State, KeptState, Label, Begin, Choose, Send, Carry, Other, Connect, Ask, Step, Run}

-- from a kept state, whatever steps follow, the state stays kept
abbrev pub KeptAlways : Type 0
KeptAlways = (labels : List Label) (x y : State) → Run labels x y → KeptState x → KeptState y

-- what a step leaves: an event and a choice leave the server and the waiting command, and any other step the books
abbrev pub Leaves : Label → State → State → Type 0
Leaves (Begin event) x y = (y.server ≡ x.server) × (y.waiting ≡ x.waiting)
Leaves (Choose first) x y = (y.server ≡ x.server) × (y.waiting ≡ x.waiting)
Leaves (Send w) x y = y.books ≡ x.books
Leaves Carry x y = y.books ≡ x.books
Leaves Other x y = y.books ≡ x.books
Leaves Connect x y = y.books ≡ x.books
Leaves (Ask w) x y = y.books ≡ x.books

abbrev pub LeavesTheRest : Type 0
LeavesTheRest = (label : Label) (x y : State) → Step label x y → Leaves label x y

-- the plainest thing that follows: whatever steps follow a kept state, no action's number has two changes in the server's history
abbrev pub NeverTwice : Type 0
NeverTwice = (labels : List Label) (x y : State) → Run labels x y → KeptState x → (n : ℕ) → length (ours n y.server.history) ≤ 1
