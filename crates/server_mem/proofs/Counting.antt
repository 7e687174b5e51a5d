-- A mailbox has fewer messages than there are UIDs.
use Rattle.std.proofs.Common.{◌≡◌, ℕ, ◌+◌, ◌<◌, ◌≤◌, List, [], ◌∷◌, Some, length, eqb, refl, arith}
use Rattle.std.proofs.lemmas.Bool.{cond-true, eq-eqb}
use Rattle.imap_model.specs.Lookups.{box_at, message_at}
use Rattle.imap_model.specs.WellFormed.{Rises}
use Rattle.imap_model.proofs.Forming.{tail_below}
use Rattle.imap_model.specs.declared.server.Message.{Message}
use Rattle.imap_model.specs.declared.server.Mailbox.{Mailbox}
use Rattle.server_mem.specs.Well.{Well}

bound : (low next : ℕ) (ms : List Message) → low ≤ next → Rises low ms → ((u : ℕ) (m : Message) → message_at u ms ≡ Some m → u < next) → low + length ms ≤ next
bound low next [] l r below = omega arith
bound low next (m ∷ ms) l r below =
    let first : low ≤ m.uid = r.0 in
    let here : m.uid < next = below m.uid m (cond-true (eqb m.uid m.uid) (Some m) (message_at m.uid ms) (eq-eqb m.uid m.uid refl)) in
    let rest : m.uid + 1 + length ms ≤ next = bound (m.uid + 1) next ms (omega arith) r.1 (tail_below next m ms below) in
    omega arith

pub few_messages : (boxes : List Mailbox) (name : List ℕ) (b : Mailbox) → Well boxes → box_at name boxes ≡ Some b → length b.messages ≤ b.uidnext
few_messages boxes name b w e = let box = w.1 name b e in let all : 0 + length b.messages ≤ b.uidnext =
    bound 0 b.uidnext b.messages (omega arith) box.0 box.1.0 in omega arith
