-- What happens at a connection is a step of the machine.
use Rattle.std.proofs.Common.{◌≡◌, inl, inr, ℕ, Bool, true, false, List, [], ◌∷◌, Option, None, refl, subst}
use Rattle.mail_base.specs.declared.tag.Tag.{Tag}
use Rattle.imap_model.specs.Carrying.{Waiting}
use Rattle.imap_model.specs.Mutating.{is_mutating}
use Rattle.imap_model.specs.Talking.{Peer, Answering, Connecting, arrived}
use Rattle.imap_model.specs.Talking.Answering.{stays, others, goes_on, refuses, carries}
use Rattle.imap_model.specs.Talking.Connecting.{as_before, ends, begins}
use Rattle.imap_model.proofs.Effect.{carried_effect}
use Rattle.imap_model.specs.declared.command.Command.{Command}
use Rattle.book_laws.specs.Of.{MutatingWaits}
use Rattle.book_laws.specs.Connection.{state_of, MayStep, SparesAt, IsOfBooks}
use Rattle.book_laws.specs.Machine.{PossibleBooks, Send, Carry, Other, Connect, Ask}
use Rattle.book_laws.proofs.Carrying.{nothing_waits}

pub answering_steps : (books : PossibleBooks) (p q : Peer) → Answering p q → SparesAt books p q → MayStep (state_of books p) (state_of books q)
answering_steps books p q stays spares = inl refl
answering_steps books p q (others t b) spares = inr (Other, record { server = t; changes = b; spares = (spares b).0; stays = (spares b).1; becomes = refl })
answering_steps books p q (goes_on a arriving asked) spares = inl refl
answering_steps books p q (refuses a r arriving asked refusal) spares = inl refl
answering_steps books p q (carries w r t after waits c) spares =
    inr (Carry, record { command = w; waits = waits; server = t; carries = carried_effect w p.server r t after c; becomes = refl })

pub connecting_steps : (books : PossibleBooks) (p q : Peer) → Connecting p q → SparesAt books p q → MayStep (state_of books p) (state_of books q)
connecting_steps books p q (as_before a) spares = answering_steps books p q a spares
connecting_steps books p q ends spares = inl refl
connecting_steps books p q (begins greeting g) spares = inr (Connect, refl)

-- none waits, so that none waits that changes something
quiet : (waiting : Option Waiting) → waiting ≡ None → MutatingWaits waiting → ⊥
quiet waiting e m = nothing_waits (subst MutatingWaits e m)

last_steps : (books : PossibleBooks) (p : Peer) (tag : Tag) (command : Command) (before : List (List ℕ)) (part : List ℕ) → p.waiting ≡ None →
    (m : Bool) → is_mutating command ≡ m → (is_mutating command ≡ true → IsOfBooks books p tag command) →
    MayStep (state_of books p) (state_of books (arrived tag command before part [] p))
last_steps books p tag command before part none true m of =
    let o : IsOfBooks books p tag command = of m in
    let w : Waiting = record { selected = p.talk.selected; tag = tag; command = command } in
    inr (Send w, record { book = o.0; firm = o.1; quiet = quiet p.waiting none; is_of = o.2; becomes = refl })
last_steps books p tag command before part none false m of =
    let w : Waiting = record { selected = p.talk.selected; tag = tag; command = command } in
    inr (Ask w, record { free = none; harmless = m; becomes = refl })

pub arriving_steps : (books : PossibleBooks) (p : Peer) (tag : Tag) (command : Command) (before : List (List ℕ)) (part : List ℕ) (behind : List (List ℕ)) →
    p.waiting ≡ None → (behind ≡ [] → is_mutating command ≡ true → IsOfBooks books p tag command) →
    MayStep (state_of books p) (state_of books (arrived tag command before part behind p))
arriving_steps books p tag command before part [] none of = last_steps books p tag command before part none (is_mutating command) refl (of refl)
arriving_steps books p tag command before part (next ∷ behind) none of = inl refl
