-- The relation withstands every step of the driver's machine.
use Rattle.std.proofs.Common.{◌≡◌, ◌⊎◌, inl, inr, ℕ, List, Option, Some, None, refl, subst}
use Rattle.journal_core.specs.declared.version.Version.{Version}
use Rattle.imap_model.proofs.Effect.{carried_effect}
use Rattle.imap_model.specs.Carrying.{Waiting}
use Rattle.imap_model.specs.Talking.{Peer}
use Rattle.imap_model.specs.declared.server.Mailbox.{Mailbox}
use Rattle.imap_model.specs.declared.server.Server.{Server}
use Rattle.action_queue.specs.Book.{Meaning}
use Rattle.action_queue.specs.declared.event.Event.{Event}
use Rattle.store_core.specs.Mail.{mail, MayCome, rules_of}
use Rattle.play_driver.specs.Machine.{Withstands}
use Rattle.book_laws.specs.Kept.{Kept}
use Rattle.book_laws.specs.Permitted.{MayFollow}
use Rattle.book_laws.proofs.Carrying.{carries_book, nothing_waits}
use Rattle.book_laws.proofs.Entering.{book_keeps}
use Rattle.book_laws.proofs.Foreign.{others_book, of_after, spared_same}
use Rattle.book_laws.proofs.Keeping.{sent, quiet_keeps, asked_quiet}
use Rattle.book_laws.specs.Polite.{KeepsBox, KeepsWaiting}
use Rattle.play_driver.specs.Played.{played}

pub follows : (version : Version) (b : Option Meaning) (e : Event) → MayCome version b e → MayFollow b e
follows version None e m = m
follows version (Some b) e m = record { version = rules_of version; unbroken = m }

-- the mailbox in which a command may be sent, or waits, keeps its UIDVALIDITY
pub keeps_command : (p : Peer) (t : Server) (w : Waiting) → (p.talk.selected ≡ w.selected) ⊎ (p.waiting ≡ Some w) →
    KeepsBox p.talk.selected p.server.boxes t.boxes → KeepsWaiting p.waiting p.server.boxes t.boxes → KeepsBox w.selected p.server.boxes t.boxes
keeps_command p t w (inl selects) selected waits = subst (λ (o : Option (List ℕ)). KeepsBox o p.server.boxes t.boxes) selects selected
keeps_command p t w (inr here) selected waits = subst (λ (o : Option Waiting). KeepsWaiting o p.server.boxes t.boxes) here waits

-- nothing is renewed where nothing changes
same_box : (selected : Option (List ℕ)) (boxes : List Mailbox) → KeepsBox selected boxes boxes
same_box None boxes = tt
same_box (Some name) boxes = refl

same_waiting : (waiting : Option Waiting) (boxes : List Mailbox) → KeepsWaiting waiting boxes boxes
same_waiting None boxes = tt
same_waiting (Some w) boxes = same_box w.selected boxes

pub withstood : Withstands mail played Kept
withstood = record {
  event = λ version b e s w may permitted kept. book_keeps b e s w kept (follows version b e may) permitted;
  sent = λ b s w of kept. sent b s None w kept of;
  asked = λ b s w harmless kept. quiet_keeps b s None (Some w) (asked_quiet w harmless) kept;
  carried = λ b w s r t after c kept. carries_book b s t w kept (carried_effect w s r t after c);
  dropped = λ b s w kept. quiet_keeps b s w None nothing_waits kept;
  others = λ b p t batch spares kept. others_book b p.server t p.waiting batch spares.0 spares.2 kept;
  sendable = λ b p t w selects batch spares of. of_after b p.server t w batch (keeps_command p t w selects spares.1 spares.2) of;
  spared = λ b p. (spared_same b p.server, same_box p.talk.selected p.server.boxes, same_waiting p.waiting p.server.boxes);
}
