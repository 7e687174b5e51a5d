-- Between two runs others need to spare an append only while its intent is pending.
use Rattle.std.proofs.Common.{◌≡◌, ◌⊎◌, inl, inr, true, ℕ, suc, ◌≤◌, List, length, Option, Some, None, refl, sym, ◌∙◌, ap, subst}
use Rattle.std.proofs.lemmas.Option.{same_Some}
use Rattle.imap_model.specs.Carrying.{Waiting}
use Rattle.imap_model.specs.Changes.{Batch}
use Rattle.imap_model.specs.Evolving.{EvolvesFrom}
use Rattle.imap_model.specs.Ours.{ours}
use Rattle.imap_model.specs.Talking.{Peer}
use Rattle.imap_model.specs.WellFormed.{IsWellFormed}
use Rattle.imap_model.specs.declared.server.Mailbox.{Mailbox}
use Rattle.imap_model.specs.declared.deed.Deed.{Deed}
use Rattle.imap_model.specs.declared.server.Server.{Server}
use Rattle.imap_model.proofs.Evolution.{batches_stay}
use Rattle.action_queue.specs.Book.{Meaning}
use Rattle.action_queue.specs.Queues.{due}
use Rattle.action_queue.specs.Rules.{suits}
use Rattle.action_queue.specs.declared.action.Action.{Action}
use Rattle.action_queue.specs.declared.action.Action.TheVariants as actions
use Rattle.action_queue.specs.declared.intent.Intent.{Intent}
use Rattle.action_queue.specs.declared.intent.Intent.TheVariants as intents
use Rattle.action_queue.specs.declared.queued.Queued.{Queued}
use Rattle.book_laws.specs.Kept.{Kept, KeptBook}
use Rattle.book_laws.specs.Of.{IsOf}
use Rattle.book_laws.specs.Once.{Fits}
use Rattle.book_laws.specs.Polite.{KeepsBox, KeepsWaiting, Spares}
use Rattle.book_laws.specs.Sound.{HasIntent}
use Rattle.book_laws.proofs.Deeds.{batch_none, batch_ours, batch_owned}
use Rattle.book_laws.proofs.Facts.{fresh_evolves}
use Rattle.book_laws.proofs.Foreign.{of_after, others_keep, spared_same}
use Rattle.book_laws.proofs.Reaching.{others_reached}
use Rattle.store_core.specs.Mail.{mail}
use Rattle.play_driver.specs.Machine.{Withstands}
use Rattle.play_driver.proofs.PlayedKept.{withstood}
use Rattle.mail_top.specs.FairRuns.{SparesBetween, SparesBookBetween, SparesPending, between}

module _ (b : Meaning) (s t : Server) (waiting : Option Waiting) (kept : KeptBook b s waiting) (foreign : Batch s.boxes s t)
    (keeps : KeepsWaiting waiting s.boxes t.boxes) where
  -- where no intent is pending, nothing that is kept rests on what others leave
  no_intent : b.pending ≡ None → KeptBook b t waiting
  no_intent none =
      let all : IsWellFormed t.boxes × EvolvesFrom s.boxes s.boxes t.boxes = batches_stay s t kept.well foreign in
      let same : (n : ℕ) → ours n t.history ≡ ours n s.history = λ n. batch_ours n s.boxes s t foreign in
      record {
        sound = kept.sound;
        well = all.0;
        once = record {
          owned = batch_owned b.queue s.boxes s t foreign kept.once.owned;
          settled = λ i q outcome e o. subst (λ (l : List Deed). Fits outcome l) (sym (same (suc i))) (kept.once.settled i q outcome e o);
          once = subst (λ (l : List Deed). length l ≤ 1) (sym (same (suc (due b.queue)))) kept.once.once;
          idle = λ n. same (suc (due b.queue)) ∙ kept.once.idle n;
          later = λ i l. same (suc i) ∙ kept.once.later i l;
        };
        open_intent = λ intent p q e. absurd (let clash : None ≡ Some intent = sym none ∙ p in cc);
        fresh = fresh_evolves b s.boxes t.boxes all.1 kept.fresh;
        reached = others_reached b s t foreign all.1 kept.reached;
        waits = λ m. of_after b s t m.command foreign (subst (λ (o : Option Waiting). KeepsWaiting o s.boxes t.boxes) m.waits keeps) (kept.waits m);
      }

  -- the intent of a flag or a move is pending, so no append is due
  no_append : (intent : Intent) → b.pending ≡ Some intent →
      ((to : List ℕ) (flags : List (List ℕ)) (text id : List ℕ) → suits b.queue (actions.Append to flags text id) intent ≡ true → ⊥) →
      Spares b s.boxes t.boxes
  no_append intent is never = λ q to flags text id x y e a f g v.
      let h : HasIntent b intent = kept.sound.intent intent is in
      let action : h.queued.action ≡ actions.Append to flags text id = ap (λ (r : Queued). r.action) (same_Some h.queued q (sym h.there ∙ e)) ∙ a in
      absurd (never to flags text id (subst (λ (r : Action). suits b.queue r intent ≡ true) action h.suits_it))

  spared_all : (intent : Intent) → b.pending ≡ Some intent → SparesPending b s.boxes t.boxes → Spares b s.boxes t.boxes
  spared_all (intents.Store name validity uid modseq) is spares =
      no_append (intents.Store name validity uid modseq) is (λ to flags text id suited. absurd cc)
  spared_all (intents.Shift from validity uid to) is spares =
      no_append (intents.Shift from validity uid to) is (λ other flags text id suited. absurd cc)
  spared_all (intents.Put to validity uidnext) is spares = spares to validity uidnext is

  by_intent : (pending : Option Intent) → b.pending ≡ pending → SparesPending b s.boxes t.boxes → KeptBook b t waiting
  by_intent None none spares = no_intent none
  by_intent (Some intent) is spares = others_keep b s t waiting kept foreign (spared_all intent is spares) keeps

-- without a book nothing waits that is this client's
no_book : (s t : Server) (waiting : Option Waiting) → Batch s.boxes s t → Kept None s waiting → Kept None t waiting
no_book s t waiting foreign kept =
    let all : IsWellFormed t.boxes × EvolvesFrom s.boxes s.boxes t.boxes = batches_stay s t kept.well foreign in
    record { well = all.0; none = batch_none s.boxes s t foreign kept.none; quiet = kept.quiet }

others_between : (b : Option Meaning) (p : Peer) (t : Server) → Batch p.server.boxes p.server t → SparesBetween b p t →
    Kept b p.server p.waiting → Kept b t p.waiting
others_between None p t foreign spares kept = no_book p.server t p.waiting foreign kept
others_between (Some b) p t foreign spares kept = by_intent b p.server t p.waiting kept foreign spares.waiting b.pending refl spares.append

-- a command of the book stays one: its mailbox is selected, or the command waits
command_stays : (b : Meaning) (p : Peer) (t : Server) (w : Waiting) → (p.talk.selected ≡ w.selected) ⊎ (p.waiting ≡ Some w) →
    Batch p.server.boxes p.server t → SparesBookBetween b p t → IsOf b p.server w → IsOf b t w
command_stays b p t w (inl selects) foreign spares of =
    of_after b p.server t w foreign (subst (λ (o : Option (List ℕ)). KeepsBox o p.server.boxes t.boxes) selects spares.selected) of
command_stays b p t w (inr waits) foreign spares of =
    of_after b p.server t w foreign (subst (λ (o : Option Waiting). KeepsWaiting o p.server.boxes t.boxes) waits spares.waiting) of

same_box : (selected : Option (List ℕ)) (boxes : List Mailbox) → KeepsBox selected boxes boxes
same_box None boxes = tt
same_box (Some name) boxes = refl

same_waiting : (waiting : Option Waiting) (boxes : List Mailbox) → KeepsWaiting waiting boxes boxes
same_waiting None boxes = tt
same_waiting (Some w) boxes = same_box w.selected boxes

pub spared_between : (b : Option Meaning) (p : Peer) → SparesBetween b p p.server
spared_between None p = tt
spared_between (Some b) p = record {
  append = λ to validity uidnext pending. spared_same (Some b) p.server;
  selected = same_box p.talk.selected p.server.boxes;
  waiting = same_waiting p.waiting p.server.boxes;
}

-- so what is kept withstands each step between two runs too
pub between_withstood : Withstands mail between Kept
between_withstood = record {
  event = withstood.event;
  sent = withstood.sent;
  asked = withstood.asked;
  carried = withstood.carried;
  dropped = withstood.dropped;
  others = others_between;
  sendable = command_stays;
  spared = spared_between;
}
