-- Changes by others.
use Rattle.std.proofs.Common.{◌≡◌, ℕ, suc, ◌≤◌, List, length, Option, Some, None, refl, sym, ◌∙◌, ap, subst}
use Rattle.std.proofs.lemmas.Option.{same_Some}
use Rattle.mail_base.specs.declared.tag.Tag.{Tag}
use Rattle.imap_model.specs.Lookups.{box_at}
use Rattle.imap_model.specs.Ours.{ours}
use Rattle.imap_model.specs.WellFormed.{IsWellFormed}
use Rattle.imap_model.specs.Carrying.{Waiting}
use Rattle.imap_model.specs.Changes.{Batch}
use Rattle.imap_model.specs.Evolving.{GoesOn, EvolvesFrom}
use Rattle.imap_model.proofs.Evolution.{batches_stay}
use Rattle.imap_model.specs.declared.server.Mailbox.{Mailbox}
use Rattle.imap_model.specs.declared.server.Server.{Server}
use Rattle.imap_model.specs.declared.deed.Deed.{Deed}
use Rattle.action_queue.specs.Queues.{due, due_action}
use Rattle.action_queue.specs.Book.{Meaning}
use Rattle.action_queue.specs.declared.action.Action.{Action}
use Rattle.action_queue.specs.declared.action.Action.TheVariants as actions
use Rattle.action_queue.specs.declared.intent.Intent.{Intent}
use Rattle.action_queue.specs.declared.intent.Intent.TheVariants as intents
use Rattle.action_queue.specs.declared.queued.Queued.{Queued}
use Rattle.append_probe.specs.Marked.{marked}
use Rattle.book_laws.specs.Once.{Fits}
use Rattle.book_laws.specs.Open.{IntentFacts, IsOpen, Open, intent_name, intent_validity}
use Rattle.book_laws.specs.Sound.{HasIntent}
use Rattle.book_laws.specs.Of.{IsOf, command_of, tag_of}
use Rattle.book_laws.specs.Kept.{Kept, KeptBook}
use Rattle.book_laws.specs.Polite.{KeepsBox, KeepsWaiting, Spares, SparesBook}
use Rattle.book_laws.proofs.Queueing.{Suited, is_suited}
use Rattle.book_laws.proofs.Deeds.{batch_none, batch_ours, batch_owned}
use Rattle.book_laws.proofs.Reaching.{others_reached}
use Rattle.book_laws.proofs.Facts.{store_goes, shift_goes, put_goes, fresh_evolves, box_evolves, under_kept}

-- the facts of a pending intent stay
intent_goes : (b : Meaning) (old new : List Mailbox) (q : Queued) (action : Action) (intent : Intent) → q.action ≡ action → Suited b.queue action intent →
    Spares b old new → due_action b.queue ≡ Some q → (mine : List Deed) (x y : Mailbox) →
    box_at (intent_name intent) old ≡ Some x → box_at (intent_name intent) new ≡ Some y → y.validity ≡ x.validity → GoesOn x.highest x y →
    IntentFacts action mine intent x → IntentFacts action mine intent y
intent_goes b old new q (actions.Flag target add flags) (intents.Store name validity uid modseq) a s p e mine x y f g v h i =
    store_goes uid modseq mine x y h i
intent_goes b old new q (actions.Move target other) (intents.Shift from validity uid to) a s p e mine x y f g v h i = shift_goes uid mine x y h i
intent_goes b old new q (actions.Append to flags text id) (intents.Put other validity uidnext) a s p e mine x y f g v h i =
    put_goes id uidnext validity mine x y h
    (p q to flags text id x y e a (subst (λ (n : List ℕ). box_at n old ≡ Some x) s f) (subst (λ (n : List ℕ). box_at n new ≡ Some y) s g) v) i
intent_goes b old new q (actions.Flag target add flags) (intents.Shift from validity uid to) a s p e mine x y f g v h i = absurd s
intent_goes b old new q (actions.Flag target add flags) (intents.Put to validity uidnext) a s p e mine x y f g v h i = absurd s
intent_goes b old new q (actions.Move target to) (intents.Store name validity uid modseq) a s p e mine x y f g v h i = absurd s
intent_goes b old new q (actions.Move target to) (intents.Put other validity uidnext) a s p e mine x y f g v h i = absurd s
intent_goes b old new q (actions.Append to flags text id) (intents.Store name validity uid modseq) a s p e mine x y f g v h i = absurd s
intent_goes b old new q (actions.Append to flags text id) (intents.Shift from validity uid other) a s p e mine x y f g v h i = absurd s

-- the mailbox that is selected is the intent's
command_selects : (tag : Tag) (action : Action) (intent : Intent) (w : Waiting) → command_of tag action intent ≡ Some w →
    w.selected ≡ Some (intent_name intent)
command_selects tag (actions.Flag target add flags) (intents.Store name validity uid modseq) w = λ e. ap (λ (x : Waiting). x.selected) (sym (same_Some _ w e))
command_selects tag (actions.Move target other) (intents.Shift from validity uid to) w = λ e. ap (λ (x : Waiting). x.selected) (sym (same_Some _ w e))
command_selects tag (actions.Append other flags text id) (intents.Put to validity uidnext) w = λ e. ap (λ (x : Waiting). x.selected) (sym (same_Some _ w e))
command_selects tag (actions.Flag target add flags) (intents.Shift from validity uid to) w = λ e. absurd (cc)
command_selects tag (actions.Flag target add flags) (intents.Put to validity uidnext) w = λ e. absurd (cc)
command_selects tag (actions.Move target to) (intents.Store name validity uid modseq) w = λ e. absurd (cc)
command_selects tag (actions.Move target to) (intents.Put other validity uidnext) w = λ e. absurd (cc)
command_selects tag (actions.Append to flags text id) (intents.Store name validity uid modseq) w = λ e. absurd (cc)
command_selects tag (actions.Append to flags text id) (intents.Shift from validity uid other) w = λ e. absurd (cc)

-- a command of the book is that still, as no deed of ours comes, and its mailbox keeps its UIDVALIDITY
pub of_after : (b : Meaning) (s t : Server) (w : Waiting) → Batch s.boxes s t → KeepsBox w.selected s.boxes t.boxes →
    IsOf b s w → IsOf b t w
of_after b s t w foreign keeps of = record {
  intent = of.intent;
  pending = of.pending;
  queued = of.queued;
  there = of.there;
  is = of.is;
  none = batch_ours (suc (due b.queue)) s.boxes s t foreign ∙ of.none;
  at = under_kept (intent_name of.intent) (intent_validity of.intent) s.boxes t.boxes
      (subst (λ (o : Option (List ℕ)). KeepsBox o s.boxes t.boxes)
      (command_selects (tag_of (suc (due b.queue)) of.queued) of.queued.action of.intent w of.is) keeps) of.at;
}

module _ (b : Meaning) (s t : Server) (waiting : Option Waiting) (kept : KeptBook b s waiting) (foreign : Batch s.boxes s t)
    (spares : Spares b s.boxes t.boxes) (keeps : KeepsWaiting waiting s.boxes t.boxes) where
  same : (n : ℕ) → ours n t.history ≡ ours n s.history
  same n = batch_ours n s.boxes s t foreign

  open_after : (all : EvolvesFrom s.boxes s.boxes t.boxes) → Open b t
  open_after all = λ intent p q e.
      let h : HasIntent b intent = kept.sound.intent intent p in
      let is : h.queued ≡ q = same_Some h.queued q (sym h.there ∙ e) in
      let suited : Suited b.queue q.action intent =
      subst (λ (x : Queued). Suited b.queue x.action intent) is (is_suited b.queue h.queued.action intent h.suits_it) in
      subst (λ (l : List Deed). IsOpen q.action l intent t.boxes) (sym (same (suc (due b.queue))))
      (box_evolves (IntentFacts q.action (ours (suc (due b.queue)) s.history) intent) (intent_name intent) (intent_validity intent) s.boxes t.boxes all
      (λ x y f g v goes. intent_goes b s.boxes t.boxes q q.action intent refl suited spares e (ours (suc (due b.queue)) s.history) x y f g v goes)
      (kept.open_intent intent p q e))

  pub others_keep : KeptBook b t waiting
  others_keep =
      let all : IsWellFormed t.boxes × EvolvesFrom s.boxes s.boxes t.boxes = batches_stay s t kept.well foreign in
      record {
        sound = kept.sound;
        well = all.0;
        once = record {
          owned = batch_owned b.queue s.boxes s t foreign kept.once.owned;
          settled = λ i q outcome e o. subst (λ (l : List Deed). Fits outcome l) (sym (same (suc i))) (kept.once.settled i q outcome e o);
          once = subst (λ (l : List Deed). length l ≤ 1) (sym (same (suc (due b.queue)))) kept.once.once;
          idle = λ n. same (suc (due b.queue)) ∙ kept.once.idle n;
          later = λ i l. same (suc i) ∙ kept.once.later i l;
        };
        open_intent = open_after all.1;
        fresh = fresh_evolves b s.boxes t.boxes all.1 kept.fresh;
        reached = others_reached b s t foreign all.1 kept.reached;
        waits = λ m. of_after b s t m.command foreign (subst (λ (o : Option Waiting). KeepsWaiting o s.boxes t.boxes) m.waits keeps) (kept.waits m);
      }

pub others_book : (b : Option Meaning) (s t : Server) (waiting : Option Waiting) → Batch s.boxes s t → SparesBook s.boxes t.boxes b →
    KeepsWaiting waiting s.boxes t.boxes → Kept b s waiting → Kept b t waiting
others_book None s t waiting foreign spares keeps k =
    let all : IsWellFormed t.boxes × EvolvesFrom s.boxes s.boxes t.boxes = batches_stay s t k.well foreign in
    record { well = all.0; none = batch_none s.boxes s t foreign k.none; quiet = k.quiet }
others_book (Some b) s t waiting foreign spares keeps k = others_keep b s t waiting k foreign spares keeps

-- others that change nothing spare each book
pub spared_same : (b : Option Meaning) (s : Server) → SparesBook s.boxes s.boxes b
spared_same None s = tt
spared_same (Some b) s = λ q to flags text id x y e a f g v. ap (λ (m : Mailbox). marked id m.messages) (same_Some y x (sym g ∙ f))
