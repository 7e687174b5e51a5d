-- What a UIDVALIDITY names is reached still as the server and the book go on.
use Rattle.action_queue.specs.Book.{Meaning}
use Rattle.action_queue.specs.Queues.{accepted, change_first, settled, tried}
use Rattle.action_queue.specs.declared.action.Action.{Action}
use Rattle.action_queue.specs.declared.outcome.Outcome.{Outcome}
use Rattle.action_queue.specs.declared.queued.Queued.{Queued}
use Rattle.action_queue.specs.declared.target.Target.{Target}
use Rattle.imap_model.specs.Changes.{Batch, deed_of, receiver}
use Rattle.imap_model.specs.Changes.Batch.{more, none}
use Rattle.imap_model.specs.Evolving.{EvolvesFrom}
use Rattle.imap_model.specs.Lookups.{box_at, validity_of}
use Rattle.imap_model.specs.declared.deed.Author.{Author}
use Rattle.imap_model.specs.declared.deed.Author.TheVariants.{Other, Ours}
use Rattle.imap_model.specs.declared.deed.Deed.{Deed}
use Rattle.imap_model.specs.declared.server.Mailbox.{Mailbox}
use Rattle.imap_model.specs.declared.server.Server.{Server}
use Rattle.book_laws.proofs.Facts.{box_evolves}
use Rattle.book_laws.proofs.Queueing.{IsChangedAt, changed_at, get_push}
use Rattle.book_laws.specs.Kept.{NoneOurs}
use Rattle.book_laws.specs.Reached.{ActionReached, DeedReached, DeedsReached, HasReached, Reached, TargetReached}
use Rattle.std.proofs.Common.{List, None, Some, [], ap, arith, inl, inr, length, subst, sym, ℕ, ◌++◌, ◌∙◌, ◌∷◌, ◌≡◌, ◌⊎◌}
use Rattle.std.specs.Prelude.{slice_get}
use Rattle.action_queue.specs.declared.action.Action.TheVariants as actions
use Rattle.action_queue.specs.declared.target.Target.TheVariants as targets

-- a mailbox that is there has its own
pub reached_here : (name : List ℕ) (boxes : List Mailbox) (x : Mailbox) → box_at name boxes ≡ Some x →
    HasReached name (validity_of (box_at name boxes)) boxes
reached_here name boxes x there =
    let own : validity_of (box_at name boxes) ≡ x.validity = ap validity_of there in
    record { box = x; there = there; not_below = omega arith; facts = λ _. tt }

module _ (old new : List Mailbox) (ev : EvolvesFrom old old new) where
  pub reached_goes : (name : List ℕ) (validity : ℕ) → HasReached name validity old → HasReached name validity new
  reached_goes name validity r = box_evolves (λ _. Unit {0}) name validity old new ev (λ x y f g v goes facts. tt) r

  target_goes : (target : Target) → TargetReached old target → TargetReached new target
  target_goes (targets.Real name validity uid) r = reached_goes name validity r
  target_goes (targets.Dummy n) r = tt

  action_goes : (action : Action) → ActionReached old action → ActionReached new action
  action_goes (actions.Flag target add flags) r = target_goes target r
  action_goes (actions.Move target to) r = target_goes target r
  action_goes (actions.Append to flags text id) r = tt

  deed_goes : (d : Deed) (author : Author) → DeedReached old d author → DeedReached new d author
  deed_goes d Other r = tt
  deed_goes d (Ours tag) r = reached_goes (receiver d.name d.change) d.received r

  pub deeds_go : (deeds : List Deed) → DeedsReached old deeds → DeedsReached new deeds
  deeds_go [] r = tt
  deeds_go (d ∷ ds) r = (deed_goes d d.author r.0, deeds_go ds r.1)

deeds_push : (boxes : List Mailbox) (d : Deed) (deeds : List Deed) → DeedReached boxes d d.author → DeedsReached boxes deeds →
    DeedsReached boxes (deeds ++ d ∷ [])
deeds_push boxes d [] one r = (one, tt)
deeds_push boxes d (x ∷ xs) one r = (r.0, deeds_push boxes d xs one r.1)

-- changes by others add none of this client's
batch_reached : (boxes base : List Mailbox) (s t : Server) → Batch base s t → DeedsReached boxes s.history → DeedsReached boxes t.history
batch_reached boxes base s t none r = r
batch_reached boxes base s t (more {m = mid} name change c b) r =
    batch_reached boxes base mid t b (subst (λ (h : List Deed). DeedsReached boxes h) (sym c.history)
    (deeds_push boxes (deed_of Other name change mid.boxes) s.history tt r))

pub others_reached : (b : Meaning) (s t : Server) → Batch s.boxes s t → EvolvesFrom s.boxes s.boxes t.boxes → Reached b s → Reached b t
others_reached b s t foreign ev r = record {
  waiting = λ i q e o. action_goes s.boxes t.boxes ev q.action (r.waiting i q e o);
  deeds = batch_reached t.boxes s.boxes s t foreign (deeds_go s.boxes t.boxes ev s.history r.deeds);
}

-- one change of this client's, in a mailbox that is there
pub acted_reached : (b : Meaning) (s t : Server) (d : Deed) → t.history ≡ s.history ++ d ∷ [] → EvolvesFrom s.boxes s.boxes t.boxes →
    DeedReached t.boxes d d.author → Reached b s → Reached b t
acted_reached b s t d history ev one r = record {
  waiting = λ i q e o. action_goes s.boxes t.boxes ev q.action (r.waiting i q e o);
  deeds = subst (λ (h : List Deed). DeedsReached t.boxes h) (sym history)
      (deeds_push t.boxes d s.history one (deeds_go s.boxes t.boxes ev s.history r.deeds));
}

-- where nothing is this client's
none_deed : (boxes : List Mailbox) (d : Deed) → d.author ≡ Other → DeedReached boxes d d.author
none_deed boxes d is = subst (λ (a : Author). DeedReached boxes d a) (sym is) tt

pub none_reached : (boxes : List Mailbox) (deeds : List Deed) → NoneOurs deeds → DeedsReached boxes deeds
none_reached boxes [] n = tt
none_reached boxes (d ∷ ds) n = (none_deed boxes d n.0, none_reached boxes ds n.1)

-- an action is accepted that names what is reached
module _ (b : Meaning) (action : Action) (s : Server) (reached : Reached b s) (new : ActionReached s.boxes action) where
  accepted_at : (i : ℕ) (q : Queued) → q.outcome ≡ None → (slice_get b.queue i ≡ Some q) ⊎ ((i ≡ length b.queue) × (q ≡ accepted action)) →
      ActionReached s.boxes q.action
  accepted_at i q o (inl e) = reached.waiting i q e o
  accepted_at i q o (inr e) = subst (λ (x : Queued). ActionReached s.boxes x.action) (sym e.1) new

  pub accept_reached : (i : ℕ) (q : Queued) → slice_get (b.queue ++ accepted action ∷ []) i ≡ Some q → q.outcome ≡ None → ActionReached s.boxes q.action
  accept_reached i q e o = accepted_at i q o (get_push b.queue (accepted action) q i e)

-- an action ends
module _ (b : Meaning) (outcome : Outcome) (s : Server) (reached : Reached b s) where
  settled_at : (i : ℕ) (q : Queued) → q.outcome ≡ None → IsChangedAt (settled outcome) b.queue i q → ActionReached s.boxes q.action
  settled_at i q o (inl h) = reached.waiting i q h.there o
  settled_at i q o (inr h) =
      let other : q.outcome ≡ Some outcome = ap (λ (x : Queued). x.outcome) h.is in
      absurd (cc)

  pub settle_reached : (i : ℕ) (q : Queued) → slice_get (change_first (settled outcome) b.queue) i ≡ Some q → q.outcome ≡ None →
      ActionReached s.boxes q.action
  settle_reached i q e o = settled_at i q o (changed_at (settled outcome) b.queue i q e)

-- a try of one is taken back
module _ (b : Meaning) (tries : ℕ) (s : Server) (reached : Reached b s) where
  tried_at : (i : ℕ) (q : Queued) → q.outcome ≡ None → IsChangedAt (tried tries) b.queue i q → ActionReached s.boxes q.action
  tried_at i q o (inl h) = reached.waiting i q h.there o
  tried_at i q o (inr h) =
      subst (λ (x : Queued). ActionReached s.boxes x.action) (sym h.is)
      (reached.waiting i h.queued h.there (sym (ap (λ (x : Queued). x.outcome) h.is) ∙ o))

  pub tried_reached : (i : ℕ) (q : Queued) → slice_get (change_first (tried tries) b.queue) i ≡ Some q → q.outcome ≡ None →
      ActionReached s.boxes q.action
  tried_reached i q e o = tried_at i q o (changed_at (tried tries) b.queue i q e)
