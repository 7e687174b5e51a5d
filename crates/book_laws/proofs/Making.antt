-- The actions that make a message, and the targets that are its dummies, as a book goes on.
use Rattle.std.proofs.Common.{◌≡◌, ◌⊎◌, inl, inr, ℕ, ◌-◌, Bool, true, false, not, List, [], ◌∷◌, length, Option, Some, None}
use Rattle.std.proofs.Common.{refl, sym, ◌∙◌, ap, subst}
use Rattle.std.specs.Prelude.{bytes_eq, slice_get, ◌||◌, is_none}
use Rattle.std.proofs.lemmas.Bool.{cond_both}
use Rattle.std.proofs.lemmas.Option.{same_Some, slice_get_within}
use Rattle.imap_model.proofs.Finding.{cond_two}
use Rattle.mailbox_cache.specs.declared.cache.Cache.{Cache}
use Rattle.action_queue.specs.Queues.{due_action, accepted, settled, tried}
use Rattle.action_queue.specs.Targets.{action_at}
use Rattle.action_queue.specs.Rules.{is_unknown, is_unknown_target, is_unknown_action, is_misplaced_of}
use Rattle.action_queue.specs.Rules.{makes, makes_queued, is_bad_target, is_bad_action}
use Rattle.action_queue.specs.Book.{known_at, put_cache}
use Rattle.action_queue.specs.declared.target.Target.{Target}
use Rattle.action_queue.specs.declared.target.Target.TheVariants as targets
use Rattle.action_queue.specs.declared.action.Action.{Action}
use Rattle.action_queue.specs.declared.action.Action.TheVariants as actions
use Rattle.action_queue.specs.declared.outcome.Outcome.{Outcome}
use Rattle.action_queue.specs.declared.outcome.Outcome.TheVariants as outcomes
use Rattle.action_queue.specs.declared.queued.Queued.{Queued}
use Rattle.action_queue.specs.declared.book.Known.{Known}
use Rattle.dummy_ids.specs.Makers.{HasPlace, IsMaker}
use Rattle.dummy_ids.specs.Places.{to_of}
use Rattle.book_laws.specs.Sound.{IsPlaced, IsEarlierMaker, IsRealOrEarlier, IsTargetGood}
use Rattle.book_laws.proofs.Queueing.{Stays, QueueGrows, IsChangedAt}

pub or_both : (a b : Bool) → (a || b) ≡ false → (a ≡ false) × (b ≡ false)
or_both true b = λ e. absurd (cc)
or_both false b = λ e. (refl, e)

-- where the mailboxes of an action are known, so is the one that it puts a message into
pub to_known : (boxes : List Known) (action : Action) (to : List ℕ) → to_of action ≡ Some to → is_unknown_action boxes action ≡ false →
    is_unknown boxes to ≡ false
to_known boxes (actions.Flag target add flags) to into known = absurd (cc)
to_known boxes (actions.Move target box) to into known =
    subst (λ (n : List ℕ). is_unknown boxes n ≡ false) (same_Some box to into)
    (or_both (is_unknown_target boxes target) (is_unknown boxes box) known).1
to_known boxes (actions.Append box flags text id) to into known =
    subst (λ (n : List ℕ). is_unknown boxes n ≡ false) (same_Some box to into) known

-- an outcome that isn't misplaced has a place where its action makes a message
has_place : (action : Action) (outcome : Outcome) (to : List ℕ) → to_of action ≡ Some to → is_misplaced_of action outcome ≡ false →
    HasPlace (Some outcome)
has_place (actions.Flag target add flags) outcome to into placed = absurd (cc)
has_place (actions.Move target box) (outcomes.Conflict kind) to into placed = tt
has_place (actions.Move target box) (outcomes.Done None) to into placed = absurd (cc)
has_place (actions.Move target box) (outcomes.Done (Some place)) to into placed = tt
has_place (actions.Append box flags text id) (outcomes.Conflict kind) to into placed = tt
has_place (actions.Append box flags text id) (outcomes.Done None) to into placed = absurd (cc)
has_place (actions.Append box flags text id) (outcomes.Done (Some place)) to into placed = tt

place_by : (action : Action) (outcome : Option Outcome) (to : List ℕ) → to_of action ≡ Some to →
    ((o : Outcome) → outcome ≡ Some o → is_misplaced_of action o ≡ false) → HasPlace outcome
place_by action None to into placed = tt
place_by action (Some outcome) to into placed = has_place action outcome to into (placed outcome refl)

abbrev pub AllPlaced : List Queued → Type 0
AllPlaced queue = (i : ℕ) (q : Queued) → slice_get queue i ≡ Some q → IsPlaced q

abbrev pub AllGood : List Queued → Type 0
AllGood queue = (i : ℕ) (q : Queued) → slice_get queue i ≡ Some q → IsTargetGood queue i q.action

-- where each outcome has its place, an action that makes a message is a maker
maker_at : (queue : List Queued) (n : ℕ) (q : Queued) (to : List ℕ) → AllPlaced queue → action_at queue n ≡ Some q →
    to_of q.action ≡ Some to → IsMaker queue n
maker_at queue n q to placed is into = record {
  queued = q;
  is = is;
  to = to;
  into = into;
  place = place_by q.action q.outcome to into (placed (n - 1) q is);
}

module _ (old new : List Queued) (grows : QueueGrows old new) (placed : AllPlaced new) where
  maker_grows : (n : ℕ) → IsMaker old n → IsMaker new n
  maker_grows n m =
      let s : Stays m.queued new (n - 1) = grows.each (n - 1) m.queued m.is in
      maker_at new n s.queued m.to placed s.there (ap to_of s.action ∙ m.into)

  target_grows : (i : ℕ) (target : Target) → IsRealOrEarlier old i target → IsRealOrEarlier new i target
  target_grows i (targets.Real name validity uid) good = tt
  target_grows i (targets.Dummy n) good = record { earlier = good.earlier; maker = maker_grows n good.maker }

  -- a target that was good stays good
  pub good_grows : (i : ℕ) (action : Action) → IsTargetGood old i action → IsTargetGood new i action
  good_grows i (actions.Flag target add flags) good = target_grows i target good
  good_grows i (actions.Move target to) good = target_grows i target good
  good_grows i (actions.Append to flags text id) good = tt

-- the mailbox that an action puts a message into
record MakesInto (action : Action) : Type 0 where
  to : List ℕ
  into : to_of action ≡ Some to

makes_into : (action : Action) → makes action ≡ true → MakesInto action
makes_into (actions.Flag target add flags) m = absurd (cc)
makes_into (actions.Move target to) m = record { to = to; into = refl }
makes_into (actions.Append to flags text id) m = record { to = to; into = refl }

module _ (queue : List Queued) (placed : AllPlaced queue) where
  earlier_by : (n : ℕ) (o : Option Queued) → action_at queue n ≡ o → not (makes_queued o) ≡ false → IsEarlierMaker queue (length queue) n
  earlier_by n None is good = absurd (cc)
  earlier_by n (Some q) is good =
      let m : MakesInto q.action = makes_into q.action (made (makes q.action) good) in
      record { earlier = slice_get_within queue (n - 1) q is; maker = maker_at queue n q m.to placed is m.into }
    where
      made : (b : Bool) → not b ≡ false → b ≡ true
      made true e = refl
      made false e = absurd (cc)

  target_new : (target : Target) → is_bad_target queue target ≡ false → IsRealOrEarlier queue (length queue) target
  target_new (targets.Real name validity uid) good = tt
  target_new (targets.Dummy n) good = earlier_by n (action_at queue n) refl good

  -- an action that breaks no rule of targets has a good one, behind all others
  pub good_new : (action : Action) → is_bad_action queue action ≡ false → IsTargetGood queue (length queue) action
  good_new (actions.Flag target add flags) good = target_new target good
  good_new (actions.Move target to) good = target_new target good
  good_new (actions.Append to flags text id) good = tt

-- an action that was just accepted, and those before it
pub accepted_placed : (action : Action) → IsPlaced (accepted action)
accepted_placed action outcome e = absurd (cc)

pub accepted_good : (queue : List Queued) (new : Queued) → AllGood queue → IsTargetGood queue (length queue) new.action →
    (i : ℕ) (q : Queued) → (slice_get queue i ≡ Some q) ⊎ ((i ≡ length queue) × (q ≡ new)) → IsTargetGood queue i q.action
accepted_good queue new all good i q (inl e) = all i q e
accepted_good queue new all good i q (inr e) =
    subst (λ (j : ℕ). IsTargetGood queue j q.action) (sym e.0)
    (subst (λ (x : Queued). IsTargetGood queue (length queue) x.action) (sym e.1) good)

-- an action that is settled with an outcome that isn't misplaced, and those beside it
pub settled_placed : (queue : List Queued) (outcome : Outcome) (due_one : Queued) → AllPlaced queue → due_action queue ≡ Some due_one →
    is_misplaced_of due_one.action outcome ≡ false → (i : ℕ) (q : Queued) → IsChangedAt (settled outcome) queue i q → IsPlaced q
settled_placed queue outcome due_one placed there fits i q (inl h) = placed i q h.there
settled_placed queue outcome due_one placed there fits i q (inr h) =
    let here : due_action queue ≡ Some h.queued = subst (λ (j : ℕ). slice_get queue j ≡ Some h.queued) h.place h.there in
    let is : due_one ≡ h.queued = same_Some due_one h.queued (sym there ∙ here) in
    subst IsPlaced (sym h.is)
    (λ other e. subst (λ (o : Outcome). is_misplaced_of h.queued.action o ≡ false) (same_Some outcome other e)
    (subst (λ (x : Queued). is_misplaced_of x.action outcome ≡ false) is fits))

pub settled_good : (queue : List Queued) (outcome : Outcome) → AllGood queue →
    (i : ℕ) (q : Queued) → IsChangedAt (settled outcome) queue i q → IsTargetGood queue i q.action
settled_good queue outcome all i q (inl h) = all i q h.there
settled_good queue outcome all i q (inr h) = subst (λ (x : Queued). IsTargetGood queue i x.action) (sym h.is) (all i h.queued h.there)

-- another cache leaves the names that are known
pub unknown_put : (name : List ℕ) (cache : Option Cache) (ks : List Known) (n : List ℕ) →
    is_unknown (put_cache name cache ks) n ≡ is_unknown ks n
unknown_put name cache [] n = refl
unknown_put name cache (k ∷ ks) n =
    cond_both (bytes_eq k.name name) (record k { cache = cache } ∷ ks) (k ∷ put_cache name cache ks)
    (λ (l : List Known). is_none (known_at n l) ≡ is_none (known_at n (k ∷ ks)))
    (λ t. cond_two (bytes_eq k.name n) (Some (record k { cache = cache })) (known_at n ks) (Some k) (known_at n ks)
    (λ (o p : Option Known). is_none o ≡ is_none p) (λ u. refl) (λ u. refl))
    (λ f. cond_two (bytes_eq k.name n) (Some k) (known_at n (put_cache name cache ks)) (Some k) (known_at n ks)
    (λ (o p : Option Known). is_none o ≡ is_none p) (λ u. refl) (λ u. unknown_put name cache ks n))

-- where the same names are known, so are the mailboxes of the same actions
module _ (old new : List Known) (same : (n : List ℕ) → is_unknown new n ≡ is_unknown old n) where
  target_same : (target : Target) → is_unknown_target new target ≡ is_unknown_target old target
  target_same (targets.Real name validity uid) = same name
  target_same (targets.Dummy n) = refl

  pub action_same : (action : Action) → is_unknown_action new action ≡ is_unknown_action old action
  action_same (actions.Flag target add flags) = target_same target
  action_same (actions.Move target to) =
      ap (λ (t : Bool). t || is_unknown new to) (target_same target) ∙ ap (λ (t : Bool). is_unknown_target old target || t) (same to)
  action_same (actions.Append to flags text id) = same to

-- so it is where a try of it is taken back
pub tried_good : (queue : List Queued) (tries : ℕ) → AllGood queue →
    (i : ℕ) (q : Queued) → IsChangedAt (tried tries) queue i q → IsTargetGood queue i q.action
tried_good queue tries all i q (inl h) = all i q h.there
tried_good queue tries all i q (inr h) = subst (λ (x : Queued). IsTargetGood queue i x.action) (sym h.is) (all i h.queued h.there)
