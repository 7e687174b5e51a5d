-- Lawful events make books that can be told anew.
use Rattle.std.proofs.Common.{◌≡◌, ℕ, zero, suc, ◌+◌, ◌-◌, ◌≤◌, ◌<◌, Bool, true, false, not, cond, eqb, ltb, ◌||◌, ◌&&◌, List, [], ◌∷◌, ◌++◌, length, map}
use Rattle.std.proofs.Common.{Option, Some, None, refl, sym, ◌∙◌, ap, subst, arith, append_assoc, length-append}
use Rattle.std.specs.Prelude.{◌==◌, nat_le, nat_lt, is_none, is_some, bytes_eq, slice_get}
use Rattle.std.proofs.lemmas.List.{append-nil}
use Rattle.std.proofs.lemmas.Bool.{cond_both, ltb-false, leb-false, eqb-true}
use Rattle.std.proofs.lemmas.Option.{same_Some}
use Rattle.uid_sets.specs.declared.uid.UidRange.{UidRange}
use Rattle.mailbox_cache.proofs.Counting.{puts_rise, without_rises}
use Rattle.mailbox_cache.specs.Rows.{put_row, put_rows, without_uids, has_uid}
use Rattle.mailbox_cache.specs.declared.cache.Cache.{Cache}
use Rattle.mailbox_cache.specs.declared.delta.Delta.{Delta}
use Rattle.mailbox_cache.specs.declared.row.Row.{Row}
use Rattle.action_queue.specs.Book.{Meaning, after, begun, cache_of, cache_at, known_at, known_of, put_cache, learned}
use Rattle.action_queue.specs.Events.{AreNames}
use Rattle.action_queue.specs.Queues.{due, due_action, accepted, ended, settled, settled_then, change_first, change_queued, AllOpen, IsInOrder, InOrderThen}
use Rattle.action_queue.specs.Queues.{tried, tries_of, untried}
use Rattle.action_queue.specs.Restating.{book_of, names_of, IsWell, AreWell, IsWellCache, IsWellKnown, AreWellBoxes, IsWellIntent, IsWellBook, MayBeTried}
use Rattle.action_queue.specs.Rules.{is_unknown, is_unknown_target, is_unknown_action, is_unknown_intent, makes, makes_queued, is_bad_target, is_bad_action}
use Rattle.action_queue.specs.Rules.{suits, is_unsuited, is_misplaced, is_misplaced_of, is_misfit, is_misfit_of, is_misfit_old, rests_on_intent, comes_before_intent, is_wrong_whole, is_wrong_validity, is_lower_mark}
use Rattle.action_queue.specs.Rules.{first_broken, is_found_under, names_validity, is_early, is_no_flag, is_no_turn, is_wrong_number, is_wrong_turn, is_wrong_tries}
use Rattle.action_queue.specs.Targets.{landed_queued, resolved, is_at, is_never}
use Rattle.action_queue.specs.Writable.{IsWritable, IsWritableAction, HaveFewFlags}
use Rattle.action_queue.specs.declared.action.Action.{Action}
use Rattle.action_queue.specs.declared.action.Action.TheVariants as actions
use Rattle.action_queue.specs.declared.book.Known.{Known}
use Rattle.action_queue.specs.declared.event.Event.{Event}
use Rattle.action_queue.specs.declared.found.Found.{Found}
use Rattle.action_queue.specs.declared.event.Event.TheVariants as events
use Rattle.action_queue.specs.declared.intent.Intent.{Intent}
use Rattle.action_queue.specs.declared.intent.Intent.TheVariants as intents
use Rattle.action_queue.specs.declared.outcome.Kind.TheVariants as kinds
use Rattle.action_queue.specs.declared.outcome.Outcome.{Outcome}
use Rattle.action_queue.specs.declared.outcome.Outcome.TheVariants as outcomes
use Rattle.action_queue.specs.declared.queued.Queued.{Queued}
use Rattle.action_queue.specs.declared.rule.Rule.{Rule}
use Rattle.action_queue.specs.declared.rule.Version.{Version}
use Rattle.action_queue.specs.declared.rule.Version.TheVariants as versions
use Rattle.action_queue.specs.declared.target.Target.{Target}
use Rattle.action_queue.specs.declared.target.Target.TheVariants as targets
use Rattle.action_queue.proofs.Queueing.{due_push, due_tried, none_due, order_push, order_ended, order_settled, order_tried, length_change, same_tries, tried_then}

-- ---- what a lawful event tells

unbroken : (b : Bool) (r : Rule) (o : Option Rule) → cond b (Some r) o ≡ None → (b ≡ false) × (o ≡ None)
unbroken true r o e = absurd cc
unbroken false r o e = (refl, e)

is_true : (b : Bool) → not b ≡ false → b ≡ true
is_true true e = refl
is_true false e = absurd cc

no_some : {A : Type 0} (o : Option A) → is_some o ≡ false → o ≡ None
no_some None e = refl
no_some (Some x) e = absurd cc

never : {A P : Type 0} (o : Option A) (x : A) → o ≡ None → o ≡ Some x → P
never o x e f = let g : None ≡ Some x = sym e ∙ f in absurd cc

-- ---- names

names_put : (name : List ℕ) (c : Option Cache) (boxes : List Known) → names_of (put_cache name c boxes) ≡ names_of boxes
names_put name c [] = refl
names_put name c (k ∷ ks) =
    cond_both (bytes_eq k.name name) (record k { cache = c } ∷ ks) (k ∷ put_cache name c ks) (λ (l : List Known). names_of l ≡ k.name ∷ names_of ks)
    (λ t. refl) (λ f. ap (λ (l : List (List ℕ)). k.name ∷ l) (names_put name c ks))

names_begun : (names : List (List ℕ)) → names_of (map known_of names) ≡ names
names_begun [] = refl
names_begun (n ∷ ns) = ap (λ (l : List (List ℕ)). n ∷ l) (names_begun ns)

none_same : (b : Bool) (x y : Known) (o : Option Known) → is_none (cond b (Some x) o) ≡ is_none (cond b (Some y) o)
none_same true x y o = refl
none_same false x y o = refl

none_tail : (b : Bool) (x : Known) (o p : Option Known) → is_none o ≡ is_none p → is_none (cond b (Some x) o) ≡ is_none (cond b (Some x) p)
none_tail true x o p e = refl
none_tail false x o p e = e

unknown_put : (name : List ℕ) (c : Option Cache) (n : List ℕ) (boxes : List Known) → is_unknown (put_cache name c boxes) n ≡ is_unknown boxes n
unknown_put name c n [] = refl
unknown_put name c n (k ∷ ks) =
    cond_both (bytes_eq k.name name) (record k { cache = c } ∷ ks) (k ∷ put_cache name c ks) (λ (l : List Known). is_unknown l n ≡ is_unknown (k ∷ ks) n)
    (λ t. none_same (bytes_eq k.name n) (record k { cache = c }) k (known_at n ks))
    (λ f. none_tail (bytes_eq k.name n) k (known_at n (put_cache name c ks)) (known_at n ks) (unknown_put name c n ks))

module _ (boxes others : List Known) (same : (n : List ℕ) → is_unknown others n ≡ is_unknown boxes n) where
  target_same : (target : Target) → is_unknown_target others target ≡ is_unknown_target boxes target
  target_same (targets.Real name validity uid) = same name
  target_same (targets.Dummy n) = refl

  action_same : (action : Action) → is_unknown_action others action ≡ is_unknown_action boxes action
  action_same (actions.Flag target add flags) = target_same target
  action_same (actions.Move target to) =
      ap (λ (b : Bool). b || is_unknown others to) (target_same target) ∙ ap (λ (b : Bool). is_unknown_target boxes target || b) (same to)
  action_same (actions.Append to flags text id) = same to

  intent_same : (intent : Intent) → is_unknown_intent others intent ≡ is_unknown_intent boxes intent
  intent_same (intents.Store name validity uid modseq) = same name
  intent_same (intents.Shift from validity uid to) =
      ap (λ (b : Bool). b || is_unknown others to) (same from) ∙ ap (λ (b : Bool). is_unknown boxes from || b) (same to)
  intent_same (intents.Put to validity uidnext) = same to

-- ---- caches

well_at : (name : List ℕ) (boxes : List Known) → AreWellBoxes boxes → IsWellKnown (cache_at name boxes)
well_at name [] w = tt
well_at name (k ∷ ks) w =
    cond_both (bytes_eq k.name name) (Some k) (known_at name ks) (λ (o : Option Known). IsWellKnown (cache_of o)) (λ t. w.0) (λ f. well_at name ks w.1)

wells_put : (name : List ℕ) (c : Option Cache) → IsWellKnown c → (boxes : List Known) → AreWellBoxes boxes → AreWellBoxes (put_cache name c boxes)
wells_put name c good [] w = tt
wells_put name c good (k ∷ ks) w =
    cond_both (bytes_eq k.name name) (record k { cache = c } ∷ ks) (k ∷ put_cache name c ks) AreWellBoxes
    (λ t. (good, w.1)) (λ f. (w.0, wells_put name c good ks w.1))

wells_begun : (names : List (List ℕ)) → AreWellBoxes (map known_of names)
wells_begun [] = tt
wells_begun (n ∷ ns) = (tt, wells_begun ns)

few_put : (r : ℕ × Row) (rows : List (ℕ × Row)) → length r.1.flags ≤ 1024 → HaveFewFlags rows → HaveFewFlags (put_row r rows)
few_put r [] a h = (a, tt)
few_put r (x ∷ rows) a h =
    cond_both (eqb x.0 r.0) (r ∷ rows) (cond (ltb r.0 x.0) (r ∷ x ∷ rows) (x ∷ put_row r rows)) HaveFewFlags
    (λ t. (a, h.1))
    (λ f. cond_both (ltb r.0 x.0) (r ∷ x ∷ rows) (x ∷ put_row r rows) HaveFewFlags (λ t. (a, h)) (λ f. (h.0, few_put r rows a h.1)))

few_puts : (new rows : List (ℕ × Row)) → HaveFewFlags new → HaveFewFlags rows → HaveFewFlags (put_rows new rows)
few_puts [] rows a h = h
few_puts (r ∷ new) rows a h = few_put r (put_rows new rows) a.0 (few_puts new rows a.1 h)

few_without : (gone : List UidRange) (rows : List (ℕ × Row)) → HaveFewFlags rows → HaveFewFlags (without_uids gone rows)
few_without gone [] h = tt
few_without gone (r ∷ rows) h =
    cond_both (has_uid gone r.0) (without_uids gone rows) (r ∷ without_uids gone rows) HaveFewFlags
    (λ t. few_without gone rows h.1) (λ f. (h.0, few_without gone rows h.1))

cache_learned : (o : Option Cache) (delta : Delta) → IsWellKnown o → HaveFewFlags delta.rows → nat_lt 200000 (length (learned o delta).rows) ≡ false →
    IsWellCache (learned o delta)
cache_learned None delta w flags few = record { rising = delta.rising; few = ltb-false 200000 (length delta.rows) few; flags = flags }
cache_learned (Some c) delta w flags few = record {
  rising = puts_rise delta.rows (without_uids delta.vanished c.rows) (without_rises delta.vanished c.rows w.rising);
  few = ltb-false 200000 (length (learned (Some c) delta).rows) few;
  flags = few_puts delta.rows (without_uids delta.vanished c.rows) flags (few_without delta.vanished c.rows w.flags);
}

-- ---- actions

misfit_boxes : (boxes others : List Known) (queue : List Queued) (action : Action) (outcome : Outcome) →
    is_misfit_old (book_of boxes queue) action outcome ≡ is_misfit_old (book_of others queue) action outcome
misfit_boxes boxes others queue action (outcomes.Done place) = refl
misfit_boxes boxes others queue (actions.Flag target add flags) (outcomes.Conflict kinds.MessageGone) = refl
misfit_boxes boxes others queue (actions.Flag target add flags) (outcomes.Conflict kinds.AlreadySo) = refl
misfit_boxes boxes others queue (actions.Flag target add flags) (outcomes.Conflict (kinds.FlagsChanged m)) = refl
misfit_boxes boxes others queue (actions.Flag target add flags) (outcomes.Conflict kinds.RefusedNo) = refl
misfit_boxes boxes others queue (actions.Flag target add flags) (outcomes.Conflict kinds.RefusedBad) = refl
misfit_boxes boxes others queue (actions.Flag target add flags) (outcomes.Conflict kinds.NotPermanent) = refl
misfit_boxes boxes others queue (actions.Flag target add flags) (outcomes.Conflict (kinds.TargetUnknown k)) = refl
misfit_boxes boxes others queue (actions.Flag target add flags) (outcomes.Conflict kinds.FoundSo) = refl
misfit_boxes boxes others queue (actions.Flag target add flags) (outcomes.Conflict (kinds.StoreUnsure m f)) = refl
misfit_boxes boxes others queue (actions.Flag target add flags) (outcomes.Conflict kinds.SourceGone) = refl
misfit_boxes boxes others queue (actions.Flag target add flags) (outcomes.Conflict kinds.GoneAfterLoss) = refl
misfit_boxes boxes others queue (actions.Flag target add flags) (outcomes.Conflict (kinds.Ambiguous u v)) = refl
misfit_boxes boxes others queue (actions.Flag target add flags) (outcomes.Conflict (kinds.ValidityChanged o n)) = refl
misfit_boxes boxes others queue (actions.Flag target add flags) (outcomes.Conflict (kinds.ResetAfterLoss o n)) = refl
misfit_boxes boxes others queue (actions.Move target to) (outcomes.Conflict kinds.MessageGone) = refl
misfit_boxes boxes others queue (actions.Move target to) (outcomes.Conflict kinds.AlreadySo) = refl
misfit_boxes boxes others queue (actions.Move target to) (outcomes.Conflict (kinds.FlagsChanged m)) = refl
misfit_boxes boxes others queue (actions.Move target to) (outcomes.Conflict kinds.RefusedNo) = refl
misfit_boxes boxes others queue (actions.Move target to) (outcomes.Conflict kinds.RefusedBad) = refl
misfit_boxes boxes others queue (actions.Move target to) (outcomes.Conflict kinds.NotPermanent) = refl
misfit_boxes boxes others queue (actions.Move target to) (outcomes.Conflict (kinds.TargetUnknown k)) = refl
misfit_boxes boxes others queue (actions.Move target to) (outcomes.Conflict kinds.FoundSo) = refl
misfit_boxes boxes others queue (actions.Move target to) (outcomes.Conflict (kinds.StoreUnsure m f)) = refl
misfit_boxes boxes others queue (actions.Move target to) (outcomes.Conflict kinds.SourceGone) = refl
misfit_boxes boxes others queue (actions.Move target to) (outcomes.Conflict kinds.GoneAfterLoss) = refl
misfit_boxes boxes others queue (actions.Move target to) (outcomes.Conflict (kinds.Ambiguous u v)) = refl
misfit_boxes boxes others queue (actions.Move target to) (outcomes.Conflict (kinds.ValidityChanged o n)) = refl
misfit_boxes boxes others queue (actions.Move target to) (outcomes.Conflict (kinds.ResetAfterLoss o n)) = refl
misfit_boxes boxes others queue (actions.Append to flags text id) (outcomes.Conflict kind) = refl

-- nor does it depend on the intent
misfit_pending : (b : Meaning) (action : Action) (outcome : Outcome) → is_misfit_old (book_of b.boxes b.queue) action outcome ≡ is_misfit_old b action outcome
misfit_pending b action (outcomes.Done place) = refl
misfit_pending b (actions.Flag target add flags) (outcomes.Conflict kinds.MessageGone) = refl
misfit_pending b (actions.Flag target add flags) (outcomes.Conflict kinds.AlreadySo) = refl
misfit_pending b (actions.Flag target add flags) (outcomes.Conflict (kinds.FlagsChanged m)) = refl
misfit_pending b (actions.Flag target add flags) (outcomes.Conflict kinds.RefusedNo) = refl
misfit_pending b (actions.Flag target add flags) (outcomes.Conflict kinds.RefusedBad) = refl
misfit_pending b (actions.Flag target add flags) (outcomes.Conflict kinds.NotPermanent) = refl
misfit_pending b (actions.Flag target add flags) (outcomes.Conflict (kinds.TargetUnknown k)) = refl
misfit_pending b (actions.Flag target add flags) (outcomes.Conflict kinds.FoundSo) = refl
misfit_pending b (actions.Flag target add flags) (outcomes.Conflict (kinds.StoreUnsure m f)) = refl
misfit_pending b (actions.Flag target add flags) (outcomes.Conflict kinds.SourceGone) = refl
misfit_pending b (actions.Flag target add flags) (outcomes.Conflict kinds.GoneAfterLoss) = refl
misfit_pending b (actions.Flag target add flags) (outcomes.Conflict (kinds.Ambiguous u v)) = refl
misfit_pending b (actions.Flag target add flags) (outcomes.Conflict (kinds.ValidityChanged o n)) = refl
misfit_pending b (actions.Flag target add flags) (outcomes.Conflict (kinds.ResetAfterLoss o n)) = refl
misfit_pending b (actions.Move target to) (outcomes.Conflict kinds.MessageGone) = refl
misfit_pending b (actions.Move target to) (outcomes.Conflict kinds.AlreadySo) = refl
misfit_pending b (actions.Move target to) (outcomes.Conflict (kinds.FlagsChanged m)) = refl
misfit_pending b (actions.Move target to) (outcomes.Conflict kinds.RefusedNo) = refl
misfit_pending b (actions.Move target to) (outcomes.Conflict kinds.RefusedBad) = refl
misfit_pending b (actions.Move target to) (outcomes.Conflict kinds.NotPermanent) = refl
misfit_pending b (actions.Move target to) (outcomes.Conflict (kinds.TargetUnknown k)) = refl
misfit_pending b (actions.Move target to) (outcomes.Conflict kinds.FoundSo) = refl
misfit_pending b (actions.Move target to) (outcomes.Conflict (kinds.StoreUnsure m f)) = refl
misfit_pending b (actions.Move target to) (outcomes.Conflict kinds.SourceGone) = refl
misfit_pending b (actions.Move target to) (outcomes.Conflict kinds.GoneAfterLoss) = refl
misfit_pending b (actions.Move target to) (outcomes.Conflict (kinds.Ambiguous u v)) = refl
misfit_pending b (actions.Move target to) (outcomes.Conflict (kinds.ValidityChanged o n)) = refl
misfit_pending b (actions.Move target to) (outcomes.Conflict (kinds.ResetAfterLoss o n)) = refl
misfit_pending b (actions.Append to flags text id) (outcomes.Conflict kind) = refl

well_boxes : (boxes others : List Known) → ((n : List ℕ) → is_unknown others n ≡ is_unknown boxes n) → (before qs : List Queued) → AreWell boxes before qs →
    AreWell others before qs
well_boxes boxes others same before [] w = tt
well_boxes boxes others same before (q ∷ qs) w = (
  record {
    writable = w.0.writable;
    known = action_same boxes others same q.action ∙ w.0.known;
    good = w.0.good;
    fresh = w.0.fresh;
    placed = w.0.placed;
    fits = λ o e. misfit_boxes others boxes before q.action o ∙ w.0.fits o e;
  },
  well_boxes boxes others same (before ++ q ∷ []) qs w.1,
)

well_push : (boxes : List Known) (before qs : List Queued) (q : Queued) → AreWell boxes before qs → IsWell boxes (before ++ qs) q → AreWell boxes before (qs ++ q ∷ [])
well_push boxes before [] q a w = (subst (λ (l : List Queued). IsWell boxes l q) (append-nil before) w, tt)
well_push boxes before (x ∷ qs) q a w =
    (a.0, well_push boxes (before ++ x ∷ []) qs q a.1 (subst (λ (l : List Queued). IsWell boxes l q) (sym (append_assoc before (x ∷ []) qs)) w))

abbrev actions_of : List Queued → List Action
actions_of [] = []
actions_of (q ∷ qs) = q.action ∷ actions_of qs

actions_append : (xs ys : List Queued) → actions_of (xs ++ ys) ≡ actions_of xs ++ actions_of ys
actions_append [] ys = refl
actions_append (x ∷ xs) ys = ap (λ (l : List Action). x.action ∷ l) (actions_append xs ys)

abbrev makes_at : Option Action → Bool
makes_at None = false
makes_at (Some a) = makes a

made_by : (qs : List Queued) (i : ℕ) → makes_queued (slice_get qs i) ≡ makes_at (slice_get (actions_of qs) i)
made_by [] zero = refl
made_by [] (suc i) = refl
made_by (q ∷ qs) zero = refl
made_by (q ∷ qs) (suc i) = made_by qs i

bad_target_same : (xs ys : List Queued) → actions_of xs ≡ actions_of ys → (target : Target) → is_bad_target xs target ≡ is_bad_target ys target
bad_target_same xs ys e (targets.Real name validity uid) = refl
bad_target_same xs ys e (targets.Dummy n) =
    ap not (made_by xs (n - 1) ∙ ap (λ (l : List Action). makes_at (slice_get l (n - 1))) e ∙ sym (made_by ys (n - 1)))

bad_same : (xs ys : List Queued) → actions_of xs ≡ actions_of ys → (action : Action) → is_bad_action xs action ≡ is_bad_action ys action
bad_same xs ys e (actions.Flag target add flags) = bad_target_same xs ys e target
bad_same xs ys e (actions.Move target to) = bad_target_same xs ys e target
bad_same xs ys e (actions.Append to flags text id) = refl

-- where actions in front change in their outcomes alone, those that are waiting are as well as before
well_open : (boxes : List Known) (xs ys qs : List Queued) → actions_of xs ≡ actions_of ys → AllOpen qs → AreWell boxes xs qs → AreWell boxes ys qs
well_open boxes xs ys [] e o w = tt
well_open boxes xs ys (q ∷ qs) e o w = (
  record {
    writable = w.0.writable;
    known = w.0.known;
    good = bad_same ys xs (sym e) q.action ∙ w.0.good;
    fresh = w.0.fresh;
    placed = λ outcome is. never q.outcome outcome o.0 is;
    fits = λ outcome is. never q.outcome outcome o.0 is;
  },
  well_open boxes (xs ++ q ∷ []) (ys ++ q ∷ []) qs
      (actions_append xs (q ∷ []) ∙ ap (λ (l : List Action). l ++ q.action ∷ []) e ∙ sym (actions_append ys (q ∷ []))) o.1 w.1,
)

get_front : (xs rest : List Queued) (i : ℕ) (q : Queued) → slice_get xs i ≡ Some q → slice_get (xs ++ rest) i ≡ Some q
get_front [] rest zero q e = absurd cc
get_front [] rest (suc i) q e = absurd cc
get_front (x ∷ xs) rest zero q e = e
get_front (x ∷ xs) rest (suc i) q e = get_front xs rest i q e

some_made : (o : Option Queued) → makes_queued o ≡ true → (q : Queued) × (o ≡ Some q)
some_made None e = absurd cc
some_made (Some q) e = (q, refl)

-- a target that isn't bad resolves as in any longer queue
resolved_front : (xs rest : List Queued) (target : Target) → is_bad_target xs target ≡ false → resolved (xs ++ rest) target ≡ resolved xs target
resolved_front xs rest (targets.Real name validity uid) good = refl
resolved_front xs rest (targets.Dummy n) good =
    let some = some_made (slice_get xs (n - 1)) (is_true (makes_queued (slice_get xs (n - 1))) good) in
    ap (landed_queued n) (get_front xs rest (n - 1) some.0 some.1 ∙ sym some.1)

never_front : (boxes : List Known) (xs rest : List Queued) (target : Target) (k : ℕ) → is_bad_target xs target ≡ false →
    is_never (resolved (xs ++ rest) target) k ≡ true → is_never (resolved xs target) k ≡ true
never_front boxes xs rest target k good h = subst (λ (f : Found). is_never f k ≡ true) (resolved_front xs rest target good) h

found_front : (boxes : List Known) (xs rest : List Queued) (target : Target) (o n : ℕ) → is_bad_target xs target ≡ false →
    not (is_found_under (resolved (xs ++ rest) target) o && nat_lt o n) ≡ false → not (is_found_under (resolved xs target) o && nat_lt o n) ≡ false
found_front boxes xs rest target o n good h =
    subst (λ (f : Found). not (is_found_under f o && nat_lt o n) ≡ false) (resolved_front xs rest target good) h

-- what an intent names isn't asked of an action that ended
below_only : (a b : Bool) → not (a && b) ≡ false → not b ≡ false
below_only true b h = h
below_only false b h = absurd cc

-- an outcome that fits the action that is due fits it as one that ended
misfit_front : (b : Meaning) (boxes : List Known) (before rest : List Queued) (action : Action) (outcome : Outcome) →
    ((target : Target) → resolved b.queue target ≡ resolved (before ++ rest) target) → is_bad_action before action ≡ false → is_misfit_of b action outcome ≡ false → is_misfit_old (book_of boxes before) action outcome ≡ false
misfit_front b boxes before rest action (outcomes.Done place) is good h = refl
misfit_front b boxes before rest (actions.Flag target add flags) (outcomes.Conflict kinds.MessageGone) is good h = refl
misfit_front b boxes before rest (actions.Flag target add flags) (outcomes.Conflict kinds.AlreadySo) is good h = refl
misfit_front b boxes before rest (actions.Flag target add flags) (outcomes.Conflict (kinds.FlagsChanged m)) is good h = refl
misfit_front b boxes before rest (actions.Flag target add flags) (outcomes.Conflict kinds.RefusedNo) is good h = refl
misfit_front b boxes before rest (actions.Flag target add flags) (outcomes.Conflict kinds.RefusedBad) is good h = refl
misfit_front b boxes before rest (actions.Flag target add flags) (outcomes.Conflict kinds.NotPermanent) is good h = refl
misfit_front b boxes before rest (actions.Flag target add flags) (outcomes.Conflict (kinds.TargetUnknown k)) is good h =
    ap not (never_front boxes before rest target k good (subst (λ (f : Found). is_never f k ≡ true) (is target) (is_true (is_never (resolved b.queue target) k) h)))
misfit_front b boxes before rest (actions.Flag target add flags) (outcomes.Conflict kinds.FoundSo) is good h = refl
misfit_front b boxes before rest (actions.Flag target add flags) (outcomes.Conflict (kinds.StoreUnsure m f)) is good h = refl
misfit_front b boxes before rest (actions.Flag target add flags) (outcomes.Conflict kinds.SourceGone) is good h = absurd cc
misfit_front b boxes before rest (actions.Flag target add flags) (outcomes.Conflict kinds.GoneAfterLoss) is good h = refl
misfit_front b boxes before rest (actions.Flag target add flags) (outcomes.Conflict (kinds.Ambiguous u v)) is good h = absurd cc
misfit_front b boxes before rest (actions.Flag target add flags) (outcomes.Conflict (kinds.ValidityChanged o n)) is good h =
    found_front boxes before rest target o n good (subst (λ (f : Found). not (is_found_under f o && nat_lt o n) ≡ false) (is target) h)
misfit_front b boxes before rest (actions.Flag target add flags) (outcomes.Conflict (kinds.ResetAfterLoss o n)) is good h = below_only (names_validity b.pending o) (nat_lt o n) h
misfit_front b boxes before rest (actions.Move target to) (outcomes.Conflict kinds.MessageGone) is good h = refl
misfit_front b boxes before rest (actions.Move target to) (outcomes.Conflict kinds.AlreadySo) is good h = absurd cc
misfit_front b boxes before rest (actions.Move target to) (outcomes.Conflict (kinds.FlagsChanged m)) is good h = absurd cc
misfit_front b boxes before rest (actions.Move target to) (outcomes.Conflict kinds.RefusedNo) is good h = refl
misfit_front b boxes before rest (actions.Move target to) (outcomes.Conflict kinds.RefusedBad) is good h = refl
misfit_front b boxes before rest (actions.Move target to) (outcomes.Conflict kinds.NotPermanent) is good h = absurd cc
misfit_front b boxes before rest (actions.Move target to) (outcomes.Conflict (kinds.TargetUnknown k)) is good h =
    ap not (never_front boxes before rest target k good (subst (λ (f : Found). is_never f k ≡ true) (is target) (is_true (is_never (resolved b.queue target) k) h)))
misfit_front b boxes before rest (actions.Move target to) (outcomes.Conflict kinds.FoundSo) is good h = absurd cc
misfit_front b boxes before rest (actions.Move target to) (outcomes.Conflict (kinds.StoreUnsure m f)) is good h = absurd cc
misfit_front b boxes before rest (actions.Move target to) (outcomes.Conflict kinds.SourceGone) is good h = refl
misfit_front b boxes before rest (actions.Move target to) (outcomes.Conflict kinds.GoneAfterLoss) is good h = absurd cc
misfit_front b boxes before rest (actions.Move target to) (outcomes.Conflict (kinds.Ambiguous u v)) is good h = absurd cc
misfit_front b boxes before rest (actions.Move target to) (outcomes.Conflict (kinds.ValidityChanged o n)) is good h =
    found_front boxes before rest target o n good (subst (λ (f : Found). not (is_found_under f o && nat_lt o n) ≡ false) (is target) h)
misfit_front b boxes before rest (actions.Move target to) (outcomes.Conflict (kinds.ResetAfterLoss o n)) is good h = below_only (names_validity b.pending o) (nat_lt o n) h
misfit_front b boxes before rest (actions.Append to flags text id) (outcomes.Conflict kinds.MessageGone) is good h = absurd cc
misfit_front b boxes before rest (actions.Append to flags text id) (outcomes.Conflict kinds.AlreadySo) is good h = absurd cc
misfit_front b boxes before rest (actions.Append to flags text id) (outcomes.Conflict (kinds.FlagsChanged m)) is good h = absurd cc
misfit_front b boxes before rest (actions.Append to flags text id) (outcomes.Conflict kinds.RefusedNo) is good h = refl
misfit_front b boxes before rest (actions.Append to flags text id) (outcomes.Conflict kinds.RefusedBad) is good h = refl
misfit_front b boxes before rest (actions.Append to flags text id) (outcomes.Conflict kinds.NotPermanent) is good h = absurd cc
misfit_front b boxes before rest (actions.Append to flags text id) (outcomes.Conflict (kinds.TargetUnknown k)) is good h = absurd cc
misfit_front b boxes before rest (actions.Append to flags text id) (outcomes.Conflict kinds.FoundSo) is good h = absurd cc
misfit_front b boxes before rest (actions.Append to flags text id) (outcomes.Conflict (kinds.StoreUnsure m f)) is good h = absurd cc
misfit_front b boxes before rest (actions.Append to flags text id) (outcomes.Conflict kinds.SourceGone) is good h = absurd cc
misfit_front b boxes before rest (actions.Append to flags text id) (outcomes.Conflict kinds.GoneAfterLoss) is good h = absurd cc
misfit_front b boxes before rest (actions.Append to flags text id) (outcomes.Conflict (kinds.Ambiguous u v)) is good h = refl
misfit_front b boxes before rest (actions.Append to flags text id) (outcomes.Conflict (kinds.ValidityChanged o n)) is good h = absurd cc
misfit_front b boxes before rest (actions.Append to flags text id) (outcomes.Conflict (kinds.ResetAfterLoss o n)) is good h = below_only (names_validity b.pending o) (nat_lt o n) h

-- ---- tries

landed_then : (tries n : ℕ) (q : Queued) (qs : List Queued) (o : Option Outcome) (i : ℕ) →
    ((j : ℕ) → landed_queued n (slice_get (change_first (tried tries) qs) j) ≡ landed_queued n (slice_get qs j)) →
    landed_queued n (slice_get (change_queued (tried tries) q qs (change_first (tried tries) qs) o) i) ≡ landed_queued n (slice_get (q ∷ qs) i)
landed_then tries n q qs None zero h = refl
landed_then tries n q qs None (suc i) h = refl
landed_then tries n q qs (Some outcome) zero h = refl
landed_then tries n q qs (Some outcome) (suc i) h = h i

landed_tried : (tries n : ℕ) (qs : List Queued) (i : ℕ) → landed_queued n (slice_get (change_first (tried tries) qs) i) ≡ landed_queued n (slice_get qs i)
landed_tried tries n [] i = refl
landed_tried tries n (q ∷ qs) i = landed_then tries n q qs q.outcome i (landed_tried tries n qs)

-- what a target resolves to doesn't depend on tries
resolved_tried : (tries : ℕ) (qs : List Queued) (target : Target) → resolved (change_first (tried tries) qs) target ≡ resolved qs target
resolved_tried tries qs (targets.Real name validity uid) = refl
resolved_tried tries qs (targets.Dummy n) = landed_tried tries n qs (n - 1)

actions_then : (tries : ℕ) (q : Queued) (qs : List Queued) (o : Option Outcome) → actions_of (change_first (tried tries) qs) ≡ actions_of qs →
    actions_of (change_queued (tried tries) q qs (change_first (tried tries) qs) o) ≡ actions_of (q ∷ qs)
actions_then tries q qs None h = refl
actions_then tries q qs (Some outcome) h = ap (λ (l : List Action). q.action ∷ l) h

actions_tried : (tries : ℕ) (qs : List Queued) → actions_of (change_first (tried tries) qs) ≡ actions_of qs
actions_tried tries [] = refl
actions_tried tries (q ∷ qs) = actions_then tries q qs q.outcome (actions_tried tries qs)

untried_alone : (x : Queued) (o : Option Outcome) → x.tries ≡ 0 → change_queued (tried 0) x [] [] o ≡ x ∷ []
untried_alone x None e = ap (λ (n : ℕ). tried n x ∷ []) (sym e)
untried_alone x (Some outcome) e = refl

behind_then : (x q : Queued) (qs : List Queued) (o : Option Outcome) → untried (qs ++ x ∷ []) ≡ untried qs ++ x ∷ [] →
    change_queued (tried 0) q (qs ++ x ∷ []) (untried (qs ++ x ∷ [])) o ≡ change_queued (tried 0) q qs (untried qs) o ++ x ∷ []
behind_then x q qs None h = refl
behind_then x q qs (Some outcome) h = ap (λ (l : List Queued). q ∷ l) h

untried_behind : (x : Queued) (qs : List Queued) → x.tries ≡ 0 → untried (qs ++ x ∷ []) ≡ untried qs ++ x ∷ []
untried_behind x [] e = untried_alone x x.outcome e
untried_behind x (q ∷ qs) e = behind_then x q qs q.outcome (untried_behind x qs e)

fresh_at : (boxes : List Known) (before qs : List Queued) (i : ℕ) (q : Queued) → AreWell boxes before qs → slice_get qs i ≡ Some q → q.tries ≡ 0
fresh_at boxes before [] zero q w e = absurd cc
fresh_at boxes before [] (suc i) q w e = absurd cc
fresh_at boxes before (x ∷ qs) zero q w e = sym (ap (λ (y : Queued). y.tries) (same_Some x q e)) ∙ w.0.fresh
fresh_at boxes before (x ∷ qs) (suc i) q w e = fresh_at boxes (before ++ x ∷ []) qs i q w.1 e

no_tries : (o : Option Queued) → ((q : Queued) → o ≡ Some q → q.tries ≡ 0) → tries_of o ≡ 0
no_tries None h = refl
no_tries (Some q) h = h q refl

-- where no action was tried, a queue is as if none was
all_fresh : (boxes : List Known) (qs : List Queued) → AreWell boxes [] qs → untried qs ≡ qs
all_fresh boxes qs w = same_tries qs 0 (no_tries (due_action qs) (λ q e. fresh_at boxes [] qs (due qs) q w e))

fresh_may : (version : Version) (q : Queued) → q.tries ≡ 0 → MayBeTried version q
fresh_may versions.First q e = e
fresh_may versions.Second q e = (omega (arith, e), λ l. absurd (omega (arith, e, l)))

behind_all : (P : Queued → Type 0) (xs : List Queued) (x : Queued) (i : ℕ) (q : Queued) → ((y : Queued) → slice_get xs i ≡ Some y → P y) → P x →
    slice_get (xs ++ x ∷ []) i ≡ Some q → P q
behind_all P [] x zero q h p e = subst P (same_Some x q e) p
behind_all P [] x (suc zero) q h p e = absurd cc
behind_all P [] x (suc (suc i)) q h p e = absurd cc
behind_all P (y ∷ xs) x zero q h p e = h q e
behind_all P (y ∷ xs) x (suc i) q h p e = behind_all P xs x i q h p e

either_false : (a b : Bool) → (a || b) ≡ false → a ≡ false
either_false true b e = absurd cc
either_false false b e = refl

two_by : (a b : Bool) (n : ℕ) → (a ≡ true → n ≡ 1) → (b ≡ true → n ≡ 2) → (a || b) ≡ true → n ≤ 2
two_by true b n f g e = omega (arith, f refl)
two_by false true n f g e = omega (arith, g refl)
two_by false false n f g e = absurd cc

may_withdraw : (version : Version) (b : Meaning) (x : Queued) (tries : ℕ) → due_action b.queue ≡ Some x → is_no_flag (due_action b.queue) ≡ false →
    is_wrong_tries version b tries ≡ false → MayBeTried version (tried tries x)
may_withdraw versions.First b x tries there flag turn = absurd cc
may_withdraw versions.Second b x tries there flag turn =
    let number : is_wrong_number b.pending x.tries tries ≡ false = sym (ap (λ (o : Option Queued). is_wrong_turn o b.pending tries) there) ∙ turn in
    let few = is_true (tries == 1 || tries == 2) (either_false (not (tries == 1 || tries == 2)) (is_no_turn b.pending x.tries tries) number) in (
      two_by (tries == 1) (tries == 2) tries (eqb-true tries 1) (eqb-true tries 2) few,
      λ l. sym (ap is_no_flag there) ∙ flag,
    )

-- ---- settling

module _ (b : Meaning) (outcome : Outcome) where
  settle_by : (before : List Queued) (q : Queued) (qs : List Queued) (o : Option Outcome) → q.outcome ≡ o → untried b.queue ≡ before ++ q ∷ qs →
      InOrderThen o (AllOpen qs) (IsInOrder qs) → IsWell b.boxes before q → AreWell b.boxes (before ++ q ∷ []) qs →
      ((x : Queued) → slice_get (q ∷ qs) (settled_then o (due qs)) ≡ Some x → (is_misplaced_of x.action outcome ≡ false) × (is_misfit_of b x.action outcome ≡ false)) →
      (IsInOrder qs → ((x : Queued) → due_action qs ≡ Some x → (is_misplaced_of x.action outcome ≡ false) × (is_misfit_of b x.action outcome ≡ false)) →
      AreWell b.boxes (before ++ q ∷ []) (change_first (settled outcome) qs)) →
      AreWell b.boxes before (change_queued (settled outcome) q qs (change_first (settled outcome) qs) o)
  settle_by before q qs None is whole order w rest facts later =
      let f = facts q refl in (
        record {
          writable = w.writable;
          known = w.known;
          good = w.good;
          fresh = refl;
          placed = λ o e. subst (λ (x : Outcome). is_misplaced_of q.action x ≡ false) (same_Some outcome o e) f.0;
          fits = λ o e. subst (λ (x : Outcome). is_misfit_old (book_of b.boxes before) q.action x ≡ false) (same_Some outcome o e)
              (misfit_front b b.boxes before (q ∷ qs) q.action outcome
              (λ target. sym (resolved_tried 0 b.queue target) ∙ ap (λ (l : List Queued). resolved l target) whole) w.good f.1);
        },
        well_open b.boxes (before ++ q ∷ []) (before ++ settled outcome q ∷ []) qs
            (actions_append before (q ∷ []) ∙ sym (actions_append before (settled outcome q ∷ []))) order rest,
      )
  settle_by before q qs (Some old) is whole order w rest facts later = (w, later order facts)

  well_settle : (before qs : List Queued) → untried b.queue ≡ before ++ qs → IsInOrder qs → AreWell b.boxes before qs →
      ((q : Queued) → due_action qs ≡ Some q → (is_misplaced_of q.action outcome ≡ false) × (is_misfit_of b q.action outcome ≡ false)) →
      AreWell b.boxes before (change_first (settled outcome) qs)
  well_settle before [] whole order w facts = tt
  well_settle before (q ∷ qs) whole order w facts =
      settle_by before q qs q.outcome refl whole order w.0 w.1 facts
      (λ still here. well_settle (before ++ q ∷ []) qs (whole ∙ sym (append_assoc before (q ∷ []) qs)) still w.1 here)

-- ---- the intent

both_first : (a b : Bool) → (a && b) ≡ true → a ≡ true
both_first true b e = refl
both_first false b e = absurd cc

both_then : (a b c : Bool) → (a && b) ≡ true → c ≡ true → (c && b) ≡ true
both_then true b true e f = e
both_then false b c e f = absurd cc
both_then true b false e f = absurd cc

at_landed : (n : ℕ) (o : Option Queued) (name : List ℕ) (validity uid : ℕ) → is_at (landed_queued n o) name validity uid ≡ true → (q : Queued) × (o ≡ Some q)
at_landed n None name validity uid e = absurd cc
at_landed n (Some q) name validity uid e = (q, refl)

at_push : (xs rest : List Queued) (target : Target) (name : List ℕ) (validity uid : ℕ) → is_at (resolved xs target) name validity uid ≡ true →
    is_at (resolved (xs ++ rest) target) name validity uid ≡ true
at_push xs rest (targets.Real at under number) name validity uid e = e
at_push xs rest (targets.Dummy n) name validity uid e =
    let some = at_landed n (slice_get xs (n - 1)) name validity uid e in
    ap (λ (o : Option Queued). is_at (landed_queued n o) name validity uid) (get_front xs rest (n - 1) some.0 some.1 ∙ sym some.1) ∙ e

suits_push : (xs rest : List Queued) (action : Action) (intent : Intent) → suits xs action intent ≡ true → suits (xs ++ rest) action intent ≡ true
suits_push xs rest (actions.Flag target add flags) (intents.Store name validity uid modseq) e = at_push xs rest target name validity uid e
suits_push xs rest (actions.Flag target add flags) (intents.Shift from validity uid to) e = absurd cc
suits_push xs rest (actions.Flag target add flags) (intents.Put to validity uidnext) e = absurd cc
suits_push xs rest (actions.Move target to) (intents.Store name validity uid modseq) e = absurd cc
suits_push xs rest (actions.Move target to) (intents.Shift from validity uid other) e =
    both_then (is_at (resolved xs target) from validity uid) (bytes_eq other to) (is_at (resolved (xs ++ rest) target) from validity uid) e
    (at_push xs rest target from validity uid (both_first (is_at (resolved xs target) from validity uid) (bytes_eq other to) e))
suits_push xs rest (actions.Move target to) (intents.Put other validity uidnext) e = absurd cc
suits_push xs rest (actions.Append to flags text id) (intents.Store name validity uid modseq) e = absurd cc
suits_push xs rest (actions.Append to flags text id) (intents.Shift from validity uid other) e = absurd cc
suits_push xs rest (actions.Append to flags text id) (intents.Put other validity uidnext) e = e

some_due : (o : Option Queued) → is_none o ≡ false → (q : Queued) × (o ≡ Some q)
some_due None e = absurd cc
some_due (Some q) e = (q, refl)

-- ---- each event

pub well_first : (version : Version) (names : List (List ℕ)) → AreNames names → IsWellBook version (begun names)
well_first version names named = record {
  names = subst AreNames (sym (names_begun names)) named;
  caches = wells_begun names;
  few = omega arith;
  order = tt;
  actions = tt;
  tries = λ q e. absurd cc;
  intent = λ intent e. never None intent refl e;
}

pub well_in_second : (b : Meaning) → IsWellBook versions.First b → IsWellBook versions.Second b
well_in_second b w = record {
  names = w.names;
  caches = w.caches;
  few = w.few;
  order = w.order;
  actions = w.actions;
  tries = λ q e. fresh_may versions.Second q (w.tries q e);
  intent = w.intent;
}

well_accept : (version : Version) (b : Meaning) (id : ℕ) (action : Action) → first_broken version b (events.Accept id action) ≡ None → IsWritableAction action →
    IsWellBook version b → IsWellBook version (after b (events.Accept id action))
well_accept version b id action l writable w =
    let number = unbroken (not (id == length b.queue + 1)) _ _ l in
    let known = unbroken (is_unknown_action b.boxes action) _ _ number.1 in
    let good = unbroken (is_bad_action b.queue action) _ _ known.1 in
    let room = unbroken (nat_le 1000000 (length b.queue)) _ _ good.1 in
    let few : length b.queue < 1000000 = leb-false 1000000 (length b.queue) room.0 in
    record {
      names = w.names;
      caches = w.caches;
      few = omega (arith, few, length-append b.queue (accepted action ∷ []));
      order = order_push action b.queue w.order;
      actions = subst (AreWell b.boxes []) (sym (untried_behind (accepted action) b.queue refl))
          (well_push b.boxes [] (untried b.queue) (accepted action) w.actions
          (record {
            writable = writable;
            known = known.0;
            good = bad_same (untried b.queue) b.queue (actions_tried 0 b.queue) action ∙ good.0;
            fresh = refl;
            placed = λ o e. never None o refl e;
            fits = λ o e. never None o refl e;
          }));
      tries = λ q e. behind_all (MayBeTried version) b.queue (accepted action) (due b.queue) q w.tries (fresh_may version (accepted action) refl)
          (sym (ap (slice_get (b.queue ++ accepted action ∷ [])) (due_push action b.queue)) ∙ e);
      intent = λ intent e. let i = w.intent intent e in record {
        known = i.known;
        queued = i.queued;
        there = ap (slice_get (b.queue ++ accepted action ∷ [])) (due_push action b.queue) ∙ get_front b.queue (accepted action ∷ []) (due b.queue) i.queued i.there;
        suited = suits_push b.queue (accepted action ∷ []) i.queued.action intent i.suited;
      };
    }

well_old : (version : Version) (b : Meaning) (id : ℕ) (action : Action) (outcome : Outcome) → first_broken version b (events.Old id action outcome) ≡ None →
    IsWritableAction action → IsWellBook version b → IsWellBook version (after b (events.Old id action outcome))
well_old version b id action outcome l writable w =
    let number = unbroken (not (id == length b.queue + 1)) _ _ l in
    let known = unbroken (is_unknown_action b.boxes action) _ _ number.1 in
    let good = unbroken (is_bad_action b.queue action) _ _ known.1 in
    let room = unbroken (nat_le 1000000 (length b.queue)) _ _ good.1 in
    let all = unbroken (is_some (due_action b.queue)) _ _ room.1 in
    let place = unbroken (is_misplaced_of action outcome) _ _ all.1 in
    let kind = unbroken (is_misfit_old b action outcome) _ _ place.1 in
    let few : length b.queue < 1000000 = leb-false 1000000 (length b.queue) room.0 in
    let none : due_action b.queue ≡ None = no_some (due_action b.queue) all.0 in
    let same : untried b.queue ≡ b.queue = same_tries b.queue 0 (ap tries_of none) in
    let well : AreWell b.boxes [] (b.queue ++ ended action outcome ∷ []) =
    well_push b.boxes [] b.queue (ended action outcome) (subst (AreWell b.boxes []) same w.actions)
    (record {
      writable = writable;
      known = known.0;
      good = good.0;
      fresh = refl;
      placed = λ o e. subst (λ (x : Outcome). is_misplaced_of action x ≡ false) (same_Some outcome o e) place.0;
      fits = λ o e. subst (λ (x : Outcome). is_misfit_old (book_of b.boxes b.queue) action x ≡ false) (same_Some outcome o e)
          (misfit_pending b action outcome ∙ kind.0);
    }) in
    record {
      names = w.names;
      caches = w.caches;
      few = omega (arith, few, length-append b.queue (ended action outcome ∷ []));
      order = order_ended action outcome b.queue (none_due b.queue none) w.order;
      actions = subst (AreWell b.boxes []) (sym (all_fresh b.boxes (b.queue ++ ended action outcome ∷ []) well)) well;
      tries = λ q e. fresh_may version q
          (fresh_at b.boxes [] (b.queue ++ ended action outcome ∷ []) (due (b.queue ++ ended action outcome ∷ [])) q well e);
      intent = λ intent e. let i = w.intent intent e in never (due_action b.queue) i.queued none i.there;
    }

well_intend : (version : Version) (b : Meaning) (id : ℕ) (intent : Intent) → first_broken version b (events.Intend id intent) ≡ None →
    IsWellBook version b → IsWellBook version (after b (events.Intend id intent))
well_intend version b id intent l w =
    let known = unbroken (is_unknown_intent b.boxes intent) _ _ l in
    let pending = unbroken (is_some b.pending) _ _ known.1 in
    let waiting = unbroken (is_none (due_action b.queue)) _ _ pending.1 in
    let number = unbroken (not (id == due b.queue + 1)) _ _ waiting.1 in
    let suited = unbroken (is_unsuited b.queue (due_action b.queue) intent) _ _ number.1 in
    let some = some_due (due_action b.queue) waiting.0 in
    record {
      names = w.names;
      caches = w.caches;
      few = w.few;
      order = w.order;
      actions = w.actions;
      tries = w.tries;
      intent = λ other e. subst (λ (x : Intent). IsWellIntent (record b { pending = Some intent }) x) (same_Some intent other e)
          (record {
            known = known.0;
            queued = some.0;
            there = some.1;
            suited = is_true (suits b.queue some.0.action intent) (sym (ap (λ (o : Option Queued). is_unsuited b.queue o intent) some.1) ∙ suited.0);
          });
    }

well_settled : (version : Version) (b : Meaning) (id : ℕ) (outcome : Outcome) → first_broken version b (events.Settle id outcome) ≡ None →
    IsWellBook version b → IsWellBook version (after b (events.Settle id outcome))
well_settled version b id outcome l w =
    let waiting = unbroken (is_none (due_action b.queue)) _ _ l in
    let number = unbroken (not (id == due b.queue + 1)) _ _ waiting.1 in
    let needs = unbroken (is_none b.pending && rests_on_intent outcome) _ _ number.1 in
    let undue = unbroken (is_some b.pending && comes_before_intent outcome) _ _ needs.1 in
    let place = unbroken (is_misplaced (due_action b.queue) outcome) _ _ undue.1 in
    let kind = unbroken (is_misfit b (due_action b.queue) outcome || is_early version (due_action b.queue) outcome) _ _ place.1 in
    let fit = either_false (is_misfit b (due_action b.queue) outcome) (is_early version (due_action b.queue) outcome) kind.0 in
    let some = some_due (due_action b.queue) waiting.0 in
    let later = change_first (settled outcome) b.queue in
    let well : AreWell b.boxes [] later =
    subst (AreWell b.boxes []) (tried_then (settled outcome) 0 (λ x. refl) b.queue)
    (well_settle b outcome [] (untried b.queue) refl (order_tried 0 b.queue w.order) w.actions
    (λ q e. subst (λ (x : Queued). (is_misplaced_of x.action outcome ≡ false) × (is_misfit_of b x.action outcome ≡ false))
    (same_Some (tried 0 some.0) q (sym (due_tried 0 b.queue some.0 some.1) ∙ e)) (
      sym (ap (λ (o : Option Queued). is_misplaced o outcome) some.1) ∙ place.0,
      sym (ap (λ (o : Option Queued). is_misfit b o outcome) some.1) ∙ fit,
    ))) in
    record {
      names = w.names;
      caches = w.caches;
      few = omega (arith, length_change (settled outcome) b.queue, w.few);
      order = order_settled outcome b.queue w.order;
      actions = subst (AreWell b.boxes []) (sym (all_fresh b.boxes later well)) well;
      tries = λ q e. fresh_may version q (fresh_at b.boxes [] later (due later) q well e);
      intent = λ intent e. never None intent refl e;
    }

-- a mailbox's cache is another one, or taken away
with_cache : (version : Version) (b : Meaning) (name : List ℕ) (c : Option Cache) → IsWellKnown c → IsWellBook version b →
    IsWellBook version (record b { boxes = put_cache name c b.boxes })
with_cache version b name c good w = record {
  names = subst AreNames (sym (names_put name c b.boxes)) w.names;
  caches = wells_put name c good b.boxes w.caches;
  few = w.few;
  order = w.order;
  actions = well_boxes b.boxes (put_cache name c b.boxes) (λ n. unknown_put name c n b.boxes) [] (untried b.queue) w.actions;
  tries = w.tries;
  intent = λ intent e. let i = w.intent intent e in record {
    known = intent_same b.boxes (put_cache name c b.boxes) (λ n. unknown_put name c n b.boxes) intent ∙ i.known;
    queued = i.queued;
    there = i.there;
    suited = i.suited;
  };
}

well_learn : (version : Version) (b : Meaning) (name : List ℕ) (delta : Delta) → first_broken version b (events.Learn name delta) ≡ None →
    HaveFewFlags delta.rows → IsWellBook version b → IsWellBook version (after b (events.Learn name delta))
well_learn version b name delta l flags w =
    let known = unbroken (is_unknown b.boxes name) _ _ l in
    let whole = unbroken (is_wrong_whole (cache_at name b.boxes) delta) _ _ known.1 in
    let validity = unbroken (is_wrong_validity (cache_at name b.boxes) delta) _ _ whole.1 in
    let mark = unbroken (is_lower_mark (cache_at name b.boxes) delta) _ _ validity.1 in
    let few = unbroken (nat_lt 200000 (length (learned (cache_at name b.boxes) delta).rows)) _ _ mark.1 in
    with_cache version b name (Some (learned (cache_at name b.boxes) delta))
    (cache_learned (cache_at name b.boxes) delta (well_at name b.boxes w.caches) flags few.0) w

well_withdraw : (version : Version) (b : Meaning) (id tries : ℕ) → first_broken version b (events.Withdraw id tries) ≡ None →
    IsWellBook version b → IsWellBook version (after b (events.Withdraw id tries))
well_withdraw version b id tries l w =
    let waiting = unbroken (is_none (due_action b.queue)) _ _ l in
    let number = unbroken (not (id == due b.queue + 1)) _ _ waiting.1 in
    let flag = unbroken (is_no_flag (due_action b.queue)) _ _ number.1 in
    let turn = unbroken (is_wrong_tries version b tries) _ _ flag.1 in
    let some = some_due (due_action b.queue) waiting.0 in
    record {
      names = w.names;
      caches = w.caches;
      few = omega (arith, length_change (tried tries) b.queue, w.few);
      order = order_tried tries b.queue w.order;
      actions = subst (AreWell b.boxes []) (sym (tried_then (tried 0) tries (λ x. refl) b.queue)) w.actions;
      tries = λ q e. subst (MayBeTried version) (same_Some (tried tries some.0) q (sym (due_tried tries b.queue some.0 some.1) ∙ e))
          (may_withdraw version b some.0 tries some.1 flag.0 turn.0);
      intent = λ intent e. never None intent refl e;
    }

pub well_stays : (version : Version) (b : Meaning) (event : Event) → first_broken version b event ≡ None → IsWritable event → IsWellBook version b →
    IsWellBook version (after b event)
well_stays version b (events.Begin names) l writable w = w
well_stays version b (events.Accept id action) l writable w = well_accept version b id action l writable w
well_stays version b (events.Intend id intent) l writable w = well_intend version b id intent l w
well_stays version b (events.Settle id outcome) l writable w = well_settled version b id outcome l w
well_stays version b (events.Learn name delta) l writable w = well_learn version b name delta l writable.1 w
well_stays version b (events.Old id action outcome) l writable w = well_old version b id action outcome l writable w
well_stays version b (events.Reset name kept told) l writable w = with_cache version b name None tt w
well_stays version b (events.Withdraw id tries) l writable w = well_withdraw version b id tries l w
