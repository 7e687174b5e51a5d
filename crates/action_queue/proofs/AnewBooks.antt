-- A book that is told anew.
use Rattle.std.proofs.Common.{◌≡◌, ◌≢◌, ℕ, zero, suc, ◌+◌, ◌≤◌, Bool, true, false, not, ◌||◌, List, [], ◌∷◌, ◌++◌, map, Option, Some, None}
use Rattle.std.proofs.Common.{refl, sym, ◌∙◌, ap, subst, arith, append_assoc}
use Rattle.std.specs.Prelude.{◌==◌, is_none, bytes_eq}
use Rattle.std.proofs.lemmas.Bool.{eq-eqb, cond-true, cond-false}
use Rattle.std.proofs.lemmas.Slice.Eq.{bytes_eq-Decides}
use Rattle.mailbox_cache.specs.declared.cache.Cache.{Cache}
use Rattle.action_queue.specs.Book.{Meaning, after, begun, cache_of, known_at, known_of, put_cache}
use Rattle.action_queue.specs.Events.{IsAbsent, AreDistinct}
use Rattle.action_queue.specs.Queues.{due, due_action, change_first, change_queued, tries_of, tries_due, tried, untried}
use Rattle.action_queue.specs.Restating.{FoldsTo, book_of, action_event, action_events, TellsKnown, TellBoxes, TellsBook, names_of, intent_events, IsWellKnown, AreWellBoxes, IsWellBook, IsWellIntent, MayBeTried, tries_events, withdrawn}
use Rattle.action_queue.specs.Rules.{is_unknown_intent, is_unsuited, is_no_flag, is_wrong_turn, is_wrong_tries, first_broken}
use Rattle.action_queue.specs.declared.book.Known.{Known}
use Rattle.action_queue.specs.declared.event.Event.{Event}
use Rattle.action_queue.specs.declared.event.Event.TheVariants as events
use Rattle.action_queue.specs.declared.intent.Intent.{Intent}
use Rattle.action_queue.specs.declared.outcome.Outcome.{Outcome}
use Rattle.action_queue.specs.declared.queued.Queued.{Queued}
use Rattle.action_queue.specs.declared.rule.Version.{Version}
use Rattle.action_queue.specs.declared.rule.Version.TheVariants as versions
use Rattle.action_queue.proofs.Anew.{none_of_four, queue_folds}
use Rattle.action_queue.proofs.AnewCaches.{cache_folds}
use Rattle.action_queue.proofs.Queueing.{due_try, due_tried, length_change, order_tried, same_tries, tried_then}

folds_then : (v : Version) (b c d : Meaning) (es fs : List Event) → FoldsTo v b es c → FoldsTo v c fs d → FoldsTo v b (es ++ fs) d
folds_then v b c d [] fs f g = subst (λ (m : Meaning). FoldsTo v m fs d) f g
folds_then v b c d (e ∷ es) fs f g = (f.0, f.1, folds_then v (after b e) c d es fs f.2 g)

-- ---- a name among others

abbrev IsNew : List ℕ → List Known → Type 0
IsNew name [] = Unit {0}
IsNew name (d ∷ ds) = (bytes_eq d.name name ≡ false) × IsNew name ds

abbrev AreNew : List Known → List Known → Type 0
AreNew done [] = Unit {0}
AreNew done (k ∷ ks) = IsNew k.name done × AreNew (done ++ k ∷ []) ks

not_equal : (b : Bool) (P : Type 0) → (b ≡ true → P) → (P → ⊥) → b ≡ false
not_equal true P t n = absurd (n (t refl))
not_equal false P t n = refl

other_name : (a b : List ℕ) → b ≢ a → bytes_eq a b ≡ false
other_name a b n = not_equal (bytes_eq a b) (a ≡ b) (bytes_eq-Decides a b).0 (λ e. n (sym e))

absent_at : (n : List ℕ) (ds : List Known) (k : Known) (ks : List Known) → IsAbsent n (names_of (ds ++ k ∷ ks)) → k.name ≢ n
absent_at n [] k ks a = a.0
absent_at n (d ∷ ds) k ks a = absent_at n ds k ks a.1

new_among : (done : List Known) (k : Known) (ks : List Known) → AreDistinct (names_of (done ++ k ∷ ks)) → IsNew k.name done
new_among [] k ks a = tt
new_among (d ∷ ds) k ks a = (other_name d.name k.name (absent_at d.name ds k ks a.0), new_among ds k ks a.1)

all_new : (done ks : List Known) → AreDistinct (names_of (done ++ ks)) → AreNew done ks
all_new done [] a = tt
all_new done (k ∷ ks) a = (
  new_among done k ks a,
  all_new (done ++ k ∷ []) ks (subst (λ (l : List Known). AreDistinct (names_of l)) (sym (append_assoc done (k ∷ []) ks)) a),
)

same_name : (name : List ℕ) → bytes_eq name name ≡ true
same_name name = (bytes_eq-Decides name name).1 refl

known_here : (name : List ℕ) (done rest : List Known) → IsNew name done → known_at name (done ++ known_of name ∷ rest) ≡ Some (known_of name)
known_here name [] rest new = cond-true (bytes_eq name name) (Some (known_of name)) (known_at name rest) (same_name name)
known_here name (d ∷ ds) rest new =
    cond-false (bytes_eq d.name name) (Some d) (known_at name (ds ++ known_of name ∷ rest)) new.0 ∙ known_here name ds rest new.1

put_here : (name : List ℕ) (c : Option Cache) (done rest : List Known) → IsNew name done →
    put_cache name c (done ++ known_of name ∷ rest) ≡ done ++ record { name = name; cache = c } ∷ rest
put_here name c [] rest new =
    cond-true (bytes_eq name name) (record { name = name; cache = c } ∷ rest) (known_of name ∷ put_cache name c rest) (same_name name)
put_here name c (d ∷ ds) rest new =
    cond-false (bytes_eq d.name name) (record d { cache = c } ∷ (ds ++ known_of name ∷ rest)) (d ∷ put_cache name c (ds ++ known_of name ∷ rest)) new.0
    ∙ ap (λ (l : List Known). d ∷ l) (put_here name c ds rest new.1)

with_cache : (k : Known) (o : Option Cache) → k.cache ≡ o → record { name = k.name; cache = o } ≡ k
with_cache k o e = ap (λ (c : Option Cache). record { name = k.name; cache = c }) (sym e)

-- ---- the mailboxes

abbrev bare : List Known → List Known
bare ks = map known_of (names_of ks)

module _ (version : Version) where
  -- one mailbox, and those behind it
  box_folds : (done : List Known) (k : Known) (ks : List Known) (o : Option Cache) (mine : List Event) → k.cache ≡ o → IsNew k.name done → IsWellKnown o →
      TellsKnown k.name o mine → FoldsTo version (book_of (done ++ known_of k.name ∷ bare ks) []) mine (book_of (done ++ k ∷ bare ks) [])
  box_folds done k ks None mine is new well tells =
      subst (λ (es : List Event). FoldsTo version (book_of (done ++ known_of k.name ∷ bare ks) []) es (book_of (done ++ k ∷ bare ks) [])) (sym tells)
      (ap (λ (x : Known). book_of (done ++ x ∷ bare ks) []) (sym (with_cache k None is)))
  box_folds done k ks (Some cache) mine is new well tells =
      let here = known_here k.name done (bare ks) new in
      subst (λ (l : List Known). FoldsTo version (book_of (done ++ known_of k.name ∷ bare ks) []) mine (book_of l []))
      (put_here k.name (Some cache) done (bare ks) new ∙ ap (λ (x : Known). done ++ x ∷ bare ks) (with_cache k (Some cache) is))
      (cache_folds version (done ++ known_of k.name ∷ bare ks) k.name cache (ap is_none here) tells.0 tells.1 mine (ap cache_of here) well tells.2 tells.3)

  boxes_fold : (done ks : List Known) (es : List Event) → AreNew done ks → AreWellBoxes ks → TellBoxes ks es →
      FoldsTo version (book_of (done ++ bare ks) []) es (book_of (done ++ ks) [])
  boxes_fold done [] es new well tells =
      subst (λ (l : List Event). FoldsTo version (book_of (done ++ []) []) l (book_of (done ++ []) [])) (sym tells) refl
  boxes_fold done (k ∷ ks) es new well tells =
      let mine = tells.0 in
      let others = tells.1 in
      let first = box_folds done k ks k.cache tells.0 refl new.0 well.0 tells.3 in
      let rest = boxes_fold (done ++ k ∷ []) ks tells.1 new.1 well.1 tells.4 in
      let rest' : FoldsTo version (book_of (done ++ k ∷ bare ks) []) tells.1 (book_of (done ++ k ∷ ks) []) =
      subst (λ (l : List Known). FoldsTo version (book_of l []) tells.1 (book_of (done ++ k ∷ ks) [])) (append_assoc done (k ∷ []) (bare ks))
      (subst (λ (l : List Known). FoldsTo version (book_of ((done ++ k ∷ []) ++ bare ks) []) tells.1 (book_of l [])) (append_assoc done (k ∷ []) ks) rest) in
      subst (λ (l : List Event). FoldsTo version (book_of (done ++ known_of k.name ∷ bare ks) []) l (book_of (done ++ k ∷ ks) [])) (sym tells.2)
      (folds_then version _ _ _ tells.0 tells.1 first rest')

  -- ---- the intent

  intent_lawful : (b : Meaning) (intent : Intent) → IsWellIntent b intent →
      first_broken version (book_of b.boxes b.queue) (events.Intend (suc (due b.queue)) intent) ≡ None
  intent_lawful b intent w =
      none_of_four (is_unknown_intent b.boxes intent) (is_none (due_action b.queue)) (not (suc (due b.queue) == due b.queue + 1))
      (is_unsuited b.queue (due_action b.queue) intent) _ _ _ _ w.known (ap is_none w.there)
      (ap not (eq-eqb (suc (due b.queue)) (due b.queue + 1) (omega arith)))
      (ap (λ (o : Option Queued). is_unsuited b.queue o intent) w.there ∙ ap not w.suited)

  intent_folds : (b : Meaning) (o : Option Intent) → b.pending ≡ o → ((intent : Intent) → b.pending ≡ Some intent → IsWellIntent b intent) →
      FoldsTo version (book_of b.boxes b.queue) (intent_events o b.queue) b
  intent_folds b None is well = ap (λ (p : Option Intent). record { boxes = b.boxes; queue = b.queue; pending = p }) is
  intent_folds b (Some intent) is well = (
    intent_lawful b intent (well intent is),
    tt,
    ap (λ (p : Option Intent). record { boxes = b.boxes; queue = b.queue; pending = p }) is,
  )

-- ---- tries

told_again : (k : ℕ) → k ≤ 1 → not (suc k == 1 || suc k == 2) ≡ false
told_again zero l = refl
told_again (suc zero) l = refl
told_again (suc (suc k)) l = absurd (omega arith)

right_turn : (version : Version) (boxes : List Known) (queue : List Queued) (q : Queued) (k : ℕ) → due_action queue ≡ Some q → q.tries ≡ suc k →
    MayBeTried version q → is_wrong_tries version (book_of boxes (untried queue)) (suc k) ≡ false
right_turn versions.First boxes queue q k there is may = absurd (omega (arith, is, may))
right_turn versions.Second boxes queue q k there is may =
    ap (λ (o : Option Queued). is_wrong_turn o None (suc k)) (due_tried 0 queue q there)
    ∙ ap (λ (x : Bool). x || false) (told_again k (omega (arith, is, may.0)))

right_action : (version : Version) (queue : List Queued) (q : Queued) (k : ℕ) → due_action queue ≡ Some q → q.tries ≡ suc k → MayBeTried version q →
    is_no_flag (due_action (untried queue)) ≡ false
right_action versions.First queue q k there is may = absurd (omega (arith, is, may))
right_action versions.Second queue q k there is may = ap is_no_flag (due_tried 0 queue q there) ∙ may.1 (omega (arith, is))

withdraw_lawful : (version : Version) (boxes : List Known) (queue : List Queued) (q : Queued) (k : ℕ) → due_action queue ≡ Some q → q.tries ≡ suc k →
    MayBeTried version q → first_broken version (book_of boxes (untried queue)) (events.Withdraw (suc (due queue)) (suc k)) ≡ None
withdraw_lawful version boxes queue q k there is may =
    none_of_four (is_none (due_action (untried queue))) (not (suc (due queue) == due (untried queue) + 1)) (is_no_flag (due_action (untried queue)))
    (is_wrong_tries version (book_of boxes (untried queue)) (suc k)) _ _ _ _ (ap is_none (due_tried 0 queue q there))
    (ap not (eq-eqb (suc (due queue)) (due (untried queue) + 1) (omega (arith, due_try 0 queue))))
    (right_action version queue q k there is may) (right_turn version boxes queue q k there is may)

some_tried : (o : Option Queued) (k : ℕ) → tries_of o ≡ suc k → (q : Queued) × (o ≡ Some q) × (q.tries ≡ suc k)
some_tried None k e = absurd (omega (arith, e))
some_tried (Some q) k e = (q, refl, e)

tries_fold : (version : Version) (boxes : List Known) (queue : List Queued) (n : ℕ) → tries_due queue ≡ n →
    ((q : Queued) → due_action queue ≡ Some q → MayBeTried version q) →
    FoldsTo version (book_of boxes (untried queue)) (withdrawn (suc (due queue)) n) (book_of boxes queue)
tries_fold version boxes queue zero e may = ap (book_of boxes) (sym (same_tries queue 0 e))
tries_fold version boxes queue (suc k) e may =
    let some = some_tried (due_action queue) k e in (
      withdraw_lawful version boxes queue some.0 k some.1 some.2 (may some.0 some.1),
      tt,
      ap (book_of boxes) (sym (tried_then (tried (suc k)) 0 (λ x. refl) queue ∙ same_tries queue (suc k) e)),
    )

-- ---- the actions

events_then : (tries n : ℕ) (q : Queued) (qs : List Queued) (o : Option Outcome) →
    action_events (suc n) (change_first (tried tries) qs) ≡ action_events (suc n) qs →
    action_events n (change_queued (tried tries) q qs (change_first (tried tries) qs) o) ≡ action_events n (q ∷ qs)
events_then tries n q qs None h = refl
events_then tries n q qs (Some outcome) h = ap (λ (es : List Event). action_event (suc n) q.action q.outcome ∷ es) h

-- the events that tell actions don't tell their tries
events_tried : (tries n : ℕ) (qs : List Queued) → action_events n (change_first (tried tries) qs) ≡ action_events n qs
events_tried tries n [] = refl
events_tried tries n (q ∷ qs) = events_then tries n q qs q.outcome (events_tried tries (suc n) qs)

actions_fold : (version : Version) (b : Meaning) → IsWellBook version b →
    FoldsTo version (book_of b.boxes []) (action_events 0 b.queue) (book_of b.boxes (untried b.queue))
actions_fold version b w =
    subst (λ (es : List Event). FoldsTo version (book_of b.boxes []) es (book_of b.boxes (untried b.queue))) (events_tried 0 0 b.queue)
    (queue_folds version b.boxes (untried b.queue) (omega (arith, w.few, length_change (tried 0) b.queue)) (order_tried 0 b.queue w.order) w.actions)

pub book_folds : (version : Version) (b : Meaning) (es : List Event) → IsWellBook version b → TellsBook b es →
    FoldsTo version (begun (names_of b.boxes)) es b
book_folds version b es w t =
    let last = intent_events b.pending b.queue in
    let turns = tries_events b.queue in
    let boxes = boxes_fold version [] b.boxes t.caches (all_new [] b.boxes w.names.distinct) w.caches t.boxes in
    subst (λ (l : List Event). FoldsTo version (begun (names_of b.boxes)) l b) (sym t.is)
    (folds_then version (begun (names_of b.boxes)) (book_of b.boxes []) b t.caches (action_events 0 b.queue ++ (turns ++ last)) boxes
    (folds_then version (book_of b.boxes []) (book_of b.boxes (untried b.queue)) b (action_events 0 b.queue) (turns ++ last) (actions_fold version b w)
    (folds_then version (book_of b.boxes (untried b.queue)) (book_of b.boxes b.queue) b turns last
    (tries_fold version b.boxes b.queue (tries_due b.queue) refl w.tries) (intent_folds version b b.pending refl w.intent))))
