-- A queue that is told anew.
use Rattle.std.proofs.Common.{◌≡◌, ℕ, suc, ◌+◌, ◌≤◌, ◌<◌, Bool, true, false, not, cond, eqb, ltb, List, [], ◌∷◌, ◌++◌, length, Option, Some, None}
use Rattle.std.proofs.Common.{refl, sym, ◌∙◌, ap, subst, arith, append_assoc, length-append}
use Rattle.std.specs.Prelude.{◌==◌, nat_le, is_some, slice_get}
use Rattle.std.proofs.lemmas.List.{append-nil}
use Rattle.std.proofs.lemmas.Bool.{eq-eqb, ne_eqb, cond-true, cond-false, lt-ltb, le-ltb, lt-leb}
use Rattle.mailbox_cache.specs.Rows.{AllBelow, RisesAbove, Rises, put_row, put_rows}
use Rattle.mailbox_cache.specs.declared.row.Row.{Row}
use Rattle.action_queue.specs.Queues.{due, due_action, accepted, ended, AllOpen, IsInOrder, InOrderThen}
use Rattle.action_queue.specs.Restating.{FoldsTo, action_event, action_events, book_of, IsWell, AreWell, AreBehind}
use Rattle.action_queue.specs.Rules.{is_unknown_action, is_bad_action, is_misplaced_of, is_misfit_old, first_broken}
use Rattle.action_queue.specs.declared.book.Known.{Known}
use Rattle.action_queue.specs.declared.event.Event.TheVariants as events
use Rattle.action_queue.specs.declared.outcome.Outcome.{Outcome}
use Rattle.action_queue.specs.declared.queued.Queued.{Queued}
use Rattle.action_queue.specs.declared.rule.Rule.{Rule}
use Rattle.action_queue.specs.declared.rule.Version.{Version}
use Rattle.action_queue.proofs.Queueing.{due_ended}

-- an action as it was accepted, or as it ended
as_accepted : (q : Queued) → q.outcome ≡ None → q.tries ≡ 0 → accepted q.action ≡ q
as_accepted q a b =
    ap (λ (o : Option Outcome). record { action = q.action; outcome = o; tries = 0 }) (sym a)
    ∙ ap (λ (n : ℕ). record { action = q.action; outcome = q.outcome; tries = n }) (sym b)

as_ended : (q : Queued) (outcome : Outcome) → q.outcome ≡ Some outcome → q.tries ≡ 0 → ended q.action outcome ≡ q
as_ended q outcome a b =
    ap (λ (o : Option Outcome). record { action = q.action; outcome = o; tries = 0 }) (sym a)
    ∙ ap (λ (n : ℕ). record { action = q.action; outcome = q.outcome; tries = n }) (sym b)

pub none_of_four : (a b c d : Bool) (w x y z : Rule) → a ≡ false → b ≡ false → c ≡ false → d ≡ false →
    cond a (Some w) (cond b (Some x) (cond c (Some y) (cond d (Some z) None))) ≡ None
none_of_four true b c d w x y z e f g h = absurd cc
none_of_four false true c d w x y z e f g h = absurd cc
none_of_four false false true d w x y z e f g h = absurd cc
none_of_four false false false true w x y z e f g h = absurd cc
none_of_four false false false false w x y z e f g h = refl

none_of_seven : (a b c d i j k : Bool) (w x y z l m n : Rule) → a ≡ false → b ≡ false → c ≡ false → d ≡ false → i ≡ false → j ≡ false → k ≡ false →
    cond a (Some w) (cond b (Some x) (cond c (Some y) (cond d (Some z) (cond i (Some l) (cond j (Some m) (cond k (Some n) None)))))) ≡ None
none_of_seven true b c d i j k w x y z l m n e f g h p q r = absurd cc
none_of_seven false true c d i j k w x y z l m n e f g h p q r = absurd cc
none_of_seven false false true d i j k w x y z l m n e f g h p q r = absurd cc
none_of_seven false false false true i j k w x y z l m n e f g h p q r = absurd cc
none_of_seven false false false false true j k w x y z l m n e f g h p q r = absurd cc
none_of_seven false false false false false true k w x y z l m n e f g h p q r = absurd cc
none_of_seven false false false false false false true w x y z l m n e f g h p q r = absurd cc
none_of_seven false false false false false false false w x y z l m n e f g h p q r = refl

right_number : (n m : ℕ) → n ≡ m → not (suc n == m + 1) ≡ false
right_number n m e = ap not (eq-eqb (suc n) (m + 1) (omega (arith, e)))

has_room : (n : ℕ) → n < 1000000 → nat_le 1000000 n ≡ false
has_room n l = lt-leb 1000000 n l

not_some : {A : Type 0} (o : Option A) → o ≡ None → is_some o ≡ false
not_some None e = refl
not_some (Some x) e = absurd cc

none_there : (qs : List Queued) → slice_get qs (length qs) ≡ None
none_there [] = refl
none_there (q ∷ qs) = none_there qs

settled_due : (qs : List Queued) → due qs ≡ length qs → due_action qs ≡ None
settled_due qs e = ap (slice_get qs) e ∙ none_there qs

module _ (version : Version) (boxes : List Known) where
  one_behind : (before : List Queued) (q : Queued) (qs : List Queued) → (before ++ q ∷ []) ++ qs ≡ before ++ q ∷ qs
  one_behind before q qs = append_assoc before (q ∷ []) qs

  accept_lawful : (before : List Queued) (q : Queued) → IsWell boxes before q → length before < 1000000 →
      first_broken version (book_of boxes before) (events.Accept (suc (length before)) q.action) ≡ None
  accept_lawful before q w few =
      none_of_four (not (suc (length before) == length before + 1)) (is_unknown_action boxes q.action) (is_bad_action before q.action)
      (nat_le 1000000 (length before)) _ _ _ _ (right_number (length before) (length before) refl) w.known w.good (has_room (length before) few)

  old_lawful : (before : List Queued) (q : Queued) (outcome : Outcome) → IsWell boxes before q → length before < 1000000 → q.outcome ≡ Some outcome →
      due_action before ≡ None → first_broken version (book_of boxes before) (events.Old (suc (length before)) q.action outcome) ≡ None
  old_lawful before q outcome w few is all =
      none_of_seven (not (suc (length before) == length before + 1)) (is_unknown_action boxes q.action) (is_bad_action before q.action)
      (nat_le 1000000 (length before)) (is_some (due_action before)) (is_misplaced_of q.action outcome) (is_misfit_old (book_of boxes before) q.action outcome)
      _ _ _ _ _ _ _ (right_number (length before) (length before) refl) w.known w.good (has_room (length before) few) (not_some (due_action before) all)
      (w.placed outcome is) (w.fits outcome is)

  -- the others, from the book behind one action
  step : (before : List Queued) (q new : Queued) (qs : List Queued) → new ≡ q →
      FoldsTo version (book_of boxes (before ++ q ∷ [])) (action_events (length (before ++ q ∷ [])) qs) (book_of boxes ((before ++ q ∷ []) ++ qs)) →
      FoldsTo version (book_of boxes (before ++ new ∷ [])) (action_events (suc (length before)) qs) (book_of boxes (before ++ q ∷ qs))
  step before q new qs is rest =
      let long : length (before ++ q ∷ []) ≡ suc (length before) = omega (arith, length-append before (q ∷ [])) in
      subst (λ (x : Queued). FoldsTo version (book_of boxes (before ++ x ∷ [])) (action_events (suc (length before)) qs) (book_of boxes (before ++ q ∷ qs))) (sym is)
      (subst (λ (n : ℕ). FoldsTo version (book_of boxes (before ++ q ∷ [])) (action_events n qs) (book_of boxes (before ++ q ∷ qs))) long
      (subst (λ (l : List Queued). FoldsTo version (book_of boxes (before ++ q ∷ [])) (action_events (length (before ++ q ∷ [])) qs) (book_of boxes l))
      (one_behind before q qs) rest))

  -- an action that is waiting
  accept_first : (before : List Queued) (q : Queued) (qs : List Queued) (o : Option Outcome) → q.outcome ≡ o → o ≡ None → IsWell boxes before q →
      length before < 1000000 →
      FoldsTo version (book_of boxes (before ++ q ∷ [])) (action_events (length (before ++ q ∷ [])) qs) (book_of boxes ((before ++ q ∷ []) ++ qs)) →
      FoldsTo version (book_of boxes before) (action_event (suc (length before)) q.action o ∷ action_events (suc (length before)) qs) (book_of boxes (before ++ q ∷ qs))
  accept_first before q qs None is none w few rest =
      (accept_lawful before q w few, w.writable, step before q (accepted q.action) qs (as_accepted q is w.fresh) rest)
  accept_first before q qs (Some outcome) is none w few rest = absurd cc

  pub open_folds : (before qs : List Queued) → AllOpen qs → length (before ++ qs) ≤ 1000000 → AreWell boxes before qs →
      FoldsTo version (book_of boxes before) (action_events (length before) qs) (book_of boxes (before ++ qs))
  open_folds before [] open_all few well = ap (book_of boxes) (append-nil before)
  open_folds before (q ∷ qs) open_all few well =
      accept_first before q qs q.outcome refl open_all.0 well.0 (omega (arith, few, length-append before (q ∷ qs)))
      (open_folds (before ++ q ∷ []) qs open_all.1 (omega (arith, few, ap length (one_behind before q qs))) well.1)

  -- an action that ended, and those behind it; or the first that is waiting
  by_outcome : (before : List Queued) (q : Queued) (qs : List Queued) (o : Option Outcome) → q.outcome ≡ o → due before ≡ length before →
      InOrderThen o (AllOpen qs) (IsInOrder qs) → length (before ++ q ∷ qs) ≤ 1000000 → IsWell boxes before q → AreWell boxes (before ++ q ∷ []) qs →
      (due (before ++ q ∷ []) ≡ length (before ++ q ∷ []) → IsInOrder qs → length ((before ++ q ∷ []) ++ qs) ≤ 1000000 →
      FoldsTo version (book_of boxes (before ++ q ∷ [])) (action_events (length (before ++ q ∷ [])) qs) (book_of boxes ((before ++ q ∷ []) ++ qs))) →
      FoldsTo version (book_of boxes before) (action_event (suc (length before)) q.action o ∷ action_events (suc (length before)) qs) (book_of boxes (before ++ q ∷ qs))
  by_outcome before q qs None is all order few w well rest =
      accept_first before q qs None is refl w (omega (arith, few, length-append before (q ∷ qs)))
      (open_folds (before ++ q ∷ []) qs order (omega (arith, few, ap length (one_behind before q qs))) well)
  by_outcome before q qs (Some outcome) is all order few w well rest =
      let same : ended q.action outcome ≡ q = as_ended q outcome is w.fresh in
      let more : due (before ++ q ∷ []) ≡ length (before ++ q ∷ []) =
      subst (λ (x : Queued). due (before ++ x ∷ []) ≡ length (before ++ x ∷ [])) same
      (due_ended q.action outcome before all ∙ omega (arith, length-append before (ended q.action outcome ∷ []))) in (
        old_lawful before q outcome w (omega (arith, few, length-append before (q ∷ qs))) is (settled_due before all),
        w.writable,
        step before q (ended q.action outcome) qs same (rest more order (omega (arith, few, ap length (one_behind before q qs)))),
      )

  pub ordered_folds : (before qs : List Queued) → due before ≡ length before → IsInOrder qs → length (before ++ qs) ≤ 1000000 → AreWell boxes before qs →
      FoldsTo version (book_of boxes before) (action_events (length before) qs) (book_of boxes (before ++ qs))
  ordered_folds before [] all order few well = ap (book_of boxes) (append-nil before)
  ordered_folds before (q ∷ qs) all order few well =
      by_outcome before q qs q.outcome refl all order few well.0 well.1
      (λ more still fits. ordered_folds (before ++ q ∷ []) qs more still fits well.1)

pub queue_folds : (version : Version) (boxes : List Known) (queue : List Queued) → length queue ≤ 1000000 → IsInOrder queue → AreWell boxes [] queue →
    FoldsTo version (book_of boxes []) (action_events 0 queue) (book_of boxes queue)
queue_folds version boxes queue few order well = ordered_folds version boxes [] queue refl order few well

-- ---- rows behind rows

put_last : (r : ℕ × Row) (rows rest : List (ℕ × Row)) → AllBelow r.0 rows → RisesAbove r.0 rest → put_row r (rows ++ rest) ≡ rows ++ r ∷ rest
put_last r [] [] below above = refl
put_last r [] (x ∷ rest) below above =
    cond-false (eqb x.0 r.0) (r ∷ rest) (cond (ltb r.0 x.0) (r ∷ x ∷ rest) (x ∷ put_row r rest)) (ne_eqb x.0 r.0 (λ e. absurd (omega (arith, e, above.0))))
    ∙ cond-true (ltb r.0 x.0) (r ∷ x ∷ rest) (x ∷ put_row r rest) (lt-ltb r.0 x.0 above.0)
put_last r (y ∷ rows) rest below above =
    cond-false (eqb y.0 r.0) (r ∷ (rows ++ rest)) (cond (ltb r.0 y.0) (r ∷ y ∷ (rows ++ rest)) (y ∷ put_row r (rows ++ rest)))
    (ne_eqb y.0 r.0 (λ e. absurd (omega (arith, e, below.0))))
    ∙ cond-false (ltb r.0 y.0) (r ∷ y ∷ (rows ++ rest)) (y ∷ put_row r (rows ++ rest)) (le-ltb r.0 y.0 (omega (arith, below.0)))
    ∙ ap (λ (l : List (ℕ × Row)). y ∷ l) (put_last r rows rest below.1 above)

rows_above : (floor : ℕ) (rows new : List (ℕ × Row)) → AreBehind new rows → RisesAbove floor new → put_rows new rows ≡ rows ++ new
rows_above floor rows [] behind rises = sym (append-nil rows)
rows_above floor rows (r ∷ new) behind rises =
    ap (put_row r) (rows_above r.0 rows new behind.1 rises.1) ∙ put_last r rows new behind.0 rises.1

pub rows_follow : (rows new : List (ℕ × Row)) → AreBehind new rows → Rises new → put_rows new rows ≡ rows ++ new
rows_follow rows [] behind rises = sym (append-nil rows)
rows_follow rows (r ∷ new) behind rises = ap (put_row r) (rows_above r.0 rows new behind.1 rises) ∙ put_last r rows new behind.0 rises
