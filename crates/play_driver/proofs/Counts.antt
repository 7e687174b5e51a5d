-- What a run counts stands behind the actions that were settled at its entry.
use Rattle.std.proofs.Common.{◌≡◌, ℕ, suc, zero, ◌+◌, ◌-◌, ◌≤◌, List, [], ◌∷◌, length, drop, take, Option, Some, None}
use Rattle.std.proofs.Common.{refl, sym, ◌∙◌, ap, arith, rules}
use Rattle.std.specs.Prelude.{IsSome, sum_by, min}
use Rattle.std.proofs.lemmas.List.{length-map, length-drop, take_all}
use Rattle.std.proofs.lemmas.List.Sums.{sum_by-cons}
use Rattle.action_queue.specs.Book.{Meaning}
use Rattle.action_queue.specs.Queues.{AllOpen, AllSettled, InOrderThen, IsInOrder, due, settled_then}
use Rattle.action_queue.specs.declared.outcome.Outcome.{Outcome}
use Rattle.action_queue.specs.declared.queued.Queued.{Queued}
use Rattle.action_queue.proofs.Queueing.{due_within}
use Rattle.store_core.specs.Fold.{IsFold}
use Rattle.play_driver.specs.Counted.{counted, counts_of, conflicts_of, played_since}
use Rattle.play_driver.specs.Progress.{IsLater}
use Rattle.play_driver.specs.declared.played.Played.{Played}
use Rattle.play_driver.proofs.Folds.{fold_in_order}

module _ (count : Outcome → ℕ) where
  abbrev pub fresh : Queued → ℕ
  fresh q = counts_of count None q.outcome

  -- where none had an outcome all of them count
  counted_open : (xs ys : List Queued) → AllOpen xs → length ys ≡ length xs → counted count xs ys ≡ sum_by fresh ys
  counted_open [] [] none same = refl
  counted_open [] (y ∷ ys) none same = absurd (omega (arith, same))
  counted_open (x ∷ xs) [] none same = absurd (omega (arith, same))
  counted_open (x ∷ xs) (y ∷ ys) none same =
      let first : counts_of count x.outcome y.outcome ≡ fresh y = ap (λ (o : Option Outcome). counts_of count o y.outcome) none.0 in
      let others : counted count xs ys ≡ sum_by fresh ys = counted_open xs ys none.1 (omega (arith, same)) in
      omega (arith, first, others, sum_by-cons fresh y ys)

  counted_then : (x y : Queued) (xs ys : List Queued) (o : Option Outcome) → x.outcome ≡ o → InOrderThen o (AllOpen xs) (IsInOrder xs) →
      length ys ≡ length xs → (IsInOrder xs → counted count xs ys ≡ sum_by fresh (drop (due xs) ys)) →
      counts_of count x.outcome y.outcome + counted count xs ys ≡ sum_by fresh (drop (settled_then o (due xs)) (y ∷ ys))
  counted_then x y xs ys None is none same so =
      let first : counts_of count x.outcome y.outcome ≡ fresh y = ap (λ (o : Option Outcome). counts_of count o y.outcome) is in
      omega (arith, first, counted_open xs ys none same, sum_by-cons fresh y ys)
  counted_then x y xs ys (Some outcome) is order same so =
      let first : counts_of count x.outcome y.outcome ≡ 0 = ap (λ (o : Option Outcome). counts_of count o y.outcome) is in
      omega (arith, first, so order)

  counted_behind : (xs ys : List Queued) → IsInOrder xs → length ys ≡ length xs → counted count xs ys ≡ sum_by fresh (drop (due xs) ys)
  counted_behind [] [] order same = refl
  counted_behind [] (y ∷ ys) order same = absurd (omega (arith, same))
  counted_behind (x ∷ xs) [] order same = absurd (omega (arith, same))
  counted_behind (x ∷ xs) (y ∷ ys) order same =
      counted_then x y xs ys x.outcome refl order (omega (arith, same)) (λ o. counted_behind xs ys o (omega (arith, same)))

one_then : (y : Queued) (ys : List Queued) (o : Option Outcome) → y.outcome ≡ o → IsSome o → sum_by (fresh (λ outcome. 1)) ys ≡ length ys →
    sum_by (fresh (λ outcome. 1)) (y ∷ ys) ≡ suc (length ys)
one_then y ys None is some so = absurd (search rules)
one_then y ys (Some outcome) is some so =
    let one : fresh (λ outcome. 1) y ≡ 1 = ap (counts_of (λ outcome. 1) None) is in
    omega (arith, one, so, sum_by-cons (fresh (λ outcome. 1)) y ys)

-- where all have an outcome each of them was settled
one_each : (ys : List Queued) → AllSettled ys → sum_by (fresh (λ outcome. 1)) ys ≡ length ys
one_each [] all = refl
one_each (y ∷ ys) all = one_then y ys y.outcome refl all.0 (one_each ys all.1)

all_behind : (n : ℕ) (ys : List Queued) → AllSettled ys → AllSettled (drop n ys)
all_behind zero ys all = all
all_behind (suc n) [] all = tt
all_behind (suc n) (y ∷ ys) all = all_behind n ys all.1

module _ (entry b : Meaning) (fold : IsFold entry) (later : IsLater entry b) where
  same_length : length b.queue ≡ length entry.queue
  same_length = sym (length-map b.queue (λ (q : Queued). q.action)) ∙ ap length later.actions ∙ length-map entry.queue (λ (q : Queued). q.action)

  -- what was taken from the place of the action that was due
  pub since_there : (queue : List Queued) (settled count from : ℕ) → queue ≡ b.queue → settled ≡ due entry.queue → count ≡ length b.queue →
      from ≡ min settled count → take (length queue - from) (drop from queue) ≡ drop (due entry.queue) b.queue
  since_there queue settled count from same is long least =
      let within : due entry.queue ≤ length b.queue = omega (arith, same_length, due_within entry.queue) in
      let here : from ≡ due entry.queue = omega (arith, within, is, long, least) in
      take_all (length queue - from) (drop from queue) (omega (arith, length-drop from queue))
      ∙ ap (λ (n : ℕ). drop n queue) here ∙ ap (drop (due entry.queue)) same

  pub played_there : AllSettled b.queue → (since : List Queued) (conflicts : ℕ) → since ≡ drop (due entry.queue) b.queue →
      conflicts ≡ sum_by (fresh conflicts_of) since →
      ◌≡◌ {A = Played} (record { settled = length since; conflicts = conflicts }) (played_since entry b)
  played_there all since conflicts is ended =
      let order = fold_in_order entry fold in
      let settled : length since ≡ counted (λ outcome. 1) entry.queue b.queue = ap length is
      ∙ sym (one_each (drop (due entry.queue) b.queue) (all_behind (due entry.queue) b.queue all))
      ∙ sym (counted_behind (λ outcome. 1) entry.queue b.queue order same_length) in
      let failed : conflicts ≡ counted conflicts_of entry.queue b.queue =
      ended ∙ ap (sum_by (fresh conflicts_of)) is ∙ sym (counted_behind conflicts_of entry.queue b.queue order same_length) in
      cc (settled, failed)
