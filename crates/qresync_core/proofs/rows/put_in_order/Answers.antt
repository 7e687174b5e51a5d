-- Rows that rise have one row a UID; else the last of each comes first, stays so in the sort, and is kept.
use Rattle.std.proofs.Common.{◌≡◌, sym, ◌∙◌, ap, subst, refl, rules}
use Rattle.std.proofs.lemmas.Fn.{dedup_same}
use Rattle.std.proofs.lemmas.List.Sorted.{IsNonDecreasingBy-from_sort_by_key, answers_always}
use Rattle.mailbox_cache.specs.Rows.{Rises, row_at}
use Rattle.qresync_core.proofs.InOrder.{uid_of, same_uid, sorted_row, dedup_row, dedup_rises}
use Rattle.qresync_core.proofs.LastRows.{rising_row}
use Rattle.qresync_core.proofs.rows.put_in_order.Goals as goal

pub returns-then-rises-clause-rows : goal.returns-then-rises-clause-rows
returns-then-rises-clause-rows c = λ uid. sym (rising_row uid c.args.rows.now.items (subst Rises c.deref.ensures.value (c.if-rises.ensures refl)))

pub returns-in-Ok-clause-rising : goal.returns-in-Ok-clause-rising
returns-in-Ok-clause-rising c =
    let kept = dedup_same _ same_uid _ (λ x y b f' x' y' k. search rules) _ _ c.dedup_by_key.ensures.filtered in
    subst Rises (sym kept)
    (dedup_rises c.sort_by_key.new.self.items (IsNonDecreasingBy-from_sort_by_key uid_of _ c.in-Ok.ensures.sorted (λ a r q k. search rules)))

pub returns-in-Ok-clause-rows : goal.returns-in-Ok-clause-rows
returns-in-Ok-clause-rows c = λ uid.
    let kept = dedup_same _ same_uid _ (λ x y b f' x' y' k. search rules) _ _ c.dedup_by_key.ensures.filtered in
    let stable = c.sort_by_key.ensures.stable uid_of (answers_always _ (λ a r. r ≡ uid_of a.0.now) _ (λ f a r q k. search rules)) in
    ap (row_at uid) kept ∙ dedup_row uid c.sort_by_key.new.self.items ∙ sorted_row c.reverse.new.self.items c.sort_by_key.new.self.items stable uid
    ∙ ap (row_at uid) c.reverse.ensures.items
