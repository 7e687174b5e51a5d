-- The rows are those of the part.
use Rattle.std.proofs.Common.{ℕ, List, ◌*◌, ◌∙◌, ap, arith, drop, length, refl, subst, sym, take}
use Rattle.mailbox_cache.specs.Rows.{Rises}
use Rattle.mailbox_cache.specs.declared.row.Row.{Row}
use Rattle.action_queue.proofs.restating.part_of.Goals as goal

pub rows_in-requires-clause-within : goal.rows_in-requires-clause-within
rows_in-requires-clause-within c = omega (arith, c.requires, ap length c.as_slice.ensures.value)

pub rows_in-requires-clause-rising : goal.rows_in-requires-clause-rising
rows_in-requires-clause-rising c = subst Rises (sym c.as_slice.ensures.value) c.as_slice.ensures.rising

pub returns : goal.returns
returns c = record {
  whole = refl;
  validity = refl;
  highest = refl;
  uidnext = refl;
  vanished = c.none.ensures;
  rows = c.of.ensures ∙ c.in_ok-rows.ensures ∙ c.rows_in.ensures.value
      ∙ ap (λ (rows : List (ℕ × Row)). take 1000 (drop (c.args.part * 1000) rows)) c.as_slice.ensures.value;
}
