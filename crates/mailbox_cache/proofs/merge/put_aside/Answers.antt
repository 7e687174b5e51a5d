-- The last row that is left is the next to be put.
use Rattle.std.proofs.Common.{◌∙◌, ◌++◌, ◌∷◌, [], sym, ap, ℕ, List, arith}
use Rattle.std.specs.Prelude.{reverse}
use Rattle.mailbox_cache.specs.Rows.{Rises}
use Rattle.mailbox_cache.specs.declared.row.Row.{Row}
use Rattle.mailbox_cache.proofs.Rising.{put_rows-last}
use Rattle.mailbox_cache.proofs.Splitting.{last_above, init_rises}
use Rattle.mailbox_cache.proofs.merge.put_aside.Goals as goal

pub loop-row-preserved : goal.loop-row-preserved
loop-row-preserved c =
    let told : Rises (c.pop.new.self.items ++ c.in-Some.row ∷ []) = rw c.in-Some.ensures.items at c.loop-row.invariant.told in
    let was = c.loop-row.invariant.room in
    let len = c.put_one.ensures.len in
    record {
      joined =
          c.put_one.ensures.joined c.pop.new.self.items (last_above c.pop.new.self.items c.in-Some.row told)
          ∙ ap (λ (l : List (ℕ × Row)). l ++ reverse c.loop-row.aside.items) (sym (put_rows-last c.in-Some.row c.pop.new.self.items c.loop-row.rows.items))
          ∙ (rw c.in-Some.ensures.items at c.loop-row.invariant.joined);
      rising = c.put_one.ensures.rising_still;
      told = init_rises c.pop.new.self.items (c.in-Some.row ∷ []) told;
      room = omega (arith, was, len, c.put_one.ensures.capacity, c.in-Some.ensures.len);
    }
