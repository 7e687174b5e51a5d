-- One range more of either list is joined.
use Rattle.std.proofs.Common.{◌<◌, ◌≤◌, length, get_or, arith}
use Rattle.uid_sets.specs.declared.uid.UidRange.{UidRange}
use Rattle.uid_sets.proofs.Ranges.{drop_here, RisesByLow-weaker, RisesByLow-raised, RisesByLow-canonical}
use Rattle.uid_sets.proofs.merge.union_of.Goals as goal

pub loop-i-init : goal.loop-i-init
loop-i-init c = rw c.new-ranges.ensures.items (record {
  within_left = omega arith;
  within_right = omega arith;
  canonical = tt;
  left = RisesByLow-canonical 0 _ c.requires.left;
  right = RisesByLow-canonical 0 _ c.requires.right;
  members = λ uid. grind arith;
})

abbrev none : UidRange
none = record { low = 0; high = 0 }

pub loop-i-preserved-then-left-i : goal.loop-i-preserved-then-left-i
loop-i-preserved-then-left-i c =
    let within : c.loop-i.i < length c.args.left.now = grind arith in
    let first : c.loop-i.j < length c.args.right.now → (get_or c.args.left.now c.loop-i.i none).low ≤
    (get_or c.args.right.now c.loop-i.j none).low = λ h. grind arith in
    let joins = c.in_ok-join.ensures in
    let before = c.loop-i.invariant in
    let here = drop_here c.args.left.now c.loop-i.i none within in
    let left = rw here at before.left in
    record {
      within_left = omega arith;
      within_right = before.within_right;
      canonical = joins.canonical;
      left = RisesByLow-weaker _ _ _ joins.rising left.2;
      right = RisesByLow-weaker _ _ _ joins.rising (RisesByLow-raised _ _ _ c.loop-i.j before.right first);
      members = λ uid.
          let new = joins.members uid in
          let old = rw here at (before.members uid) in
          grind (arith, new.0, new.1, old.0, old.1);
    }

pub loop-i-preserved : goal.loop-i-preserved
loop-i-preserved c =
    let within : c.loop-i.j < length c.args.right.now = grind arith in
    let first : c.loop-i.i < length c.args.left.now → (get_or c.args.right.now c.loop-i.j none).low ≤
    (get_or c.args.left.now c.loop-i.i none).low = λ h. grind arith in
    let joins = c.in_ok-join-2.ensures in
    let before = c.loop-i.invariant in
    let here = drop_here c.args.right.now c.loop-i.j none within in
    let right = rw here at before.right in
    record {
      within_left = before.within_left;
      within_right = omega arith;
      canonical = joins.canonical;
      left = RisesByLow-weaker _ _ _ joins.rising (RisesByLow-raised _ _ _ c.loop-i.i before.left first);
      right = RisesByLow-weaker _ _ _ joins.rising right.2;
      members = λ uid.
          let new = joins.members uid in
          let old = rw here at (before.members uid) in
          grind (arith, new.0, new.1, old.0, old.1);
    }
