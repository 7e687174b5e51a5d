-- The row stands in the place of an old one, or in front of what was set aside.
use Rattle.std.proofs.Common.{◌≡◌, ℕ, List, ◌++◌, sym, ap, subst, length, arith}
use Rattle.std.specs.Prelude.{reverse}
use Rattle.mailbox_cache.specs.Rows.{put_rows, Rises}
use Rattle.mailbox_cache.specs.declared.row.Row.{Row}
use Rattle.mailbox_cache.proofs.Counting.{put_rises}
use Rattle.mailbox_cache.proofs.Splitting.{put_set, take_rises}
use Rattle.mailbox_cache.proofs.Setting.{put_aside, stays}
use Rattle.mailbox_cache.proofs.merge.put_one.Goals as goal

pub returns-then-is_at-clause-joined : goal.returns-then-is_at-clause-joined
returns-then-is_at-clause-joined c =
    let below = rw c.deref.ensures.value at c.place_of-place.ensures.below in
    let there = rw c.deref-2.ensures.value at c.if-is_at.ensures in
    λ before under. ap (λ (l : List (ℕ × Row)). put_rows before l ++ reverse c.args.aside.now.items)
    (put_set c.args.row c.args.rows.now.items c.place_of-place.result below (sym there))

pub returns-then-is_at-clause-rising_still : goal.returns-then-is_at-clause-rising_still
returns-then-is_at-clause-rising_still c =
    let below = rw c.deref.ensures.value at c.place_of-place.ensures.below in
    let there = rw c.deref-2.ensures.value at c.if-is_at.ensures in
    subst Rises (sym (put_set c.args.row c.args.rows.now.items c.place_of-place.result below (sym there)))
    (put_rises c.args.row c.args.rows.now.items c.requires.rising)

pub returns-clause-joined : goal.returns-clause-joined
returns-clause-joined c =
    let below = rw c.deref.ensures.value at c.place_of-place.ensures.below in
    let behind = rw c.deref.ensures.value at c.place_of-place.ensures.behind in
    let other = rw c.deref-2.ensures.value at c.if-is_at.ensures in
    let len : length c.set_aside.new.rows.items ≡ c.place_of-place.result = omega arith in
    λ before under. rw c.push_reserved.ensures.items (put_aside before c.set_aside.new.rows.items c.args.rows.now.items
    c.set_aside.new.aside.items c.args.aside.now.items c.args.row c.place_of-place.result c.set_aside.ensures.joined len
    (omega arith) below behind (sym other) under)

pub returns-clause-rising_still : goal.returns-clause-rising_still
returns-clause-rising_still c =
    let len : length c.set_aside.new.rows.items ≡ c.place_of-place.result = omega arith in
    subst Rises (sym (stays c.set_aside.new.rows.items (reverse c.set_aside.new.aside.items) c.args.rows.now.items
    (reverse c.args.aside.now.items) c.place_of-place.result c.set_aside.ensures.joined len (omega arith)))
    (take_rises c.args.rows.now.items c.place_of-place.result c.requires.rising)
