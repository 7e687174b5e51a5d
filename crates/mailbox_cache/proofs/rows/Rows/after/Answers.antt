-- Rows that rise do so without some of them, and with others put in; and there is room for them.
use Rattle.std.proofs.Common.{◌≡◌, ◌≤◌, ◌+◌, ℕ, vec_len, sym, ap, subst, length, arith}
use Rattle.std.proofs.lemmas.Bool.{eqb-false}
use Rattle.mailbox_cache.specs.Rows.{Rises}
use Rattle.mailbox_cache.proofs.Counting.{without_rises, without_within, puts_rise, room_fits}
use Rattle.mailbox_cache.proofs.rows.Rows.after.Goals as goal

pub invariant_of-result : goal.invariant_of-result
invariant_of-result c = subst Rises (sym c.remove_uids.ensures) (without_rises c.args.vanished.now c.self.inside.content.items c.self.invariant)

pub put_rows-requires-clause-rising : goal.put_rows-requires-clause-rising
put_rows-requires-clause-rising c = subst Rises (sym c.remove_uids.ensures) (without_rises c.args.vanished.now c.self.inside.content.items c.self.invariant)

pub put_rows-requires-clause-room : goal.put_rows-requires-clause-room
put_rows-requires-clause-room c =
    let items = c.self.inside.content.items in
    let nonzero : vec_len c.args.told ≡ 0 → ⊥ = eqb-false (vec_len c.args.told) 0 (sym c.if-is_empty.ensures) in
    let some : length c.args.told.items ≡ 0 → ⊥ = λ none. nonzero (omega arith) in
    let fits : length c.args.self + length c.args.told.items ≤ c.args.room =
    room_fits (length c.args.self) (length c.args.told.items) c.args.room some c.requires.room in
    let whole : length items ≡ length c.args.self = ap length c.self.view_is in
    let kept : length c.remove_uids.new.rows.items ≤ length items =
    subst (λ (n : ℕ). n ≤ length items) (sym (ap length c.remove_uids.ensures)) (without_within c.args.vanished.now items) in
    omega (arith, fits, whole, kept, c.into_vec.ensures.capacity)

pub invariant_of-result-2 : goal.invariant_of-result-2
invariant_of-result-2 c =
    subst Rises (sym c.put_rows.ensures) (puts_rise c.args.told.items c.remove_uids.new.rows.items
    (subst Rises (sym c.remove_uids.ensures) (without_rises c.args.vanished.now c.self.inside.content.items c.self.invariant)))
