-- What the test keeps are the rows without the vanished ones.
use Rattle.std.proofs.Common.{◌∙◌, sym, refl, rules}
use Rattle.std.specs.Prelude.{not}
use Rattle.std.proofs.lemmas.Fn.{filter_same}
use Rattle.mailbox_cache.specs.Rows.{has_uid}
use Rattle.mailbox_cache.proofs.Rising.{without_filter}
use Rattle.mailbox_cache.proofs.Vanishing.{apart_stay}
use Rattle.mailbox_cache.proofs.merge.remove_uids.Goals as goal

pub returns-then-are_apart : goal.returns-then-are_apart
returns-then-are_apart c =
    let apart = rw (c.deref.ensures.value, c.ranges-2.ensures.value) at c.if-are_apart.ensures in
    sym (apart_stay c.args.vanished.now c.args.rows.now.items (apart refl))

pub returns : goal.returns
returns c =
    filter_same _ (λ e. not (has_uid c.args.vanished.now e.0)) _ (λ e b f' t. search rules) _ _ c.retain.ensures.filtered
    ∙ without_filter c.args.vanished.now c.args.rows.now.items
