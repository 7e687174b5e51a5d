-- The last of the rows has the last UID.
use Rattle.std.proofs.Common.{◌∙◌, ap, sym}
use Rattle.mailbox_cache.specs.Rows.{last_uid}
use Rattle.mailbox_cache.proofs.Rising.{last_uid-last}
use Rattle.mailbox_cache.proofs.delta.Delta.last_uid.Goals as goal

pub returns-in-Some : goal.returns-in-Some
returns-in-Some c =
    let parted = rw c.as_slice.ensures at c.in-Some.ensures.cases.0 in
    c.number.ensures.value ∙ sym (ap last_uid parted ∙ last_uid-last c.in-Some.field-0-1.now c.in-Some.field-0-0.now)
