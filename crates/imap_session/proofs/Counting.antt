-- The tag of the next command is one that a command can have.
use Rattle.std.proofs.Common.{ℕ, ◌+◌, ◌<◌, Bool, true, false, sym, subst, arith}
use Rattle.mail_base.specs.declared.tag.Tag.{Tag}
use Rattle.imap_model.specs.TagText.{IsCommandTag}
use Rattle.imap_session.specs.Counting.{HasTag}

pub has_tag : (mutating : Bool) (count : ℕ) (tag : Tag) → HasTag mutating count tag → IsCommandTag tag
has_tag true count tag has = has.2
has_tag false count tag has = subst IsCommandTag (sym has) (let some : 0 < count + 1 = omega arith in some)
