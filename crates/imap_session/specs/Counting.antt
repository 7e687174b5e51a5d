-- The tags of a connection (RFC 9051, section 2.2.1): those of the user's actions are theirs, and the others count from 1, so that none comes twice.
use Rattle.std.specs.Prelude.{◌≡◌, ℕ, ◌+◌, Bool, true, false, Some}
use Rattle.mail_base.specs.Tags.{action_of}
use Rattle.mail_base.specs.declared.tag.Tag.{Tag}
use Rattle.mail_base.specs.declared.tag.Tag.TheVariants as tags
use Rattle.imap_model.specs.TagText.{IsCommandTag}

-- the tag of the next command: one of an action's own tags where the command carries one out, else that of the next count
abbrev pub HasTag : Bool → ℕ → Tag → Type 0
HasTag true count tag = (n : ℕ) × (action_of tag ≡ Some n) × IsCommandTag tag
HasTag false count tag = tag ≡ tags.Count (count + 1)

-- how many commands have such a count behind it
abbrev pub count_after : Bool → ℕ → ℕ
count_after true count = count
count_after false count = count + 1
