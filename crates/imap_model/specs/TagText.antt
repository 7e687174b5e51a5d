-- The text of a tag (RFC 9051, section 2.2.1): this client's tags are a letter and a number, behind which a try may stand; no command has
-- the number 0.
use Rattle.std.specs.Prelude.{ℕ, ◌<◌, ◌≤◌, List, []}
use Rattle.imap_model.specs.CommandParts.{words, number, ◌⌢◌}
use Rattle.mail_base.specs.declared.tag.Tag.{Tag}
use Rattle.mail_base.specs.declared.tag.Tag.TheVariants.{Play, Again, Count, Strange}

-- `P` and the action's number, with `R2` or `R3` behind it where the command is tried again, or `C` and the count; a strange tag has no text
-- of ours
abbrev pub tag_parts : Tag → List (List ℕ)
tag_parts (Play n) = words "P" ⌢ number n
tag_parts (Again n t) = words "P" ⌢ (number n ⌢ (words "R" ⌢ number t))
tag_parts (Count n) = words "C" ⌢ number n
tag_parts Strange = []

-- a command can have this tag
abbrev pub IsCommandTag : Tag → Type 0
IsCommandTag (Play n) = 0 < n
IsCommandTag (Again n t) = (0 < n) × (2 ≤ t) × (t ≤ 3)
IsCommandTag (Count n) = 0 < n
IsCommandTag Strange = ⊥
