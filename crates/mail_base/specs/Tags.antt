-- Which tags belong to an action of the user (this client's profile; RFC 9051, section 2.2.1, leaves tags to the client).
use Rattle.std.specs.Prelude.{ℕ, zero, suc, Option, Some, None}
use Rattle.mail_base.specs.declared.tag.Tag.{Tag}
use Rattle.mail_base.specs.declared.tag.Tag.TheVariants.{Play, Again, Count, Strange}

-- the action of the tag
abbrev pub action_of : Tag → Option ℕ
action_of (Play number) = Some number
action_of (Again id turn) = Some id
action_of (Count number) = None
action_of Strange = None

-- the tag of a try of an action, behind this many that were withdrawn
abbrev pub try_tag : ℕ → ℕ → Tag
try_tag n zero = Play n
try_tag n (suc k) = Again n (suc (suc k))
