-- Which deeds of a server's history belong to an action of the user (this client's profile; RFC 9051, section 2.2.1, leaves tags to the client).
use Rattle.std.specs.Prelude.{ℕ, ◌==◌, Bool, false, List, [], ◌∷◌, Option, Some, None, if◌then◌else◌}
use Rattle.mail_base.specs.Tags.{action_of}
use Rattle.mail_base.specs.declared.tag.Tag.{Tag}
use Rattle.imap_model.specs.declared.deed.Author.{Author}
use Rattle.imap_model.specs.declared.deed.Author.TheVariants.{Other, Ours}
use Rattle.imap_model.specs.declared.deed.Deed.{Deed}

-- the number is there, and is this one
abbrev pub is_number : ℕ → Option ℕ → Bool
is_number n None = false
is_number n (Some k) = k == n

-- the tag is one of action n
abbrev pub is_try : ℕ → Tag → Bool
is_try n tag = is_number n (action_of tag)

-- the author is this client, for action n
abbrev pub is_ours : ℕ → Author → Bool
is_ours n Other = false
is_ours n (Ours tag) = is_try n tag

-- the deeds of action n, in their order
abbrev pub ours : ℕ → List Deed → List Deed
ours n [] = []
ours n (d ∷ ds) = if is_ours n d.author then d ∷ ours n ds else ours n ds
