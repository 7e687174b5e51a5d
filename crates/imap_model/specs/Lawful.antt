-- Which changes a server can make, and the first of eight reasons why it can't (RFC 9051, section 2.3.1.1; RFC 7162, section 3.1).
use Rattle.std.specs.Prelude.{ℕ, ◌+◌, ◌-◌, ◌^◌, ◌==◌, length, nat_lt, nat_le, Bool, true, not, ◌&&◌, List, [], ◌∷◌, Option, Some, None, is_some, if◌then◌else◌}
use Rattle.std.specs.List.{list_any}
use Rattle.std.specs.Str.{bytes_eq}
use Rattle.imap_model.specs.Lookups.{box_at, message_at}
use Rattle.imap_model.specs.declared.server.Mailbox.{Mailbox}
use Rattle.imap_model.specs.declared.deed.Change.{Change}
use Rattle.imap_model.specs.declared.deed.Change.TheVariants as changes

-- 1: the mailboxes of the change are there, and no message goes to where it is
abbrev pub has_boxes : List Mailbox → List ℕ → Change → Bool
has_boxes boxes name (changes.Add flags text uid) = is_some (box_at name boxes)
has_boxes boxes name (changes.SetFlags uid flags) = is_some (box_at name boxes)
has_boxes boxes name (changes.Drop uid) = is_some (box_at name boxes)
has_boxes boxes name (changes.Shift uid to new) = is_some (box_at name boxes) && is_some (box_at to boxes) && not (bytes_eq to name)
has_boxes boxes name (changes.Reset validity uids uidnext highest) = is_some (box_at name boxes)

-- the UID is one that no message of the mailbox had
abbrev pub is_free : ℕ → Option Mailbox → Bool
is_free uid None = true
is_free uid (Some b) = nat_le b.uidnext uid && nat_lt uid (2 ^ 32 - 1)

-- 2: a message that comes has a UID of its own
abbrev pub has_free_uid : List Mailbox → List ℕ → Change → Bool
has_free_uid boxes name (changes.Add flags text uid) = is_free uid (box_at name boxes)
has_free_uid boxes name (changes.SetFlags uid flags) = true
has_free_uid boxes name (changes.Drop uid) = true
has_free_uid boxes name (changes.Shift uid to new) = is_free new (box_at to boxes)
has_free_uid boxes name (changes.Reset validity uids uidnext highest) = true

-- the message is there
abbrev pub holds_message : ℕ → Option Mailbox → Bool
holds_message uid None = true
holds_message uid (Some b) = is_some (message_at uid b.messages)

-- 3: a message that changes or goes is there
abbrev pub has_message : List Mailbox → List ℕ → Change → Bool
has_message boxes name (changes.Add flags text uid) = true
has_message boxes name (changes.SetFlags uid flags) = holds_message uid (box_at name boxes)
has_message boxes name (changes.Drop uid) = holds_message uid (box_at name boxes)
has_message boxes name (changes.Shift uid to new) = holds_message uid (box_at name boxes)
has_message boxes name (changes.Reset validity uids uidnext highest) = true

-- a greater mod-sequence is left
abbrev pub has_next : Option Mailbox → Bool
has_next None = true
has_next (Some b) = nat_lt b.highest (2 ^ 63 - 1)

-- 4: each mailbox of a change has a mod-sequence left, but for one that is renewed
abbrev pub has_room : List Mailbox → List ℕ → Change → Bool
has_room boxes name (changes.Add flags text uid) = has_next (box_at name boxes)
has_room boxes name (changes.SetFlags uid flags) = has_next (box_at name boxes)
has_room boxes name (changes.Drop uid) = has_next (box_at name boxes)
has_room boxes name (changes.Shift uid to new) = has_next (box_at name boxes) && has_next (box_at to boxes)
has_room boxes name (changes.Reset validity uids uidnext highest) = true

-- 5: a text that comes holds no NUL
abbrev pub is_plain_text : Change → Bool
is_plain_text (changes.Add flags text uid) = not (list_any (λ byte. byte == 0) text)
is_plain_text (changes.SetFlags uid flags) = true
is_plain_text (changes.Drop uid) = true
is_plain_text (changes.Shift uid to new) = true
is_plain_text (changes.Reset validity uids uidnext highest) = true

-- the UIDVALIDITY is above that of the mailbox
abbrev pub is_above : ℕ → Option Mailbox → Bool
is_above validity None = true
is_above validity (Some b) = nat_lt b.validity validity

-- 7: a mailbox is renewed under a greater UIDVALIDITY. (6, that others alone renew one, is kept by how changes come about: none of this
-- client's commands does.)
abbrev pub rises : List Mailbox → List ℕ → Change → Bool
rises boxes name (changes.Add flags text uid) = true
rises boxes name (changes.SetFlags uid flags) = true
rises boxes name (changes.Drop uid) = true
rises boxes name (changes.Shift uid to new) = true
rises boxes name (changes.Reset validity uids uidnext highest) = is_above validity (box_at name boxes)

-- numbers rise, from this one on and below that one
abbrev pub rise_below : ℕ → ℕ → List ℕ → Bool
rise_below from below [] = true
rise_below from below (u ∷ us) = nat_le from u && (nat_lt u below && rise_below (u + 1) below us)

-- they are as many as the messages
abbrev pub are_as_many : List ℕ → Option Mailbox → Bool
are_as_many uids None = true
are_as_many uids (Some b) = length uids == length b.messages

-- 8: the new UIDs rise, are below UIDNEXT, and are as many as the messages
abbrev pub has_uids : List Mailbox → List ℕ → Change → Bool
has_uids boxes name (changes.Add flags text uid) = true
has_uids boxes name (changes.SetFlags uid flags) = true
has_uids boxes name (changes.Drop uid) = true
has_uids boxes name (changes.Shift uid to new) = true
has_uids boxes name (changes.Reset validity uids uidnext highest) = rise_below 1 uidnext uids && are_as_many uids (box_at name boxes)

-- the place of the first test that fails, counted from this number
abbrev pub first_failed : ℕ → List Bool → Option ℕ
first_failed number [] = None
first_failed number (test ∷ tests) = if test then first_failed (number + 1) tests else Some number

-- the number of the first of these that a change in the mailbox of this name breaks
abbrev pub broken_rule : List Mailbox → List ℕ → Change → Option ℕ
broken_rule boxes name change =
    first_failed 1
    (has_boxes boxes name change ∷ has_free_uid boxes name change ∷ has_message boxes name change ∷ has_room boxes name change
    ∷ is_plain_text change ∷ true ∷ rises boxes name change ∷ has_uids boxes name change ∷ [])
