-- The mailboxes of a new server, which are named INBOX and Archive.
use Rattle.std.proofs.Common.{◌≡◌, ℕ, ◌+◌, List, [], ◌∷◌, ◌++◌, refl, ◌∙◌, ap}
use Rattle.std.specs.Prelude.{codes}
use Rattle.imap_model.specs.declared.server.Mailbox.{Mailbox}
use Rattle.imap_model.specs.declared.server.Message.{Message}
use Rattle.mail_base.specs.BoxName.{IsBoxText, KeptAs}
use Rattle.record_codec.proofs.NameForm.{is_name-Decides}
use Rattle.mail_drill.specs.Beginning.{boxes_at_first, messages_at_first}

-- each of the two is a name
pub inbox_text : IsBoxText (codes "INBOX")
inbox_text = ((is_name-Decides (codes "INBOX")).0 refl).text

pub archive_text : IsBoxText (codes "Archive")
archive_text = ((is_name-Decides (codes "Archive")).0 refl).text

-- and is kept as it is written
kept_inbox : (name : List ℕ) → KeptAs (codes "INBOX") name → name ≡ codes "INBOX"
kept_inbox name kept = kept.inbox refl

kept_archive : (name : List ℕ) → KeptAs (codes "Archive") name → name ≡ codes "Archive"
kept_archive name kept = kept.other (λ same. absurd (cc same))

-- a mailbox of these numbers, of which nothing is gone
abbrev pub box_of : List ℕ → ℕ → ℕ → ℕ → List Message → Mailbox
box_of name validity uidnext highest messages =
    record { name = name; validity = validity; uidnext = uidnext; highest = highest; messages = messages; gone = [] }

-- a mailbox of these fields is INBOX, or Archive, as a drill begins
is_inbox : (size next highest : ℕ) (messages : List Message) (b : Mailbox) → KeptAs (codes "INBOX") b.name → b ≡ box_of b.name 5 next highest messages →
    next ≡ size + 1 → highest ≡ size → messages ≡ messages_at_first size → b ≡ box_of (codes "INBOX") 5 (size + 1) size (messages_at_first size)
is_inbox size next highest messages b kept fields same_next same_highest same =
    fields ∙ ap (λ (n : List ℕ). box_of n 5 next highest messages) (kept_inbox b.name kept)
    ∙ ap (λ (n : ℕ). box_of (codes "INBOX") 5 n highest messages) same_next
    ∙ ap (λ (n : ℕ). box_of (codes "INBOX") 5 (size + 1) n messages) same_highest
    ∙ ap (λ (l : List Message). box_of (codes "INBOX") 5 (size + 1) size l) same

is_archive : (messages : List Message) (b : Mailbox) → KeptAs (codes "Archive") b.name → b ≡ box_of b.name 9 1 1 messages → messages ≡ [] →
    b ≡ box_of (codes "Archive") 9 1 1 []
is_archive messages b kept fields same =
    fields ∙ ap (λ (n : List ℕ). box_of n 9 1 1 messages) (kept_archive b.name kept)
    ∙ ap (λ (l : List Message). box_of (codes "Archive") 9 1 1 l) same

-- a list of two mailboxes that were put into an empty one
two_boxes : (none one two : List Mailbox) (a b c d : Mailbox) → none ≡ [] → one ≡ none ++ a ∷ [] → two ≡ one ++ b ∷ [] → a ≡ c → b ≡ d →
    two ≡ c ∷ d ∷ []
two_boxes none one two a b c d start first second is_c is_d =
    second ∙ ap (λ (l : List Mailbox). l ++ b ∷ []) (first ∙ ap (λ (l : List Mailbox). l ++ a ∷ []) start)
    ∙ ap (λ (x : Mailbox). x ∷ b ∷ []) is_c ∙ ap (λ (x : Mailbox). c ∷ x ∷ []) is_d

-- where INBOX and then Archive, each of its numbers, are put into an empty list, these are the mailboxes of a drill that begins
pub boxes_made : (size next highest : ℕ) (messages no_messages : List Message) (none one two : List Mailbox) (a b : Mailbox) →
    none ≡ [] → one ≡ none ++ a ∷ [] → two ≡ one ++ b ∷ [] →
    KeptAs (codes "INBOX") a.name → a ≡ box_of a.name 5 next highest messages → next ≡ size + 1 → highest ≡ size → messages ≡ messages_at_first size →
    KeptAs (codes "Archive") b.name → b ≡ box_of b.name 9 1 1 no_messages → no_messages ≡ [] → two ≡ boxes_at_first size
boxes_made size next highest messages no_messages none one two a b start first second inbox inbox_is same_next same_highest same archive archive_is empty =
    two_boxes none one two a b (box_of (codes "INBOX") 5 (size + 1) size (messages_at_first size)) (box_of (codes "Archive") 9 1 1 []) start first second
    (is_inbox size next highest messages a inbox inbox_is same_next same_highest same)
    (is_archive no_messages b archive archive_is empty)
