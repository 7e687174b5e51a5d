-- INBOX of a drill's first world: it has the UIDs from 1.
use Rattle.std.proofs.Common.{◌≡◌, ℕ, zero, suc, ◌==◌, ◌+◌, Bool, true, false, ◌&&◌, ◌||◌, List, [], ◌∷◌, ◌++◌, Option, Some, None, is_some, refl, sym, ◌∙◌, ap, arith}
use Rattle.std.specs.Prelude.{nat_le, codes, if◌then◌else◌}
use Rattle.std.proofs.lemmas.Bool.Decides.{nat_tests}
use Rattle.imap_model.specs.Lookups.{box_at, message_at}
use Rattle.imap_model.specs.declared.server.Mailbox.{Mailbox}
use Rattle.imap_model.specs.declared.server.Message.{Message}
use Rattle.mail_drill.specs.Beginning.{boxes_at_first, message_at_first, messages_at_first}

-- whether something was found, by the tests that look for it
either_some : (test : Bool) (m : Message) (o : Option Message) → is_some (if test then Some m else o) ≡ (test || is_some o)
either_some true m o = refl
either_some false m o = refl

one_more : (test there last : Bool) → (test || (there || last)) ≡ ((test || there) || last)
one_more true there last = refl
one_more false there last = refl

last_one : (test : Bool) (m : Message) → is_some (if test then Some m else None) ≡ test
last_one true m = refl
last_one false m = refl

-- behind the others one more stands
at_last : (uid : ℕ) (ms : List Message) (m : Message) → is_some (message_at uid (ms ++ m ∷ [])) ≡ (is_some (message_at uid ms) || (m.uid == uid))
at_last uid [] m = last_one (m.uid == uid) m
at_last uid (x ∷ xs) m =
    either_some (x.uid == uid) x (message_at uid (xs ++ m ∷ [])) ∙ ap (λ (b : Bool). (x.uid == uid) || b) (at_last uid xs m)
    ∙ one_more (x.uid == uid) (is_some (message_at uid xs)) (m.uid == uid)
    ∙ sym (ap (λ (b : Bool). b || (m.uid == uid)) (either_some (x.uid == uid) x (message_at uid xs)))

-- the UIDs from 1 to a number, one by one
none_from_one : (uid : ℕ) → false ≡ (nat_le 1 uid && nat_le uid 0)
none_from_one uid = grind (arith, nat_tests)

one_further : (uid n : ℕ) → ((nat_le 1 uid && nat_le uid n) || (suc n == uid)) ≡ (nat_le 1 uid && nat_le uid (suc n))
one_further uid n = grind (arith, nat_tests)

-- the UIDs of the messages
pub uids_at_first : (size uid : ℕ) → is_some (message_at uid (messages_at_first size)) ≡ (nat_le 1 uid && nat_le uid size)
uids_at_first zero uid = none_from_one uid
uids_at_first (suc n) uid =
    at_last uid (messages_at_first n) (message_at_first (suc n)) ∙ ap (λ (b : Bool). b || (suc n == uid)) (uids_at_first n uid) ∙ one_further uid n

-- the mailbox
abbrev pub inbox_at_first : ℕ → Mailbox
inbox_at_first size = record {
  name = codes "INBOX";
  validity = 5;
  uidnext = size + 1;
  highest = size;
  messages = messages_at_first size;
  gone = [];
}

pub inbox_there : (size : ℕ) (boxes : List Mailbox) → boxes ≡ boxes_at_first size → box_at (codes "INBOX") boxes ≡ Some (inbox_at_first size)
inbox_there size boxes is = ap (box_at (codes "INBOX")) is
