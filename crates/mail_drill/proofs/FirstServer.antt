-- The mailboxes that a drill begins with are those of a well-formed server (RFC 9051, section 2.3.1.1).
use Rattle.std.proofs.Common.{◌≡◌, ◌⊎◌, inl, inr, ⊎_elim, ℕ, zero, suc, ◌==◌, ◌+◌, ◌<◌, ◌≤◌, ◌^◌, Bool, true, false, List, [], ◌∷◌, ◌++◌, Option, Some, None}
use Rattle.std.proofs.Common.{refl, sym, ◌∙◌, ap, subst, arith}
use Rattle.std.specs.Prelude.{◌||◌, bytes_eq, codes, decimal, if◌then◌else◌}
use Rattle.std.specs.Char.{is_ascii_digit}
use Rattle.std.specs.List.{list_all, list_any}
use Rattle.std.proofs.lemmas.Bool.{and_parts, cond_both, eqb-true, ne_eqb}
use Rattle.std.proofs.lemmas.List.Folds.{list_any-append}
use Rattle.std.proofs.lemmas.Option.{none-some, same_Some}
use Rattle.imap_model.proofs.Cutting.{all_digits}
use Rattle.imap_model.proofs.Possible.{plain_fact}
use Rattle.imap_model.specs.Lookups.{box_at, message_at}
use Rattle.imap_model.specs.WellFormed.{IsWellFormed, IsWellFormedBox, Rises}
use Rattle.imap_model.specs.declared.server.Mailbox.{Mailbox}
use Rattle.imap_model.specs.declared.server.Message.{Message}
use Rattle.mail_drill.specs.Beginning.{boxes_at_first, message_at_first, messages_at_first}
use Rattle.mail_drill.specs.Texts.{message_text}
use Rattle.mail_drill.proofs.FirstBoxes.{inbox_at_first}
use Rattle.mail_drill.proofs.Messages.{above, digit_plain}

-- a byte 0
abbrev is_zero : ℕ → Bool
is_zero byte = byte == 0

-- digits have none
digits_clean : (bytes : List ℕ) → list_all is_ascii_digit bytes ≡ true → list_any is_zero bytes ≡ false
digits_clean [] all = refl
digits_clean (byte ∷ bytes) all =
    let both = and_parts (is_ascii_digit byte) (list_all is_ascii_digit bytes) all in
    let other : (byte == 0) ≡ false = ne_eqb byte 0 (λ is. omega (arith, above byte (digit_plain byte both.0), is)) in
    rw other (digits_clean bytes both.1)

-- nor has the text of a message
text_clean : (n : ℕ) → n < 2 ^ 32 → list_any is_zero (message_text 109 n) ≡ false
unfolding message_text
text_clean n fits =
    list_any-append is_zero (codes "Message-ID: <m" ++ decimal n) (codes "@d>\r\n\r\n")
    ∙ ap (λ (b : Bool). b || false)
    (list_any-append is_zero (codes "Message-ID: <m") (decimal n) ∙ digits_clean (decimal n) (all_digits n (omega (arith, fits))))

-- Messages that rise by UID, with one more behind them.
abbrev AllBelow : ℕ → List Message → Type 0
AllBelow k [] = Unit {0}
AllBelow k (m ∷ ms) = (m.uid < k) × AllBelow k ms

first_below : (size : ℕ) → AllBelow (suc size) (messages_at_first size)
first_below zero = tt
first_below (suc n) = below_last (messages_at_first n) (first_below n)
  where
    below_last : (ms : List Message) → AllBelow (suc n) ms → AllBelow (suc (suc n)) (ms ++ message_at_first (suc n) ∷ [])
    below_last [] below = (omega arith, tt)
    below_last (x ∷ xs) below = (omega (arith, below.0), below_last xs below.1)

rises_more : (ms : List Message) (least : ℕ) (m : Message) → Rises least ms → AllBelow m.uid ms → least ≤ m.uid → Rises least (ms ++ m ∷ [])
rises_more [] least m rises below few = (few, tt)
rises_more (x ∷ xs) least m rises below few = (rises.0, rises_more xs (x.uid + 1) m rises.1 below.1 (omega (arith, below.0)))

first_rises : (size : ℕ) → Rises 0 (messages_at_first size)
first_rises zero = tt
first_rises (suc n) = rises_more (messages_at_first n) 0 (message_at_first (suc n)) (first_rises n) (first_below n) (omega arith)

-- The message of a UID has it, and is one of those by their numbers.
uid_of_found : (u : ℕ) (ms : List Message) (m : Message) → message_at u ms ≡ Some m → m.uid ≡ u
uid_of_found u [] m = λ found. absurd (none-some m found)
uid_of_found u (x ∷ xs) m =
    cond_both (x.uid == u) (Some x) (message_at u xs) (λ (o : Option Message). o ≡ Some m → m.uid ≡ u)
    (λ here found. ap (λ (y : Message). y.uid) (sym (same_Some x m found)) ∙ eqb-true x.uid u here)
    (λ other found. uid_of_found u xs m found)

found_more : (u : ℕ) (ms : List Message) (y m : Message) → message_at u (ms ++ y ∷ []) ≡ Some m → (message_at u ms ≡ Some m) ⊎ (y ≡ m)
found_more u [] y m =
    cond_both (y.uid == u) (Some y) None (λ (o : Option Message). o ≡ Some m → (message_at u [] ≡ Some m) ⊎ (y ≡ m))
    (λ here found. inr (same_Some y m found)) (λ other found. inl found)
found_more u (x ∷ xs) y m =
    cond_both (x.uid == u) (Some x) (message_at u (xs ++ y ∷ [])) (λ (o : Option Message). o ≡ Some m → (message_at u (x ∷ xs) ≡ Some m) ⊎ (y ≡ m))
    (λ here found. inl (ap (λ (b : Bool). if b then Some x else message_at u xs) here ∙ found))
    (λ other found.
    ⊎_elim (λ (early : message_at u xs ≡ Some m). inl (ap (λ (b : Bool). if b then Some x else message_at u xs) other ∙ early))
    (λ (last : y ≡ m). inr last) (found_more u xs y m found))

first_found : (size u : ℕ) (m : Message) → message_at u (messages_at_first size) ≡ Some m → (n : ℕ) × (n ≤ size) × (m ≡ message_at_first n)
first_found zero u m found = absurd (none-some m found)
first_found (suc k) u m found =
    ⊎_elim
    (λ (early : message_at u (messages_at_first k) ≡ Some m).
    let e = first_found k u m early in (e.0, omega (arith, e.1), e.2))
    (λ (last : message_at_first (suc k) ≡ m). (suc k, omega arith, sym last))
    (found_more u (messages_at_first k) (message_at_first (suc k)) m found)

-- So both mailboxes are well formed.
well_inbox : (size : ℕ) → size ≤ 2000 → IsWellFormedBox (inbox_at_first size)
well_inbox size most = record {
  rise = first_rises size;
  below = λ u m found.
      let f = first_found size u m found in
      omega (arith, uid_of_found u (messages_at_first size) m found, ap (λ (x : Message). x.uid) f.2, f.1);
  numbered = λ u m found. let f = first_found size u m found in omega (arith, ap (λ (x : Message). x.modseq) f.2, f.1);
  plain = λ u m found.
      let f = first_found size u m found in
      plain_fact m.text (ap (λ (x : Message). list_any is_zero x.text) f.2 ∙ text_clean f.0 (omega (arith, f.1, most)));
  gone_below = λ u k gone. absurd (none-some k gone);
  gone_numbered = λ u k gone. absurd (none-some k gone);
  apart = λ u k gone. absurd (none-some k gone);
  once = tt;
}

abbrev archive_at_first : Mailbox
archive_at_first = record { name = codes "Archive"; validity = 9; uidnext = 1; highest = 1; messages = []; gone = [] }

well_archive : IsWellFormedBox archive_at_first
well_archive = record {
  rise = tt;
  below = λ u m found. absurd (none-some m found);
  numbered = λ u m found. absurd (none-some m found);
  plain = λ u m found. absurd (none-some m found);
  gone_below = λ u k gone. absurd (none-some k gone);
  gone_numbered = λ u k gone. absurd (none-some k gone);
  apart = λ u k gone. absurd (none-some k gone);
  once = tt;
}

pub well_formed_at_first : (size : ℕ) → size ≤ 2000 → IsWellFormed (boxes_at_first size)
well_formed_at_first size most = record {
  names = (refl, (refl, tt));
  each = λ name b.
      cond_both (bytes_eq (codes "INBOX") name) (Some (inbox_at_first size)) (box_at name (archive_at_first ∷ []))
      (λ (o : Option Mailbox). o ≡ Some b → IsWellFormedBox b)
      (λ here found. subst IsWellFormedBox (same_Some (inbox_at_first size) b found) (well_inbox size most))
      (λ other.
      cond_both (bytes_eq (codes "Archive") name) (Some archive_at_first) None (λ (o : Option Mailbox). o ≡ Some b → IsWellFormedBox b)
      (λ here found. subst IsWellFormedBox (same_Some archive_at_first b found) well_archive) (λ neither found. absurd (none-some b found)));
}
