-- The words and the input of a drill's command ask for what it says, and what that becomes on the book is its action.
use Rattle.std.proofs.Common.{◌≡◌, ℕ, ◌<◌, ◌≤◌, ◌^◌, Bool, true, List, [], ◌∷◌, length, Some, refl, sym, ◌∙◌, ap, arith}
use Rattle.std.specs.Prelude.{◌&&◌, ◌||◌, All, codes, decimal, nat_le}
use Rattle.std.specs.List.{list_all}
use Rattle.std.proofs.lemmas.Bool.{and_parts}
use Rattle.std.proofs.lemmas.Bool.Decides.{nat_tests}
use Rattle.std.proofs.lemmas.List.Elements.{All-cons, All-nil}
use Rattle.mail_base.specs.Arguments.{WritesBox}
use Rattle.mail_base.specs.BoxName.{IsNameByte}
use Rattle.mail_header.specs.BareLf.{crlf_of}
use Rattle.mail_header.specs.Identifier.{HasMessageId, PlacedBody, id_of}
use Rattle.action_queue.specs.Book.{Meaning}
use Rattle.action_queue.specs.declared.action.Action.{Action}
use Rattle.action_queue.specs.declared.action.Action.TheVariants as actions
use Rattle.action_queue.specs.declared.target.Target.{Target}
use Rattle.action_queue.specs.declared.target.Target.TheVariants as targets
use Rattle.local_view.specs.declared.seen.Ident.TheVariants as ident
use Rattle.mail_top.specs.Actions.{Becomes, keys_of, target_in, target_of}
use Rattle.mail_top.specs.Words.{AsksAction, WritesIdent}
use Rattle.mail_drill.proofs.Messages.{message_id, message_kept}
use Rattle.mail_drill.specs.Answering.{IsNumbered}
use Rattle.mail_drill.specs.Asked.{action_of, identifier, wanted_of}
use Rattle.mail_drill.specs.Orders.{NamesOneOf}
use Rattle.mail_drill.specs.Standing.{Knows}
use Rattle.mail_drill.specs.Texts.{input_of, message_text, words_of}
use Rattle.mail_drill.specs.declared.orders.Order.{Order}
use Rattle.mail_drill.specs.declared.orders.Order.TheVariants as orders

-- letters may stand in the name of a mailbox
abbrev is_letter : ℕ → Bool
is_letter byte = (nat_le 65 byte && nat_le byte 90) || (nat_le 97 byte && nat_le byte 122)

letter : (byte : ℕ) → is_letter byte ≡ true → IsNameByte byte
letter byte is = record {
  low = grind (arith, nat_tests);
  high = grind (arith, nat_tests);
  quote = grind (arith, nat_tests);
  percent = grind (arith, nat_tests);
  ampersand = grind (arith, nat_tests);
  star = grind (arith, nat_tests);
  backslash = grind (arith, nat_tests);
}

letters : (bytes : List ℕ) → list_all is_letter bytes ≡ true → All IsNameByte bytes
letters [] all = All-nil IsNameByte
letters (byte ∷ bytes) all =
    let both = and_parts (is_letter byte) (list_all is_letter bytes) all in
    All-cons IsNameByte byte bytes (letter byte both.0) (letters bytes both.1)

-- the two mailboxes' names write themselves
inbox_named : WritesBox (codes "INBOX") (codes "INBOX")
inbox_named = record {
  named = record { some = omega arith; few = omega arith; bytes = letters (codes "INBOX") refl };
  kept = record { inbox = λ is. refl; other = λ isnt. refl };
}

archive_named : WritesBox (codes "Archive") (codes "Archive")
archive_named = record {
  named = record { some = omega arith; few = omega arith; bytes = letters (codes "Archive") refl };
  kept = record { inbox = λ is. absurd (omega (arith, ap length is)); other = λ isnt. refl };
}

-- a UID of the drill's mailbox writes itself
uid_written : (size uid : ℕ) → size ≤ 2000 → 1 ≤ uid → uid ≤ size → WritesIdent (decimal uid) (ident.Real uid)
uid_written size uid most first last = record { is = refl; from_one = omega (arith, first); fits = omega (arith, most, last) }

-- the words and the input ask for what the command says
pub order_asked : (size : ℕ) (o : Order) → size ≤ 2000 → NamesOneOf size o → AsksAction (words_of o) (input_of o) (wanted_of o)
order_asked size (orders.Flag uid) most named = record {
  box = codes "INBOX";
  id = decimal uid;
  are = refl;
  names = inbox_named;
  message = uid_written size uid most named.0 named.1;
  some = omega arith;
  few = omega arith;
}
order_asked size (orders.Move uid) most named = record {
  box = codes "INBOX";
  id = decimal uid;
  to = codes "Archive";
  are = refl;
  names = inbox_named;
  message = uid_written size uid most named.0 named.1;
  receives = archive_named;
}
order_asked size (orders.Append number) most named = (record { box = codes "Archive"; are = refl; names = archive_named; few = omega arith }, refl)

-- a text has one Message-ID
one_id : (text id other : List ℕ) → HasMessageId text id → HasMessageId text other → id ≡ other
one_id text id other h k =
    let same : h.body ≡ k.body = one_body _ _ (sym h.one.1 ∙ k.one.1) in h.value ∙ ap id_of same ∙ sym k.value
  where
    one_body : (x y : PlacedBody) → x ∷ [] ≡ y ∷ [] → x.body ≡ y.body
    one_body x y is = let both : x ≡ y = cc is in ap (λ (p : PlacedBody). p.body) both

-- a UID of INBOX is meant under its UIDVALIDITY
inbox_target : (size : ℕ) (b : Meaning) → Knows size b → (uid : ℕ) (target : Target) → target_of b (codes "INBOX") (ident.Real uid) ≡ Some target →
    target ≡ targets.Real (codes "INBOX") 5 uid
inbox_target size b knows uid target is =
    let told : Some (targets.Real (codes "INBOX") knows.inbox.validity uid) ≡ Some target =
    sym (ap (λ c. target_in (codes "INBOX") c (ident.Real uid)) knows.has_inbox) ∙ is in
    let same : target ≡ targets.Real (codes "INBOX") knows.inbox.validity uid = cc told in
    same ∙ ap (λ validity. targets.Real (codes "INBOX") validity uid) knows.validity

-- what it asks for becomes its action
pub order_becomes : (size : ℕ) (b : Meaning) (o : Order) (action : Action) → Knows size b → IsNumbered o → Becomes (wanted_of o) b action → action ≡ action_of o
order_becomes size b (orders.Flag uid) action knows numbered x =
    x.is ∙ ap (λ (t : Target). actions.Flag t true (keys_of (codes "\\Flagged" ∷ []))) (inbox_target size b knows uid x.target x.of)
order_becomes size b (orders.Move uid) action knows numbered x =
    x.is ∙ ap (λ (t : Target). actions.Move t (codes "Archive")) (inbox_target size b knows uid x.target x.of)
order_becomes size b (orders.Append number) action knows numbered x =
    let fits : number < 2 ^ 32 = omega (arith, numbered) in
    let id = one_id (crlf_of (message_text 97 number)) x.id (identifier number) x.has (message_id number fits) in
    x.is ∙ ap (λ (text : List ℕ). actions.Append (codes "Archive") [] text x.id) (message_kept number fits)
    ∙ ap (λ (i : List ℕ). actions.Append (codes "Archive") [] (message_text 97 number) i) id
