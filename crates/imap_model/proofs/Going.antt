-- Each change lets the mailboxes go on.
use Rattle.std.proofs.Common.{◌≡◌, ◌≢◌, ◌⊎◌, inl, inr, ℕ, ◌<◌, ◌≤◌, max, true, false, List, [], ◌∷◌, ◌++◌, Option, Some, None, refl, sym, ◌∙◌, ap, subst, arith}
use Rattle.std.specs.Prelude.{bytes_eq}
use Rattle.std.proofs.lemmas.Bool.{cases_Bool}
use Rattle.std.proofs.lemmas.Option.{same_Some}
use Rattle.imap_model.specs.Lookups.{box_at, put_box, message_at, put_message, without_message, gone_at}
use Rattle.imap_model.specs.Changes.{Adds, Sets, Drops, Resets, Rewrites, floor_of}
use Rattle.imap_model.specs.WellFormed.{IsWellFormedBox}
use Rattle.imap_model.specs.Evolving.{IsAbove, GoesOn, BoxEvolves, FindsEvolved, EvolvesFrom}
use Rattle.imap_model.proofs.Finding.{same_name, names_same, box_at-name, box_at-put_same, box_at-put_other, message_at-uid, gone_at-push_old, gone_at-push_new}
use Rattle.imap_model.proofs.Rows.{row_same, rows_push, rows_put, rows_without}
use Rattle.imap_model.specs.declared.server.Message.{Message}
use Rattle.imap_model.specs.declared.server.Gone.{Gone}
use Rattle.imap_model.specs.declared.server.Mailbox.{Mailbox}

pub goes_same : (floor : ℕ) (b : Mailbox) → GoesOn floor b b
goes_same floor b = record {
  highest = omega arith;
  uidnext = omega arith;
  rows = λ uid. row_same floor b.uidnext uid (gone_at uid b.gone) (message_at uid b.messages);
  gone = λ uid k e. e;
}

-- a mailbox that another one became, with the same validity
pub along : (floor : ℕ) (old new other : Mailbox) → new ≡ other → other.validity ≡ old.validity → GoesOn floor old other → BoxEvolves floor old new
along floor old new other e v g = subst (λ (b : Mailbox). BoxEvolves floor old b) (sym e) (record { validity = omega arith; goes_on = λ _. g })

pub adds_evolves : (floor : ℕ) (flags : List (List ℕ)) (text : List ℕ) (uid : ℕ) (old new : Mailbox) → Adds floor flags text uid old new →
    BoxEvolves floor old new
adds_evolves floor flags text uid old new a =
    let m : Message = record { uid = uid; flags = flags; modseq = a.modseq; text = text } in
    let other : Mailbox = record old { uidnext = a.next; highest = max old.highest a.modseq; messages = old.messages ++ m ∷ [] } in
    let fresh : old.uidnext ≤ uid = a.fresh in
    let beyond : uid < a.next = a.beyond in
    along floor old new other a.becomes refl (record {
      highest = omega arith;
      uidnext = omega arith;
      rows = λ u. rows_push floor old.uidnext u (gone_at u old.gone) m old.messages a.fresh a.is_next.above;
      gone = λ u k e. e;
    })

pub sets_evolves : (floor uid : ℕ) (flags : List (List ℕ)) (old new : Mailbox) → Sets floor uid flags old new → BoxEvolves floor old new
sets_evolves floor uid flags old new a =
    let n : Message = record a.message { flags = flags; modseq = a.modseq } in
    let other : Mailbox = record old { highest = max old.highest a.modseq; messages = put_message n old.messages } in
    let same : a.message.uid ≡ uid = message_at-uid uid old.messages a.message a.there in
    along floor old new other a.becomes refl (record {
      highest = omega arith;
      uidnext = omega arith;
      rows = λ u. rows_put floor old.uidnext u (gone_at u old.gone) n old.messages
          (λ m e. ap (λ (x : Message). x.text) (same_Some a.message m (sym a.there ∙ subst (λ (k : ℕ). message_at k old.messages ≡ Some m) same e)))
          a.is_next.above;
      gone = λ u k e. e;
    })

pub none_of : {A : Type 0} (o : Option A) → ((x : A) → o ≡ Some x → ⊥) → o ≡ None
none_of None n = refl
none_of (Some x) n = absurd (n x refl)

-- a UID that is there isn't gone
pub not_gone : (b : Mailbox) → IsWellFormedBox b → (uid : ℕ) (m : Message) → message_at uid b.messages ≡ Some m → gone_at uid b.gone ≡ None
not_gone b w uid m e = none_of (gone_at uid b.gone) (λ k g. let a : message_at uid b.messages ≡ None = w.apart uid k g in cc)

pub drops_evolves : (floor uid : ℕ) (old new : Mailbox) → IsWellFormedBox old → Drops floor uid old new → BoxEvolves floor old new
drops_evolves floor uid old new w a =
    let g : Gone = record { uid = uid; modseq = a.modseq } in
    let other : Mailbox = record old { highest = max old.highest a.modseq; messages = without_message uid old.messages; gone = old.gone ++ g ∷ [] } in
    let went : gone_at uid (old.gone ++ g ∷ []) ≡ Some a.modseq = gone_at-push_new g old.gone (not_gone old w uid a.message a.there) in
    along floor old new other a.becomes refl (record {
      highest = omega arith;
      uidnext = omega arith;
      rows = λ u. rows_without floor old.uidnext u uid (gone_at u (old.gone ++ g ∷ [])) old.messages
          (λ e. subst (λ (k : ℕ). IsAbove floor (gone_at k (old.gone ++ g ∷ []))) e (subst (λ (o : Option ℕ). IsAbove floor o) (sym went) a.is_next.above));
      gone = λ u k e. gone_at-push_old u k g old.gone e;
    })

pub resets_evolves : (floor validity : ℕ) (uids : List ℕ) (uidnext highest : ℕ) (old new : Mailbox) → Resets validity uids uidnext highest old new →
    BoxEvolves floor old new
resets_evolves floor validity uids uidnext highest old new a =
    let v : new.validity ≡ validity = ap (λ (x : Mailbox). x.validity) a.becomes in
    let above : old.validity < validity = a.above in
    record { validity = omega arith; goes_on = λ e. absurd (omega arith) }

pub names_apart : (a b : List ℕ) → bytes_eq a b ≡ false → a ≢ b
names_apart a b f e = let t : bytes_eq a b ≡ true = names_same a b e in cc

rewritten : (base : List Mailbox) (name n : List ℕ) (old new : List Mailbox) (after b : Mailbox) → after.name ≡ name → new ≡ put_box after old →
    box_at name (put_box after old) ≡ Some after → box_at n old ≡ Some b → (n ≡ name → BoxEvolves (floor_of base name) b after) →
    (bytes_eq name n ≡ true) ⊎ (bytes_eq name n ≡ false) → FindsEvolved (floor_of base n) n b new
rewritten base name n old new after b is put found e evolves (inl t) =
    let same : n ≡ name = sym (same_name name n t) in
    record {
      box = after;
      there = subst (λ (k : List ℕ). box_at k new ≡ Some after) (sym same) (subst (λ (l : List Mailbox). box_at name l ≡ Some after) (sym put) found);
      evolves = subst (λ (k : List ℕ). BoxEvolves (floor_of base k) b after) (sym same) (evolves same);
    }
rewritten base name n old new after b is put found e evolves (inr f) =
    record {
      box = b;
      there = subst (λ (l : List Mailbox). box_at n l ≡ Some b) (sym put) (box_at-put_other n after old (λ same. names_apart name n f (sym is ∙ same)) ∙ e);
      evolves = record { validity = omega arith; goes_on = λ _. goes_same (floor_of base n) b };
    }

-- the named mailbox evolves, and the others stay
pub rewrites_evolve : (base : List Mailbox) (Becomes : Mailbox → Mailbox → Type 0) (name : List ℕ) (old new : List Mailbox) →
    ((b c : Mailbox) → box_at name old ≡ Some b → Becomes b c → BoxEvolves (floor_of base name) b c) →
    ((b c : Mailbox) → Becomes b c → c.name ≡ b.name) →
    Rewrites Becomes name old new → EvolvesFrom base old new
rewrites_evolve base Becomes name old new evolve named r =
    let is : r.after.name ≡ name = named r.before r.after r.becomes ∙ box_at-name name old r.before r.there in
    let here : box_at r.after.name old ≡ Some r.before = subst (λ (n : List ℕ). box_at n old ≡ Some r.before) (sym is) r.there in
    let found : box_at name (put_box r.after old) ≡ Some r.after =
    subst (λ (n : List ℕ). box_at n (put_box r.after old) ≡ Some r.after) is (box_at-put_same r.after old r.before here) in
    record {
      each = λ n b e. rewritten base name n old new r.after b is r.put found e
          (λ same. let was : box_at name old ≡ Some b = subst (λ (k : List ℕ). box_at k old ≡ Some b) same e in
          evolve b r.after was (subst (λ (x : Mailbox). Becomes x r.after) (same_Some r.before b (sym r.there ∙ was)) r.becomes))
          (cases_Bool (bytes_eq name n));
    }
