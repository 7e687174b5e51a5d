-- A change that breaks no rule can be made: the plain program makes it. One that can be made breaks none.
use Rattle.std.proofs.Common.{◌≡◌, ◌≢◌, ℕ, zero, suc, ◌+◌, ◌-◌, ◌<◌, ◌≤◌, ◌^◌, max, Bool, true, false, not, ◌&&◌, List, [], ◌∷◌, ◌++◌}
use Rattle.std.proofs.Common.{Option, Some, None, refl, sym, ◌∙◌, ap, subst, arith, length}
use Rattle.std.specs.Prelude.{bytes_eq, Contains, nat_le, nat_lt, is_some, ◌==◌}
use Rattle.std.specs.List.{list_any}
use Rattle.std.proofs.lemmas.Bool.{and_parts, and_from, or_from, or_parts, not-true, not_from_false, false_from_ne_true, ltb-true}
use Rattle.std.proofs.lemmas.Bool.{leb-true, lt-ltb, le-leb, eqb-true, eq-eqb}
use Rattle.imap_model.specs.Lookups.{box_at, message_at, put_message, highest_of}
use Rattle.imap_model.specs.Lawful.{has_boxes, is_free, has_free_uid, holds_message, has_message, has_next, has_room, is_plain_text, first_failed, broken_rule}
use Rattle.imap_model.specs.Lawful.{is_above, rises, rise_below, are_as_many, has_uids}
use Rattle.imap_model.specs.Changes.{IsNext, Adds, Sets, Drops, RiseBelow, Resets, Rewrites, Shifts, Effect, Changes, floor_of}
use Rattle.imap_model.specs.PlainChanges.{added, with_flags, reflagged, dropped, renewed, put_changed, with_box, message_in, moved, changed, with_change}
use Rattle.imap_model.proofs.Finding.{box_at-name, box_at-put_other}
use Rattle.imap_model.proofs.Going.{names_apart}
use Rattle.imap_model.proofs.Finding.{names_differ}
use Rattle.imap_model.proofs.Effects.{rewritten_other}
use Rattle.imap_model.proofs.Evolution.{drops_name}
use Rattle.imap_model.specs.WellFormed.{IsWellFormed}
use Rattle.imap_model.specs.declared.server.Message.{Message}
use Rattle.imap_model.specs.declared.server.Mailbox.{Mailbox}
use Rattle.imap_model.specs.declared.server.Server.{Server}
use Rattle.imap_model.specs.declared.deed.Author.{Author}
use Rattle.imap_model.specs.declared.deed.Change.{Change}
use Rattle.imap_model.specs.declared.deed.Change.TheVariants as changes

-- each of these tests holds
abbrev pub AllHold : List Bool → Type 0
AllHold [] = Unit {0}
AllHold (t ∷ ts) = (t ≡ true) × AllHold ts

first_holds : (number : ℕ) (t : Bool) (ts : List Bool) → first_failed number (t ∷ ts) ≡ None → (t ≡ true) × (first_failed (number + 1) ts ≡ None)
first_holds number true ts = λ n. (refl, n)
first_holds number false ts = λ n. absurd (cc)

pub none_failed : (number : ℕ) (tests : List Bool) → first_failed number tests ≡ None → AllHold tests
none_failed number [] n = tt
none_failed number (t ∷ ts) n = let h = first_holds number t ts n in (h.0, none_failed (number + 1) ts h.1)

pub all_hold : (number : ℕ) (tests : List Bool) → AllHold tests → first_failed number tests ≡ None
all_hold number [] h = refl
all_hold number (t ∷ ts) h = subst (λ (x : Bool). first_failed number (x ∷ ts) ≡ None) (sym h.0) (all_hold (number + 1) ts h.1)

-- the tests of a change
abbrev pub tests_of : List Mailbox → List ℕ → Change → List Bool
tests_of boxes name change =
    has_boxes boxes name change ∷ has_free_uid boxes name change ∷ has_message boxes name change ∷ has_room boxes name change
    ∷ is_plain_text change ∷ true ∷ rises boxes name change ∷ has_uids boxes name change ∷ []

-- a text without a NUL, as a test and as a fact
pub plain_test : (text : List ℕ) → (¬ (Contains text 0)) → list_any (λ byte. byte == 0) text ≡ false
plain_test [] n = refl
plain_test (b ∷ bs) n =
    or_from (b == 0) (list_any (λ byte. byte == 0) bs)
    (false_from_ne_true (b == 0) (λ t. n (0, omega arith, eqb-true b 0 t)))
    (plain_test bs (λ c. let short : c.0 < length bs = c.1 in n (suc c.0, omega arith, c.2)))

plain_step : (b : ℕ) (bs : List ℕ) → (¬ (b ≡ 0)) → (¬ (Contains bs 0)) → ¬ (Contains (b ∷ bs) 0)
plain_step b bs first later (zero, l, e) = first e
plain_step b bs first later (suc k, l, e) = later (k, omega (arith, l), e)

pub plain_fact : (text : List ℕ) → list_any (λ byte. byte == 0) text ≡ false → ¬ (Contains text 0)
plain_fact [] f = λ c. let short : c.0 < 0 = c.1 in absurd (omega arith)
plain_fact (b ∷ bs) f =
    let both = or_parts (b == 0) (list_any (λ byte. byte == 0) bs) f in
    plain_step b bs (λ e. let t : (b == 0) ≡ true = eq-eqb b 0 e in let no : (b == 0) ≡ false = both.0 in absurd (cc)) (plain_fact bs both.1)

-- what is there, there or not
found_one : {A : Type 0} (o : Option A) → is_some o ≡ true → (x : A) × (o ≡ Some x)
found_one None = λ t. absurd (cc)
found_one (Some x) = λ t. (x, refl)

is_found : {A : Type 0} (o : Option A) (x : A) → o ≡ Some x → is_some o ≡ true
is_found o x e = ap is_some e

pub next_at : (boxes : List Mailbox) (name : List ℕ) (b : Mailbox) → box_at name boxes ≡ Some b → has_next (box_at name boxes) ≡ true →
    IsNext (floor_of boxes name) b (b.highest + 1)
next_at boxes name b there room =
    let floor : floor_of boxes name ≡ b.highest = ap highest_of there in
    let less : b.highest < 2 ^ 63 - 1 = ltb-true b.highest (2 ^ 63 - 1) (sym (ap has_next there) ∙ room) in
    record { room = less; above = omega arith; fits = omega arith }

max_next : (h : ℕ) → h + 1 ≡ max h (h + 1)
max_next h = omega arith

pub adds_plain : (boxes : List Mailbox) (name : List ℕ) (flags : List (List ℕ)) (text : List ℕ) (uid : ℕ) (b : Mailbox) (floor : ℕ) →
    is_free uid (Some b) ≡ true →
    IsNext floor b (b.highest + 1) → (¬ (Contains text 0)) → Adds floor flags text uid b (added flags text uid b)
adds_plain boxes name flags text uid b floor free next plain =
    let both = and_parts (nat_le b.uidnext uid) (nat_lt uid (2 ^ 32 - 1)) free in
    let low : b.uidnext ≤ uid = leb-true b.uidnext uid both.0 in
    let high : uid < 2 ^ 32 - 1 = ltb-true uid (2 ^ 32 - 1) both.1 in
    record {
      fresh = low;
      uid_fits = high;
      plain = plain;
      modseq = b.highest + 1;
      is_next = next;
      next = uid + 1;
      beyond = omega arith;
      next_fits = omega arith;
      becomes = ap (λ (h : ℕ). record b {
        uidnext = uid + 1;
        highest = h;
        messages =
            b.messages ++ record { uid = uid; flags = flags; modseq = b.highest + 1; text = text } ∷ [];
      }) (max_next b.highest);
    }

pub sets_plain : (uid : ℕ) (flags : List (List ℕ)) (b : Mailbox) (m : Message) (floor : ℕ) → message_at uid b.messages ≡ Some m →
    IsNext floor b (b.highest + 1) → Sets floor uid flags b (reflagged uid flags b)
sets_plain uid flags b m floor there next =
    record {
      message = m;
      there = there;
      modseq = b.highest + 1;
      is_next = next;
      becomes = ap (λ (o : Option Message). with_flags flags o b) there ∙
          ap (λ (h : ℕ). record b { highest = h; messages = put_message (record m { flags = flags; modseq = b.highest + 1 }) b.messages }) (max_next b.highest);
    }

pub drops_plain : (uid : ℕ) (b : Mailbox) (m : Message) (floor : ℕ) → message_at uid b.messages ≡ Some m → IsNext floor b (b.highest + 1) →
    Drops floor uid b (dropped uid b)
drops_plain uid b m floor there next =
    record {
      message = m;
      there = there;
      modseq = b.highest + 1;
      is_next = next;
      becomes = ap (λ (h : ℕ). record (dropped uid b) { highest = h }) (max_next b.highest);
    }

-- the mailbox of the name is changed
pub rewrites_plain : (Becomes : Mailbox → Mailbox → Type 0) (f : Mailbox → Mailbox) (name : List ℕ) (boxes : List Mailbox) (b : Mailbox) →
    box_at name boxes ≡ Some b → Becomes b (f b) → Rewrites Becomes name boxes (with_box f name boxes)
rewrites_plain Becomes f name boxes b there becomes =
    record { before = b; after = f b; there = there; becomes = becomes; put = ap (λ (o : Option Mailbox). put_changed f o boxes) there }

-- a change by one of the kinds
add_possible : (name : List ℕ) (flags : List (List ℕ)) (text : List ℕ) (uid : ℕ) (boxes : List Mailbox) →
    broken_rule boxes name (changes.Add flags text uid) ≡ None →
    Effect boxes name (changes.Add flags text uid) boxes (changed name (changes.Add flags text uid) boxes)
add_possible name flags text uid boxes lawful =
    let change : Change = changes.Add flags text uid in
    let hold = none_failed 1 (tests_of boxes name change) lawful in
    let found = found_one (box_at name boxes) hold.0 in
    let free : is_free uid (Some found.0) ≡ true = sym (ap (is_free uid) found.1) ∙ hold.1.0 in
    let room : has_next (box_at name boxes) ≡ true = hold.1.1.1.0 in
    rewrites_plain (Adds (floor_of boxes name) flags text uid) (added flags text uid) name boxes found.0 found.1
    (adds_plain boxes name flags text uid found.0 (floor_of boxes name) free (next_at boxes name found.0 found.1 room)
    (plain_fact text (not-true (list_any (λ byte. byte == 0) text) hold.1.1.1.1.0)))

-- the message that a change names
names_message : (uid : ℕ) (boxes : List Mailbox) (name : List ℕ) (b : Mailbox) → box_at name boxes ≡ Some b →
    holds_message uid (box_at name boxes) ≡ true → (m : Message) × (message_at uid b.messages ≡ Some m)
names_message uid boxes name b there holds = found_one (message_at uid b.messages) (sym (ap (holds_message uid) there) ∙ holds)

set_possible : (name : List ℕ) (uid : ℕ) (flags : List (List ℕ)) (boxes : List Mailbox) → broken_rule boxes name (changes.SetFlags uid flags) ≡ None →
    Effect boxes name (changes.SetFlags uid flags) boxes (changed name (changes.SetFlags uid flags) boxes)
set_possible name uid flags boxes lawful =
    let change : Change = changes.SetFlags uid flags in
    let hold = none_failed 1 (tests_of boxes name change) lawful in
    let found = found_one (box_at name boxes) hold.0 in
    let message = names_message uid boxes name found.0 found.1 hold.1.1.0 in
    let room : has_next (box_at name boxes) ≡ true = hold.1.1.1.0 in
    rewrites_plain (Sets (floor_of boxes name) uid flags) (reflagged uid flags) name boxes found.0 found.1
    (sets_plain uid flags found.0 message.0 (floor_of boxes name) message.1 (next_at boxes name found.0 found.1 room))

drop_possible : (name : List ℕ) (uid : ℕ) (boxes : List Mailbox) → broken_rule boxes name (changes.Drop uid) ≡ None →
    Effect boxes name (changes.Drop uid) boxes (changed name (changes.Drop uid) boxes)
drop_possible name uid boxes lawful =
    let change : Change = changes.Drop uid in
    let hold = none_failed 1 (tests_of boxes name change) lawful in
    let found = found_one (box_at name boxes) hold.0 in
    let message = names_message uid boxes name found.0 found.1 hold.1.1.0 in
    let room : has_next (box_at name boxes) ≡ true = hold.1.1.1.0 in
    rewrites_plain (Drops (floor_of boxes name) uid) (dropped uid) name boxes found.0 found.1
    (drops_plain uid found.0 message.0 (floor_of boxes name) message.1 (next_at boxes name found.0 found.1 room))

-- the three facts of a shift's names
pub record ShiftNames (name to : List ℕ) (boxes : List Mailbox) : Type 0 where
  pub source : Mailbox
  pub named : box_at name boxes ≡ Some source
  pub target : Mailbox
  pub there : box_at to boxes ≡ Some target
  pub apart : to ≢ name

shift_names : (name : List ℕ) (uid : ℕ) (to : List ℕ) (new : ℕ) (boxes : List Mailbox) →
    has_boxes boxes name (changes.Shift uid to new) ≡ true → ShiftNames name to boxes
shift_names name uid to new boxes holds =
    let both = and_parts (is_some (box_at name boxes) && is_some (box_at to boxes)) (not (bytes_eq to name)) holds in
    let there = and_parts (is_some (box_at name boxes)) (is_some (box_at to boxes)) both.0 in
    let source = found_one (box_at name boxes) there.0 in
    let target = found_one (box_at to boxes) there.1 in
    record {
      source = source.0;
      named = source.1;
      target = target.0;
      there = target.1;
      apart = names_apart to name (not-true (bytes_eq to name) both.1);
    }

-- the other mailbox stays as it was while a message leaves
other_stays : (uid : ℕ) (name to : List ℕ) (boxes : List Mailbox) (n : ShiftNames name to boxes) → box_at to (with_box (dropped uid) name boxes) ≡ Some n.target
other_stays uid name to boxes n =
    let is : n.source.name ≡ name = box_at-name name boxes n.source n.named in
    ap (λ (o : Option Mailbox). box_at to (put_changed (dropped uid) o boxes)) n.named
    ∙ box_at-put_other to (dropped uid n.source) boxes (λ e. n.apart (sym e ∙ is)) ∙ n.there

shift_possible : (name : List ℕ) (uid : ℕ) (to : List ℕ) (new : ℕ) (boxes : List Mailbox) → broken_rule boxes name (changes.Shift uid to new) ≡ None →
    ((u : ℕ) (b : Mailbox) (m : Message) → box_at name boxes ≡ Some b → message_at u b.messages ≡ Some m → ¬ (Contains m.text 0)) →
    Effect boxes name (changes.Shift uid to new) boxes (changed name (changes.Shift uid to new) boxes)
shift_possible name uid to new boxes lawful plain =
    let change : Change = changes.Shift uid to new in
    let hold = none_failed 1 (tests_of boxes name change) lawful in
    let n = shift_names name uid to new boxes hold.0 in
    let message = names_message uid boxes name n.source n.named hold.1.1.0 in
    let room = and_parts (has_next (box_at name boxes)) (has_next (box_at to boxes)) hold.1.1.1.0 in
    let free : is_free new (Some n.target) ≡ true = sym (ap (is_free new) n.there) ∙ hold.1.0 in
    let middle : List Mailbox = with_box (dropped uid) name boxes in
    let m : Message = message.0 in
    record {
      apart = n.apart;
      source = n.source;
      message = m;
      named = n.named;
      there = message.1;
      middle = middle;
      leaves = rewrites_plain (Drops (floor_of boxes name) uid) (dropped uid) name boxes n.source n.named
          (drops_plain uid n.source m (floor_of boxes name) message.1 (next_at boxes name n.source n.named room.0));
      comes = subst (λ (o : Option Message). Rewrites (Adds (floor_of boxes to) m.flags m.text new) to middle (moved o to new middle))
          (sym (ap (message_in uid) n.named ∙ message.1))
          (rewrites_plain (Adds (floor_of boxes to) m.flags m.text new) (added m.flags m.text new) to middle n.target (other_stays uid name to boxes n)
          (adds_plain boxes to m.flags m.text new n.target (floor_of boxes to) free (next_at boxes to n.target n.there room.1)
          (plain uid n.source m n.named message.1)));
    }

-- a renewal
rise_fact : (from below : ℕ) (uids : List ℕ) → rise_below from below uids ≡ true → RiseBelow from below uids
rise_fact from below [] t = tt
rise_fact from below (u ∷ us) t =
    let one = and_parts (nat_le from u) (nat_lt u below && rise_below (u + 1) below us) t in
    let two = and_parts (nat_lt u below) (rise_below (u + 1) below us) one.1 in
    (leb-true from u one.0, ltb-true u below two.0, rise_fact (u + 1) below us two.1)

reset_possible : (name : List ℕ) (validity : ℕ) (uids : List ℕ) (uidnext highest : ℕ) (boxes : List Mailbox) →
    broken_rule boxes name (changes.Reset validity uids uidnext highest) ≡ None →
    Effect boxes name (changes.Reset validity uids uidnext highest) boxes (changed name (changes.Reset validity uids uidnext highest) boxes)
reset_possible name validity uids uidnext highest boxes lawful =
    let change : Change = changes.Reset validity uids uidnext highest in
    let hold = none_failed 1 (tests_of boxes name change) lawful in
    let found = found_one (box_at name boxes) hold.0 in
    let b : Mailbox = found.0 in
    let above : is_above validity (Some b) ≡ true = sym (ap (is_above validity) found.1) ∙ hold.1.1.1.1.1.1.0 in
    let uids_hold = and_parts (rise_below 1 uidnext uids) (are_as_many uids (box_at name boxes)) hold.1.1.1.1.1.1.1.0 in
    let as_many : are_as_many uids (Some b) ≡ true = sym (ap (are_as_many uids) found.1) ∙ uids_hold.1 in
    rewrites_plain (Resets validity uids uidnext highest) (renewed validity uids uidnext highest) name boxes b found.1
    (record {
      above = ltb-true b.validity validity above;
      rise = rise_fact 1 uidnext uids uids_hold.0;
      as_many = eqb-true (length uids) (length b.messages) as_many;
      becomes = refl;
    })

-- the plain program's change is one of this kind
pub plain_effect : (name : List ℕ) (change : Change) (boxes : List Mailbox) → IsWellFormed boxes → broken_rule boxes name change ≡ None →
    Effect boxes name change boxes (changed name change boxes)
plain_effect name (changes.Add flags text uid) boxes w lawful = add_possible name flags text uid boxes lawful
plain_effect name (changes.SetFlags uid flags) boxes w lawful = set_possible name uid flags boxes lawful
plain_effect name (changes.Drop uid) boxes w lawful = drop_possible name uid boxes lawful
plain_effect name (changes.Reset validity uids uidnext highest) boxes w lawful = reset_possible name validity uids uidnext highest boxes lawful
plain_effect name (changes.Shift uid to new) boxes w lawful =
    shift_possible name uid to new boxes lawful (λ u b m there here. (w.each name b there).plain u m here)

pub plain_changes : (author : Author) (name : List ℕ) (change : Change) (s : Server) → IsWellFormed s.boxes →
    broken_rule s.boxes name change ≡ None → Changes s.boxes author name change s (with_change author name change s)
plain_changes author name change s w lawful = record { effect = plain_effect name change s.boxes w lawful; history = refl }

-- the other direction
next_test : (boxes : List Mailbox) (name : List ℕ) (b : Mailbox) (floor modseq : ℕ) → box_at name boxes ≡ Some b → IsNext floor b modseq →
    has_next (box_at name boxes) ≡ true
next_test boxes name b floor modseq there n = ap has_next there ∙ lt-ltb b.highest (2 ^ 63 - 1) n.room

free_test : (boxes : List Mailbox) (name : List ℕ) (b c : Mailbox) (floor : ℕ) (flags : List (List ℕ)) (text : List ℕ) (uid : ℕ) →
    box_at name boxes ≡ Some b → Adds floor flags text uid b c → is_free uid (box_at name boxes) ≡ true
free_test boxes name b c floor flags text uid there a =
    ap (is_free uid) there ∙ and_from (nat_le b.uidnext uid) (nat_lt uid (2 ^ 32 - 1)) (le-leb b.uidnext uid a.fresh) (lt-ltb uid (2 ^ 32 - 1) a.uid_fits)

holds_test : (boxes : List Mailbox) (name : List ℕ) (b : Mailbox) (uid : ℕ) (m : Message) → box_at name boxes ≡ Some b →
    message_at uid b.messages ≡ Some m → holds_message uid (box_at name boxes) ≡ true
holds_test boxes name b uid m there here = ap (holds_message uid) there ∙ is_found (message_at uid b.messages) m here

-- a change of one mailbox breaks no rule
one_unbroken : (boxes : List Mailbox) (name : List ℕ) (b : Mailbox) (floor modseq : ℕ) (free message plain : Bool) →
    box_at name boxes ≡ Some b → IsNext floor b modseq → free ≡ true → message ≡ true → plain ≡ true →
    first_failed 1 (is_some (box_at name boxes) ∷ free ∷ message ∷ has_next (box_at name boxes) ∷ plain ∷ true ∷ true ∷ true ∷ []) ≡ None
one_unbroken boxes name b floor modseq free message plain there n f m p =
    all_hold 1 (is_some (box_at name boxes) ∷ free ∷ message ∷ has_next (box_at name boxes) ∷ plain ∷ true ∷ true ∷ true ∷ [])
    (is_found (box_at name boxes) b there, (f, (m, (next_test boxes name b floor modseq there n, (p, (refl, (refl, (refl, tt))))))))

shift_unbroken : (name : List ℕ) (uid : ℕ) (to : List ℕ) (new : ℕ) (boxes later : List Mailbox) →
    Shifts (floor_of boxes) name uid to new boxes later → broken_rule boxes name (changes.Shift uid to new) ≡ None
shift_unbroken name uid to new boxes later s =
    let target : Mailbox = s.comes.before in
    let there : box_at to boxes ≡ Some target = sym (rewritten_other (Drops (floor_of boxes name) uid) name to boxes s.middle
    (drops_name (floor_of boxes name) uid) s.apart s.leaves) ∙ s.comes.there in
    let change : Change = changes.Shift uid to new in
    all_hold 1 (tests_of boxes name change) (
      and_from (is_some (box_at name boxes) && is_some (box_at to boxes)) (not (bytes_eq to name))
          (and_from (is_some (box_at name boxes)) (is_some (box_at to boxes)) (is_found (box_at name boxes) s.source s.named)
          (is_found (box_at to boxes) target there))
          (not_from_false (bytes_eq to name) (names_differ to name s.apart)),
      (
        free_test boxes to target s.comes.after (floor_of boxes to) s.message.flags s.message.text new there s.comes.becomes,
        (
          holds_test boxes name s.source uid s.message s.named s.there,
          (
            and_from (has_next (box_at name boxes)) (has_next (box_at to boxes))
                (next_test boxes name s.leaves.before (floor_of boxes name) s.leaves.becomes.modseq s.leaves.there s.leaves.becomes.is_next)
                (next_test boxes to target (floor_of boxes to) s.comes.becomes.modseq there s.comes.becomes.is_next),
            (refl, (refl, (refl, (refl, tt)))),
          ),
        ),
      ),
    )

rise_test : (from below : ℕ) (uids : List ℕ) → RiseBelow from below uids → rise_below from below uids ≡ true
rise_test from below [] r = refl
rise_test from below (u ∷ us) r =
    and_from (nat_le from u) (nat_lt u below && rise_below (u + 1) below us) (le-leb from u r.0)
    (and_from (nat_lt u below) (rise_below (u + 1) below us) (lt-ltb u below r.1) (rise_test (u + 1) below us r.2))

reset_unbroken : (name : List ℕ) (validity : ℕ) (uids : List ℕ) (uidnext highest : ℕ) (boxes later : List Mailbox) →
    Rewrites (Resets validity uids uidnext highest) name boxes later → broken_rule boxes name (changes.Reset validity uids uidnext highest) ≡ None
reset_unbroken name validity uids uidnext highest boxes later r =
    all_hold 1 (tests_of boxes name (changes.Reset validity uids uidnext highest)) (
      is_found (box_at name boxes) r.before r.there,
      (
        refl,
        (
          refl,
          (
            refl,
            (
              refl,
              (
                refl,
                (
                  ap (is_above validity) r.there ∙ lt-ltb r.before.validity validity r.becomes.above,
                  (
                    and_from (rise_below 1 uidnext uids) (are_as_many uids (box_at name boxes)) (rise_test 1 uidnext uids r.becomes.rise)
                        (ap (are_as_many uids) r.there ∙ eq-eqb (length uids) (length r.before.messages) r.becomes.as_many),
                    tt,
                  ),
                ),
              ),
            ),
          ),
        ),
      ),
    )

effect_unbroken : (name : List ℕ) (change : Change) (boxes later : List Mailbox) → Effect boxes name change boxes later → broken_rule boxes name change ≡ None
effect_unbroken name (changes.Add flags text uid) boxes later r =
    one_unbroken boxes name r.before (floor_of boxes name) r.becomes.modseq (is_free uid (box_at name boxes)) true
    (not (list_any (λ byte. byte == 0) text)) r.there r.becomes.is_next
    (free_test boxes name r.before r.after (floor_of boxes name) flags text uid r.there r.becomes) refl
    (not_from_false (list_any (λ byte. byte == 0) text) (plain_test text r.becomes.plain))
effect_unbroken name (changes.SetFlags uid flags) boxes later r =
    one_unbroken boxes name r.before (floor_of boxes name) r.becomes.modseq true (holds_message uid (box_at name boxes)) true r.there r.becomes.is_next
    refl (holds_test boxes name r.before uid r.becomes.message r.there r.becomes.there) refl
effect_unbroken name (changes.Drop uid) boxes later r =
    one_unbroken boxes name r.before (floor_of boxes name) r.becomes.modseq true (holds_message uid (box_at name boxes)) true r.there r.becomes.is_next
    refl (holds_test boxes name r.before uid r.becomes.message r.there r.becomes.there) refl
effect_unbroken name (changes.Shift uid to new) boxes later r = shift_unbroken name uid to new boxes later r
effect_unbroken name (changes.Reset validity uids uidnext highest) boxes later r = reset_unbroken name validity uids uidnext highest boxes later r

pub possible_unbroken : (author : Author) (name : List ℕ) (change : Change) (old new : Server) →
    Changes old.boxes author name change old new → broken_rule old.boxes name change ≡ None
possible_unbroken author name change old new c = effect_unbroken name change old.boxes new.boxes c.effect
