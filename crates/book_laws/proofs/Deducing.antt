-- What may be concluded from a reply about an earlier moment.
use Rattle.std.proofs.Common.{◌≡◌, ◌⊎◌, inl, inr, ℕ, ◌<◌, ◌≤◌, leb, eqb, List, [], ◌∷◌, Option, Some, None, refl, sym, ◌∙◌, ap, subst, arith}
use Rattle.std.proofs.lemmas.Bool.{cond_both, cond-true, cond-false, lt-leb, eq-eqb}
use Rattle.std.proofs.lemmas.Option.{same_Some}
use Rattle.imap_model.specs.Lookups.{message_at, gone_at, highest_of}
use Rattle.imap_model.specs.WellFormed.{IsWellFormedBox, IsWellFormed}
use Rattle.imap_model.specs.Changes.{floor_of, Batch}
use Rattle.imap_model.specs.Evolving.{RowStep, GoesOn, FindsEvolved}
use Rattle.imap_model.proofs.Rows.{above_lower}
use Rattle.imap_model.proofs.Forming.{tail_below}
use Rattle.imap_model.proofs.Evolution.{goes_then, batches_stay}
use Rattle.imap_model.specs.declared.server.Message.{Message}
use Rattle.imap_model.specs.declared.server.Mailbox.{Mailbox}
use Rattle.imap_model.specs.declared.server.Server.{Server}
use Rattle.imap_model.specs.declared.deed.Deed.{Deed}
use Rattle.action_queue.specs.declared.outcome.Outcome.TheVariants as outcomes
use Rattle.append_probe.specs.Marked.{at_least, has_id, marked}
use Rattle.book_laws.specs.Once.{Fits, new_uid}
use Rattle.book_laws.specs.Open.{RowAbove, StoreFacts, ShiftFacts, given, some_of, PutFacts}
use Rattle.book_laws.specs.Past.{Later, OneBox}
use Rattle.book_laws.proofs.Deeds.{batch_ours}
use Rattle.book_laws.proofs.Facts.{store_goes, shift_goes, put_goes}

either_lower : (low high : ℕ) (x m : Message) → low ≤ high → (m ≡ x) ⊎ (high < m.modseq) → (m ≡ x) ⊎ (low < m.modseq)
either_lower low high x m l (inl e) = inl e
either_lower low high x m l (inr h) = inr (omega arith)

-- a lower floor
row_lower : (low high next uid : ℕ) (went : Option ℕ) (o p : Option Message) → low ≤ high → RowStep high next uid went o p → RowStep low next uid went o p
row_lower low high next uid went None None l s = tt
row_lower low high next uid went None (Some m) l s = (s.0, omega (arith, s.1))
row_lower low high next uid went (Some x) None l s = above_lower low high went l s
row_lower low high next uid went (Some x) (Some m) l s = (s.0, either_lower low high x m l s.1)

goes_lower : (low high : ℕ) (a b : Mailbox) → low ≤ high → GoesOn high a b → GoesOn low a b
goes_lower low high a b l g = record {
  highest = g.highest;
  uidnext = g.uidnext;
  rows = λ u. row_lower low high a.uidnext u (gone_at u b.gone) (message_at u a.messages) (message_at u b.messages) l (g.rows u);
  gone = g.gone;
}

-- later and later
pub later_then : (n : ℕ) (a b c : Server) → IsWellFormed a.boxes → Later n a b → Later n b c → Later n a c
later_then n a b c w g h = record {
  evolves = record {
    each = λ name x e.
        let f : FindsEvolved (floor_of a.boxes name) name x b.boxes = g.evolves.each name x e in
        let k : FindsEvolved (floor_of b.boxes name) name f.box c.boxes = h.evolves.each name f.box f.there in
        let v1 : x.validity ≤ f.box.validity = f.evolves.validity in let v2 : f.box.validity ≤ k.box.validity = k.evolves.validity in
        let fa : floor_of a.boxes name ≡ x.highest = ap highest_of e in
        let fb : floor_of b.boxes name ≡ f.box.highest = ap highest_of f.there in
        record {
          box = k.box;
          there = k.there;
          evolves = record {
            validity = omega arith;
            goes_on = λ same.
                let one : GoesOn (floor_of a.boxes name) x f.box = f.evolves.goes_on (omega arith) in
                let two : GoesOn (floor_of b.boxes name) f.box k.box = k.evolves.goes_on (omega arith) in
                let rises : x.highest ≤ f.box.highest = one.highest in
                goes_then (floor_of a.boxes name) x f.box k.box (w.each name x e) one
                (goes_lower (floor_of a.boxes name) (floor_of b.boxes name) f.box k.box (omega arith) two);
          };
        };
  };
  ours = h.ours ∙ g.ours;
}

pub foreign_later : (n : ℕ) (s t : Server) → IsWellFormed s.boxes → Batch s.boxes s t → Later n s t
foreign_later n s t w f = record { evolves = (batches_stay s t w f).1; ours = batch_ours n s.boxes s t f }

-- a mailbox under one validity went on
pub one_goes : (n : ℕ) (name : List ℕ) (validity : ℕ) (old new : Server) → Later n old new → (o : OneBox name validity old new) →
    GoesOn o.was.highest o.was o.box
one_goes n name validity old new l o =
    let f : FindsEvolved (floor_of old.boxes name) name o.was new.boxes = l.evolves.each name o.was o.there in
    let is : f.box ≡ o.box = same_Some f.box o.box (sym f.there ∙ o.here) in
    let same : f.box.validity ≡ o.was.validity = ap (λ (x : Mailbox). x.validity) is ∙ o.validity_is ∙ sym o.was_validity in
    subst (λ (x : Mailbox). GoesOn o.was.highest o.was x) is
    (subst (λ (k : ℕ). GoesOn k o.was f.box) (ap highest_of o.there) (f.evolves.goes_on same))

-- a row that was told makes an intent
pub store_intends : (uid : ℕ) (m : Message) (b c : Mailbox) → IsWellFormedBox b → message_at uid b.messages ≡ Some m → GoesOn b.highest b c →
    StoreFacts uid m.modseq [] c
store_intends uid m b c w e g =
    store_goes uid m.modseq [] b c g (record { highest = w.numbered uid m e; below = w.below uid m e; passed = λ n. absurd (n refl) })

pub shift_intends : (uid : ℕ) (m : Message) (b c : Mailbox) → IsWellFormedBox b → message_at uid b.messages ≡ Some m → GoesOn b.highest b c →
    ShiftFacts uid [] c
shift_intends uid m b c w e g = shift_goes uid [] b c g (record { below = w.below uid m e; left = λ n. absurd (n refl) })

-- below UIDNEXT nothing is at UIDNEXT or above
none_least : (low : ℕ) (id : List ℕ) (ms : List Message) → ((u : ℕ) (m : Message) → message_at u ms ≡ Some m → u < low) → at_least low (marked id ms) ≡ []
none_least low id [] below = refl
none_least low id (x ∷ xs) below =
    let b : x.uid < low = below x.uid x (cond-true (eqb x.uid x.uid) (Some x) (message_at x.uid xs) (eq-eqb x.uid x.uid refl)) in
    let rest : at_least low (marked id xs) ≡ [] = none_least low id xs (tail_below low x xs below) in
    cond_both (has_id id x.text) (x.uid ∷ marked id xs) (marked id xs) (λ (l : List ℕ). at_least low l ≡ [])
    (λ t. cond-false (leb low x.uid) (x.uid ∷ at_least low (marked id xs)) (at_least low (marked id xs)) (lt-leb low x.uid b) ∙ rest)
    (λ f. rest)

pub put_intends : (id : List ℕ) (validity : ℕ) (b c : Mailbox) → IsWellFormedBox b → GoesOn b.highest b c →
    marked id c.messages ≡ marked id b.messages → PutFacts id b.uidnext validity [] c
put_intends id validity b c w g same = put_goes id b.uidnext validity [] b c g same (record {
  reached = omega arith;
  found = ap some_of (none_least b.uidnext id b.messages w.below);
  received = tt;
})

-- an open intent may be sent again
pub store_again : (uid modseq : ℕ) (mine : List Deed) (m : Message) (b : Mailbox) → StoreFacts uid modseq mine b →
    message_at uid b.messages ≡ Some m → m.modseq ≡ modseq → mine ≡ []
store_again uid modseq [] m b f e same = refl
store_again uid modseq (d ∷ ds) m b f e same =
    let a : modseq < m.modseq = subst (λ (o : Option Message). RowAbove modseq o) e (f.passed (λ n. absurd (cc))) in
    absurd (omega arith)

pub shift_again : (uid : ℕ) (mine : List Deed) (m : Message) (b : Mailbox) → ShiftFacts uid mine b → message_at uid b.messages ≡ Some m → mine ≡ []
shift_again uid [] m b f e = refl
shift_again uid (d ∷ ds) m b f e = let n : message_at uid b.messages ≡ None = f.left (λ n. absurd (cc)) in absurd (cc)

pub put_again : (id : List ℕ) (uidnext validity : ℕ) (mine : List Deed) (b : Mailbox) → PutFacts id uidnext validity mine b →
    at_least uidnext (marked id b.messages) ≡ [] → mine ≡ []
put_again id uidnext validity [] b f e = refl
put_again id uidnext validity (d ∷ ds) b f e = let h : some_of [] ≡ given (d ∷ ds) = ap some_of (sym e) ∙ f.found in absurd (cc)

-- the one message that the probe finds is the append's
pub put_found : (id : List ℕ) (uidnext validity uid : ℕ) (mine : List Deed) (b : Mailbox) → PutFacts id uidnext validity mine b →
    at_least uidnext (marked id b.messages) ≡ uid ∷ [] →
    Fits (outcomes.Done (Some (record { validity = validity; uid = uid }))) mine
put_found id uidnext validity uid [] b f e = let h : some_of (uid ∷ []) ≡ given [] = ap some_of (sym e) ∙ f.found in absurd (cc)
put_found id uidnext validity uid (d ∷ []) b f e =
    let h : some_of (uid ∷ []) ≡ given (d ∷ []) = ap some_of (sym e) ∙ f.found in
    let k : Some uid ≡ new_uid d.change = cc in (sym f.received.0, sym k)
put_found id uidnext validity uid (d ∷ x ∷ ds) b f e = let h : some_of (uid ∷ []) ≡ given (d ∷ x ∷ ds) = ap some_of (sym e) ∙ f.found in absurd (cc)
