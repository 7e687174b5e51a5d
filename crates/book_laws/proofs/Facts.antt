-- What an intent and a cache say of a mailbox stays true as it goes on.
use Rattle.std.proofs.Common.{◌≡◌, ◌⊎◌, inl, inr, ℕ, ◌<◌, ◌≤◌, List, Option, Some, None, refl, sym, ◌∙◌, ap, subst, arith}
use Rattle.std.proofs.lemmas.Option.{same_Some}
use Rattle.imap_model.specs.Lookups.{box_at, message_at, gone_at, highest_of, validity_of}
use Rattle.imap_model.specs.Changes.{floor_of}
use Rattle.imap_model.specs.Evolving.{RowStep, GoesOn, FindsEvolved, EvolvesFrom}
use Rattle.imap_model.specs.declared.server.Message.{Message}
use Rattle.imap_model.specs.declared.server.Mailbox.{Mailbox}
use Rattle.imap_model.specs.declared.deed.Deed.{Deed}
use Rattle.qresync_core.specs.Fresh.{FreshFacts}
use Rattle.qresync_core.proofs.Leveling.{facts_later}
use Rattle.action_queue.specs.Book.{Meaning, learned}
use Rattle.mailbox_cache.specs.declared.cache.Cache.{Cache}
use Rattle.mailbox_cache.specs.declared.delta.Delta.{Delta}
use Rattle.append_probe.specs.Marked.{at_least, marked}
use Rattle.book_laws.specs.InBox.{InBox, InBoxNow}
use Rattle.book_laws.specs.Open.{RowAbove, StoreFacts, ShiftFacts, some_of, PutFacts}
use Rattle.book_laws.specs.Fresh.{Fresh}
use Rattle.book_laws.specs.Polite.{has_validity}

above_same : (modseq floor : ℕ) (x m : Message) → modseq ≤ floor → modseq < x.modseq → (m ≡ x) ⊎ (floor < m.modseq) → modseq < m.modseq
above_same modseq floor x m l a (inl e) = subst (λ (y : Message). modseq < y.modseq) (sym e) a
above_same modseq floor x m l a (inr h) = omega arith

-- a row that passed a mod-sequence stays above it, or goes
above_goes : (modseq floor next uid : ℕ) (went : Option ℕ) (o p : Option Message) → modseq ≤ floor → uid < next → RowAbove modseq o →
    RowStep floor next uid went o p → RowAbove modseq p
above_goes modseq floor next uid went None None l b a s = tt
above_goes modseq floor next uid went None (Some m) l b a s = absurd (omega (arith, s.0))
above_goes modseq floor next uid went (Some x) None l b a s = tt
above_goes modseq floor next uid went (Some x) (Some m) l b a s = above_same modseq floor x m l a s.1

none_goes : (floor next uid : ℕ) (went : Option ℕ) (p : Option Message) → uid < next → RowStep floor next uid went None p → p ≡ None
none_goes floor next uid went None b s = refl
none_goes floor next uid went (Some m) b s = absurd (omega (arith, s.0))

pub store_goes : (uid modseq : ℕ) (mine : List Deed) (b c : Mailbox) → GoesOn b.highest b c → StoreFacts uid modseq mine b → StoreFacts uid modseq mine c
store_goes uid modseq mine b c g f =
    let h : b.highest ≤ c.highest = g.highest in let n : b.uidnext ≤ c.uidnext = g.uidnext in
    let fh : modseq ≤ b.highest = f.highest in let fb : uid < b.uidnext = f.below in
    record {
      highest = omega arith;
      below = omega arith;
      passed = λ some.
          above_goes modseq b.highest b.uidnext uid (gone_at uid c.gone) (message_at uid b.messages) (message_at uid c.messages) f.highest f.below
          (f.passed some) (g.rows uid);
    }

pub shift_goes : (uid : ℕ) (mine : List Deed) (b c : Mailbox) → GoesOn b.highest b c → ShiftFacts uid mine b → ShiftFacts uid mine c
shift_goes uid mine b c g f =
    let n : b.uidnext ≤ c.uidnext = g.uidnext in let fb : uid < b.uidnext = f.below in
    record {
      below = omega arith;
      left = λ some. none_goes b.highest b.uidnext uid (gone_at uid c.gone) (message_at uid c.messages) f.below
          (subst (λ (o : Option Message). RowStep b.highest b.uidnext uid (gone_at uid c.gone) o (message_at uid c.messages)) (f.left some) (g.rows uid));
    }

pub put_goes : (id : List ℕ) (uidnext validity : ℕ) (mine : List Deed) (b c : Mailbox) → GoesOn b.highest b c →
    marked id c.messages ≡ marked id b.messages → PutFacts id uidnext validity mine b → PutFacts id uidnext validity mine c
put_goes id uidnext validity mine b c g same f =
    let n : b.uidnext ≤ c.uidnext = g.uidnext in let r : uidnext ≤ b.uidnext = f.reached in
    record {
      reached = omega arith;
      found = ap (λ (l : List ℕ). some_of (at_least uidnext l)) same ∙ f.found;
      received = f.received;
    }

-- what is so now is so of a book
pub now_in : {Facts : Mailbox → Type 0} {name : List ℕ} {validity : ℕ} {boxes : List Mailbox} → InBoxNow Facts name validity boxes →
    InBox Facts name validity boxes
now_in {validity = validity} i =
    let v : i.box.validity ≡ validity = i.same in record { box = i.box; there = i.there; not_below = omega arith; facts = λ _. i.facts }

-- what a book says is so now, where the mailbox has the UIDVALIDITY
pub of_under : {Facts : Mailbox → Type 0} {name : List ℕ} {validity : ℕ} {boxes : List Mailbox} →
    InBoxNow (λ _. Unit {0}) name validity boxes → InBox Facts name validity boxes → InBoxNow Facts name validity boxes
of_under {validity = validity} u i =
    let v : i.box.validity ≡ validity = ap (λ (m : Mailbox). m.validity) (same_Some i.box u.box (sym i.there ∙ u.there)) ∙ u.same in
    record { box = i.box; there = i.there; same = v; facts = i.facts v }

-- Facts of a mailbox stay while the server evolves, if they stay as the mailbox goes on.
pub box_evolves : (Facts : Mailbox → Type 0) (name : List ℕ) (validity : ℕ) (old new : List Mailbox) → EvolvesFrom old old new →
    ((b c : Mailbox) → box_at name old ≡ Some b → box_at name new ≡ Some c → c.validity ≡ b.validity → GoesOn b.highest b c → Facts b → Facts c) →
    InBox Facts name validity old → InBox Facts name validity new
box_evolves Facts name validity old new ev stays i =
    let f : FindsEvolved (floor_of old name) name i.box new = ev.each name i.box i.there in
    let not_below : validity ≤ i.box.validity = i.not_below in
    let rises : i.box.validity ≤ f.box.validity = f.evolves.validity in
    let floor : floor_of old name ≡ i.box.highest = ap highest_of i.there in
    record {
      box = f.box;
      there = f.there;
      not_below = omega arith;
      facts = λ e.
          let was : i.box.validity ≡ validity = omega arith in
          let same : f.box.validity ≡ i.box.validity = omega arith in
          stays i.box f.box i.there f.there same (subst (λ (k : ℕ). GoesOn k i.box f.box) floor (f.evolves.goes_on same)) (i.facts was);
    }

-- a mailbox that keeps its UIDVALIDITY is under it still
pub under_keeps : {name : List ℕ} {validity : ℕ} {old new : List Mailbox} → EvolvesFrom old old new →
    validity_of (box_at name new) ≡ validity_of (box_at name old) →
    InBoxNow (λ _. Unit {0}) name validity old → InBoxNow (λ _. Unit {0}) name validity new
under_keeps {name = name} {old = old} {new = new} ev v u =
    let f : FindsEvolved (floor_of old name) name u.box new = ev.each name u.box u.there in
    record { box = f.box; there = f.there; same = sym (ap validity_of f.there) ∙ v ∙ ap validity_of u.there ∙ u.same; facts = tt }

-- so it is where that alone is known
under_found : (name : List ℕ) (validity : ℕ) (boxes : List Mailbox) (o : Option Mailbox) → box_at name boxes ≡ o → has_validity o ≡ Some validity →
    InBoxNow (λ _. Unit {0}) name validity boxes
under_found name validity boxes None e = λ h. absurd (cc)
under_found name validity boxes (Some box) e = λ h. record { box = box; there = e; same = same_Some box.validity validity h; facts = tt }

pub under_kept : (name : List ℕ) (validity : ℕ) (old new : List Mailbox) → has_validity (box_at name new) ≡ has_validity (box_at name old) →
    InBoxNow (λ _. Unit {0}) name validity old → InBoxNow (λ _. Unit {0}) name validity new
under_kept name validity old new v u =
    under_found name validity new (box_at name new) refl (v ∙ ap has_validity u.there ∙ ap (λ (k : ℕ). Some k) u.same)

-- A mailbox that has a UIDVALIDITY at both ends has it in between.
pub squeezed : (name : List ℕ) {old mid new : List Mailbox} → EvolvesFrom old old mid → EvolvesFrom mid mid new →
    (x m y : Mailbox) → box_at name old ≡ Some x → box_at name mid ≡ Some m → box_at name new ≡ Some y → y.validity ≡ x.validity →
    m.validity ≡ x.validity
squeezed name {old = old} {mid = mid} {new = new} g h x m y a c e same =
    let f : FindsEvolved (floor_of old name) name x mid = g.each name x a in
    let k : FindsEvolved (floor_of mid name) name m new = h.each name m c in
    let f_is : f.box ≡ m = same_Some f.box m (sym f.there ∙ c) in
    let k_is : k.box ≡ y = same_Some k.box y (sym k.there ∙ e) in
    let one : x.validity ≤ m.validity = subst (λ (z : Mailbox). x.validity ≤ z.validity) f_is f.evolves.validity in
    let two : m.validity ≤ y.validity = subst (λ (z : Mailbox). m.validity ≤ z.validity) k_is k.evolves.validity in
    omega arith

-- each fresh cache stays so
pub fresh_evolves : (b : Meaning) (old new : List Mailbox) → EvolvesFrom old old new → Fresh b old → Fresh b new
fresh_evolves b old new ev fresh = λ name cache e.
    box_evolves (FreshFacts cache) name cache.validity old new ev (λ x y f g w goes facts. facts_later cache x y facts goes) (fresh name cache e)

-- a learned cache has the delta's UIDVALIDITY
pub learned_validity : (cache : Option Cache) (delta : Delta) → (learned cache delta).validity ≡ delta.validity
learned_validity None delta = refl
learned_validity (Some cache) delta = refl
