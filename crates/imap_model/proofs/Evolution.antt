-- A server keeps well formed and evolves, at each change and at each batch.
use Rattle.std.proofs.Common.{◌≡◌, ℕ, ◌≤◌, List, Option, Some, None, refl, sym, ap, subst, arith}
use Rattle.imap_model.specs.Lookups.{message_at, gone_at}
use Rattle.imap_model.specs.Changes.{Adds, Sets, Drops, Resets, Rewrites, Shifts, Effect, Changes, floor_of, Batch}
use Rattle.imap_model.specs.Changes.Batch.{none, more}
use Rattle.imap_model.specs.WellFormed.{IsWellFormedBox, IsWellFormed}
use Rattle.imap_model.specs.Evolving.{IsAbove, GoesOn, BoxEvolves, FindsEvolved, EvolvesFrom}
use Rattle.imap_model.proofs.Rows.{rows_then}
use Rattle.imap_model.proofs.Going.{goes_same, adds_evolves, sets_evolves, drops_evolves, resets_evolves, rewrites_evolve}
use Rattle.imap_model.proofs.Forming.{adds_formed, sets_formed, drops_formed, resets_formed, rewrites_formed}
use Rattle.imap_model.specs.declared.server.Mailbox.{Mailbox}
use Rattle.imap_model.specs.declared.server.Server.{Server}
use Rattle.imap_model.specs.declared.deed.Author.{Author}
use Rattle.imap_model.specs.declared.deed.Change.{Change}
use Rattle.imap_model.specs.declared.deed.Change.TheVariants as changes

pub box_same : (floor : ℕ) (b : Mailbox) → BoxEvolves floor b b
box_same floor b = record { validity = omega arith; goes_on = λ _. goes_same floor b }

pub evolves_same : (base bs : List Mailbox) → EvolvesFrom base bs bs
evolves_same base bs = record { each = λ name b e. record { box = b; there = e; evolves = box_same (floor_of base name) b } }

stays_above : (floor : ℕ) (o p : Option ℕ) → ((k : ℕ) → o ≡ Some k → p ≡ Some k) → IsAbove floor o → IsAbove floor p
stays_above floor None p s a = absurd a
stays_above floor (Some k) p s a = subst (λ (q : Option ℕ). IsAbove floor q) (sym (s k refl)) a

pub goes_then : (floor : ℕ) (a b c : Mailbox) → IsWellFormedBox a → GoesOn floor a b → GoesOn floor b c → GoesOn floor a c
goes_then floor a b c w g h =
    let g1 : a.highest ≤ b.highest = g.highest in let g2 : a.uidnext ≤ b.uidnext = g.uidnext in
    let h1 : b.highest ≤ c.highest = h.highest in let h2 : b.uidnext ≤ c.uidnext = h.uidnext in
    record {
      highest = omega arith;
      uidnext = omega arith;
      rows = λ u. rows_then floor a.uidnext b.uidnext u (gone_at u b.gone) (gone_at u c.gone) (message_at u a.messages)
          (message_at u b.messages) (message_at u c.messages)
          g2 (w.below u) (stays_above floor (gone_at u b.gone) (gone_at u c.gone) (h.gone u)) (g.rows u) (h.rows u);
      gone = λ u k e. h.gone u k (g.gone u k e);
    }

pub box_then : (floor : ℕ) (a b c : Mailbox) → IsWellFormedBox a → BoxEvolves floor a b → BoxEvolves floor b c → BoxEvolves floor a c
box_then floor a b c w g h =
    let g1 : a.validity ≤ b.validity = g.validity in let h1 : b.validity ≤ c.validity = h.validity in
    record {
      validity = omega arith;
      goes_on = λ e. goes_then floor a b c w (g.goes_on (omega arith)) (h.goes_on (omega arith));
    }

pub evolves_then : (base a b c : List Mailbox) → IsWellFormed a → EvolvesFrom base a b → EvolvesFrom base b c → EvolvesFrom base a c
evolves_then base a b c w g h = record {
  each = λ name x e.
      let f : FindsEvolved (floor_of base name) name x b = g.each name x e in
      let k : FindsEvolved (floor_of base name) name f.box c = h.each name f.box f.there in
      record { box = k.box; there = k.there; evolves = box_then (floor_of base name) x f.box k.box (w.each name x e) f.evolves k.evolves };
}

pub adds_name : (floor : ℕ) (flags : List (List ℕ)) (text : List ℕ) (uid : ℕ) (b c : Mailbox) → Adds floor flags text uid b c → c.name ≡ b.name
adds_name floor flags text uid b c a = ap (λ (x : Mailbox). x.name) a.becomes

pub sets_name : (floor uid : ℕ) (flags : List (List ℕ)) (b c : Mailbox) → Sets floor uid flags b c → c.name ≡ b.name
sets_name floor uid flags b c a = ap (λ (x : Mailbox). x.name) a.becomes

pub drops_name : (floor uid : ℕ) (b c : Mailbox) → Drops floor uid b c → c.name ≡ b.name
drops_name floor uid b c a = ap (λ (x : Mailbox). x.name) a.becomes

resets_name : (validity : ℕ) (uids : List ℕ) (uidnext highest : ℕ) (b c : Mailbox) → Resets validity uids uidnext highest b c → c.name ≡ b.name
resets_name validity uids uidnext highest b c a = ap (λ (x : Mailbox). x.name) a.becomes

module _ (base : List Mailbox) (old new : List Mailbox) (w : IsWellFormed old) where
  pub resets_all : (name : List ℕ) (validity : ℕ) (uids : List ℕ) (uidnext highest : ℕ) → Rewrites (Resets validity uids uidnext highest) name old new →
      IsWellFormed new × EvolvesFrom base old new
  resets_all name validity uids uidnext highest r = (
    rewrites_formed (Resets validity uids uidnext highest) name old new (resets_formed validity uids uidnext highest)
        (resets_name validity uids uidnext highest) w r,
    rewrites_evolve base (Resets validity uids uidnext highest) name old new (λ b c e. resets_evolves (floor_of base name) validity uids uidnext highest b c)
        (resets_name validity uids uidnext highest) r,
  )

  pub adds_all : (name : List ℕ) (flags : List (List ℕ)) (text : List ℕ) (uid : ℕ) →
      Rewrites (Adds (floor_of base name) flags text uid) name old new → IsWellFormed new × EvolvesFrom base old new
  adds_all name flags text uid r = (
    rewrites_formed (Adds (floor_of base name) flags text uid) name old new (adds_formed (floor_of base name) flags text uid)
        (adds_name (floor_of base name) flags text uid) w r,
    rewrites_evolve base (Adds (floor_of base name) flags text uid) name old new
        (λ b c e. adds_evolves (floor_of base name) flags text uid b c) (adds_name (floor_of base name) flags text uid) r,
  )

  pub sets_all : (name : List ℕ) (uid : ℕ) (flags : List (List ℕ)) → Rewrites (Sets (floor_of base name) uid flags) name old new →
      IsWellFormed new × EvolvesFrom base old new
  sets_all name uid flags r = (
    rewrites_formed (Sets (floor_of base name) uid flags) name old new (sets_formed (floor_of base name) uid flags)
        (sets_name (floor_of base name) uid flags) w r,
    rewrites_evolve base (Sets (floor_of base name) uid flags) name old new (λ b c e. sets_evolves (floor_of base name) uid flags b c)
        (sets_name (floor_of base name) uid flags) r,
  )

  pub drops_all : (name : List ℕ) (uid : ℕ) → Rewrites (Drops (floor_of base name) uid) name old new → IsWellFormed new × EvolvesFrom base old new
  drops_all name uid r = (
    rewrites_formed (Drops (floor_of base name) uid) name old new (drops_formed (floor_of base name) uid) (drops_name (floor_of base name) uid) w r,
    rewrites_evolve base (Drops (floor_of base name) uid) name old new
        (λ b c e. drops_evolves (floor_of base name) uid b c (w.each name b e)) (drops_name (floor_of base name) uid) r,
  )

pub shifts_all : (base : List Mailbox) (name : List ℕ) (uid : ℕ) (to : List ℕ) (received : ℕ) (old new : List Mailbox) → IsWellFormed old →
    Shifts (floor_of base) name uid to received old new → IsWellFormed new × EvolvesFrom base old new
shifts_all base name uid to received old new w s =
    let leaves : IsWellFormed s.middle × EvolvesFrom base old s.middle = drops_all base old s.middle w name uid s.leaves in
    let comes : IsWellFormed new × EvolvesFrom base s.middle new = adds_all base s.middle new leaves.0 to s.message.flags s.message.text received s.comes in
    (comes.0, evolves_then base old s.middle new w leaves.1 comes.1)

pub effect_all : (base : List Mailbox) (name : List ℕ) (change : Change) (old new : List Mailbox) → IsWellFormed old →
    Effect base name change old new → IsWellFormed new × EvolvesFrom base old new
effect_all base name (changes.Add flags text uid) old new w e = adds_all base old new w name flags text uid e
effect_all base name (changes.SetFlags uid flags) old new w e = sets_all base old new w name uid flags e
effect_all base name (changes.Drop uid) old new w e = drops_all base old new w name uid e
effect_all base name (changes.Shift uid to received) old new w e = shifts_all base name uid to received old new w e
effect_all base name (changes.Reset validity uids uidnext highest) old new w e = resets_all base old new w name validity uids uidnext highest e

pub batch_all : (base : List Mailbox) (old new : Server) → Batch base old new → IsWellFormed old.boxes →
    IsWellFormed new.boxes × EvolvesFrom base old.boxes new.boxes
batch_all base old new none w = (w, evolves_same base old.boxes)
batch_all base old new (more {m = mid} name change c b) w =
    let one : IsWellFormed mid.boxes × EvolvesFrom base old.boxes mid.boxes = effect_all base name change old.boxes mid.boxes w c.effect in
    let rest : IsWellFormed new.boxes × EvolvesFrom base mid.boxes new.boxes = batch_all base mid new b one.0 in
    (rest.0, evolves_then base old.boxes mid.boxes new.boxes w one.1 rest.1)

pub changes_stay : (base : List Mailbox) (author : Author) (name : List ℕ) (change : Change) (old new : Server) → IsWellFormed old.boxes →
    Changes base author name change old new → IsWellFormed new.boxes × EvolvesFrom base old.boxes new.boxes
changes_stay base author name change old new w c = effect_all base name change old.boxes new.boxes w c.effect

pub batches_stay : (old new : Server) → IsWellFormed old.boxes → Batch old.boxes old new → IsWellFormed new.boxes × EvolvesFrom old.boxes old.boxes new.boxes
batches_stay old new w b = batch_all old.boxes old new b w
