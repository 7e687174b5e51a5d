-- No change that a command makes touches a UIDVALIDITY.
use Rattle.std.proofs.Common.{◌≡◌, ◌⊎◌, inl, inr, ℕ, true, false, List, sym, ◌∙◌, ap, subst}
use Rattle.std.specs.Prelude.{bytes_eq}
use Rattle.std.proofs.lemmas.Bool.{cases_Bool}
use Rattle.imap_model.specs.Lookups.{box_at, validity_of}
use Rattle.imap_model.specs.Changes.{Adds, Sets, Drops, Rewrites, Effect, floor_of}
use Rattle.imap_model.proofs.Finding.{same_name}
use Rattle.imap_model.proofs.Going.{names_apart}
use Rattle.imap_model.proofs.Evolution.{adds_name, sets_name, drops_name}
use Rattle.imap_model.proofs.Effects.{rewritten_there, rewritten_other}
use Rattle.imap_model.specs.declared.server.Mailbox.{Mailbox}
use Rattle.imap_model.specs.declared.deed.Change.TheVariants as changes

rewritten_validity : (Becomes : Mailbox → Mailbox → Type 0) (name n : List ℕ) (old new : List Mailbox) → ((b c : Mailbox) → Becomes b c → c.name ≡ b.name) →
    ((b c : Mailbox) → Becomes b c → c.validity ≡ b.validity) → Rewrites Becomes name old new → (bytes_eq name n ≡ true) ⊎ (bytes_eq name n ≡ false) →
    validity_of (box_at n new) ≡ validity_of (box_at n old)
rewritten_validity Becomes name n old new named same r (inl t) =
    subst (λ (k : List ℕ). validity_of (box_at k new) ≡ validity_of (box_at k old)) (same_name name n t)
    (ap validity_of (rewritten_there Becomes name old new named r) ∙ same r.before r.after r.becomes ∙ sym (ap validity_of r.there))
rewritten_validity Becomes name n old new named same r (inr f) =
    ap validity_of (rewritten_other Becomes name n old new named (λ s. names_apart name n f (sym s)) r)

pub added_validity : (base : List Mailbox) (name : List ℕ) (flags : List (List ℕ)) (text : List ℕ) (uid : ℕ) (old new : List Mailbox) (n : List ℕ) →
    Rewrites (Adds (floor_of base name) flags text uid) name old new → validity_of (box_at n new) ≡ validity_of (box_at n old)
added_validity base name flags text uid old new n r =
    rewritten_validity (Adds (floor_of base name) flags text uid) name n old new (adds_name (floor_of base name) flags text uid)
    (λ b c a. ap (λ (x : Mailbox). x.validity) a.becomes) r (cases_Bool (bytes_eq name n))

pub dropped_validity : (base : List Mailbox) (name : List ℕ) (uid : ℕ) (old new : List Mailbox) (n : List ℕ) →
    Rewrites (Drops (floor_of base name) uid) name old new → validity_of (box_at n new) ≡ validity_of (box_at n old)
dropped_validity base name uid old new n r =
    rewritten_validity (Drops (floor_of base name) uid) name n old new (drops_name (floor_of base name) uid)
    (λ b c a. ap (λ (x : Mailbox). x.validity) a.becomes) r (cases_Bool (bytes_eq name n))

pub set_validity : (base : List Mailbox) (name : List ℕ) (uid : ℕ) (flags : List (List ℕ)) (old new : List Mailbox) (n : List ℕ) →
    Effect base name (changes.SetFlags uid flags) old new → validity_of (box_at n new) ≡ validity_of (box_at n old)
set_validity base name uid flags old new n e =
    rewritten_validity (Sets (floor_of base name) uid flags) name n old new (sets_name (floor_of base name) uid flags)
    (λ b c a. ap (λ (x : Mailbox). x.validity) a.becomes) e (cases_Bool (bytes_eq name n))

pub shifted_validity : (base : List Mailbox) (name : List ℕ) (uid : ℕ) (to : List ℕ) (received : ℕ) (old new : List Mailbox) (n : List ℕ) →
    Effect base name (changes.Shift uid to received) old new → validity_of (box_at n new) ≡ validity_of (box_at n old)
shifted_validity base name uid to received old new n e =
    added_validity base to e.message.flags e.message.text received e.middle new n e.comes ∙ dropped_validity base name uid old e.middle n e.leaves
