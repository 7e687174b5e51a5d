-- What stands in the changed mailboxes after each change.
use Rattle.std.proofs.Common.{◌≡◌, ◌≢◌, ℕ, List, Some, sym, ◌∙◌, ap, subst}
use Rattle.imap_model.specs.Lookups.{box_at, put_box}
use Rattle.imap_model.specs.Changes.{Adds, Sets, Drops, Rewrites, Shifts}
use Rattle.imap_model.proofs.Finding.{box_at-name, box_at-put_same, box_at-put_other}
use Rattle.imap_model.proofs.Evolution.{adds_name, sets_name, drops_name}
use Rattle.imap_model.specs.declared.server.Mailbox.{Mailbox}

pub rewritten_there : (Becomes : Mailbox → Mailbox → Type 0) (name : List ℕ) (old new : List Mailbox) → ((b c : Mailbox) → Becomes b c → c.name ≡ b.name) →
    (r : Rewrites Becomes name old new) → box_at name new ≡ Some r.after
rewritten_there Becomes name old new named r =
    let is : r.after.name ≡ name = named r.before r.after r.becomes ∙ box_at-name name old r.before r.there in
    let here : box_at r.after.name old ≡ Some r.before = subst (λ (n : List ℕ). box_at n old ≡ Some r.before) (sym is) r.there in
    subst (λ (l : List Mailbox). box_at name l ≡ Some r.after) (sym r.put)
    (subst (λ (n : List ℕ). box_at n (put_box r.after old) ≡ Some r.after) is (box_at-put_same r.after old r.before here))

pub rewritten_other : (Becomes : Mailbox → Mailbox → Type 0) (name n : List ℕ) (old new : List Mailbox) → ((b c : Mailbox) → Becomes b c → c.name ≡ b.name) →
    n ≢ name → Rewrites Becomes name old new → box_at n new ≡ box_at n old
rewritten_other Becomes name n old new named apart r =
    let is : r.after.name ≡ name = named r.before r.after r.becomes ∙ box_at-name name old r.before r.there in
    ap (box_at n) r.put ∙ box_at-put_other n r.after old (λ e. apart (sym e ∙ is))

pub added_there : (floor : ℕ) (flags : List (List ℕ)) (text : List ℕ) (uid : ℕ) (name : List ℕ) (old new : List Mailbox)
    (r : Rewrites (Adds floor flags text uid) name old new) → box_at name new ≡ Some r.after
added_there floor flags text uid name old new r = rewritten_there (Adds floor flags text uid) name old new (adds_name floor flags text uid) r

pub set_there : (floor uid : ℕ) (flags : List (List ℕ)) (name : List ℕ) (old new : List Mailbox)
    (r : Rewrites (Sets floor uid flags) name old new) → box_at name new ≡ Some r.after
set_there floor uid flags name old new r = rewritten_there (Sets floor uid flags) name old new (sets_name floor uid flags) r

pub dropped_there : (floor uid : ℕ) (name : List ℕ) (old new : List Mailbox) (r : Rewrites (Drops floor uid) name old new) → box_at name new ≡ Some r.after
dropped_there floor uid name old new r = rewritten_there (Drops floor uid) name old new (drops_name floor uid) r

-- the mailbox that a message left
pub left_there : (floor : List ℕ → ℕ) (name : List ℕ) (uid : ℕ) (to : List ℕ) (received : ℕ) (old new : List Mailbox)
    (s : Shifts floor name uid to received old new) → box_at name new ≡ Some s.leaves.after
left_there floor name uid to received old new s =
    rewritten_other (Adds (floor to) s.message.flags s.message.text received) to name s.middle new
    (adds_name (floor to) s.message.flags s.message.text received) (λ e. s.apart (sym e)) s.comes
    ∙ rewritten_there (Drops (floor name) uid) name old s.middle (drops_name (floor name) uid) s.leaves
