-- What a change that breaks no rule leaves: the mailboxes are there still, and are well formed.
use Rattle.std.proofs.Common.{◌≡◌, ℕ, true, List, Option, Some, None, refl, ap}
use Rattle.std.specs.Prelude.{is_some}
use Rattle.imap_model.specs.Lookups.{box_at}
use Rattle.imap_model.specs.Lawful.{broken_rule}
use Rattle.imap_model.specs.Changes.{receiver, Changes}
use Rattle.imap_model.specs.Evolving.{EvolvesFrom}
use Rattle.imap_model.specs.PlainChanges.{changed, with_change}
use Rattle.imap_model.specs.WellFormed.{IsWellFormed}
use Rattle.imap_model.proofs.Evolution.{effect_all}
use Rattle.imap_model.proofs.Possible.{plain_effect, plain_changes}
use Rattle.imap_model.specs.declared.deed.Author.{Author}
use Rattle.imap_model.specs.declared.deed.Change.{Change}
use Rattle.imap_model.specs.declared.deed.Change.TheVariants as changes
use Rattle.imap_model.specs.declared.server.Mailbox.{Mailbox}
use Rattle.imap_model.specs.declared.server.Server.{Server}
use Rattle.server_mem.specs.Well.{Well}
use Rattle.server_mem.proofs.Ruling.{rules_hold, both_there}
use Rattle.server_mem.proofs.Welling.{into_well, from_well}

module _ (boxes : List Mailbox) (name : List ℕ) (change : Change) (w : Well boxes) (lawful : broken_rule boxes name change ≡ None) where
  goes : IsWellFormed (changed name change boxes) × EvolvesFrom boxes boxes (changed name change boxes)
  goes = effect_all boxes name change boxes (changed name change boxes) (from_well boxes w) (plain_effect name change boxes (from_well boxes w) lawful)

  pub well_after : Well (changed name change boxes)
  well_after = into_well (changed name change boxes) goes.0

  stays : (n : List ℕ) (o : Option Mailbox) → box_at n boxes ≡ o → is_some o ≡ true → is_some (box_at n (changed name change boxes)) ≡ true
  stays n None e = λ t. absurd (cc)
  stays n (Some b) e = λ t. ap is_some (goes.1.each n b e).there

  pub named_after : is_some (box_at name boxes) ≡ true → is_some (box_at name (changed name change boxes)) ≡ true
  named_after t = stays name (box_at name boxes) refl t

  pub receiver_after : is_some (box_at (receiver name change) boxes) ≡ true → is_some (box_at (receiver name change) (changed name change boxes)) ≡ true
  receiver_after t = stays (receiver name change) (box_at (receiver name change) boxes) refl t

-- the mailboxes of a change are there
pub named_there : (boxes : List Mailbox) (name : List ℕ) (change : Change) → broken_rule boxes name change ≡ None → is_some (box_at name boxes) ≡ true
named_there boxes name (changes.Add flags text uid) lawful = (rules_hold boxes name (changes.Add flags text uid) lawful).0
named_there boxes name (changes.SetFlags uid flags) lawful = (rules_hold boxes name (changes.SetFlags uid flags) lawful).0
named_there boxes name (changes.Drop uid) lawful = (rules_hold boxes name (changes.Drop uid) lawful).0
named_there boxes name (changes.Shift uid to new) lawful = (both_there boxes name uid to new lawful).0
named_there boxes name (changes.Reset validity uids uidnext highest) lawful = (rules_hold boxes name (changes.Reset validity uids uidnext highest) lawful).0

pub receiver_there : (boxes : List Mailbox) (name : List ℕ) (change : Change) → broken_rule boxes name change ≡ None →
    is_some (box_at (receiver name change) boxes) ≡ true
receiver_there boxes name (changes.Add flags text uid) lawful = (rules_hold boxes name (changes.Add flags text uid) lawful).0
receiver_there boxes name (changes.SetFlags uid flags) lawful = (rules_hold boxes name (changes.SetFlags uid flags) lawful).0
receiver_there boxes name (changes.Drop uid) lawful = (rules_hold boxes name (changes.Drop uid) lawful).0
receiver_there boxes name (changes.Shift uid to new) lawful = (both_there boxes name uid to new lawful).1
receiver_there boxes name (changes.Reset validity uids uidnext highest) lawful = (rules_hold boxes name (changes.Reset validity uids uidnext highest) lawful).0

pub is_a_change : (author : Author) (name : List ℕ) (change : Change) (s : Server) → Well s.boxes →
    broken_rule s.boxes name change ≡ None → Changes s.boxes author name change s (with_change author name change s)
is_a_change author name change s w lawful = plain_changes author name change s (from_well s.boxes w) lawful
