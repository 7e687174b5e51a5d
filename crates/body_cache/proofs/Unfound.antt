-- How a reading ends whose message has no key.
use Rattle.std.proofs.Common.{◌≡◌, ◌≤◌, inl, ℕ, List, Option, None, Result, Err, refl, sym, ◌∙◌, ap, arith}
use Rattle.std.specs.Prelude.{option_map}
use Rattle.mail_base.specs.Account.{Credentials}
use Rattle.mail_base.specs.declared.status.Status.{Status}
use Rattle.mail_base.specs.declared.status.Status.TheVariants as status
use Rattle.world_traits.specs.Calls.{Rose}
use Rattle.world_traits.specs.LinkState.{LinkState}
use Rattle.world_traits.specs.declared.clocked.Clocked.{Ghosts}
use Rattle.mail_top.specs.Causing.{HasCauses}
use Rattle.mail_top.specs.Course.{Course}
use Rattle.mail_top.specs.Showing.{IsOfReading}
use Rattle.mail_top.specs.declared.refusal.Refusal.{Refusal}
use Rattle.mail_top.specs.declared.refusal.Refusal.TheVariants as refusals
use Rattle.body_cache.specs.Causing.{HasShelfCause}
use Rattle.body_cache.specs.Ending.{EndsFetch, EndsShow, OnJournal, Shelving, Untouched}
use Rattle.body_cache.specs.Finding.{ComesOfFinding, NotFound}
use Rattle.body_cache.specs.Telling.{of_get, status_of_unread, text_of_unread}
use Rattle.body_cache.specs.declared.refused.ReadFault.{ReadFault}
use Rattle.body_cache.specs.declared.refused.ReadFault.TheVariants as faults
use Rattle.body_cache.specs.declared.shelf.GetFault.{GetFault}
use Rattle.body_cache.specs.declared.shelf.GetFault.TheVariants as gets
use Rattle.body_cache.specs.declared.shelf.Shelf.{Ghosts as ShelfGhosts}

-- the journal alone was looked at
module _ (k : Course) (v : Shelving) (link : k.link_after ≡ k.link) (outside : k.new.now.outside ≡ k.old.now.outside) (untouched : Untouched v) where
  pub on_journal : (Says : Type 0) → Says → OnJournal k v Says
  on_journal Says says = record { on_files = record { link = link; outside = outside; says = says }; untouched = untouched }

  module _ (name : List ℕ) (uid : ℕ) where
    pub unfound_show : (fault : ReadFault) → NotFound name uid k fault → EndsShow name uid k v (status_of_unread fault) (text_of_unread fault)
    unfound_show (faults.Refused (refusals.NotAJournal why)) n = on_journal _ n
    unfound_show (faults.Refused refusals.Memory) n = record { untouched = untouched; text_is = refl }
    unfound_show (faults.Refused refusals.Disk) n = on_journal _ n
    unfound_show (faults.Refused refusals.Input) n = absurd n
    unfound_show (faults.Refused refusals.Already) n = absurd n
    unfound_show (faults.Refused (refusals.Reason reason)) n = absurd n
    unfound_show (faults.Refused refusals.Actions) n = absurd n
    unfound_show (faults.Refused (refusals.Full end)) n = absurd n
    unfound_show (faults.Refused refusals.Generation) n = absurd n
    unfound_show (faults.Reason reason) n = inl (on_journal _ (record { reason = reason; finds = n; text_is = refl }))
    unfound_show (faults.Stopped fault) n = absurd n
    unfound_show (faults.Renewed line) n = absurd n
    unfound_show faults.Shelf n = absurd n

    pub unfound_fetch : (account : Credentials) (fault : ReadFault) → NotFound name uid k fault →
        EndsFetch account name uid k v (status_of_unread fault) (text_of_unread fault)
    unfound_fetch account (faults.Refused (refusals.NotAJournal why)) n = on_journal _ n
    unfound_fetch account (faults.Refused refusals.Memory) n = record { untouched = untouched; text_is = refl }
    unfound_fetch account (faults.Refused refusals.Disk) n = on_journal _ n
    unfound_fetch account (faults.Refused refusals.Input) n = absurd n
    unfound_fetch account (faults.Refused refusals.Already) n = absurd n
    unfound_fetch account (faults.Refused (refusals.Reason reason)) n = absurd n
    unfound_fetch account (faults.Refused refusals.Actions) n = absurd n
    unfound_fetch account (faults.Refused (refusals.Full end)) n = absurd n
    unfound_fetch account (faults.Refused refusals.Generation) n = absurd n
    unfound_fetch account (faults.Reason reason) n = inl (on_journal _ (record { reason = reason; finds = n; text_is = refl }))
    unfound_fetch account (faults.Stopped fault) n = absurd n
    unfound_fetch account (faults.Renewed line) n = absurd n
    unfound_fetch account faults.Shelf n = absurd n

-- a fault of looking for a key blames no link and no shelf, and the disk by one refusal
refusal_disk : (x : Refusal) → IsOfReading x → status_of_unread (faults.Refused x) ≡ status.Disk → x ≡ refusals.Disk
refusal_disk refusals.Disk of is = refl
refusal_disk refusals.Memory of is = absurd cc
refusal_disk (refusals.NotAJournal why) of is = absurd cc
refusal_disk refusals.Input of is = absurd of
refusal_disk refusals.Already of is = absurd of
refusal_disk (refusals.Reason reason) of is = absurd of
refusal_disk refusals.Actions of is = absurd of
refusal_disk (refusals.Full end) of is = absurd of
refusal_disk refusals.Generation of is = absurd of

refusal_link : (x : Refusal) → status_of_unread (faults.Refused x) ≡ status.Link → ⊥
refusal_link refusals.Disk is = cc
refusal_link refusals.Memory is = cc
refusal_link (refusals.NotAJournal why) is = cc
refusal_link refusals.Input is = cc
refusal_link refusals.Already is = cc
refusal_link (refusals.Reason reason) is = cc
refusal_link refusals.Actions is = cc
refusal_link (refusals.Full end) is = cc
refusal_link refusals.Generation is = cc

refusal_shelf : (x : Refusal) → status_of_unread (faults.Refused x) ≡ status.Shelf → ⊥
refusal_shelf refusals.Disk is = cc
refusal_shelf refusals.Memory is = cc
refusal_shelf (refusals.NotAJournal why) is = cc
refusal_shelf refusals.Input is = cc
refusal_shelf refusals.Already is = cc
refusal_shelf (refusals.Reason reason) is = cc
refusal_shelf refusals.Actions is = cc
refusal_shelf (refusals.Full end) is = cc
refusal_shelf refusals.Generation is = cc

pub unfound_disk : (fault : ReadFault) → ComesOfFinding fault → status_of_unread fault ≡ status.Disk → fault ≡ faults.Refused refusals.Disk
unfound_disk (faults.Refused x) comes is = ap faults.Refused (refusal_disk x comes is)
unfound_disk (faults.Reason reason) comes is = absurd cc
unfound_disk (faults.Stopped fault) comes is = absurd comes
unfound_disk (faults.Renewed line) comes is = absurd comes
unfound_disk faults.Shelf comes is = absurd comes

pub unfound_link : (fault : ReadFault) → ComesOfFinding fault → status_of_unread fault ≡ status.Link → ⊥
unfound_link (faults.Refused x) comes is = refusal_link x is
unfound_link (faults.Reason reason) comes is = cc
unfound_link (faults.Stopped fault) comes is = comes
unfound_link (faults.Renewed line) comes is = comes
unfound_link faults.Shelf comes is = comes

pub unfound_shelf : (fault : ReadFault) → ComesOfFinding fault → status_of_unread fault ≡ status.Shelf → ⊥
unfound_shelf (faults.Refused x) comes is = refusal_shelf x is
unfound_shelf (faults.Reason reason) comes is = cc
unfound_shelf (faults.Stopped fault) comes is = comes
unfound_shelf (faults.Renewed line) comes is = comes
unfound_shelf faults.Shelf comes is = comes

-- a link that stayed has as many faults
pub same_faults : (k l : LinkState) → l ≡ k → k.faults ≤ l.faults
same_faults k l same = let count : l.faults ≡ k.faults = ap (λ (s : LinkState). s.faults) same in omega (arith, count)

-- The causes of a reading up to the looking for a key, and of what comes behind it with the journal alone: the disk is blamed as the finding says.
pub journal_causes : {Self : Type 0} (W : Ghosts Self) (old new : Self) (s : Status) → (s ≡ status.Disk → Rose (W.disk_faults old) (W.disk_faults new)) →
    ((s ≡ status.Disk → ⊥) → W.disk_faults new ≡ W.disk_faults old) → (s ≡ status.Link → ⊥) → W.disk_faults old ≤ W.disk_faults new →
    W.link new ≡ W.link old → HasCauses W old new s
journal_causes W old new s cause unfailed no_link count link = record {
  disk = cause;
  link_fault = λ is. absurd (no_link is);
  count = count;
  link_count = same_faults (W.link old) (W.link new) link;
  disk_unfailed = unfailed;
  link_unfailed = λ other. ap (λ (l : LinkState). l.faults) link;
}

-- no key was found
pub unfound_causes : {Self T : Type 0} (W : Ghosts Self) (old new : Self) (r : Result T ReadFault) (fault : ReadFault) → r ≡ Err fault →
    ((f : ReadFault) → r ≡ Err f → ComesOfFinding f) → (r ≡ Err (faults.Refused refusals.Disk) → Rose (W.disk_faults old) (W.disk_faults new)) →
    ((r ≡ Err (faults.Refused refusals.Disk) → ⊥) → W.disk_faults new ≡ W.disk_faults old) → W.disk_faults old ≤ W.disk_faults new →
    W.link new ≡ W.link old → HasCauses W old new (status_of_unread fault)
unfound_causes W old new r fault was only cause unfailed count link =
    let comes = only fault was in
    journal_causes W old new (status_of_unread fault) (λ is. cause (was ∙ ap Err (unfound_disk fault comes is)))
    (λ other. unfailed (λ is. other (let same : fault ≡ faults.Refused refusals.Disk = cc (was, is) in ap status_of_unread same)))
    (λ is. unfound_link fault comes is) count link

-- the shelf was left alone
pub shelf_alone : {Self : Type 0} (K : ShelfGhosts Self) (shelf : Self) (s : Status) → (s ≡ status.Shelf → ⊥) → HasShelfCause K shelf shelf s
shelf_alone K shelf s other = record { shelf = λ is. absurd (other is); count = omega arith; unfailed = λ e. refl }

-- the shelf didn't tell an entry
pub ungot_show : (k : Course) (v : Shelving) (name : List ℕ) (uid : ℕ) → Untouched v → (x : GetFault) →
    EndsShow name uid k v (status_of_unread (of_get x)) (text_of_unread (of_get x))
ungot_show k v name uid untouched gets.Memory = record { untouched = untouched; text_is = refl }
ungot_show k v name uid untouched gets.Failed = record { untouched = untouched; text_is = refl }

-- it has none
pub none_kept : {A : Type 0} (f : A → List ℕ) (found : Option A) (there : Option (List ℕ)) → option_map f found ≡ there → found ≡ None → there ≡ None
none_kept f found there is none = sym is ∙ ap (option_map f) none
