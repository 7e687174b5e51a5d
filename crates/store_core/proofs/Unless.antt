-- What a fault other than the disk's says.
use Rattle.std.proofs.Common.{◌≡◌, ◌∙◌, ℕ, Bool, Result, Err, IsErrOf, ap, refl, sym, true}
use Rattle.journal_core.specs.declared.appending.AppendFault.{AppendFault}
use Rattle.journal_core.specs.declared.appending.AppendFault.TheVariants as adding
use Rattle.journal_core.specs.declared.creating.CreateFault.{CreateFault}
use Rattle.journal_core.specs.declared.creating.CreateFault.TheVariants as creating
use Rattle.journal_core.specs.declared.turning.TurnFault.{TurnFault}
use Rattle.journal_core.specs.declared.turning.TurnFault.TheVariants as turning
use Rattle.journal_core.specs.Standing.{Standing}
use Rattle.store_core.specs.declared.fault.StoreFault.{StoreFault}
use Rattle.store_core.specs.declared.fault.StoreFault.TheVariants as store
use Rattle.store_core.specs.Faults.{of_creating, of_turning}

-- a creation's fault isn't the disk's where the store's isn't
pub not_disk : {T U : Type 0} (fault : CreateFault) (made : Result U CreateFault) (result : Result T StoreFault) → made ≡ Err fault →
    result ≡ Err (of_creating fault) → (IsErrOf result store.Disk → ⊥) → IsErrOf made creating.Disk → ⊥
not_disk creating.Disk made result is was clear e = clear (rw was refl)
not_disk creating.Memory made result is was clear e = let never : Err creating.Memory ≡ Err creating.Disk = sym is ∙ e in cc
not_disk creating.Already made result is was clear e = let never : Err creating.Already ≡ Err creating.Disk = sym is ∙ e in cc
not_disk (creating.NotAJournal why) made result is was clear e = let never : Err (creating.NotAJournal why) ≡ Err creating.Disk = sym is ∙ e in cc
not_disk (creating.Full end wanted) made result is was clear e = let never : Err (creating.Full end wanted) ≡ Err creating.Disk = sym is ∙ e in cc

-- however an append failed, its journal has its version, and all was read that was
pub append_failed : (fault : AppendFault) (old new : Standing) → (fault ≡ adding.Disk → new ≡ record old { failed = true }) →
    ((end wanted : ℕ) → fault ≡ adding.Full end wanted → new ≡ old) → (new.version ≡ old.version) × (new.all_read ≡ old.all_read)
append_failed adding.Disk old new broken kept =
    let is = broken refl in (ap (λ (j : Standing). j.version) is, ap (λ (j : Standing). j.all_read) is)
append_failed (adding.Full end wanted) old new broken kept =
    let is = kept end wanted refl in (ap (λ (j : Standing). j.version) is, ap (λ (j : Standing). j.all_read) is)

-- so is it with a turn
pub turn_failed : (fault : TurnFault) (old new : Standing) → (fault ≡ turning.Disk → new ≡ record old { failed = true }) →
    ((end wanted : ℕ) → fault ≡ turning.Full end wanted → new ≡ old) → (new.version ≡ old.version) × (new.all_read ≡ old.all_read)
turn_failed turning.Disk old new broken kept =
    let is = broken refl in (ap (λ (j : Standing). j.version) is, ap (λ (j : Standing). j.all_read) is)
turn_failed (turning.Full end wanted) old new broken kept =
    let is = kept end wanted refl in (ap (λ (j : Standing). j.version) is, ap (λ (j : Standing). j.all_read) is)

-- a turn that failed for the disk leaves a journal that isn't used again
pub turn_stopped : (fault : TurnFault) (failed : Bool) → (fault ≡ turning.Disk → failed ≡ true) → of_turning fault ≡ store.Disk → failed ≡ true
turn_stopped turning.Disk failed broken is = broken refl
turn_stopped (turning.Full end wanted) failed broken is = let never : store.Full end wanted ≡ store.Disk = is in cc
