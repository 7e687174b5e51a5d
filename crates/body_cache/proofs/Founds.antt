-- What becomes of the key of a message that is looked for.
use Rattle.std.proofs.Common.{◌≡◌, ◌∙◌, ℕ, List, Result, Ok, Err, sym, subst}
use Rattle.std.specs.Result.{IsErrAnd}
use Rattle.action_queue.specs.Book.{Meaning}
use Rattle.mail_top.specs.Course.{Course, Stays}
use Rattle.mail_top.specs.Showing.{EndsShowing, IsOfReading, Shows}
use Rattle.mail_top.specs.declared.refusal.Refusal.{Refusal}
use Rattle.mail_top.specs.declared.refusal.Refusal.TheVariants as refusals
use Rattle.body_cache.specs.Finding.{ComesOfFinding, Finds, NotFound, Reads}
use Rattle.body_cache.specs.Keys.{key_in}
use Rattle.body_cache.specs.declared.key.Key.{Key}
use Rattle.body_cache.specs.declared.reading.ReadReason.{ReadReason}
use Rattle.body_cache.specs.declared.refused.ReadFault.{ReadFault}
use Rattle.body_cache.specs.declared.refused.ReadFault.TheVariants as faults

-- a fault that was made of another one
pub made : {T : Type 0} (r : Result T ReadFault) (x : ReadFault) → IsErrAnd r (λ fault. fault ≡ x) → r ≡ Err x
made (Ok done) x given = absurd given
made (Err fault) x given = cc given

-- a book as read
pub reads_of : (k : Course) (b : Meaning) → Stays k b → Reads k b
reads_of k b stays = record { holds = stays.holds; leaves = stays.leaves }

module _ (name : List ℕ) (uid : ℕ) (k : Course) where
  abbrev Fits : Meaning → Result Key ReadReason → Type 0
  Fits b key = key ≡ key_in b name uid

  as_found : (x : Refusal) → EndsShowing Fits k (Err x) → NotFound name uid k (faults.Refused x)
  as_found refusals.Disk s = s
  as_found refusals.Memory s = s
  as_found refusals.Input s = s
  as_found refusals.Already s = s
  as_found (refusals.NotAJournal why) s = s
  as_found (refusals.Reason reason) s = s
  as_found refusals.Actions s = s
  as_found (refusals.Full end) s = s
  as_found refusals.Generation s = s

  -- the journal isn't opened
  pub unopened : (r : Result (Result Key ReadReason) Refusal) (x : Refusal) → r ≡ Err x → EndsShowing Fits k r → (out : Result Key ReadFault) →
      IsErrAnd out (λ fault. fault ≡ faults.Refused x) → (fault : ReadFault) → out ≡ Err fault → NotFound name uid k fault
  unopened r x was ends out given fault is =
      let same : faults.Refused x ≡ fault = cc (made out (faults.Refused x) given, is) in
      subst (NotFound name uid k) same (as_found x (subst (EndsShowing Fits k) was ends))

  -- the book has no key
  pub none_found : (r : Result (Result Key ReadReason) Refusal) (shown : Result Key ReadReason) (reason : ReadReason) → r ≡ Ok shown →
      shown ≡ Err reason → EndsShowing Fits k r → (out : Result Key ReadFault) → IsErrAnd out (λ fault. fault ≡ faults.Reason reason) →
      (fault : ReadFault) → out ≡ Err fault → NotFound name uid k fault
  none_found r shown reason was none ends out given fault is =
      let same : faults.Reason reason ≡ fault = cc (made out (faults.Reason reason) given, is) in
      let shows : Shows Fits k shown = subst (EndsShowing Fits k) was ends in
      subst (NotFound name uid k) same (record { book = shows.book; reads = reads_of k shows.book shows.stays; is = sym shows.fits ∙ none })

  -- the key
  pub found : (r : Result (Result Key ReadReason) Refusal) (shown : Result Key ReadReason) (key : Key) → r ≡ Ok shown → shown ≡ Ok key →
      EndsShowing Fits k r → Finds name uid k key
  found r shown key was some ends =
      let shows : Shows Fits k shown = subst (EndsShowing Fits k) was ends in
      record { book = shows.book; reads = reads_of k shows.book shows.stays; is = sym shows.fits ∙ some }

-- the faults that come
pub refusal_comes : {S T : Type 0} (r : Result S Refusal) (x : Refusal) → r ≡ Err x → ((refusal : Refusal) → r ≡ Err refusal → IsOfReading refusal) →
    (out : Result T ReadFault) → IsErrAnd out (λ fault. fault ≡ faults.Refused x) → (fault : ReadFault) → out ≡ Err fault → ComesOfFinding fault
refusal_comes r x was only out given fault is =
    let same : faults.Refused x ≡ fault = cc (made out (faults.Refused x) given, is) in subst ComesOfFinding same (only x was)

pub reason_comes : {T : Type 0} (reason : ReadReason) (out : Result T ReadFault) → IsErrAnd out (λ fault. fault ≡ faults.Reason reason) →
    (fault : ReadFault) → out ≡ Err fault → ComesOfFinding fault
reason_comes reason out given fault is =
    let same : faults.Reason reason ≡ fault = cc (made out (faults.Reason reason) given, is) in subst ComesOfFinding same tt

-- the disk is blamed by the journal's refusal alone
pub disk_found : {S T : Type 0} (r : Result S Refusal) (x : Refusal) → r ≡ Err x → (out : Result T ReadFault) →
    IsErrAnd out (λ fault. fault ≡ faults.Refused x) → out ≡ Err (faults.Refused refusals.Disk) → r ≡ Err refusals.Disk
disk_found r x was out given is = let same : faults.Refused x ≡ faults.Refused refusals.Disk = cc (made out (faults.Refused x) given, is) in cc (was, same)

pub disk_told : {S T : Type 0} (r : Result S Refusal) (x : Refusal) → r ≡ Err x → (out : Result T ReadFault) →
    IsErrAnd out (λ fault. fault ≡ faults.Refused x) → r ≡ Err refusals.Disk → out ≡ Err (faults.Refused refusals.Disk)
disk_told r x was out given is = let same : x ≡ refusals.Disk = cc (was, is) in cc (made out (faults.Refused x) given, same)

pub reason_no_disk : {T : Type 0} (reason : ReadReason) (out : Result T ReadFault) → IsErrAnd out (λ fault. fault ≡ faults.Reason reason) →
    out ≡ Err (faults.Refused refusals.Disk) → ⊥
reason_no_disk reason out given is = let same : faults.Reason reason ≡ faults.Refused refusals.Disk = cc (made out (faults.Reason reason) given, is) in cc same
