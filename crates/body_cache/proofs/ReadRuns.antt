-- How a reading ends, told of its words and of what is printed.
use Rattle.std.proofs.Common.{◌≡◌, ◌⊎◌, inl, inr, ℕ, List, [], ◌∷◌, OnOk, Result, Ok, Err, sym, ◌∙◌, ap, subst, arith}
use Rattle.std.specs.Prelude.{codes, slice_index}
use Rattle.mail_base.specs.Account.{Credentials}
use Rattle.mail_base.specs.declared.status.Status.{Status}
use Rattle.mail_base.specs.declared.status.Status.TheVariants as status
use Rattle.mail_top.specs.Course.{Course}
use Rattle.mail_top.specs.Printing.{IsSaid}
use Rattle.mail_top.specs.declared.refusal.Refusal.{Refusal}
use Rattle.mail_top.specs.declared.refusal.Refusal.TheVariants as refusals
use Rattle.mail_top.specs.Names.{name_of}
use Rattle.mail_top.proofs.Naming.{kept_name}
use Rattle.mail_top.proofs.Wording.{one_decimal}
use Rattle.play_driver.specs.declared.fault.PlayFault.{PlayFault}
use Rattle.play_driver.specs.declared.fault.PlayFault.TheVariants as plays
use Rattle.body_cache.specs.Causing.{HasShelfCause}
use Rattle.body_cache.specs.Completing.{IsServed}
use Rattle.body_cache.specs.Ending.{Ends, EndsReading, Shelving}
use Rattle.body_cache.specs.Telling.{status_of_read, status_of_unread}
use Rattle.body_cache.specs.Words.{Asks, AsksFetch, IsFetch, WritesDates, WritesMessage}
use Rattle.body_cache.specs.declared.reading.Reading.{Reading}
use Rattle.body_cache.specs.declared.reading.Reading.TheVariants as readings
use Rattle.body_cache.specs.declared.refused.ReadFault.{ReadFault}
use Rattle.body_cache.specs.declared.refused.ReadFault.TheVariants as faults
use Rattle.body_cache.specs.declared.shelf.Shelf.{Ghosts as ShelfGhosts}

-- a failed output says as much of a reading as a printed text
output_as : (account : Credentials) (reading : Reading) (k : Course) (v : Shelving) (text : List ℕ) → EndsReading account reading k v status.Done text →
    EndsReading account reading k v status.Output text
output_as account (readings.Fetch name uid) k v text ends = ends
output_as account (readings.Show name uid) k v text ends = ends
output_as account (readings.Dates name) k v text ends = ends

-- no reading ends with conflicts
no_conflicts : (account : Credentials) (reading : Reading) (k : Course) (v : Shelving) (text : List ℕ) →
    EndsReading account reading k v status.Conflicts text → ⊥
no_conflicts account (readings.Fetch name uid) k v text ends = ends
no_conflicts account (readings.Show name uid) k v text ends = ends
no_conflicts account (readings.Dates name) k v text ends = ends

module _ (account : Credentials) (words : List (List ℕ)) (k : Course) (v : Shelving) (text : List ℕ) where
  output_ends : Ends account words k v status.Done text → Ends account words k v status.Output text
  output_ends (inl w) = absurd (let told = w.told in cc)
  output_ends (inr s) = inr (record { reading = s.reading; asks = s.asks; ends = output_as account s.reading k v text s.ends })

  conflicts_ends : Ends account words k v status.Conflicts text → ⊥
  conflicts_ends (inl w) = absurd (let told = w.told in cc)
  conflicts_ends (inr s) = no_conflicts account s.reading k v text s.ends

  pub quiet_ends : (s : Status) → Ends account words k v s text → s ≡ status.Conflicts → ⊥
  quiet_ends s ends is = conflicts_ends (subst (λ (t : Status). Ends account words k v t text) is ends)

  pub said_ends : (r s : Status) → IsSaid s r → Ends account words k v s text → Ends account words k v r text
  said_ends r s (inl same) ends = subst (λ (t : Status). Ends account words k v t text) (sym same) ends
  said_ends r s (inr (inl done, is)) ends = subst (λ (t : Status). Ends account words k v t text) (sym is)
      (output_ends (subst (λ (t : Status). Ends account words k v t text) done ends))
  said_ends r s (inr (inr conflicts, is)) ends =
      absurd (conflicts_ends (subst (λ (t : Status). Ends account words k v t text) conflicts ends))

-- under other names for status and text
pub ends_as : (account : Credentials) (reading other : Reading) (k : Course) (v : Shelving) (s t : Status) (x y : List ℕ) → reading ≡ other → s ≡ t →
    x ≡ y → EndsReading account other k v t y → EndsReading account reading k v s x
ends_as account reading other k v s t x y is status_is text_is ends =
    subst (λ (r : Reading). EndsReading account r k v s x) (sym is)
    (subst (λ (u : Status). EndsReading account other k v u x) (sym status_is)
    (subst (λ (z : List ℕ). EndsReading account other k v t z) (sym text_is) ends))

-- what was done was printed, or the output failed
pub said_done : (r s : Status) → IsSaid s r → (r ≡ status.Done) ⊎ (r ≡ status.Output) → (s ≡ status.Output → ⊥) → (s ≡ status.Conflicts → ⊥) →
    s ≡ status.Done
said_done r s (inl same) (inl done) other quiet = sym same ∙ done
said_done r s (inl same) (inr failed) other quiet = absurd (other (sym same ∙ failed))
said_done r s (inr (inl done, is)) ended other quiet = done
said_done r s (inr (inr conflicts, is)) ended other quiet = absurd (quiet conflicts)

-- an output that failed is no fault of the server
pub said_served : (r s : Status) → IsSaid s r → IsServed s → IsServed r
said_served r s (inl same) served = subst IsServed (sym same) served
said_served r s (inr changed) served = subst IsServed (sym changed.1) tt

-- a reading tells neither of the output nor of words
refusal_output : (x : Refusal) → status_of_unread (faults.Refused x) ≡ status.Output → ⊥
refusal_output refusals.Disk is = cc
refusal_output refusals.Memory is = cc
refusal_output (refusals.NotAJournal why) is = cc
refusal_output refusals.Input is = cc
refusal_output refusals.Already is = cc
refusal_output (refusals.Reason reason) is = cc
refusal_output refusals.Actions is = cc
refusal_output (refusals.Full end) is = cc
refusal_output refusals.Generation is = cc

fault_output : (f : PlayFault) → status_of_unread (faults.Stopped f) ≡ status.Output → ⊥
fault_output plays.Memory is = cc
fault_output plays.Disk is = cc
fault_output plays.Link is = cc
fault_output (plays.Refused line) is = cc
fault_output (plays.BadReply why) is = cc
fault_output (plays.Lacking what) is = cc
fault_output (plays.Limit which number) is = cc

pub read_output : (r : Result (List ℕ) ReadFault) → status_of_read r ≡ status.Output → ⊥
read_output (Ok text) is = cc
read_output (Err (faults.Refused x)) is = refusal_output x is
read_output (Err (faults.Reason reason)) is = cc
read_output (Err (faults.Stopped f)) is = fault_output f is
read_output (Err (faults.Renewed line)) is = cc
read_output (Err faults.Shelf) is = cc

refusal_words : (x : Refusal) → status_of_unread (faults.Refused x) ≡ status.Words → ⊥
refusal_words refusals.Disk is = cc
refusal_words refusals.Memory is = cc
refusal_words (refusals.NotAJournal why) is = cc
refusal_words refusals.Input is = cc
refusal_words refusals.Already is = cc
refusal_words (refusals.Reason reason) is = cc
refusal_words refusals.Actions is = cc
refusal_words (refusals.Full end) is = cc
refusal_words refusals.Generation is = cc

fault_words : (f : PlayFault) → status_of_unread (faults.Stopped f) ≡ status.Words → ⊥
fault_words plays.Memory is = cc
fault_words plays.Disk is = cc
fault_words plays.Link is = cc
fault_words (plays.Refused line) is = cc
fault_words (plays.BadReply why) is = cc
fault_words (plays.Lacking what) is = cc
fault_words (plays.Limit which number) is = cc

pub read_words : (r : Result (List ℕ) ReadFault) → status_of_read r ≡ status.Words → ⊥
read_words (Ok text) is = cc
read_words (Err (faults.Refused x)) is = refusal_words x is
read_words (Err (faults.Reason reason)) is = cc
read_words (Err (faults.Stopped f)) is = fault_words f is
read_words (Err (faults.Renewed line)) is = cc
read_words (Err faults.Shelf) is = cc

refusal_done : (x : Refusal) → status_of_unread (faults.Refused x) ≡ status.Done → ⊥
refusal_done refusals.Disk is = cc
refusal_done refusals.Memory is = cc
refusal_done (refusals.NotAJournal why) is = cc
refusal_done refusals.Input is = cc
refusal_done refusals.Already is = cc
refusal_done (refusals.Reason reason) is = cc
refusal_done refusals.Actions is = cc
refusal_done (refusals.Full end) is = cc
refusal_done refusals.Generation is = cc

fault_done : (f : PlayFault) → status_of_unread (faults.Stopped f) ≡ status.Done → ⊥
fault_done plays.Memory is = cc
fault_done plays.Disk is = cc
fault_done plays.Link is = cc
fault_done (plays.Refused line) is = cc
fault_done (plays.BadReply why) is = cc
fault_done (plays.Lacking what) is = cc
fault_done (plays.Limit which number) is = cc

-- what is done gave a text
pub read_done : (fault : ReadFault) → status_of_unread fault ≡ status.Done → ⊥
read_done (faults.Refused x) is = refusal_done x is
read_done (faults.Reason reason) is = cc
read_done (faults.Stopped f) is = fault_done f is
read_done (faults.Renewed line) is = cc
read_done faults.Shelf is = cc

-- the first byte of each command
abbrev byte_of : Reading → ℕ
byte_of (readings.Fetch name uid) = 102
byte_of (readings.Show name uid) = 115
byte_of (readings.Dates name) = 100

abbrev first_byte : List (List ℕ) → ℕ
first_byte [] = 0
first_byte (w ∷ ws) = slice_index w 0

asked_byte : (words : List (List ℕ)) (reading : Reading) → Asks words reading → first_byte words ≡ byte_of reading
asked_byte words (readings.Fetch name uid) asks = ap first_byte asks.are
asked_byte words (readings.Show name uid) asks = ap first_byte asks.are
asked_byte words (readings.Dates name) asks = ap first_byte asks.are

-- words that ask for a fetching ask for no other reading, whose words begin otherwise
pub asks_fetch : (words : List (List ℕ)) (reading : Reading) → Asks words reading → (AsksFetch words → ⊥) → IsFetch reading → ⊥
asks_fetch words (readings.Fetch name uid) asks never fetch = never (name, uid, asks)
asks_fetch words (readings.Show name uid) asks never fetch = fetch
asks_fetch words (readings.Dates name) asks never fetch = fetch

-- words that ask for a fetching ask for this reading alone
second_word : (v w x y r s : List ℕ) → v ∷ x ∷ r ∷ [] ≡ w ∷ y ∷ s ∷ [] → x ≡ y
second_word v w x y r s is = cc

third_word : (v w x y r s : List ℕ) → v ∷ x ∷ r ∷ [] ≡ w ∷ y ∷ s ∷ [] → r ≡ s
third_word v w x y r s is = cc

module _ (words : List (List ℕ)) (other name : List ℕ) (n uid : ℕ) (command : List ℕ) (a : WritesMessage command words other n)
    (b : WritesMessage command words name uid) where
  one_name : other ≡ name
  one_name =
      kept_name a.box other a.names.kept ∙ ap name_of (second_word _ _ _ _ _ _ (sym a.are ∙ b.are)) ∙ sym (kept_name b.box name b.names.kept)

  one_uid : n ≡ uid
  one_uid = one_decimal n uid a.message.fits b.message.fits (sym a.message.is ∙ third_word _ _ _ _ _ _ (sym a.are ∙ b.are) ∙ b.message.is)

pub one_fetch : (words : List (List ℕ)) (reading : Reading) (name : List ℕ) (uid : ℕ) → Asks words reading →
    WritesMessage (codes "fetch") words name uid → reading ≡ readings.Fetch name uid
one_fetch words (readings.Fetch other n) name uid a b =
    ap (λ (m : List ℕ). readings.Fetch m n) (one_name words other name n uid (codes "fetch") a b)
    ∙ ap (λ (m : ℕ). readings.Fetch name m) (one_uid words other name n uid (codes "fetch") a b)
one_fetch words (readings.Show other n) name uid a b =
    absurd (omega (arith, asked_byte words (readings.Show other n) a, asked_byte words (readings.Fetch name uid) b))
one_fetch words (readings.Dates other) name uid a b =
    absurd (omega (arith, asked_byte words (readings.Dates other) a, asked_byte words (readings.Fetch name uid) b))

pub one_show : (words : List (List ℕ)) (reading : Reading) (name : List ℕ) (uid : ℕ) → Asks words reading →
    WritesMessage (codes "show") words name uid → reading ≡ readings.Show name uid
one_show words (readings.Show other n) name uid a b =
    ap (λ (m : List ℕ). readings.Show m n) (one_name words other name n uid (codes "show") a b)
    ∙ ap (λ (m : ℕ). readings.Show name m) (one_uid words other name n uid (codes "show") a b)
one_show words (readings.Fetch other n) name uid a b =
    absurd (omega (arith, asked_byte words (readings.Fetch other n) a, asked_byte words (readings.Show name uid) b))
one_show words (readings.Dates other) name uid a b =
    absurd (omega (arith, asked_byte words (readings.Dates other) a, asked_byte words (readings.Show name uid) b))

only_word : (v w x y : List ℕ) → v ∷ x ∷ [] ≡ w ∷ y ∷ [] → x ≡ y
only_word v w x y is = cc

pub one_dates : (words : List (List ℕ)) (reading : Reading) (name : List ℕ) → Asks words reading → WritesDates words name →
    reading ≡ readings.Dates name
one_dates words (readings.Dates other) name a b =
    ap readings.Dates
    (kept_name a.box other a.names.kept ∙ ap name_of (only_word _ _ _ _ (sym a.are ∙ b.are)) ∙ sym (kept_name b.box name b.names.kept))
one_dates words (readings.Fetch other n) name a b =
    absurd (omega (arith, asked_byte words (readings.Fetch other n) a, asked_byte words (readings.Dates name) b))
one_dates words (readings.Show other n) name a b =
    absurd (omega (arith, asked_byte words (readings.Show other n) a, asked_byte words (readings.Dates name) b))

-- what is so of a fetching that was done
pub told_done : (P : List ℕ → ℕ → Type 0) (reading : Reading) (n m : List ℕ) (u w : ℕ) (r : Result (List ℕ) ReadFault) (s : Status) →
    reading ≡ readings.Fetch n u → reading ≡ readings.Fetch m w → s ≡ status_of_read r → s ≡ status.Done → OnOk r (P n u) → P m w
told_done P reading n m u w (Ok text) s is other status_is done so =
    let named : n ≡ m = cc (is, other) in
    let numbered : u ≡ w = cc (is, other) in
    subst (λ (k : List ℕ). P k w) named (subst (λ (k : ℕ). P n k) numbered so)
told_done P reading n m u w (Err fault) s is other status_is done so = absurd (read_done fault (sym status_is ∙ done))

-- one message
pub fetch_named : (m o : List ℕ) (u w : ℕ) → readings.Fetch o w ≡ readings.Fetch m u → o ≡ m
fetch_named m o u w is = cc is

-- under another name for the status
pub shelf_as : {Self : Type 0} (K : ShelfGhosts Self) (old new : Self) (s t : Status) → s ≡ t → HasShelfCause K old new t → HasShelfCause K old new s
shelf_as K old new s t same causes = subst (λ (u : Status). HasShelfCause K old new u) (sym same) causes
