-- The arguments of codes: what is read, and what is spelled.
use Rattle.std.proofs.Common.{◌≡◌, ◌≢◌, ℕ, List, [], ◌∷◌, ◌++◌, length, refl, ap, sym, ◌∙◌, subst, append-nil, Result, Ok}
use Rattle.std.specs.Prelude.{◌==◌}
use Rattle.imap_model.specs.declared.code.Code.{Code}
use Rattle.imap_model.specs.declared.code.Code.TheVariants as codings
use Rattle.imap_model.specs.Words.{Spaced, AreSpaces}
use Rattle.imap_model.specs.Values.{is_wide_byte}
use Rattle.imap_model.specs.Numbers.{IsNonzero, IsModSeq}
use Rattle.imap_model.proofs.Cutting.{Stops as Ends}
use Rattle.uid_sets.specs.SequenceSet.{Spells}
use Rattle.uid_sets.specs.declared.uid.UidRange.{UidRange}
use Rattle.imap_response.specs.Leaf.{gap_at}
use Rattle.imap_response.specs.Reads.{◌>>=◌}
use Rattle.imap_response.specs.ReadNumbers.{nonzero_at, modseq_at}
use Rattle.imap_response.specs.Sets.{set_at}
use Rattle.imap_response.specs.ReadCodes.{closed_at, bare_at, uid_next_at, uid_validity_at, highest_modseq_at, modified_at}
use Rattle.imap_response.proofs.spelling.Results.{len_none, ok_is, ok_first, ok_bind, bind_ok}
use Rattle.imap_response.proofs.spelling.Words.{gap_spells, gap_reads}
use Rattle.imap_response.proofs.spelling.Numbers.{IsFront, nonzero_at_spells, nonzero_at_reads, modseq_at_spells, modseq_at_reads}
use Rattle.imap_response.proofs.spelling.Sets.{set_at_spells, set_at_reads}

-- the end of the code
pub closed_spells : (text : List ℕ) → closed_at text ≡ Ok tt → text ≡ []
unfolding closed_at
closed_spells text is = len_none text (ok_first (length text == 0) (length text) (Ok tt) tt is).0

pub closed_here : closed_at [] ≡ Ok tt
unfolding closed_at
closed_here = refl

-- what stands behind spaces, or nothing, begins with no byte of an atom
pub space_first : (gap rest text : List ℕ) → gap ≢ [] → AreSpaces gap → text ≡ gap ++ rest → Ends is_wide_byte text
space_first [] rest text some spaces is = absurd (some refl)
space_first (b ∷ gap) rest text some spaces is =
    subst (Ends is_wide_byte) (sym is) (ap is_wide_byte spaces.0)

pub spaced_ends : (text rest : List ℕ) → Spaced text rest → Ends is_wide_byte text
spaced_ends text rest spaced = space_first spaced.gap rest text spaced.spaces.0 spaced.spaces.1 spaced.whole

-- a value up to the end, and one in front of spaces
pub last_is : {A : Type 0} (N : List ℕ → A → Type 0) (text : List ℕ) (x : A) (rest : List ℕ) → IsFront N text x rest → rest ≡ [] → N text x
last_is N text x rest front none =
    subst (λ (t : List ℕ). N t x) (sym (front.whole ∙ ap (λ (r : List ℕ). front.run ++ r) none ∙ append-nil front.run)) front.spells

pub is_last : {A : Type 0} (N : List ℕ → A → Type 0) (text : List ℕ) (x : A) → N text x → IsFront N text x []
is_last N text x spells = record { run = text; spells = spells; whole = sym (append-nil text); ends = tt }

pub is_before : {A : Type 0} (N : List ℕ → A → Type 0) (run rest later : List ℕ) (x : A) → N run x → Spaced rest later → IsFront N (run ++ rest) x rest
is_before N run rest later x spells spaced = record { run = run; spells = spells; whole = refl; ends = spaced_ends rest later spaced }

-- one value behind spaces, up to the end
abbrev pub One : Type 0 → Type 0
One A = A × List ℕ

abbrev pub ended : {A : Type 0} → (A → Code) → One A → Unit {0} → Result Code ℕ
ended code read done = Ok (code read.0)

abbrev pub behind_one : {A : Type 0} → (A → Code) → One A → Result Code ℕ
behind_one code read = closed_at read.1 >>= ended code read

abbrev pub one_at : {A : Type 0} → (List ℕ → Result (One A) ℕ) → (A → Code) → List ℕ → Result Code ℕ
one_at reader code after = reader after >>= behind_one code

module _ {A : Type 0} (N : List ℕ → A → Type 0) (reader : List ℕ → Result (One A) ℕ) (code_as : A → Code)
    (spells : (text : List ℕ) (x : A) (rest : List ℕ) → reader text ≡ Ok (x, rest) → IsFront N text x rest)
    (reads : (text : List ℕ) (x : A) (rest : List ℕ) → IsFront N text x rest → reader text ≡ Ok (x, rest)) where
  -- up to the end
  pub last_spells : (text : List ℕ) (code : Code) → one_at reader code_as text ≡ Ok code → (x : A) × N text x × (code_as x ≡ code)
  last_spells text code is =
      let read = ok_bind (reader text) (behind_one code_as) code is in
      let done = ok_bind (closed_at read.0.1) (ended code_as read.0) code read.2 in
      let front = spells text read.0.0 read.0.1 read.1 in
      (read.0.0, last_is N text read.0.0 read.0.1 front (closed_spells read.0.1 done.1), ok_is (code_as read.0.0) code done.2)

  pub last_reads : (text : List ℕ) (x : A) → N text x → one_at reader code_as text ≡ Ok (code_as x)
  last_reads text x is =
      bind_ok (reader text) (behind_one code_as) (x, []) (code_as x) (reads text x [] (is_last N text x is))
      (bind_ok (closed_at []) (ended code_as (x, [])) tt (code_as x) closed_here refl)

  -- behind spaces
  pub only_spells : (text : List ℕ) (code : Code) → (gap_at text >>= one_at reader code_as) ≡ Ok code →
      (argument : List ℕ) × (x : A) × Spaced text argument × N argument x × (code_as x ≡ code)
  only_spells text code is =
      let after = ok_bind (gap_at text) (one_at reader code_as) code is in
      let w = last_spells after.0 code after.2 in
      (after.0, w.0, gap_spells text after.0 after.1, w.1, w.2)

  pub only_reads : (text argument : List ℕ) (x : A) → Spaced text argument → N argument x → (gap_at text >>= one_at reader code_as) ≡ Ok (code_as x)
  only_reads text argument x spaced is =
      bind_ok (gap_at text) (one_at reader code_as) argument (code_as x) (gap_reads text argument spaced) (last_reads argument x is)

  -- in front of something that begins with spaces
  pub first_spells : (text : List ℕ) (f : One A → Result Code ℕ) (code : Code) → (reader text >>= f) ≡ Ok code →
      (x : A) × (run : List ℕ) × (rest : List ℕ) × N run x × (text ≡ run ++ rest) × (f (x, rest) ≡ Ok code)
  first_spells text f code is =
      let read = ok_bind (reader text) f code is in
      let front = spells text read.0.0 read.0.1 read.1 in
      (read.0.0, front.run, read.0.1, front.spells, front.whole, read.2)

  pub first_reads : (run rest later : List ℕ) (x : A) (f : One A → Result Code ℕ) (code : Code) → N run x → Spaced rest later →
      f (x, rest) ≡ Ok code → (reader (run ++ rest) >>= f) ≡ Ok code
  first_reads run rest later x f code is spaced more =
      bind_ok (reader (run ++ rest)) f (x, rest) code (reads (run ++ rest) x rest (is_before N run rest later x is spaced)) more

-- the codes with one number or set
pub uid_next_spells : (text : List ℕ) (code : Code) → uid_next_at text ≡ Ok code →
    (argument : List ℕ) × (n : ℕ) × Spaced text argument × IsNonzero argument n × (codings.UidNext n ≡ code)
unfolding uid_next_at
uid_next_spells text code is = only_spells IsNonzero nonzero_at codings.UidNext nonzero_at_spells nonzero_at_reads text code is

pub uid_next_reads : (text argument : List ℕ) (n : ℕ) → Spaced text argument → IsNonzero argument n → uid_next_at text ≡ Ok (codings.UidNext n)
unfolding uid_next_at
uid_next_reads text argument n spaced is = only_reads IsNonzero nonzero_at codings.UidNext nonzero_at_spells nonzero_at_reads text argument n spaced is

pub uid_validity_spells : (text : List ℕ) (code : Code) → uid_validity_at text ≡ Ok code →
    (argument : List ℕ) × (n : ℕ) × Spaced text argument × IsNonzero argument n × (codings.UidValidity n ≡ code)
unfolding uid_validity_at
uid_validity_spells text code is = only_spells IsNonzero nonzero_at codings.UidValidity nonzero_at_spells nonzero_at_reads text code is

pub uid_validity_reads : (text argument : List ℕ) (n : ℕ) → Spaced text argument → IsNonzero argument n → uid_validity_at text ≡ Ok (codings.UidValidity n)
unfolding uid_validity_at
uid_validity_reads text argument n spaced is = only_reads IsNonzero nonzero_at codings.UidValidity nonzero_at_spells nonzero_at_reads text argument n spaced is

pub highest_modseq_spells : (text : List ℕ) (code : Code) → highest_modseq_at text ≡ Ok code →
    (argument : List ℕ) × (n : ℕ) × Spaced text argument × IsModSeq argument n × (codings.HighestModSeq n ≡ code)
unfolding highest_modseq_at
highest_modseq_spells text code is = only_spells IsModSeq modseq_at codings.HighestModSeq modseq_at_spells modseq_at_reads text code is

pub highest_modseq_reads : (text argument : List ℕ) (n : ℕ) → Spaced text argument → IsModSeq argument n → highest_modseq_at text ≡ Ok (codings.HighestModSeq n)
unfolding highest_modseq_at
highest_modseq_reads text argument n spaced is = only_reads IsModSeq modseq_at codings.HighestModSeq modseq_at_spells modseq_at_reads text argument n spaced is

pub modified_spells : (text : List ℕ) (code : Code) → modified_at text ≡ Ok code →
    (argument : List ℕ) × (uids : List UidRange) × Spaced text argument × Spells argument uids × (codings.Modified uids ≡ code)
unfolding modified_at
modified_spells text code is = only_spells Spells set_at codings.Modified set_at_spells set_at_reads text code is

pub modified_reads : (text argument : List ℕ) (uids : List UidRange) → Spaced text argument → Spells argument uids →
    modified_at text ≡ Ok (codings.Modified uids)
unfolding modified_at
modified_reads text argument uids spaced is = only_reads Spells set_at codings.Modified set_at_spells set_at_reads text argument uids spaced is

-- with none
pub bare_spells : (code_as : Code) (text : List ℕ) (code : Code) → bare_at code_as text ≡ Ok code → (text ≡ []) × (code_as ≡ code)
unfolding bare_at
bare_spells code_as text code is =
    let done = ok_bind (closed_at text) (λ end. Ok code_as) code is in
    (closed_spells text done.1, ok_is code_as code done.2)

pub bare_reads : (code_as : Code) → bare_at code_as [] ≡ Ok code_as
unfolding bare_at
bare_reads code_as = bind_ok (closed_at []) (λ end. Ok code_as) tt code_as closed_here refl
