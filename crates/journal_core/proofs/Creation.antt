-- A journal that is created.
use Rattle.std.proofs.Common.{◌≡◌, ◌⊎◌, inl, inr, ⊎_elim, ℕ, zero, suc, ◌+◌, ◌≤◌, ◌<◌, List, [], ◌∷◌, ◌++◌, length, get_or, take, sym}
use Rattle.std.proofs.Common.{◌∙◌, true, false, min, ap, subst, arith, append_assoc, length-append, Result, Ok, OnOk}
use Rattle.std.specs.Int.{w32, to_be_bytes}
use Rattle.std.proofs.lemmas.List.{append-nil, take_more}
use Rattle.world_traits.specs.Files.{Files, file_of}
use Rattle.world_traits.specs.Moments.{Clock, Images, Within, GoesOn, Narrows, Rests}
use Rattle.world_traits.specs.declared.disk.Side.TheVariants.{Left, Right}
use Rattle.world_traits.proofs.OneSide.{one_left}
use Rattle.world_traits.proofs.Passing.{since_start, since_then, since_weaker}
use Rattle.mail_base.specs.Bodies.{IsBody}
use Rattle.journal_core.specs.Records.{AreBodies, open_record, records}
use Rattle.journal_core.specs.Sides.{head_of, version_written, IsBegun, IsGeneration}
use Rattle.journal_core.specs.Holds.{Holds, IsPresent}
use Rattle.journal_core.specs.Standing.{Standing, IsStill}
use Rattle.journal_core.specs.Gates.{IsShut, Beside, Passes}
use Rattle.journal_core.specs.Appending.{told_end}
use Rattle.journal_core.specs.OneSide.{IsAside}
use Rattle.journal_core.specs.Settling.{Settles, Syncs}
use Rattle.journal_core.specs.Creating.{AsBefore, SetsUp, NoneEmpty, IsTaken, IsUnbegun, CreatesThrough, CreatesBehind, CreatesJournal, created, end_of}
use Rattle.journal_core.proofs.Aside.{passes_as}
use Rattle.journal_core.proofs.AtRest.{each_then, rests_side}
use Rattle.journal_core.proofs.Choice.{alone, open_head}
use Rattle.journal_core.proofs.Lists.{records-push}
use Rattle.journal_core.proofs.Presence.{head_long, set_up_shut, from_behind}

narrows_creates : (bodies : List (List ℕ)) (old new : Clock) → Narrows old new → CreatesThrough bodies old new
narrows_creates bodies old new n =
    since_weaker (Within old.now) (λ m. Within old.now m ⊎ Images (λ files. IsUnbegun files ⊎ Holds version_written bodies files) m) Within
    (λ m n. Within m n ⊎ GoesOn IsUnbegun (Holds version_written bodies) m n)
    (λ m w. inl w) (λ m n s. inl s) old new n

-- where nothing was written
settles_creates : (bodies : List (List ℕ)) (old new : Clock) (seen : Files) → Settles old new seen → Narrows old new → CreatesBehind bodies old new seen
settles_creates bodies old new seen settles narrows = record {
  at = new;
  settles = settles;
  narrows = narrows;
  passes = since_start (Images (λ files. IsUnbegun files ⊎ Holds version_written bodies files)) (GoesOn IsUnbegun (Holds version_written bodies)) new;
}

pub syncs_creates : (bodies : List (List ℕ)) (old new : Clock) (seen : Files) → Syncs old new seen → CreatesJournal bodies old new seen
syncs_creates bodies old new seen syncs = record {
  told = narrows_creates bodies old new syncs.told;
  exact = λ one. settles_creates bodies old new seen (syncs.exact one) syncs.told;
  one_side = syncs.one_side;
  each_one_side = syncs.each_one_side;
}

one_generation_is : IsGeneration 1
one_generation_is = record { some = omega arith; fits = omega arith }

-- a side that is set up was begun
pub not_taken : (files : Files) → IsUnbegun files → IsTaken files → ⊥
not_taken files none taken = none taken.side (open_head taken.version taken.generation (file_of taken.side files) taken.set_up)

-- a side that no one began, as it was or still not begun
free_beside : (f1 : Files) → IsUnbegun f1 → (files : Files) → Beside Left f1.right (AsBefore f1.left) files → IsUnbegun files
free_beside f1 none files b Left o =
    ⊎_elim (λ (same : files.left ≡ f1.left). none Left (subst IsBegun same o)) (λ (no : IsBegun files.left → ⊥). no o) b.here
free_beside f1 none files b Right o = none Right (subst IsBegun b.there o)

present_beside : (f1 : Files) → IsUnbegun f1 → (bodies : List (List ℕ)) (files : Files) →
    Beside Left f1.right (IsShut (head_of version_written 1 ++ records bodies)) files → IsPresent Left version_written 1 files
present_beside f1 none bodies files b =
    alone Left version_written 1 files (set_up_shut version_written 1 bodies files.left b.here.gate b.here.rest one_generation_is b.here.is)
    (λ (o : IsBegun files.right). none Right (subst IsBegun b.there o))

holds_beside : (f1 : Files) → IsUnbegun f1 → (bodies : List (List ℕ)) → AreBodies bodies → (files : Files) →
    Beside Left f1.right (IsShut (head_of version_written 1 ++ records bodies)) files → Holds version_written bodies files
holds_beside f1 none bodies sizes files b = record {
  side = Left;
  generation = 1;
  present = present_beside f1 none bodies files b;
  records = from_behind version_written 1 bodies files.left sizes b.here;
}

module _ (bodies : List (List ℕ)) (sizes : AreBodies bodies) (k0 k1 k2 : Clock) (f0 f1 f2 : Files) (syncs : Syncs k0 k1 f0)
    (rests : Rests k1.now f1) (same : f1 ≡ f0) (unbegun : IsUnbegun f0) {T E : Type 0} (r : Result T E)
    (s : SetsUp Left version_written 1 bodies k1 k2 f1 f2 r) where
  none_now : IsUnbegun f1
  none_now = subst IsUnbegun (sym same) unbegun

  sets_passes : Passes IsUnbegun (Holds version_written bodies) k1 k2
  sets_passes = passes_as _ _ _ _ (free_beside f1 none_now) (holds_beside f1 none_now bodies sizes) k1 k2 (s.passing rests)

  sets_creates : CreatesThrough bodies k0 k2
  sets_creates =
      since_then _ _ k0 k1 k2 (narrows_creates bodies k0 k1 syncs.told)
      (since_weaker (Images (λ files. IsUnbegun files ⊎ Holds version_written bodies files))
      (λ m. Within k0.now m ⊎ Images (λ files. IsUnbegun files ⊎ Holds version_written bodies files) m) (GoesOn IsUnbegun (Holds version_written bodies))
      (λ m n. Within m n ⊎ GoesOn IsUnbegun (Holds version_written bodies) m n)
      (λ m i. inr i) (λ m n g. inr g) k1 k2 sets_passes)

  sets_behind : (seen : Files) → Settles k0 k1 seen → CreatesBehind bodies k0 k2 seen
  sets_behind seen settles = record { at = k1; settles = settles; narrows = syncs.told; passes = sets_passes }

  -- syncs, and then the first side is set up
  pub creates_set_up : IsAside Left k1 k2 → CreatesJournal bodies k0 k2 f0
  creates_set_up aside = record {
    told = sets_creates;
    exact = λ one. sets_behind f0 (syncs.exact one);
    one_side = λ one. one_left Left k1.now k2.now f1 rests aside.beside;
    each_one_side = λ one. each_then k0 k1 k2 (syncs.each_one_side one) (aside.each (rests_side Right k1.now f1 rests));
  }

-- the journal behind its first bodies
module _ (bodies : List (List ℕ)) (sizes : AreBodies bodies) (k1 k2 : Clock) (f0 f1 f2 : Files) (rests : Rests k1.now f1) (same : f1 ≡ f0)
    (unbegun : IsUnbegun f0) {T E : Type 0} (r : Result T E) (x : T) (ok : r ≡ Ok x) (s : SetsUp Left version_written 1 bodies k1 k2 f1 f2 r) where
  rests_there : Rests k2.now f2
  rests_there = subst (λ (q : Result T E). OnOk q (Rests k2.now f2)) ok (s.rests rests)

  held_there : Beside Left f1.right (IsShut (head_of version_written 1 ++ records bodies)) f2
  held_there = subst (λ (q : Result T E). OnOk q (Beside Left f1.right (IsShut (head_of version_written 1 ++ records bodies)) f2)) ok (s.done rests)

  pub still_created : (journal : Standing) → journal ≡ created bodies → IsStill journal bodies k2.now f2
  still_created journal is = subst (λ (j : Standing). IsStill j bodies k2.now f2) (sym is) (record {
    rests = rests_there;
    present = present_beside f1 (subst IsUnbegun (sym same) unbegun) bodies f2 held_there;
    sizes = sizes;
    gate = held_there.here.gate;
    rest = held_there.here.rest;
    is = held_there.here.is;
    next = sym (length-append (head_of version_written 1) (records bodies) ∙ ap (λ (n : ℕ). n + length (records bodies)) (head_long version_written 1));
    closed = λ t. held_there.here.closed;
  })

-- bodies of a file that fits are bodies
pub are_bodies : (bodies : List (List ℕ)) → NoneEmpty bodies → length (records bodies) ≤ 1073741824 → AreBodies bodies
are_bodies [] none le = tt
are_bodies (b ∷ bs) none le =
    let long = length-append (open_record b) (records bs) in
    let body = length-append (to_be_bytes w32 (length b)) b in
    (record { some = none.0; fits = omega (arith, le, long, body) }, are_bodies bs none.1 (omega (arith, le, long, body)))

pub at_index : (bodies : List (List ℕ)) → AreBodies bodies → (i : ℕ) (x : List ℕ) → i < length bodies → x ≡ get_or bodies i x → IsBody x
at_index [] all i x lt is = absurd (omega (arith, lt))
at_index (b ∷ bs) all zero x lt is = subst IsBody (sym is) all.0
at_index (b ∷ bs) all (suc i) x lt is = at_index bs all.1 i x (omega (arith, lt)) is

-- one body more
pub records_take : (bodies : List (List ℕ)) (i : ℕ) (x : List ℕ) → i < length bodies → x ≡ get_or bodies i x →
    records (take (i + 1) bodies) ≡ records (take i bodies) ++ open_record x
records_take bodies i x lt is =
    ap records (take_more bodies i x lt ∙ ap (λ (b : List ℕ). take i bodies ++ b ∷ []) (sym is))
    ∙ sym (append-nil (records (take i bodies ++ x ∷ [])))
    ∙ records-push (take i bodies) x []
    ∙ ap (λ (l : List ℕ). records (take i bodies) ++ 1 ∷ l) (append-nil (to_be_bytes w32 (length x) ++ x))

-- the created journal at this place
abbrev pub created_at : ℕ → Standing
created_at n = record { side = Left; version = version_written; generation = 1; place = n; all_read = true; failed = false }

module _ (bodies : List (List ℕ)) (i : ℕ) (x y : List ℕ) (lt : i < length bodies) (is : x ≡ get_or bodies i x) (given : y ≡ x) where
  pub more : records (take (i + 1) bodies) ≡ records (take i bodies) ++ open_record y
  more = records_take bodies i x lt is ∙ ap (λ (b : List ℕ). records (take i bodies) ++ open_record b) (sym given)

  pub place_more : (place mid new : ℕ) → place ≡ told_end (end_of (take i bodies)) → mid ≡ min (place + 5) 18446744073709551615 →
      new ≡ min (mid + length y) 18446744073709551615 → new ≡ told_end (end_of (take (i + 1) bodies))
  place_more place mid new a b d =
      omega (arith, a, b, d, ap length more, length-append (records (take i bodies)) (open_record y), length-append (to_be_bytes w32 (length y)) y)

  pub bytes_more : (head old new : List ℕ) → old ≡ head ++ records (take i bodies) → new ≡ old ++ open_record y → new ≡ head ++ records (take (i + 1) bodies)
  bytes_more head old new a b =
      b ∙ ap (λ (l : List ℕ). l ++ open_record y) a ∙ append_assoc head (records (take i bodies)) (open_record y) ∙ ap (λ (l : List ℕ). head ++ l) (sym more)

  pub item_fits : AreBodies bodies → length y < 4294967296
  item_fits sizes = let b = at_index bodies sizes i x lt is in omega (arith, b.fits, ap length given)
