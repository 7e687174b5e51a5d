-- Bytes that are put behind a closed gate piece by piece.
use Rattle.std.proofs.Common.{◌≡◌, ℕ, ◌+◌, ◌-◌, ◌≤◌, List, [], ◌∷◌, ◌++◌, length, take, drop, replicate, refl, sym, ◌∙◌, ap, subst, arith}
use Rattle.std.proofs.Common.{append_assoc, length-append, take-append-drop, Result, Ok, Err, OnOk, get_or, ◌<◌, zero, suc}
use Rattle.std.proofs.lemmas.List.{append-nil, take_at, take_all}
use Rattle.std.specs.Int.{w32, to_be_bytes}
use Rattle.world_traits.specs.Files.{Range, Stored, furthest, MayHold, Files, clean, touch, put, file_of, other}
use Rattle.world_traits.specs.Moments.{Moment, Clock, stored, Only}
use Rattle.world_traits.specs.Calls.{written, Wrote}
use Rattle.world_traits.specs.declared.disk.Side.{Side}
use Rattle.world_traits.proofs.Images.{Behind, image_front, image_self}
use Rattle.world_traits.proofs.Passing.{since_start, since_then}
use Rattle.world_traits.proofs.Calls.{since_write}
use Rattle.world_traits.proofs.Sides.{stored_here, stored_there, outside_written, file_here, file_there}
use Rattle.journal_core.specs.Records.{open_record, records}
use Rattle.journal_core.specs.Gates.{IsShut, Beside, Remains}
use Rattle.journal_core.specs.Drafts.{AreBehind, IsFilled, IsDraft, StaysShut, Drafts}
use Rattle.journal_core.proofs.Aside.{only_beside}
use Rattle.journal_core.proofs.Bytes.{to_gate}
use Rattle.journal_core.proofs.Creation.{more}
use Rattle.journal_core.proofs.Remaining.{remains}

ranges_behind : (n : ℕ) (rs : List Range) → AreBehind n rs → Behind n rs
ranges_behind n [] b = tt
ranges_behind n (r ∷ rs) b = (b.0, ranges_behind n rs b.1)

least : (rs : List Range) (n : ℕ) → n ≤ furthest rs n
least [] n = omega arith
least (r ∷ rs) n = let m = least rs n in omega (arith, m)

-- in each image of such a file the gate is closed
shut_image : (front : List ℕ) (file : Stored) → IsShut front file.synced → AreBehind (length front + 1) file.written → (bytes : List ℕ) →
    MayHold file bytes → IsShut front bytes
shut_image front file s behind bytes h =
    let n = length front + 1 in
    let le : length front + 1 ≤ length file.synced = omega (arith, ap length s.is, length-append front (s.gate ∷ s.rest)) in
    let same : take (length front + 1) bytes ≡ front ++ s.gate ∷ [] =
    image_front (length front + 1) file bytes h (ranges_behind _ _ behind) le ∙ ap (take (length front + 1)) s.is
    ∙ to_gate front (length front) refl s.gate s.rest in
    record {
      gate = s.gate;
      rest = drop (length front + 1) bytes;
      closed = s.closed;
      is = sym (take-append-drop (length front + 1) bytes) ∙ ap (λ (l : List ℕ). l ++ drop (length front + 1) bytes) same
          ∙ append_assoc front (s.gate ∷ []) (drop (length front + 1) bytes);
    }

-- images of a side whose file is so
pub only_shut : (side : Side) (others front : List ℕ) (m : Moment) (file : Stored) → stored (other side) m ≡ clean others → stored side m ≡ file →
    IsShut front file.synced → AreBehind (length front + 1) file.written → Only (Beside side others (IsShut front)) m
only_shut side others front m file there is shut behind = only_beside side others m there (IsShut front) file file.synced is
    (λ b h. shut_image front file shut behind b h) (image_self file (least file.written (length file.synced)))

pub draft_only : (side : Side) (others front fresh : List ℕ) (m : Moment) (f : Files) → IsDraft side others front fresh m f →
    Only (Beside side others (IsShut front)) m
draft_only side others front fresh m f d = only_shut side others front m (stored side m) d.there refl d.shut d.behind

-- bytes put behind those that stand there
put_there : (pre more rest : List ℕ) (at : ℕ) → at ≡ length pre →
    put at more (pre ++ rest) ≡ pre ++ (more ++ drop (at + length more) (pre ++ rest))
put_there pre more rest at is =
    let tail = drop (at + length more) (pre ++ rest) in
    let none : at - length (pre ++ rest) ≡ 0 = omega (arith, is, length-append pre rest) in
    ap (λ (l : List ℕ). l ++ replicate (at - length (pre ++ rest)) 0 ++ more ++ tail) (take_at pre rest at (sym is))
    ∙ ap (λ (n : ℕ). pre ++ replicate {A = ℕ} n 0 ++ more ++ tail) none
    ∙ ap (λ (l : List ℕ). l ++ more ++ tail) (append-nil pre)
    ∙ append_assoc pre more tail

filled_more : (front fresh more bytes : List ℕ) (at : ℕ) → at ≡ length front + 1 + length fresh → IsFilled front fresh bytes →
    IsFilled front (fresh ++ more) (put at more bytes)
filled_more front fresh more bytes at next d =
    let pre = front ++ d.gate ∷ fresh in
    let long : at ≡ length (front ++ d.gate ∷ fresh) = omega (arith, next, length-append front (d.gate ∷ fresh)) in
    let split : bytes ≡ (front ++ d.gate ∷ fresh) ++ d.rest = d.is ∙ sym (append_assoc front (d.gate ∷ fresh) d.rest) in
    let tail = drop (at + length more) ((front ++ d.gate ∷ fresh) ++ d.rest) in
    record {
      gate = d.gate;
      rest = drop (at + length more) ((front ++ d.gate ∷ fresh) ++ d.rest);
      closed = d.closed;
      is = ap (put at more) split ∙ put_there (front ++ d.gate ∷ fresh) more d.rest at long
          ∙ append_assoc front (d.gate ∷ fresh) (more ++ drop (at + length more) ((front ++ d.gate ∷ fresh) ++ d.rest))
          ∙ ap (λ (l : List ℕ). front ++ d.gate ∷ l) (sym (append_assoc fresh more (drop (at + length more) ((front ++ d.gate ∷ fresh) ++ d.rest))));
    }

-- one write more
module _ (side : Side) (others front fresh : List ℕ) (k l : Clock) (f g : Files) (d : IsDraft side others front fresh k.now f) (at : ℕ)
    (more : List ℕ) (next : at ≡ length front + 1 + length fresh) where
  abbrev pub B : Files → Type 0
  B = Beside side others (IsShut front)

  only_now : Only (Beside side others (IsShut front)) k.now
  only_now = draft_only side others front fresh k.now f d

  still_behind : AreBehind (length front + 1) (touch at (length more) (stored side k.now)).written
  still_behind = (omega (arith, next), d.behind)

  only_written : Only (Beside side others (IsShut front)) (written side at more k.now)
  only_written = only_shut side others front (written side at more k.now) (touch at (length more) (stored side k.now))
      (stored_there side _ k.now ∙ d.there) (stored_here side _ k.now) d.shut still_behind

  pub drafts_passing : {V E : Type 0} (r : Result V E) → Wrote side at more k l f g r → StaysShut side others front k l
  drafts_passing r w = since_write (Only B) (Remains B) side k k l f g (since_start (Only B) (Remains B) k) only_now
      (remains B k.now k.now refl only_now only_now) at more r w only_written
      (remains B k.now _ (outside_written side at more k.now) only_now only_written)

  pub drafts_done : {V E : Type 0} (x : V) → Wrote {T = V} {E = E} side at more k l f g (Ok x) → IsDraft side others front (fresh ++ more) l.now g
  drafts_done x w =
      let here : stored side l.now ≡ touch at (length more) (stored side k.now) = ap (λ (c : Clock). stored side c.now) w.done ∙ stored_here side _ k.now in
      record {
        there = ap (λ (c : Clock). stored (other side) c.now) w.done ∙ stored_there side _ k.now ∙ d.there;
        same = ap (file_of (other side)) w.seen_now ∙ file_there side _ f ∙ d.same;
        shut = subst (λ (s : Stored). IsShut front s.synced) (sym here) d.shut;
        behind = subst (λ (s : Stored). AreBehind (length front + 1) s.written) (sym here) still_behind;
        filled = subst (IsFilled front (fresh ++ more)) (sym (ap (file_of side) w.seen_now ∙ file_here side _ f))
            (filled_more front fresh more (file_of side f) at next d.filled);
      }

-- a write that failed, or not
pub not_drafted : {V E X F : Type 0} (side : Side) (at : ℕ) (more : List ℕ) (k l : Clock) (f g : Files) (r : Result V E) (s : Result X F) (e : F) →
    s ≡ Err e → Wrote side at more k l f g r → Drafts side at more k l f g s
not_drafted side at more k l f g r s e err w others front fresh d next = record {
  passing = drafts_passing side others front fresh k l f g d at more next r w;
  done = subst (λ (q : _). OnOk q (IsDraft side others front (fresh ++ more) l.now g)) (sym err) tt;
}

pub drafted : {V E X F : Type 0} (side : Side) (at : ℕ) (more : List ℕ) (k l : Clock) (f g : Files) (x : V) (y : X) →
    Wrote {T = V} {E = E} side at more k l f g (Ok x) → Drafts {T = X} {E = F} side at more k l f g (Ok y)
drafted side at more k l f g x y w others front fresh d next = record {
  passing = drafts_passing side others front fresh k l f g d at more next (Ok x) w;
  done = drafts_done side others front fresh k l f g d at more next x w;
}

-- nothing put
pub drafts_none : {X F : Type 0} (side : Side) (at : ℕ) (k : Clock) (f : Files) (y : X) → Drafts {T = X} {E = F} side at [] k k f f (Ok y)
drafts_none side at k f y others front fresh d next = record {
  passing = since_start _ _ k;
  done = subst (λ (l : List ℕ). IsDraft side others front l k.now f) (sym (append-nil fresh)) d;
}

regroup : {X F : Type 0} (side : Side) (others front p q : List ℕ) (n : Clock) (h : Files) (r : Result X F) → p ≡ q →
    OnOk r (IsDraft side others front p n.now h) → OnOk r (IsDraft side others front q n.now h)
regroup side others front p q n h (Ok y) is d = subst (λ (l : List ℕ). IsDraft side others front l n.now h) is d
regroup side others front p q n h (Err e) is d = tt

-- pieces one behind the other
module _ (side : Side) (at : ℕ) (one two : List ℕ) (k l n : Clock) (f g h : Files) where
  pub drafts_then : {V E X F : Type 0} (x : V) (r : Result X F) (then_at : ℕ) → then_at ≡ at + length one → Drafts {T = V} {E = E} side at one k l f g (Ok x) →
      Drafts side then_at two l n g h r → Drafts side at (one ++ two) k n f h r
  drafts_then x r then_at is a b others front fresh d next =
      let first = a others front fresh d next in
      let second = b others front (fresh ++ one) first.done (omega (arith, is, next, length-append fresh one)) in
      record {
        passing = since_then _ _ k l n first.passing second.passing;
        done = regroup side others front (fresh ++ one ++ two) (fresh ++ (one ++ two)) n h r (append_assoc fresh one two) second.done;
      }

-- the same result under another name, and of another error
pub drafts_failed : {X F Y G : Type 0} (side : Side) (at : ℕ) (some all : List ℕ) (k l : Clock) (f g : Files) (r : Result X F) (s : Result Y G) (e : G) →
    s ≡ Err e → Drafts side at some k l f g r → Drafts side at all k l f g s
drafts_failed side at some all k l f g r s e err a others front fresh d next = record {
  passing = (a others front fresh d next).passing;
  done = subst (λ (q : _). OnOk q (IsDraft side others front (fresh ++ all) l.now g)) (sym err) tt;
}

-- the same bytes
pub drafts_as : {X F : Type 0} (side : Side) (at : ℕ) (p q : List ℕ) (k l : Clock) (f g : Files) (r : Result X F) → p ≡ q → Drafts side at p k l f g r →
    Drafts side at q k l f g r
drafts_as side at p q k l f g r is a = subst (λ (b : List ℕ). Drafts side at b k l f g r) is a

-- a record's head of five bytes, and its body
pub record_parts : {X F : Type 0} (side : Side) (at : ℕ) (size body : List ℕ) (k l : Clock) (f g : Files) (r : Result X F) → size ≡ to_be_bytes w32 (length body) →
    Drafts side at (1 ∷ get_or size 0 0 ∷ get_or size 1 0 ∷ get_or size 2 0 ∷ get_or size 3 0 ∷ body) k l f g r → Drafts side at (open_record body) k l f g r
record_parts side at size body k l f g r is a =
    subst (λ (b : List ℕ). Drafts side at b k l f g r)
    (ap (λ (s : List ℕ). 1 ∷ get_or s 0 0 ∷ get_or s 1 0 ∷ get_or s 2 0 ∷ get_or s 3 0 ∷ body) is) a

-- records of some of these bodies have no more bytes than those of all
pub records_within : (n : ℕ) (bodies : List (List ℕ)) → length (records (take n bodies)) ≤ length (records bodies)
records_within zero bodies = omega arith
records_within (suc n) [] = omega arith
records_within (suc n) (b ∷ bs) =
    let rest = records_within n bs in
    omega (arith, rest, length-append (open_record b) (records (take n bs)), length-append (open_record b) (records bs))

module _ (bodies : List (List ℕ)) (i : ℕ) (x y : List ℕ) (lt : i < length bodies) (is : x ≡ get_or bodies i x) (given : y ≡ x) where
  -- one record more has room, and where it ends
  pub record_fits : (at place bound : ℕ) → place ≡ at + length (records (take i bodies)) → at + length (records bodies) ≤ bound →
      place + length (open_record y) ≤ bound
  record_fits at place bound there room =
      omega (
        arith,
        there,
        room,
        records_within (i + 1) bodies,
        ap length (more bodies i x y lt is given),
        length-append (records (take i bodies)) (open_record y),
      )

  pub place_on : (at place next : ℕ) → place ≡ at + length (records (take i bodies)) → next ≡ place + length (open_record y) →
      next ≡ at + length (records (take (i + 1) bodies))
  place_on at place next there is_next =
      omega (arith, there, is_next, ap length (more bodies i x y lt is given), length-append (records (take i bodies)) (open_record y))

pub all_records : {X F : Type 0} (bodies : List (List ℕ)) (i : ℕ) (side : Side) (at : ℕ) (k l : Clock) (f g : Files) (r : Result X F) → length bodies ≤ i →
    Drafts side at (records (take i bodies)) k l f g r → Drafts side at (records bodies) k l f g r
all_records bodies i side at k l f g r le a = subst (λ (bs : List (List ℕ)). Drafts side at (records bs) k l f g r) (take_all i bodies le) a
