-- The moments of a world in memory, counted, and that the files at each are its own.
use Rattle.std.proofs.Common.{◌≡◌, ⊎_elim, ℕ, ◌+◌, ◌-◌, ◌<◌, ◌≤◌, ltb, List, [], ◌∷◌, ◌++◌, length, get_or, drop, reverse, slice_get}
use Rattle.std.proofs.Common.{Some, sum_by, refl, sym, ◌∙◌, ap, arith}
use Rattle.std.proofs.lemmas.Bool.{cases_lt, cond-true, cond-false, lt-ltb, le-ltb}
use Rattle.std.proofs.lemmas.List.{reverse-append, length-reverse, get_or_append_left, get_or_at, drop_more}
use Rattle.std.proofs.lemmas.List.Sums.{sum_by-cons}
use Rattle.std.proofs.lemmas.Option.{slice_get_within, get_or_from_slice_get}
use Rattle.world_traits.specs.Files.{Files}
use Rattle.world_traits.specs.Links.{becomes}
use Rattle.world_traits.specs.Moments.{Moment, Clock, tick}
use Rattle.world_mem.specs.Both.{Both, torn_at}
use Rattle.world_mem.specs.Numbered.{moments, added_by, files_at}
use Rattle.world_mem.specs.Running.{Run, run, step, comes_as}
use Rattle.world_mem.specs.declared.did.Did.{Did}
use Rattle.world_mem.specs.declared.did.Did.TheVariants as did

-- a step adds so many moments
past_more : (d : Did) (s : Run) → length (step d s).clock.past ≡ length s.clock.past + added_by d
past_more (did.Wrote side at bytes) s = omega arith
past_more (did.Synced side) s = omega arith
past_more (did.Changed name change) s = omega arith
past_more did.Greeted s = omega arith
past_more (did.Heard part answered) s = omega arith
past_more did.Began s = omega arith
past_more (did.Waited held) s = omega arith
past_more did.Settled s = omega arith
past_more did.Ended s = omega arith

past_all : (log : List Did) (s : Run) → length (run log s).clock.past ≡ length s.clock.past + sum_by added_by log
past_all [] s = omega arith
past_all (d ∷ log) s = omega (arith, past_all log (step d s), past_more d s, sum_by-cons added_by d log)

pub length_moments : (log : List Did) (s : Run) → s.clock.past ≡ [] → length (moments (run log s).clock) ≡ 1 + sum_by added_by log
length_moments log s first =
    let m = (run log s).clock in
    omega (arith, length-reverse (m.now ∷ m.past), past_all log s, ap (λ (l : List Moment). length l) first)

-- one moment more comes behind all others
tick_early : (c : Clock) (x m : Moment) (i : ℕ) → i ≤ length c.past → get_or (moments (tick c x)) i m ≡ get_or (moments c) i m
tick_early c x m i le =
    ap (λ (l : List Moment). get_or l i m) (reverse-append (x ∷ []) (c.now ∷ c.past))
    ∙ get_or_append_left (moments c) (x ∷ []) m i (omega (arith, length-reverse (c.now ∷ c.past)))

now_last : (c : Clock) (m : Moment) (i : ℕ) → i ≡ length c.past → get_or (moments c) i m ≡ c.now
now_last c m i is =
    ap (λ (l : List Moment). get_or l i m) (reverse-append (c.now ∷ []) c.past)
    ∙ get_or_at (reverse c.past) c.now [] m i (length-reverse c.past ∙ sym is)

one_tick : (c : Clock) (x m : Moment) (i : ℕ) → i ≡ length c.past → get_or (moments (tick c x)) i m ≡ c.now
one_tick c x m i is = tick_early c x m i (omega arith) ∙ now_last c m i is

step_early : (d : Did) (s : Run) (m : Moment) (i : ℕ) → i ≤ length s.clock.past → get_or (moments (step d s).clock) i m ≡ get_or (moments s.clock) i m
step_early (did.Wrote side at bytes) s m i le = tick_early s.clock (step (did.Wrote side at bytes) s).clock.now m i le
step_early (did.Synced side) s m i le = tick_early s.clock (step (did.Synced side) s).clock.now m i le
step_early (did.Changed name change) s m i le = tick_early s.clock (step (did.Changed name change) s).clock.now m i le
step_early did.Greeted s m i le = tick_early s.clock (step did.Greeted s).clock.now m i le
step_early (did.Heard part answered) s m i le =
    let mid = becomes (comes_as (s.state.parts ++ part ∷ []) answered) s.clock in
    tick_early mid (step (did.Heard part answered) s).clock.now m i (omega arith) ∙ tick_early s.clock mid.now m i le
step_early did.Began s m i le = tick_early s.clock (step did.Began s).clock.now m i le
step_early (did.Waited held) s m i le = tick_early s.clock (step (did.Waited held) s).clock.now m i le
step_early did.Settled s m i le = tick_early s.clock (step did.Settled s).clock.now m i le
step_early did.Ended s m i le = tick_early s.clock (step did.Ended s).clock.now m i le

-- what was is the same whatever is done later
early : (log : List Did) (s : Run) (m : Moment) (i : ℕ) → i ≤ length s.clock.past → get_or (moments (run log s).clock) i m ≡ get_or (moments s.clock) i m
early [] s m i le = refl
early (d ∷ log) s m i le = early log (step d s) m i (omega (arith, past_more d s)) ∙ step_early d s m i le

-- at each moment that a step adds but its last the files are as before it
abbrev Before : Did → Run → Moment → ℕ → ℕ → Type 0
Before d s m i k = i ≡ length s.clock.past + k → k < added_by d → torn_at (get_or (moments (step d s).clock) i m) s.seen ≡ torn_at s.clock.now s.seen

by_one : (d : Did) (s : Run) (m x : Moment) (i k : ℕ) → (step d s).clock ≡ tick s.clock x → i ≡ length s.clock.past + k → k < 1 →
    torn_at (get_or (moments (step d s).clock) i m) s.seen ≡ torn_at s.clock.now s.seen
by_one d s m x i k one is lt =
    ap (λ (c : Clock). torn_at (get_or (moments c) i m) s.seen) one
    ∙ ap (λ (n : Moment). torn_at n s.seen) (one_tick s.clock x m i (omega arith))

before : (d : Did) (s : Run) (m : Moment) (i k : ℕ) → Before d s m i k
before (did.Wrote side at bytes) s m i k is lt = by_one (did.Wrote side at bytes) s m (step (did.Wrote side at bytes) s).clock.now i k refl is lt
before (did.Synced side) s m i k is lt = by_one (did.Synced side) s m (step (did.Synced side) s).clock.now i k refl is lt
before (did.Changed name change) s m i k is lt = by_one (did.Changed name change) s m (step (did.Changed name change) s).clock.now i k refl is lt
before did.Greeted s m i k is lt = by_one did.Greeted s m (step did.Greeted s).clock.now i k refl is lt
before (did.Heard part answered) s m i k is lt =
    let mid = becomes (comes_as (s.state.parts ++ part ∷ []) answered) s.clock in
    let x = (step (did.Heard part answered) s).clock.now in
    ⊎_elim
    (λ (first : k < 1). ap (λ (n : Moment). torn_at n s.seen) (tick_early mid x m i (omega arith) ∙ one_tick s.clock mid.now m i (omega arith)))
    (λ (second : 1 ≤ k). ap (λ (n : Moment). torn_at n s.seen) (one_tick mid x m i (omega arith)))
    (cases_lt k 1)
before did.Began s m i k is lt = by_one did.Began s m (step did.Began s).clock.now i k refl is lt
before (did.Waited held) s m i k is lt = by_one (did.Waited held) s m (step (did.Waited held) s).clock.now i k refl is lt
before did.Settled s m i k is lt = by_one did.Settled s m (step did.Settled s).clock.now i k refl is lt
before did.Ended s m i k is lt = by_one did.Ended s m (step did.Ended s).clock.now i k refl is lt

-- the files found for a number are those of the moment with it
abbrev pub Finds : List Did → Run → Moment → ℕ → ℕ → Type 0
Finds log s m i k = (seen : Files) × (files_at log s k ≡ torn_at (get_or (moments (run log s).clock) i m) seen)

here : (d : Did) (log : List Did) (s : Run) (m : Moment) (i k : ℕ) → i ≡ length s.clock.past + k → k < added_by d → Finds (d ∷ log) s m i k
here d log s m i k is lt =
    let near : i ≤ length (step d s).clock.past = omega (arith, past_more d s) in (
      s.seen,
      cond-true (ltb k (added_by d)) (torn_at s.clock.now s.seen) (files_at log (step d s) (k - added_by d)) (lt-ltb k (added_by d) lt)
          ∙ sym (ap (λ (n : Moment). torn_at n s.seen) (early log (step d s) m i near) ∙ before d s m i k is lt),
    )

later : (d : Did) (log : List Did) (s : Run) (m : Moment) (i k : ℕ) → added_by d ≤ k → Finds log (step d s) m i (k - added_by d) → Finds (d ∷ log) s m i k
later d log s m i k le found = (
  found.0,
  cond-false (ltb k (added_by d)) (torn_at s.clock.now s.seen) (files_at log (step d s) (k - added_by d)) (le-ltb k (added_by d) le)
      ∙ found.1,
)

finds : (log : List Did) (s : Run) (m : Moment) (i k : ℕ) → i ≡ length s.clock.past + k → i < length (moments (run log s).clock) → Finds log s m i k
finds [] s m i k is lt =
    let last : i ≡ length s.clock.past = omega (arith, length-reverse (s.clock.now ∷ s.clock.past)) in
    (s.seen, sym (ap (λ (n : Moment). torn_at n s.seen) (now_last s.clock m i last)))
finds (d ∷ log) s m i k is lt =
    ⊎_elim (λ (near : k < added_by d). here d log s m i k is near)
    (λ (far : added_by d ≤ k). later d log s m i k far (finds log (step d s) m i (k - added_by d) (omega (arith, past_more d s)) lt))
    (cases_lt k (added_by d))

-- the files at a moment by its number, where what was done is all that was done
pub files_there : (log : List Did) (s : Run) (m : Moment) (k : ℕ) → s.clock.past ≡ [] → slice_get (moments (run log s).clock) k ≡ Some m →
    (seen : Files) × (files_at log s k ≡ torn_at m seen)
files_there log s m k first is =
    let all = moments (run log s).clock in
    let found = finds log s m k k (omega (arith, ap (λ (l : List Moment). length l) first)) (slice_get_within all k m is) in
    (found.0, found.1 ∙ ap (λ (n : Moment). torn_at n found.0) (get_or_from_slice_get all k m m is))

-- one thing on
pub files_on : (log : List Did) (i : ℕ) (d : Did) (s : Run) (k n : ℕ) (x : Both) → i < length log → d ≡ get_or log i d → n ≡ added_by d →
    n ≤ k → files_at (drop i log) s k ≡ x → files_at (drop (i + 1) log) (step d s) (k - n) ≡ x
files_on log i d s k n x lt at is le same =
    ap (λ (a : ℕ). files_at (drop (i + 1) log) (step d s) (k - a)) is
    ∙ sym (cond-false (ltb k (added_by d)) (torn_at s.clock.now s.seen) (files_at (drop (i + 1) log) (step d s) (k - added_by d))
    (le-ltb k (added_by d) (omega arith)))
    ∙ sym (ap (λ (l : List Did). files_at l s k) (drop_more log i d lt ∙ ap (λ (e : Did). e ∷ drop (i + 1) log) (sym at)))
    ∙ same
