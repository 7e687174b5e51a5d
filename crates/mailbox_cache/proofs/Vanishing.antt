-- Rows of which none is among the ranges stay as they are.
use Rattle.std.proofs.Common.{◌≡◌, ℕ, zero, suc, ◌+◌, ◌<◌, ◌≤◌, false, List, [], ◌∷◌, length, take, drop, get_or, refl, ◌∙◌, ap, arith}
use Rattle.std.proofs.lemmas.Bool.{cond-false}
use Rattle.std.proofs.lemmas.Bool.Decides.{nat_tests}
use Rattle.uid_sets.specs.declared.uid.UidRange.{UidRange}
use Rattle.mailbox_cache.specs.Rows.{has_uid, without_uids, RisesAbove, Rises, AreApart, AllBelow, StartsFrom}
use Rattle.mailbox_cache.specs.declared.row.Row.{Row}
use Rattle.mailbox_cache.proofs.Rising.{above_rises}

pub apart_stay : (ranges : List UidRange) (rows : List (ℕ × Row)) → AreApart ranges rows → without_uids ranges rows ≡ rows
apart_stay ranges [] a = refl
apart_stay ranges (r ∷ rows) a =
    cond-false (has_uid ranges r.0) (without_uids ranges rows) (r ∷ without_uids ranges rows) a.0
    ∙ ap (λ (l : List (ℕ × Row)). r ∷ l) (apart_stay ranges rows a.1)

pub apart_none : (rows : List (ℕ × Row)) → AreApart [] rows
apart_none [] = tt
apart_none (r ∷ rows) = (refl, apart_none rows)

out_first : (range : UidRange) (ranges : List UidRange) (uid : ℕ) → has_uid (range ∷ []) uid ≡ false → has_uid ranges uid ≡ false →
    has_uid (range ∷ ranges) uid ≡ false
out_first range ranges uid first others = grind (arith, nat_tests)

-- rows apart from one range and from others are apart from all of them
pub apart_both : (range : UidRange) (ranges : List UidRange) (rows : List (ℕ × Row)) → AreApart (range ∷ []) rows → AreApart ranges rows →
    AreApart (range ∷ ranges) rows
apart_both range ranges [] first others = tt
apart_both range ranges (r ∷ rows) first others = (out_first range ranges r.0 first.0 others.0, apart_both range ranges rows first.1 others.1)

below : (range : UidRange) (uid : ℕ) → uid < range.low → has_uid (range ∷ []) uid ≡ false
below range uid h = grind (arith, nat_tests)

above : (range : UidRange) (uid : ℕ) → range.high < uid → has_uid (range ∷ []) uid ≡ false
above range uid h = grind (arith, nat_tests)

all_above : (range : UidRange) (floor : ℕ) (rows : List (ℕ × Row)) → range.high ≤ floor → RisesAbove floor rows → AreApart (range ∷ []) rows
all_above range floor [] h a = tt
all_above range floor (r ∷ rows) h a =
    let l : floor < r.0 = a.0 in
    (above range r.0 (omega arith), all_above range r.0 rows (omega arith) a.1)

-- rows of which some are below the range and the others above it
pub apart_between : (range : UidRange) (rows : List (ℕ × Row)) (i : ℕ) → Rises rows → AllBelow range.low (take i rows) →
    StartsFrom (range.high + 1) (drop i rows) → AreApart (range ∷ []) rows
apart_between range [] i a b s = tt
apart_between range (r ∷ rows) zero a b s =
    let l : range.high + 1 ≤ r.0 = s in
    (above range r.0 (omega arith), all_above range r.0 rows (omega arith) a)
apart_between range (r ∷ rows) (suc i) a b s = (below range r.0 b.0, apart_between range rows i (above_rises r.0 rows a) b.1 s)

-- the same where the first one is that at a place
pub apart_here : (ranges : List UidRange) (i : ℕ) (range : UidRange) (rows : List (ℕ × Row)) → i < length ranges →
    AreApart (get_or ranges i range ∷ []) rows → AreApart (drop (suc i) ranges) rows → AreApart (drop i ranges) rows
apart_here [] i range rows h first others = absurd (omega arith)
apart_here (x ∷ ranges) zero range rows h first others = apart_both x ranges rows first others
apart_here (x ∷ ranges) (suc i) range rows h first others = apart_here ranges i range rows (omega arith) first others

-- behind the last one there is none
pub apart_end : (ranges : List UidRange) (i : ℕ) (rows : List (ℕ × Row)) → length ranges ≤ i → AreApart (drop i ranges) rows
apart_end [] zero rows h = apart_none rows
apart_end [] (suc i) rows h = apart_none rows
apart_end (x ∷ ranges) zero rows h = absurd (omega arith)
apart_end (x ∷ ranges) (suc i) rows h = apart_end ranges i rows (omega arith)
