-- When a delta may be recorded, and that its rows are at most those of the cache behind it.
use Rattle.std.proofs.Common.{◌≡◌, ◌≤◌, ℕ, ◌+◌, Bool, true, false, not, cond, List, [], ◌∷◌, length, Option, Some, None, refl, sym, ap}
use Rattle.std.proofs.Common.{arith}
use Rattle.std.specs.Prelude.{nat_lt}
use Rattle.std.proofs.Math.Dec.{eqb, ltb}
use Rattle.std.proofs.lemmas.Bool.{eq-eqb, eqb-true, le-ltb, lt-ltb, ltb-true}
use Rattle.mail_base.specs.declared.limits.TheConstants.{MAX_ROWS}
use Rattle.mailbox_cache.specs.Rows.{put_row, put_rows, without_uids, Rises, RisesAbove}
use Rattle.mailbox_cache.specs.declared.cache.Cache.{Cache}
use Rattle.mailbox_cache.specs.declared.delta.Delta.{Delta}
use Rattle.mailbox_cache.specs.declared.row.Row.{Row}
use Rattle.action_queue.specs.Book.{Meaning, cache_at, learned}
use Rattle.action_queue.specs.Rules.{first_broken, is_unknown, is_wrong_whole, is_wrong_validity, is_lower_mark}
use Rattle.action_queue.specs.declared.event.Event.TheVariants as events
use Rattle.action_queue.specs.declared.rule.Rule.TheVariants as rule
use Rattle.action_queue.specs.declared.rule.Version.{Version}
use Rattle.qresync_core.specs.Fitting.{Fits}

-- no rule of five is broken
five : (a b c d e : Bool) → a ≡ false → b ≡ false → c ≡ false → d ≡ false → e ≡ false →
    cond a (Some rule.UnknownBox) (cond b (Some rule.WrongWhole) (cond c (Some rule.WrongValidity) (cond d (Some rule.LowerMark)
    (cond e (Some rule.TooManyRows) None)))) ≡ None
five false false false false false p q r s t = refl
five true b c d e p q r s t = absurd cc
five false true c d e p q r s t = absurd cc
five false false true d e p q r s t = absurd cc
five false false false true e p q r s t = absurd cc
five false false false false true p q r s t = absurd cc

right_whole : (kept : Option Cache) (delta : Delta) → Fits kept delta → is_wrong_whole kept delta ≡ false
right_whole None delta fits = ap not fits
right_whole (Some cache) delta fits = fits.0

right_validity : (kept : Option Cache) (delta : Delta) → Fits kept delta → is_wrong_validity kept delta ≡ false
right_validity None delta fits = refl
right_validity (Some cache) delta fits = ap not (eq-eqb cache.validity delta.validity (sym fits.1))

right_mark : (kept : Option Cache) (delta : Delta) → Fits kept delta → is_lower_mark kept delta ≡ false
right_mark None delta fits = refl
right_mark (Some cache) delta fits = le-ltb delta.highest cache.highest fits.2

pub may_learn : (version : Version) (b : Meaning) (name : List ℕ) (delta : Delta) → is_unknown b.boxes name ≡ false →
    Fits (cache_at name b.boxes) delta → length (learned (cache_at name b.boxes) delta).rows ≤ MAX_ROWS →
    first_broken version b (events.Learn name delta) ≡ None
may_learn version b name delta known fits few =
    let kept = cache_at name b.boxes in
    five (is_unknown b.boxes name) (is_wrong_whole kept delta) (is_wrong_validity kept delta) (is_lower_mark kept delta)
    (nat_lt MAX_ROWS (length (learned kept delta).rows)) known (right_whole kept delta fits) (right_validity kept delta fits)
    (right_mark kept delta fits) (le-ltb MAX_ROWS (length (learned kept delta).rows) few)

-- how many of these rows the test tells
abbrev count : (ℕ → Bool) → List (ℕ × Row) → ℕ
count test [] = 0
count test (r ∷ rows) = cond (test r.0) 1 0 + count test rows

module _ (test : ℕ → Bool) (r : ℕ × Row) (is : test r.0 ≡ true) (above : (uid : ℕ) → ltb r.0 uid ≡ true → test uid ≡ true) where
  weaker : (t : Bool) (u : Bool) → (u ≡ true → t ≡ true) → cond u 1 0 ≤ cond t 1 0
  weaker true true f = omega arith
  weaker true false f = omega arith
  weaker false true f = absurd (let e = f refl in cc)
  weaker false false f = omega arith

  more : (rows : List (ℕ × Row)) → count (λ uid. ltb r.0 uid) rows ≤ count test rows
  more [] = omega arith
  more (x ∷ rows) = omega (arith, weaker (test x.0) (ltb r.0 x.0) (above x.0), more rows)

  one : ◌≡◌ {A = ℕ} (count test (r ∷ [])) 1
  one = ap (λ (t : Bool). cond t 1 0 + 0) is

  counts_put : (rows : List (ℕ × Row)) → 1 + count (λ uid. ltb r.0 uid) rows ≤ count test (put_row r rows)
  counts_put [] = omega (arith, one)
  counts_put (x ∷ rows) = by (counts_put rows) (eqb x.0 r.0) refl (ltb r.0 x.0) refl
    where
      here : ◌≡◌ {A = ℕ} (cond (test r.0) 1 0) 1
      here = ap (λ (t : Bool). cond t 1 0) is

      by : 1 + count (λ uid. ltb r.0 uid) rows ≤ count test (put_row r rows) → (same : Bool) → eqb x.0 r.0 ≡ same → (below : Bool) →
          ltb r.0 x.0 ≡ below →
          1 + (cond below 1 0 + count (λ uid. ltb r.0 uid) rows) ≤ count test
          (cond same (r ∷ rows) (cond below (r ∷ x ∷ rows) (x ∷ put_row r rows)))
      by k true e true l = absurd (omega (arith, eqb-true x.0 r.0 e, ltb-true r.0 x.0 l))
      by k true e false l = omega (arith, here, more rows)
      by k false e true l = omega (arith, here, more rows, weaker (test x.0) true (λ t. above x.0 l))
      by k false e false l = omega (arith, k)

-- all rows of a delta are those of its cache
fit : (floor : ℕ) (new rows : List (ℕ × Row)) → RisesAbove floor new → length new ≤ count (λ uid. ltb floor uid) (put_rows new rows)
fit floor [] rows up = omega arith
fit floor (r ∷ new) rows up =
    let k : length new ≤ count (λ uid. ltb r.0 uid) (put_rows new rows) = fit r.0 new rows up.1 in
    let over : (uid : ℕ) → ltb r.0 uid ≡ true → ltb floor uid ≡ true =
    λ uid l. lt-ltb floor uid (omega (arith, up.0, ltb-true r.0 uid l)) in
    omega (arith, k, counts_put (λ uid. ltb floor uid) r (lt-ltb floor r.0 up.0) over (put_rows new rows))

all : (rows : List (ℕ × Row)) → count (λ uid. true) rows ≡ length rows
all [] = refl
all (r ∷ rows) = omega (arith, all rows)

put_fit : (new rows : List (ℕ × Row)) → Rises new → length new ≤ length (put_rows new rows)
put_fit [] rows up = omega arith
put_fit (r ∷ new) rows up =
    omega (
      arith,
      fit r.0 new rows up,
      counts_put (λ uid. true) r refl (λ uid l. refl) (put_rows new rows),
      all (put_row r (put_rows new rows)),
    )

pub rows_within : (kept : Option Cache) (delta : Delta) → Rises delta.rows → length delta.rows ≤ length (learned kept delta).rows
rows_within None delta up = omega arith
rows_within (Some cache) delta up = put_fit delta.rows (without_uids delta.vanished cache.rows) up
