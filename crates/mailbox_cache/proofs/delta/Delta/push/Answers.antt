-- A row above the last one, apart from the vanished ones, keeps the rows so; and so does none.
use Rattle.std.proofs.Common.{◌≡◌, ◌<◌, false, ℕ, List, [], ◌∷◌, ◌++◌, Result, Ok, Err, OnOk, OnErr, sym, subst}
use Rattle.uid_sets.specs.declared.uid.UidRange.{UidRange}
use Rattle.mailbox_cache.specs.Rows.{Rises, AreApart, has_uid, last_uid}
use Rattle.mailbox_cache.specs.declared.row.Row.{Row}
use Rattle.mailbox_cache.proofs.Rising.{push_rises, push_apart}
use Rattle.mailbox_cache.proofs.delta.Delta.push.Goals as goal

module _ (ranges : List UidRange) (rows new : List (ℕ × Row)) (e : ℕ × Row) (above : last_uid rows < e.0)
    (is_apart : has_uid ranges e.0 ≡ false) (rising : Rises rows) (apart : AreApart ranges rows) where
  kept : {T E : Type 0} (r : Result T E) → OnOk r (new ≡ rows ++ e ∷ []) → OnErr r (new ≡ rows) → Rises new × AreApart ranges new
  kept (Ok u) done same = (
    subst Rises (sym done) (push_rises rows e above rising),
    subst (AreApart ranges) (sym done) (push_apart ranges rows e is_apart apart),
  )
  kept (Err f) done same = (subst Rises (sym same) rising, subst (AreApart ranges) (sym same) apart)

pub invariant_of-self : goal.invariant_of-self
invariant_of-self c =
    let old = c.args.self.now in
    let both = kept old.vanished old.rows c.push.new.self (c.args.uid, c.args.row) c.requires.above c.requires.apart old.rising old.apart
    c.push.result c.push.ensures.done c.push.ensures.kept in
    record { rising = both.0; apart = both.1 }
