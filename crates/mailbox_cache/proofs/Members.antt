-- The test of a UID among ranges.
use Rattle.std.proofs.Common.{◌≤◌, ℕ, List, [], ◌∷◌, leb, ◌&&◌}
use Rattle.std.specs.Bool.{Decides}
use Rattle.std.proofs.lemmas.Bool.Decides.{Decides-like, Decides-and, Decides-or}
use Rattle.std.proofs.lemmas.Bool.{leb-true, le-leb}
use Rattle.uid_sets.specs.UidSet.{Member}
use Rattle.uid_sets.specs.declared.uid.UidRange.{UidRange}
use Rattle.mailbox_cache.specs.Rows.{has_uid}

Decides-leb : (a b : ℕ) → Decides (leb a b) (a ≤ b)
Decides-leb a b = (leb-true a b, le-leb a b)

pub has_uid-Decides : (ranges : List UidRange) (uid : ℕ) → Decides (has_uid ranges uid) (Member ranges uid)
has_uid-Decides [] uid = (λ e. absurd (cc), λ m. absurd m)
has_uid-Decides (range ∷ ranges) uid =
    Decides-or (leb range.low uid && leb uid range.high) (has_uid ranges uid)
    (Decides-like (leb range.low uid && leb uid range.high) (λ p. record { above = p.0; below = p.1 }) (λ w. (w.above, w.below))
    (Decides-and (leb range.low uid) (leb uid range.high) (Decides-leb range.low uid) (Decides-leb uid range.high)))
    (has_uid-Decides ranges uid)
