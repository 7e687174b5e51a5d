-- Where at most one side has ranges that no sync followed: what calls do to that.
use Rattle.std.proofs.Common.{◌≡◌, inl, inr, ℕ, List, [], length, refl, sym, ◌∙◌, ap, subst, Result, Ok, Err}
use Rattle.world_traits.specs.Files.{Range, Stored, MayHold, Files, clean, touch, file_of, other}
use Rattle.world_traits.specs.Links.{Any, LinkStep, Linked}
use Rattle.imap_model.specs.Talking.{Peer}
use Rattle.world_traits.specs.Moments.{Moment, MayLeave, Clock, OneSideAtRest, Rests, stored, restarted}
use Rattle.world_traits.specs.Calls.{MayBecome, Synced, written, settled}
use Rattle.world_traits.specs.declared.disk.Side.{Side}
use Rattle.world_traits.specs.declared.disk.Side.TheVariants.{Left, Right}
use Rattle.world_traits.proofs.Sides.{stored_here, stored_there, may_hold, rests_on}
use Rattle.world_traits.proofs.Passing.{stays_now}
use Rattle.world_traits.proofs.Traces.{carried_now}
use Rattle.world_traits.proofs.Images.{image_clean}

-- a file without ranges is its synced bytes
pub clean_of : (file : Stored) → file.written ≡ [] → file ≡ clean file.synced
clean_of file none = ap (λ (rs : List Range). record file { written = rs }) none

-- a side without ranges is on the disk
pub stored_clean : (side : Side) (m : Moment) → (stored side m).written ≡ [] → stored side m ≡ clean (stored side m).synced
stored_clean side m none = clean_of (stored side m) none

-- and reads as those bytes
pub rest_reads : (side : Side) (m : Moment) (seen : Files) → (stored side m).written ≡ [] → MayLeave m seen → stored side m ≡ clean (file_of side seen)
rest_reads side m seen none h =
    let is = stored_clean side m none in
    is ∙ ap clean (sym (image_clean (stored side m).synced (file_of side seen)
    (subst (λ (s : Stored). MayHold s (file_of side seen)) is (may_hold side m seen h))))

-- a disk at rest
pub one_at_rest : (m : Moment) (seen : Files) → Rests m seen → OneSideAtRest m
one_at_rest m seen rests = record { side = Left; rests = ap (λ (s : Stored). s.written) rests.left }

-- a write beside a side at rest
pub one_written : (side : Side) (at : ℕ) (bytes : List ℕ) (m : Moment) → (stored (other side) m).written ≡ [] → OneSideAtRest (written side at bytes m)
one_written side at bytes m none = record { side = other side; rests = ap (λ (s : Stored). s.written) (stored_there side _ m) ∙ none }

-- a sync of any side
pub one_settled : (side : Side) (bytes : List ℕ) (m : Moment) → OneSideAtRest (settled side bytes m)
one_settled side bytes m = record { side = side; rests = ap (λ (s : Stored). s.written) (stored_here side (clean bytes) m) }

-- a stop
pub one_restarted : (files : Files) (m : Moment) → OneSideAtRest (restarted files m)
one_restarted files m = record { side = Left; rests = refl }

-- a write of one side leaves the other, and so does a sync
pub wrote_there : (side : Side) (at : ℕ) (bytes : List ℕ) (k l : Clock) → MayBecome (written side at bytes k.now) k l →
    stored (other side) l.now ≡ stored (other side) k.now
wrote_there side at bytes k l (inl stays) = ap (stored (other side)) (stays_now stays)
wrote_there side at bytes k l (inr is) = ap (λ (c : Clock). stored (other side) c.now) is
    ∙ stored_there side (touch at (length bytes) (stored side k.now)) k.now

pub synced_there : {T E : Type 0} (side : Side) (k l : Clock) (f g : Files) (r : Result T E) → Synced side k l f g r →
    stored (other side) l.now ≡ stored (other side) k.now
synced_there side k l f g (Ok x) s = ap (λ (c : Clock). stored (other side) c.now) s.done ∙ stored_there side (clean (file_of side f)) k.now
synced_there side k l f g (Err e) s = ap (stored (other side)) (stays_now s.failed)

-- where all was on the disk, and one side was left since
pub one_left : (side : Side) (m n : Moment) (seen : Files) → Rests m seen → stored (other side) n ≡ stored (other side) m → OneSideAtRest n
one_left side m n seen rests same = record { side = other side; rests = ap (λ (s : Stored). s.written) (same ∙ rests_on (other side) m seen rests) }

-- link calls leave both
pub one_linked : (S : Peer → Peer → Type 0) (k l : Clock) → OneSideAtRest k.now → Linked S k l → OneSideAtRest l.now
one_linked S k l one linked = carried_now Any OneSideAtRest (LinkStep S) step k one l linked
  where
    same : (side : Side) (m n : Moment) → LinkStep S m n → stored side n ≡ stored side m
    same Left m n s = s.left
    same Right m n s = s.right

    step : (m n : Moment) → Any n → LinkStep S m n → OneSideAtRest m → OneSideAtRest n
    step m n any s o = record { side = o.side; rests = ap (λ (f : Stored). f.written) (same o.side m n s) ∙ o.rests }
