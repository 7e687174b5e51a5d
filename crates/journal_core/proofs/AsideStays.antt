-- Calls on one side, one behind the other, that leave the other side.
use Rattle.std.proofs.Common.{ℕ, List, refl, ◌∙◌, ap, Result}
use Rattle.world_traits.specs.Files.{Files, other}
use Rattle.world_traits.specs.Moments.{Clock, stored}
use Rattle.world_traits.specs.Calls.{Looked, Wrote, Synced}
use Rattle.world_traits.specs.declared.disk.Side.{Side}
use Rattle.world_traits.proofs.OneSide.{wrote_there, synced_there}
use Rattle.world_traits.proofs.Passing.{stays_now}
use Rattle.journal_core.specs.OneSide.{IsAside}
use Rattle.journal_core.proofs.AtRest.{each_none, each_then, still_rests, through_look, through_write, through_sync}

pub aside_none : (side : Side) (k : Clock) → IsAside side k k
aside_none side k = record { beside = refl; each = λ rests. each_none k }

pub aside_then : (side : Side) (k l n : Clock) → IsAside side k l → IsAside side l n → IsAside side k n
aside_then side k l n a b = record {
  beside = b.beside ∙ a.beside;
  each = λ rests. each_then k l n (a.each rests) (b.each (still_rests (other side) k.now l.now a.beside rests));
}

pub aside_write : {T E : Type 0} (side : Side) (k l : Clock) (f g : Files) (at : ℕ) (bytes : List ℕ) (r : Result T E) →
    Wrote side at bytes k l f g r → IsAside side k l
aside_write side k l f g at bytes r w = record {
  beside = wrote_there side at bytes k l w.moment;
  each = λ rests. (through_write side k l f g rests at bytes r w).each;
}

pub aside_sync : {T E : Type 0} (side : Side) (k l : Clock) (f g : Files) (r : Result T E) → Synced side k l f g r → IsAside side k l
aside_sync side k l f g r s = record {
  beside = synced_there side k l f g r s;
  each = λ rests. (through_sync side k l f g rests r s).each;
}

pub aside_look : (side : Side) (k l : Clock) (f g : Files) → Looked k l f g → IsAside side k l
aside_look side k l f g looked = record {
  beside = ap (stored (other side)) (stays_now looked.moment);
  each = λ rests. (through_look side k l f g rests looked).each;
}
