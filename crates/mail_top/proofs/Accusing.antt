-- Whom a command accuses that calls a store, and calls it again behind calls in which nothing failed.
use Rattle.std.proofs.Common.{◌≡◌, ℕ, arith, ◌∙◌, subst}
use Rattle.world_traits.specs.Calls.{Rose}
use Rattle.world_traits.specs.declared.clocked.Clocked.{Ghosts}
use Rattle.journal_core.specs.Blames.{BlamesWhere}

-- the disk's count and the link stayed up to here
module _ {Self : Type 0} (D : Ghosts Self) (old mid : Self) (link : D.link mid ≡ D.link old) (unfailed : D.disk_faults mid ≡ D.disk_faults old) where
  -- and the command ends here for another cause
  pub blames_none : (P : Type 0) → (P → ⊥) → BlamesWhere D old mid P
  blames_none P never = record {
    link = link;
    count = omega (arith, unfailed);
    cause = λ is. absurd (never is);
    unfailed = λ other. unfailed;
  }

  -- or by the fault of one more call
  pub blames_behind : (new : Self) (P Q : Type 0) → (Q → P) → (P → Q) → BlamesWhere D mid new P → BlamesWhere D old new Q
  blames_behind new P Q to of blames = record {
    link = blames.link ∙ link;
    count = omega (arith, unfailed, blames.count);
    cause = λ is. subst (λ (n : ℕ). Rose n (D.disk_faults new)) unfailed (blames.cause (to is));
    unfailed = λ other. blames.unfailed (λ is. other (of is)) ∙ unfailed;
  }
