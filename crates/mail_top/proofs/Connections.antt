-- How a command connects: at first, or not at all.
use Rattle.std.proofs.Common.{◌≡◌, inl, inr, refl, ap, subst}
use Rattle.imap_model.specs.Talking.{Connecting}
use Rattle.world_traits.specs.LinkState.{LinkState}
use Rattle.world_traits.specs.Links.{Any, LinkStep}
use Rattle.world_traits.specs.Moments.{Moment, Clock, Since}
use Rattle.world_traits.proofs.Passing.{since_start, since_weaker}
use Rattle.store_core.specs.HeldActions.{KeepsActions}
use Rattle.play_driver.specs.Accuses.{ConnectsOnce}
use Rattle.play_driver.specs.Questioning.{ConnectsFirst, RunStep}
use Rattle.mail_top.specs.Connecting.{ConnectsAtFirst, SameOutside}
use Rattle.mail_top.specs.Leaving.{KeepsStep}
use Rattle.mail_top.specs.Readying.{NoTurnDue}
use Rattle.mail_top.specs.Words.{Request, Play}
use Rattle.mail_top.proofs.Repeated.{outside_same}

-- none is made where what isn't on the disk stays
none_made : (k l : Clock) → Since Any SameOutside k l → ConnectsAtFirst k l
none_made k l stays = record {
  first = l;
  opens = stays;
  ready = inl refl;
  run = record { at = l; connects = since_start Any (LinkStep Connecting) l; behind = since_start Any RunStep l };
}

pub nothing_made : (k : Clock) → ConnectsAtFirst k k
nothing_made k = none_made k k (since_start Any SameOutside k)

-- nor by a command that works with the files alone
pub request_alone : (request : Request) → (request ≡ Play → ⊥) → (P : Moment → Type 0) (k l : Clock) → Since P (KeepsStep request) k l → ConnectsAtFirst k l
request_alone request never P k l s =
    none_made k l (since_weaker P Any (KeepsStep request) SameOutside (λ m p. tt) (λ m n step. outside_same request m n never step.outside) k l s)

-- nor while the journal is made ready
module _ (P : Moment → Type 0) (k l : Clock) (readies : Since P KeepsActions k l) where
  readying : Since Any SameOutside k l
  readying = since_weaker P Any KeepsActions SameOutside (λ m p. tt) (λ m n step. step.outside) k l readies

  pub readies_alone : ConnectsAtFirst k l
  readies_alone = none_made k l readying

  -- behind that the run makes one
  pub readies_then : (n : Clock) → NoTurnDue l.now → ConnectsFirst RunStep l n → ConnectsAtFirst k n
  readies_then n ready run = record { first = l; opens = readying; ready = inr ready; run = run }

-- a link that stays makes no connection
pub none_once : (k l : LinkState) → l ≡ k → ConnectsOnce k l
none_once k l same = inl (ap (λ (s : LinkState). s.earlier) same)

-- and what is made behind one that stayed is made in all
pub then_once : (k l n : LinkState) → l ≡ k → ConnectsOnce l n → ConnectsOnce k n
then_once k l n same once = subst (λ (s : LinkState). ConnectsOnce s n) same once
