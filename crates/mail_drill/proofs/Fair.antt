-- Where nobody else changed anything, others were fair.
use Rattle.std.proofs.Common.{◌≡◌, true, List, [], ◌∷◌, sym, subst}
use Rattle.std.proofs.lemmas.Bool.{and_parts}
use Rattle.imap_model.specs.declared.server.Server.{Server}
use Rattle.world_traits.specs.Links.{Any}
use Rattle.world_traits.specs.Moments.{Moment, Clock, Chain, grow}
use Rattle.store_core.specs.Mail.{mail}
use Rattle.play_driver.specs.Joining.{IsFair, AllFair, Grows}
use Rattle.play_driver.specs.Played.{SparesFrom, played}
use Rattle.play_driver.proofs.PlayedKept.{withstood}
use Rattle.mail_drill.specs.Alone.{is_own_at, is_alone}
use Rattle.mail_drill.proofs.Alone.{batch_alone}

fair_step : (m n : Moment) → is_own_at n ≡ true → IsFair mail played m n
fair_step m n own = record {
  each = λ files b may holds batch. subst (λ (s : Server). SparesFrom b m.outside s)
      (sym (batch_alone m.outside.server.boxes m.outside.server n.outside.server batch own)) (withstood.spared b m.outside);
}

fair_chain : (c : Clock) (added : List Moment) → is_alone (grow c added) ≡ true → Chain Any (IsFair mail played) c added
fair_chain c [] alone = tt
fair_chain c (m ∷ ms) alone =
    let both = and_parts (is_own_at m) (is_alone (grow c ms)) alone in
    (tt, fair_step (grow c ms).now m both.0, fair_chain c ms both.1)

-- so it is in any time of a clock at which nobody else changed anything
pub fair_alone : (old new : Clock) → Grows old new → is_alone new ≡ true → AllFair mail played old new
fair_alone old new grows alone = record {
  added = grows.added;
  grown = grows.grown;
  each = fair_chain old grows.added (subst (λ (c : Clock). is_alone c ≡ true) grows.grown alone);
}
