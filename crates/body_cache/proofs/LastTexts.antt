-- One response more behind those that were told.
use Rattle.std.proofs.Common.{◌≡◌, ◌++◌, ℕ, List, [], ◌∷◌, refl, sym, ◌∙◌, ap}
use Rattle.imap_model.specs.declared.response.Response.{Response}
use Rattle.body_cache.specs.TextFound.{in_response, text_found, then_found}
use Rattle.body_cache.specs.declared.found.TextFound.{TextFound}
use Rattle.body_cache.specs.declared.found.TextFound.TheVariants as founds

then_then : (a b c : TextFound) → then_found (then_found a b) c ≡ then_found a (then_found b c)
then_then a b founds.Gone = refl
then_then a b (founds.Text text) = refl
then_then a founds.Gone founds.Lacks = refl
then_then founds.Gone founds.Lacks founds.Lacks = refl
then_then founds.Lacks founds.Lacks founds.Lacks = refl
then_then (founds.Text text) founds.Lacks founds.Lacks = refl
then_then a (founds.Text text) founds.Lacks = refl

pub one_more : (uid : ℕ) (told : List Response) (response : Response) →
    text_found uid (told ++ response ∷ []) ≡ then_found (text_found uid told) (in_response uid response)
one_more uid [] response = first (in_response uid response)
  where
    first : (f : TextFound) → then_found f founds.Gone ≡ then_found founds.Gone f
    first founds.Gone = refl
    first founds.Lacks = refl
    first (founds.Text text) = refl
one_more uid (x ∷ told) response =
    ap (then_found (in_response uid x)) (one_more uid told response) ∙ sym (then_then (in_response uid x) (text_found uid told) (in_response uid response))
