use Rattle.std.proofs.Common.{◌≡◌, true, OnOk, IfErr, sym, ◌∙◌, subst}
use Rattle.flag_set.specs.FlagSet.{IsGap, IsRising, has}
use Rattle.flag_set.proofs.Members.{place_found, place_gap}
use Rattle.flag_set.proofs.flag_set.FlagSet.place.Goals as goal

pub returns-clause-found : goal.returns-clause-found
returns-clause-found c =
    subst (λ keys. OnOk c.binary_search.result (has keys c.args.key.now ≡ true)) (c.as_slice.ensures ∙ c.self.view_is)
    (place_found _ _ _ c.binary_search.ensures.bound c.binary_search.ensures.position)

pub returns-clause-gap : goal.returns-clause-gap
returns-clause-gap c =
    let up : IsRising c.as_slice.result.now = subst IsRising (sym c.as_slice.ensures) c.self.invariant.rising in
    subst (λ keys. IfErr c.binary_search.result (IsGap keys c.args.key.now)) (c.as_slice.ensures ∙ c.self.view_is)
    (place_gap _ _ _ up c.binary_search.ensures.bound c.binary_search.ensures.position)
