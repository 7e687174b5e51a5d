use Rattle.std.proofs.Common.{◌≡◌, ◌==◌, ◌∙◌, sym, ap, refl, true, false, Option, List, ℕ}
use Rattle.std.specs.Ordering.{match_ordering, ordering_index}
use Rattle.std.specs.declared.cmp.Ordering.{Ordering}
use Rattle.std.specs.declared.cmp.Ordering.TheVariants.{Less, Equal, Greater}
use Rattle.record_codec.specs.Reading.{last_key, stands_behind}
use Rattle.record_codec.proofs.KeyOrder.{last_key-last}
use Rattle.record_codec.proofs.reading.keys.comes_last.Goals as goal

is_less : (o : Ordering) → (ordering_index o == 0) ≡ match_ordering o true false false
is_less Less = refl
is_less Equal = refl
is_less Greater = refl

pub returns-in-Some-clause-test : goal.returns-in-Some-clause-test
returns-in-Some-clause-test c =
    let parted = sym c.keys.ensures.value ∙ c.in-Some.ensures.cases.0 in
    c.eq.ensures ∙ is_less c.cmp.result ∙ ap (λ (o : Ordering). match_ordering o true false false) c.cmp.ensures
    ∙ ap (λ (o : Option (List ℕ)). stands_behind o c.args.key.now) (sym (ap last_key parted ∙ last_key-last c.in-Some.field-0-1.now c.in-Some.last.now))
