-- A key behind the last one of a set comes last in it.
use Rattle.std.proofs.Common.{◌≡◌, ℕ, true, false, List, [], ◌∷◌, ◌++◌, Some, refl, ap, ◌∙◌}
use Rattle.std.proofs.lemmas.Cmp.{nat_list_cmp_total}
use Rattle.std.specs.Ordering.{match_ordering}
use Rattle.std.specs.declared.cmp.Ordering.{Ordering}
use Rattle.std.specs.declared.cmp.Ordering.TheVariants.{Less, Equal, Greater}
use Rattle.flag_set.specs.FlagSet.{order, IsRising, put}
use Rattle.flag_set.proofs.Order.{put_behind}
use Rattle.record_codec.specs.Reading.{last_key, stands_behind}

pub last_key-last : (keys : List (List ℕ)) (key : List ℕ) → last_key (keys ++ key ∷ []) ≡ Some key
last_key-last [] key = refl
last_key-last (first ∷ []) key = refl
last_key-last (first ∷ next ∷ keys) key = last_key-last (next ∷ keys) key

less_of : (o : Ordering) → match_ordering o true false false ≡ true → o ≡ Less
less_of Less is = refl
less_of Equal is = absurd (cc)
less_of Greater is = absurd (cc)

pub less_from : (before key : List ℕ) → stands_behind (Some before) key ≡ true → order before key ≡ Less
less_from before key is = less_of (order before key) is

first_below : (first key : List ℕ) (rest : List (List ℕ)) → IsRising (first ∷ rest) → stands_behind (last_key (first ∷ rest)) key ≡ true →
    order first key ≡ Less
first_below first key [] rising stands = less_from first key stands
first_below first key (next ∷ rest) rising stands =
    nat_list_cmp_total.trans first next key rising.0.0 (first_below next key rest rising.1 stands)

pub put_last : (key : List ℕ) (keys : List (List ℕ)) → IsRising keys → stands_behind (last_key keys) key ≡ true → put key keys ≡ keys ++ key ∷ []
put_last key [] rising stands = refl
put_last key (first ∷ []) rising stands = put_behind key first [] (first_below first key [] rising stands)
put_last key (first ∷ next ∷ rest) rising stands =
    put_behind key first (next ∷ rest) (first_below first key (next ∷ rest) rising stands)
    ∙ ap (λ keys. first ∷ keys) (put_last key (next ∷ rest) rising.1 stands)
