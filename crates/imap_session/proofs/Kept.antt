-- Where nothing was told of them, all flags are kept for good.
use Rattle.std.proofs.Common.{◌≡◌, ℕ, true, List, [], ◌∷◌, Option, None, refl, sym, subst}
use Rattle.std.specs.List.{list_all}
use Rattle.imap_session.specs.Permanent.{keeps}
use Rattle.imap_session.specs.declared.permits.Permits.{Permits}

none_told : (keys : List (List ℕ)) → list_all (keeps None) keys ≡ true
none_told [] = refl
none_told (key ∷ keys) = none_told keys

pub all_kept : (permits : Option Permits) (keys : List (List ℕ)) → permits ≡ None → list_all (keeps permits) keys ≡ true
all_kept permits keys is = subst (λ (p : Option Permits). list_all (keeps p) keys ≡ true) (sym is) (none_told keys)
