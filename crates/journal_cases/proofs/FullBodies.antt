-- Bodies of which none is empty.
use Rattle.std.proofs.Common.{◌≡◌, ◌<◌, ℕ, List, [], ◌∷◌, ◌++◌, length, subst, sym}
use Rattle.journal_core.specs.Creating.{NoneEmpty}

-- one more
none_more : (bodies : List (List ℕ)) (body : List ℕ) → NoneEmpty bodies → 0 < length body → NoneEmpty (bodies ++ body ∷ [])
none_more [] body none full = (full, tt)
none_more (b ∷ bs) body none full = (none.0, none_more bs body none.1 full)

pub none_pushed : (old new : List (List ℕ)) (body : List ℕ) → NoneEmpty old → 0 < length body → new ≡ old ++ body ∷ [] → NoneEmpty new
none_pushed old new body none full is = subst NoneEmpty (sym is) (none_more old body none full)

pub none_yet : (bodies : List (List ℕ)) → bodies ≡ [] → NoneEmpty bodies
none_yet bodies is = subst NoneEmpty (sym is) tt
