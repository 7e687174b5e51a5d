-- What a server can offer: names that are atoms, as a capability is (RFC 9051, section 9, capability).
use Rattle.std.specs.Prelude.{◌≡◌, ℕ, Bool, true, ◌&&◌, nat_lt, List, length, filter}
use Rattle.std.specs.List.{list_all}
use Rattle.std.specs.Coded.{Coded-set, coded_bool}
use Rattle.flag_set.specs.Flag.{is_atom_byte}

-- one atom byte or more
abbrev pub is_atom : List ℕ → Bool
is_atom word = nat_lt 0 (length word) && list_all is_atom_byte word

-- those of the names that are atoms: no line can tell another
abbrev pub atoms : List (List ℕ) → List (List ℕ)
atoms offers = filter is_atom offers

-- all the names are
abbrev pub AreAtoms : List (List ℕ) → Type 0
AreAtoms offers = list_all is_atom offers ≡ true

pub AreAtoms-prop : (offers : List (List ℕ)) → IsProp (AreAtoms offers)
AreAtoms-prop offers = Coded-set coded_bool (list_all is_atom offers) true
