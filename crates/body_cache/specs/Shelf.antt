-- The texts on a shelf, each under its key.
use Rattle.std.specs.Prelude.{◌≡◌, ◌≢◌, ◌==◌, ◌&&◌, ℕ, Bool, List, [], ◌∷◌, Option, Some, None, if◌then◌else◌}
use Rattle.std.specs.Str.{bytes_eq}
use Rattle.body_cache.specs.declared.key.Key.{Key}
use Rattle.body_cache.specs.declared.key.KeptText.{KeptText}

-- both keys are of the same message
abbrev pub is_same_key : Key → Key → Bool
is_same_key one other = bytes_eq one.name other.name && (one.validity == other.validity) && (one.uid == other.uid)

-- the text under a key, if there is one
abbrev pub text_at : Key → List KeptText → Option (List ℕ)
text_at key [] = None
text_at key (kept ∷ more) = if is_same_key kept.key key then Some kept.text else text_at key more

-- the texts under all other keys stay
abbrev pub KeepsOthers : Key → List KeptText → List KeptText → Type 0
KeepsOthers key old new = (other : Key) → other ≢ key → text_at other new ≡ text_at other old

-- the text is put under the key, and no other entry changes
pub record IsPut (key : Key) (text : List ℕ) (old new : List KeptText) : Type 0 where
  pub here : text_at key new ≡ Some text
  pub others : KeepsOthers key old new
