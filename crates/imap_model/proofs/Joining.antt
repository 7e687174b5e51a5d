-- Parts behind parts.
use Rattle.std.proofs.Common.{◌≡◌, ℕ, ◌<◌, List, [], ◌∷◌, ◌++◌, length, decimal, refl, ap, sym, ◌∙◌, append_assoc, arith}
use Rattle.mail_base.specs.Frames.{header}
use Rattle.imap_model.specs.Astring.{literal}
use Rattle.imap_model.specs.CommandParts.{crlf, before, joined, ◌⌢◌}

before_before : (a b : List ℕ) (xs : List (List ℕ)) → before a (before b xs) ≡ before (a ++ b) xs
before_before a b [] = refl
before_before a b (x ∷ xs) = ap (λ y. y ∷ xs) (sym (append_assoc a b x))

before_joined : (a : List ℕ) (xs ys : List (List ℕ)) → before a (xs ⌢ ys) ≡ before a xs ⌢ ys
unfolding ◌⌢◌
before_joined a [] ys = refl
before_joined a (x ∷ []) ys = before_before a x ys
before_joined a (x ∷ y ∷ xs) ys = refl

joined_some : (x : List ℕ) (xs ys : List (List ℕ)) → 0 < length (joined x xs ys)
joined_some x [] [] = omega arith
joined_some x [] (y ∷ ys) = omega arith
joined_some x (y ∷ xs) ys = omega arith

joined_cons : (x : List ℕ) (xs ys : List (List ℕ)) → 0 < length xs → joined x xs ys ≡ x ∷ (xs ⌢ ys)
unfolding ◌⌢◌
joined_cons x [] ys some = absurd (omega arith)
joined_cons x (y ∷ xs) ys some = refl

joined_assoc : (x : List ℕ) (xs ys zs : List (List ℕ)) → joined x xs ys ⌢ zs ≡ joined x xs (ys ⌢ zs)
unfolding ◌⌢◌
joined_assoc x [] ys zs = sym (before_joined x ys zs)
joined_assoc x (y ∷ xs) ys zs =
    joined_cons x (joined y xs ys) zs (joined_some y xs ys) ∙ ap (λ r. x ∷ r) (joined_assoc y xs ys zs)

-- it doesn't matter what is put together first
pub parts_assoc : (xs ys zs : List (List ℕ)) → (xs ⌢ ys) ⌢ zs ≡ xs ⌢ (ys ⌢ zs)
unfolding ◌⌢◌
parts_assoc [] ys zs = refl
parts_assoc (x ∷ xs) ys zs = joined_assoc x xs ys zs

-- no parts behind parts
pub parts_nil : (xs : List (List ℕ)) → xs ⌢ [] ≡ xs
unfolding ◌⌢◌
parts_nil [] = refl
parts_nil (x ∷ []) = refl
parts_nil (x ∷ y ∷ xs) = ap (λ r. x ∷ r) (parts_nil (y ∷ xs))

-- parts behind a list whose last part is known
pub behind_last : (whole : List (List ℕ)) (last : List ℕ) (later : List (List ℕ)) → (whole ++ last ∷ []) ⌢ later ≡ whole ++ before last later
unfolding ◌⌢◌
behind_last [] last later = refl
behind_last (x ∷ []) last later = refl
behind_last (x ∷ y ∷ xs) last later = ap (λ r. x ∷ r) (behind_last (y ∷ xs) last later)

-- behind a part there is a part
pub some_first : (x : List ℕ) (xs ys : List (List ℕ)) → 0 < length ((x ∷ xs) ⌢ ys)
unfolding ◌⌢◌
some_first x xs ys = joined_some x xs ys

pub some_behind : (xs ys : List (List ℕ)) → 0 < length ys → 0 < length (xs ⌢ ys)
unfolding ◌⌢◌
some_behind [] ys some = some
some_behind (x ∷ xs) ys some = joined_some x xs ys

-- the one part of no bytes changes nothing in front of a part
pub begun : (xs : List (List ℕ)) → 0 < length xs → ([] ∷ []) ⌢ xs ≡ xs
unfolding ◌⌢◌
begun [] some = absurd (omega arith)
begun (x ∷ xs) some = refl

-- a literal in two parts
pub literal_is : (octets : List ℕ) → literal octets ≡ (header (decimal (length octets)) ++ crlf) ∷ octets ∷ []
unfolding ◌⌢◌
literal_is octets = refl
