-- What is found as it stands is found where ASCII's case doesn't count.
use Rattle.std.proofs.Common.{◌≡◌, ◌⊎◌, inl, inr, ℕ, true, List, [], ◌∷◌, take, length, sym, ◌∙◌, ap}
use Rattle.std.specs.Prelude.{nat_eq}
use Rattle.std.specs.Char.{to_ascii_lowercase}
use Rattle.std.specs.List.{list_any, starts_with}
use Rattle.std.proofs.lemmas.Bool.{or_cases, or_left, or_right}
use Rattle.std.proofs.lemmas.List.{take-map, length-map}
use Rattle.mail_header.specs.Folding.{unfolded}
use Rattle.mail_header.specs.Identifier.{PlacedBody, id_bodies}
use Rattle.imap_model.specs.Searching.{holds_part, lower, has_in_id, has_in_id_caseless}
use Rattle.imap_model.proofs.Finding.{same_name, names_same}

begins_lower : (part text : List ℕ) → starts_with nat_eq text part ≡ true → starts_with nat_eq (lower text) (lower part) ≡ true
begins_lower part text t =
    let e : part ≡ take (length part) text = same_name part (take (length part) text) t in
    names_same (lower part) (take (length (lower part)) (lower text))
    (ap lower e ∙ sym (take-map to_ascii_lowercase (length part) text) ∙ sym (ap (λ (n : ℕ). take n (lower text)) (length-map part to_ascii_lowercase)))

one_of : (part : List ℕ) (byte : ℕ) (rest : List ℕ) → (holds_part part rest ≡ true → holds_part (lower part) (lower rest) ≡ true) →
    (starts_with nat_eq (byte ∷ rest) part ≡ true) ⊎ (holds_part part rest ≡ true) → holds_part (lower part) (lower (byte ∷ rest)) ≡ true
one_of part byte rest f (inl t) = or_left (starts_with nat_eq (lower (byte ∷ rest)) (lower part)) (holds_part (lower part) (lower rest))
    (begins_lower part (byte ∷ rest) t)
one_of part byte rest f (inr t) = or_right (starts_with nat_eq (lower (byte ∷ rest)) (lower part)) (holds_part (lower part) (lower rest)) (f t)

holds_lower : (part text : List ℕ) → holds_part part text ≡ true → holds_part (lower part) (lower text) ≡ true
holds_lower part [] t = begins_lower part [] t
holds_lower part (byte ∷ rest) t = one_of part byte rest (holds_lower part rest) (or_cases (starts_with nat_eq (byte ∷ rest) part) (holds_part part rest) t)

any_lower : (part : List ℕ) (bodies : List PlacedBody) → list_any (λ (b : PlacedBody). holds_part part (unfolded b.body)) bodies ≡ true →
    list_any (λ (b : PlacedBody). holds_part (lower part) (lower (unfolded b.body))) bodies ≡ true
any_lower part [] t = t
any_lower part (b ∷ bodies) t =
    one_more part b bodies (any_lower part bodies) (or_cases (holds_part part (unfolded b.body))
    (list_any (λ (c : PlacedBody). holds_part part (unfolded c.body)) bodies) t)
  where
    one_more : (part : List ℕ) (b : PlacedBody) (bodies : List PlacedBody) →
        (list_any (λ (c : PlacedBody). holds_part part (unfolded c.body)) bodies ≡ true →
        list_any (λ (c : PlacedBody). holds_part (lower part) (lower (unfolded c.body))) bodies ≡ true) →
        (holds_part part (unfolded b.body) ≡ true) ⊎ (list_any (λ (c : PlacedBody). holds_part part (unfolded c.body)) bodies ≡ true) →
        list_any (λ (c : PlacedBody). holds_part (lower part) (lower (unfolded c.body))) (b ∷ bodies) ≡ true
    one_more part b bodies f (inl u) = or_left (holds_part (lower part) (lower (unfolded b.body)))
        (list_any (λ (c : PlacedBody). holds_part (lower part) (lower (unfolded c.body))) bodies) (holds_lower part (unfolded b.body) u)
    one_more part b bodies f (inr u) = or_right (holds_part (lower part) (lower (unfolded b.body)))
        (list_any (λ (c : PlacedBody). holds_part (lower part) (lower (unfolded c.body))) bodies) (f u)

pub found_caseless : (part text : List ℕ) → has_in_id part text ≡ true → has_in_id_caseless part text ≡ true
found_caseless part text t = any_lower part (id_bodies text) t
