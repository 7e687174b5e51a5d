-- Where two bodies that begin alike go on alike: each field tells its value, and what stands behind it.
use Rattle.std.proofs.Common.{◌≡◌, ℕ, ◌<◌, ◌≤◌, ◌^◌, List, [], ◌∷◌, ◌++◌, length, refl, ap, sym, ◌∙◌, append_assoc, arith}
use Rattle.std.specs.Int.{w16, w32, w64, to_be_bytes, from_be_bytes}
use Rattle.std.specs.List.{flat_map, AllByRecursion}
use Rattle.std.proofs.lemmas.List.Concat.{flat_map-cons}
use Rattle.std.proofs.lemmas.Nat.{from_be_bytes-to_be_bytes_2, from_be_bytes-to_be_bytes_4, from_be_bytes-to_be_bytes_8}
use Rattle.mail_base.proofs.SameFront.{length_same}
use Rattle.record_codec.specs.Fields.{counted, flag_field}

pub byte_same : (b c : ℕ) (r s : List ℕ) → b ∷ r ≡ c ∷ s → (b ≡ c) × (r ≡ s)
byte_same b c r s same = (cc, cc)

pub short_same : (m n : ℕ) (r s : List ℕ) → m < 2 ^ 16 → n < 2 ^ 16 → to_be_bytes w16 m ++ r ≡ to_be_bytes w16 n ++ s → (m ≡ n) × (r ≡ s)
short_same m n r s lt lt' same =
    let both = length_same (to_be_bytes w16 m) (to_be_bytes w16 n) r s refl same in
    (sym (from_be_bytes-to_be_bytes_2 m lt) ∙ ap (from_be_bytes w16) both.0 ∙ from_be_bytes-to_be_bytes_2 n lt', both.1)

pub number_same : (m n : ℕ) (r s : List ℕ) → m < 2 ^ 32 → n < 2 ^ 32 → to_be_bytes w32 m ++ r ≡ to_be_bytes w32 n ++ s → (m ≡ n) × (r ≡ s)
number_same m n r s lt lt' same =
    let both = length_same (to_be_bytes w32 m) (to_be_bytes w32 n) r s refl same in
    (sym (from_be_bytes-to_be_bytes_4 m lt) ∙ ap (from_be_bytes w32) both.0 ∙ from_be_bytes-to_be_bytes_4 n lt', both.1)

pub long_same : (m n : ℕ) (r s : List ℕ) → m < 2 ^ 63 → n < 2 ^ 63 → to_be_bytes w64 m ++ r ≡ to_be_bytes w64 n ++ s → (m ≡ n) × (r ≡ s)
long_same m n r s lt lt' same =
    let both = length_same (to_be_bytes w64 m) (to_be_bytes w64 n) r s refl same in
    (sym (from_be_bytes-to_be_bytes_8 m (omega (arith, lt))) ∙ ap (from_be_bytes w64) both.0 ∙ from_be_bytes-to_be_bytes_8 n (omega (arith, lt')), both.1)

pub counted_same : (x y r s : List ℕ) → counted x ++ r ≡ counted y ++ s → (x ≡ y) × (r ≡ s)
counted_same x y r s same =
    let first = byte_same (length x) (length y) (x ++ r) (y ++ s) same in
    length_same x y r s first.0 first.1

-- items, one behind the other, each of which tells itself and what stands behind it
pub many_same : {A : Type 0} (f : A → List ℕ) (P : A → Type 0) (cut : (x y : A) (r s : List ℕ) → P x → P y → f x ++ r ≡ f y ++ s → (x ≡ y) × (r ≡ s))
    (xs ys : List A) (r s : List ℕ) → length xs ≡ length ys → AllByRecursion P xs → AllByRecursion P ys →
    flat_map f xs ++ r ≡ flat_map f ys ++ s → (xs ≡ ys) × (r ≡ s)
many_same f P cut [] [] r s len all all' same = (refl, same)
many_same f P cut [] (y ∷ ys) r s len all all' same = absurd (omega arith)
many_same f P cut (x ∷ xs) [] r s len all all' same = absurd (omega arith)
many_same f P cut (x ∷ xs) (y ∷ ys) r s len all all' same =
    let left : flat_map f (x ∷ xs) ++ r ≡ f x ++ (flat_map f xs ++ r) =
    ap (λ (t : List ℕ). t ++ r) (flat_map-cons f x xs) ∙ append_assoc (f x) (flat_map f xs) r in
    let right : flat_map f (y ∷ ys) ++ s ≡ f y ++ (flat_map f ys ++ s) =
    ap (λ (t : List ℕ). t ++ s) (flat_map-cons f y ys) ∙ append_assoc (f y) (flat_map f ys) s in
    let first = cut x y (flat_map f xs ++ r) (flat_map f ys ++ s) all.0 all'.0 (sym left ∙ same ∙ right) in
    let others = many_same f P cut xs ys r s (omega arith) all.1 all'.1 first.1 in
    let heads : x ≡ y = first.0 in
    let tails : xs ≡ ys = others.0 in
    (cc, others.1)

abbrev pub Any : List ℕ → Type 0
Any text = Unit {0}

all_any : (texts : List (List ℕ)) → AllByRecursion Any texts
all_any [] = tt
all_any (text ∷ texts) = (tt, all_any texts)

pub texts_same : (xs ys : List (List ℕ)) (r s : List ℕ) → length xs ≡ length ys → flat_map counted xs ++ r ≡ flat_map counted ys ++ s → (xs ≡ ys) × (r ≡ s)
texts_same xs ys r s len same =
    many_same counted Any (λ x y r s a b same. counted_same x y r s same) xs ys r s len (all_any xs) (all_any ys) same

pub flags_same : (xs ys : List (List ℕ)) (r s : List ℕ) → length xs ≤ 1024 → length ys ≤ 1024 → flag_field xs ++ r ≡ flag_field ys ++ s → (xs ≡ ys) × (r ≡ s)
flags_same xs ys r s few few' same =
    let counts = short_same (length xs) (length ys) (flat_map counted xs ++ r) (flat_map counted ys ++ s) (omega (arith, few)) (omega (arith, few')) same in
    texts_same xs ys r s counts.0 counts.1
