-- Where the mailbox of a name stands among those of a book.
use Rattle.std.proofs.Common.{◌≡◌, ℕ, suc, ◌<◌, ◌≤◌, ◌-◌, List, [], ◌∷◌, Option, Some, None, length, get_or, slice_get, refl, sym, ◌∙◌, ap, arith}
use Rattle.std.specs.Prelude.{bytes_eq}
use Rattle.std.proofs.lemmas.Bool.{cond_both, cond-true, cond-false}
use Rattle.std.proofs.lemmas.Option.{slice_get_past, slice_get_read}
use Rattle.std.proofs.lemmas.Slice.Eq.{bytes_eq-Decides}
use Rattle.action_queue.specs.Book.{known_at}
use Rattle.action_queue.specs.declared.book.Known.{Known}
use Rattle.local_view.specs.Touching.{place_from, place_of}

-- a place is not before the list's beginning
pub from_least : (n : ℕ) (name : List ℕ) (boxes : List Known) (at : ℕ) → place_from n name boxes ≡ Some at → n ≤ at
from_least n name [] at = λ e. absurd (cc)
from_least n name (k ∷ ks) at =
    cond_both (bytes_eq k.name name) (Some n) (place_from (suc n) name ks) (λ (o : Option ℕ). o ≡ Some at → n ≤ at)
    (λ t e. let same : n ≡ at = cc in omega (arith, same))
    (λ f e. let later : suc n ≤ at = from_least (suc n) name ks at e in omega (arith, later))

-- where the name has no place, nothing is known of it
pub nowhere : (n : ℕ) (name : List ℕ) (boxes : List Known) → place_from n name boxes ≡ None → known_at name boxes ≡ None
nowhere n name [] = λ e. refl
nowhere n name (k ∷ ks) =
    cond_both (bytes_eq k.name name) (Some n) (place_from (suc n) name ks)
    (λ (o : Option ℕ). o ≡ None → known_at name (k ∷ ks) ≡ None)
    (λ t e. absurd (cc))
    (λ f e. cond-false (bytes_eq k.name name) (Some k) (known_at name ks) f ∙ nowhere (suc n) name ks e)

-- what stands at the place of a name is what is known of it
pub there : (n : ℕ) (name : List ℕ) (boxes : List Known) (at : ℕ) → place_from n name boxes ≡ Some at →
    slice_get boxes (at - n) ≡ known_at name boxes
there n name [] at = λ e. absurd (cc)
there n name (k ∷ ks) at =
    cond_both (bytes_eq k.name name) (Some n) (place_from (suc n) name ks)
    (λ (o : Option ℕ). o ≡ Some at → slice_get (k ∷ ks) (at - n) ≡ known_at name (k ∷ ks))
    (λ t e. let gap : at - n ≡ 0 = (let same : n ≡ at = cc in omega (arith, same)) in
    ap (slice_get (k ∷ ks)) gap ∙ sym (cond-true (bytes_eq k.name name) (Some k) (known_at name ks) t))
    (λ f e. let later : suc n ≤ at = from_least (suc n) name ks at e in let gap : at - n ≡ suc (at - suc n) = omega (arith, later) in
    ap (slice_get (k ∷ ks)) gap ∙ there (suc n) name ks at e ∙ sym (cond-false (bytes_eq k.name name) (Some k) (known_at name ks) f))

at_place : (name : List ℕ) (boxes : List Known) (at : ℕ) → place_of name boxes ≡ Some at → slice_get boxes at ≡ known_at name boxes
at_place name boxes at place = let same : at ≡ at - 0 = omega arith in ap (slice_get boxes) same ∙ there 0 name boxes at place

-- the mailbox that is read there is the one that is known
pub known_there : (name : List ℕ) (boxes : List Known) (at : ℕ) (known : Known) → place_of name boxes ≡ Some at → at < length boxes →
    known ≡ get_or boxes at known → known_at name boxes ≡ Some known
known_there name boxes at known place within is = sym (at_place name boxes at place) ∙ slice_get_read boxes (length boxes) at known refl within is

-- and past the end none is known
pub known_past : (name : List ℕ) (boxes : List Known) (at : ℕ) → place_of name boxes ≡ Some at → length boxes ≤ at → known_at name boxes ≡ None
known_past name boxes at place past = sym (at_place name boxes at place) ∙ slice_get_past boxes at past

-- names at one place are one name
pub one_name : (n : ℕ) (a b : List ℕ) (boxes : List Known) (at : ℕ) → place_from n a boxes ≡ Some at → place_from n b boxes ≡ Some at → a ≡ b
one_name n a b [] at = λ e f. absurd (cc)
one_name n a b (k ∷ ks) at =
    cond_both (bytes_eq k.name a) (Some n) (place_from (suc n) a ks) (λ (o : Option ℕ). o ≡ Some at → place_from n b (k ∷ ks) ≡ Some at → a ≡ b)
    (λ t e. cond_both (bytes_eq k.name b) (Some n) (place_from (suc n) b ks) (λ (o : Option ℕ). o ≡ Some at → a ≡ b)
    (λ u f. sym ((bytes_eq-Decides k.name a).0 t) ∙ (bytes_eq-Decides k.name b).0 u)
    (λ u f. let later : suc n ≤ at = from_least (suc n) b ks at f in absurd (let same : n ≡ at = cc in omega (arith, same, later))))
    (λ t e. cond_both (bytes_eq k.name b) (Some n) (place_from (suc n) b ks) (λ (o : Option ℕ). o ≡ Some at → a ≡ b)
    (λ u f. let later : suc n ≤ at = from_least (suc n) a ks at e in absurd (let same : n ≡ at = cc in omega (arith, same, later)))
    (λ u f. one_name (suc n) a b ks at e f))
