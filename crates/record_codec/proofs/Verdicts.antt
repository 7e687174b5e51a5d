-- What a whole body's reading says.
use Rattle.std.proofs.Common.{◌≡◌, ◌<◌, ◌≤◌, ℕ, Bool, true, false, ◌&&◌, ◌==◌, List, [], ◌∷◌, length, Result, Ok, Err, nat_le, refl, ap}
use Rattle.std.proofs.Common.{◌∙◌, arith, if◌then◌else◌}
use Rattle.std.proofs.lemmas.Bool.{le-leb, false_from_ne_true, leb-true}
use Rattle.record_codec.specs.Reading.{Plain, plain, plain_at, place_of, all_of, body_at}
use Rattle.record_codec.specs.Refusing.{SpellsNone}
use Rattle.record_codec.proofs.Ids.{same-true}
use Rattle.record_codec.proofs.EventsSpelled.{spelled_read}

picks : (test : Bool) (x : Plain) (n : ℕ) → test ≡ false → ◌≡◌ {A = Result Plain ℕ} (if test then Ok x else Err n) (Err n)
picks test x n is = rw is refl

and_first : (x y : Bool) → x ≡ false → (x && y) ≡ false
and_first x y is = rw is refl

and_second : (x y : Bool) → y ≡ false → (x && y) ≡ false
and_second true y is = is
and_second false y is = refl

-- bytes are left over
pub too_many : (body : List ℕ) (p : Plain) (rest : List ℕ) → plain_at body ≡ Ok (p, rest) → 0 < length rest → body_at body ≡ Err (place_of body (length rest))
unfolding body_at
too_many body p [] is some = absurd (omega arith)
too_many body p (b ∷ rest) is some =
    let there : (length (b ∷ rest) == 0) ≡ false = false_from_ne_true (length (b ∷ rest) == 0)
    (λ t. let none = same-true (length (b ∷ rest)) 0 t in absurd (omega (arith, none))) in
    ap (all_of body) is
    ∙ picks ((length (b ∷ rest) == 0) && nat_le (length body) 1073741824) p (place_of body (length (b ∷ rest)))
    (and_first (length (b ∷ rest) == 0) (nat_le (length body) 1073741824) there)

-- the body is too long
pub too_long : (body : List ℕ) (p : Plain) (rest : List ℕ) → plain_at body ≡ Ok (p, rest) → length rest ≤ 0 → 1073741824 < length body →
    body_at body ≡ Err (place_of body 0)
unfolding body_at
too_long body p [] is none long =
    let over : nat_le (length body) 1073741824 ≡ false = false_from_ne_true (nat_le (length body) 1073741824)
    (λ t. let few : length body ≤ 1073741824 = leb-true (length body) 1073741824 t in absurd (omega arith)) in
    ap (all_of body) is ∙ picks (nat_le (length body) 1073741824) p (place_of body 0) over
too_long body p (b ∷ rest) is none long = absurd (omega arith)

-- all is read
pub all_read : (body : List ℕ) (p : Plain) (rest : List ℕ) → plain_at body ≡ Ok (p, rest) → length rest ≤ 0 → length body ≤ 1073741824 → body_at body ≡ Ok p
unfolding body_at
all_read body p [] is none fits = ap (all_of body) is ∙ ap (λ (t : Bool). if t then Ok p else Err (place_of body 0)) (le-leb (length body) 1073741824 fits)
all_read body p (b ∷ rest) is none fits = absurd (omega arith)

-- a field doesn't fit
pub not_read : (body : List ℕ) (left : ℕ) → plain_at body ≡ Err left → body_at body ≡ Err (place_of body left)
unfolding body_at
not_read body left is = ap (all_of body) is

-- then no event is spelled
pub none_spelled : (body : List ℕ) (at : ℕ) → body_at body ≡ Err at → SpellsNone body
none_spelled body at is event spelled = let read : body_at body ≡ Ok (plain event) = spelled_read body event spelled in absurd (cc)
