-- A mailbox's new cache goes to the place of its name.
use Rattle.std.proofs.Common.{◌≡◌, ℕ, zero, suc, ◌+◌, ◌<◌, ◌≤◌, Bool, true, false, cond, ltb, List, [], ◌∷◌, length, slice_set, slice_get}
use Rattle.std.proofs.Common.{get_or, Option, Some, None, refl, sym, ◌∙◌, ap, arith}
use Rattle.std.specs.Prelude.{not, bytes_eq}
use Rattle.std.specs.List.{position, position_or_len}
use Rattle.std.proofs.lemmas.Bool.{cond-true, cond-false, ltb-false}
use Rattle.std.proofs.lemmas.List.Quantifiers.{position-Some}
use Rattle.std.proofs.lemmas.Slice.Eq.{bytes_eq-Decides}
use Rattle.mailbox_cache.specs.declared.cache.Cache.{Cache}
use Rattle.action_queue.specs.declared.book.Known.{Known}
use Rattle.action_queue.specs.Book.{put_cache, known_at, cache_of, cache_at}

abbrev is_named : List ℕ → Known → Bool
is_named name known = bytes_eq known.name name

abbrev renewed : List ℕ → Option Cache → Known
renewed name cache = record { name = name; cache = cache }

same_name : (name : List ℕ) (cache : Option Cache) (k : Known) → is_named name k ≡ true → record k { cache = cache } ≡ renewed name cache
same_name name cache k t = ap (λ (n : List ℕ). renewed n cache) ((bytes_eq-Decides k.name name).0 t)

put_there : (name : List ℕ) (cache : Option Cache) (boxes : List Known) (i : ℕ) (d : Known) → i < length boxes → is_named name (get_or boxes i d) ≡ true →
    ((k : ℕ) → k < i → is_named name (get_or boxes k d) ≡ false) → slice_set boxes i (renewed name cache) ≡ put_cache name cache boxes
put_there name cache [] i d l t f = absurd (omega arith)
put_there name cache (k ∷ ks) zero d l t f =
    ap (λ (x : Known). x ∷ ks) (sym (same_name name cache k t)) ∙ sym
    (cond-true (is_named name k) (record k { cache = cache } ∷ ks) (k ∷ put_cache name cache ks) t)
put_there name cache (k ∷ ks) (suc i) d l t f =
    ap (λ (xs : List Known). k ∷ xs) (put_there name cache ks i d (omega arith) t (λ j h. f (suc j) (omega arith)))
    ∙ sym (cond-false (is_named name k) (record k { cache = cache } ∷ ks) (k ∷ put_cache name cache ks) (f 0 (omega arith)))

-- at the place of the name
pub put_at : (name : List ℕ) (cache : Option Cache) (boxes : List Known) (i : ℕ) → position (is_named name) boxes ≡ Some i →
    slice_set boxes i (renewed name cache) ≡ put_cache name cache boxes
put_at name cache boxes i e =
    let at = position-Some (is_named name) boxes i (renewed name cache) e in
    put_there name cache boxes i (renewed name cache) at.0 at.1 at.2

-- of two items that are put at one place the second stays
pub set_twice : (boxes : List Known) (at : ℕ) (first second : Known) → slice_set (slice_set boxes at first) at second ≡ slice_set boxes at second
set_twice [] at first second = refl
set_twice (k ∷ ks) zero first second = refl
set_twice (k ∷ ks) (suc at) first second = ap (λ (xs : List Known). k ∷ xs) (set_twice ks at first second)

known_there : (name : List ℕ) (boxes : List Known) (i : ℕ) (d : Known) → i < length boxes → is_named name (get_or boxes i d) ≡ true →
    ((k : ℕ) → k < i → is_named name (get_or boxes k d) ≡ false) → slice_get boxes i ≡ known_at name boxes
known_there name [] i d l t f = absurd (omega arith)
known_there name (k ∷ ks) zero d l t f = sym (cond-true (is_named name k) (Some k) (known_at name ks) t)
known_there name (k ∷ ks) (suc i) d l t f =
    known_there name ks i d (omega arith) t (λ j h. f (suc j) (omega arith))
    ∙ sym (cond-false (is_named name k) (Some k) (known_at name ks) (f 0 (omega arith)))

-- the cache of the name is that of its place
pub cache_there : (name : List ℕ) (boxes : List Known) (i : ℕ) → position (is_named name) boxes ≡ Some i → cache_of (slice_get boxes i) ≡ cache_at name boxes
cache_there name boxes i e =
    let at = position-Some (is_named name) boxes i (renewed name None) e in
    ap cache_of (known_there name boxes i (renewed name None) at.0 at.1 at.2)

fail_then : (b : Bool) (n m : ℕ) → suc m ≤ cond (not b) (1 + n) 0 → (b ≡ false) × (m ≤ n)
fail_then true n m h = absurd (omega arith)
fail_then false n m h = (refl, omega arith)

put_nowhere : (name : List ℕ) (cache : Option Cache) (boxes : List Known) → length boxes ≤ position_or_len (is_named name) boxes →
    put_cache name cache boxes ≡ boxes
put_nowhere name cache [] h = refl
put_nowhere name cache (k ∷ ks) h =
    let parts = fail_then (is_named name k) (position_or_len (is_named name) ks) (length ks) h in
    cond-false (is_named name k) (record k { cache = cache } ∷ ks) (k ∷ put_cache name cache ks) parts.0
    ∙ ap (λ (xs : List Known). k ∷ xs) (put_nowhere name cache ks parts.1)

none_then : (b : Bool) (n : ℕ) → cond b (Some n) None ≡ None → b ≡ false
none_then true n e = absurd (cc)
none_then false n e = refl

-- where no mailbox has the name, nothing changes
pub put_none : (name : List ℕ) (cache : Option Cache) (boxes : List Known) → position (is_named name) boxes ≡ None → put_cache name cache boxes ≡ boxes
put_none name cache boxes e =
    put_nowhere name cache boxes (ltb-false (position_or_len (is_named name) boxes) (length boxes)
    (none_then (ltb (position_or_len (is_named name) boxes) (length boxes)) (position_or_len (is_named name) boxes) e))
