-- The test of a text's Message-ID tells what it is.
use Rattle.std.proofs.Common.{◌≡◌, ◌≢◌, ◌<◌, ◌≤◌, ℕ, Bool, true, false, ◌&&◌, ◌==◌, List, [], ◌∷◌, ◌++◌, length, Option, Some, None}
use Rattle.std.proofs.Common.{nat_le, refl, sym, ap, subst, ◌∙◌, arith, if◌then◌else◌}
use Rattle.std.specs.Prelude.{All}
use Rattle.std.proofs.lemmas.Bool.{and_parts, leb-true, le-leb}
use Rattle.std.proofs.lemmas.Bool.Decides.{nat_tests}
use Rattle.std.proofs.lemmas.List.Elements.{All-nil, All-cons, All-head, All-tail}
use Rattle.mail_header.specs.Identifier.{IsIdByte, IsId, PlacedBody, id_bodies, id_of, HasMessageId}
use Rattle.record_codec.specs.Reading.{is_id_byte, ends_id, is_id, the_id}

pub and_true : (x y : Bool) → x ≡ true → y ≡ true → (x && y) ≡ true
and_true x y p q = rw (p, q) refl

id_byte-true : (b : ℕ) → is_id_byte b ≡ true → IsIdByte b
id_byte-true b is = record {
  low = grind (arith, nat_tests);
  high = grind (arith, nat_tests);
  left = grind (arith, nat_tests);
  right = grind (arith, nat_tests);
}

id_byte-holds : (b : ℕ) → IsIdByte b → is_id_byte b ≡ true
id_byte-holds b h =
    let low : 33 ≤ b = h.low in
    let high : b ≤ 126 = h.high in
    let l : b ≢ 60 = h.left in
    let r : b ≢ 62 = h.right in
    grind (arith, nat_tests)

pub same-true : (a b : ℕ) → (a == b) ≡ true → a ≡ b
same-true a b is = grind (arith, nat_tests)

record EndsId (text : List ℕ) : Type 0 where
  inside : List ℕ
  bytes : All IsIdByte inside
  whole : text ≡ inside ++ 62 ∷ []

ends-true : (text : List ℕ) → ends_id text ≡ true → EndsId text
ends-true [] is = absurd (cc)
ends-true (b ∷ []) is = record { inside = []; bytes = All-nil IsIdByte; whole = ap (λ (x : ℕ). x ∷ []) (same-true b 62 is) }
ends-true (b ∷ c ∷ rest) is =
    let both = and_parts (is_id_byte b) (ends_id (c ∷ rest)) is in
    let later = ends-true (c ∷ rest) both.1 in
    record {
      inside = b ∷ later.inside;
      bytes = All-cons IsIdByte b later.inside (id_byte-true b both.0) later.bytes;
      whole =
          ap (λ (xs : List ℕ). b ∷ xs) later.whole;
    }

some_inside : (c : ℕ) (rest inside : List ℕ) → IsIdByte c → c ∷ rest ≡ inside ++ 62 ∷ [] → 0 < length inside
some_inside c rest [] byte whole = absurd (byte.right (cc))
some_inside c rest (b ∷ inside) byte whole = omega arith

is_id-true : (id : List ℕ) → is_id id ≡ true → IsId id
is_id-true [] is = absurd (cc)
is_id-true (b ∷ []) is = absurd (cc)
is_id-true (b ∷ c ∷ rest) is =
    let outer = and_parts (b == 60) (is_id_byte c && ends_id (c ∷ rest)) is in
    let inner = and_parts (is_id_byte c) (ends_id (c ∷ rest)) outer.1 in
    let ends = ends-true (c ∷ rest) inner.1 in
    let bracket : b ≡ 60 = same-true b 60 outer.0 in
    let whole : c ∷ rest ≡ ends.inside ++ 62 ∷ [] = ends.whole in
    record { inside = ends.inside; some = some_inside c rest ends.inside (id_byte-true c inner.0) ends.whole; bytes = ends.bytes; whole = cc }

ends-holds : (inside : List ℕ) → All IsIdByte inside → ends_id (inside ++ 62 ∷ []) ≡ true
ends-holds [] all = refl
ends-holds (b ∷ []) all = and_true (is_id_byte b) true (id_byte-holds b (All-head IsIdByte b [] all)) refl
ends-holds (b ∷ c ∷ rest) all =
    and_true (is_id_byte b) (ends_id (c ∷ (rest ++ 62 ∷ []))) (id_byte-holds b (All-head IsIdByte b (c ∷ rest) all))
    (ends-holds (c ∷ rest) (All-tail IsIdByte b (c ∷ rest) all))

inside-holds : (inside : List ℕ) → 0 < length inside → All IsIdByte inside → is_id (60 ∷ (inside ++ 62 ∷ [])) ≡ true
inside-holds [] some all = absurd (omega arith)
inside-holds (c ∷ rest) some all =
    and_true (is_id_byte c) (ends_id (c ∷ (rest ++ 62 ∷ []))) (id_byte-holds c (All-head IsIdByte c rest all)) (ends-holds (c ∷ rest) all)

is_id-holds : (id : List ℕ) → IsId id → is_id id ≡ true
is_id-holds id form = ap is_id form.whole ∙ inside-holds form.inside form.some form.bytes

-- the text's one body, whose identifier this is
record IsOneId (bodies : List PlacedBody) (id : List ℕ) : Type 0 where
  one : PlacedBody
  alone : bodies ≡ one ∷ []
  value : id ≡ id_of one.body
  few : length (id_of one.body) ≤ 512
  form : IsId (id_of one.body)

some_if : (test : Bool) (x y : List ℕ) → (if test then Some x else None) ≡ Some y → (test ≡ true) × (y ≡ x)
some_if true x y is = (refl, cc)
some_if false x y is = absurd (cc)

the_id-true : (bodies : List PlacedBody) (id : List ℕ) → the_id bodies ≡ Some id → IsOneId bodies id
the_id-true [] id is = absurd (cc)
the_id-true (one ∷ []) id is =
    let told = some_if (nat_le (length (id_of one.body)) 512 && is_id (id_of one.body)) (id_of one.body) id is in
    let both = and_parts (nat_le (length (id_of one.body)) 512) (is_id (id_of one.body)) told.0 in
    record { one = one; alone = refl; value = told.1; few = leb-true (length (id_of one.body)) 512 both.0; form = is_id-true (id_of one.body) both.1 }
the_id-true (one ∷ other ∷ bodies) id is = absurd (cc)

-- what is told is the Message-ID
pub told_id : (text id : List ℕ) → the_id (id_bodies text) ≡ Some id → HasMessageId text id
told_id text id is =
    let told = the_id-true (id_bodies text) id is in
    record {
      body = told.one.body;
      one = (told.one.at, told.alone);
      value = told.value;
      few = subst (λ (x : List ℕ). length x ≤ 512) (sym told.value) told.few;
      form = subst IsId (sym told.value) told.form;
    }

one_told : (test : Bool) (x : List ℕ) → test ≡ true → (if test then Some x else None) ≡ Some x
one_told test x is = rw is refl

-- the Message-ID is told
pub id_told : (text id : List ℕ) → HasMessageId text id → the_id (id_bodies text) ≡ Some id
id_told text id has =
    let few : length (id_of has.body) ≤ 512 = subst (λ (x : List ℕ). length x ≤ 512) has.value has.few in
    let form : IsId (id_of has.body) = subst IsId has.value has.form in
    ap the_id has.one.1
    ∙ one_told (nat_le (length (id_of has.body)) 512 && is_id (id_of has.body)) (id_of has.body)
    (and_true (nat_le (length (id_of has.body)) 512) (is_id (id_of has.body)) (le-leb (length (id_of has.body)) 512 few)
    (is_id-holds (id_of has.body) form))
    ∙ ap Some (sym has.value)

none_or : (told : Option (List ℕ)) → ((id : List ℕ) → told ≡ Some id → ⊥) → told ≡ None
none_or None none = refl
none_or (Some id) none = absurd (none id refl)

-- where there is no Message-ID, none is told
pub none_told : (text : List ℕ) → ((id : List ℕ) → HasMessageId text id → ⊥) → the_id (id_bodies text) ≡ None
none_told text none = none_or (the_id (id_bodies text)) (λ id is. none id (told_id text id is))
