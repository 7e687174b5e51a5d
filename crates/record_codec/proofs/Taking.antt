-- Single fields: what is read is spelled so, and what is spelled is read.
use Rattle.std.proofs.Common.{◌≡◌, ◌<◌, ◌⊎◌, inl, inr, ℕ, zero, suc, ◌^◌, Bool, true, false, ◌&&◌, ◌==◌, List, [], ◌∷◌, ◌++◌, length}
use Rattle.std.proofs.Common.{take, drop, get_or, Result, Ok, Err, nat_le, nat_lt, refl, sym, ap, subst, ◌∙◌, arith, if◌then◌else◌}
use Rattle.std.specs.Int.{w16, w32, w64, to_be_bytes, from_be_bytes}
use Rattle.std.proofs.lemmas.Bool.{and_parts, leb-true, le-leb, ltb-true, lt-ltb}
use Rattle.std.proofs.lemmas.List.{take-append-drop, length-take-le, length-append}
use Rattle.std.proofs.Math.Seq.{take-append_seam, drop-append_seam}
use Rattle.std.proofs.lemmas.Nat.{be_bytes_2, be_bytes_4, be_bytes_8, from_be_bytes-to_be_bytes_2, from_be_bytes-to_be_bytes_4, from_be_bytes-to_be_bytes_8}
use Rattle.mail_base.specs.BoxName.{IsBoxName}
use Rattle.record_codec.specs.Fields.{counted, sign, bit}
use Rattle.record_codec.specs.Spelling.{IsNumber, IsModSeq}
use Rattle.record_codec.specs.Reading.{Reading, ◌>>=◌, passing, AreBytes, byte_at, number_at, nonzero_at, modseq_at, counted_at, is_name}
use Rattle.record_codec.specs.Reading.{name_at, octets_at, sign_at, bit_at}
use Rattle.record_codec.proofs.NameForm.{is_name-Decides}
use Rattle.record_codec.proofs.Ids.{and_true, same-true}

-- ---- steps of a reading

pub record Bound (A B : Type 0) (m : Result A ℕ) (f : A → Result B ℕ) (y : B) : Type 0 where
  pub value : A
  pub first : m ≡ Ok value
  pub later : f value ≡ Ok y

pub bound : {A B : Type 0} (m : Result A ℕ) (f : A → Result B ℕ) (y : B) → (m >>= f) ≡ Ok y → Bound A B m f y
bound (Ok x) f y is = record { value = x; first = refl; later = is }
bound (Err left) f y is = absurd (cc)

pub then_by : {A B : Type 0} (m : Result A ℕ) (x : A) (f : A → Result B ℕ) (y : Result B ℕ) → m ≡ Ok x → f x ≡ y → (m >>= f) ≡ y
then_by m x f y is later = rw is later

pub ok_same : {A : Type 0} (x y : A) → ◌≡◌ {A = Result A ℕ} (Ok x) (Ok y) → x ≡ y
ok_same x y is = cc

pub passed : {A : Type 0} (test : Bool) (bytes : List ℕ) (x y : A) → passing test bytes x ≡ Ok y → (test ≡ true) × (x ≡ y)
passed true bytes x y is = (refl, ok_same x y is)
passed false bytes x y is = absurd (cc)

pub passes : {A : Type 0} (test : Bool) (bytes : List ℕ) (x : A) → test ≡ true → passing test bytes x ≡ Ok x
passes test bytes x is = rw is refl

pub tested : {A : Type 0} (m : Reading A) (test : A → Bool) (bytes : List ℕ) (y : A × List ℕ) →
    (m >>= (λ x. passing (test x.0) bytes x)) ≡ Ok y → (m ≡ Ok y) × (test y.0 ≡ true)
tested (Ok x) test bytes y is =
    let told = passed (test x.0) bytes x y is in
    (ap Ok told.1, ap (λ z. test z.0) (sym told.1) ∙ told.0)
tested (Err left) test bytes y is = absurd (cc)

pub tests : {A : Type 0} (m : Reading A) (test : A → Bool) (bytes : List ℕ) (y : A × List ℕ) → m ≡ Ok y → test y.0 ≡ true →
    (m >>= (λ x. passing (test x.0) bytes x)) ≡ Ok y
tests m test bytes y is holds = then_by m y (λ x. passing (test x.0) bytes x) (Ok y) is (passes (test y.0) bytes y holds)

choose : {A : Type 0} (test : Bool) (x z : Result A ℕ) (y : A) → (if test then x else z) ≡ Ok y → ((test ≡ true) × (x ≡ Ok y)) ⊎ (z ≡ Ok y)
choose true x z y is = inl (refl, is)
choose false x z y is = inr is

-- a letter chooses how the reading goes on
pub chosen : {A : Type 0} (b k : ℕ) (x z : Result A ℕ) (y : A) → (if b == k then x else z) ≡ Ok y → ((b ≡ k) × (x ≡ Ok y)) ⊎ (z ≡ Ok y)
chosen b k x z y is = elim (choose (b == k) x z y is) [ inl w ↦ inl (same-true b k w.0, w.1) | inr w ↦ inr w ]

-- ---- what is read is spelled

-- the bytes begin with what is spelled so, and go on with others, which are bytes too
pub record Sound (front bytes rest : List ℕ) (K : Type 0) : Type 0 where
  pub is : bytes ≡ front ++ rest
  pub kept : K
  pub clean : AreBytes rest

-- a value was read, with what stands behind it
abbrev pub Reads : {A : Type 0} → (A → List ℕ) → (A → Type 0) → List ℕ → (A × List ℕ) → Type 0
Reads f K bytes y = Sound (f y.0) bytes y.1 (K y.0)

pub reads_same : {A : Type 0} (f : A → List ℕ) (K : A → Type 0) (bytes : List ℕ) (x y : A × List ℕ) →
    ◌≡◌ {A = Result (A × List ℕ) ℕ} (Ok x) (Ok y) → Reads f K bytes x → Reads f K bytes y
reads_same f K bytes x y same reads = subst (λ z. Reads f K bytes z) (ok_same x y same) reads

clean_rest : (front rest : List ℕ) → AreBytes (front ++ rest) → AreBytes rest
clean_rest [] rest all = all
clean_rest (x ∷ front) rest all = clean_rest front rest (λ i. all (suc i))

clean_front : (n : ℕ) (bytes : List ℕ) → AreBytes bytes → (i : ℕ) → get_or (take n bytes) i 0 < 256
clean_front zero bytes all i = omega arith
clean_front (suc n) [] all i = omega arith
clean_front (suc n) (x ∷ bytes) all zero = all 0
clean_front (suc n) (x ∷ bytes) all (suc i) = clean_front n bytes (λ j. all (suc j)) i

pub sound_by : (front bytes rest : List ℕ) (K : Type 0) → AreBytes bytes → bytes ≡ front ++ rest → K → Sound front bytes rest K
sound_by front bytes rest K all is kept = record { is = is; kept = kept; clean = clean_rest front rest (subst AreBytes is all) }

-- a byte
pub record Letter (B : Type 0) (bytes : List ℕ) (g : ℕ × List ℕ → Result B ℕ) (y : B) : Type 0 where
  pub b : ℕ
  pub more : List ℕ
  pub is : bytes ≡ b ∷ more
  pub clean : AreBytes more
  pub later : g (b, more) ≡ Ok y

pub lettered : {B : Type 0} (bytes : List ℕ) (g : ℕ × List ℕ → Result B ℕ) (y : B) → AreBytes bytes → (byte_at bytes >>= g) ≡ Ok y → Letter B bytes g y
unfolding byte_at
lettered [] g y all is = absurd (cc)
lettered (b ∷ more) g y all is = record { b = b; more = more; is = refl; clean = λ i. all (suc i); later = is }

fits_2 : (bs : List ℕ) → length bs ≡ 2 → ((i : ℕ) → get_or bs i 0 < 256) → from_be_bytes w16 bs < 2 ^ 16
fits_2 (a ∷ b ∷ []) len all = omega (arith, all 0, all 1)
fits_2 _ len all = absurd (omega (arith, len))

fits_4 : (bs : List ℕ) → length bs ≡ 4 → ((i : ℕ) → get_or bs i 0 < 256) → from_be_bytes w32 bs < 2 ^ 32
fits_4 (a ∷ b ∷ c ∷ d ∷ []) len all = omega (arith, all 0, all 1, all 2, all 3)
fits_4 _ len all = absurd (omega (arith, len))

fits_8 : (bs : List ℕ) → length bs ≡ 8 → ((i : ℕ) → get_or bs i 0 < 256) → from_be_bytes w64 bs < 2 ^ 64
fits_8 (a ∷ b ∷ c ∷ d ∷ e ∷ f ∷ g ∷ h ∷ []) len all = omega (arith, all 0, all 1, all 2, all 3, all 4, all 5, all 6, all 7)
fits_8 _ len all = absurd (omega (arith, len))

abbrev pub Fits16 : ℕ → Type 0
Fits16 n = n < 2 ^ 16

abbrev pub Fits32 : ℕ → Type 0
Fits32 n = n < 2 ^ 32

abbrev pub Fits64 : ℕ → Type 0
Fits64 n = n < 2 ^ 64

pub short_reads : (bytes : List ℕ) (y : ℕ × List ℕ) → AreBytes bytes → number_at w16 bytes ≡ Ok y → Reads (to_be_bytes w16) Fits16 bytes y
unfolding number_at
short_reads bytes y all is =
    let told = passed (nat_le 2 (length bytes)) bytes (from_be_bytes w16 (take 2 bytes), drop 2 bytes) y is in
    let size = length-take-le 2 bytes (leb-true 2 (length bytes) told.0) in
    let written = be_bytes_2 (take 2 bytes) (from_be_bytes w16 (take 2 bytes)) size (clean_front 2 bytes all) refl in
    subst (λ z. Reads (to_be_bytes w16) Fits16 bytes z) told.1
    (sound_by (to_be_bytes w16 (from_be_bytes w16 (take 2 bytes))) bytes (drop 2 bytes) (Fits16 (from_be_bytes w16 (take 2 bytes))) all
    (sym (take-append-drop 2 bytes) ∙ ap (λ (front : List ℕ). front ++ drop 2 bytes) (sym written)) (fits_2 (take 2 bytes) size (clean_front 2 bytes all)))

pub number_reads : (bytes : List ℕ) (y : ℕ × List ℕ) → AreBytes bytes → number_at w32 bytes ≡ Ok y → Reads (to_be_bytes w32) Fits32 bytes y
unfolding number_at
number_reads bytes y all is =
    let told = passed (nat_le 4 (length bytes)) bytes (from_be_bytes w32 (take 4 bytes), drop 4 bytes) y is in
    let size = length-take-le 4 bytes (leb-true 4 (length bytes) told.0) in
    let written = be_bytes_4 (take 4 bytes) (from_be_bytes w32 (take 4 bytes)) size (clean_front 4 bytes all) refl in
    subst (λ z. Reads (to_be_bytes w32) Fits32 bytes z) told.1
    (sound_by (to_be_bytes w32 (from_be_bytes w32 (take 4 bytes))) bytes (drop 4 bytes) (Fits32 (from_be_bytes w32 (take 4 bytes))) all
    (sym (take-append-drop 4 bytes) ∙ ap (λ (front : List ℕ). front ++ drop 4 bytes) (sym written)) (fits_4 (take 4 bytes) size (clean_front 4 bytes all)))

pub long_reads : (bytes : List ℕ) (y : ℕ × List ℕ) → AreBytes bytes → number_at w64 bytes ≡ Ok y → Reads (to_be_bytes w64) Fits64 bytes y
unfolding number_at
long_reads bytes y all is =
    let told = passed (nat_le 8 (length bytes)) bytes (from_be_bytes w64 (take 8 bytes), drop 8 bytes) y is in
    let size = length-take-le 8 bytes (leb-true 8 (length bytes) told.0) in
    let written = be_bytes_8 (take 8 bytes) (from_be_bytes w64 (take 8 bytes)) size (clean_front 8 bytes all) refl in
    subst (λ z. Reads (to_be_bytes w64) Fits64 bytes z) told.1
    (sound_by (to_be_bytes w64 (from_be_bytes w64 (take 8 bytes))) bytes (drop 8 bytes) (Fits64 (from_be_bytes w64 (take 8 bytes))) all
    (sym (take-append-drop 8 bytes) ∙ ap (λ (front : List ℕ). front ++ drop 8 bytes) (sym written)) (fits_8 (take 8 bytes) size (clean_front 8 bytes all)))

-- the same bytes with more known of the value
pub knowing : (front bytes rest : List ℕ) (K L : Type 0) → Sound front bytes rest K → (K → L) → Sound front bytes rest L
knowing front bytes rest K L sound more = record { is = sound.is; kept = more sound.kept; clean = sound.clean }

pub nonzero_reads : (bytes : List ℕ) (y : ℕ × List ℕ) → AreBytes bytes → nonzero_at bytes ≡ Ok y → Reads (to_be_bytes w32) IsNumber bytes y
unfolding nonzero_at
nonzero_reads bytes y all is =
    let told = tested (number_at w32 bytes) (λ n. nat_lt 0 n) bytes y is in
    knowing (to_be_bytes w32 y.0) bytes y.1 (Fits32 y.0) (IsNumber y.0) (number_reads bytes y all told.0) (λ fits. (ltb-true 0 y.0 told.1, fits))

pub modseq_reads : (bytes : List ℕ) (y : ℕ × List ℕ) → AreBytes bytes → modseq_at bytes ≡ Ok y → Reads (to_be_bytes w64) IsModSeq bytes y
unfolding modseq_at
modseq_reads bytes y all is =
    let told = tested (number_at w64 bytes) (λ n. nat_lt 0 n && nat_lt n (2 ^ 63)) bytes y is in
    let both = and_parts (nat_lt 0 y.0) (nat_lt y.0 (2 ^ 63)) told.1 in
    knowing (to_be_bytes w64 y.0) bytes y.1 (Fits64 y.0) (IsModSeq y.0) (long_reads bytes y all told.0)
    (λ fits. (ltb-true 0 y.0 both.0, ltb-true y.0 (2 ^ 63) both.1))

abbrev pub IsShort : List ℕ → Type 0
IsShort text = length text < 256

pub counted_reads : (bytes : List ℕ) (y : List ℕ × List ℕ) → AreBytes bytes → counted_at bytes ≡ Ok y → Reads counted IsShort bytes y
unfolding counted_at
counted_reads [] y all is = absurd (cc)
counted_reads (n ∷ more) y all is =
    let told = passed (nat_le n (length more)) (n ∷ more) (take n more, drop n more) y is in
    let size : length (take n more) ≡ n = length-take-le n more (leb-true n (length more) told.0) in
    let small : n < 256 = all 0 in
    subst (λ z. Reads counted IsShort (n ∷ more) z) told.1
    (sound_by (counted (take n more)) (n ∷ more) (drop n more) (IsShort (take n more)) all
    (ap (λ (bytes : List ℕ). n ∷ bytes) (sym (take-append-drop n more)) ∙ ap (λ (k : ℕ). k ∷ (take n more ++ drop n more)) (sym size))
    (omega (arith, size, small)))

pub name_reads : (bytes : List ℕ) (y : List ℕ × List ℕ) → AreBytes bytes → name_at bytes ≡ Ok y → Reads counted IsBoxName bytes y
unfolding name_at
name_reads bytes y all is =
    let told = tested (counted_at bytes) is_name bytes y is in
    knowing (counted y.0) bytes y.1 (IsShort y.0) (IsBoxName y.0) (counted_reads bytes y all told.0) (λ short. (is_name-Decides y.0).0 told.1)

abbrev pub HasLength : ℕ → List ℕ → Type 0
HasLength n text = length text ≡ n

pub octets_reads : (n : ℕ) (bytes : List ℕ) (y : List ℕ × List ℕ) → AreBytes bytes → octets_at n bytes ≡ Ok y →
    Reads (λ (text : List ℕ). text) (HasLength n) bytes y
unfolding octets_at
octets_reads n bytes y all is =
    let told = passed (nat_le n (length bytes)) bytes (take n bytes, drop n bytes) y is in
    subst (λ z. Reads (λ (text : List ℕ). text) (HasLength n) bytes z) told.1
    (sound_by (take n bytes) bytes (drop n bytes) (HasLength n (take n bytes)) all (sym (take-append-drop n bytes))
    (length-take-le n bytes (leb-true n (length bytes) told.0)))

abbrev pub Always : {A : Type 0} → A → Type 0
Always x = Unit {0}

pub sign_reads : (bytes : List ℕ) (y : Bool × List ℕ) → AreBytes bytes → sign_at bytes ≡ Ok y → Reads (λ (add : Bool). sign add ∷ []) Always bytes y
unfolding sign_at
sign_reads bytes y all is =
    let f : Bool → List ℕ = λ add. sign add ∷ [] in
    let l = lettered bytes (λ b. if b.0 == 43 then Ok (true, b.1) else if b.0 == 45 then Ok (false, b.1) else Err (length bytes)) y all is in
    let from = λ (k : ℕ) (add : Bool) (same : l.b ≡ k) (e : sign add ≡ k) (ok : ◌≡◌ {A = Result (Bool × List ℕ) ℕ} (Ok (add, l.more)) (Ok y)).
    reads_same f Always bytes (add, l.more) y ok (sound_by (f add) bytes l.more (Unit {0}) all (l.is ∙ ap (λ (b : ℕ). b ∷ l.more) (same ∙ sym e)) tt) in
    elim (chosen l.b 43 (Ok (true, l.more)) (if l.b == 45 then Ok (false, l.more) else Err (length bytes)) y l.later) [
      | inl w ↦ from 43 true w.0 refl w.1
      | inr v ↦ elim (chosen l.b 45 (Ok (false, l.more)) (Err (length bytes)) y v) [ inl w ↦ from 45 false w.0 refl w.1 | inr w ↦ absurd (cc w) ]
    ]

pub bit_reads : (bytes : List ℕ) (y : Bool × List ℕ) → AreBytes bytes → bit_at bytes ≡ Ok y → Reads (λ (value : Bool). bit value ∷ []) Always bytes y
unfolding bit_at
bit_reads bytes y all is =
    let f : Bool → List ℕ = λ value. bit value ∷ [] in
    let l = lettered bytes (λ b. if b.0 == 0 then Ok (false, b.1) else if b.0 == 1 then Ok (true, b.1) else Err (length bytes)) y all is in
    let from = λ (k : ℕ) (value : Bool) (same : l.b ≡ k) (e : bit value ≡ k) (ok : ◌≡◌ {A = Result (Bool × List ℕ) ℕ} (Ok (value, l.more)) (Ok y)).
    reads_same f Always bytes (value, l.more) y ok (sound_by (f value) bytes l.more (Unit {0}) all (l.is ∙ ap (λ (b : ℕ). b ∷ l.more) (same ∙ sym e)) tt) in
    elim (chosen l.b 0 (Ok (false, l.more)) (if l.b == 1 then Ok (true, l.more) else Err (length bytes)) y l.later) [
      | inl w ↦ from 0 false w.0 refl w.1
      | inr v ↦ elim (chosen l.b 1 (Ok (true, l.more)) (Err (length bytes)) y v) [ inl w ↦ from 1 true w.0 refl w.1 | inr w ↦ absurd (cc w) ]
    ]

pub byte_reads : (bytes : List ℕ) (y : ℕ × List ℕ) → AreBytes bytes → byte_at bytes ≡ Ok y → Reads (λ (b : ℕ). b ∷ []) (λ b. b < 256) bytes y
unfolding byte_at
byte_reads [] y all is = absurd (cc)
byte_reads (b ∷ more) y all is =
    reads_same (λ (n : ℕ). n ∷ []) (λ n. n < 256) (b ∷ more) (b, more) y is (record { is = refl; kept = all 0; clean = λ i. all (suc i) })

-- ---- what is spelled is read

pub byte_read : (b : ℕ) (rest : List ℕ) → byte_at (b ∷ rest) ≡ Ok (b, rest)
unfolding byte_at
byte_read b rest = refl

pub short_read : (n : ℕ) (rest : List ℕ) → n < 2 ^ 16 → number_at w16 (to_be_bytes w16 n ++ rest) ≡ Ok (n, rest)
unfolding number_at
short_read n rest fits =
    let bytes = to_be_bytes w16 n ++ rest in
    passes (nat_le 2 (length bytes)) bytes (from_be_bytes w16 (take 2 bytes), drop 2 bytes) (le-leb 2 (length bytes) (omega arith))
    ∙ ap (λ (m : ℕ). Ok (m, rest)) (from_be_bytes-to_be_bytes_2 n fits)

pub number_read : (n : ℕ) (rest : List ℕ) → n < 2 ^ 32 → number_at w32 (to_be_bytes w32 n ++ rest) ≡ Ok (n, rest)
unfolding number_at
number_read n rest fits =
    let bytes = to_be_bytes w32 n ++ rest in
    passes (nat_le 4 (length bytes)) bytes (from_be_bytes w32 (take 4 bytes), drop 4 bytes) (le-leb 4 (length bytes) (omega arith))
    ∙ ap (λ (m : ℕ). Ok (m, rest)) (from_be_bytes-to_be_bytes_4 n fits)

pub long_read : (n : ℕ) (rest : List ℕ) → n < 2 ^ 64 → number_at w64 (to_be_bytes w64 n ++ rest) ≡ Ok (n, rest)
unfolding number_at
long_read n rest fits =
    let bytes = to_be_bytes w64 n ++ rest in
    passes (nat_le 8 (length bytes)) bytes (from_be_bytes w64 (take 8 bytes), drop 8 bytes) (le-leb 8 (length bytes) (omega arith))
    ∙ ap (λ (m : ℕ). Ok (m, rest)) (from_be_bytes-to_be_bytes_8 n fits)

pub nonzero_read : (n : ℕ) (rest : List ℕ) → IsNumber n → nonzero_at (to_be_bytes w32 n ++ rest) ≡ Ok (n, rest)
unfolding nonzero_at
nonzero_read n rest kept = tests (number_at w32 (to_be_bytes w32 n ++ rest)) (λ n. nat_lt 0 n) (to_be_bytes w32 n ++ rest) (n, rest)
    (number_read n rest kept.1) (lt-ltb 0 n kept.0)

pub modseq_read : (n : ℕ) (rest : List ℕ) → IsModSeq n → modseq_at (to_be_bytes w64 n ++ rest) ≡ Ok (n, rest)
unfolding modseq_at
modseq_read n rest kept =
    let bound : n < 2 ^ 63 = kept.1 in
    tests (number_at w64 (to_be_bytes w64 n ++ rest)) (λ n. nat_lt 0 n && nat_lt n (2 ^ 63)) (to_be_bytes w64 n ++ rest) (n, rest)
    (long_read n rest (omega (arith, bound)))
    (and_true (nat_lt 0 n) (nat_lt n (2 ^ 63)) (lt-ltb 0 n kept.0) (lt-ltb n (2 ^ 63) kept.1))

pub counted_read : (text rest : List ℕ) → counted_at (counted text ++ rest) ≡ Ok (text, rest)
unfolding counted_at
counted_read text rest =
    passes (nat_le (length text) (length (text ++ rest))) (counted text ++ rest)
    (take (length text) (text ++ rest), drop (length text) (text ++ rest))
    (le-leb (length text) (length (text ++ rest)) (omega (arith, length-append text rest)))
    ∙ ap (λ (front : List ℕ). Ok (front, drop (length text) (text ++ rest))) (take-append_seam text rest)
    ∙ ap (λ (back : List ℕ). Ok (text, back)) (drop-append_seam text rest)

pub name_read : (name rest : List ℕ) → IsBoxName name → name_at (counted name ++ rest) ≡ Ok (name, rest)
unfolding name_at
name_read name rest kept = tests (counted_at (counted name ++ rest)) is_name (counted name ++ rest) (name, rest) (counted_read name rest)
    ((is_name-Decides name).1 kept)

pub octets_read : (text rest : List ℕ) → octets_at (length text) (text ++ rest) ≡ Ok (text, rest)
unfolding octets_at
octets_read text rest =
    passes (nat_le (length text) (length (text ++ rest))) (text ++ rest)
    (take (length text) (text ++ rest), drop (length text) (text ++ rest))
    (le-leb (length text) (length (text ++ rest)) (omega (arith, length-append text rest)))
    ∙ ap (λ (front : List ℕ). Ok (front, drop (length text) (text ++ rest))) (take-append_seam text rest)
    ∙ ap (λ (back : List ℕ). Ok (text, back)) (drop-append_seam text rest)

pub sign_read : (add : Bool) (rest : List ℕ) → sign_at (sign add ∷ rest) ≡ Ok (add, rest)
unfolding sign_at byte_at
sign_read true rest = refl
sign_read false rest = refl

pub bit_read : (value : Bool) (rest : List ℕ) → bit_at (bit value ∷ rest) ≡ Ok (value, rest)
unfolding bit_at byte_at
bit_read true rest = refl
bit_read false rest = refl
