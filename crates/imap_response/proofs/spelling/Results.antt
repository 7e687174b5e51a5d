-- Where a reading is Ok, and tests of numbers.
use Rattle.std.proofs.Common.{◌≡◌, ◌≢◌, ℕ, suc, Bool, true, false, cond, List, [], ◌∷◌, length, refl, ap, ◌∙◌, inl, inr, ◌⊎◌, arith, Result, Ok, Err}
use Rattle.std.proofs.lemmas.Bool.{cases_Bool}
use Rattle.std.proofs.lemmas.Bool.Decides.{nat_tests}
use Rattle.std.specs.Prelude.{◌==◌}
use Rattle.imap_response.specs.Reads.{◌>>=◌, or_else}

pub is_byte : (b c : ℕ) → (b == c) ≡ true → b ≡ c
is_byte b c test = grind (arith, nat_tests)

pub byte_is : (b c : ℕ) → b ≡ c → (b == c) ≡ true
byte_is b c is = grind (arith, nat_tests)

pub not_byte : (b c : ℕ) → (b == c) ≡ false → b ≢ c
not_byte b c test is = grind (arith, nat_tests)

pub byte_not : (b c : ℕ) → b ≢ c → (b == c) ≡ false
byte_not b c other = elim (cases_Bool (b == c)) [ inl is ↦ absurd (other (is_byte b c is)) | inr is ↦ is ]

pub some_len : (text : List ℕ) → text ≢ [] → (length text == 0) ≡ false
some_len [] some = absurd (some refl)
some_len (b ∷ text) some = byte_not (suc (length text)) 0 (λ is. omega (arith, is))

pub len_some : (text : List ℕ) → (length text == 0) ≡ false → text ≢ []
len_some text test is = not_byte (length text) 0 test (ap length is)

pub len_none : (text : List ℕ) → (length text == 0) ≡ true → text ≡ []
len_none [] test = refl
len_none (b ∷ text) test = absurd (let is : suc (length text) ≡ 0 = is_byte (suc (length text)) 0 test in omega (arith, is))

pub ok_is : {A : Type 0} (x y : A) → ◌≡◌ {A = Result A ℕ} (Ok x) (Ok y) → x ≡ y
ok_is x y is = cc

pub err_not : {A : Type 0} (e : ℕ) (x : A) → ◌≡◌ {A = Result A ℕ} (Err e) (Ok x) → ⊥
err_not e x is = cc

-- the first of the two is a fault
pub ok_second : {A : Type 0} (t : Bool) (e : ℕ) (r : Result A ℕ) (x : A) → cond t (Err e) r ≡ Ok x → (t ≡ false) × (r ≡ Ok x)
ok_second true e r x is = absurd (err_not e x is)
ok_second false e r x is = (refl, is)

-- the second is
pub ok_first : {A : Type 0} (t : Bool) (e : ℕ) (r : Result A ℕ) (x : A) → cond t r (Err e) ≡ Ok x → (t ≡ true) × (r ≡ Ok x)
ok_first true e r x is = (refl, is)
ok_first false e r x is = absurd (err_not e x is)

-- either may be Ok
pub ok_either : {A : Type 0} (t : Bool) (r s : Result A ℕ) (x : A) → cond t r s ≡ Ok x → ((t ≡ true) × (r ≡ Ok x)) ⊎ ((t ≡ false) × (s ≡ Ok x))
ok_either true r s x is = inl (refl, is)
ok_either false r s x is = inr (refl, is)

pub ok_bind : {A B : Type 0} (r : Result A ℕ) (f : A → Result B ℕ) (y : B) → (r >>= f) ≡ Ok y → (x : A) × (r ≡ Ok x) × (f x ≡ Ok y)
ok_bind (Ok x) f y is = (x, refl, is)
ok_bind (Err e) f y is = absurd (err_not e y is)

pub bind_ok : {A B : Type 0} (r : Result A ℕ) (f : A → Result B ℕ) (x : A) (y : B) → r ≡ Ok x → f x ≡ Ok y → (r >>= f) ≡ Ok y
bind_ok (Ok x') f x y is more = let same : x' ≡ x = ok_is x' x is in ap f same ∙ more
bind_ok (Err e) f x y is more = absurd (err_not e x is)

pub some_items : {A : Type 0} (items : List A) → items ≢ [] → (length items == 0) ≡ false
some_items [] some = absurd (some refl)
some_items (x ∷ items) some = byte_not (suc (length items)) 0 (λ is. omega (arith, is))

pub items_some : {A : Type 0} (items : List A) → (length items == 0) ≡ false → items ≢ []
items_some items test is = not_byte (length items) 0 test (ap length is)

-- the first reading fits, or the second is taken
pub ok_or_else : {A B : Type 0} (r : Result A ℕ) (f : A → Result B ℕ) (other : Result B ℕ) (y : B) → or_else r f other ≡ Ok y →
    ((x : A) × (r ≡ Ok x) × (f x ≡ Ok y)) ⊎ ((left : ℕ) × (r ≡ Err left) × (other ≡ Ok y))
ok_or_else (Ok x) f other y is = inl (x, refl, is)
ok_or_else (Err left) f other y is = inr (left, refl, is)

pub or_else_ok : {A B : Type 0} (r : Result A ℕ) (f : A → Result B ℕ) (other : Result B ℕ) (x : A) → r ≡ Ok x → or_else r f other ≡ f x
or_else_ok r f other x is = ap (λ r. or_else r f other) is

pub or_else_err : {A B : Type 0} (r : Result A ℕ) (f : A → Result B ℕ) (other : Result B ℕ) → ((x : A) → r ≡ Ok x → ⊥) → or_else r f other ≡ other
or_else_err (Ok x) f other fails = absurd (fails x refl)
or_else_err (Err left) f other fails = refl
