-- A quoted string is read in one way, a byte at a time.
use Rattle.std.proofs.Common.{◌≡◌, ◌≢◌, ◌⊎◌, inl, inr, ℕ, ◌+◌, ◌<◌, Bool, true, false, List, [], ◌∷◌, ◌++◌, length, drop, Option, Some}
use Rattle.std.proofs.Common.{None, get_or, refl, sym, ◌∙◌, ap, subst, arith, add-one, drop-cons}
use Rattle.std.proofs.Math.Seq.{drop-length}
use Rattle.std.proofs.lemmas.Bool.{cases_Bool}
use Rattle.std.proofs.lemmas.Bool.Decides.{nat_tests}
use Rattle.std.specs.Prelude.{◌==◌}
use Rattle.std.specs.List.{AllByRecursion}
use Rattle.imap_tokens.specs.Tokens.{is_escaped, is_forbidden}
use Rattle.imap_tokens.specs.Scan.{quoted_from, quoted_size}
use Rattle.imap_tokens.specs.Quoted.{QuotedChar, Plain, Escaped, IsQuotedChar, inner_text, BeginsQuoted, NoQuoted}

-- One byte more.
step_escaped : (b n : ℕ) (more : List ℕ) → is_escaped b ≡ true → quoted_from true n (b ∷ more) ≡ quoted_from false (n + 1) more
unfolding quoted_from
step_escaped b n more test = rw test refl

step_unescaped : (b n : ℕ) (more : List ℕ) → is_escaped b ≡ false → quoted_from true n (b ∷ more) ≡ None
unfolding quoted_from
step_unescaped b n more test = rw test refl

step_end : (b n : ℕ) (more : List ℕ) → (b == 34) ≡ true → quoted_from false n (b ∷ more) ≡ Some (n + 1)
unfolding quoted_from
step_end b n more test = rw test refl

step_bad : (b n : ℕ) (more : List ℕ) → (b == 34) ≡ false → is_forbidden b ≡ true → quoted_from false n (b ∷ more) ≡ None
unfolding quoted_from
step_bad b n more test bad = rw (test, bad) refl

step_on : (b n : ℕ) (more : List ℕ) (e : Bool) → (b == 34) ≡ false → is_forbidden b ≡ false → (b == 92) ≡ e →
    quoted_from false n (b ∷ more) ≡ quoted_from e (n + 1) more
unfolding quoted_from
step_on b n more e test bad slash = rw (test, bad) (ap (λ (x : Bool). quoted_from x (n + 1) more) slash)

empty : (e : Bool) (n : ℕ) → quoted_from e n [] ≡ None
unfolding quoted_from
empty true n = refl
empty false n = refl

-- What the reading finds is a quoted string.
abbrev Ends : ℕ → List ℕ → ℕ → Type 0
Ends n text m = (chars : List QuotedChar) × (rest : List ℕ) × AllByRecursion IsQuotedChar chars × (text ≡ inner_text chars ++ 34 ∷ rest)
    × (m ≡ n + length (inner_text chars) + 1)

abbrev EndsAs : Bool → ℕ → List ℕ → ℕ → Type 0
EndsAs false n text m = Ends n text m
EndsAs true n text m = (b : ℕ) × (more : List ℕ) × (text ≡ b ∷ more) × ((b ≡ 34) ⊎ (b ≡ 92)) × Ends (n + 1) more m

none_some : (m : ℕ) (o : Option ℕ) → o ≡ None → o ≡ Some m → ⊥
none_some m o e f = cc

some_of : (m k : ℕ) (o : Option ℕ) → o ≡ Some k → o ≡ Some m → k ≡ m
some_of m k o e f = cc

is_34 : (b : ℕ) → (b == 34) ≡ true → b ≡ 34
is_34 b e = grind (arith, nat_tests)

is_92 : (b : ℕ) → (b == 92) ≡ true → b ≡ 92
is_92 b e = grind (arith, nat_tests)

not_34 : (b : ℕ) → (b == 34) ≡ false → b ≢ 34
not_34 b e f = grind (arith, nat_tests)

not_92 : (b : ℕ) → (b == 92) ≡ false → b ≢ 92
not_92 b e f = grind (arith, nat_tests)

escaped_is : (b : ℕ) → is_escaped b ≡ true → (b ≡ 34) ⊎ (b ≡ 92)
escaped_is b test = elim (cases_Bool (b == 34)) [
  | inl is ↦ inl (is_34 b is)
  | inr other ↦ inr (is_92 b (sym (rw other refl) ∙ test))
]

allowed : (b : ℕ) → is_forbidden b ≡ false → (b ≢ 0) × (b ≢ 10) × (b ≢ 13)
allowed b test = ((λ e. grind (arith, nat_tests)), (λ e. grind (arith, nat_tests)), (λ e. grind (arith, nat_tests)))

plain_more : (b n m : ℕ) (more : List ℕ) → is_forbidden b ≡ false → (b == 34) ≡ false → (b == 92) ≡ false → Ends (n + 1) more m → Ends n (b ∷ more) m
plain_more b n m more bad quote slash w =
    let few = allowed b bad in
    (Plain b ∷ w.0, w.1, ((few.0, few.1, few.2, not_34 b quote, not_92 b slash), w.2), ap (λ (t : List ℕ). b ∷ t) w.3, omega (arith, w.4))

escaped_more : (b n m : ℕ) (more : List ℕ) → b ≡ 92 → EndsAs true (n + 1) more m → Ends n (b ∷ more) m
escaped_more b n m more slash w =
    (Escaped w.0 ∷ w.4.0, w.4.1, (w.3, w.4.2), (λ i. slash i ∷ (w.2 ∙ ap (λ (t : List ℕ). w.0 ∷ t) w.4.3) i), omega (arith, w.4.4))

sound : (text : List ℕ) (e : Bool) (n m : ℕ) → quoted_from e n text ≡ Some m → EndsAs e n text m
sound [] e n m is = absurd (none_some m (quoted_from e n []) (empty e n) is)
sound (b ∷ more) true n m is = elim (cases_Bool (is_escaped b)) [
  | inl test ↦ (b, more, refl, escaped_is b test, sound more false (n + 1) m (sym (step_escaped b n more test) ∙ is))
  | inr test ↦ absurd (none_some m (quoted_from true n (b ∷ more)) (step_unescaped b n more test) is)
]
sound (b ∷ more) false n m is = elim (cases_Bool (b == 34)) [
  | inl end ↦
      let size = some_of m (n + 1) (quoted_from false n (b ∷ more)) (step_end b n more end) is in
      ([], more, tt, ap (λ (x : ℕ). x ∷ more) (is_34 b end), omega (arith, size))
  | inr quote ↦ elim (cases_Bool (is_forbidden b)) [
    | inl bad ↦ absurd (none_some m (quoted_from false n (b ∷ more)) (step_bad b n more quote bad) is)
    | inr bad ↦ elim (cases_Bool (b == 92)) [
      | inl slash ↦ escaped_more b n m more (is_92 b slash) (sound more true (n + 1) m (sym (step_on b n more true quote bad slash) ∙ is))
      | inr slash ↦ plain_more b n m more bad quote slash (sound more false (n + 1) m (sym (step_on b n more false quote bad slash) ∙ is))
    ]
  ]
]

-- And each quoted string is found.
test_34 : (b : ℕ) → b ≢ 34 → (b == 34) ≡ false
test_34 b other = elim (cases_Bool (b == 34)) [ inl is ↦ absurd (other (is_34 b is)) | inr is ↦ is ]

test_92 : (b : ℕ) → b ≢ 92 → (b == 92) ≡ false
test_92 b other = elim (cases_Bool (b == 92)) [ inl is ↦ absurd (other (is_92 b is)) | inr is ↦ is ]

test_allowed : (b : ℕ) → b ≢ 0 → b ≢ 10 → b ≢ 13 → is_forbidden b ≡ false
test_allowed b nul lf cr = grind (arith, nat_tests)

test_escaped : (b : ℕ) → (b ≡ 34) ⊎ (b ≡ 92) → is_escaped b ≡ true
test_escaped b (inl is) = ap is_escaped is
test_escaped b (inr is) = ap is_escaped is

complete : (chars : List QuotedChar) (rest : List ℕ) (n : ℕ) → AllByRecursion IsQuotedChar chars →
    quoted_from false n (inner_text chars ++ 34 ∷ rest) ≡ Some (n + length (inner_text chars) + 1)
complete [] rest n all = let size : n + 1 ≡ n + 0 + 1 = omega arith in step_end 34 n rest refl ∙ ap (λ (k : ℕ). Some k) size
complete (Plain b ∷ chars) rest n all =
    let is = all.0 in
    let size : n + 1 + length (inner_text chars) + 1 ≡ n + length (b ∷ inner_text chars) + 1 = omega arith in
    step_on b n (inner_text chars ++ 34 ∷ rest) false (test_34 b is.3) (test_allowed b is.0 is.1 is.2) (test_92 b is.4)
    ∙ complete chars rest (n + 1) all.1 ∙ ap (λ (k : ℕ). Some k) size
complete (Escaped b ∷ chars) rest n all =
    let size : n + 1 + 1 + length (inner_text chars) + 1 ≡ n + length (92 ∷ b ∷ inner_text chars) + 1 = omega arith in
    step_on 92 n (b ∷ (inner_text chars ++ 34 ∷ rest)) true refl refl refl
    ∙ step_escaped b (n + 1) (inner_text chars ++ 34 ∷ rest) (test_escaped b all.0)
    ∙ complete chars rest (n + 1 + 1) all.1 ∙ ap (λ (k : ℕ). Some k) size

tail_is : (text : List ℕ) (inner : List ℕ) → 34 ∷ text ≡ 34 ∷ inner → text ≡ inner
tail_is text inner e = cc

pub quoted_found : (text : List ℕ) (m : ℕ) → quoted_size text ≡ Some m → BeginsQuoted (34 ∷ text) m
quoted_found text m is =
    let w = sound text false 1 m is in
    (w.0, w.1, record { lawful = w.2; whole = ap (λ (t : List ℕ). 34 ∷ t) w.3 }, omega (arith, w.4))

size_of : (text : List ℕ) (m : ℕ) → BeginsQuoted (34 ∷ text) m → quoted_size text ≡ Some m
size_of text m w =
    let size : 1 + length (inner_text w.0) + 1 ≡ m = omega (arith, w.3) in
    ap (quoted_from false 1) (tail_is text (inner_text w.0 ++ 34 ∷ w.1) w.2.whole) ∙ complete w.0 w.1 1 w.2.lawful ∙ ap (λ (k : ℕ). Some k) size

pub quoted_none : (text : List ℕ) → quoted_size text ≡ None → NoQuoted (34 ∷ text)
quoted_none text is m w = none_some m (quoted_size text) is (size_of text m w)

-- a text begins with one quoted string
pub one_quoted : (text : List ℕ) (m k : ℕ) → BeginsQuoted text m → BeginsQuoted text k → m ≡ k
one_quoted text m k a b =
    let at : List ℕ = inner_text a.0 ++ 34 ∷ a.1 in
    let there = subst (λ (t : List ℕ). BeginsQuoted t m) a.2.whole a in
    let too = subst (λ (t : List ℕ). BeginsQuoted t k) a.2.whole b in
    some_of k m (quoted_size (inner_text a.0 ++ 34 ∷ a.1)) (size_of (inner_text a.0 ++ 34 ∷ a.1) m there) (size_of (inner_text a.0 ++ 34 ∷ a.1) k too)

-- Now where the code reads.
front : (text : List ℕ) (i : ℕ) → i < length text → drop i text ≡ get_or text i 0 ∷ drop (i + 1) text
front text i there = rw (add-one, drop-cons text i 0) refl

pub at_end : (e : Bool) (n : ℕ) (text : List ℕ) → quoted_from e n (drop (length text) text) ≡ None
unfolding quoted_from
at_end true n text = rw drop-length refl
at_end false n text = rw drop-length refl

module _ (text : List ℕ) (i : ℕ) (escaped : Bool) (answer : Option ℕ) (so_far : quoted_from escaped (i + 1) (drop i text) ≡ answer)
    (there : i < length text) where
  here : quoted_from escaped (i + 1) (get_or text i 0 ∷ drop (i + 1) text) ≡ answer
  here = ap (quoted_from escaped (i + 1)) (sym (front text i there)) ∙ so_far

  as_true : escaped ≡ true → quoted_from true (i + 1) (get_or text i 0 ∷ drop (i + 1) text) ≡ answer
  as_true is = ap (λ e. quoted_from e (i + 1) (get_or text i 0 ∷ drop (i + 1) text)) (sym is) ∙ here

  as_false : escaped ≡ false → quoted_from false (i + 1) (get_or text i 0 ∷ drop (i + 1) text) ≡ answer
  as_false is = ap (λ e. quoted_from e (i + 1) (get_or text i 0 ∷ drop (i + 1) text)) (sym is) ∙ here

  -- behind a backslash
  pub escaped_bad : escaped ≡ true → is_escaped (get_or text i 0) ≡ false → None ≡ answer
  unfolding quoted_from
  escaped_bad is test = sym (rw test refl) ∙ as_true is

  pub escaped_on : escaped ≡ true → is_escaped (get_or text i 0) ≡ true → quoted_from false (i + 1 + 1) (drop (i + 1) text) ≡ answer
  unfolding quoted_from
  escaped_on is test = sym (rw test refl) ∙ as_true is

  -- and elsewhere
  pub plain_end : escaped ≡ false → (get_or text i 0 == 34) ≡ true → Some (i + 1 + 1) ≡ answer
  unfolding quoted_from
  plain_end is test = sym (rw test refl) ∙ as_false is

  pub plain_bad : escaped ≡ false → (get_or text i 0 == 34) ≡ false → is_forbidden (get_or text i 0) ≡ true → None ≡ answer
  unfolding quoted_from
  plain_bad is test bad = sym (rw (test, bad) refl) ∙ as_false is

  pub plain_on : escaped ≡ false → (get_or text i 0 == 34) ≡ false → is_forbidden (get_or text i 0) ≡ false →
      quoted_from (get_or text i 0 == 92) (i + 1 + 1) (drop (i + 1) text) ≡ answer
  unfolding quoted_from
  plain_on is test bad = sym (rw (test, bad) refl) ∙ as_false is
