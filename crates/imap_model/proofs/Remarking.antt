-- What a list of responses says, and that it holds what it was made to hold.
use Rattle.std.proofs.Common.{◌≡◌, ℕ, suc, ◌+◌, ◌<◌, ◌≤◌, Bool, true, eqb, List, [], ◌∷◌, ◌++◌, Option, Some, refl, ◌∙◌, subst, arith, length}
use Rattle.std.specs.Prelude.{Contains, map, filter}
use Rattle.std.specs.List.{AllByRecursion}
use Rattle.std.proofs.lemmas.Bool.{cond_both, eq-eqb, ne_eqb, cond-true, cond-false}
use Rattle.std.proofs.lemmas.Option.{same_Some}
use Rattle.imap_model.specs.Lookups.{message_at}
use Rattle.imap_model.specs.WellFormed.{Rises}
use Rattle.imap_model.specs.declared.server.Message.{Message}

pub here : {A : Type 0} (x : A) (xs : List A) → Contains (x ∷ xs) x
here x xs = (0, omega arith, refl)

pub there : {A : Type 0} (x y : A) (xs : List A) → Contains xs y → Contains (x ∷ xs) y
there x y xs c = let short : c.0 < length xs = c.1 in (suc c.0, omega arith, c.2)

pub behind : {A : Type 0} (xs ys : List A) (y : A) → Contains ys y → Contains (xs ++ ys) y
behind [] ys y c = c
behind (x ∷ xs) ys y c = there x y (xs ++ ys) (behind xs ys y c)

pub all_append : {A : Type 0} (P : A → Type 0) (xs ys : List A) → AllByRecursion P xs → AllByRecursion P ys → AllByRecursion P (xs ++ ys)
all_append P [] ys a b = b
all_append P (x ∷ xs) ys a b = (a.0, all_append P xs ys a.1 b)

pub all_weaker : {A : Type 0} (P Q : A → Type 0) (xs : List A) → ((x : A) → P x → Q x) → AllByRecursion P xs → AllByRecursion Q xs
all_weaker P Q [] f a = tt
all_weaker P Q (x ∷ xs) f a = (f x a.0, all_weaker P Q xs f a.1)

all_both : {A : Type 0} (P Q R : A → Type 0) (xs : List A) → ((x : A) → P x → Q x → R x) → AllByRecursion P xs → AllByRecursion Q xs → AllByRecursion R xs
all_both P Q R [] f a b = tt
all_both P Q R (x ∷ xs) f a b = (f x a.0 b.0, all_both P Q R xs f a.1 b.1)

all_above : (low : ℕ) (ms : List Message) → Rises low ms → AllByRecursion (λ (m : Message). low ≤ m.uid) ms
all_above low [] r = tt
all_above low (x ∷ xs) r =
    let first : low ≤ x.uid = r.0 in
    (first, all_weaker (λ (m : Message). x.uid + 1 ≤ m.uid) (λ (m : Message). low ≤ m.uid) xs (λ m l. omega arith) (all_above (x.uid + 1) xs r.1))

-- each message is the one of its UID
pub each_there : (low : ℕ) (ms : List Message) → Rises low ms → AllByRecursion (λ (m : Message). message_at m.uid ms ≡ Some m) ms
each_there low [] r = tt
each_there low (x ∷ xs) r = (
  cond-true (eqb x.uid x.uid) (Some x) (message_at x.uid xs) (eq-eqb x.uid x.uid refl),
  all_both (λ (m : Message). message_at m.uid xs ≡ Some m) (λ (m : Message). x.uid + 1 ≤ m.uid) (λ (m : Message). message_at m.uid (x ∷ xs) ≡ Some m) xs
      (λ m e l. cond-false (eqb x.uid m.uid) (Some x) (message_at m.uid xs) (ne_eqb x.uid m.uid (λ s. absurd (omega arith))) ∙ e)
      (each_there (x.uid + 1) xs r.1) (all_above (x.uid + 1) xs r.1),
)

-- what is told of the messages that pass a test
pub all_told : {A : Type 0} (P : A → Type 0) (Q : Message → Type 0) (tell : Message → A) (test : Message → Bool) (ms : List Message) →
    ((m : Message) → Q m → test m ≡ true → P (tell m)) → AllByRecursion Q ms → AllByRecursion P (map tell (filter test ms))
all_told P Q tell test [] f a = tt
all_told P Q tell test (x ∷ xs) f a =
    cond_both (test x) (x ∷ filter test xs) (filter test xs) (λ (l : List Message). AllByRecursion P (map tell l))
    (λ t. (f x a.0 t, all_told P Q tell test xs f a.1))
    (λ _. all_told P Q tell test xs f a.1)

pub is_told : {A : Type 0} (tell : Message → A) (test : Message → Bool) (uid : ℕ) (m : Message) (ms : List Message) → test m ≡ true →
    message_at uid ms ≡ Some m → Contains (map tell (filter test ms)) (tell m)
is_told tell test uid m [] t = λ e. absurd (cc)
is_told tell test uid m (x ∷ xs) t =
    cond_both (eqb x.uid uid) (Some x) (message_at uid xs) (λ (o : Option Message). o ≡ Some m → Contains (map tell (filter test (x ∷ xs))) (tell m))
    (λ _ e. subst (λ (y : Message). Contains (map tell (filter test (x ∷ xs))) (tell y)) (same_Some x m e)
    (cond_both (test x) (x ∷ filter test xs) (filter test xs) (λ (l : List Message). Contains (map tell l) (tell x))
    (λ _. here (tell x) (map tell (filter test xs)))
    (λ f. let s : x ≡ m = same_Some x m e in absurd (cc))))
    (λ _ e. cond_both (test x) (x ∷ filter test xs) (filter test xs) (λ (l : List Message). Contains (map tell l) (tell m))
    (λ _. there (tell x) (tell m) (map tell (filter test xs)) (is_told tell test uid m xs t e))
    (λ _. is_told tell test uid m xs t e))
