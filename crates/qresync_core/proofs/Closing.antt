-- What stands behind the last CLOSED, response by response.
use Rattle.std.proofs.Common.{◌≡◌, ℕ, suc, ◌+◌, ◌<◌, ◌≤◌, Bool, true, false, ◌||◌, List, [], ◌∷◌, ◌++◌, length, get_or, take, drop, refl, sym, ◌∙◌, ap, arith}
use Rattle.std.proofs.lemmas.List.{length-take-le, take_all, take_more}
use Rattle.std.specs.List.{list_any}
use Rattle.std.proofs.lemmas.Bool.{cond_both, cond-true, cond-false}
use Rattle.std.proofs.lemmas.List.Folds.{list_any-append}
use Rattle.imap_model.specs.declared.response.Response.{Response}
use Rattle.qresync_core.specs.Behind.{is_closed, closed_len, behind_closed}

no_more : (b c : Bool) → c ≡ false → (b || (c || false)) ≡ b
no_more true c e = refl
no_more false true e = e
no_more false false e = refl

one_more : (b c : Bool) → c ≡ true → (b || (c || false)) ≡ true
one_more true c e = refl
one_more false true e = refl
one_more false false e = e

one_of : (b c : Bool) → c ≡ true → (b || c) ≡ true
one_of true c e = refl
one_of false c e = e

first_one : (b c : Bool) → b ≡ true → (b || c) ≡ true
first_one true c e = refl
first_one false c e = absurd (cc)

last_one : (a b c : Bool) → b ≡ true → (a || (b || c)) ≡ true
last_one true b c e = refl
last_one false b c e = first_one b c e

-- a last response that isn't CLOSED counts for nothing
pub open_last : (told : List Response) (r : Response) → is_closed r ≡ false → closed_len (told ++ r ∷ []) ≡ closed_len told
open_last [] r e = cond-false (is_closed r || false) 1 0 (no_more false (is_closed r) e)
open_last (x ∷ xs) r e =
    let all = list_any-append is_closed xs (r ∷ []) ∙ no_more (list_any is_closed xs) (is_closed r) e in
    let rest = open_last xs r e in cc

-- all is of the old mailbox up to a last CLOSED
pub closed_last : (told : List Response) (r : Response) → is_closed r ≡ true → closed_len (told ++ r ∷ []) ≡ suc (length told)
closed_last [] r e = cond-true (is_closed r || false) 1 0 (one_more false (is_closed r) e)
closed_last (x ∷ xs) r e =
    let all = list_any-append is_closed xs (r ∷ []) ∙ one_more (list_any is_closed xs) (is_closed r) e in
    let any = one_of (is_closed x) (list_any is_closed (xs ++ r ∷ [])) all in
    cond-true (list_any is_closed (x ∷ (xs ++ r ∷ []))) (suc (closed_len (xs ++ r ∷ []))) 0 any ∙ ap suc (closed_last xs r e)

pub closed_len_within : (told : List Response) → closed_len told ≤ length told
closed_len_within [] = omega arith
closed_len_within (x ∷ xs) =
    let rest = closed_len_within xs in
    cond_both (list_any is_closed (x ∷ xs)) (suc (closed_len xs)) 0 (λ n. n ≤ suc (length xs)) (λ t. omega (arith, rest)) (λ f. omega arith)

-- without CLOSED all counts
pub all_behind : (told : List Response) → list_any is_closed told ≡ false → behind_closed told ≡ told
all_behind [] e = refl
all_behind (x ∷ xs) e = ap (λ n. drop n (x ∷ xs)) (cond-false (list_any is_closed (x ∷ xs)) (suc (closed_len xs)) 0 e)

none_left : (told : List Response) → list_any is_closed told ≡ false → closed_len told ≡ 0
none_left [] e = refl
none_left (x ∷ xs) e = cond-false (list_any is_closed (x ∷ xs)) (suc (closed_len xs)) 0 e

-- what stands behind a CLOSED that is the last
pub behind_it : (before told : List Response) (r : Response) → is_closed r ≡ true → list_any is_closed told ≡ false →
    behind_closed (before ++ r ∷ told) ≡ told
behind_it [] told r e f =
    ap (λ n. drop n (r ∷ told)) (cond-true (is_closed r || list_any is_closed told) (suc (closed_len told)) 0
    (first_one (is_closed r) (list_any is_closed told) e)
    ∙ ap suc (none_left told f))
behind_it (x ∷ xs) told r e f =
    let all = list_any-append is_closed xs (r ∷ told) ∙ last_one (list_any is_closed xs) (is_closed r) (list_any is_closed told) e in
    let any = one_of (is_closed x) (list_any is_closed (xs ++ r ∷ told)) all in
    ap (λ n. drop n (x ∷ (xs ++ r ∷ told))) (cond-true (list_any is_closed (x ∷ (xs ++ r ∷ told))) (suc (closed_len (xs ++ r ∷ told))) 0 any)
    ∙ behind_it xs told r e f

-- one response more that isn't CLOSED
pub open_more : (told : List Response) (i : ℕ) (r : Response) → i < length told → r ≡ get_or told i r → is_closed r ≡ false →
    closed_len (take (i + 1) told) ≡ closed_len (take i told)
open_more told i r l g e = ap closed_len (take_more told i r l) ∙ open_last (take i told) (get_or told i r) (ap is_closed (sym g) ∙ e)

-- one that is
pub closed_more : (told : List Response) (i : ℕ) (r : Response) → i < length told → r ≡ get_or told i r → is_closed r ≡ true →
    closed_len (take (i + 1) told) ≡ i + 1
closed_more told i r l g e =
    let taken = length-take-le i told (omega (arith, l)) in
    ap closed_len (take_more told i r l) ∙ closed_last (take i told) (get_or told i r) (ap is_closed (sym g) ∙ e) ∙ omega (arith, taken)

-- all of them
pub all_taken : (told : List Response) (i n : ℕ) → length told ≤ i → n ≡ closed_len (take i told) → n ≤ length told
all_taken told i n l e =
    let whole = ap closed_len (take_all i told l) in let within = closed_len_within told in omega (arith, e, whole, within)
