-- The order of keys by their bytes, and lists that rise in it.
use Rattle.std.proofs.Common.{◌≡◌, ℕ, List, [], ◌∷◌, refl, sym, ap, ◌∙◌}
use Rattle.std.proofs.lemmas.Cmp.{nat_list_cmp_total, tied_itself}
use Rattle.std.specs.Cmp.Lexicographic.{same_text, texts_ties}
use Rattle.std.specs.Ordering.{match_ordering, ordering_reverse, is_eq}
use Rattle.std.specs.declared.cmp.Ordering.{Ordering}
use Rattle.std.specs.declared.cmp.Ordering.TheVariants.{Less, Equal, Greater}
use Rattle.flag_set.specs.FlagKey.{IsKey}
use Rattle.flag_set.specs.FlagSet.{order, AllKeys, IsFlagSet, IsRising, put, union}

pub order_same : (a b : List ℕ) → order a b ≡ Equal → a ≡ b
order_same a b h = same_text a b (sym (texts_ties a b ∙ ap is_eq h))

pub order_itself : (a : List ℕ) → order a a ≡ Equal
order_itself a = tied_itself nat_list_cmp_total a

pub order_flip : (a b : List ℕ) → order b a ≡ ordering_reverse (order a b)
order_flip a b = nat_list_cmp_total.antisymm b a

pub below_all : (a b : List ℕ) (keys : List (List ℕ)) → order a b ≡ Less → AllKeys (λ later. order b later ≡ Less) keys →
    AllKeys (λ later. order a later ≡ Less) keys
below_all a b [] h all = tt
below_all a b (x ∷ xs) h all = (nat_list_cmp_total.trans a b x h all.0, below_all a b xs h all.1)

-- where a key goes, by its order to the first
abbrev put_by : Ordering → List ℕ → List ℕ → List (List ℕ) → List (List ℕ) → List (List ℕ)
put_by o key first rest later = match_ordering o (key ∷ first ∷ rest) (first ∷ rest) (first ∷ later)

pub put_first : (key : List ℕ) (keys : List (List ℕ)) → AllKeys (λ later. order key later ≡ Less) keys → put key keys ≡ key ∷ keys
put_first key [] all = refl
put_first key (x ∷ xs) all = ap (λ o. put_by o key x xs (put key xs)) all.0

pub put_there : (key : List ℕ) (keys : List (List ℕ)) → put key (key ∷ keys) ≡ key ∷ keys
put_there key keys = ap (λ o. put_by o key key keys (put key keys)) (order_itself key)

pub put_behind : (key first : List ℕ) (rest : List (List ℕ)) → order first key ≡ Less → put key (first ∷ rest) ≡ first ∷ put key rest
put_behind key first rest h = ap (λ o. put_by o key first rest (put key rest)) (order_flip first key ∙ ap ordering_reverse h)

all_put_by : (P : List ℕ → Type 0) (o : Ordering) (key first : List ℕ) (rest later : List (List ℕ)) → P key → AllKeys P (first ∷ rest) →
    AllKeys P later → AllKeys P (put_by o key first rest later)
all_put_by P Less key first rest later p all l = (p, all)
all_put_by P Equal key first rest later p all l = all
all_put_by P Greater key first rest later p all l = (all.0, l)

pub all_put : (P : List ℕ → Type 0) (key : List ℕ) (keys : List (List ℕ)) → P key → AllKeys P keys → AllKeys P (put key keys)
all_put P key [] p all = (p, tt)
all_put P key (x ∷ xs) p all = all_put_by P (order key x) key x xs (put key xs) p all (all_put P key xs p all.1)

rising_put_by : (o : Ordering) (key first : List ℕ) (rest : List (List ℕ)) → order key first ≡ o → IsRising (first ∷ rest) →
    IsRising (put key rest) → IsRising (put_by o key first rest (put key rest))
rising_put_by Less key first rest h up later = ((h, below_all key first rest h up.0), up)
rising_put_by Equal key first rest h up later = up
rising_put_by Greater key first rest h up later =
    (all_put (λ x. order first x ≡ Less) key rest (order_flip key first ∙ ap ordering_reverse h) up.0, later)

pub rising_put : (key : List ℕ) (keys : List (List ℕ)) → IsRising keys → IsRising (put key keys)
rising_put key [] up = (tt, tt)
rising_put key (x ∷ xs) up = rising_put_by (order key x) key x xs refl up (rising_put key xs up.1)

-- the union of two rising lists, by their first keys
pub rising_union : (a b : List (List ℕ)) → IsRising b → IsRising (union a b)
rising_union [] b up = up
rising_union (x ∷ xs) b up = rising_put x (union xs b) (rising_union xs b up)

pub all_union : (P : List ℕ → Type 0) (a b : List (List ℕ)) → AllKeys P a → AllKeys P b → AllKeys P (union a b)
all_union P [] b p q = q
all_union P (x ∷ xs) b p q = all_put P x (union xs b) p.0 (all_union P xs b p.1 q)

pub union_nil : (a : List (List ℕ)) → IsRising a → union a [] ≡ a
union_nil [] up = refl
union_nil (x ∷ xs) up = ap (put x) (union_nil xs up.1) ∙ put_first x xs up.0

pub union_left : (x : List ℕ) (xs b : List (List ℕ)) → AllKeys (λ later. order x later ≡ Less) xs →
    AllKeys (λ later. order x later ≡ Less) b → union (x ∷ xs) b ≡ x ∷ union xs b
union_left x xs b p q = put_first x (union xs b) (all_union (λ later. order x later ≡ Less) xs b p q)

pub union_right : (a : List (List ℕ)) (y : List ℕ) (ys : List (List ℕ)) → AllKeys (λ later. order y later ≡ Less) a → union a (y ∷ ys) ≡ y ∷ union a ys
union_right [] y ys p = refl
union_right (x ∷ xs) y ys p = ap (put x) (union_right xs y ys p.1) ∙ put_behind x y (union xs ys) p.0

pub union_both : (x : List ℕ) (xs ys : List (List ℕ)) → AllKeys (λ later. order x later ≡ Less) xs → union (x ∷ xs) (x ∷ ys) ≡ x ∷ union xs ys
union_both x xs ys p = ap (put x) (union_right xs x ys p) ∙ put_there x (union xs ys)

-- sets stay sets
pub set_put : (key : List ℕ) (keys : List (List ℕ)) → IsKey key → IsFlagSet keys → IsFlagSet (put key keys)
set_put key keys k set = record { rising = rising_put key keys set.rising; flags = all_put IsKey key keys k set.flags }

pub set_union : (a b : List (List ℕ)) → IsFlagSet a → IsFlagSet b → IsFlagSet (union a b)
set_union a b s t = record { rising = rising_union a b t.rising; flags = all_union IsKey a b s.flags t.flags }
