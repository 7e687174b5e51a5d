-- One write behind another, and what is known where it succeeds.
use Rattle.std.proofs.Common.{◌≡◌, ℕ, zero, suc, decimal, ◌+◌, ◌-◌, ◌<◌, true, List, [], ◌∷◌, ◌++◌, Result, Ok, Err, length, take, get_or}
use Rattle.std.proofs.Common.{refl, sym, ◌∙◌, ap, subst, arith, append_assoc, add-one}
use Rattle.std.proofs.Math.Seq.{take-suc}
use Rattle.std.proofs.lemmas.Bool.Decides.{nat_tests}
use Rattle.std.proofs.lemmas.List.{append-nil}
use Rattle.std.specs.Prelude.{◌==◌, codes, if◌then◌else◌, is_ok}
use Rattle.std.specs.Result.{OnOk}
use Rattle.response_lines.specs.LineTexts.{◌⌢◌, count_text, members_text, words_text}
use Rattle.uid_sets.specs.declared.uid.UidRange.{UidRange}
use Rattle.uid_sets.proofs.Texts.{take_here}
use Rattle.response_lines.proofs.TextChains.{text_assoc}

pub on_ok : {T E : Type 0} (r : Result T E) (P : Type 0) → P → OnOk r P
on_ok (Ok x) P p = p
on_ok (Err e) P p = tt

pub on_ok_more : {T E : Type 0} (r : Result T E) (P Q : Type 0) → (P → Q) → OnOk r P → OnOk r Q
on_ok_more (Ok x) P Q f p = f p
on_ok_more (Err e) P Q f p = tt

pub joined_is : (a b : List ℕ) → a ++ b ≡ a ⌢ b
unfolding ◌⌢◌
joined_is a b = refl

pub joined_ok : {T E : Type 0} (r : Result T E) (z a b : List ℕ) → OnOk r (z ≡ a ++ b) → OnOk r (z ≡ a ⌢ b)
joined_ok r z a b h = on_ok_more r (z ≡ a ++ b) (z ≡ a ⌢ b) (λ e. e ∙ joined_is a b) h

pub joined_if : {T E : Type 0} (r : Result T E) (z a b : List ℕ) → z ≡ (if is_ok r then a ++ b else a) → OnOk r (z ≡ a ⌢ b)
joined_if (Ok x) z a b is = is ∙ joined_is a b
joined_if (Err e) z a b is = tt

-- several writes
pub last_two : {T E : Type 0} (r : Result T E) (o a b x z : List ℕ) → x ≡ o ⌢ a → OnOk r (z ≡ x ⌢ b) → OnOk r (z ≡ o ⌢ (a ⌢ b))
last_two r o a b x z h k = on_ok_more r (z ≡ x ⌢ b) (z ≡ o ⌢ (a ⌢ b)) (λ e. e ∙ ap (λ p. p ⌢ b) h ∙ text_assoc o a b) k

pub last_three : {T E : Type 0} (r : Result T E) (o a b d x y z : List ℕ) → x ≡ o ⌢ a → y ≡ x ⌢ b → OnOk r (z ≡ y ⌢ d) → OnOk r (z ≡ o ⌢ (a ⌢ (b ⌢ d)))
last_three r o a b d x y z h k l = last_two r o a (b ⌢ d) x z h (last_two r x b d y z k l)

pub last_four : {T E : Type 0} (r : Result T E) (o a b d e x y z w : List ℕ) → x ≡ o ⌢ a → y ≡ x ⌢ b → z ≡ y ⌢ d → OnOk r (w ≡ z ⌢ e) →
    OnOk r (w ≡ o ⌢ (a ⌢ (b ⌢ (d ⌢ e))))
last_four r o a b d e x y z w h k l m = last_two r o a (b ⌢ (d ⌢ e)) x w h (last_three r x b d e y z w k l m)

pub last_five : {T E : Type 0} (r : Result T E) (o a b d e f x y z w v : List ℕ) → x ≡ o ⌢ a → y ≡ x ⌢ b → z ≡ y ⌢ d → w ≡ z ⌢ e →
    OnOk r (v ≡ w ⌢ f) → OnOk r (v ≡ o ⌢ (a ⌢ (b ⌢ (d ⌢ (e ⌢ f)))))
last_five r o a b d e f x y z w v h k l m n = last_two r o a (b ⌢ (d ⌢ (e ⌢ f))) x v h (last_four r x b d e f y z w v k l m n)

-- where a number is known
pub at_number : {T E : Type 0} (r : Result T E) (z o : List ℕ) (f : ℕ → List ℕ) (n k : ℕ) → n ≡ k → OnOk r (z ≡ o ⌢ f k) → OnOk r (z ≡ o ⌢ f n)
at_number r z o f n k is h = subst (λ (m : ℕ). OnOk r (z ≡ o ⌢ f m)) (sym is) h

-- nothing is written of an empty list
pub none_here : {A : Type 0} (out : List ℕ) (f : List A → List ℕ) (xs ys : List A) → f [] ≡ [] → xs ≡ ys → (length xs == 0) ≡ true → out ≡ out ⌢ f ys
unfolding ◌⌢◌
none_here out f [] ys none is h = sym (append-nil out) ∙ ap (λ (t : List ℕ). out ++ t) (sym none ∙ ap f is)
none_here out f (x ∷ xs) ys none is h = absurd (grind (arith, nat_tests))

-- a text, and words behind it
pub last_words : {T E : Type 0} (r : Result T E) (o a x z : List ℕ) (slice words : List (List ℕ)) → slice ≡ words → x ≡ o ⌢ a →
    OnOk r (z ≡ x ⌢ words_text slice) → OnOk r (z ≡ o ⌢ (a ⌢ words_text words))
last_words r o a x z slice words same h k = subst (λ (ws : List (List ℕ)). OnOk r (z ≡ o ⌢ (a ⌢ words_text ws))) same
    (last_two r o a (words_text slice) x z h k)

-- a number more
count_push : (least count : ℕ) → count_text least (suc count) ≡ count_text least count ⌢ (codes " " ⌢ decimal (least + count))
unfolding ◌⌢◌
count_push least zero = ap (λ (t : List ℕ). 32 ∷ t) (append-nil (decimal least) ∙ ap decimal (omega arith))
count_push least (suc count) =
    ap (λ (t : List ℕ). 32 ∷ (decimal least ++ t)) (count_push (least + 1) count)
    ∙ ap (λ (t : List ℕ). 32 ∷ t) (sym (append_assoc (decimal least) (count_text (least + 1) count) (32 ∷ decimal (least + 1 + count))))
    ∙ ap (λ (n : ℕ). count_text least (suc count) ++ 32 ∷ decimal n) (omega arith)

pub next_number : (step least : ℕ) (o x y z : List ℕ) → x ≡ o ⌢ count_text least step → y ≡ x ⌢ codes " " →
    z ≡ y ⌢ decimal (least + step) → z ≡ o ⌢ count_text least (step + 1)
unfolding ◌⌢◌
next_number step least o x y z h k l =
    l ∙ ap (λ (t : List ℕ). t ++ decimal (least + step)) (k ∙ ap (λ (t : List ℕ). t ++ codes " ") h)
    ∙ append_assoc (o ++ count_text least step) (codes " ") (decimal (least + step))
    ∙ append_assoc o (count_text least step) (codes " " ++ decimal (least + step))
    ∙ ap (λ (t : List ℕ). o ++ t) (sym (count_push least step))
    ∙ ap (λ (n : ℕ). o ++ count_text least n) (sym (add-one step))

-- a range more
members_push : (ranges : List UidRange) (range : UidRange) →
    members_text (ranges ++ range ∷ []) ≡ members_text ranges ⌢ count_text range.low (range.high + 1 - range.low)
unfolding ◌⌢◌
members_push [] range = append-nil (count_text range.low (range.high + 1 - range.low))
members_push (r ∷ ranges) range =
    ap (λ (t : List ℕ). count_text r.low (r.high + 1 - r.low) ++ t) (members_push ranges range)
    ∙ sym (append_assoc (count_text r.low (r.high + 1 - r.low)) (members_text ranges) (count_text range.low (range.high + 1 - range.low)))

pub next_range : (i : ℕ) (ranges : List UidRange) (other : UidRange) (o x z : List ℕ) → i < length ranges → x ≡ o ⌢ members_text (take i ranges)
    → z ≡ x ⌢ count_text (get_or ranges i other).low ((get_or ranges i other).high + 1 - (get_or ranges i other).low) →
    z ≡ o ⌢ members_text (take (i + 1) ranges)
unfolding ◌⌢◌
next_range i ranges other o x z lt h l =
    l ∙ ap (λ (t : List ℕ). t ++ count_text (get_or ranges i other).low ((get_or ranges i other).high + 1 - (get_or ranges i other).low)) h
    ∙ append_assoc o (members_text (take i ranges)) (count_text (get_or ranges i other).low ((get_or ranges i other).high + 1 - (get_or ranges i other).low))
    ∙ ap (λ (t : List ℕ). o ++ t) (sym (members_push (take i ranges) (get_or ranges i other)))
    ∙ ap (λ (rs : List UidRange). o ++ members_text rs) (sym (take_here ranges i other lt))

-- a word more
words_push : (words : List (List ℕ)) (word : List ℕ) → words_text (words ++ word ∷ []) ≡ words_text words ⌢ (codes " " ⌢ word)
unfolding ◌⌢◌
words_push [] word = ap (λ (t : List ℕ). 32 ∷ t) (append-nil word)
words_push (w ∷ words) word = ap (λ (t : List ℕ). 32 ∷ (w ++ t)) (words_push words word)
    ∙ ap (λ (t : List ℕ). 32 ∷ t) (sym (append_assoc w (words_text words) (32 ∷ word)))

pub next_word : (i : ℕ) (words : List (List ℕ)) (word slice o x y z : List ℕ) → i < length words → word ≡ get_or words i word → slice ≡ word
    → x ≡ o ⌢ words_text (take i words) → y ≡ x ⌢ codes " " → z ≡ y ⌢ slice → z ≡ o ⌢ words_text (take (i + 1) words)
unfolding ◌⌢◌
next_word i words word slice o x y z lt is same h k l =
    l ∙ ap (λ (t : List ℕ). t ++ slice) (k ∙ ap (λ (t : List ℕ). t ++ codes " ") h) ∙ append_assoc (o ++ words_text (take i words)) (codes " ") slice
    ∙ append_assoc o (words_text (take i words)) (codes " " ++ slice)
    ∙ ap (λ (t : List ℕ). o ++ (words_text (take i words) ++ (codes " " ++ t))) same
    ∙ ap (λ (t : List ℕ). o ++ t) (sym (words_push (take i words) word))
    ∙ ap (λ (ws : List (List ℕ)). o ++ words_text ws) (ap (λ (ws : List (List ℕ)). ws)
    (ap (λ (v : List ℕ). take i words ++ v ∷ []) is ∙ sym (take-suc words i word lt)) ∙ ap (λ (n : ℕ). take n words) (sym (add-one i)))
