-- The first word of a text, where it is a tag.
use Rattle.std.proofs.Common.{◌≡◌, ◌≢◌, ℕ, zero, suc, ◌<◌, Bool, true, false, List, [], ◌∷◌, ◌++◌, get_or, length, take, drop, Option}
use Rattle.std.proofs.Common.{Some, None, refl, ap, sym, ◌∙◌, subst, inl, inr, arith}
use Rattle.std.proofs.lemmas.Bool.{cases_Bool}
use Rattle.std.proofs.lemmas.Bool.Decides.{nat_tests}
use Rattle.std.specs.Prelude.{◌⊎◌, not, nat_lt, cond, IsTrue, IfNone}
use Rattle.std.specs.List.{AllByRecursion, position, position_or_len}
use Rattle.imap_model.specs.Tagged.{is_tag_byte}
use Rattle.command_texts.specs.FirstWord.{IsTagged}

-- where the tag's bytes end
abbrev tag_len : List ℕ → ℕ
tag_len text = position_or_len (λ byte. not (is_tag_byte byte)) text

len_on : (b : ℕ) (text : List ℕ) → is_tag_byte b ≡ true → tag_len (b ∷ text) ≡ suc (tag_len text)
len_on b text h = rw h (omega arith)

len_end : (b : ℕ) (text : List ℕ) → is_tag_byte b ≡ false → tag_len (b ∷ text) ≡ 0
len_end b text h = rw h refl

front_all : (text : List ℕ) → AllByRecursion (λ byte. IsTrue (is_tag_byte byte)) (take (tag_len text) text)
front_all [] = tt
front_all (b ∷ text) = elim (cases_Bool (is_tag_byte b)) [
  | inl is ↦ subst (λ (n : ℕ). AllByRecursion (λ byte. IsTrue (is_tag_byte byte)) (take n (b ∷ text))) (sym (len_on b text is)) (is, front_all text)
  | inr none ↦ subst (λ (n : ℕ). AllByRecursion (λ byte. IsTrue (is_tag_byte byte)) (take n (b ∷ text))) (sym (len_end b text none)) tt
]

len_is : (word rest : List ℕ) (e : ℕ) → AllByRecursion (λ byte. IsTrue (is_tag_byte byte)) word → is_tag_byte e ≡ false →
    tag_len (word ++ e ∷ rest) ≡ length word
len_is [] rest e all none = len_end e rest none
len_is (b ∷ word) rest e all none = len_on b (word ++ e ∷ rest) all.0 ∙ omega (arith, len_is word rest e all.1 none)

longer : (word rest : List ℕ) (e : ℕ) → length word < length (word ++ e ∷ rest)
longer [] rest e = omega arith
longer (b ∷ word) rest e = omega (arith, longer word rest e)

at_end : (word rest : List ℕ) (e d : ℕ) → get_or (word ++ e ∷ rest) (length word) d ≡ e
at_end [] rest e d = refl
at_end (b ∷ word) rest e d = at_end word rest e d

split_here : (text : List ℕ) (at d : ℕ) → at < length text → text ≡ take at text ++ get_or text at d ∷ drop (suc at) text
split_here [] at d lt = absurd (omega arith)
split_here (b ∷ text) zero d lt = refl
split_here (b ∷ text) (suc at) d lt = ap (λ (t : List ℕ). b ∷ t) (split_here text at d (omega arith))

-- the place is told
place_of : (text : List ℕ) (at : ℕ) → position (λ byte. not (is_tag_byte byte)) text ≡ Some at → (at ≡ tag_len text) × (at < length text)
place_of text at is = elim (cases_Bool (nat_lt (tag_len text) (length text))) [
  | inl less ↦
      let some : ◌≡◌ {A = Option ℕ} (Some (tag_len text)) (Some at) = sym (rw less refl) ∙ is in
      let same : at ≡ tag_len text = cc in
      (same, rw same (less_is (tag_len text) (length text) less))
  | inr more ↦ absurd (let none : ◌≡◌ {A = Option ℕ} None (Some at) = sym (rw more refl) ∙ is in cc)
]
  where
    less_is : (m n : ℕ) → nat_lt m n ≡ true → m < n
    less_is m n h = grind (arith, nat_tests)

some_word : (text : List ℕ) (at : ℕ) → at ≢ 0 → at < length text → take at text ≢ []
some_word [] at some lt e = omega arith
some_word (b ∷ text) zero some lt e = some refl
some_word (b ∷ text) (suc at) some lt e = cc

pub word_here : (text : List ℕ) (at d : ℕ) → position (λ byte. not (is_tag_byte byte)) text ≡ Some at → at ≢ 0 →
    (get_or text at d ≡ 32) ⊎ (get_or text at d ≡ 13) → (later : List (List ℕ)) → IsTagged (text ∷ later) (take at text)
word_here text at d is some ends later =
    let place = place_of text at is in
    record {
      tag = (
        some_word text at some place.1,
        subst (λ (n : ℕ). AllByRecursion (λ byte. IsTrue (is_tag_byte byte)) (take n text))
            (sym place.0) (front_all text),
      );
      end = get_or text at d;
      ends = ends;
      rest = drop (suc at) text;
      later = later;
      text = ap (λ (t : List ℕ). t ∷ later) (split_here text at d place.1);
    }

-- and a word that is one stands there
end_fails : (e : ℕ) → (e ≡ 32) ⊎ (e ≡ 13) → is_tag_byte e ≡ false
end_fails e (inl is) = rw is refl
end_fails e (inr is) = rw is refl

text_of : (text word : List ℕ) (later : List (List ℕ)) (t : IsTagged (text ∷ later) word) → text ≡ word ++ t.end ∷ t.rest
text_of text word later t = let whole = t.text in cc

place_is : (word rest : List ℕ) (e : ℕ) → AllByRecursion (λ byte. IsTrue (is_tag_byte byte)) word → is_tag_byte e ≡ false →
    position (λ byte. not (is_tag_byte byte)) (word ++ e ∷ rest) ≡ Some (length word)
place_is word rest e all none =
    let here : tag_len (word ++ e ∷ rest) ≡ length word = len_is word rest e all none in
    let less : nat_lt (length word) (length (word ++ e ∷ rest)) ≡ true = less_true (length word) (length (word ++ e ∷ rest)) (longer word rest e) in
    ap (λ (n : ℕ). cond (nat_lt n (length (word ++ e ∷ rest))) (Some n) None) here ∙ ap (λ (b : Bool). cond b (Some (length word)) None) less
  where
    less_true : (m n : ℕ) → m < n → nat_lt m n ≡ true
    less_true m n h = grind (arith, nat_tests)

place_told : (text word : List ℕ) (later : List (List ℕ)) → IsTagged (text ∷ later) word → position (λ byte. not (is_tag_byte byte)) text ≡ Some (length word)
place_told text word later t = ap (position (λ byte. not (is_tag_byte byte))) (text_of text word later t)
    ∙ place_is word t.rest t.end t.tag.1 (end_fails t.end t.ends)

pub none_here : (text : List ℕ) → position (λ byte. not (is_tag_byte byte)) text ≡ None → (word : List ℕ) (later : List (List ℕ)) →
    IsTagged (text ∷ later) word → ⊥
none_here text none word later t = let some = place_told text word later t in cc

length_some : (word : List ℕ) → word ≢ [] → length word ≢ 0
length_some [] some e = some refl
length_some (b ∷ word) some e = omega (arith, e)

pub none_empty : (text : List ℕ) (at : ℕ) → position (λ byte. not (is_tag_byte byte)) text ≡ Some at → at ≡ 0 →
    (word : List ℕ) (later : List (List ℕ)) → IsTagged (text ∷ later) word → ⊥
none_empty text at is none word later t =
    let some = place_told text word later t in
    let same : length word ≡ at = cc in
    length_some word t.tag.0 (same ∙ none)

pub none_ends : (text : List ℕ) (at d : ℕ) → position (λ byte. not (is_tag_byte byte)) text ≡ Some at →
    (((get_or text at d ≡ 32) ⊎ (get_or text at d ≡ 13)) → ⊥) → (word : List ℕ) (later : List (List ℕ)) → IsTagged (text ∷ later) word → ⊥
none_ends text at d is other word later t =
    let some = place_told text word later t in
    let same : length word ≡ at = cc in
    let here : get_or text at d ≡ t.end = ap (λ (n : ℕ). get_or text n d) (sym same)
    ∙ ap (λ (l : List ℕ). get_or l (length word) d) (text_of text word later t) ∙ at_end word t.rest t.end d in
    other (subst (λ (b : ℕ). (b ≡ 32) ⊎ (b ≡ 13)) (sym here) t.ends)

-- where nothing is told
pub if_none : {T P : Type 0} → (o : Option T) → P → IfNone o P
if_none None p = p
if_none (Some x) p = tt

pub if_none_more : {T P Q : Type 0} → (o : Option T) → (P → Q) → IfNone o P → IfNone o Q
if_none_more None f p = f p
if_none_more (Some x) f p = tt
