-- The part of an identifier that is searched for.
use Rattle.std.proofs.Common.{◌≡◌, inl, inr, ℕ, ◌<◌, Bool, true, false, cond, ltb, List, [], ◌∷◌, ◌++◌, Option, Some, None, refl}
use Rattle.std.proofs.Common.{sym, ◌∙◌, ap, subst, arith, append_assoc, length, take, drop}
use Rattle.std.specs.Prelude.{Contains, All, nat_eq}
use Rattle.std.specs.List.{list_any, starts_with}
use Rattle.std.specs.Option.{option_and_then, option_or, unwrap_or}
use Rattle.std.proofs.lemmas.Bool.{cond_both, cond-false, or_from, or_left, or_parts, false_from_ne_true, le-ltb, ltb-true}
use Rattle.std.proofs.lemmas.List.{append-nil, take-append-drop}
use Rattle.std.proofs.lemmas.List.Elements.{All-contains, Contains-append_cases, Contains-append_left, Contains-append_right}
use Rattle.std.proofs.lemmas.Option.{same_Some}
use Rattle.mail_header.specs.Folding.{unfolded}
use Rattle.mail_header.specs.Identifier.{IsId, IsIdByte, PlacedBody, id_bodies, id_of}
use Rattle.imap_model.proofs.Finding.{same_name}
use Rattle.imap_model.specs.Searching.{has_in_id, holds_part}
use Rattle.append_probe.specs.Laws.{IsPart}
use Rattle.append_probe.specs.Marked.{has_id, is_only}
use Rattle.append_probe.specs.Question.{before, behind, behind_words, longer, question_part, word_begins, word_ends}
use Rattle.append_probe.proofs.Halves.{first_or_later, in_nothing}
use Rattle.append_probe.proofs.Standing.{Stands, begins_it, begins_with, stands_holds, stands_within, stands_without, trimmed_stands}

-- what holds of both holds of the longer one
longer_has : (P : List ℕ → Type 0) (first second : List ℕ) → P first → P second → P (longer first second)
longer_has P first second f s = cond_both (ltb (length first) (length second)) second first P (λ _. s) (λ _. f)

all_stands : (text : List ℕ) → Stands text text
all_stands text = record { front = []; behind = []; is = sym (append-nil text) }

-- the bytes in front of a mark

before_stands : (mark bytes : List ℕ) → (rest : List ℕ) × (bytes ≡ before mark bytes ++ rest)
before_stands mark [] = ([], refl)
before_stands mark (x ∷ xs) =
    cond_both (starts_with nat_eq (x ∷ xs) mark) [] (x ∷ before mark xs) (λ (l : List ℕ). (rest : List ℕ) × (x ∷ xs ≡ l ++ rest))
    (λ _. (x ∷ xs, refl))
    (λ _. let p : (rest : List ℕ) × (xs ≡ before mark xs ++ rest) = before_stands mark xs in (p.0, ap (λ (l : List ℕ). x ∷ l) p.1))

longer_begins : (mark front rest : List ℕ) → starts_with nat_eq front mark ≡ true → starts_with nat_eq (front ++ rest) mark ≡ true
longer_begins mark front rest t =
    ap (λ (l : List ℕ). starts_with nat_eq l mark)
    (ap (λ (l : List ℕ). l ++ rest) (begins_with mark front t) ∙ append_assoc mark (drop (length mark) front) rest)
    ∙ begins_it mark (drop (length mark) front ++ rest)

before_plain : (bytes : List ℕ) → holds_part word_begins (before word_begins bytes) ≡ false
before_plain [] = refl
before_plain (x ∷ xs) =
    cond_both (starts_with nat_eq (x ∷ xs) word_begins) [] (x ∷ before word_begins xs) (λ (l : List ℕ). holds_part word_begins l ≡ false)
    (λ _. refl)
    (λ f. or_from (starts_with nat_eq (x ∷ before word_begins xs) word_begins) (holds_part word_begins (before word_begins xs))
    (false_from_ne_true (starts_with nat_eq (x ∷ before word_begins xs) word_begins) (λ t.
    let p : (rest : List ℕ) × (xs ≡ before word_begins xs ++ rest) = before_stands word_begins xs in
    let u : starts_with nat_eq (x ∷ xs) word_begins ≡ true =
    ap (λ (l : List ℕ). starts_with nat_eq (x ∷ l) word_begins) p.1 ∙ longer_begins word_begins (x ∷ before word_begins xs) p.0 t in
    absurd (cc (f, u))))
    (before_plain xs))

before_whole : (bytes : List ℕ) → holds_part word_begins bytes ≡ false → before word_begins bytes ≡ bytes
before_whole [] f = refl
before_whole (x ∷ xs) f =
    let p : (starts_with nat_eq (x ∷ xs) word_begins ≡ false) × (holds_part word_begins xs ≡ false) =
    or_parts (starts_with nat_eq (x ∷ xs) word_begins) (holds_part word_begins xs) f in
    cond-false (starts_with nat_eq (x ∷ xs) word_begins) [] (x ∷ before word_begins xs) p.0
    ∙ ap (λ (l : List ℕ). x ∷ l) (before_whole xs p.1)

-- the bytes behind a mark

none_both : {A : Type 0} (o p : Option A) → option_or o p ≡ None → (o ≡ None) × (p ≡ None)
none_both None p e = (refl, e)
none_both (Some x) p e = absurd (cc)

cond_none : {A : Type 0} (b : Bool) (x : A) → cond b (Some x) None ≡ None → b ≡ false
cond_none true x e = absurd (cc)
cond_none false x e = refl

no_mark : (bytes : List ℕ) → behind word_begins bytes ≡ None → holds_part word_begins bytes ≡ false
no_mark [] e = refl
no_mark (x ∷ xs) e =
    let p : (behind word_begins xs ≡ None)
    × (cond (starts_with nat_eq (x ∷ xs) word_begins) (Some (drop (length word_begins) (x ∷ xs))) None ≡ None) =
    none_both (behind word_begins xs) (cond (starts_with nat_eq (x ∷ xs) word_begins) (Some (drop (length word_begins) (x ∷ xs))) None) e in
    or_from (starts_with nat_eq (x ∷ xs) word_begins) (holds_part word_begins xs)
    (cond_none (starts_with nat_eq (x ∷ xs) word_begins) (drop (length word_begins) (x ∷ xs)) p.1) (no_mark xs p.0)

unmarked : (bytes : List ℕ) → holds_part word_begins bytes ≡ false → behind word_begins bytes ≡ None
unmarked [] f = refl
unmarked (x ∷ xs) f =
    let p : (starts_with nat_eq (x ∷ xs) word_begins ≡ false) × (holds_part word_begins xs ≡ false) =
    or_parts (starts_with nat_eq (x ∷ xs) word_begins) (holds_part word_begins xs) f in
    ap (λ (o : Option (List ℕ)). option_or o (cond (starts_with nat_eq (x ∷ xs) word_begins) (Some (drop (length word_begins) (x ∷ xs))) None))
    (unmarked xs p.1)
    ∙ cond-false (starts_with nat_eq (x ∷ xs) word_begins) (Some (drop (length word_begins) (x ∷ xs))) None p.0

drop_stands : (n : ℕ) (text : List ℕ) → Stands (drop n text) text
drop_stands n text = record {
  front = take n text;
  behind = [];
  is = sym (ap (λ (l : List ℕ). take n text ++ l) (append-nil (drop n text)) ∙ take-append-drop n text);
}

stands_later : (x : ℕ) (part text : List ℕ) → Stands part text → Stands part (x ∷ text)
stands_later x part text s = record { front = x ∷ s.front; behind = s.behind; is = ap (λ (l : List ℕ). x ∷ l) s.is }

last_stands : (b : Bool) (n x : ℕ) (xs rest : List ℕ) (later : Option (List ℕ)) → ((r : List ℕ) → later ≡ Some r → Stands r xs) →
    option_or later (cond b (Some (drop n (x ∷ xs))) None) ≡ Some rest → Stands rest (x ∷ xs)
last_stands true n x xs rest None f e =
    subst (λ (l : List ℕ). Stands l (x ∷ xs)) (same_Some (drop n (x ∷ xs)) rest e) (drop_stands n (x ∷ xs))
last_stands false n x xs rest None f e = absurd (cc)
last_stands b n x xs rest (Some r) f e = stands_later x rest xs (f rest e)

behind_stands : (mark bytes rest : List ℕ) → behind mark bytes ≡ Some rest → Stands rest bytes
behind_stands mark [] rest e = absurd (cc)
behind_stands mark (x ∷ xs) rest e =
    last_stands (starts_with nat_eq (x ∷ xs) mark) (length mark) x xs rest (behind mark xs) (behind_stands mark xs) e

last_plain : (b : Bool) (x : ℕ) (xs rest : List ℕ) (later : Option (List ℕ)) → (later ≡ None → holds_part word_begins xs ≡ false) →
    ((r : List ℕ) → later ≡ Some r → holds_part word_begins r ≡ false) →
    option_or later (cond b (Some (drop (length word_begins) (x ∷ xs))) None) ≡ Some rest → holds_part word_begins rest ≡ false
last_plain true x xs rest None n f e =
    ap (holds_part word_begins) (sym (same_Some (drop (length word_begins) (x ∷ xs)) rest e))
    ∙ stands_without word_begins (drop 1 xs) xs (drop_stands 1 xs) (n refl)
last_plain false x xs rest None n f e = absurd (cc)
last_plain b x xs rest (Some r) n f e = f rest e

behind_plain : (bytes rest : List ℕ) → behind word_begins bytes ≡ Some rest → holds_part word_begins rest ≡ false
behind_plain [] rest e = absurd (cc)
behind_plain (x ∷ xs) rest e =
    last_plain (starts_with nat_eq (x ∷ xs) word_begins) x xs rest (behind word_begins xs) (no_mark xs) (behind_plain xs) e

-- what stands behind encoded words
record IsBack (id back : List ℕ) : Type 0 where
  stands : Stands back id
  plain : holds_part word_begins back ≡ false

no_back : (id : List ℕ) → IsBack id []
no_back id = record { stands = record { front = []; behind = id; is = refl }; plain = refl }

behind_last : (id rest : List ℕ) (o : Option (List ℕ)) → Stands rest id → holds_part word_begins rest ≡ false → behind word_ends rest ≡ o →
    IsBack id (unwrap_or o [])
behind_last id rest None s f e = no_back id
behind_last id rest (Some back) s f e =
    let t : Stands back rest = behind_stands word_ends rest back e in
    record { stands = stands_within back rest id t s; plain = stands_without word_begins back rest t f }

behind_first : (id : List ℕ) (o : Option (List ℕ)) → behind word_begins id ≡ o →
    IsBack id (unwrap_or (option_and_then (behind word_ends) o) [])
behind_first id None e = no_back id
behind_first id (Some rest) e =
    behind_last id rest (behind word_ends rest) (behind_stands word_begins id rest e) (behind_plain id rest e) refl

back_is : (id : List ℕ) → IsBack id (behind_words id)
back_is id = behind_first id (behind word_begins id) refl

-- of an identifier

front_some : (inside : List ℕ) → 0 < length (before word_begins (60 ∷ inside))
front_some inside = omega arith

longer_some : (first second : List ℕ) → 0 < length first → 0 < length (longer first second)
longer_some first second l =
    cond_both (ltb (length first) (length second)) second first (λ (k : List ℕ). 0 < length k)
    (λ t. let more : length first < length second = ltb-true (length first) (length second) t in omega arith) (λ _. l)

no_nul_inside : (inside : List ℕ) → All IsIdByte inside → Contains inside 0 → ⊥
no_nul_inside inside all c = let byte : IsIdByte 0 = All-contains IsIdByte inside 0 all c in absurd (omega (arith, byte.low))

id_no_nul : (inside : List ℕ) → All IsIdByte inside → Contains (60 ∷ inside ++ 62 ∷ []) 0 → ⊥
id_no_nul inside all c =
    elim (first_or_later 60 0 (inside ++ 62 ∷ []) c) [
      | inl e ↦ absurd (omega arith)
      | inr l ↦ elim (Contains-append_cases inside (62 ∷ []) 0 l) [
        | inl i ↦ no_nul_inside inside all i
        | inr k ↦ elim (first_or_later 62 0 [] k) [ inl e ↦ absurd (omega arith) | inr n ↦ in_nothing 0 n ]
      ]
    ]

part_no_nul : (part id : List ℕ) → Stands part id → IsId id → Contains part 0 → ⊥
part_no_nul part id s i c =
    id_no_nul i.inside i.bytes (subst (λ (l : List ℕ). Contains l 0) (sym s.is ∙ i.whole)
    (Contains-append_right s.front (part ++ s.behind) 0 (Contains-append_left part s.behind 0 c)))

part_stands : (id : List ℕ) → Stands (question_part id) id
part_stands id =
    let p : (rest : List ℕ) × (id ≡ before word_begins id ++ rest) = before_stands word_begins id in
    longer_has (λ (l : List ℕ). Stands l id) (before word_begins id) (behind_words id) (record { front = []; behind = p.0; is = p.1 })
    (back_is id).stands

part_whole : (id : List ℕ) → holds_part word_begins id ≡ false → question_part id ≡ id
part_whole id f =
    ap (λ (l : List ℕ). longer l (behind_words id)) (before_whole id f)
    ∙ ap (λ (o : Option (List ℕ)). longer id (unwrap_or (option_and_then (behind word_ends) o) [])) (unmarked id f)
    ∙ cond-false (ltb (length id) 0) [] id (le-ltb (length id) 0 (omega arith))

pub part_is : (id : List ℕ) → IsPart id (question_part id)
part_is id = record {
  stands = stands_holds (question_part id) id (part_stands id);
  plain = longer_has (λ (l : List ℕ). holds_part word_begins l ≡ false) (before word_begins id) (behind_words id) (before_plain id)
      (back_is id).plain;
  whole = part_whole id;
  some = λ i. subst (λ (l : List ℕ). 0 < length (question_part l)) (sym i.whole)
      (longer_some (before word_begins (60 ∷ i.inside ++ 62 ∷ [])) (behind_words (60 ∷ i.inside ++ 62 ∷ []))
      (front_some (i.inside ++ 62 ∷ [])));
  no_nul = part_no_nul (question_part id) id (part_stands id);
}

-- in a text that has the identifier

only_found : (id part : List ℕ) (bodies : List PlacedBody) → Stands part id → is_only id bodies ≡ true →
    list_any (λ (b : PlacedBody). holds_part part (unfolded b.body)) bodies ≡ true
only_found id part [] s t = absurd (cc)
only_found id part (b ∷ []) s t =
    let same : id_of b.body ≡ id = same_name (id_of b.body) id t in
    or_left (holds_part part (unfolded b.body)) false
    (stands_holds part (unfolded b.body)
    (stands_within part (id_of b.body) (unfolded b.body) (subst (λ (l : List ℕ). Stands part l) (sym same) s)
    (trimmed_stands (unfolded b.body))))
only_found id part (b ∷ c ∷ bodies) s t = absurd (cc)

pub part_found : (id text : List ℕ) → has_id id text ≡ true → has_in_id (question_part id) text ≡ true
part_found id text h = only_found id (question_part id) (id_bodies text) (part_stands id) h
