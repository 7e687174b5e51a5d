-- Where a part stands in a text.
use Rattle.std.proofs.Common.{◌≡◌, ◌⊎◌, inl, inr, ℕ, true, false, List, [], ◌∷◌, ◌++◌, refl, sym, ◌∙◌, ap, append_assoc, length}
use Rattle.std.proofs.Common.{take, drop, reverse}
use Rattle.std.specs.Prelude.{nat_eq}
use Rattle.std.specs.List.{starts_with}
use Rattle.std.proofs.Math.Seq.{take-append_seam}
use Rattle.std.proofs.lemmas.Bool.{cond_both, or_cases, or_left, or_right, false_from_ne_true}
use Rattle.std.proofs.lemmas.List.{append-nil, reverse-append, reverse-reverse, take-append-drop}
use Rattle.mail_header.specs.Folding.{is_blank}
use Rattle.mail_header.specs.Identifier.{trimmed, trimmed_front}
use Rattle.imap_model.proofs.Finding.{names_same, same_name}
use Rattle.imap_model.specs.Searching.{holds_part}

-- the text is what stands in front of the part, the part, and what stands behind it
pub record Stands (part text : List ℕ) : Type 0 where
  pub front : List ℕ
  pub behind : List ℕ
  pub is : text ≡ front ++ (part ++ behind)

pub begins_it : (part behind : List ℕ) → starts_with nat_eq (part ++ behind) part ≡ true
begins_it part behind = names_same part (take (length part) (part ++ behind)) (sym (take-append_seam part behind))

-- a text that begins with a part is the part and what stands behind it
pub begins_with : (part text : List ℕ) → starts_with nat_eq text part ≡ true → text ≡ part ++ drop (length part) text
begins_with part text t =
    sym (ap (λ (l : List ℕ). l ++ drop (length part) text) (same_name part (take (length part) text) t)
    ∙ take-append-drop (length part) text)

begun_holds : (part text : List ℕ) → starts_with nat_eq text part ≡ true → holds_part part text ≡ true
begun_holds part [] t = t
begun_holds part (x ∷ xs) t = or_left (starts_with nat_eq (x ∷ xs) part) (holds_part part xs) t

holds_in : (front part behind : List ℕ) → holds_part part (front ++ (part ++ behind)) ≡ true
holds_in [] part behind = begun_holds part (part ++ behind) (begins_it part behind)
holds_in (x ∷ front) part behind =
    or_right (starts_with nat_eq (x ∷ (front ++ (part ++ behind))) part) (holds_part part (front ++ (part ++ behind)))
    (holds_in front part behind)

pub stands_holds : (part text : List ℕ) → Stands part text → holds_part part text ≡ true
stands_holds part text s = ap (holds_part part) s.is ∙ holds_in s.front part s.behind

begun_stands : (part text : List ℕ) → starts_with nat_eq text part ≡ true → Stands part text
begun_stands part text t = record { front = []; behind = drop (length part) text; is = begins_with part text t }

pub holds_stands : (part text : List ℕ) → holds_part part text ≡ true → Stands part text
holds_stands part [] t = begun_stands part [] t
holds_stands part (x ∷ xs) t =
    one_more part x xs (holds_stands part xs) (or_cases (starts_with nat_eq (x ∷ xs) part) (holds_part part xs) t)
  where
    one_more : (part : List ℕ) (x : ℕ) (xs : List ℕ) → (holds_part part xs ≡ true → Stands part xs) →
        (starts_with nat_eq (x ∷ xs) part ≡ true) ⊎ (holds_part part xs ≡ true) → Stands part (x ∷ xs)
    one_more part x xs f (inl t) = begun_stands part (x ∷ xs) t
    one_more part x xs f (inr t) =
        let s : Stands part xs = f t in record { front = x ∷ s.front; behind = s.behind; is = ap (λ (l : List ℕ). x ∷ l) s.is }

pub stands_within : (small part text : List ℕ) → Stands small part → Stands part text → Stands small text
stands_within small part text s p = record {
  front = p.front ++ s.front;
  behind = s.behind ++ p.behind;
  is =
      p.is ∙ ap (λ (l : List ℕ). p.front ++ (l ++ p.behind)) s.is
      ∙ ap (λ (l : List ℕ). p.front ++ l) (append_assoc s.front (small ++ s.behind) p.behind
      ∙ ap (λ (l : List ℕ). s.front ++ l) (append_assoc small s.behind p.behind))
      ∙ sym (append_assoc p.front s.front (small ++ (s.behind ++ p.behind)));
}

-- a part of a text without a mark has none
pub stands_without : (mark part text : List ℕ) → Stands part text → holds_part mark text ≡ false → holds_part mark part ≡ false
stands_without mark part text s f =
    false_from_ne_true (holds_part mark part)
    (λ t. let u : holds_part mark text ≡ true = stands_holds mark text (stands_within mark part text (holds_stands mark part t) s) in
    absurd (cc (f, u)))

front_trimmed : (bytes : List ℕ) → Stands (trimmed_front bytes) bytes
front_trimmed [] = record { front = []; behind = []; is = refl }
front_trimmed (byte ∷ rest) =
    cond_both (is_blank byte) (trimmed_front rest) (byte ∷ rest) (λ (l : List ℕ). Stands l (byte ∷ rest))
    (λ _. let s : Stands (trimmed_front rest) rest = front_trimmed rest in
    record { front = byte ∷ s.front; behind = s.behind; is = ap (λ (l : List ℕ). byte ∷ l) s.is })
    (λ _. record { front = []; behind = []; is = sym (append-nil (byte ∷ rest)) })

reversed : (part text : List ℕ) → Stands part (reverse text) → Stands (reverse part) text
reversed part text s = record {
  front = reverse s.behind;
  behind = reverse s.front;
  is =
      sym (reverse-reverse text) ∙ ap reverse s.is ∙ reverse-append s.front (part ++ s.behind)
      ∙ ap (λ (l : List ℕ). l ++ reverse s.front) (reverse-append part s.behind)
      ∙ append_assoc (reverse s.behind) (reverse part) (reverse s.front);
}

-- bytes without spaces and tabs at their ends stand in them
pub trimmed_stands : (bytes : List ℕ) → Stands (trimmed bytes) bytes
trimmed_stands bytes =
    stands_within (trimmed bytes) (trimmed_front bytes) bytes
    (reversed (trimmed_front (reverse (trimmed_front bytes))) (trimmed_front bytes) (front_trimmed (reverse (trimmed_front bytes))))
    (front_trimmed bytes)
