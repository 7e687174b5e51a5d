-- What was sent of a text.
use Rattle.std.proofs.Common.{◌≡◌, ℕ, zero, suc, List, [], ◌∷◌, ◌++◌, length, take, refl, sym, ◌∙◌, ap, subst, append_assoc}
use Rattle.std.proofs.Math.Seq.{take-length}
use Rattle.std.proofs.lemmas.List.{append-nil}
use Rattle.imap_session.specs.Sent.{joined, SentFront}

take_front : (n : ℕ) (p q : List ℕ) → (m : ℕ) × (take n p ≡ take m (p ++ q))
take_front zero p q = (0, refl)
take_front (suc n) [] q = (0, refl)
take_front (suc n) (x ∷ p) q = let w = take_front n p q in (suc w.0, ap (λ (t : List ℕ). x ∷ t) w.1)

behind_front : (a p : List ℕ) (n : ℕ) → (m : ℕ) × (a ++ take n p ≡ take m (a ++ p))
behind_front [] p n = (n, refl)
behind_front (x ∷ a) p n = let w = behind_front a p n in (suc w.0, ap (λ (t : List ℕ). x ∷ t) w.1)

joined_append : (xs ys : List (List ℕ)) → joined (xs ++ ys) ≡ joined xs ++ joined ys
joined_append [] ys = refl
joined_append (x ∷ xs) ys = ap (λ (t : List ℕ). x ++ t) (joined_append xs ys) ∙ sym (append_assoc x (joined xs) (joined ys))

pub sent_none : (text old new : List ℕ) → new ≡ old → SentFront text old new
sent_none text old new same = record { n = 0; is = same ∙ sym (append-nil old) }

pub sent_all : (text old new : List ℕ) → new ≡ old ++ text → SentFront text old new
sent_all text old new is = record { n = length text; is = is ∙ ap (λ (t : List ℕ). old ++ t) (sym (take-length text)) }

-- some parts, and a front of the next one
pub sent_part : (parts before : List (List ℕ)) (part : List ℕ) (rest : List (List ℕ)) (old mid new : List ℕ) → parts ≡ before ++ part ∷ rest
    → mid ≡ old ++ joined before → SentFront part mid new → SentFront (joined parts) old new
sent_part parts before part rest old mid new cut sent more =
    let one = take_front more.n part (joined rest) in
    let two = behind_front (joined before) (part ++ joined rest) one.0 in
    let text : joined before ++ (part ++ joined rest) ≡ joined parts = sym (joined_append before (part ∷ rest)) ∙ ap joined (sym cut) in
    record {
      n = two.0;
      is = more.is ∙ ap (λ (t : List ℕ). t ++ take more.n part) sent ∙ append_assoc old (joined before) (take more.n part)
          ∙ ap (λ (t : List ℕ). old ++ (joined before ++ t)) one.1 ∙ ap (λ (t : List ℕ). old ++ t) two.1
          ∙ ap (λ (t : List ℕ). old ++ take two.0 t) text;
    }

-- one part more
pub sent_more : (before : List (List ℕ)) (part : List ℕ) (after : List (List ℕ)) (old mid new : List ℕ) → after ≡ before ++ part ∷ []
    → mid ≡ old ++ joined before → new ≡ mid ++ part → new ≡ old ++ joined after
sent_more before part after old mid new is sent more =
    more ∙ ap (λ (t : List ℕ). t ++ part) sent ∙ append_assoc old (joined before) part
    ∙ ap (λ (t : List ℕ). old ++ (joined before ++ t)) (sym (append-nil part))
    ∙ ap (λ (t : List ℕ). old ++ t) (sym (joined_append before (part ∷ [])) ∙ ap joined (sym is))

pub sent_as : (text again old new : List ℕ) → text ≡ again → SentFront text old new → SentFront again old new
sent_as text again old new same s = subst (λ (t : List ℕ). SentFront t old new) same s

pub sent_still : (text old mid new : List ℕ) → SentFront text old mid → new ≡ mid → SentFront text old new
sent_still text old mid new s same = subst (λ (t : List ℕ). SentFront text old t) (sym same) s
