-- A stream is cut at one place: two parts at its front, behind the same parts, are one.
use Rattle.std.proofs.Common.{◌≡◌, ⊎_elim, ℕ, ◌<◌, ◌≤◌, List, [], ◌∷◌, ◌++◌, length, refl, sym, ◌∙◌, ap, arith}
use Rattle.std.proofs.lemmas.Bool.{cases_lt}
use Rattle.std.proofs.lemmas.List.{append_assoc}
use Rattle.command_texts.specs.Cutting.{crlf, Announces, IsDue, IsPart, NoCrlf}

-- the first CRLF
plain_tail : (a : ℕ) (x : List ℕ) → NoCrlf (a ∷ x) → NoCrlf x
plain_tail a x plain front rest is = plain (a ∷ front) rest (ap (λ (t : List ℕ). a ∷ t) is)

cr_lf : ◌≡◌ {A = ℕ} 10 13 → ⊥
cr_lf same = omega (arith, same)

same_line : (x y r t : List ℕ) → NoCrlf x → NoCrlf y → x ++ 13 ∷ 10 ∷ r ≡ y ++ 13 ∷ 10 ∷ t → (x ≡ y) × (r ≡ t)
same_line [] [] r t px py is = (refl, cc)
same_line [] (b ∷ []) r t px py is = absurd (cr_lf cc)
same_line [] (b ∷ c ∷ y) r t px py is =
    let one : 13 ≡ b = cc in
    let two : 10 ≡ c = cc in
    absurd (py [] y (ap (λ (n : ℕ). n ∷ c ∷ y) (sym one) ∙ ap (λ (n : ℕ). 13 ∷ n ∷ y) (sym two)))
same_line (a ∷ []) [] r t px py is = absurd (cr_lf cc)
same_line (a ∷ c ∷ x) [] r t px py is =
    let one : a ≡ 13 = cc in
    let two : c ≡ 10 = cc in
    absurd (px [] x (ap (λ (n : ℕ). n ∷ c ∷ x) one ∙ ap (λ (n : ℕ). 13 ∷ n ∷ x) two))
same_line (a ∷ x) (b ∷ y) r t px py is =
    let head : a ≡ b = cc in
    let tail : x ++ 13 ∷ 10 ∷ r ≡ y ++ 13 ∷ 10 ∷ t = cc in
    let same = same_line x y r t (plain_tail a x px) (plain_tail b y py) tail in
    (ap (λ (n : ℕ). n ∷ x) head ∙ ap (λ (l : List ℕ). b ∷ l) same.0, same.1)

-- fronts of one length
same_front : (a b x y : List ℕ) → length a ≡ length b → a ++ x ≡ b ++ y → (a ≡ b) × (x ≡ y)
same_front [] [] x y long is = (refl, is)
same_front [] (d ∷ b) x y long is = absurd (omega (arith, long))
same_front (e ∷ a) [] x y long is = absurd (omega (arith, long))
same_front (e ∷ a) (d ∷ b) x y long is =
    let head : e ≡ d = cc in
    let tail : a ++ x ≡ b ++ y = cc in
    let same = same_front a b x y (omega (arith, long)) tail in
    (ap (λ (n : ℕ). n ∷ a) head ∙ ap (λ (l : List ℕ). d ∷ l) same.0, same.1)

-- so many octets are due, and no other count is
none_less : (part : List ℕ) (m n : ℕ) → IsDue (part ∷ []) m → IsDue (part ∷ []) n → m < n → ⊥
none_less part m n one two less =
    let none : (digits : List ℕ) → Announces part digits → ⊥ = λ digits announces. omega (arith, one.0 digits announces, two.0 digits announces, less) in
    omega (arith, one.1 none, two.1 none, less)

same_due : (before : List (List ℕ)) (m n : ℕ) → IsDue before m → IsDue before n → m ≡ n
same_due [] m n one two = one ∙ sym two
same_due (part ∷ []) m n one two =
    ⊎_elim (λ less. absurd (none_less part m n one two less)) (λ more. ⊎_elim (λ less. absurd (none_less part n m two one less))
    (λ least. omega (arith, more, least)) (cases_lt n m)) (cases_lt m n)
same_due (part ∷ next ∷ before) m n one two = same_due (next ∷ before) m n one two

-- the bytes behind a part, by its octets and its line
opened : (octets line rest : List ℕ) → (octets ++ line ++ crlf) ++ rest ≡ octets ++ (line ++ 13 ∷ 10 ∷ rest)
opened octets line rest = append_assoc (octets ++ line) crlf rest ∙ append_assoc octets line (13 ∷ 10 ∷ rest)

pub one_part : (before : List (List ℕ)) (part other rest later : List ℕ) → IsPart before part → IsPart before other →
    part ++ rest ≡ other ++ later → (part ≡ other) × (rest ≡ later)
one_part before part other rest later p q is =
    let whole : p.octets ++ (p.line ++ 13 ∷ 10 ∷ rest) ≡ q.octets ++ (q.line ++ 13 ∷ 10 ∷ later) =
    sym (opened p.octets p.line rest) ∙ ap (λ (t : List ℕ). t ++ rest) (sym p.text) ∙ is ∙ ap (λ (t : List ℕ). t ++ later) q.text
    ∙ opened q.octets q.line later in
    let fronts = same_front p.octets q.octets (p.line ++ 13 ∷ 10 ∷ rest) (q.line ++ 13 ∷ 10 ∷ later)
    (same_due before (length p.octets) (length q.octets) p.due q.due) whole in
    let lines = same_line p.line q.line rest later p.plain q.plain fronts.1 in
    (p.text ∙ ap (λ (t : List ℕ). t ++ p.line ++ crlf) fronts.0 ∙ ap (λ (t : List ℕ). q.octets ++ t ++ crlf) lines.0 ∙ sym q.text, lines.1)

-- no part is empty
pub some_part : (before : List (List ℕ)) (part rest : List ℕ) → IsPart before part → part ++ rest ≡ [] → ⊥
some_part before part rest p is = omega (
  arith,
  ap length is,
  ap length (ap (λ (t : List ℕ). t ++ rest) p.text ∙ opened p.octets p.line rest),
  length_of p.octets (p.line ++ 13 ∷ 10 ∷ rest),
  length_of p.line (13 ∷ 10 ∷ rest),
)
  where
    length_of : (a b : List ℕ) → length b ≤ length (a ++ b)
    length_of [] b = omega arith
    length_of (x ∷ a) b = omega (arith, length_of a b)
