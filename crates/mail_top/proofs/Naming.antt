-- The names that texts write.
use Rattle.std.proofs.Common.{◌≡◌, ◌≢◌, ℕ, zero, suc, ◌-◌, ◌<◌, ◌≤◌, Bool, true, false, List, [], ◌∷◌, length, take, drop, get_or}
use Rattle.std.proofs.Common.{map, refl, sym, ◌∙◌, ap, subst, arith, cond, not}
use Rattle.std.specs.Prelude.{String, string_bytes, codes, bytes_eq, ◌↔◌, IsTrue, ◌==◌}
use Rattle.std.specs.declared.alloc.Global.{Global}
use Rattle.std.proofs.lemmas.List.{take_all, length-map}
use Rattle.std.proofs.lemmas.Slice.Eq.{bytes_eq-Decides}
use Rattle.std.specs.Char.{to_ascii_lowercase}
use Rattle.std.specs.List.{AllByRecursion}
use Rattle.mail_base.specs.BoxName.{IsBoxText, KeptAs}
use Rattle.action_queue.specs.Events.{IsAbsent}
use Rattle.mail_top.specs.Names.{name_of, AreApart, WriteNames}

-- the name that is kept for a text is that of the test
pub kept_name : (text name : List ℕ) → KeptAs text name → name ≡ name_of text
kept_name text name kept = by_test (bytes_eq (map to_ascii_lowercase text) (codes "inbox")) refl
  where
    by_test : (b : Bool) → bytes_eq (map to_ascii_lowercase text) (codes "inbox") ≡ b → name ≡ cond b (codes "INBOX") text
    by_test true is = kept.inbox ((bytes_eq-Decides _ _).0 is)
    by_test false is = kept.other (λ same. absurd (cc ((bytes_eq-Decides _ _).1 same, is)))

-- where the first text writes another name, the name is absent exactly where it is from the rest
pub others_then : (name : List ℕ) (texts : List (String Global)) (first : String Global) (r : Bool) → 1 ≤ length texts → first ≡ get_or texts 0 first
    → name_of (string_bytes first) ≢ name
    → (IsTrue r ↔ IsAbsent name (map name_of (map string_bytes (take (length texts - 1) (drop 1 texts)))))
    → IsTrue r ↔ IsAbsent name (map name_of (map string_bytes texts))
others_then name [] first r least is other step = absurd (omega (arith, least))
others_then name (x ∷ xs) first r least is other step =
    let later = subst (λ (l : List (String Global)). IsTrue r ↔ IsAbsent name (map name_of (map string_bytes l)))
    (take_all (length (x ∷ xs) - 1) xs (omega arith)) step in
    (λ yes. (subst (λ (t : String Global). name_of (string_bytes t) ≢ name) is other, later.0 yes), λ all. later.1 all.1)

-- what a test of two lists for a difference tells
pub differ : (a b : List ℕ) (r : Bool) → r ≡ not (bytes_eq a b) → r ≡ true → a ≢ b
differ a b r is told same =
    let n : not (bytes_eq a b) ≡ false = ap not ((bytes_eq-Decides a b).1 same) in
    cc (is, told, n)

pub not_none : (n : ℕ) → (n == 0) ≡ false → 1 ≤ n
not_none zero is = let other : true ≡ false = is in absurd (cc other)
not_none (suc n) is = omega arith

-- 1 to 32 texts write names exactly where each does and no two write the same
pub names_of_apart : (texts : List (String Global)) (r : Bool) → 1 ≤ length texts → length texts ≤ 32 →
    (IsTrue r ↔ AreApart (map string_bytes texts)) → IsTrue r ↔ WriteNames (map string_bytes texts)
names_of_apart texts r some few step =
    let long = length-map (map string_bytes texts) name_of ∙ length-map texts string_bytes in (
      λ told. let apart = step.0 told in record {
        each = apart.each;
        names =
            record {
              some = omega (arith, long, some);
              few = omega (arith, long, few);
              distinct = apart.distinct;
            };
      },
      λ all. step.1 (record { each = all.each; distinct = all.names.distinct }),
    )

-- each of the texts writes a name
pub text_at : (texts : List (String Global)) (i : ℕ) (text : String Global) → AllByRecursion IsBoxText (map string_bytes texts) →
    i < length texts → text ≡ get_or texts i text → IsBoxText (string_bytes text)
text_at [] i text all below is = absurd (omega (arith, below))
text_at (x ∷ xs) zero text all below is = subst (λ (t : String Global). IsBoxText (string_bytes t)) (sym is) all.0
text_at (x ∷ xs) (suc i) text all below is = text_at xs i text all.1 (omega (arith, below)) is

-- the bytes of a text of a list
pub bytes_at : (texts : List (String Global)) (i : ℕ) (text : String Global) → i < length texts → text ≡ get_or texts i text →
    (i < length (map string_bytes texts)) × (string_bytes text ≡ get_or (map string_bytes texts) i (string_bytes text))
bytes_at [] i text below is = absurd (omega (arith, below))
bytes_at (x ∷ xs) zero text below is = (omega arith, ap (λ (t : String Global). string_bytes t) is)
bytes_at (x ∷ xs) (suc i) text below is = let later = bytes_at xs i text (omega (arith, below)) is in (omega (arith, later.0), later.1)

-- a first text
pub one_first : (words : List (String Global)) (x : String Global) (a : List ℕ) → 1 ≤ length words → x ≡ get_or words 0 x → a ≡ string_bytes x →
    map string_bytes words ≡ a ∷ map string_bytes (take (length words - 1) (drop 1 words))
one_first [] x a some first va = absurd (omega (arith, some))
one_first (p ∷ rest) x a some first va =
    let one : string_bytes p ≡ a = sym (va ∙ ap (λ (t : String Global). string_bytes t) first) in
    let tail : take (length (p ∷ rest) - 1) rest ≡ rest = take_all (length (p ∷ rest) - 1) rest (omega arith) in
    ap (λ (t : List ℕ). t ∷ map string_bytes rest) one ∙ ap (λ (ws : List (String Global)). a ∷ map string_bytes ws) (sym tail)

-- the bytes of three texts, and of those behind them
pub three_first : (words : List (String Global)) (x y z : String Global) (a b c : List ℕ) → 3 ≤ length words
    → x ≡ get_or words 0 x → y ≡ get_or words 1 y → z ≡ get_or words 2 z
    → a ≡ string_bytes x → b ≡ string_bytes y → c ≡ string_bytes z
    → map string_bytes words ≡ a ∷ b ∷ c ∷ map string_bytes (take (length words - 3) (drop 3 words))
three_first [] x y z a b c some first second third va vb vc = absurd (omega (arith, some))
three_first (p ∷ []) x y z a b c some first second third va vb vc = absurd (omega (arith, some))
three_first (p ∷ q ∷ []) x y z a b c some first second third va vb vc = absurd (omega (arith, some))
three_first (p ∷ q ∷ r ∷ rest) x y z a b c some first second third va vb vc =
    let one : string_bytes p ≡ a = sym (va ∙ ap (λ (t : String Global). string_bytes t) first) in
    let two : string_bytes q ≡ b = sym (vb ∙ ap (λ (t : String Global). string_bytes t) second) in
    let three : string_bytes r ≡ c = sym (vc ∙ ap (λ (t : String Global). string_bytes t) third) in
    let tail : take (length (p ∷ q ∷ r ∷ rest) - 3) rest ≡ rest = take_all (length (p ∷ q ∷ r ∷ rest) - 3) rest (omega arith) in
    ap (λ (t : List ℕ). t ∷ string_bytes q ∷ string_bytes r ∷ map string_bytes rest) one
    ∙ ap (λ (t : List ℕ). a ∷ t ∷ string_bytes r ∷ map string_bytes rest) two
    ∙ ap (λ (t : List ℕ). a ∷ b ∷ t ∷ map string_bytes rest) three
    ∙ ap (λ (ws : List (String Global)). a ∷ b ∷ c ∷ map string_bytes ws) (sym tail)

-- three texts, and no more
pub three_only : (words : List (String Global)) (x y z : String Global) (a b c : List ℕ) → 3 ≤ length words → length words ≤ 3
    → x ≡ get_or words 0 x → y ≡ get_or words 1 y → z ≡ get_or words 2 z
    → a ≡ string_bytes x → b ≡ string_bytes y → c ≡ string_bytes z
    → map string_bytes words ≡ a ∷ b ∷ c ∷ []
three_only words x y z a b c some few first second third va vb vc =
    three_first words x y z a b c some first second third va vb vc
    ∙ ap (λ (ws : List (String Global)). a ∷ b ∷ c ∷ map string_bytes ws)
    (ap (λ (n : ℕ). take n (drop 3 words)) (let none : length words - 3 ≡ 0 = omega (arith, few) in none))
