-- An argument's text tells the argument.
use Rattle.std.proofs.Common.{◌≡◌, ℕ, ◌<◌, ◌^◌, Bool, true, false, not, cond, ◌&&◌, ◌||◌, ◌==◌, nat_lt, List, [], ◌∷◌, ◌++◌, length}
use Rattle.std.proofs.Common.{get_or, decimal, codes, refl, ap, sym, ◌∙◌, append_assoc, arith}
use Rattle.std.specs.Char.{is_ascii_digit}
use Rattle.std.specs.List.{flat_map, list_all}
use Rattle.std.specs.Str.{str_eq_ignore_ascii_case}
use Rattle.std.proofs.lemmas.Bool.{and_parts}
use Rattle.std.proofs.lemmas.Bool.Decides.{nat_tests}
use Rattle.std.proofs.lemmas.Fmt.{decimal_injective}
use Rattle.mail_base.specs.Frames.{header}
use Rattle.imap_model.specs.Tagged.{is_astring_byte}
use Rattle.imap_model.specs.Astring.{is_bare, is_quotable, escaped, quoted, literal, astring_parts}
use Rattle.imap_model.specs.CommandParts.{line, crlf, wait, ◌⌢◌}
use Rattle.imap_model.proofs.Joining.{parts_assoc, literal_is}
use Rattle.imap_model.proofs.Cutting.{StopsAt, byte_at, byte_of_line, cut_run, run_same, all_digits}
use Rattle.mail_base.proofs.SameFront.{length_same}

-- the three forms of an argument
data Form (bytes : List ℕ) : Type 0 where
  bare : is_bare bytes ≡ true → astring_parts bytes ≡ line bytes → Form bytes
  in_quotes : astring_parts bytes ≡ line (quoted bytes) → Form bytes
  counted : astring_parts bytes ≡ literal bytes → Form bytes

form_from : (bytes : List ℕ) (b q : Bool) → is_bare bytes ≡ b → list_all is_quotable bytes ≡ q
    → astring_parts bytes ≡ cond b (line bytes) (cond q (line (quoted bytes)) (literal bytes)) → Form bytes
form_from bytes true q is all means = bare is means
form_from bytes false true is all means = in_quotes means
form_from bytes false false is all means = counted means

form_of : (bytes : List ℕ) → Form bytes
form_of bytes = form_from bytes (is_bare bytes) (list_all is_quotable bytes) refl refl refl

-- all bytes of a bare text are ones of an astring, and there is one
bare_all : (bytes : List ℕ) → is_bare bytes ≡ true → list_all is_astring_byte bytes ≡ true
bare_all bytes is = (and_parts (nat_lt 0 (length bytes) && not (str_eq_ignore_ascii_case bytes (codes "NIL"))) (list_all is_astring_byte bytes) is).1

bare_some : (bytes : List ℕ) → is_bare bytes ≡ true → 0 < length bytes
bare_some [] is = absurd cc
bare_some (b ∷ bytes) is = omega arith

bare_first : (bytes : List ℕ) → is_bare bytes ≡ true → is_astring_byte (get_or bytes 0 0) ≡ true
bare_first [] is = absurd cc
bare_first (b ∷ bytes) is = (and_parts (is_astring_byte b) (list_all is_astring_byte bytes) (bare_all (b ∷ bytes) is)).0

byte_of_quoted : (bytes : List ℕ) (P : List (List ℕ)) → byte_at 0 (line (quoted bytes) ⌢ P) ≡ 34
byte_of_quoted bytes P = byte_of_line 0 (quoted bytes) P (omega arith)

byte_of_literal : (bytes : List ℕ) (P : List (List ℕ)) → byte_at 0 (literal bytes ⌢ P) ≡ 123
byte_of_literal bytes P = ap (byte_at 0) (parts_assoc (line (header (decimal (length bytes)))) (wait ⌢ line bytes) P)
    ∙ byte_of_line 0 (header (decimal (length bytes))) ((wait ⌢ line bytes) ⌢ P) (omega arith)

byte_of_bare : (bytes : List ℕ) (P : List (List ℕ)) → is_bare bytes ≡ true → byte_at 0 (line bytes ⌢ P) ≡ get_or bytes 0 0
byte_of_bare bytes P is = byte_of_line 0 bytes P (bare_some bytes is)

apart : (x y : List (List ℕ)) (b c : ℕ) → byte_at 0 x ≡ b → byte_at 0 y ≡ c → x ≡ y → b ≡ c
apart x y b c is is' same = sym is ∙ ap (byte_at 0) same ∙ is'

not_both : (b : ℕ) (c : ℕ) → is_astring_byte b ≡ true → is_astring_byte c ≡ false → b ≡ c → ⊥
not_both b c is fails same = cc (ap is_astring_byte same)

plain_byte : (b : ℕ) → (b == 34 || b == 92) ≡ false → (b ≡ 34 → ⊥) × (b ≡ 92 → ⊥)
plain_byte b fails = grind (arith, nat_tests)

escaped_cases : (a b : ℕ) (r s : List ℕ) (t u : Bool) → (a == 34 || a == 92) ≡ t → (b == 34 || b == 92) ≡ u
    → cond t (92 ∷ a ∷ []) (a ∷ []) ++ r ≡ cond u (92 ∷ b ∷ []) (b ∷ []) ++ s → (a ≡ b) × (r ≡ s)
escaped_cases a b r s true true is is' same = (cc, cc)
escaped_cases a b r s true false is is' same = let first : b ≡ 92 = cc in absurd ((plain_byte b is').1 first)
escaped_cases a b r s false true is is' same = let first : a ≡ 92 = cc in absurd ((plain_byte a is).1 first)
escaped_cases a b r s false false is is' same = (cc, cc)

-- a byte of a quoted string, in front of others
escaped_same : (a b : ℕ) (r s : List ℕ) → escaped a ++ r ≡ escaped b ++ s → (a ≡ b) × (r ≡ s)
escaped_same a b r s same = escaped_cases a b r s (a == 34 || a == 92) (b == 34 || b == 92) refl refl same

no_end_from : (b : ℕ) (r s : List ℕ) (t : Bool) → (b == 34 || b == 92) ≡ t → 34 ∷ r ≡ cond t (92 ∷ b ∷ []) (b ∷ []) ++ s → ⊥
no_end_from b r s true is same = let first : ◌≡◌ {A = ℕ} 34 92 = cc in omega arith
no_end_from b r s false is same = let first : b ≡ 34 = cc in (plain_byte b is).0 first

-- no byte of a quoted string is its end
no_end : (b : ℕ) (r s : List ℕ) → 34 ∷ r ≡ escaped b ++ s → ⊥
no_end b r s same = no_end_from b r s (b == 34 || b == 92) refl same

-- two quoted strings without their first quotes
inner_same : (x y r s : List ℕ) → flat_map escaped x ++ 34 ∷ r ≡ flat_map escaped y ++ 34 ∷ s → (x ≡ y) × (r ≡ s)
inner_same [] [] r s same = (refl, cc)
inner_same [] (b ∷ y) r s same = absurd (no_end b r (flat_map escaped y ++ 34 ∷ s) (same ∙ append_assoc (escaped b) (flat_map escaped y) (34 ∷ s)))
inner_same (a ∷ x) [] r s same = absurd (no_end a s (flat_map escaped x ++ 34 ∷ r) (sym same ∙ append_assoc (escaped a) (flat_map escaped x) (34 ∷ r)))
inner_same (a ∷ x) (b ∷ y) r s same =
    let both = escaped_same a b (flat_map escaped x ++ 34 ∷ r) (flat_map escaped y ++ 34 ∷ s)
    (sym (append_assoc (escaped a) (flat_map escaped x) (34 ∷ r)) ∙ same ∙ append_assoc (escaped b) (flat_map escaped y) (34 ∷ s)) in
    let rest = inner_same x y r s both.1 in
    let first : a ≡ b = both.0 in
    let tails : x ≡ y = rest.0 in
    (cc, rest.1)

quoted_same : (x y : List ℕ) (P Q : List (List ℕ)) → 0 < length P → 0 < length Q → line (quoted x) ⌢ P ≡ line (quoted y) ⌢ Q → (x ≡ y) × (P ≡ Q)
unfolding ◌⌢◌
quoted_same x y [] Q some some' same = absurd (omega arith)
quoted_same x y (r ∷ P) [] some some' same = absurd (omega arith)
quoted_same x y (r ∷ P) (s ∷ Q) some some' same =
    let first : (flat_map escaped x ++ 34 ∷ []) ++ r ≡ (flat_map escaped y ++ 34 ∷ []) ++ s = cc in
    let rest : P ≡ Q = cc in
    let both = inner_same x y r s (sym (append_assoc (flat_map escaped x) (34 ∷ []) r) ∙ first ∙ append_assoc (flat_map escaped y) (34 ∷ []) s) in
    let tails : r ≡ s = both.1 in
    (both.0, cc)

-- the size tells how many octets there are
size_same : (m n : ℕ) → m < 2 ^ 64 → n < 2 ^ 64 → header (decimal m) ++ crlf ≡ header (decimal n) ++ crlf → m ≡ n
size_same m n fits fits' same =
    let inner : (decimal m ++ 125 ∷ []) ++ crlf ≡ (decimal n ++ 125 ∷ []) ++ crlf = cc in
    let both = run_same is_ascii_digit (decimal m) (decimal n) (125 ∷ crlf) (125 ∷ crlf) (all_digits m fits) (all_digits n fits') refl refl
    (sym (append_assoc (decimal m) (125 ∷ []) crlf) ∙ inner ∙ append_assoc (decimal n) (125 ∷ []) crlf) in
    decimal_injective m n fits fits' both.0

counted_same : (x y : List ℕ) (P Q : List (List ℕ)) → length x < 2 ^ 64 → length y < 2 ^ 64 → 0 < length P → 0 < length Q
    → ((header (decimal (length x)) ++ crlf) ∷ x ∷ []) ⌢ P ≡ ((header (decimal (length y)) ++ crlf) ∷ y ∷ []) ⌢ Q → (x ≡ y) × (P ≡ Q)
unfolding ◌⌢◌
counted_same x y [] Q fits fits' some some' same = absurd (omega arith)
counted_same x y (r ∷ P) [] fits fits' some some' same = absurd (omega arith)
counted_same x y (r ∷ P) (s ∷ Q) fits fits' some some' same =
    let first : header (decimal (length x)) ++ crlf ≡ header (decimal (length y)) ++ crlf = cc in
    let second : x ++ r ≡ y ++ s = cc in
    let rest : P ≡ Q = cc in
    let both = length_same x y r s (size_same (length x) (length y) fits fits' first) second in
    let tails : r ≡ s = both.1 in
    (both.0, cc)

pub literal_same : (x y : List ℕ) (P Q : List (List ℕ)) → length x < 2 ^ 64 → length y < 2 ^ 64 → 0 < length P → 0 < length Q →
    literal x ⌢ P ≡ literal y ⌢ Q → (x ≡ y) × (P ≡ Q)
literal_same x y P Q fits fits' some some' same =
    counted_same x y P Q fits fits' some some' (ap (λ p. p ⌢ P) (sym (literal_is x)) ∙ same ∙ ap (λ p. p ⌢ Q) (literal_is y))

stops_some : (p : ℕ → Bool) (P : List (List ℕ)) → StopsAt p P → 0 < length P
stops_some p [] stop = absurd stop
stops_some p (x ∷ P) stop = omega arith

forms_same : (x y : List ℕ) (P Q : List (List ℕ)) → length x < 2 ^ 64 → length y < 2 ^ 64 → StopsAt is_astring_byte P → StopsAt is_astring_byte Q
    → Form x → Form y → astring_parts x ⌢ P ≡ astring_parts y ⌢ Q → (x ≡ y) × (P ≡ Q)
forms_same x y P Q fits fits' stop stop' (bare is f) (bare is' g) same =
    cut_run is_astring_byte x y P Q (bare_all x is) (bare_all y is') stop stop' (ap (λ p. p ⌢ P) (sym f) ∙ same ∙ ap (λ p. p ⌢ Q) g)
forms_same x y P Q fits fits' stop stop' (bare is f) (in_quotes g) same =
    absurd (not_both (get_or x 0 0) 34 (bare_first x is) refl (apart (line x ⌢ P) (line (quoted y) ⌢ Q) _ _ (byte_of_bare x P is)
    (byte_of_quoted y Q) (ap (λ p. p ⌢ P) (sym f) ∙ same ∙ ap (λ p. p ⌢ Q) g)))
forms_same x y P Q fits fits' stop stop' (bare is f) (counted g) same =
    absurd (not_both (get_or x 0 0) 123 (bare_first x is) refl (apart (line x ⌢ P) (literal y ⌢ Q) _ _ (byte_of_bare x P is)
    (byte_of_literal y Q) (ap (λ p. p ⌢ P) (sym f) ∙ same ∙ ap (λ p. p ⌢ Q) g)))
forms_same x y P Q fits fits' stop stop' (in_quotes f) (bare is' g) same =
    absurd (not_both (get_or y 0 0) 34 (bare_first y is') refl (sym
    (apart (line (quoted x) ⌢ P) (line y ⌢ Q) _ _ (byte_of_quoted x P) (byte_of_bare y Q is')
    (ap (λ p. p ⌢ P) (sym f) ∙ same ∙ ap (λ p. p ⌢ Q) g))))
forms_same x y P Q fits fits' stop stop' (in_quotes f) (in_quotes g) same =
    quoted_same x y P Q (stops_some is_astring_byte P stop) (stops_some is_astring_byte Q stop') (ap (λ p. p ⌢ P) (sym f) ∙ same ∙ ap (λ p. p ⌢ Q) g)
forms_same x y P Q fits fits' stop stop' (in_quotes f) (counted g) same =
    let e : ◌≡◌ {A = ℕ} 34 123 = apart (line (quoted x) ⌢ P) (literal y ⌢ Q) _ _ (byte_of_quoted x P) (byte_of_literal y Q)
    (ap (λ p. p ⌢ P) (sym f) ∙ same ∙ ap (λ p. p ⌢ Q) g) in absurd (omega arith)
forms_same x y P Q fits fits' stop stop' (counted f) (bare is' g) same =
    absurd (not_both (get_or y 0 0) 123 (bare_first y is') refl (sym
    (apart (literal x ⌢ P) (line y ⌢ Q) _ _ (byte_of_literal x P) (byte_of_bare y Q is')
    (ap (λ p. p ⌢ P) (sym f) ∙ same ∙ ap (λ p. p ⌢ Q) g))))
forms_same x y P Q fits fits' stop stop' (counted f) (in_quotes g) same =
    let e : ◌≡◌ {A = ℕ} 123 34 = apart (literal x ⌢ P) (line (quoted y) ⌢ Q) _ _ (byte_of_literal x P) (byte_of_quoted y Q)
    (ap (λ p. p ⌢ P) (sym f) ∙ same ∙ ap (λ p. p ⌢ Q) g) in absurd (omega arith)
forms_same x y P Q fits fits' stop stop' (counted f) (counted g) same =
    literal_same x y P Q fits fits' (stops_some is_astring_byte P stop) (stops_some is_astring_byte Q stop')
    (ap (λ p. p ⌢ P) (sym f) ∙ same ∙ ap (λ p. p ⌢ Q) g)

-- two arguments in front of what doesn't go on with a byte of one
pub astring_same : (x y : List ℕ) (P Q : List (List ℕ)) → length x < 2 ^ 64 → length y < 2 ^ 64 → StopsAt is_astring_byte P → StopsAt is_astring_byte Q
    → astring_parts x ⌢ P ≡ astring_parts y ⌢ Q → (x ≡ y) × (P ≡ Q)
astring_same x y P Q fits fits' stop stop' same = forms_same x y P Q fits fits' stop stop' (form_of x) (form_of y) same
