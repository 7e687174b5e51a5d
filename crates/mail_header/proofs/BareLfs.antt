-- A text with a CR before each LF, made line by line.
use Rattle.std.proofs.Common.{◌≡◌, ℕ, zero, suc, ◌+◌, ◌-◌, ◌<◌, false, List, [], ◌∷◌, ◌++◌, length, take, drop, refl, sym, ◌∙◌, ap, arith, get_or}
use Rattle.std.proofs.lemmas.Bool.{ne_eqb, eqb-true, eq-eqb}
use Rattle.std.proofs.lemmas.List.{append_assoc}
use Rattle.std.specs.Prelude.{◌==◌, Some, None}
use Rattle.memchr.specs.Find.{IsFirstByte, is_byte}
use Rattle.mail_header.specs.BareLf.{end_behind, crlf_after, crlf_of, last_after}

cut : (at before : ℕ) (text : List ℕ) → get_or text at 0 ≡ 10 → ((k : ℕ) → k < at → get_or text k 0 ≡ 10 → ⊥) →
    crlf_after before text ≡ take at text ++ (end_behind (last_after before (take at text)) ++ crlf_after 10 (drop (suc at) text))
cut at before [] here none = absurd (cc here)
cut zero before (byte ∷ rest) here none = let lf : byte ≡ 10 = here in rw lf refl
cut (suc at) before (byte ∷ rest) here none =
    let other : (byte == 10) ≡ false = ne_eqb byte 10 (none 0 (omega arith)) in
    rw other (ap (λ bytes. byte ∷ bytes) (cut at byte rest here (λ k below is. none (suc k) (omega arith) is)))

after_lf : (rest : List ℕ) → crlf_after 10 rest ≡ crlf_of rest
after_lf [] = refl
after_lf (byte ∷ rest) = refl

-- by the first LF
crlf-cut : (text : List ℕ) (at : ℕ) → IsFirstByte (is_byte 10) text (Some at) →
    crlf_of text ≡ take at text ++ (end_behind (last_after 0 (take at text)) ++ crlf_of (drop (at + 1) text))
crlf-cut text at found =
    let same : suc at ≡ at + 1 = omega arith in
    let here = cut at 0 text (eqb-true _ 10 found.1) (λ k below is. found.0.before k (omega arith) below (eq-eqb _ 10 is)) in
    here ∙ ap (λ bytes. take at text ++ (end_behind (last_after 0 (take at text)) ++ bytes))
    (after_lf (drop (suc at) text) ∙ ap (λ n. crlf_of (drop n text)) same)

-- one line more
pub crlf-more : (before all text : List ℕ) (at : ℕ) → IsFirstByte (is_byte 10) text (Some at) → before ++ crlf_of text ≡ all →
    (before ++ take at text ++ end_behind (last_after 0 (take at text))) ++ crlf_of (drop (at + 1) text) ≡ all
crlf-more before all text at found is = simp append_assoc (ap (λ bytes. before ++ bytes) (sym (crlf-cut text at found)) ∙ is)

-- with no LF
same_from : (before : ℕ) (text : List ℕ) → ((k : ℕ) → k < length text → get_or text k 0 ≡ 10 → ⊥) → crlf_after before text ≡ text
same_from before [] none = refl
same_from before (byte ∷ rest) none =
    let other : (byte == 10) ≡ false = ne_eqb byte 10 (none 0 (omega arith)) in
    rw other (ap (λ bytes. byte ∷ bytes) (same_from byte rest (λ k below is. none (suc k) (omega arith) is)))

pub crlf-same : (text : List ℕ) → IsFirstByte (is_byte 10) text None → crlf_of text ≡ text
crlf-same text none = same_from 0 text (λ k below is. none k (omega arith) below (eq-eqb _ 10 is))

-- the last byte by its place
last_after-get : (before byte : ℕ) (text : List ℕ) → last_after before (byte ∷ text) ≡ get_or (byte ∷ text) (length text) 0
last_after-get before byte [] = refl
last_after-get before byte (next ∷ rest) = last_after-get byte next rest

pub last-get : (line : List ℕ) → 0 < length line → last_after 0 line ≡ get_or line (length line - 1) 0
last-get [] some = absurd (omega arith)
last-get (byte ∷ rest) some = let same : length rest ≡ suc (length rest) - 1 = omega arith in
    last_after-get 0 byte rest ∙ ap (λ n. get_or (byte ∷ rest) n 0) same

pub end_of-cr : (line : List ℕ) → 0 < length line → get_or line (length line - 1) 0 ≡ 13 → 10 ∷ [] ≡ end_behind (last_after 0 line)
end_of-cr line some cr = rw (last-get line some, cr) refl

pub end_of-other : (line : List ℕ) → (0 < length line → get_or line (length line - 1) 0 ≡ 13 → ⊥) → 13 ∷ 10 ∷ [] ≡ end_behind (last_after 0 line)
end_of-other [] other = refl
end_of-other (byte ∷ rest) other =
    let last = last-get (byte ∷ rest) (omega arith) in
    let plain : (last_after 0 (byte ∷ rest) == 13) ≡ false = ne_eqb _ 13 (λ is. other (omega arith) (sym last ∙ is)) in
    rw plain refl
