-- The first line of a text, by the place of its first CRLF.
use Rattle.std.proofs.Common.{◌≡◌, inl, inr, ℕ, zero, suc, ◌+◌, ◌<◌, true, false, List, [], ◌∷◌, ◌++◌, Some, None, length, take, drop}
use Rattle.std.proofs.Common.{refl, ◌∙◌, ap, subst, arith, get_or}
use Rattle.std.proofs.lemmas.Bool.{cases_Bool, eqb-true, false≢true}
use Rattle.std.specs.Prelude.{slice_index, ◌==◌}
use Rattle.std.specs.List.{onto_first}
use Rattle.memchr.specs.Find.{FindsNeedle, OccursAt}
use Rattle.mail_header.specs.Header.{crlf, is_crlf, lines_of}
use Rattle.mail_header.specs.Parting.{IsParted}

-- the bytes at this place are CR and LF
pub record HasCrlf (text : List ℕ) (at : ℕ) : Type 0 where
  pub cr : get_or text at 0 ≡ 13
  pub lf : get_or text (suc at) 0 ≡ 10

pub crlf_is : (first second : ℕ) → is_crlf first second ≡ true → (first ≡ 13) × (second ≡ 10)
crlf_is first second is =
    elim (cases_Bool (first == 13)) as (λ _. (first ≡ 13) × (second ≡ 10)) [
      | inl holds ↦ (eqb-true first 13 holds, eqb-true second 10 (rw holds at is))
      | inr fails ↦ absurd (false≢true (rw fails at is))
    ]

no_crlf : (first second : ℕ) (rest : List ℕ) → ¬ (HasCrlf (first ∷ second ∷ rest) 0) → is_crlf first second ≡ false
no_crlf first second rest none = elim (cases_Bool (is_crlf first second)) [
  | inl holds ↦ let both = crlf_is first second holds in absurd (none (record { cr = both.0; lf = both.1 }))
  | inr fails ↦ fails
]

pub lines-cut : (at : ℕ) (text : List ℕ) → HasCrlf text at → ((k : ℕ) → k < at → ¬ (HasCrlf text k)) →
    lines_of text ≡ take at text ∷ lines_of (drop (suc (suc at)) text)
lines-cut at [] here none = absurd (cc (here.cr))
lines-cut zero (first ∷ []) here none = absurd (cc (here.lf))
lines-cut zero (first ∷ second ∷ rest) here none =
    let a : first ≡ 13 = here.cr in
    let b : second ≡ 10 = here.lf in
    rw (a, b) refl
lines-cut (suc at) (first ∷ []) here none = absurd (cc (here.lf))
lines-cut (suc at) (first ∷ second ∷ rest) here none =
    let other = no_crlf first second rest (none 0 (omega arith)) in
    let later = lines-cut at (second ∷ rest) (record { cr = here.cr; lf = here.lf })
    (λ k below has. none (suc k) (omega arith) (record { cr = has.cr; lf = has.lf })) in
    rw other (ap (onto_first first) later)

pub lines-whole : (text : List ℕ) → ((k : ℕ) → ¬ (HasCrlf text k)) → lines_of text ≡ text ∷ []
lines-whole [] none = refl
lines-whole (first ∷ []) none = refl
lines-whole (first ∷ second ∷ rest) none =
    let other = no_crlf first second rest (none 0) in
    let later = lines-whole (second ∷ rest) (λ k has. none (suc k) (record { cr = has.cr; lf = has.lf })) in
    rw other (ap (onto_first first) later)

pub cut-bytes : (at : ℕ) (text : List ℕ) → HasCrlf text at → text ≡ take at text ++ crlf ++ drop (suc (suc at)) text
cut-bytes at [] here = absurd (cc (here.cr))
cut-bytes zero (first ∷ []) here = absurd (cc (here.lf))
cut-bytes zero (first ∷ second ∷ rest) here =
    let a : first ≡ 13 = here.cr in
    let b : second ≡ 10 = here.lf in
    rw (a, b) refl
cut-bytes (suc at) (first ∷ rest) here = ap (λ bytes. first ∷ bytes) (cut-bytes at rest (record { cr = here.cr; lf = here.lf }))

-- a byte other than 0 stands in the text
stands : (text : List ℕ) (at n : ℕ) → get_or text at 0 ≡ suc n → at < length text
stands [] at n is = absurd (cc is)
stands (byte ∷ text) zero n is = omega arith
stands (byte ∷ text) (suc at) n is = omega (arith, stands text at n is)

reads_at : (text : List ℕ) (at : ℕ) → HasCrlf text at → (j : ℕ) → j < 2 → slice_index text (at + j) ≡ slice_index crlf j
reads_at text at has zero below = let same : at + 0 ≡ at = omega arith in ap (λ n. get_or text n 0) same ∙ has.cr
reads_at text at has (suc zero) below = let same : at + 1 ≡ suc at = omega arith in ap (λ n. get_or text n 0) same ∙ has.lf
reads_at text at has (suc (suc j)) below = absurd (omega arith)

occurs : (text : List ℕ) (at : ℕ) → HasCrlf text at → OccursAt text crlf at
occurs text at has = record {
  fits = omega (arith, stands text (suc at) 9 has.lf);
  reads = reads_at text at has;
}

has_crlf : (text : List ℕ) (at : ℕ) → OccursAt text crlf at → HasCrlf text at
has_crlf text at here = record {
  cr = let same : at ≡ at + 0 = omega arith in ap (λ n. get_or text n 0) same ∙ here.reads 0 (omega arith);
  lf = let same : suc at ≡ at + 1 = omega arith in ap (λ n. get_or text n 0) same ∙ here.reads 1 (omega arith);
}

-- what a search for a CRLF finds
pub parted_from_find : (text : List ℕ) (at : ℕ) → FindsNeedle text crlf 0 (Some at) → IsParted text (take at text) (drop (at + 2) text)
parted_from_find text at found =
    let here = has_crlf text at found.1 in
    let same : suc (suc at) ≡ at + 2 = omega arith in
    subst (λ n. IsParted text (take at text) (drop n text)) same (record {
      lines = lines-cut at text here (λ k below has. found.0.before k (omega arith) below (occurs text k has));
      bytes = cut-bytes at text here;
    })

pub whole_from_find : (text : List ℕ) → FindsNeedle text crlf 0 None → lines_of text ≡ text ∷ []
whole_from_find text none = lines-whole text (λ k has. let here = occurs text k has in none k (omega arith) (omega (arith, here.fits)) here)
