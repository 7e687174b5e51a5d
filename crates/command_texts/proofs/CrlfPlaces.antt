-- The first CRLF of bytes, by its place.
use Rattle.std.proofs.Common.{◌≡◌, ℕ, zero, suc, ◌+◌, ◌<◌, Some, None, List, [], ◌∷◌, ◌++◌, length, take, drop, refl, sym, ◌∙◌, ap, arith}
use Rattle.std.proofs.Common.{get_or, length-append, length-take, take-append-drop, append_assoc}
use Rattle.std.proofs.lemmas.List.{get_or-append-add}
use Rattle.std.specs.Prelude.{slice_index}
use Rattle.memchr.specs.Find.{FindsNeedle, OccursAt}
use Rattle.command_texts.specs.Cutting.{crlf, NoCrlf}

reads_there : (front rest : List ℕ) (j : ℕ) → j < 2 → slice_index (front ++ 13 ∷ 10 ∷ rest) (length front + j) ≡ slice_index crlf j
reads_there front rest zero below = get_or-append-add front (13 ∷ 10 ∷ rest) 0 0
reads_there front rest (suc zero) below = get_or-append-add front (13 ∷ 10 ∷ rest) 1 0
reads_there front rest (suc (suc j)) below = absurd (omega arith)

occurs_there : (bytes front rest : List ℕ) → bytes ≡ front ++ 13 ∷ 10 ∷ rest → OccursAt bytes crlf (length front)
occurs_there bytes front rest is = record {
  fits = omega (arith, ap length is, length-append front (13 ∷ 10 ∷ rest));
  reads = λ j below. ap (λ (t : List ℕ). slice_index t (length front + j)) is ∙ reads_there front rest j below;
}

-- a search that finds none
pub none_found : (bytes : List ℕ) → FindsNeedle bytes crlf 0 None → NoCrlf bytes
none_found bytes none front rest is =
    let there = occurs_there bytes front rest is in
    none (length front) (omega arith) (omega (arith, there.fits)) there

-- none stands before the first
pub plain_before : (bytes : List ℕ) (at : ℕ) → FindsNeedle bytes crlf 0 (Some at) → NoCrlf (take at bytes)
plain_before bytes at found front rest is =
    let whole : bytes ≡ front ++ 13 ∷ 10 ∷ (rest ++ drop at bytes) =
    sym (take-append-drop at bytes) ∙ ap (λ (t : List ℕ). t ++ drop at bytes) is ∙ append_assoc front (13 ∷ 10 ∷ rest) (drop at bytes) in
    found.0.before (length front) (omega arith)
    (omega (arith, ap length is, length-append front (13 ∷ 10 ∷ rest), length-take at bytes))
    (occurs_there bytes front (rest ++ drop at bytes) whole)

cut_there : (at : ℕ) (bytes : List ℕ) → get_or bytes at 0 ≡ 13 → get_or bytes (suc at) 0 ≡ 10 → take (suc (suc at)) bytes ≡ take at bytes ++ crlf
cut_there at [] cr lf = absurd (cc cr)
cut_there zero (x ∷ []) cr lf = absurd (cc lf)
cut_there zero (x ∷ y ∷ rest) cr lf =
    let a : x ≡ 13 = cr in
    let b : y ≡ 10 = lf in
    rw (a, b) refl
cut_there (suc at) (x ∷ rest) cr lf = ap (λ (t : List ℕ). x ∷ t) (cut_there at rest cr lf)

pub cut_found : (bytes : List ℕ) (at : ℕ) → FindsNeedle bytes crlf 0 (Some at) → take (at + 2) bytes ≡ take at bytes ++ crlf
cut_found bytes at found =
    let same : at + 2 ≡ suc (suc at) = omega arith in
    let low : at ≡ at + 0 = omega arith in
    let high : suc at ≡ at + 1 = omega arith in
    ap (λ (n : ℕ). take n bytes) same ∙ cut_there at bytes
    (ap (λ (n : ℕ). get_or bytes n 0) low ∙ found.1.reads 0 (omega arith))
    (ap (λ (n : ℕ). get_or bytes n 0) high ∙ found.1.reads 1 (omega arith))
