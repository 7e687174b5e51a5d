-- A cause of which there is one: an answer with a true cause is the only one.
use Rattle.std.proofs.Common.{◌≡◌, inl, inr, ℕ, ◌+◌, ◌<◌, ◌≤◌, List, [], ◌∷◌, ◌++◌, length, take, drop, refl, sym, ◌∙◌, ap, subst, arith, Result, Ok, Err}
use Rattle.std.proofs.lemmas.Bool.{cases_lt}
use Rattle.std.proofs.lemmas.List.{append_assoc, take-append-drop, take-take}
use Rattle.std.specs.Prelude.{◌≢◌, ◌↔◌, IfOk, IfErr, IsErrOf}
use Rattle.mail_header.specs.Identifier.{PlacedBody, id_of, HasOne, HasMessageId, IsBadForm, IsId, BeginsId, IsUnfitAt, WhyNoId}
use Rattle.mail_header.specs.declared.identifier.IdFault.{IdFault}
use Rattle.mail_header.specs.declared.identifier.IdFault.TheVariants as faults

begins-shorter : (front more : List ℕ) → BeginsId (front ++ more) → BeginsId front
begins-shorter front more begins = record { rest = more ++ begins.rest; id = subst IsId (append_assoc front more begins.rest) begins.id }

begins-fewer : (bytes : List ℕ) (few many : ℕ) → few ≤ many → BeginsId (take many bytes) → BeginsId (take few bytes)
begins-fewer bytes few many le begins =
    subst BeginsId (take-take few many bytes le) (begins-shorter (take few (take many bytes)) (drop few (take many bytes))
    (subst BeginsId (sym (take-append-drop few (take many bytes))) begins))

not_before : (bytes : List ℕ) (here there : ℕ) → IsUnfitAt bytes here → IsUnfitAt bytes there → here < there → ⊥
not_before bytes here there a b lt = a.there (omega (arith, lt, b.within)) (begins-fewer bytes (here + 1) there (omega (arith, lt)) b.before)

-- the bytes stop being an identifier at one place
one_place : (bytes : List ℕ) (here there : ℕ) → IsUnfitAt bytes here → IsUnfitAt bytes there → here ≡ there
one_place bytes here there a b = elim (cases_lt here there) [
  | inl lt ↦ absurd (not_before bytes here there a b lt)
  | inr le ↦ elim (cases_lt there here) [
    | inl less ↦ absurd (not_before bytes there here b a less)
    | inr same ↦ omega arith
  ]
]

abbrev first_body : List PlacedBody → List ℕ
first_body [] = []
first_body (placed ∷ others) = placed.body

one_body : (text a b : List ℕ) → HasOne text a → HasOne text b → a ≡ b
one_body text a b first second = ap first_body (sym first.1 ∙ second.1)

place_of : {X : Type 0} (here there : ℕ) → IsErrOf {T = X} {E = IdFault} (Err (faults.BadForm here)) (faults.BadForm there) → here ≡ there
place_of here there same = cc same

pub bad_form : {X : Type 0} (items : X → List ℕ) (text : List ℕ) (r : Result X IdFault) → IfOk r (λ v. HasMessageId text (items v)) →
    IfErr r (WhyNoId text) → r ≢ Err faults.Memory → (at : ℕ) → IsErrOf r (faults.BadForm at) ↔ IsBadForm text at
bad_form items text (Ok v) has why enough at = (
  λ is. absurd (cc is),
  λ bad. absurd (bad.unfit.no_id (subst IsId (has.value ∙ ap id_of (one_body text has.body bad.body has.one bad.one)) has.form)),
)
bad_form items text (Err faults.Missing) has why enough at = (λ is. absurd (cc is), λ bad. absurd (cc (why, bad.one.1)))
bad_form items text (Err (faults.Twice second)) has why enough at = (λ is. absurd (cc is), λ bad. absurd (cc (why.3, bad.one.1)))
bad_form items text (Err (faults.TooLong n)) has why enough at = (
  λ is. absurd (cc is),
  λ bad. absurd (omega (arith, why.size, why.many, bad.few, ap (λ body. length (id_of body)) (one_body text why.body bad.body why.one bad.one))),
)
bad_form items text (Err (faults.BadForm here)) has why enough at = (
  λ is. subst (IsBadForm text) (place_of here at is) why,
  λ bad. ap (λ place. Err (faults.BadForm place)) (one_place (id_of bad.body) here at
      (subst (λ body. IsUnfitAt (id_of body) here) (one_body text why.body bad.body why.one bad.one) why.unfit) bad.unfit),
)
bad_form items text (Err faults.Memory) has why enough at = absurd (enough refl)
