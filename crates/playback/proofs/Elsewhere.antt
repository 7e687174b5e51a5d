-- A step where the mailbox of the message isn't selected under its UIDVALIDITY: it was renewed, or it is selected first.
use Rattle.std.proofs.Common.{Bool, List, None, Option, Some, arith, cond, false, refl, subst, sym, true, ℕ, ◌<◌, ◌≡◌, ◌≤◌}
use Rattle.std.proofs.lemmas.Bool.{and_from, and_parts, cond-true, cond_both, eqb-false, lt-ltb, ltb-false, ltb-true}
use Rattle.std.proofs.lemmas.Option.{same_Some}
use Rattle.std.specs.Prelude.{bytes_eq, nat_lt, ◌&&◌, ◌==◌}
use Rattle.imap_model.proofs.Finding.{names_same, same_name}
use Rattle.playback.specs.Choosing.{is_below}
use Rattle.playback.specs.Steps.{above_at, conflict, elsewhere, is_selected_at, renewed_as, select_under}
use Rattle.playback.specs.declared.finding.Selected.{Selected}
use Rattle.playback.specs.declared.step.Step.{Step}

-- the mailbox is selected under this UIDVALIDITY, which is above that one
pub record IsAbove (selected : Option Selected) (name : List ℕ) (validity n : ℕ) : Type 0 where
  pub sel : Selected
  pub is : selected ≡ Some sel
  pub named : sel.name ≡ name
  pub told : sel.validity ≡ n
  pub above : validity < n

above_is : (selected : Option Selected) (name : List ℕ) (validity n : ℕ) → above_at selected name validity ≡ Some n → IsAbove selected name validity n
above_is None name validity n = λ e. absurd (cc)
above_is (Some sel) name validity n =
    cond_both (bytes_eq sel.name name && nat_lt validity sel.validity) (Some sel.validity) None
    (λ (o : Option ℕ). o ≡ Some n → IsAbove (Some sel) name validity n)
    (λ t e.
    let parts : (bytes_eq sel.name name ≡ true) × (nat_lt validity sel.validity ≡ true) =
    and_parts (bytes_eq sel.name name) (nat_lt validity sel.validity) t in
    let told : sel.validity ≡ n = same_Some sel.validity n e in
    let below : validity < sel.validity = ltb-true validity sel.validity parts.1 in
    record { sel = sel; is = refl; named = same_name sel.name name parts.0; told = told; above = omega arith })
    (λ f e. absurd (cc))

pub elsewhere_any : (P : Step → Type 0) (selected : Option Selected) (meant : Bool) (name : List ℕ) (validity : ℕ) → P (select_under name validity) →
    ((n : ℕ) → IsAbove selected name validity n → P (conflict (renewed_as meant validity n))) →
    P (elsewhere meant (above_at selected name validity) name validity)
elsewhere_any P selected meant name validity selects ends = by (above_at selected name validity) refl
  where
    by : (o : Option ℕ) → above_at selected name validity ≡ o → P (elsewhere meant o name validity)
    by None e = selects
    by (Some n) e = ends n (above_is selected name validity n e)

-- a mailbox that was selected, and has no lower UIDVALIDITY than this one, is selected under it or under a greater one
above_there : (name : List ℕ) (old told : ℕ) → old < told → above_at (Some (record { name = name; validity = told })) name old ≡ Some told
above_there name old told l =
    cond-true (bytes_eq name name && nat_lt old told) (Some told) None
    (and_from (bytes_eq name name) (nat_lt old told) (names_same name name refl) (lt-ltb old told l))

not_below : (old told : ℕ) → is_below (Some old) told ≡ None → old ≤ told
not_below old told =
    cond_both (nat_lt told old) (Some (old, told)) None (λ (o : Option (ℕ × ℕ)). o ≡ None → old ≤ told) (λ t e. absurd (cc))
    (λ f e. ltb-false told old f)

pub selected_now : (P : Step → Type 0) (meant : Bool) (name : List ℕ) (old told : ℕ) (step : Step) → is_below (Some old) told ≡ None → P step →
    ((n : ℕ) → P (conflict (renewed_as meant old n))) →
    P (cond (is_selected_at (Some (record { name = name; validity = told })) name old) step
    (elsewhere meant (above_at (Some (record { name = name; validity = told })) name old) name old))
selected_now P meant name old told step fits here ends =
    cond_both (is_selected_at (Some (record { name = name; validity = told })) name old) step
    (elsewhere meant (above_at (Some (record { name = name; validity = told })) name old) name old) P (λ t. here)
    (λ f. subst (λ (o : Option ℕ). P (elsewhere meant o name old)) (sym (above_there name old told (over f))) (ends told))
  where
    apart : (told == old) ≡ false → old < told
    apart f = by (nat_lt old told) refl
      where
        by : (t : Bool) → nat_lt old told ≡ t → old < told
        by true e = ltb-true old told e
        by false e =
            let one : told ≤ old = ltb-false old told e in
            let two : old ≤ told = not_below old told fits in
            absurd (eqb-false told old f (omega arith))

    over : is_selected_at (Some (record { name = name; validity = told })) name old ≡ false → old < told
    over f = apart (other (bytes_eq name name) (told == old) (names_same name name refl) f)
      where
        other : (x y : Bool) → x ≡ true → (x && y) ≡ false → y ≡ false
        other true y t f = f
        other false y t f = absurd cc
