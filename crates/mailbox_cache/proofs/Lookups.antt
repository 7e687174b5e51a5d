-- What is known of a UID after rows were put and taken away. No order is needed.
use Rattle.std.proofs.Common.{◌≡◌, ℕ, Bool, true, false, cond, ltb, eqb, List, [], ◌∷◌, Option, Some, None, refl, sym, ◌∙◌, ap, subst}
use Rattle.std.proofs.lemmas.Bool.{cond_both, cond-true, cond-false, eqb-true, eq-eqb, ne_eqb, eqb-false}
use Rattle.uid_sets.specs.declared.uid.UidRange.{UidRange}
use Rattle.mailbox_cache.specs.Rows.{row_at, has_uid, without_uids, put_row, put_rows, told}
use Rattle.mailbox_cache.specs.declared.row.Row.{Row}

put_same : (new : ℕ × Row) (rows : List (ℕ × Row)) → row_at new.0 (put_row new rows) ≡ Some new.1
put_same new [] = cond-true (eqb new.0 new.0) (Some new.1) None (eq-eqb new.0 new.0 refl)
put_same new (r ∷ rs) =
    cond_both (eqb r.0 new.0) (new ∷ rs) (cond (ltb new.0 r.0) (new ∷ r ∷ rs) (r ∷ put_row new rs)) (λ (l : List (ℕ × Row)). row_at new.0 l ≡ Some new.1)
    (λ t. cond-true (eqb new.0 new.0) (Some new.1) (row_at new.0 rs) (eq-eqb new.0 new.0 refl))
    (λ f. cond_both (ltb new.0 r.0) (new ∷ r ∷ rs) (r ∷ put_row new rs) (λ (l : List (ℕ × Row)). row_at new.0 l ≡ Some new.1)
    (λ t. cond-true (eqb new.0 new.0) (Some new.1) (row_at new.0 (r ∷ rs)) (eq-eqb new.0 new.0 refl))
    (λ g. cond-false (eqb r.0 new.0) (Some r.1) (row_at new.0 (put_row new rs)) f ∙ put_same new rs))

put_other : (uid : ℕ) (new : ℕ × Row) (rows : List (ℕ × Row)) → (new.0 ≡ uid → ⊥) → row_at uid (put_row new rows) ≡ row_at uid rows
put_other uid new [] n = cond-false (eqb new.0 uid) (Some new.1) None (ne_eqb new.0 uid n)
put_other uid new (r ∷ rs) n =
    cond_both (eqb r.0 new.0) (new ∷ rs) (cond (ltb new.0 r.0) (new ∷ r ∷ rs) (r ∷ put_row new rs)) (λ (l : List (ℕ × Row)). row_at uid l ≡ row_at uid (r ∷ rs))
    (λ t. cond-false (eqb new.0 uid) (Some new.1) (row_at uid rs) (ne_eqb new.0 uid n)
    ∙ sym (cond-false (eqb r.0 uid) (Some r.1) (row_at uid rs) (ne_eqb r.0 uid (λ e. n (sym (eqb-true r.0 new.0 t) ∙ e)))))
    (λ f. cond_both (ltb new.0 r.0) (new ∷ r ∷ rs) (r ∷ put_row new rs) (λ (l : List (ℕ × Row)). row_at uid l ≡ row_at uid (r ∷ rs))
    (λ t. cond-false (eqb new.0 uid) (Some new.1) (row_at uid (r ∷ rs)) (ne_eqb new.0 uid n))
    (λ g. ap (λ (o : Option Row). cond (eqb r.0 uid) (Some r.1) o) (put_other uid new rs n)))

rows_some : (uid : ℕ) (row : Row) (ds rows : List (ℕ × Row)) → row_at uid ds ≡ Some row → row_at uid (put_rows ds rows) ≡ Some row
rows_some uid row [] rows = λ e. absurd (cc)
rows_some uid row (d ∷ ds) rows =
    cond_both (eqb d.0 uid) (Some d.1) (row_at uid ds) (λ (o : Option Row). o ≡ Some row → row_at uid (put_row d (put_rows ds rows)) ≡ Some row)
    (λ t e. subst (λ (k : ℕ). row_at k (put_row d (put_rows ds rows)) ≡ Some d.1) (eqb-true d.0 uid t) (put_same d (put_rows ds rows)) ∙ e)
    (λ f e. put_other uid d (put_rows ds rows) (λ s. eqb-false d.0 uid f s) ∙ rows_some uid row ds rows e)

pub rows_none : (uid : ℕ) (ds rows : List (ℕ × Row)) → row_at uid ds ≡ None → row_at uid (put_rows ds rows) ≡ row_at uid rows
rows_none uid [] rows = λ e. refl
rows_none uid (d ∷ ds) rows =
    cond_both (eqb d.0 uid) (Some d.1) (row_at uid ds) (λ (o : Option Row). o ≡ None → row_at uid (put_row d (put_rows ds rows)) ≡ row_at uid rows)
    (λ t e. absurd (cc))
    (λ f e. put_other uid d (put_rows ds rows) (λ s. eqb-false d.0 uid f s) ∙ rows_none uid ds rows e)

without_in : (uid : ℕ) (us : List UidRange) (rows : List (ℕ × Row)) → has_uid us uid ≡ true → row_at uid (without_uids us rows) ≡ None
without_in uid us [] h = refl
without_in uid us (r ∷ rs) h =
    cond_both (has_uid us r.0) (without_uids us rs) (r ∷ without_uids us rs) (λ (l : List (ℕ × Row)). row_at uid l ≡ None)
    (λ t. without_in uid us rs h)
    (λ f. cond-false (eqb r.0 uid) (Some r.1) (row_at uid (without_uids us rs))
    (ne_eqb r.0 uid (λ e. let g : has_uid us r.0 ≡ true = ap (has_uid us) e ∙ h in absurd (cc))) ∙ without_in uid us rs h)

pub without_out : (uid : ℕ) (us : List UidRange) (rows : List (ℕ × Row)) → has_uid us uid ≡ false → row_at uid (without_uids us rows) ≡ row_at uid rows
without_out uid us [] h = refl
without_out uid us (r ∷ rs) h =
    cond_both (has_uid us r.0) (without_uids us rs) (r ∷ without_uids us rs) (λ (l : List (ℕ × Row)). row_at uid l ≡ row_at uid (r ∷ rs))
    (λ t. without_out uid us rs h ∙ sym (cond-false (eqb r.0 uid) (Some r.1) (row_at uid rs)
    (ne_eqb r.0 uid (λ e. let g : has_uid us uid ≡ true = ap (has_uid us) (sym e) ∙ t in absurd (cc)))))
    (λ f. ap (λ (o : Option Row). cond (eqb r.0 uid) (Some r.1) o) (without_out uid us rs h))

known : (uid : ℕ) (us : List UidRange) (ds rows : List (ℕ × Row)) (o : Option Row) (v : Bool) → row_at uid ds ≡ o → has_uid us uid ≡ v →
    row_at uid (put_rows ds (without_uids us rows)) ≡ told o v (row_at uid rows)
known uid us ds rows (Some row) v e h = rows_some uid row ds (without_uids us rows) e
known uid us ds rows None true e h = rows_none uid ds (without_uids us rows) e ∙ without_in uid us rows h
known uid us ds rows None false e h = rows_none uid ds (without_uids us rows) e ∙ without_out uid us rows h

-- what is known of a UID after a delta
pub known_after : (us : List UidRange) (ds rows : List (ℕ × Row)) (uid : ℕ) →
    row_at uid (put_rows ds (without_uids us rows)) ≡ told (row_at uid ds) (has_uid us uid) (row_at uid rows)
known_after us ds rows uid = known uid us ds rows (row_at uid ds) (has_uid us uid) refl refl
