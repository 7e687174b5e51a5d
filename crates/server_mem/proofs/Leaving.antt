-- The messages but that of a UID, one after another.
use Rattle.std.proofs.Common.{◌≡◌, ℕ, ◌+◌, ◌<◌, true, false, cond, eqb, not, List, [], ◌∷◌, ◌++◌, take, length, get_or, refl, sym, ◌∙◌, ap, add-one}
use Rattle.std.proofs.lemmas.Bool.{cond_both, cond-true, cond-false, not-true, not-false}
use Rattle.std.proofs.lemmas.List.{append-nil}
use Rattle.std.proofs.Math.Seq.{take-suc}
use Rattle.imap_model.specs.Lookups.{without_message}
use Rattle.imap_model.specs.declared.server.Message.{Message}

snoc : (uid : ℕ) (ms : List Message) (x : Message) → without_message uid (ms ++ x ∷ []) ≡ without_message uid ms ++ cond (eqb x.uid uid) [] (x ∷ [])
snoc uid [] x = refl
snoc uid (m ∷ ms) x =
    cond_both (eqb m.uid uid) (without_message uid (ms ++ x ∷ [])) (m ∷ without_message uid (ms ++ x ∷ []))
    (λ (l : List Message). l ≡ cond (eqb m.uid uid) (without_message uid ms) (m ∷ without_message uid ms) ++ cond (eqb x.uid uid) [] (x ∷ []))
    (λ t. snoc uid ms x ∙ ap (λ (l : List Message). l ++ cond (eqb x.uid uid) [] (x ∷ []))
    (sym (cond-true (eqb m.uid uid) (without_message uid ms) (m ∷ without_message uid ms) t)))
    (λ f. ap (λ (l : List Message). m ∷ l) (snoc uid ms x) ∙ ap (λ (l : List Message). l ++ cond (eqb x.uid uid) [] (x ∷ []))
    (sym (cond-false (eqb m.uid uid) (without_message uid ms) (m ∷ without_message uid ms) f)))

next : (uid i : ℕ) (ms : List Message) (x : Message) → i < length ms → x ≡ get_or ms i x →
    without_message uid (take (i + 1) ms) ≡ without_message uid (take i ms) ++ cond (eqb x.uid uid) [] (x ∷ [])
next uid i ms x l is =
    ap (without_message uid) (ap (λ (n : ℕ). take n ms) (add-one i) ∙ take-suc ms i x l
    ∙ ap (λ (y : Message). take i ms ++ y ∷ []) (sym is)) ∙ snoc uid (take i ms) x

pub passes : (uid i : ℕ) (ms left : List Message) (x : Message) → i < length ms → x ≡ get_or ms i x → true ≡ not (eqb x.uid uid) →
    left ≡ without_message uid (take i ms) →
    left ++ x ∷ [] ≡ without_message uid (take (i + 1) ms)
passes uid i ms left x l is t e =
    ap (λ (k : List Message). k ++ x ∷ []) e ∙ ap (λ (k : List Message). without_message uid (take i ms) ++ k)
    (sym (cond-false (eqb x.uid uid) [] (x ∷ []) (not-true (eqb x.uid uid) (sym t)))) ∙ sym (next uid i ms x l is)

pub stays_out : (uid i : ℕ) (ms left : List Message) (x : Message) → i < length ms → x ≡ get_or ms i x → false ≡ not (eqb x.uid uid) →
    left ≡ without_message uid (take i ms) →
    left ≡ without_message uid (take (i + 1) ms)
stays_out uid i ms left x l is f e =
    e ∙ sym (append-nil (without_message uid (take i ms))) ∙ ap (λ (k : List Message). without_message uid (take i ms) ++ k)
    (sym (cond-true (eqb x.uid uid) [] (x ∷ []) (not-false (eqb x.uid uid) (sym f)))) ∙ sym (next uid i ms x l is)
