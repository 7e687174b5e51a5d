-- The UIDs that went above a mod-sequence, one after another.
use Rattle.std.proofs.Common.{◌≡◌, ℕ, ◌+◌, ◌<◌, true, false, cond, List, [], ◌∷◌, ◌++◌, take, length, get_or, refl, sym, ◌∙◌, ap, add-one}
use Rattle.std.specs.Prelude.{nat_lt}
use Rattle.std.proofs.lemmas.Bool.{cond_both, cond-true, cond-false}
use Rattle.std.proofs.lemmas.List.{append-nil}
use Rattle.std.proofs.Math.Seq.{take-suc}
use Rattle.imap_model.specs.PlainServer.{gone_above}
use Rattle.imap_model.specs.declared.server.Gone.{Gone}

snoc : (k : ℕ) (gs : List Gone) (x : Gone) → gone_above k (gs ++ x ∷ []) ≡ gone_above k gs ++ cond (nat_lt k x.modseq) (x.uid ∷ []) []
snoc k [] x = refl
snoc k (g ∷ gs) x =
    cond_both (nat_lt k g.modseq) (g.uid ∷ gone_above k (gs ++ x ∷ [])) (gone_above k (gs ++ x ∷ []))
    (λ (l : List ℕ). l ≡ cond (nat_lt k g.modseq) (g.uid ∷ gone_above k gs) (gone_above k gs) ++ cond (nat_lt k x.modseq) (x.uid ∷ []) [])
    (λ t. ap (λ (l : List ℕ). g.uid ∷ l) (snoc k gs x) ∙ ap (λ (l : List ℕ). l ++ cond (nat_lt k x.modseq) (x.uid ∷ []) [])
    (sym (cond-true (nat_lt k g.modseq) (g.uid ∷ gone_above k gs) (gone_above k gs) t)))
    (λ f. snoc k gs x ∙ ap (λ (l : List ℕ). l ++ cond (nat_lt k x.modseq) (x.uid ∷ []) [])
    (sym (cond-false (nat_lt k g.modseq) (g.uid ∷ gone_above k gs) (gone_above k gs) f)))

next : (k i : ℕ) (gs : List Gone) (x : Gone) → i < length gs → x ≡ get_or gs i x →
    gone_above k (take (i + 1) gs) ≡ gone_above k (take i gs) ++ cond (nat_lt k x.modseq) (x.uid ∷ []) []
next k i gs x l is = ap (gone_above k) (ap (λ (n : ℕ). take n gs) (add-one i) ∙ take-suc gs i x l
    ∙ ap (λ (y : Gone). take i gs ++ y ∷ []) (sym is)) ∙ snoc k (take i gs) x

pub went_above : (k i : ℕ) (gs : List Gone) (uids : List ℕ) (x : Gone) → i < length gs → x ≡ get_or gs i x → nat_lt k x.modseq ≡ true →
    uids ≡ gone_above k (take i gs) → uids ++ x.uid ∷ [] ≡ gone_above k (take (i + 1) gs)
went_above k i gs uids x l is t e =
    ap (λ (q : List ℕ). q ++ x.uid ∷ []) e ∙ ap (λ (q : List ℕ). gone_above k (take i gs) ++ q)
    (sym (cond-true (nat_lt k x.modseq) (x.uid ∷ []) [] t)) ∙ sym (next k i gs x l is)

pub went_below : (k i : ℕ) (gs : List Gone) (uids : List ℕ) (x : Gone) → i < length gs → x ≡ get_or gs i x → nat_lt k x.modseq ≡ false →
    uids ≡ gone_above k (take i gs) → uids ≡ gone_above k (take (i + 1) gs)
went_below k i gs uids x l is f e =
    e ∙ sym (append-nil (gone_above k (take i gs))) ∙ ap (λ (q : List ℕ). gone_above k (take i gs) ++ q)
    (sym (cond-false (nat_lt k x.modseq) (x.uid ∷ []) [] f)) ∙ sym (next k i gs x l is)
