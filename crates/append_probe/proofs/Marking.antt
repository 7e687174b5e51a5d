-- The messages with a Message-ID, as a rising list of UIDs.
use Rattle.std.proofs.Common.{◌≡◌, inl, inr, ℕ, ◌+◌, ◌≤◌, true, eqb, leb, List, [], ◌∷◌, Option, Some, refl, sym, ◌∙◌, ap, subst, arith}
use Rattle.std.specs.Prelude.{Contains}
use Rattle.std.proofs.lemmas.Bool.{cond_both, cond-true, cond-false, eqb-true, eq-eqb, ne_eqb, leb-true, le-leb}
use Rattle.std.proofs.lemmas.Option.{same_Some}
use Rattle.imap_model.proofs.Remarking.{here, there}
use Rattle.imap_model.specs.Lookups.{message_at}
use Rattle.imap_model.specs.WellFormed.{Rises}
use Rattle.imap_model.specs.declared.server.Message.{Message}
use Rattle.append_probe.specs.Marked.{at_least, has_id, marked}
use Rattle.append_probe.proofs.Halves.{first_or_later, in_nothing}

-- a message of the UID has the Message-ID
pub record IsMarked (id : List ℕ) (uid : ℕ) (ms : List Message) : Type 0 where
  pub message : Message
  pub there : message_at uid ms ≡ Some message
  pub has : has_id id message.text ≡ true

at_above : (low uid : ℕ) (ms : List Message) (m : Message) → Rises low ms → message_at uid ms ≡ Some m → low ≤ uid
at_above low uid [] m r = λ e. absurd (cc)
at_above low uid (x ∷ xs) m r =
    cond_both (eqb x.uid uid) (Some x) (message_at uid xs) (λ (o : Option Message). o ≡ Some m → low ≤ uid)
    (λ t e. let same : x.uid ≡ uid = eqb-true x.uid uid t in omega (arith, r.0))
    (λ f e. let later : x.uid + 1 ≤ uid = at_above (x.uid + 1) uid xs m r.1 e in omega (arith, r.0))

later_marked : (id : List ℕ) (uid : ℕ) (x : Message) (xs : List Message) → Rises (x.uid + 1) xs → IsMarked id uid xs →
    IsMarked id uid (x ∷ xs)
later_marked id uid x xs r i =
    let above : x.uid + 1 ≤ uid = at_above (x.uid + 1) uid xs i.message r i.there in
    record {
      message = i.message;
      there = cond-false (eqb x.uid uid) (Some x) (message_at uid xs) (ne_eqb x.uid uid (λ e. omega arith))
          ∙ i.there;
      has = i.has;
    }

pub marked_at : (low : ℕ) (id : List ℕ) (ms : List Message) (uid : ℕ) → Rises low ms → Contains (marked id ms) uid → IsMarked id uid ms
marked_at low id [] uid r = λ c. absurd (in_nothing uid c)
marked_at low id (x ∷ xs) uid r =
    cond_both (has_id id x.text) (x.uid ∷ marked id xs) (marked id xs) (λ (l : List ℕ). Contains l uid → IsMarked id uid (x ∷ xs))
    (λ t c. elim (first_or_later x.uid uid (marked id xs) c) [
      | inl e ↦ record { message = x; there = cond-true (eqb x.uid uid) (Some x) (message_at uid xs) (eq-eqb x.uid uid e); has = t }
      | inr l ↦ later_marked id uid x xs r.1 (marked_at (x.uid + 1) id xs uid r.1 l)
    ])
    (λ f c. later_marked id uid x xs r.1 (marked_at (x.uid + 1) id xs uid r.1 c))

pub at_marked : (id : List ℕ) (ms : List Message) (uid : ℕ) (m : Message) → message_at uid ms ≡ Some m → has_id id m.text ≡ true →
    Contains (marked id ms) uid
at_marked id [] uid m = λ e h. absurd (cc)
at_marked id (x ∷ xs) uid m =
    cond_both (eqb x.uid uid) (Some x) (message_at uid xs)
    (λ (o : Option Message). o ≡ Some m → has_id id m.text ≡ true → Contains (marked id (x ∷ xs)) uid)
    (λ t e h. subst (λ (l : List ℕ). Contains l uid)
    (sym (cond-true (has_id id x.text) (x.uid ∷ marked id xs) (marked id xs) (ap (λ (y : Message). has_id id y.text) (same_Some x m e)
    ∙ h)))
    (subst (λ (u : ℕ). Contains (x.uid ∷ marked id xs) u) (eqb-true x.uid uid t) (here x.uid (marked id xs))))
    (λ f e h. cond_both (has_id id x.text) (x.uid ∷ marked id xs) (marked id xs) (λ (l : List ℕ). Contains l uid)
    (λ _. there x.uid uid (marked id xs) (at_marked id xs uid m e h))
    (λ _. at_marked id xs uid m e h))

-- the UIDs from one on
pub in_least : (low : ℕ) (us : List ℕ) (uid : ℕ) → Contains us uid → low ≤ uid → Contains (at_least low us) uid
in_least low [] uid c l = absurd (in_nothing uid c)
in_least low (u ∷ us) uid c l =
    elim (first_or_later u uid us c) [
      | inl e ↦ subst (λ (k : List ℕ). Contains k uid) (sym (cond-true (leb low u) (u ∷ at_least low us) (at_least low us)
          (le-leb low u (omega arith))))
          (subst (λ (v : ℕ). Contains (u ∷ at_least low us) v) e (here u (at_least low us)))
      | inr k ↦ cond_both (leb low u) (u ∷ at_least low us) (at_least low us) (λ (k : List ℕ). Contains k uid)
          (λ _. there u uid (at_least low us) (in_least low us uid k l)) (λ _. in_least low us uid k l)
    ]

pub least_in : (low : ℕ) (us : List ℕ) (uid : ℕ) → Contains (at_least low us) uid → Contains us uid × (low ≤ uid)
least_in low [] uid = λ c. absurd (in_nothing uid c)
least_in low (u ∷ us) uid =
    cond_both (leb low u) (u ∷ at_least low us) (at_least low us) (λ (l : List ℕ). Contains l uid → Contains (u ∷ us) uid × (low ≤ uid))
    (λ t c. elim (first_or_later u uid (at_least low us) c) [
      | inl e ↦ (subst (λ (v : ℕ). Contains (u ∷ us) v) e (here u us), subst (λ (v : ℕ). low ≤ v) e (leb-true low u t))
      | inr k ↦ later low u us uid (least_in low us uid k)
    ])
    (λ f c. later low u us uid (least_in low us uid c))
  where
    later : (low u : ℕ) (us : List ℕ) (uid : ℕ) → Contains us uid × (low ≤ uid) → Contains (u ∷ us) uid × (low ≤ uid)
    later low u us uid p = (there u uid us p.0, p.1)

-- the numbers rise, from this one on
abbrev pub Ascends : ℕ → List ℕ → Type 0
Ascends floor [] = Unit {0}
Ascends floor (u ∷ us) = (floor ≤ u) × Ascends (u + 1) us

lower_floor : (low high : ℕ) (us : List ℕ) → low ≤ high → Ascends high us → Ascends low us
lower_floor low high [] l a = tt
lower_floor low high (u ∷ us) l a = (omega (arith, a.0), a.1)

marked_ascends : (floor : ℕ) (id : List ℕ) (ms : List Message) → Rises floor ms → Ascends floor (marked id ms)
marked_ascends floor id [] r = tt
marked_ascends floor id (x ∷ xs) r =
    cond_both (has_id id x.text) (x.uid ∷ marked id xs) (marked id xs) (Ascends floor)
    (λ t. (r.0, marked_ascends (x.uid + 1) id xs r.1))
    (λ f. lower_floor floor (x.uid + 1) (marked id xs) (omega (arith, r.0)) (marked_ascends (x.uid + 1) id xs r.1))

least_ascends : (floor low : ℕ) (us : List ℕ) → Ascends floor us → Ascends floor (at_least low us)
least_ascends floor low [] a = tt
least_ascends floor low (u ∷ us) a =
    cond_both (leb low u) (u ∷ at_least low us) (at_least low us) (Ascends floor)
    (λ t. (a.0, least_ascends (u + 1) low us a.1))
    (λ f. lower_floor floor (u + 1) (at_least low us) (omega (arith, a.0)) (least_ascends (u + 1) low us a.1))

pub those_ascend : (low : ℕ) (id : List ℕ) (ms : List Message) → Rises 0 ms → Ascends 0 (at_least low (marked id ms))
those_ascend low id ms r = least_ascends 0 low (marked id ms) (marked_ascends 0 id ms r)

-- without a member the list is empty
pub has_none : (us : List ℕ) → ((uid : ℕ) → Contains us uid → ⊥) → us ≡ []
has_none [] n = refl
has_none (u ∷ us) n = absurd (n u (here u us))

-- with one member a rising list is that one
pub has_one : (floor : ℕ) (us : List ℕ) (u : ℕ) → Ascends floor us → Contains us u → ((uid : ℕ) → Contains us uid → uid ≡ u) → us ≡ u ∷ []
has_one floor [] u a c o = absurd (in_nothing u c)
has_one floor (x ∷ []) u a c o = ap (λ (v : ℕ). v ∷ []) (o x (here x []))
has_one floor (x ∷ y ∷ us) u a c o =
    let first : x ≡ u = o x (here x (y ∷ us)) in
    let second : y ≡ u = o y (there x y (y ∷ us) (here y us)) in
    let rise : x + 1 ≤ y = a.1.0 in absurd (omega arith)
