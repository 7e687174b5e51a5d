-- Each change keeps a mailbox well formed.
use Rattle.std.proofs.Common.{◌≡◌, ◌⊎◌, inl, inr, ℕ, ◌+◌, ◌<◌, ◌≤◌, max, true, false, cond, eqb, List, [], ◌∷◌, ◌++◌, Option, Some, None}
use Rattle.std.proofs.Common.{refl, sym, ◌∙◌, ap, subst, arith}
use Rattle.std.specs.Prelude.{bytes_eq, Contains}
use Rattle.std.proofs.lemmas.Bool.{cases_Bool, cases_eq, cond_both, eqb-true, eqb-false, eq-eqb, ne_eqb, cond-true, cond-false}
use Rattle.std.proofs.lemmas.Option.{same_Some}
use Rattle.imap_model.specs.Lookups.{box_at, put_box, message_at, put_message, without_message, renumbered, gone_at}
use Rattle.imap_model.specs.Changes.{Adds, Sets, Drops, RiseBelow, Resets, Rewrites}
use Rattle.imap_model.specs.WellFormed.{Rises, GoOnce, Differ, IsWellFormedBox, IsWellFormed}
use Rattle.imap_model.proofs.Finding.{cond_two, same_name, box_at-name, box_at-put_same, box_at-put_other, message_at-without, gone_at-push_other}
use Rattle.imap_model.proofs.Going.{not_gone, none_of, names_apart}
use Rattle.imap_model.specs.declared.server.Message.{Message}
use Rattle.imap_model.specs.declared.server.Gone.{Gone}
use Rattle.imap_model.specs.declared.server.Mailbox.{Mailbox}

pub rises_lower : (low high : ℕ) (ms : List Message) → low ≤ high → Rises high ms → Rises low ms
rises_lower low high [] l r = tt
rises_lower low high (m ∷ ms) l r = let h : high ≤ m.uid = r.0 in (omega arith, r.1)

-- what holds of each UID that is there holds of the rest's
pub tail_below : (next : ℕ) (x : Message) (xs : List Message) → ((u : ℕ) (m : Message) → message_at u (x ∷ xs) ≡ Some m → u < next) →
    (u : ℕ) (m : Message) → message_at u xs ≡ Some m → u < next
tail_below next x xs below u m e =
    cond_both (eqb x.uid u) (Some x) (message_at u xs) (λ (o : Option Message). message_at u (x ∷ xs) ≡ o → u < next)
    (λ t s. below u x s) (λ f s. below u m (s ∙ e)) refl

pub rises_push : (from : ℕ) (ms : List Message) (new : Message) → from ≤ new.uid →
    ((u : ℕ) (m : Message) → message_at u ms ≡ Some m → u < new.uid) → Rises from ms → Rises from (ms ++ new ∷ [])
rises_push from [] new l below r = (l, tt)
rises_push from (x ∷ xs) new l below r =
    let b : x.uid < new.uid = below x.uid x (cond-true (eqb x.uid x.uid) (Some x) (message_at x.uid xs) (eq-eqb x.uid x.uid refl)) in
    (r.0, rises_push (x.uid + 1) xs new (omega arith) (tail_below new.uid x xs below) r.1)

pub rises_put : (from : ℕ) (new : Message) (ms : List Message) → Rises from ms → Rises from (put_message new ms)
rises_put from new [] r = tt
rises_put from new (x ∷ xs) r =
    cond_both (eqb x.uid new.uid) (new ∷ xs) (x ∷ put_message new xs) (λ (l : List Message). Rises from l)
    (λ t. let e : x.uid ≡ new.uid = eqb-true x.uid new.uid t in
    (subst (λ (k : ℕ). from ≤ k) e r.0, subst (λ (k : ℕ). Rises (k + 1) xs) e r.1))
    (λ f. (r.0, rises_put (x.uid + 1) new xs r.1))

pub rises_without : (from uid : ℕ) (ms : List Message) → Rises from ms → Rises from (without_message uid ms)
rises_without from uid [] r = tt
rises_without from uid (x ∷ xs) r =
    cond_both (eqb x.uid uid) (without_message uid xs) (x ∷ without_message uid xs) (λ (l : List Message). Rises from l)
    (λ t. let h : from ≤ x.uid = r.0 in rises_lower from (x.uid + 1) (without_message uid xs) (omega arith) (rises_without (x.uid + 1) uid xs r.1))
    (λ f. (r.0, rises_without (x.uid + 1) uid xs r.1))

-- what is there after an edit was there, or is new
pub from_push : (uid : ℕ) (new m : Message) (ms : List Message) → message_at uid (ms ++ new ∷ []) ≡ Some m →
    (message_at uid ms ≡ Some m) ⊎ ((m ≡ new) × (new.uid ≡ uid))
from_push uid new m [] =
    cond_both (eqb new.uid uid) (Some new) None (λ (o : Option Message). o ≡ Some m → (None ≡ Some m) ⊎ ((m ≡ new) × (new.uid ≡ uid)))
    (λ t e. inr (sym (same_Some new m e), eqb-true new.uid uid t)) (λ f e. inl e)
from_push uid new m (x ∷ xs) =
    cond_two (eqb x.uid uid) (Some x) (message_at uid (xs ++ new ∷ [])) (Some x) (message_at uid xs)
    (λ (o p : Option Message). o ≡ Some m → (p ≡ Some m) ⊎ ((m ≡ new) × (new.uid ≡ uid)))
    (λ t e. inl e) (λ f e. from_push uid new m xs e)

pub push_none : (uid : ℕ) (new : Message) (ms : List Message) → (new.uid ≡ uid → ⊥) → message_at uid ms ≡ None → message_at uid (ms ++ new ∷ []) ≡ None
push_none uid new [] n = λ e. cond-false (eqb new.uid uid) (Some new) None (ne_eqb new.uid uid n)
push_none uid new (x ∷ xs) n =
    cond_two (eqb x.uid uid) (Some x) (message_at uid xs) (Some x) (message_at uid (xs ++ new ∷ [])) (λ (o p : Option Message). o ≡ None → p ≡ None)
    (λ t e. e) (λ f e. push_none uid new xs n e)

pub from_put : (uid : ℕ) (new m : Message) (ms : List Message) → message_at uid (put_message new ms) ≡ Some m →
    (message_at uid ms ≡ Some m) ⊎ ((m ≡ new) × (y : Message) × (message_at uid ms ≡ Some y))
from_put uid new m [] = λ e. cc
from_put uid new m (x ∷ xs) =
    cond_both (eqb x.uid new.uid) (new ∷ xs) (x ∷ put_message new xs)
    (λ (l : List Message). message_at uid l ≡ Some m → (message_at uid (x ∷ xs) ≡ Some m)
    ⊎ ((m ≡ new) × (y : Message) × (message_at uid (x ∷ xs) ≡ Some y)))
    (λ t. subst (λ (k : ℕ). cond (eqb k uid) (Some new) (message_at uid xs) ≡ Some m →
    (message_at uid (x ∷ xs) ≡ Some m) ⊎ ((m ≡ new) × (y : Message) × (message_at uid (x ∷ xs) ≡ Some y))) (eqb-true x.uid new.uid t)
    (cond_two (eqb x.uid uid) (Some new) (message_at uid xs) (Some x) (message_at uid xs)
    (λ (o p : Option Message). o ≡ Some m → (p ≡ Some m) ⊎ ((m ≡ new) × (y : Message) × (p ≡ Some y)))
    (λ u e. inr (sym (same_Some new m e), x, refl)) (λ u e. inl e)))
    (λ f. cond_two (eqb x.uid uid) (Some x) (message_at uid (put_message new xs)) (Some x) (message_at uid xs)
    (λ (o p : Option Message). o ≡ Some m → (p ≡ Some m) ⊎ ((m ≡ new) × (y : Message) × (p ≡ Some y)))
    (λ u e. inl e) (λ u e. from_put uid new m xs e))

put_none_case : (uid : ℕ) (new m : Message) (ms : List Message) → message_at uid ms ≡ None →
    (message_at uid ms ≡ Some m) ⊎ ((m ≡ new) × (y : Message) × (message_at uid ms ≡ Some y)) → ⊥
put_none_case uid new m ms e (inl h) = cc
put_none_case uid new m ms e (inr h) = let g : message_at uid ms ≡ Some h.1 = h.2 in cc

pub put_none : (uid : ℕ) (new : Message) (ms : List Message) → message_at uid ms ≡ None → message_at uid (put_message new ms) ≡ None
put_none uid new ms e = none_of (message_at uid (put_message new ms)) (λ m h. put_none_case uid new m ms e (from_put uid new m ms h))

without_other : (uid gone : ℕ) (ms : List Message) → (uid ≡ gone → ⊥) → (r : Option Message) →
    message_at uid (without_message gone ms) ≡ r → message_at uid ms ≡ r
without_other uid gone [] d r = λ e. e
without_other uid gone (x ∷ xs) d r =
    cond_both (eqb x.uid gone) (without_message gone xs) (x ∷ without_message gone xs)
    (λ (l : List Message). message_at uid l ≡ r → message_at uid (x ∷ xs) ≡ r)
    (λ t e. cond-false (eqb x.uid uid) (Some x) (message_at uid xs) (ne_eqb x.uid uid (λ s. d (sym s ∙ eqb-true x.uid gone t)))
    ∙ without_other uid gone xs d r e)
    (λ f. cond_two (eqb x.uid uid) (Some x) (message_at uid (without_message gone xs)) (Some x) (message_at uid xs) (λ (o p : Option Message). o ≡ r → p ≡ r)
    (λ u e. e) (λ u e. without_other uid gone xs d r e))

pub from_without : (uid gone : ℕ) (m : Message) (ms : List Message) → message_at uid (without_message gone ms) ≡ Some m → message_at uid ms ≡ Some m
from_without uid gone m ms = λ e. elim (cases_eq uid gone) [
  | inl s ↦ (let n : message_at uid (without_message gone ms) ≡ None =
      subst (λ (k : ℕ). message_at k (without_message gone ms) ≡ None) (sym s) (message_at-without gone ms) in cc)
  | inr d ↦ without_other uid gone ms d (Some m) e
]

pub without_none : (uid gone : ℕ) (ms : List Message) → message_at uid ms ≡ None → message_at uid (without_message gone ms) ≡ None
without_none uid gone ms e = none_of (message_at uid (without_message gone ms)) (λ m h. let g : message_at uid ms ≡ Some m = from_without uid gone m ms h in cc)

pub from_gone_push : (uid k : ℕ) (g : Gone) (gs : List Gone) → gone_at uid (gs ++ g ∷ []) ≡ Some k →
    (gone_at uid gs ≡ Some k) ⊎ ((g.uid ≡ uid) × (k ≡ g.modseq))
from_gone_push uid k g [] =
    cond_both (eqb g.uid uid) (Some g.modseq) None (λ (o : Option ℕ). o ≡ Some k → (None ≡ Some k) ⊎ ((g.uid ≡ uid) × (k ≡ g.modseq)))
    (λ t e. inr (eqb-true g.uid uid t, sym (same_Some g.modseq k e))) (λ f e. inl e)
from_gone_push uid k g (x ∷ xs) =
    cond_two (eqb x.uid uid) (Some x.modseq) (gone_at uid (xs ++ g ∷ [])) (Some x.modseq) (gone_at uid xs)
    (λ (o p : Option ℕ). o ≡ Some k → (p ≡ Some k) ⊎ ((g.uid ≡ uid) × (k ≡ g.modseq)))
    (λ t e. inl e) (λ f e. from_gone_push uid k g xs e)

pub go_once_push : (g : Gone) (gs : List Gone) → gone_at g.uid gs ≡ None → GoOnce gs → GoOnce (gs ++ g ∷ [])
go_once_push g [] = λ e o. (refl, tt)
go_once_push g (x ∷ xs) =
    cond_both (eqb x.uid g.uid) (Some x.modseq) (gone_at g.uid xs) (λ (o : Option ℕ). o ≡ None → GoOnce (x ∷ xs) → GoOnce (x ∷ (xs ++ g ∷ [])))
    (λ t e o. absurd (cc))
    (λ f e o. (gone_at-push_other x.uid g xs (λ s. eqb-false x.uid g.uid f (sym s)) ∙ o.0, go_once_push g xs e o.1))

added_below : (u uid old next : ℕ) (x m : Message) (ms : List Message) → old ≤ uid → uid < next → (message_at u ms ≡ Some x → u < old) →
    (message_at u ms ≡ Some x) ⊎ ((x ≡ m) × (uid ≡ u)) → u < next
added_below u uid old next x m ms f b w (inl e) = let h : u < old = w e in omega arith
added_below u uid old next x m ms f b w (inr e) = let h : uid ≡ u = e.1 in omega arith

added_numbered : (u highest : ℕ) (x m : Message) (ms : List Message) → (message_at u ms ≡ Some x → x.modseq ≤ highest) →
    (message_at u ms ≡ Some x) ⊎ ((x ≡ m) × (m.uid ≡ u)) → x.modseq ≤ max highest m.modseq
added_numbered u highest x m ms w (inl e) = let h : x.modseq ≤ highest = w e in omega arith
added_numbered u highest x m ms w (inr e) = let h : x.modseq ≡ m.modseq = ap (λ (y : Message). y.modseq) e.0 in omega arith

added_plain : (u : ℕ) (x m : Message) (ms : List Message) → (Contains m.text 0 → ⊥) → (message_at u ms ≡ Some x → Contains x.text 0 → ⊥) →
    (message_at u ms ≡ Some x) ⊎ ((x ≡ m) × (m.uid ≡ u)) → Contains x.text 0 → ⊥
added_plain u x m ms p w (inl e) = w e
added_plain u x m ms p w (inr e) = subst (λ (y : Message). Contains y.text 0 → ⊥) (sym e.0) p

set_below : (u next : ℕ) (x n : Message) (ms : List Message) → ((m : Message) → message_at u ms ≡ Some m → u < next) →
    (message_at u ms ≡ Some x) ⊎ ((x ≡ n) × (y : Message) × (message_at u ms ≡ Some y)) → u < next
set_below u next x n ms w (inl e) = w x e
set_below u next x n ms w (inr e) = w e.1 e.2

set_numbered : (u highest : ℕ) (x n : Message) (ms : List Message) → (message_at u ms ≡ Some x → x.modseq ≤ highest) →
    (message_at u ms ≡ Some x) ⊎ ((x ≡ n) × (y : Message) × (message_at u ms ≡ Some y)) → x.modseq ≤ max highest n.modseq
set_numbered u highest x n ms w (inl e) = let h : x.modseq ≤ highest = w e in omega arith
set_numbered u highest x n ms w (inr e) = let h : x.modseq ≡ n.modseq = ap (λ (y : Message). y.modseq) e.0 in omega arith

set_plain : (u : ℕ) (x n : Message) (ms : List Message) → (Contains n.text 0 → ⊥) → (message_at u ms ≡ Some x → Contains x.text 0 → ⊥) →
    (message_at u ms ≡ Some x) ⊎ ((x ≡ n) × (y : Message) × (message_at u ms ≡ Some y)) → Contains x.text 0 → ⊥
set_plain u x n ms p w (inl e) = w e
set_plain u x n ms p w (inr e) = subst (λ (y : Message). Contains y.text 0 → ⊥) (sym e.0) p

dropped_below : (u k next : ℕ) (g : Gone) (gs : List Gone) → g.uid < next → (gone_at u gs ≡ Some k → u < next) →
    (gone_at u gs ≡ Some k) ⊎ ((g.uid ≡ u) × (k ≡ g.modseq)) → u < next
dropped_below u k next g gs b w (inl e) = w e
dropped_below u k next g gs b w (inr e) = subst (λ (n : ℕ). n < next) e.0 b

dropped_numbered : (u k highest : ℕ) (g : Gone) (gs : List Gone) → (gone_at u gs ≡ Some k → k ≤ highest) →
    (gone_at u gs ≡ Some k) ⊎ ((g.uid ≡ u) × (k ≡ g.modseq)) → k ≤ max highest g.modseq
dropped_numbered u k highest g gs w (inl e) = let h : k ≤ highest = w e in omega arith
dropped_numbered u k highest g gs w (inr e) = let h : k ≡ g.modseq = e.1 in omega arith

dropped_apart : (u k : ℕ) (g : Gone) (gs : List Gone) (ms : List Message) → (gone_at u gs ≡ Some k → message_at u ms ≡ None) →
    (gone_at u gs ≡ Some k) ⊎ ((g.uid ≡ u) × (k ≡ g.modseq)) → message_at u (without_message g.uid ms) ≡ None
dropped_apart u k g gs ms w (inl e) = without_none u g.uid ms (w e)
dropped_apart u k g gs ms w (inr e) = subst (λ (n : ℕ). message_at n (without_message g.uid ms) ≡ None) e.0 (message_at-without g.uid ms)

pub adds_formed : (floor : ℕ) (flags : List (List ℕ)) (text : List ℕ) (uid : ℕ) (old new : Mailbox) → IsWellFormedBox old →
    Adds floor flags text uid old new → IsWellFormedBox new
adds_formed floor flags text uid old new w a =
    let m : Message = record { uid = uid; flags = flags; modseq = a.modseq; text = text } in
    let fresh : old.uidnext ≤ uid = a.fresh in
    let beyond : uid < a.next = a.beyond in
    subst IsWellFormedBox (sym a.becomes) (record {
      rise = rises_push 0 old.messages m (omega arith) (λ u x e. let b : u < old.uidnext = w.below u x e in omega arith) w.rise;
      below = λ u x e. added_below u uid old.uidnext a.next x m old.messages a.fresh a.beyond (w.below u x) (from_push u m x old.messages e);
      numbered = λ u x e. added_numbered u old.highest x m old.messages (w.numbered u x) (from_push u m x old.messages e);
      plain = λ u x e. added_plain u x m old.messages a.plain (w.plain u x) (from_push u m x old.messages e);
      gone_below = λ u k e. let b : u < old.uidnext = w.gone_below u k e in omega arith;
      gone_numbered = λ u k e. let b : k ≤ old.highest = w.gone_numbered u k e in omega arith;
      apart = λ u k e. let b : u < old.uidnext = w.gone_below u k e in push_none u m old.messages (λ s. absurd (omega arith)) (w.apart u k e);
      once = w.once;
    })

pub sets_formed : (floor uid : ℕ) (flags : List (List ℕ)) (old new : Mailbox) → IsWellFormedBox old → Sets floor uid flags old new → IsWellFormedBox new
sets_formed floor uid flags old new w a =
    let n : Message = record a.message { flags = flags; modseq = a.modseq } in
    subst IsWellFormedBox (sym a.becomes) (record {
      rise = rises_put 0 n old.messages w.rise;
      below = λ u x e. set_below u old.uidnext x n old.messages (w.below u) (from_put u n x old.messages e);
      numbered = λ u x e. set_numbered u old.highest x n old.messages (w.numbered u x) (from_put u n x old.messages e);
      plain = λ u x e. set_plain u x n old.messages (w.plain uid a.message a.there) (w.plain u x) (from_put u n x old.messages e);
      gone_below = w.gone_below;
      gone_numbered = λ u k e. let b : k ≤ old.highest = w.gone_numbered u k e in omega arith;
      apart = λ u k e. put_none u n old.messages (w.apart u k e);
      once = w.once;
    })

pub drops_formed : (floor uid : ℕ) (old new : Mailbox) → IsWellFormedBox old → Drops floor uid old new → IsWellFormedBox new
drops_formed floor uid old new w a =
    let g : Gone = record { uid = uid; modseq = a.modseq } in
    let no : gone_at uid old.gone ≡ None = not_gone old w uid a.message a.there in
    let below : uid < old.uidnext = w.below uid a.message a.there in
    subst IsWellFormedBox (sym a.becomes) (record {
      rise = rises_without 0 uid old.messages w.rise;
      below = λ u x e. w.below u x (from_without u uid x old.messages e);
      numbered = λ u x e. let b : x.modseq ≤ old.highest = w.numbered u x (from_without u uid x old.messages e) in omega arith;
      plain = λ u x e. w.plain u x (from_without u uid x old.messages e);
      gone_below = λ u k e. dropped_below u k old.uidnext g old.gone below (w.gone_below u k) (from_gone_push u k g old.gone e);
      gone_numbered = λ u k e. dropped_numbered u k old.highest g old.gone (w.gone_numbered u k) (from_gone_push u k g old.gone e);
      apart = λ u k e. dropped_apart u k g old.gone old.messages (w.apart u k) (from_gone_push u k g old.gone e);
      once = go_once_push g old.gone no w.once;
    })

rises_above : (from uid : ℕ) (ms : List Message) (m : Message) → Rises from ms → message_at uid ms ≡ Some m → from ≤ uid
rises_above from uid [] m r = λ e. absurd (cc)
rises_above from uid (x ∷ xs) m r =
    cond_both (eqb x.uid uid) (Some x) (message_at uid xs) (λ (o : Option Message). o ≡ Some m → from ≤ uid)
    (λ t e. subst (λ (k : ℕ). from ≤ k) (eqb-true x.uid uid t) r.0)
    (λ f e. let h : from ≤ x.uid = r.0 in let k : x.uid + 1 ≤ uid = rises_above (x.uid + 1) uid xs m r.1 e in omega arith)

tail_plain : (from : ℕ) (x : Message) (xs : List Message) → Rises from (x ∷ xs) → ((u : ℕ) (m : Message) → message_at u (x ∷ xs) ≡ Some m → Contains m.text 0 → ⊥) →
    (u : ℕ) (m : Message) → message_at u xs ≡ Some m → Contains m.text 0 → ⊥
tail_plain from x xs r p u m e =
    let k : x.uid + 1 ≤ u = rises_above (x.uid + 1) u xs m r.1 e in
    p u m (cond-false (eqb x.uid u) (Some x) (message_at u xs) (ne_eqb x.uid u (λ s. absurd (omega arith))) ∙ e)

renumbered_rise : (from next : ℕ) (us : List ℕ) (highest : ℕ) (ms : List Message) → RiseBelow from next us → Rises from (renumbered us highest ms)
renumbered_rise from next [] highest ms r = tt
renumbered_rise from next (u ∷ us) highest [] r = tt
renumbered_rise from next (u ∷ us) highest (m ∷ ms) r = (r.0, renumbered_rise (u + 1) next us highest ms r.2)

renumbered_below : (from next : ℕ) (us : List ℕ) (highest : ℕ) (ms : List Message) → RiseBelow from next us → (uid : ℕ) (m : Message) → message_at uid (renumbered us highest ms) ≡ Some m → uid < next
renumbered_below from next [] highest ms r uid m = λ e. absurd (cc)
renumbered_below from next (u ∷ us) highest [] r uid m = λ e. absurd (cc)
renumbered_below from next (u ∷ us) highest (x ∷ xs) r uid m =
    cond_both (eqb u uid) (Some (record x { uid = u; modseq = highest })) (message_at uid (renumbered us highest xs)) (λ (o : Option Message). o ≡ Some m → uid < next)
    (λ t e. subst (λ (k : ℕ). k < next) (eqb-true u uid t) r.1)
    (λ f e. renumbered_below (u + 1) next us highest xs r.2 uid m e)

renumbered_numbered : (us : List ℕ) (highest : ℕ) (ms : List Message) (uid : ℕ) (m : Message) → message_at uid (renumbered us highest ms) ≡ Some m → m.modseq ≡ highest
renumbered_numbered [] highest ms uid m = λ e. absurd (cc)
renumbered_numbered (u ∷ us) highest [] uid m = λ e. absurd (cc)
renumbered_numbered (u ∷ us) highest (x ∷ xs) uid m =
    cond_both (eqb u uid) (Some (record x { uid = u; modseq = highest })) (message_at uid (renumbered us highest xs)) (λ (o : Option Message). o ≡ Some m → m.modseq ≡ highest)
    (λ t e. sym (ap (λ (y : Message). y.modseq) (same_Some (record x { uid = u; modseq = highest }) m e)))
    (λ f e. renumbered_numbered us highest xs uid m e)

renumbered_plain : (from : ℕ) (us : List ℕ) (highest : ℕ) (ms : List Message) → Rises from ms → ((u : ℕ) (m : Message) → message_at u ms ≡ Some m → Contains m.text 0 → ⊥) →
    (uid : ℕ) (m : Message) → message_at uid (renumbered us highest ms) ≡ Some m → Contains m.text 0 → ⊥
renumbered_plain from [] highest ms r p uid m = λ e. absurd (cc)
renumbered_plain from (u ∷ us) highest [] r p uid m = λ e. absurd (cc)
renumbered_plain from (u ∷ us) highest (x ∷ xs) r p uid m =
    cond_both (eqb u uid) (Some (record x { uid = u; modseq = highest })) (message_at uid (renumbered us highest xs)) (λ (o : Option Message). o ≡ Some m → Contains m.text 0 → ⊥)
    (λ t e. subst (λ (k : List ℕ). Contains k 0 → ⊥) (ap (λ (y : Message). y.text) (same_Some (record x { uid = u; modseq = highest }) m e))
    (p x.uid x (cond-true (eqb x.uid x.uid) (Some x) (message_at x.uid xs) (eq-eqb x.uid x.uid refl))))
    (λ f e. renumbered_plain (x.uid + 1) us highest xs r.1 (tail_plain from x xs r p) uid m e)

pub resets_formed : (validity : ℕ) (uids : List ℕ) (uidnext highest : ℕ) (old new : Mailbox) → IsWellFormedBox old → Resets validity uids uidnext highest old new → IsWellFormedBox new
resets_formed validity uids uidnext highest old new w a =
    subst IsWellFormedBox (sym a.becomes) (record {
      rise = rises_lower 0 1 (renumbered uids highest old.messages) (omega arith) (renumbered_rise 1 uidnext uids highest old.messages a.rise);
      below = renumbered_below 1 uidnext uids highest old.messages a.rise;
      numbered = λ u m e. let h : m.modseq ≡ highest = renumbered_numbered uids highest old.messages u m e in omega arith;
      plain = renumbered_plain 0 uids highest old.messages w.rise w.plain;
      gone_below = λ u k e. absurd (cc);
      gone_numbered = λ u k e. absurd (cc);
      apart = λ u k e. absurd (cc);
      once = tt;
    })

-- the names of the mailboxes stay apart
pub put_absent : (name : List ℕ) (new : Mailbox) (bs : List Mailbox) → box_at name bs ≡ None → box_at name (put_box new bs) ≡ None
put_absent name new [] = λ e. e
put_absent name new (c ∷ cs) =
    cond_both (bytes_eq c.name new.name) (new ∷ cs) (c ∷ put_box new cs) (λ (l : List Mailbox). box_at name (c ∷ cs) ≡ None → box_at name l ≡ None)
    (λ t. subst (λ (n : List ℕ). box_at name (c ∷ cs) ≡ None → cond (bytes_eq n name) (Some new) (box_at name cs) ≡ None) (same_name c.name new.name t)
    (cond_two (bytes_eq c.name name) (Some c) (box_at name cs) (Some new) (box_at name cs) (λ (o p : Option Mailbox). o ≡ None → p ≡ None)
    (λ u e. absurd (cc)) (λ u e. e)))
    (λ f. cond_two (bytes_eq c.name name) (Some c) (box_at name cs) (Some c) (box_at name (put_box new cs)) (λ (o p : Option Mailbox). o ≡ None → p ≡ None)
    (λ u e. e) (λ u e. put_absent name new cs e))

pub differ_put : (new : Mailbox) (bs : List Mailbox) → Differ bs → Differ (put_box new bs)
differ_put new [] d = tt
differ_put new (c ∷ cs) d =
    cond_both (bytes_eq c.name new.name) (new ∷ cs) (c ∷ put_box new cs) Differ
    (λ t. (subst (λ (n : List ℕ). box_at n cs ≡ None) (same_name c.name new.name t) d.0, d.1))
    (λ f. (put_absent c.name new cs d.0, differ_put new cs d.1))

rewritten_formed : (name n : List ℕ) (old : List Mailbox) (after b : Mailbox) → IsWellFormed old → IsWellFormedBox after → after.name ≡ name →
    box_at name (put_box after old) ≡ Some after → box_at n (put_box after old) ≡ Some b →
    (bytes_eq name n ≡ true) ⊎ (bytes_eq name n ≡ false) → IsWellFormedBox b
rewritten_formed name n old after b w a is found e (inl t) =
    let here : box_at n (put_box after old) ≡ Some after = subst (λ (k : List ℕ). box_at k (put_box after old) ≡ Some after) (same_name name n t) found in
    subst IsWellFormedBox (same_Some after b (sym here ∙ e)) a
rewritten_formed name n old after b w a is found e (inr f) =
    w.each n b (sym (box_at-put_other n after old (λ same. names_apart name n f (sym is ∙ same))) ∙ e)

pub rewrites_formed : (Becomes : Mailbox → Mailbox → Type 0) (name : List ℕ) (old new : List Mailbox) →
    ((b c : Mailbox) → IsWellFormedBox b → Becomes b c → IsWellFormedBox c) →
    ((b c : Mailbox) → Becomes b c → c.name ≡ b.name) →
    IsWellFormed old → Rewrites Becomes name old new → IsWellFormed new
rewrites_formed Becomes name old new formed named w r =
    let is : r.after.name ≡ name = named r.before r.after r.becomes ∙ box_at-name name old r.before r.there in
    let here : box_at r.after.name old ≡ Some r.before = subst (λ (n : List ℕ). box_at n old ≡ Some r.before) (sym is) r.there in
    let found : box_at name (put_box r.after old) ≡ Some r.after =
    subst (λ (n : List ℕ). box_at n (put_box r.after old) ≡ Some r.after) is (box_at-put_same r.after old r.before here) in
    subst IsWellFormed (sym r.put) (record {
      names = differ_put r.after old w.names;
      each = λ n b e. rewritten_formed name n old r.after b w (formed r.before r.after (w.each name r.before r.there) r.becomes) is found e
          (cases_Bool (bytes_eq name n));
    })
