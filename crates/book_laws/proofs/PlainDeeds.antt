-- The plain program for `OnceByAction` tells the truth.
use Rattle.std.proofs.Common.{◌≡◌, ℕ, zero, suc, ◌+◌, ◌-◌, Bool, true, false, not, eqb, List, [], ◌∷◌, length, slice_get, Option, Some}
use Rattle.std.proofs.Common.{None, refl, sym, ◌∙◌, ap, subst, arith}
use Rattle.std.specs.Prelude.{◌&&◌, ◌||◌, ◌==◌}
use Rattle.std.specs.Bool.{Decides}
use Rattle.std.specs.List.{list_all}
use Rattle.std.specs.Str.{bytes_eq}
use Rattle.std.specs.Cmp.Lexicographic.{pointwise}
use Rattle.std.proofs.lemmas.Bool.{cond-false, ne_eqb, and_parts, eqb-true, eq-eqb}
use Rattle.std.proofs.lemmas.Bool.Decides.{Decides-eqb, Decides-at}
use Rattle.std.proofs.lemmas.Option.{same_Some}
use Rattle.std.proofs.lemmas.Slice.Eq.{bytes_eq-Decides}
use Rattle.flag_set.specs.FlagSet.{has}
use Rattle.mail_base.specs.Tags.{action_of}
use Rattle.mail_base.specs.declared.tag.Tag.{Tag}
use Rattle.imap_model.specs.Ours.{is_number, ours}
use Rattle.imap_model.specs.declared.deed.Author.{Author}
use Rattle.imap_model.specs.declared.deed.Author.TheVariants.{Other, Ours}
use Rattle.imap_model.specs.declared.deed.Change.{Change}
use Rattle.imap_model.specs.declared.deed.Change.TheVariants as changes
use Rattle.imap_model.specs.declared.deed.Deed.{Deed}
use Rattle.action_queue.specs.Targets.{resolved, is_at}
use Rattle.action_queue.specs.Book.{Meaning}
use Rattle.action_queue.specs.declared.action.Action.{Action}
use Rattle.action_queue.specs.declared.action.Action.TheVariants as actions
use Rattle.action_queue.specs.declared.intent.Intent.{Intent}
use Rattle.action_queue.specs.declared.outcome.Outcome.{Outcome}
use Rattle.action_queue.specs.declared.outcome.Outcome.TheVariants as outcomes
use Rattle.action_queue.specs.declared.outcome.Place.{Place}
use Rattle.action_queue.specs.declared.queued.Queued.{Queued}
use Rattle.book_laws.specs.Wanted.{IsAsked, IsWanted}
use Rattle.book_laws.specs.Once.{OwnedBy, IsOwned, AllOwned, new_uid, IsPlace, IsOne, is_unsure, FitsConflict, Fits}
use Rattle.book_laws.specs.Table.{intent_of, RowFits, OnceByAction}
use Rattle.book_laws.specs.PlainOnce.{is_asked, is_wanted, is_of_queued, is_of_number, is_owned, is_place, is_one, fits_conflict}
use Rattle.book_laws.specs.PlainOnce.{fits, row_fits, rows_fit, once_holds}
use Rattle.book_laws.proofs.Queueing.{at_is, is_there}
use Rattle.book_laws.proofs.Deciding.{yes, no, both, at_most, same_flags, none_is, means}

-- each key of a set passes a test
one_passes : (p : List ℕ → Bool) (k key : List ℕ) (ks : List (List ℕ)) (same : Bool) → bytes_eq key k ≡ same → p k ≡ true →
    (has ks key ≡ true → p key ≡ true) → (same || has ks key) ≡ true → p key ≡ true
one_passes p k key ks true e t f h = ap p ((bytes_eq-Decides key k).0 e) ∙ t
one_passes p k key ks false e t f h = f h

all_pass : (p : List ℕ → Bool) (ks : List (List ℕ)) → list_all p ks ≡ true → (key : List ℕ) → has ks key ≡ true → p key ≡ true
all_pass p [] = λ e key h. absurd (cc)
all_pass p (k ∷ ks) = λ e key h.
    let parts = and_parts (p k) (list_all p ks) e in
    one_passes p k key ks (bytes_eq key k) refl parts.0 (all_pass p ks parts.1 key) h

or_right_true : (a b : Bool) → b ≡ true → (a || b) ≡ true
or_right_true true b e = refl
or_right_true false b e = e

both_true : (a b : Bool) → a ≡ true → b ≡ true → (a && b) ≡ true
both_true true b = λ s t. t
both_true false b = λ s t. absurd (cc)

pass_all : (p : List ℕ → Bool) (ks : List (List ℕ)) → ((key : List ℕ) → has ks key ≡ true → p key ≡ true) → list_all p ks ≡ true
pass_all p [] f = refl
pass_all p (k ∷ ks) f =
    both_true (p k) (list_all p ks) (f k (ap (λ (b : Bool). b || has ks k) ((bytes_eq-Decides k k).1 refl)))
    (pass_all p ks (λ key h. f key (or_right_true (bytes_eq key k) (has ks key) h)))

not_true : (b : Bool) → not b ≡ true → b ≡ false
not_true true = λ e. absurd (cc)
not_true false = λ e. refl

pub asked_decides : (add : Bool) (asked flags : List (List ℕ)) → Decides (is_asked add asked flags) (IsAsked add asked flags)
asked_decides true asked flags = (all_pass (λ key. has flags key) asked, pass_all (λ key. has flags key) asked)
asked_decides false asked flags = (
  λ e key h. not_true (has flags key) (all_pass (λ key. not (has flags key)) asked e key h),
  λ f. pass_all (λ key. not (has flags key)) asked (λ key h. ap not (f key h)),
)

wanted_decides : (queue : List Queued) (action : Action) (name : List ℕ) (validity : ℕ) (change : Change) →
    Decides (is_wanted queue action name validity change) (IsWanted queue action name validity change)
wanted_decides queue (actions.Flag target add asked) name validity (changes.SetFlags uid flags) =
    both (is_at (resolved queue target) name validity uid) (is_asked add asked flags)
    (at_is (resolved queue target) name validity uid, is_there (resolved queue target) name validity uid) (asked_decides add asked flags)
wanted_decides queue (actions.Flag target add asked) name validity (changes.Add flags text uid) = no (λ h. h)
wanted_decides queue (actions.Flag target add asked) name validity (changes.Drop uid) = no (λ h. h)
wanted_decides queue (actions.Flag target add asked) name validity (changes.Shift uid to received) = no (λ h. h)
wanted_decides queue (actions.Flag target add asked) name validity (changes.Reset under uids uidnext highest) = no (λ h. h)
wanted_decides queue (actions.Move target to) name validity (changes.Shift uid other received) =
    both (is_at (resolved queue target) name validity uid) (bytes_eq other to)
    (at_is (resolved queue target) name validity uid, is_there (resolved queue target) name validity uid) (bytes_eq-Decides other to)
wanted_decides queue (actions.Move target to) name validity (changes.Add flags text uid) = no (λ h. h)
wanted_decides queue (actions.Move target to) name validity (changes.SetFlags uid flags) = no (λ h. h)
wanted_decides queue (actions.Move target to) name validity (changes.Drop uid) = no (λ h. h)
wanted_decides queue (actions.Move target to) name validity (changes.Reset under uids uidnext highest) = no (λ h. h)
wanted_decides queue (actions.Append to flags text id) name validity (changes.Add others content uid) =
    means (bytes_eq name to && (pointwise bytes_eq others flags && bytes_eq content text)) (λ h. (h.0, h.1.0, h.1.1)) (λ h. (h.0, (h.1, h.2)))
    (both (bytes_eq name to) (pointwise bytes_eq others flags && bytes_eq content text) (bytes_eq-Decides name to)
    (both (pointwise bytes_eq others flags) (bytes_eq content text) (same_flags others flags) (bytes_eq-Decides content text)))
wanted_decides queue (actions.Append to flags text id) name validity (changes.SetFlags uid others) = no (λ h. h)
wanted_decides queue (actions.Append to flags text id) name validity (changes.Drop uid) = no (λ h. h)
wanted_decides queue (actions.Append to flags text id) name validity (changes.Shift uid other received) = no (λ h. h)
wanted_decides queue (actions.Append to flags text id) name validity (changes.Reset under uids uidnext highest) = no (λ h. h)

number_is : (n : ℕ) (o : Option ℕ) → Decides (is_number n o) (o ≡ Some n)
number_is n None = no (λ e. absurd (cc))
number_is n (Some k) = (λ e. ap (λ (x : ℕ). Some x) (eqb-true k n e), λ e. eq-eqb k n (same_Some k n e))

-- an owner is the one in the place of the tag's number
owner_there : (queue : List Queued) (d : Deed) (tag : Tag) (place : ℕ) (o : Option Queued) → action_of tag ≡ Some (suc place) → slice_get queue place ≡ o →
    Decides (is_of_queued queue d o) (OwnedBy queue d tag)
owner_there queue d tag place o number e = (there o e, back o e)
  where
    there : (o : Option Queued) → slice_get queue place ≡ o → is_of_queued queue d o ≡ true → OwnedBy queue d tag
    there None e = λ h. absurd (cc)
    there (Some q) e = λ h. record {
      place = place;
      queued = q;
      there = e;
      tagged = (number_is (suc place) (action_of tag)).1 number;
      wanted = (wanted_decides queue q.action d.name d.validity d.change).0 h;
    }

    back : (o : Option Queued) → slice_get queue place ≡ o → OwnedBy queue d tag → is_of_queued queue d o ≡ true
    back o e w =
        let same : suc w.place ≡ suc place = same_Some (suc w.place) (suc place) (sym ((number_is (suc w.place) (action_of tag)).0 w.tagged) ∙ number) in
        let at : w.place ≡ place = omega arith in
        let here : o ≡ Some w.queued = sym e ∙ subst (λ (k : ℕ). slice_get queue k ≡ Some w.queued) at w.there in
        ap (is_of_queued queue d) here ∙ (wanted_decides queue w.queued.action d.name d.validity d.change).1 w.wanted

number_decides : (queue : List Queued) (d : Deed) (tag : Tag) (n : Option ℕ) → action_of tag ≡ n → Decides (is_of_number queue d n) (OwnedBy queue d tag)
number_decides queue d tag None e = no (λ w. let t : action_of tag ≡ Some (suc w.place) = (number_is (suc w.place) (action_of tag)).0 w.tagged in absurd (cc))
number_decides queue d tag (Some zero) e =
    no (λ w. let t : Some 0 ≡ Some (suc w.place) = sym e ∙ (number_is (suc w.place) (action_of tag)).0 w.tagged in
    let z : 0 ≡ suc w.place = same_Some 0 (suc w.place) t in absurd (omega arith))
number_decides queue d tag (Some (suc place)) e =
    let at : place ≡ suc place - 1 = omega arith in
    Decides-at (is_of_number queue d (Some (suc place))) (is_of_queued queue d (slice_get queue (suc place - 1)))
    (cond-false (eqb (suc place) 0) false (is_of_queued queue d (slice_get queue (suc place - 1))) (ne_eqb (suc place) 0 (λ s. absurd (omega arith))))
    (subst (λ (k : ℕ). Decides (is_of_queued queue d (slice_get queue k)) (OwnedBy queue d tag)) at
    (owner_there queue d tag place (slice_get queue place) e refl))

owned_decides : (queue : List Queued) (d : Deed) (author : Author) → Decides (is_owned queue d author) (IsOwned queue d author)
owned_decides queue d Other = yes tt
owned_decides queue d (Ours tag) = number_decides queue d tag (action_of tag) refl

all_owned_decides : (queue : List Queued) (h : List Deed) → Decides (list_all (λ (d : Deed). is_owned queue d d.author) h) (AllOwned queue h)
all_owned_decides queue [] = yes tt
all_owned_decides queue (d ∷ ds) =
    both (is_owned queue d d.author) (list_all (λ (d : Deed). is_owned queue d d.author) ds) (owned_decides queue d d.author) (all_owned_decides queue ds)

place_decides : (place : Option Place) (d : Deed) → Decides (is_place place d) (IsPlace place d)
place_decides None d = yes tt
place_decides (Some place) d =
    both (place.validity == d.received) (is_number place.uid (new_uid d.change)) (Decides-eqb place.validity d.received)
    (number_is place.uid (new_uid d.change))

one_decides : (place : Option Place) (mine : List Deed) → Decides (is_one place mine) (IsOne place mine)
one_decides place [] = no (λ h. h)
one_decides place (d ∷ []) = place_decides place d
one_decides place (d ∷ e ∷ ds) = no (λ h. h)

conflict_decides : (unsure : Bool) (mine : List Deed) → Decides (fits_conflict unsure mine) (FitsConflict unsure mine)
conflict_decides true mine = at_most (length mine) 1
conflict_decides false mine = none_is mine

fits_decides : (outcome : Outcome) (mine : List Deed) → Decides (fits outcome mine) (Fits outcome mine)
fits_decides (outcomes.Done place) mine = one_decides place mine
fits_decides (outcomes.Conflict kind) mine = conflict_decides (is_unsure kind) mine

row_decides : (intent : Option Intent) (outcome : Option Outcome) (mine : List Deed) → Decides (row_fits intent outcome mine) (RowFits intent outcome mine)
row_decides intent (Some outcome) mine = fits_decides outcome mine
row_decides None None mine = none_is mine
row_decides (Some intent) None mine = at_most (length mine) 1

-- the rows of the actions from a place on
abbrev Rows : Meaning → List Deed → ℕ → List Queued → Type 0
Rows b h place qs = (i : ℕ) (q : Queued) → slice_get qs i ≡ Some q → RowFits (intent_of b (place + i)) q.outcome (ours (suc (place + i)) h)

first_row : (b : Meaning) (h : List Deed) (place : ℕ) (q : Queued) (qs : List Queued) → RowFits (intent_of b place) q.outcome (ours (suc place) h) →
    Rows b h (suc place) qs → Rows b h place (q ∷ qs)
first_row b h place q qs one rest zero x = λ e.
    let at : place ≡ place + 0 = omega arith in
    subst (λ (k : ℕ). RowFits (intent_of b k) x.outcome (ours (suc k) h)) at
    (subst (λ (y : Queued). RowFits (intent_of b place) y.outcome (ours (suc place) h)) (same_Some q x e) one)
first_row b h place q qs one rest (suc i) x = λ e.
    let at : suc place + i ≡ place + suc i = omega arith in
    subst (λ (k : ℕ). RowFits (intent_of b k) x.outcome (ours (suc k) h)) at (rest i x e)

rows_decide : (b : Meaning) (h : List Deed) (place : ℕ) (qs : List Queued) → Decides (rows_fit b h place qs) (Rows b h place qs)
rows_decide b h place [] = yes (λ i q e. absurd (cc))
rows_decide b h place (q ∷ qs) =
    means (rows_fit b h place (q ∷ qs)) (λ r. first_row b h place q qs r.0 r.1)
    (λ r. (
      let at : place + 0 ≡ place = omega arith in subst (λ (k : ℕ). RowFits (intent_of b k) q.outcome (ours (suc k) h)) at (r 0 q refl),
      λ i x e. let at : place + suc i ≡ suc place + i = omega arith in
          subst (λ (k : ℕ). RowFits (intent_of b k) x.outcome (ours (suc k) h)) at (r (suc i) x e),
    ))
    (both (row_fits (intent_of b place) q.outcome (ours (suc place) h)) (rows_fit b h (suc place) qs)
    (row_decides (intent_of b place) q.outcome (ours (suc place) h)) (rows_decide b h (suc place) qs))

from_place : (b : Meaning) (h : List Deed) (i : ℕ) (q : Queued) → RowFits (intent_of b (0 + i)) q.outcome (ours (suc (0 + i)) h) →
    RowFits (intent_of b i) q.outcome (ours (suc i) h)
from_place b h i q r = let at : 0 + i ≡ i = omega arith in subst (λ (k : ℕ). RowFits (intent_of b k) q.outcome (ours (suc k) h)) at r

to_place : (b : Meaning) (h : List Deed) (i : ℕ) (q : Queued) → RowFits (intent_of b i) q.outcome (ours (suc i) h) →
    RowFits (intent_of b (0 + i)) q.outcome (ours (suc (0 + i)) h)
to_place b h i q r = let at : i ≡ 0 + i = omega arith in subst (λ (k : ℕ). RowFits (intent_of b k) q.outcome (ours (suc k) h)) at r

pub once_decides : (b : Meaning) (h : List Deed) → Decides (once_holds b h) (OnceByAction b h)
once_decides b h =
    means (once_holds b h) (λ r. record { owned = r.0; each = λ i q e. from_place b h i q (r.1 i q e) })
    (λ o. (o.owned, λ i q e. to_place b h i q (o.each i q e)))
    (both (list_all (λ (d : Deed). is_owned b.queue d d.author) h) (rows_fit b h 0 b.queue) (all_owned_decides b.queue h) (rows_decide b h 0 b.queue))
