-- The first place with a name is the place of the mailbox of that name; so for a UID.
use Rattle.std.proofs.Common.{◌≡◌, ℕ, suc, ◌+◌, ◌<◌, Bool, true, false, List, [], ◌∷◌, Option, Some, None, refl, sym, ◌∙◌, ap, subst, arith, length}
use Rattle.std.specs.Prelude.{bytes_eq, position, slice_get, IfNone, IfSome}
use Rattle.std.specs.List.{position_from}
use Rattle.std.proofs.lemmas.Bool.{cond_both, cond-true, cond-false}
use Rattle.std.proofs.lemmas.Option.{same_Some}
use Rattle.std.proofs.lemmas.Iterator.Adapters.{position_from-zero}
use Rattle.imap_model.specs.Lookups.{box_at, put_box}
use Rattle.imap_model.proofs.Finding.{cond_two, box_at-name}
use Rattle.imap_model.specs.declared.server.Mailbox.{Mailbox}
use Rattle.server_mem.specs.Places.{IsPlaceOf, IsBoxOf}

abbrev named : List ℕ → Mailbox → Bool
named name mailbox = bytes_eq mailbox.name name

-- a place behind a first mailbox
later : (name : List ℕ) (b : Mailbox) (bs : List Mailbox) (at : ℕ) → bytes_eq b.name name ≡ false → IsPlaceOf name bs at → IsPlaceOf name (b ∷ bs) (suc at)
later name b bs at f p =
    let within : at < length bs = p.within in
    record {
      within = omega arith;
      box = p.box;
      there = p.there;
      found = cond-false (bytes_eq b.name name) (Some b) (box_at name bs) f ∙ p.found;
      put = λ new is. cond-false (bytes_eq b.name new.name) (new ∷ bs) (b ∷ put_box new bs) (ap (bytes_eq b.name) is ∙ f)
          ∙ ap (λ (l : List Mailbox). b ∷ l) (p.put new is);
    }

pub absent : (name : List ℕ) (k : ℕ) (bs : List Mailbox) → position_from (named name) k bs ≡ None → box_at name bs ≡ None
absent name k [] = λ e. refl
absent name k (b ∷ bs) =
    cond_two (bytes_eq b.name name) (Some k) (position_from (named name) (k + 1) bs) (Some b) (box_at name bs)
    (λ (o : Option ℕ) (p : Option Mailbox). o ≡ None → p ≡ None)
    (λ t e. absurd (cc)) (λ f e. absent name (k + 1) bs e)

-- what is found from a number on
pub record Found (name : List ℕ) (k : ℕ) (bs : List Mailbox) (at : ℕ) : Type 0 where
  pub behind : ℕ
  pub is : at ≡ k + behind
  pub place : IsPlaceOf name bs behind

first : (name : List ℕ) (k : ℕ) (b : Mailbox) (bs : List Mailbox) → bytes_eq b.name name ≡ true → Found name k (b ∷ bs) k
first name k b bs t = record {
  behind = 0;
  is = omega arith;
  place = record {
    within = omega arith;
    box = b;
    there = refl;
    found = cond-true (bytes_eq b.name name) (Some b) (box_at name bs) t;
    put = λ new is. cond-true (bytes_eq b.name new.name) (new ∷ bs) (b ∷ put_box new bs) (ap (bytes_eq b.name) is ∙ t);
  };
}

further : (name : List ℕ) (k : ℕ) (b : Mailbox) (bs : List Mailbox) (at : ℕ) → bytes_eq b.name name ≡ false → Found name (k + 1) bs at →
    Found name k (b ∷ bs) at
further name k b bs at f r = let is : at ≡ k + 1 + r.behind = r.is in
    record { behind = suc r.behind; is = omega arith; place = later name b bs r.behind f r.place }

pub present : (name : List ℕ) (k : ℕ) (bs : List Mailbox) (at : ℕ) → position_from (named name) k bs ≡ Some at → Found name k bs at
present name k [] at = λ e. absurd (cc)
present name k (b ∷ bs) at =
    cond_both (bytes_eq b.name name) (Some k) (position_from (named name) (k + 1) bs) (λ (o : Option ℕ). o ≡ Some at → Found name k (b ∷ bs) at)
    (λ t e. subst (λ (n : ℕ). Found name k (b ∷ bs) n) (same_Some k at e) (first name k b bs t))
    (λ f e. further name k b bs at f (present name (k + 1) bs at e))

from_zero : (name : List ℕ) (bs : List Mailbox) (at : ℕ) → Found name 0 bs at → IsPlaceOf name bs at
from_zero name bs at r = let is : at ≡ 0 + r.behind = r.is in let e : at ≡ r.behind = omega arith in subst (IsPlaceOf name bs) (sym e) r.place

pub place_none : (name : List ℕ) (bs : List Mailbox) (o : Option ℕ) → o ≡ position (named name) bs → IfNone o (box_at name bs ≡ None)
place_none name bs None e = absent name 0 bs (sym (position_from-zero (named name) bs) ∙ sym e)
place_none name bs (Some at) e = tt

pub place_some : (name : List ℕ) (bs : List Mailbox) (o : Option ℕ) → o ≡ position (named name) bs → IfSome o (IsPlaceOf name bs)
place_some name bs None e = tt
place_some name bs (Some at) e = from_zero name bs at (present name 0 bs at (sym (position_from-zero (named name) bs) ∙ sym e))

-- the mailbox that is read there
pub box_there : (name : List ℕ) (bs : List Mailbox) (at : ℕ) (b : Mailbox) → slice_get bs at ≡ Some b → IsPlaceOf name bs at → IsBoxOf name bs at b
box_there name bs at b e p =
    let found : box_at name bs ≡ Some b = p.found ∙ sym p.there ∙ e in
    record { within = p.within; found = found; named = box_at-name name bs b found; put = p.put }
