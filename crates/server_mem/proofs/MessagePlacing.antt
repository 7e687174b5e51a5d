-- The first place with a UID is the place of the message of that UID.
use Rattle.std.proofs.Common.{◌≡◌, ℕ, suc, ◌+◌, ◌<◌, Bool, true, false, eqb, List, [], ◌∷◌, Option, Some, None, refl, sym, ◌∙◌, ap, subst, arith, length}
use Rattle.std.specs.Prelude.{position, slice_get, IfNone, IfSome}
use Rattle.std.specs.List.{position_from}
use Rattle.std.proofs.lemmas.Bool.{cond_both, cond-true, cond-false}
use Rattle.std.proofs.lemmas.Option.{same_Some}
use Rattle.std.proofs.lemmas.Iterator.Adapters.{position_from-zero}
use Rattle.imap_model.specs.Lookups.{message_at, put_message}
use Rattle.imap_model.proofs.Finding.{cond_two, message_at-uid}
use Rattle.imap_model.specs.declared.server.Message.{Message}
use Rattle.server_mem.specs.Places.{IsPlaceOfMessage, IsMessageOf}

abbrev message_named : ℕ → Message → Bool
message_named uid mailbox = eqb mailbox.uid uid

-- a place behind a first one
message_later : (uid : ℕ) (b : Message) (bs : List Message) (at : ℕ) → eqb b.uid uid ≡ false → IsPlaceOfMessage uid bs at →
    IsPlaceOfMessage uid (b ∷ bs) (suc at)
message_later uid b bs at f p =
    let within : at < length bs = p.within in
    record {
      within = omega arith;
      message = p.message;
      there = p.there;
      found = cond-false (eqb b.uid uid) (Some b) (message_at uid bs) f ∙ p.found;
      put = λ new is. cond-false (eqb b.uid new.uid) (new ∷ bs) (b ∷ put_message new bs) (ap (eqb b.uid) is ∙ f)
          ∙ ap (λ (l : List Message). b ∷ l) (p.put new is);
    }

pub message_absent : (uid : ℕ) (k : ℕ) (bs : List Message) → position_from (message_named uid) k bs ≡ None → message_at uid bs ≡ None
message_absent uid k [] = λ e. refl
message_absent uid k (b ∷ bs) =
    cond_two (eqb b.uid uid) (Some k) (position_from (message_named uid) (k + 1) bs) (Some b) (message_at uid bs)
    (λ (o : Option ℕ) (p : Option Message). o ≡ None → p ≡ None)
    (λ t e. absurd (cc)) (λ f e. message_absent uid (k + 1) bs e)

-- what is found from a number on
pub record FoundMessage (uid : ℕ) (k : ℕ) (bs : List Message) (at : ℕ) : Type 0 where
  pub behind : ℕ
  pub is : at ≡ k + behind
  pub place : IsPlaceOfMessage uid bs behind

message_first : (uid : ℕ) (k : ℕ) (b : Message) (bs : List Message) → eqb b.uid uid ≡ true → FoundMessage uid k (b ∷ bs) k
message_first uid k b bs t = record {
  behind = 0;
  is = omega arith;
  place = record {
    within = omega arith;
    message = b;
    there = refl;
    found = cond-true (eqb b.uid uid) (Some b) (message_at uid bs) t;
    put = λ new is. cond-true (eqb b.uid new.uid) (new ∷ bs) (b ∷ put_message new bs) (ap (eqb b.uid) is ∙ t);
  };
}

message_further : (uid : ℕ) (k : ℕ) (b : Message) (bs : List Message) (at : ℕ) → eqb b.uid uid ≡ false → FoundMessage uid (k + 1) bs at →
    FoundMessage uid k (b ∷ bs) at
message_further uid k b bs at f r = let is : at ≡ k + 1 + r.behind = r.is in
    record { behind = suc r.behind; is = omega arith; place = message_later uid b bs r.behind f r.place }

pub message_present : (uid : ℕ) (k : ℕ) (bs : List Message) (at : ℕ) → position_from (message_named uid) k bs ≡ Some at → FoundMessage uid k bs at
message_present uid k [] at = λ e. absurd (cc)
message_present uid k (b ∷ bs) at =
    cond_both (eqb b.uid uid) (Some k) (position_from (message_named uid) (k + 1) bs) (λ (o : Option ℕ). o ≡ Some at → FoundMessage uid k (b ∷ bs) at)
    (λ t e. subst (λ (n : ℕ). FoundMessage uid k (b ∷ bs) n) (same_Some k at e) (message_first uid k b bs t))
    (λ f e. message_further uid k b bs at f (message_present uid (k + 1) bs at e))

message_from_zero : (uid : ℕ) (bs : List Message) (at : ℕ) → FoundMessage uid 0 bs at → IsPlaceOfMessage uid bs at
message_from_zero uid bs at r = let is : at ≡ 0 + r.behind = r.is in let e : at ≡ r.behind = omega arith in subst (IsPlaceOfMessage uid bs) (sym e) r.place

pub message_place_none : (uid : ℕ) (bs : List Message) (o : Option ℕ) → o ≡ position (message_named uid) bs → IfNone o (message_at uid bs ≡ None)
message_place_none uid bs None e = message_absent uid 0 bs (sym (position_from-zero (message_named uid) bs) ∙ sym e)
message_place_none uid bs (Some at) e = tt

pub message_place_some : (uid : ℕ) (bs : List Message) (o : Option ℕ) → o ≡ position (message_named uid) bs → IfSome o (IsPlaceOfMessage uid bs)
message_place_some uid bs None e = tt
message_place_some uid bs (Some at) e = message_from_zero uid bs at (message_present uid 0 bs at (sym (position_from-zero (message_named uid) bs) ∙ sym e))

-- the message that is read there
pub message_there : (uid : ℕ) (ms : List Message) (at : ℕ) (m : Message) → slice_get ms at ≡ Some m → IsPlaceOfMessage uid ms at → IsMessageOf uid ms at m
message_there uid ms at m e p =
    let found : message_at uid ms ≡ Some m = p.found ∙ sym p.there ∙ e in
    record { within = p.within; found = found; is = message_at-uid uid ms m found; put = p.put }
