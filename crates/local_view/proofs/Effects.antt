-- What is seen after a flag action or a move, by the flags of its message.
use Rattle.std.proofs.Common.{◌≡◌, ℕ, suc, ◌+◌, ◌<◌, ◌≤◌, Bool, List, ◌∷◌, length, get_or, drop, Option, Some, None, refl, sym, ◌∙◌, ap, subst}
use Rattle.std.proofs.Common.{add-one, drop-cons}
use Rattle.std.proofs.Math.ListN.{drop_of_length-le}
use Rattle.std.specs.Option.{option_map}
use Rattle.std.specs.Prelude.{IsSome}
use Rattle.action_queue.specs.Book.{Meaning}
use Rattle.action_queue.specs.declared.action.Action.{Action}
use Rattle.action_queue.specs.declared.outcome.Outcome.{Outcome}
use Rattle.action_queue.specs.declared.queued.Queued.{Queued}
use Rattle.local_view.specs.Sights.{Sight, Sights, put, dummy, turned, with_flags, flagged, flagged_at, moved, moved_at, acted, acted_unless, acted_all}
use Rattle.local_view.specs.Touching.{AreSame}
use Rattle.local_view.specs.declared.message.Message.{Message}
use Rattle.local_view.specs.declared.message.Message.TheVariants as message
use Rattle.local_view.proofs.Likeness.{and_then, put_alike, all_alike}

abbrev flags_of : Option Sight → Option (List (List ℕ))
flags_of sight = option_map (λ s. s.flags) sight

-- a message whose flags were found is there
pub is_there : (sight : Option Sight) (flags : List (List ℕ)) → Some flags ≡ flags_of sight → IsSome sight
is_there None flags is = absurd (cc)
is_there (Some sight) flags is = refl

flags_are : (sight : Sight) (flags : List (List ℕ)) → Some flags ≡ flags_of (Some sight) → flags ≡ sight.flags
flags_are sight flags is = cc

module _ (sights : Sights) where
  module _ (add : Bool) (asked : List (List ℕ)) where
    -- a flag action changes nothing where there is no message
    pub flags_nothing : (o : Option Message) → None ≡ o → AreSame sights (flagged_at add asked o sights)
    flags_nothing None is = λ m. refl
    flags_nothing (Some m) is = absurd (cc)

    not_there : (m : Message) (sight : Option Sight) → None ≡ flags_of sight → AreSame sights (flagged add asked m sight sights)
    not_there m None is = λ other. refl
    not_there m (Some sight) is = absurd (cc)

    -- nor where the message is gone
    pub flags_gone : (m : Message) (o : Option Message) → Some m ≡ o → None ≡ flags_of (sights m) → AreSame sights (flagged_at add asked o sights)
    flags_gone m o is gone = subst (λ (o : Option Message). AreSame sights (flagged_at add asked o sights)) is (not_there m (sights m) gone)

    with_other : (now : Sights) (flags set : List (List ℕ)) (m : Message) (sight : Option Sight) → Some flags ≡ flags_of sight →
        set ≡ turned add asked flags → AreSame now (put m (option_map (with_flags set) sight) sights) → AreSame now (flagged add asked m sight sights)
    with_other now flags set m None is same h = absurd (cc)
    with_other now flags set m (Some sight) is same h =
        subst (λ (fs : List (List ℕ)). AreSame now (put m (Some (with_flags fs sight)) sights)) (same ∙ ap (turned add asked) (flags_are sight flags is)) h

    -- where it is there, it has them with, or without, the asked ones
    pub flags_turned : (now : Sights) (flags set : List (List ℕ)) (m : Message) (o : Option Message) → Some m ≡ o → Some flags ≡ flags_of (sights m) →
        set ≡ turned add asked flags → AreSame now (put m (option_map (with_flags set) (sights m)) sights) → AreSame now (flagged_at add asked o sights)
    flags_turned now flags set m o is there same h =
        subst (λ (o : Option Message). AreSame now (flagged_at add asked o sights)) is (with_other now flags set m (sights m) there same h)

  module _ (n : ℕ) where
    -- a move changes nothing where there is no message
    pub moves_nothing : (o : Option Message) → None ≡ o → AreSame sights (moved_at n o sights)
    moves_nothing None is = λ m. refl
    moves_nothing (Some m) is = absurd (cc)

    not_here : (m : Message) (sight : Option Sight) → None ≡ flags_of sight → AreSame sights (moved n m sight sights)
    not_here m None is = λ other. refl
    not_here m (Some sight) is = absurd (cc)

    -- nor where the message is gone
    pub moves_gone : (m : Message) (o : Option Message) → Some m ≡ o → None ≡ flags_of (sights m) → AreSame sights (moved_at n o sights)
    moves_gone m o is gone = subst (λ (o : Option Message). AreSame sights (moved_at n o sights)) is (not_here m (sights m) gone)

    taken_and_made : (between now : Sights) (flags set : List (List ℕ)) (m : Message) (sight : Option Sight) → Some flags ≡ flags_of sight → set ≡ flags →
        AreSame between (put m None sights) → AreSame now (put (message.Made n) (Some (dummy set)) between) → AreSame now (moved n m sight sights)
    taken_and_made between now flags set m None is same taken made = absurd (cc)
    taken_and_made between now flags set m (Some sight) is same taken made =
        and_then made (subst (λ (fs : List (List ℕ)). AreSame (put (message.Made n) (Some (dummy set)) between)
        (put (message.Made n) (Some (dummy fs)) (put m None sights))) (same ∙ flags_are sight flags is)
        (put_alike (message.Made n) (Some (dummy set)) between (put m None sights) taken))

    -- where it is there, it is taken away, and the action's own one is there with its flags
    pub moves_over : (between now : Sights) (flags set : List (List ℕ)) (m : Message) (o : Option Message) → Some m ≡ o → Some flags ≡ flags_of (sights m) →
        set ≡ flags → AreSame between (put m None sights) → AreSame now (put (message.Made n) (Some (dummy set)) between) → AreSame now (moved_at n o sights)
    moves_over between now flags set m o is there same taken made =
        subst (λ (o : Option Message). AreSame now (moved_at n o sights)) is (taken_and_made between now flags set m (sights m) there same taken made)

module _ (b : Meaning) (n : ℕ) (action : Action) (sights : Sights) where
  -- a settled action changes nothing
  pub settled_stays : (outcome : Option Outcome) (told : Outcome) → outcome ≡ Some told → AreSame sights (acted_unless b n action outcome sights)
  settled_stays outcome told is = subst (λ (o : Option Outcome). AreSame sights (acted_unless b n action o sights)) (sym is) (λ m. refl)

  -- and an unsettled one has its effect
  pub unsettled_acts : (outcome : Option Outcome) (now : Sights) → outcome ≡ None → AreSame now (acted b n action sights) →
      AreSame now (acted_unless b n action outcome sights)
  unsettled_acts outcome now is h = subst (λ (o : Option Outcome). AreSame now (acted_unless b n action o sights)) (sym is) h

module _ (b : Meaning) (at : ℕ) (queue : List Queued) (all : Sights) where
  -- once the next action had its effect, those behind it are left
  pub next_acted : (id : ℕ) (q : Queued) (old now : Sights) → id ≡ at + 1 → at < length queue → q ≡ get_or queue at q →
      AreSame now (acted_unless b id q.action q.outcome old) → AreSame (acted_all b (suc at) (drop at queue) old) all →
      AreSame (acted_all b (suc (at + 1)) (drop (at + 1) queue) now) all
  next_acted id q old now number within is step before =
      subst (λ n. AreSame (acted_all b (suc n) (drop n queue) now) all) (sym (add-one at))
      (and_then (all_alike b (suc (suc at)) (drop (suc at) queue) now (acted_unless b (suc at) q.action q.outcome old)
      (subst (λ n. AreSame now (acted_unless b n q.action q.outcome old)) (number ∙ add-one at) step))
      (subst (λ rest. AreSame (acted_all b (suc at) rest old) all)
      (drop-cons queue at q within ∙ ap (λ x. x ∷ drop (suc at) queue) (sym is)) before))

  -- and behind the last one none is left
  pub all_acted : (now : Sights) → length queue ≤ at → AreSame (acted_all b (suc at) (drop at queue) now) all → AreSame now all
  all_acted now past before = subst (λ rest. AreSame (acted_all b (suc at) rest now) all) (drop_of_length-le queue past) before
