-- What has become of the message of a move or an append, case by case.
use Rattle.std.proofs.Common.{◌≡◌, ◌↔◌, ℕ, List, Option, Some, None, refl, sym, ◌∙◌, ap}
use Rattle.std.proofs.lemmas.Option.{same_Some}
use Rattle.action_queue.specs.Targets.{action_at, landed, landed_in, landed_queued, resolved}
use Rattle.action_queue.specs.declared.action.Action.{Action}
use Rattle.action_queue.specs.declared.action.Action.TheVariants as actions
use Rattle.action_queue.specs.declared.found.Found.{Found}
use Rattle.action_queue.specs.declared.found.Found.TheVariants as found
use Rattle.action_queue.specs.declared.outcome.Kind.{Kind}
use Rattle.action_queue.specs.declared.outcome.Outcome.{Outcome}
use Rattle.action_queue.specs.declared.outcome.Outcome.TheVariants as outcomes
use Rattle.action_queue.specs.declared.outcome.Place.{Place}
use Rattle.action_queue.specs.declared.queued.Queued.{Queued}
use Rattle.action_queue.specs.declared.target.Target.{Target}
use Rattle.action_queue.specs.declared.target.Target.TheVariants as targets
use Rattle.dummy_ids.specs.Makers.{HasPlace, IsMaker, IsOpen, HasFailed, HasLanded}
use Rattle.dummy_ids.specs.Places.{to_of}

-- the mailbox of a message is the one that its action names
landed_into : (n : ℕ) (action : Action) (outcome : Option Outcome) (to : List ℕ) → to_of action ≡ Some to → landed n action outcome ≡ landed_in n to outcome
landed_into n (actions.Flag target add flags) outcome to into = absurd (cc)
landed_into n (actions.Move target box) outcome to into = ap (λ b. landed_in n b outcome) (same_Some box to into)
landed_into n (actions.Append box flags text id) outcome to into = ap (λ b. landed_in n b outcome) (same_Some box to into)

module _ (n : ℕ) (box : List ℕ) where
  is_real : (to : List ℕ) (validity uid : ℕ) (outcome : Option Outcome) → landed_in n box outcome ≡ found.Real to validity uid →
      (box ≡ to) × (place : Place) × (place.validity ≡ validity) × (place.uid ≡ uid) × (outcome ≡ Some (outcomes.Done (Some place)))
  is_real to validity uid None e = absurd (cc)
  is_real to validity uid (Some (outcomes.Conflict kind)) e = absurd (cc)
  is_real to validity uid (Some (outcomes.Done None)) e = absurd (cc)
  is_real to validity uid (Some (outcomes.Done (Some place))) e = (cc, place, cc, cc, refl)

  is_not_yet : (by : ℕ) (outcome : Option Outcome) → HasPlace outcome → landed_in n box outcome ≡ found.NotYet by → (by ≡ n) × (outcome ≡ None)
  is_not_yet by None place e = (cc, refl)
  is_not_yet by (Some (outcomes.Conflict kind)) place e = absurd (cc)
  is_not_yet by (Some (outcomes.Done None)) place e = absurd place
  is_not_yet by (Some (outcomes.Done (Some at))) place e = absurd (cc)

  is_never : (by : ℕ) (outcome : Option Outcome) → landed_in n box outcome ≡ found.Never by →
      (by ≡ n) × (kind : Kind) × (outcome ≡ Some (outcomes.Conflict kind))
  is_never by None e = absurd (cc)
  is_never by (Some (outcomes.Conflict kind)) e = (cc, kind, refl)
  is_never by (Some (outcomes.Done None)) e = absurd (cc)
  is_never by (Some (outcomes.Done (Some place))) e = absurd (cc)

module _ (queue : List Queued) (target : Target) (result : Found) (n : ℕ) (value : result ≡ resolved queue target) (dummy : target ≡ targets.Dummy n) where
  by_action : (q : Queued) (to : List ℕ) → action_at queue n ≡ Some q → to_of q.action ≡ Some to → result ≡ landed_in n to q.outcome
  by_action q to is into = value ∙ ap (resolved queue) dummy ∙ ap (landed_queued n) is ∙ landed_into n q.action q.outcome to into

  -- an action of this number is the one that makes the message
  one_outcome : (m : IsMaker queue n) (q : Queued) → action_at queue n ≡ Some q → m.queued.outcome ≡ q.outcome
  one_outcome m q is = ap (λ (q : Queued). q.outcome) (same_Some m.queued q (sym m.is ∙ is))

  -- it is at a place exactly where its action has landed there
  pub landed_there : IsMaker queue n → (to : List ℕ) (validity uid : ℕ) → (result ≡ found.Real to validity uid) ↔ HasLanded queue n to validity uid
  landed_there m to validity uid = (there, back) where
    there : result ≡ found.Real to validity uid → HasLanded queue n to validity uid
    there e =
        let found_at = is_real n m.to to validity uid m.queued.outcome (sym (by_action m.queued m.to m.is m.into) ∙ e) in
        record { queued = m.queued; is = m.is; into = m.into ∙ ap Some found_at.0; place = found_at.1; under = found_at.2; at = found_at.3; done = found_at.4 }

    back : HasLanded queue n to validity uid → result ≡ found.Real to validity uid
    back h =
        by_action h.queued to h.is h.into ∙ ap (landed_in n to) h.done ∙ ap (λ v. found.Real to v h.place.uid) h.under ∙ ap (found.Real to validity) h.at

  -- it is still to come exactly where its action is unsettled
  pub still_to_come : IsMaker queue n → (by : ℕ) → (result ≡ found.NotYet by) ↔ ((by ≡ n) × IsOpen queue n)
  still_to_come m by = (there, back) where
    there : result ≡ found.NotYet by → (by ≡ n) × IsOpen queue n
    there e =
        let parts = is_not_yet n m.to by m.queued.outcome m.place (sym (by_action m.queued m.to m.is m.into) ∙ e) in
        (parts.0, record { queued = m.queued; is = m.is; unsettled = parts.1 })

    back : (by ≡ n) × IsOpen queue n → result ≡ found.NotYet by
    back h =
        by_action m.queued m.to m.is m.into ∙ ap (landed_in n m.to) (one_outcome m h.1.queued h.1.is ∙ h.1.unsettled) ∙ ap found.NotYet (sym h.0)

  -- it never comes exactly where its action ended as a conflict
  pub never_comes : IsMaker queue n → (by : ℕ) → (result ≡ found.Never by) ↔ ((by ≡ n) × HasFailed queue n)
  never_comes m by = (there, back) where
    there : result ≡ found.Never by → (by ≡ n) × HasFailed queue n
    there e =
        let parts = is_never n m.to by m.queued.outcome (sym (by_action m.queued m.to m.is m.into) ∙ e) in
        (parts.0, record { queued = m.queued; is = m.is; kind = parts.1; conflict = parts.2 })

    back : (by ≡ n) × HasFailed queue n → result ≡ found.Never by
    back h =
        by_action m.queued m.to m.is m.into ∙ ap (landed_in n m.to) (one_outcome m h.1.queued h.1.is ∙ h.1.conflict) ∙ ap found.Never (sym h.0)
