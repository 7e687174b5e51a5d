-- What is selected stays selected while a command's text arrives.
use Rattle.std.proofs.Common.{◌≡◌, ◌⊎◌, ◌∙◌, ◌<◌, ◌≤◌, inl, inr, true, false, ℕ, List, [], ◌∷◌, ◌++◌, Option, Some, None, ap, arith, length, length-append, refl, sym}
use Rattle.std.proofs.lemmas.Option.{none-some}
use Rattle.mail_base.specs.declared.tag.Tag.{Tag}
use Rattle.imap_model.specs.CarriedOut.{told_in}
use Rattle.imap_model.specs.Carrying.{Waiting}
use Rattle.imap_model.specs.Talking.{Peer, Talk, Arriving, Answering, Awaits, arrived}
use Rattle.imap_model.specs.Talking.Answering.{stays, others, goes_on, refuses, carries}
use Rattle.imap_model.specs.declared.command.Command.{Command}
use Rattle.imap_model.specs.declared.replies.Replies.{Replies}
use Rattle.imap_model.specs.declared.response.Response.{Response}
use Rattle.imap_model.specs.declared.response.Response.TheVariants as responses
use Rattle.world_traits.specs.Asking.{Asking}
use Rattle.world_traits.specs.Asking.Asking.{answers, arrives}
use Rattle.world_traits.specs.Links.{LinkStep, Linked, Any}
use Rattle.world_traits.specs.Moments.{Clock, tick}
use Rattle.world_traits.proofs.Keeping.{since_clock}
use Rattle.world_traits.proofs.Passing.{since_start, since_tick}
use Rattle.imap_session.specs.Enquiring.{AsksUnder}
use Rattle.imap_session.specs.Enquiring.AsksUnder.{answers as answers_under, arrives as arrives_under}
use Rattle.imap_session.proofs.Talking.{idle_step, no_part_answered}

longer : (told all more : List Response) → length told ≤ length all → length told ≤ length (all ++ more)
longer told all more long = omega (arith, long, length-append all more)

longer_answer : (told all : List Response) (tag : Tag) (r : Replies) → length told ≤ length all → length told < length (all ++ told_in tag r)
longer_answer told all tag r long =
    omega (arith, long, length-append all (told_in tag r), length-append r.untagged (responses.Done tag r.ending r.code ∷ []))

-- how far a command is that was begun at rest: not yet begun; its text arrives; it waits; it was answered
module _ (selected : Option (List ℕ)) (told : List Response) where
  abbrev AtRest : Peer → Type 0
  AtRest p = (p.waiting ≡ None) × (p.talk.arriving ≡ None) × (p.talk.selected ≡ selected) × (p.talk.told ≡ told)

  abbrev OnWay : Peer → Type 0
  OnWay p = (a : Arriving) × (p.waiting ≡ None) × (p.talk.arriving ≡ Some a) × (p.talk.selected ≡ selected) × (length told ≤ length p.talk.told)

  abbrev Waits : Peer → Type 0
  Waits p = (w : Waiting) × (p.waiting ≡ Some w) × (p.talk.arriving ≡ None) × (length told ≤ length p.talk.told)

  abbrev IsOver : Peer → Type 0
  IsOver p = (p.waiting ≡ None) × (p.talk.arriving ≡ None) × (length told < length p.talk.told)

  abbrev Stage : Peer → Type 0
  Stage p = AtRest p ⊎ (OnWay p ⊎ (Waits p ⊎ IsOver p))

  on_way : (p q : Peer) → Answering p q → OnWay p → Stage q
  on_way p q stays h = inr (inl h)
  on_way p q (others t batch) h = inr (inl h)
  on_way p q (goes_on a is unasked) h =
      inr (inl (record a { asked = true }, h.1, refl, h.3, longer told p.talk.told (responses.Go ∷ []) h.4))
  on_way p q (refuses a r is unasked refusal) h = inr (inr (inr (h.1, refl, longer_answer told p.talk.told a.tag r h.4)))
  on_way p q (carries w r t after is out) h = absurd (none-some w (sym h.1 ∙ is))

  waits_on : (p q : Peer) → Answering p q → Waits p → Stage q
  waits_on p q stays h = inr (inr (inl h))
  waits_on p q (others t batch) h = inr (inr (inl h))
  waits_on p q (goes_on a is unasked) h = absurd (none-some a (sym h.2 ∙ is))
  waits_on p q (refuses a r is unasked refusal) h = absurd (none-some a (sym h.2 ∙ is))
  waits_on p q (carries w r t after is out) h = inr (inr (inr (refl, h.2, longer_answer told p.talk.told w.tag r h.3)))

  answer_on : (p q : Peer) → Answering p q → Stage p → Stage q
  answer_on p q step (inl h) =
      let i = idle_step p q step h.0 (no_part_answered p h.1) in
      inl (i.0, ap (λ (t : Talk). t.arriving) i.1 ∙ h.1, ap (λ (t : Talk). t.selected) i.1 ∙ h.2, ap (λ (t : Talk). t.told) i.1 ∙ h.3)
  answer_on p q step (inr (inl h)) = on_way p q step h
  answer_on p q step (inr (inr (inl h))) = waits_on p q step h
  answer_on p q step (inr (inr (inr h))) =
      let i = idle_step p q step h.0 (no_part_answered p h.1) in
      let same : length q.talk.told ≡ length p.talk.told = ap (λ (t : Talk). length t.told) i.1 in
      inr (inr (inr (i.0, ap (λ (t : Talk). t.arriving) i.1 ∙ h.1, omega (arith, same, h.2))))

  -- a part arrives
  module _ (tag : Tag) (command : Command) where
    begins : (p : Peer) → Stage p → (p.waiting ≡ None) → (p.talk.arriving ≡ None) → p.talk.told ≡ told → p.talk.selected ≡ selected
    begins p (inl h) none nothing at = h.2
    begins p (inr (inl h)) none nothing at = absurd (none-some h.0 (sym nothing ∙ h.2))
    begins p (inr (inr (inl h))) none nothing at = absurd (none-some h.0 (sym none ∙ h.1))
    begins p (inr (inr (inr h))) none nothing at =
        let same : length p.talk.told ≡ length told = ap (λ (t : List Response). length t) at in absurd (omega (arith, same, h.2))

    goes : (p : Peer) (a : Arriving) → Stage p → p.waiting ≡ None → p.talk.arriving ≡ Some a
        → (p.talk.selected ≡ selected) × (length told ≤ length p.talk.told)
    goes p a (inl h) none is = absurd (none-some a (sym h.1 ∙ is))
    goes p a (inr (inl h)) none is = (h.3, h.4)
    goes p a (inr (inr (inl h))) none is = absurd (none-some h.0 (sym none ∙ h.1))
    goes p a (inr (inr (inr h))) none is = absurd (none-some a (sym h.1 ∙ is))

    under : (before : List (List ℕ)) (p : Peer) → Stage p → Awaits tag before p → (before ≡ [] → p.talk.told ≡ told)
        → (p.waiting ≡ None) × (p.talk.selected ≡ selected) × (length told ≤ length p.talk.told)
    under [] p h awaits first =
        let same : length p.talk.told ≡ length told = ap (λ (t : List Response). length t) (first refl) in
        let long : length told ≤ length p.talk.told = omega (arith, same) in
        (awaits.0, begins p h awaits.0 awaits.1 (first refl), long)
    under (part ∷ parts) p h awaits first = let g = goes p _ h awaits.0 awaits.1 in (awaits.0, g.0, g.1)

    arrived_on : (before : List (List ℕ)) (part : List ℕ) (behind : List (List ℕ)) (p : Peer)
        → (p.waiting ≡ None) × (p.talk.selected ≡ selected) × (length told ≤ length p.talk.told)
        → Stage (arrived tag command before part behind p)
    arrived_on before part [] p u =
        inr (inr (inl (record { selected = p.talk.selected; tag = tag; command = command }, refl, refl, u.2)))
    arrived_on before part (next ∷ behind) p u =
        inr (inl (record { tag = tag; parts = before ++ part ∷ []; asked = false }, u.0, refl, u.1, u.2))

    asks_on : (p q : Peer) → Asking told tag command p q → Stage p → AsksUnder selected told tag command p q × Stage q
    asks_on p q (answers step) h = (answers_under step, answer_on p q step h)
    asks_on p q (arrives before part behind is awaits first) h =
        let u = under before p h awaits first in
        (arrives_under before part behind is awaits first u.1, arrived_on before part behind p u)

-- a call that asks begins at rest
pub asks_under : (selected : Option (List ℕ)) (tag : Tag) (command : Command) (old new : Clock) → old.now.outside.waiting ≡ None
    → old.now.outside.talk.arriving ≡ None → old.now.outside.talk.selected ≡ selected
    → Linked (Asking old.now.outside.talk.told tag command) old new → Linked (AsksUnder selected old.now.outside.talk.told tag command) old new
asks_under selected tag command old new none nothing selects linked =
    let told = old.now.outside.talk.told in
    let Under : Clock → Type 0 = λ j. Linked (AsksUnder selected told tag command) old j × Stage selected told j.now.outside in
    (since_clock Any (LinkStep (Asking told tag command)) Under
    (λ j n any step q.
    let one = asks_on selected told tag command j.now.outside n.outside step.outside q.1 in (
      since_tick Any (LinkStep (AsksUnder selected told tag command)) old j (tick j n) n q.0 refl tt
          (record { left = step.left; right = step.right; outside = one.0 }),
      one.1,
    ))
    old (since_start Any (LinkStep (AsksUnder selected told tag command)) old, inl (none, nothing, selects, refl)) new linked).0
