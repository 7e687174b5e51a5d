-- How a server with its connection goes on while a command is sent and answered.
use Rattle.std.proofs.Common.{◌≡◌, ◌⊎◌, inl, inr, ℕ, true, false, List, [], ◌∷◌, ◌++◌, Option, Some, None, refl, sym, ◌∙◌, ap, subst}
use Rattle.std.proofs.lemmas.Option.{none-some, same_Some}
use Rattle.mail_base.specs.declared.tag.Tag.{Tag}
use Rattle.imap_model.specs.CarriedOut.{CarriesOut, told_in}
use Rattle.imap_model.specs.Carrying.{Waiting}
use Rattle.imap_model.specs.Talking.{Peer, Talk, Arriving, Answering, Unanswered, Awaits, IsPartOf, arrived}
use Rattle.imap_model.specs.Talking.Answering.{stays, others, goes_on, refuses, carries}
use Rattle.imap_model.specs.declared.command.Command.{Command}
use Rattle.imap_model.specs.declared.replies.Replies.{Replies}
use Rattle.imap_model.specs.declared.response.Response.{Response}
use Rattle.imap_model.specs.declared.response.Response.TheVariants as responses
use Rattle.world_traits.specs.Asking.{Asking}
use Rattle.world_traits.specs.Asking.Asking.{answers, arrives}
use Rattle.world_traits.specs.Links.{LinkStep, Linked, Any, becomes}
use Rattle.world_traits.specs.Moments.{Moment, Clock, tick, Since, Became}
use Rattle.world_traits.specs.Sends.{Arrives}
use Rattle.world_traits.proofs.Passing.{since_start, since_tick, since_then, since_weaker}
use Rattle.world_traits.proofs.Keeping.{since_now, since_clock}
use Rattle.imap_session.specs.Knowing.{Whole, Partly, Finished, Went, Tells, Denies}

pub linked_start : (S : Peer → Peer → Type 0) (k : Clock) → Linked S k k
linked_start S k = since_start Any (LinkStep S) k

pub linked_then : (S : Peer → Peer → Type 0) (k l m : Clock) → Linked S k l → Linked S l m → Linked S k m
linked_then S k l m a b = since_then Any (LinkStep S) k l m a b

-- B holds until some step has R and leads to A, which then stays.
module _ (D : Type 0) (B : Peer → Type 0) (A : D → Peer → Type 0) (R : D → Peer → Peer → Type 0)
    (go : (o p : Peer) → Answering o p → B o → B p ⊎ ((d : D) × A d p × R d o p)) (stay : (d : D) (o p : Peer) → Answering o p → A d o → A d p)
    (a : Clock) (start : B a.now.outside) where
  abbrev S : Moment → Moment → Type 0
  S = LinkStep Answering

  abbrev pub Reached : Clock → Type 0
  Reached k = B k.now.outside ⊎ ((d : D) × A d k.now.outside × Became Any S (λ m n. R d m.outside n.outside) a k)

  one : (k : Clock) (n : Moment) → LinkStep Answering k.now n → Since Any S a k → B k.now.outside
      → B n.outside ⊎ ((d : D) × A d n.outside × R d k.now.outside n.outside) → Reached (tick k n)
  one k n step since b (inl c) = inl c
  one k n step since b (inr f) = inr
      (f.0, f.1, record { at = k; to = n; before = since; has = tt; step = step; after = since_start Any S (tick k n); is = f.2 })

  more : (k : Clock) (n : Moment) → LinkStep Answering k.now n → Since Any S a k → Reached k → Reached (tick k n)
  more k n step since (inl b) = one k n step since b (go k.now.outside n.outside step.outside b)
  more k n step since (inr f) = inr (
    f.0,
    stay f.0 k.now.outside n.outside step.outside f.1,
    record {
      at = f.2.at;
      to = f.2.to;
      before = f.2.before;
      has = tt;
      step = f.2.step;
      after = since_tick Any S (tick f.2.at f.2.to) k
          (tick k n) n f.2.after refl tt step;
      is = f.2.is;
    },
  )

  pub reached : (k : Clock) → Linked Answering a k → Reached k
  reached k since =
      (since_clock Any S (λ (j : Clock). Since Any S a j × Reached j)
      (λ j n any step q. (since_tick Any S a j (tick j n) n q.0 refl tt step, more j n step q.0 q.1)) a (since_start Any S a, inl start) k since).1

-- where nothing waits and no part is unanswered, the talk stays
pub idle_step : (o p : Peer) → Answering o p → o.waiting ≡ None → ¬ (Unanswered o) → (p.waiting ≡ None) × (p.talk ≡ o.talk)
idle_step o p stays w u = (w, refl)
idle_step o p (others t batch) w u = (w, refl)
idle_step o p (goes_on a is unasked) w u = absurd (u (a, is, unasked))
idle_step o p (refuses a r is unasked refusal) w u = absurd (u (a, is, unasked))
idle_step o p (carries v r t after is out) w u = absurd (none-some v (sym w ∙ is))

pub no_part_answered : (o : Peer) → o.talk.arriving ≡ None → ¬ (Unanswered o)
no_part_answered o none u = none-some u.0 (sym none ∙ u.1)

-- a whole command waits until it is answered
pub whole_step : (w : Waiting) (told : List Response) (o p : Peer) → Answering o p → Whole w told o
    → Whole w told p ⊎ ((d : Replies × Option (List ℕ)) × Finished (told ++ told_in w.tag d.0) d.1 p × Tells w told d.0 d.1 o p)
whole_step w told o p stays b = inl b
whole_step w told o p (others t batch) b = inl (record { waits = b.waits; no_part = b.no_part; before = b.before })
whole_step w told o p (goes_on a is unasked) b = absurd (none-some a (sym b.no_part ∙ is))
whole_step w told o p (refuses a r is unasked refusal) b = absurd (none-some a (sym b.no_part ∙ is))
whole_step w told o p (carries v r t after is out) b =
    let same : v ≡ w = same_Some v w (sym is ∙ b.waits) in
    let tells : o.talk.told ++ told_in v.tag r ≡ told ++ told_in w.tag r = ap (λ (x : List Response). x ++ told_in v.tag r) b.before
    ∙ ap (λ (x : Waiting). told ++ told_in x.tag r) same in
    inr (
      (r, after),
      record { nothing = refl; no_part = b.no_part; selects = refl; all = tells },
      record {
        is = subst (λ (x : Waiting). CarriesOut x o.server r t after) same out;
        waits = λ ok. b.waits;
        before = b.before;
        behind = tells;
      },
    )

pub finished_step : (told : List Response) (selected : Option (List ℕ)) (o p : Peer) → Answering o p → Finished told selected o
    → Finished told selected p
finished_step told selected o p step h =
    let i = idle_step o p step h.nothing (no_part_answered o h.no_part) in
    record {
      nothing = i.0;
      no_part = ap (λ (t : Talk). t.arriving) i.1 ∙ h.no_part;
      selects = ap (λ (t : Talk). t.selected) i.1
          ∙ h.selects;
      all = ap (λ (t : Talk). t.told) i.1 ∙ h.all;
    }

-- asked to go on (None), or refused so
abbrev pub AfterPart : Arriving → Option (List ℕ) → List Response → Option Replies → Peer → Type 0
AfterPart a selected told None p = Went a selected told p
AfterPart a selected told (Some r) p = Finished (told ++ told_in a.tag r) selected p

abbrev pub Replied : Arriving → Option (List ℕ) → List Response → Option Replies → Peer → Peer → Type 0
Replied a selected told None p q = Unit {0}
Replied a selected told (Some r) p q = Denies a.tag told selected r p q

pub part_step : (a : Arriving) (selected : Option (List ℕ)) (told : List Response) (o p : Peer) → Answering o p → Partly a selected told o
    → Partly a selected told p ⊎ ((d : Option Replies) × AfterPart a selected told d p × Replied a selected told d o p)
part_step a selected told o p stays h = inl h
part_step a selected told o p (others t batch) h = inl
    (record { nothing = h.nothing; part = h.part; unasked = h.unasked; selects = h.selects; before = h.before })
part_step a selected told o p (goes_on v is unasked) h =
    let same : v ≡ a = same_Some v a (sym is ∙ h.part) in
    inr (
      None,
      record {
        nothing = h.nothing;
        part = ap (λ (x : Arriving). Some (record x { asked = true })) same;
        selects = h.selects;
        all = ap (λ (t : List Response). t ++ responses.Go ∷ []) h.before;
      },
      tt,
    )
part_step a selected told o p (refuses v r is unasked refusal) h =
    let same : v ≡ a = same_Some v a (sym is ∙ h.part) in
    let tells : o.talk.told ++ told_in v.tag r ≡ told ++ told_in a.tag r = ap (λ (t : List Response). t ++ told_in v.tag r) h.before
    ∙ ap (λ (x : Arriving). told ++ told_in x.tag r) same in
    inr (
      Some r,
      record { nothing = h.nothing; no_part = refl; selects = h.selects; all = tells },
      record { server = refl; selects = h.selects; refusal = refusal; before = h.before; behind = tells },
    )
part_step a selected told o p (carries v r t after is out) h = absurd (none-some v (sym h.nothing ∙ is))

pub asked_answered : (a : Arriving) (o : Peer) → o.talk.arriving ≡ Some (record a { asked = true }) → ¬ (Unanswered o)
asked_answered a o is u =
    let same : record a { asked = true } ≡ u.0 = same_Some (record a { asked = true }) u.0 (sym is ∙ u.1) in
    let not : true ≡ false = ap (λ (x : Arriving). x.asked) same ∙ u.2 in
    cc

pub after_part_step : (a : Arriving) (selected : Option (List ℕ)) (told : List Response) (d : Option Replies) (o p : Peer) → Answering o p
    → AfterPart a selected told d o → AfterPart a selected told d p
after_part_step a selected told None o p step h =
    let i = idle_step o p step h.nothing (asked_answered a o h.part) in
    record {
      nothing = i.0;
      part = ap (λ (t : Talk). t.arriving) i.1 ∙ h.part;
      selects = ap (λ (t : Talk). t.selected) i.1
          ∙ h.selects;
      all = ap (λ (t : Talk). t.told) i.1 ∙ h.all;
    }
after_part_step a selected told (Some r) o p step h = finished_step (told ++ told_in a.tag r) selected o p step h

-- While the next part of a text is awaited, others alone do something.
abbrev Quiet : Moment → Moment → Type 0
Quiet m n = (n.outside.waiting ≡ None) × (n.outside.talk ≡ m.outside.talk)

pub quiet : (k l : Clock) → k.now.outside.waiting ≡ None → ¬ (Unanswered k.now.outside) → Linked Answering k l → (l.now.outside.waiting ≡ None)
    × (l.now.outside.talk ≡ k.now.outside.talk)
quiet k l w u s =
    since_now Any (Quiet k.now) (LinkStep Answering)
    (λ m n any step q.
    let i = idle_step m.outside n.outside step.outside q.0 (λ v. u (v.0, sym (ap (λ (t : Talk). t.arriving) q.1) ∙ v.1, v.2)) in
    (i.0, i.1 ∙ q.1)) k (w, refl) l s

awaited : (tag : Tag) (before : List (List ℕ)) (o : Peer) → Awaits tag before o → (o.waiting ≡ None) × ¬ (Unanswered o)
awaited tag [] o h = (h.0, no_part_answered o h.1)
awaited tag (part ∷ parts) o h = (h.0, asked_answered (record { tag = tag; parts = part ∷ parts; asked = true }) o h.1)

same_awaits : (tag : Tag) (before : List (List ℕ)) (o p : Peer) → p.waiting ≡ None → p.talk ≡ o.talk → Awaits tag before o → Awaits tag before p
same_awaits tag [] o p w t h = (w, ap (λ (x : Talk). x.arriving) t ∙ h.1)
same_awaits tag (part ∷ parts) o p w t h = (w, ap (λ (x : Talk). x.arriving) t ∙ h.1)

-- what is awaited stays awaited, and the talk stays
pub awaits_on : (tag : Tag) (before : List (List ℕ)) (k l : Clock) → Awaits tag before k.now.outside → Linked Answering k l
    → Awaits tag before l.now.outside × (l.now.outside.talk ≡ k.now.outside.talk)
awaits_on tag before k l h s =
    let a = awaited tag before k.now.outside h in
    let q = quiet k l a.0 a.1 s in
    (same_awaits tag before k.now.outside l.now.outside q.0 q.1 h, q.1)

module _ (told : List Response) (tag : Tag) (command : Command) where
  pub answers_asking : (k l : Clock) → Linked Answering k l → Linked (Asking told tag command) k l
  answers_asking k l s = since_weaker Any Any (LinkStep Answering) (LinkStep (Asking told tag command)) (λ m any. any)
      (λ m n step. record { left = step.left; right = step.right; outside = answers step.outside }) k l s

  pub asking_then : (k l m : Clock) → Linked (Asking told tag command) k l → Linked (Asking told tag command) l m
      → Linked (Asking told tag command) k m
  asking_then k l m a b = since_then Any (LinkStep (Asking told tag command)) k l m a b

  pub arrives_at : (before : List (List ℕ)) (bytes : List ℕ) (behind : List (List ℕ)) (k l : Clock) → IsPartOf tag command before bytes behind
      → Awaits tag before k.now.outside → (before ≡ [] → k.now.outside.talk.told ≡ told) → (r : Arrives tag command before bytes behind k l)
      → Linked (Asking told tag command) k (becomes (arrived tag command before bytes behind) r.at)
  arrives_at before bytes behind k l part awaits begins r =
      since_tick Any (LinkStep (Asking told tag command)) k r.at (becomes (arrived tag command before bytes behind) r.at)
      (record r.at.now { outside = arrived tag command before bytes behind r.at.now.outside })
      (answers_asking k r.at r.first) refl tt
      (record {
        left = refl;
        right = refl;
        outside = arrives before bytes behind part (awaits_on tag before k r.at awaits r.first).0
            (λ nil. ap (λ (x : Talk). x.told) (awaits_on tag before k r.at awaits r.first).1 ∙ begins nil);
      })

  pub arrives_asking : (before : List (List ℕ)) (bytes : List ℕ) (behind : List (List ℕ)) (k l : Clock) → IsPartOf tag command before bytes behind
      → Awaits tag before k.now.outside → (before ≡ [] → k.now.outside.talk.told ≡ told) → Arrives tag command before bytes behind k l
      → Linked (Asking told tag command) k l
  arrives_asking before bytes behind k l part awaits begins r = asking_then k (becomes (arrived tag command before bytes behind) r.at) l
      (arrives_at before bytes behind k l part awaits begins r) (answers_asking (becomes (arrived tag command before bytes behind) r.at) l r.later)

  pub failed_asking : (before : List (List ℕ)) (bytes : List ℕ) (behind : List (List ℕ)) (k l : Clock) → IsPartOf tag command before bytes behind
      → Awaits tag before k.now.outside → (before ≡ [] → k.now.outside.talk.told ≡ told) → Arrives tag command before bytes behind k l
      ⊎ Linked Answering k l → Linked (Asking told tag command) k l
  failed_asking before bytes behind k l part awaits begins (inl r) = arrives_asking before bytes behind k l part awaits begins r
  failed_asking before bytes behind k l part awaits begins (inr s) = answers_asking k l s

  became_asking : (R : Moment → Moment → Type 0) (k l : Clock) → Became Any (LinkStep Answering) R k l
      → Became Any (LinkStep (Asking told tag command)) R k l
  became_asking R k l
      b = record {
        at = b.at;
        to = b.to;
        before = answers_asking k b.at b.before;
        has = tt;
        step = record { left = b.step.left; right = b.step.right; outside = answers b.step.outside };
        after = answers_asking (tick b.at b.to) l b.after;
        is = b.is;
      }

  pub became_later : (R : Moment → Moment → Type 0) (k l m : Clock) → Linked (Asking told tag command) k l → Became Any (LinkStep Answering) R l m
      → Became Any (LinkStep (Asking told tag command)) R k m
  became_later R k l m first b = let c = became_asking R l m b in
      record { at = c.at; to = c.to; before = asking_then k l c.at first c.before; has = tt; step = c.step; after = c.after; is = c.is }

pub became_weaker : (P : Moment → Type 0) (S R T : Moment → Moment → Type 0) → ((m n : Moment) → R m n → T m n) → (k l : Clock) → Became P S R k l
    → Became P S T k l
became_weaker P S R T rt k l
    b = record { at = b.at; to = b.to; before = b.before; has = b.has; step = b.step; after = b.after; is = rt b.at.now b.to b.is }
