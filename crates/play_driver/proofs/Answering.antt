-- Questions of a session: the answer comes at one moment.
use Rattle.std.proofs.Common.{◌≡◌, ◌++◌, ◌⊎◌, ⊎_elim, ap, append-nil, append_assoc, false, inl, inr, ℕ, List, [], ◌∷◌, Option, None, refl, subst, sym, ◌∙◌}
use Rattle.std.proofs.lemmas.List.{append_cancel_left}
use Rattle.std.proofs.lemmas.Option.{none-some}
use Rattle.mail_base.specs.declared.tag.Tag.{Tag}
use Rattle.imap_model.specs.CarriedOut.{CarriesOut, told_in}
use Rattle.imap_model.specs.Mutating.{is_mutating}
use Rattle.imap_model.specs.Talking.{Peer, Answering}
use Rattle.imap_model.specs.Talking.Answering.{stays, others, goes_on, refuses, carries}
use Rattle.imap_model.specs.declared.command.Command.{Command}
use Rattle.imap_model.specs.declared.response.Response.{Response}
use Rattle.imap_model.specs.declared.response.Response.TheVariants as responses
use Rattle.world_traits.specs.Asking.{Asking}
use Rattle.world_traits.specs.Asking.Asking.{answers, arrives}
use Rattle.world_traits.specs.Links.{Any, LinkStep, Linked}
use Rattle.world_traits.specs.Moments.{Moment, Clock, Since, tick}
use Rattle.world_traits.proofs.Passing.{since_then, since_tick, since_start, since_weaker}
use Rattle.world_traits.proofs.Traces.{since_both}
use Rattle.imap_session.specs.Enquiring.{Enquiring}
use Rattle.imap_session.specs.Knowing.{AllGo, Tells}
use Rattle.imap_session.specs.Session.{KeepsSelection, waiting_of}
use Rattle.imap_session.proofs.Talks.{asks_enquires}
use Rattle.play_driver.specs.Exchanges.{Exchange, IsAnsweredOk}
use Rattle.play_driver.proofs.Calm.{SameSelected}
use Rattle.play_driver.proofs.KnownBeside.{Does, asking_does, go_back, go_front, not_told}
use Rattle.play_driver.proofs.KnownBeside.Does.{changes, goes, nothing, replies}
use Rattle.play_driver.proofs.KnownWalk.{walked}
use Rattle.play_driver.proofs.NotRead.{IsQuiet, answered_quiet}

-- The clock at which a question is answered, the moment behind it, and what leads to it and from it. Behind it nothing waits, where nothing
-- waited or arrived at first.
pub record AnsweredAt (selected : Option (List ℕ)) (tag : Tag) (x : Exchange) (old new : Clock) : Type 0 where
  pub at : Clock
  pub to : Moment
  pub before : Linked Enquiring old at
  pub after : Linked Enquiring at new
  pub behind : Linked Enquiring (tick at to) new
  pub selects : Option (List ℕ)
  pub keeps : KeepsSelection x.asked → selects ≡ selected
  pub carried : CarriesOut (waiting_of selected tag x.asked) at.now.outside.server x.replies to.outside.server selects
  pub told : List Response
  pub tells : Tells (waiting_of selected tag x.asked) told x.replies selects at.now.outside to.outside
  pub quiet : old.now.outside.waiting ≡ None → old.now.outside.talk.arriving ≡ None → Since Any IsQuiet (tick at to) new
  pub still : Since Any SameSelected old at
  pub chosen : old.now.outside.waiting ≡ None → old.now.outside.talk.arriving ≡ None → Since Any SameSelected (tick at to) new
  pub chosen_then : new.now.outside.talk.selected ≡ selects
  pub nothing : new.now.outside.waiting ≡ None
  pub no_part : new.now.outside.talk.arriving ≡ None

-- where nothing waits, what is selected stays
module _ (told : List Response) (tag : Tag) (command : Command) where
  answering_chosen : (p q : Peer) → Answering p q → p.waiting ≡ None → q.talk.selected ≡ p.talk.selected
  answering_chosen p q stays none = refl
  answering_chosen p q (others t batch) none = refl
  answering_chosen p q (goes_on a is unasked) none = refl
  answering_chosen p q (refuses a r is unasked refusal) none = refl
  answering_chosen p q (carries w r t after is out) none = absurd (none-some w (sym none ∙ is))

  asking_chosen : (p q : Peer) → Asking told tag command p q → p.waiting ≡ None → q.talk.selected ≡ p.talk.selected
  asking_chosen p q (answers step) none = answering_chosen p q step none
  asking_chosen p q (arrives before part [] is awaits front) none = refl
  asking_chosen p q (arrives before part (next ∷ behind) is awaits front) none = refl

  quiet_chosen : (at new : Clock) → Linked (Asking told tag command) at new → Since Any IsQuiet at new → Since Any SameSelected at new
  quiet_chosen at new linked quiet =
      since_weaker (λ m. Any m × Any m) Any (λ m n. LinkStep (Asking told tag command) m n × IsQuiet m n) SameSelected (λ m p. tt)
      (λ m n s. asking_chosen m.outside n.outside s.0.outside s.1) at new
      (since_both Any Any (LinkStep (Asking told tag command)) IsQuiet at new linked quiet)

-- Before the answer nothing else was answered: requests to go on alone were told.
module _ (told : List Response) (tag : Tag) (command : Command) (old : Clock) (as_told : old.now.outside.talk.told ≡ told) where
  record Unanswered (k : Clock) : Type 0 where
    pub asked : List Response
    pub is : k.now.outside.talk.told ≡ told ++ asked
    pub chosen : Since Any SameSelected old k

  record Answered (k : Clock) : Type 0 where
    pub asked : List Response
    pub is : k.now.outside.talk.told ≡ told ++ asked
    pub not_go : AllGo asked → ⊥

  more_told : (xs asked ys more : List Response) → xs ≡ told ++ asked → ys ≡ xs ++ more → ys ≡ told ++ (asked ++ more)
  more_told xs asked ys more is then = then ∙ ap (λ (l : List Response). l ++ more) is ∙ append_assoc told asked more

  one_more : (k : Clock) (m : Moment) → m.outside.talk.selected ≡ k.now.outside.talk.selected → Since Any SameSelected old k →
      Since Any SameSelected old (tick k m)
  one_more k m same before = since_tick Any SameSelected old k (tick k m) m before refl tt same

  answered_on : (k : Clock) (m : Moment) → Does k.now.outside m.outside → Answered k → Answered (tick k m)
  answered_on k m (nothing same is chosen) a = record { asked = a.asked; is = is ∙ a.is; not_go = a.not_go }
  answered_on k m (changes batch is chosen) a = record { asked = a.asked; is = is ∙ a.is; not_go = a.not_go }
  answered_on k m (goes same is chosen) a = record {
    asked = a.asked ++ responses.Go ∷ [];
    is = more_told k.now.outside.talk.told a.asked m.outside.talk.told (responses.Go ∷ []) a.is is;
    not_go = λ all. a.not_go (go_front a.asked (responses.Go ∷ []) all);
  }
  answered_on k m (replies mark r is quiet) a = record {
    asked = a.asked ++ told_in mark r;
    is = more_told k.now.outside.talk.told a.asked m.outside.talk.told (told_in mark r) a.is is;
    not_go = λ all. a.not_go (go_front a.asked (told_in mark r) all);
  }

  unanswered_on : (k : Clock) (m : Moment) → Does k.now.outside m.outside → Unanswered k → Unanswered (tick k m) ⊎ Answered (tick k m)
  unanswered_on k m (nothing same is chosen) u = inl (record { asked = u.asked; is = is ∙ u.is; chosen = one_more k m chosen u.chosen })
  unanswered_on k m (changes batch is chosen) u = inl (record { asked = u.asked; is = is ∙ u.is; chosen = one_more k m chosen u.chosen })
  unanswered_on k m (goes same is chosen) u =
      inl (record {
        asked = u.asked ++ responses.Go ∷ [];
        is = more_told k.now.outside.talk.told u.asked m.outside.talk.told (responses.Go ∷ []) u.is is;
        chosen = one_more k m chosen u.chosen;
      })
  unanswered_on k m (replies mark r is quiet) u =
      inr (record {
        asked = u.asked ++ told_in mark r;
        is = more_told k.now.outside.talk.told u.asked m.outside.talk.told (told_in mark r) u.is is;
        not_go = λ all. not_told mark r (go_back u.asked (told_in mark r) all);
      })

  either_on : (k : Clock) (m : Moment) → LinkStep (Asking told tag command) k.now m → Unanswered k ⊎ Answered k →
      Unanswered (tick k m) ⊎ Answered (tick k m)
  either_on k m step (inl u) = unanswered_on k m (asking_does told tag command k.now.outside m.outside step.outside) u
  either_on k m step (inr a) = inr (answered_on k m (asking_does told tag command k.now.outside m.outside step.outside) a)

  chosen_until : (at : Clock) (asked : List Response) → at.now.outside.talk.told ≡ told ++ asked → AllGo asked →
      Linked (Asking told tag command) old at → Since Any SameSelected old at
  chosen_until at asked is all linked =
      ⊎_elim (λ (u : Unanswered at). u.chosen)
      (λ (a : Answered at). absurd (a.not_go (subst AllGo (append_cancel_left told asked a.asked (sym is ∙ a.is)) all)))
      (walked (LinkStep (Asking told tag command)) (λ k. Unanswered k ⊎ Answered k) old (λ k m more step h. either_on k m step h)
      (inl (record { asked = []; is = as_told ∙ sym (append-nil told); chosen = since_start Any SameSelected old })) at linked)

pub answered_at : (selected : Option (List ℕ)) (tag : Tag) (x : Exchange) (old new : Clock) → is_mutating x.asked ≡ false →
    IsAnsweredOk selected tag x old new → AnsweredAt selected tag x old new
answered_at selected tag x old new question a =
    let told = old.now.outside.talk.told in
    let r = a.answered.became in
    let onward : Since Any (LinkStep (Asking told tag x.asked)) r.at new =
    since_then Any (LinkStep (Asking told tag x.asked)) r.at (tick r.at r.to) new
    (since_tick Any (LinkStep (Asking told tag x.asked)) r.at r.at (tick r.at r.to) r.to
    (since_start Any (LinkStep (Asking told tag x.asked)) r.at) refl r.has r.step) r.after in
    record {
      at = r.at;
      to = r.to;
      before = asks_enquires told tag x.asked question old r.at r.before;
      after = asks_enquires told tag x.asked question r.at new onward;
      behind = asks_enquires told tag x.asked question (tick r.at r.to) new r.after;
      selects = a.answered.after;
      keeps = a.answered.keeps;
      carried = r.is.is;
      told = told ++ a.answered.asked;
      tells = r.is;
      quiet = λ none no_part.
          answered_quiet tag x.asked (waiting_of selected tag x.asked) x.replies a.answered.asked old r.at new r.to none no_part r.before
          r.step.outside (r.is.waits a.accepted) r.is.before r.is.behind r.after;
      still = chosen_until told tag x.asked old refl r.at a.answered.asked r.is.before a.answered.all_go r.before;
      chosen = λ none no_part.
          quiet_chosen told tag x.asked (tick r.at r.to) new r.after
          (answered_quiet tag x.asked (waiting_of selected tag x.asked) x.replies a.answered.asked old r.at new r.to none no_part r.before
          r.step.outside (r.is.waits a.accepted) r.is.before r.is.behind r.after);
      chosen_then = a.answered.stands.selects;
      nothing = a.answered.stands.nothing;
      no_part = a.answered.stands.no_part;
    }

-- the whole time
pub answered_through : (selected : Option (List ℕ)) (tag : Tag) (x : Exchange) (old new : Clock) → AnsweredAt selected tag x old new → Linked Enquiring old new
answered_through selected tag x old new a = since_then Any (LinkStep Enquiring) old a.at new a.before a.after
