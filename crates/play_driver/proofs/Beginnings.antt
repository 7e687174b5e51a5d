-- What begins a run: a journal is opened, or a book is begun. Each moment is joined to the one before it.
use Rattle.std.proofs.Common.{◌≡◌, ◌⊎◌, inl, inr, Bool, None, sym, ◌∙◌, refl, subst}
use Rattle.imap_model.specs.Talking.{Peer}
use Rattle.world_traits.specs.Links.{Any}
use Rattle.world_traits.specs.Moments.{Moment, Clock, Since}
use Rattle.world_traits.proofs.Passing.{since_then, since_weaker}
use Rattle.world_traits.proofs.Traces.{carried_now}
use Rattle.journal_core.specs.declared.version.Version.{Version}
use Rattle.store_core.specs.Keeping.{Keeping}
use Rattle.store_core.specs.Steps.{Books, Chooses}
use Rattle.store_core.specs.Taking.{ChoosesStep, BeginsBehind}
use Rattle.play_driver.specs.States.{state_of}
use Rattle.play_driver.specs.Machine.{Machine, Step}
use Rattle.play_driver.specs.Machine.Step.{rests, chooses}
use Rattle.play_driver.specs.Joining.{Joined}
use Rattle.play_driver.proofs.Files.{takes_joins}

module _ (K : Keeping) (M : Machine K) where
  -- a step of the books alone
  abbrev Here : Moment → Books K → Books K → Type 0
  Here m x y = Step K M (state_of K x m.outside) (state_of K y m.outside)

  step_here : (m : Moment) (x y : Books K) → ((y ≡ x) ⊎ ((first : Bool) × Chooses K first x y)) → Here m x y
  step_here m x y (inl same) = subst (Here m x) (sym same) rests
  step_here m x y (inr c) = subst (Here m x) (sym c.1.becomes) (chooses c.0 c.1.before c.1.later c.1.begun)

  -- a step of an opening
  pub chooses_joined : (m n : Moment) → ChoosesStep K m n → Joined K M m n
  chooses_joined m n s = record {
    old = s.old;
    new = s.new;
    at_old = s.at_old;
    at_new = s.at_new;
    step = subst (λ (p : Peer). Step K M (state_of K s.old m.outside) (state_of K s.new p)) (sym s.outside) (step_here m s.old s.new s.step);
  }

  pub chooses_joins : (old new : Clock) → Since Any (ChoosesStep K) old new → Since Any (Joined K M) old new
  chooses_joins old new s = since_weaker Any Any (ChoosesStep K) (Joined K M) (λ m p. p) (λ m n c. chooses_joined m n c) old new s

  pub chooses_outside : (old new : Clock) → Since Any (ChoosesStep K) old new → new.now.outside ≡ old.now.outside
  chooses_outside old new s =
      carried_now Any (λ m. m.outside ≡ old.now.outside) (ChoosesStep K) (λ m n any c same. c.outside ∙ same) old refl new s

  -- a book is begun
  pub begins_joins : (version : Version) (e : K.Event) → K.MayCome version None e → (old new : Clock) →
      M.Permits None e old.now.outside.server old.now.outside.waiting → BeginsBehind K e old new → Since Any (Joined K M) old new
  begins_joins version e may old new permits b =
      let there = subst (λ (p : Peer). M.Permits None e p.server p.waiting) (sym (chooses_outside old b.at b.chooses)) permits in
      since_then Any (Joined K M) old b.at new (chooses_joins old b.at b.chooses) (takes_joins K M version None e may b.at there new b.takes)
