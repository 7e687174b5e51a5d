-- A world after a stop has the server as it was.
use Rattle.std.proofs.Common.{◌≡◌, ℕ, List, Option, Some, None, refl, ◌∙◌, ap}
use Rattle.std.proofs.Math.Logic.{∥∥₁_elim}
use Rattle.server_mem.specs.States.{State, disconnected}
use Rattle.world_traits.specs.Files.{Files}
use Rattle.world_mem.specs.Both.{Both}
use Rattle.world_mem.specs.Restarting.{left_of, goes_on_from}
use Rattle.world_mem.specs.Running.{Run, start}
use Rattle.world_mem.specs.Standing.{Stands, held_in, IsComplete}
use Rattle.world_mem.specs.declared.course.Phase.{Phase}
use Rattle.world_mem.specs.declared.course.Phase.TheVariants as phases
use Rattle.world_mem.specs.declared.did.Held.{Held}
use Rattle.world_mem.proofs.Doing.{cut_same, waiting_whole}
use Rattle.world_mem.proofs.Hearing.{phase_stands}

none_in : (phase : Phase) (held other : Option Held) → (phase ≡ phases.Waiting → ⊥) → held_in phase held ≡ other → None ≡ other
none_in phases.Off held other not_waiting is = is
none_in phases.On held other not_waiting is = is
none_in phases.Hearing held other not_waiting is = is
none_in phases.Waiting held other not_waiting is = absurd (not_waiting refl)

module _ (given : Files) (files : Both) (server : State) (phase : Phase) (held : Option Held) (parts : List (List ℕ)) (unfinished : ℕ)
    (lines : List ℕ) (received : ℕ) (r : Run) (h : Stands files server phase held parts unfinished lines received r) where
  -- a command waits
  module _ (waits : phase ≡ phases.Waiting) where
    now : Stands files server phases.Waiting held parts unfinished lines received r
    now = phase_stands files server phase phases.Waiting held parts unfinished lines received r h waits

    pub same_held : held ≡ r.held
    same_held = now.held_is

    kept : (x : Option Held) → ∥ IsComplete x r.state.parts ∥₁ → server ≡ left_of x r.state
    kept None whole = absurd (∥∥₁_elim whole (hlevel) (λ nothing. nothing))
    kept (Some x) whole = ap (λ (b : List ℕ). record server { begun = b })
        (waiting_whole files server phase held parts unfinished lines received r h waits) ∙ now.server_is

    pub waits_on : start given server held ≡ goes_on_from given r
    waits_on =
        ap (λ (s : State). start given s held) (kept held now.whole)
        ∙ ap (λ (x : Option Held). start given (left_of x r.state) x) same_held

  -- none does
  module _ (not_waiting : phase ≡ phases.Waiting → ⊥) where
    pub no_held : None ≡ r.held
    no_held = none_in phase held r.held not_waiting h.held_is

    pub without : (u : State) → u ≡ disconnected server → start given u None ≡ goes_on_from given r
    without u is =
        ap (λ (s : State). start given s None) (is ∙ cut_same phase server r.state h.server_is)
        ∙ ap (λ (x : Option Held). start given (left_of x r.state) x) no_held
