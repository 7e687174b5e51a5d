use Rattle.std.proofs.Common.{◌≡◌, ◌++◌, List, ℕ, sym, ap, ◌∙◌, arith, length, take, take_all}
use Rattle.std.proofs.lemmas.Grind.{common_steps}
use Rattle.server_mem.proofs.Faults.{on_err}
use Rattle.server_mem.specs.States.{State}
use Rattle.world_traits.specs.LinkState.{LinkState}
use Rattle.mail_scenario.proofs.MutedServer.{heard, broken_off}
use Rattle.mail_scenario.proofs.muted_link.MutedLink.hand_over.Goals as goal

-- it stays muted, and no more is received than was told
pub invariant_of-self-in_err-extend_from_slice-in-Ok :
    goal.invariant_of-self-in_err-extend_from_slice-in-Ok
invariant_of-self-in_err-extend_from_slice-in-Ok c = (
  heard _ _ c.in-Ok.ensures.heard.0 _ c.in-Ok.ensures.heard.1 ∙ c.self.invariant.0,
  c.in-Ok.ensures.ready,
  grind (arith, common_steps),
)

pub invariant_of-self-in-Ok : goal.invariant_of-self-in-Ok
invariant_of-self-in-Ok c = (
  heard _ _ c.in-Ok.ensures.heard.0 _ c.in-Ok.ensures.heard.1 ∙ c.self.invariant.0,
  c.in-Ok.ensures.ready,
  grind (arith, common_steps),
)

pub invariant_of-self-in-Err : goal.invariant_of-self-in-Err
invariant_of-self-in-Err c = (
  ap (λ (s : State). s.muted) c.lose.ensures ∙ broken_off _ _ _ c.in-Err.ensures.broken ∙ c.self.invariant.0,
  ap (λ (s : State). s.failed) c.lose.ensures,
  c.self.invariant.2,
)

pub returns-in_err-extend_from_slice-in-Ok-clause-front :
    goal.returns-in_err-extend_from_slice-in-Ok-clause-front
returns-in_err-extend_from_slice-in-Ok-clause-front c =
    let bytes = c.args.bytes.now in
    let all : take (length bytes) bytes ≡ bytes = take_all (length bytes) bytes (omega arith) in
    on_err c.from_residual-in_err-extend_from_slice-in-Ok.result (
      length bytes,
      c.in_ok-extend_from_slice.ensures.items
          ∙ ap (λ (p : LinkState). p.sent ++ bytes) c.self.view_is
          ∙ ap (λ (l : List ℕ). c.args.self.now.sent ++ l) (sym all),
    )
