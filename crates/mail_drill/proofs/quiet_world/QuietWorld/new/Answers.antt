use Rattle.mail_drill.proofs.quiet_world.QuietWorld.new.Goals as goal

pub invariant_of-result-clause-served : goal.invariant_of-result-clause-served
invariant_of-result-clause-served c = ∣ (λ sufficed. c.requires.served) ∣₁
