-- What a drill answers, where its line was told or it was refused.
use Rattle.std.proofs.Common.{◌≡◌, ◌⊎◌, inl, inr, ⊎_elim, ℕ, List, Option, Some, None, sym, ◌∙◌}
use Rattle.std.specs.Prelude.{IsSome}
use Rattle.mail_base.specs.declared.status.Status.{Status}
use Rattle.mail_base.specs.declared.status.Status.TheVariants as status
use Rattle.world_mem.specs.declared.mem_world.MemWorld.{MemWorld}
use Rattle.mail_drill.specs.Drilled.{EndsBy, IsDrilled}
use Rattle.mail_drill.specs.Held.{PassesLimit}
use Rattle.mail_drill.specs.Tasks.{WritesTask}
use Rattle.mail_drill.specs.declared.task.Task.{Task}
use Rattle.mail_drill.proofs.Endings.{ends_as, ends_done, ends_limit}

-- no two of the statuses of a drill are one
not_output : status.Output ≡ status.Done → ⊥
not_output same = cc

not_limit : status.Output ≡ status.Limit → ⊥
not_limit same = cc

no_world : {P : Type 0} → (given : Option MemWorld) → given ≡ None → IsSome given → P
no_world None none there = absurd cc
no_world (Some world) none there = absurd cc

-- a drill that came to its end, and how its line was told
module _ (words : List (List ℕ)) (task : Task) (writes : WritesTask words task) (s : Status) (world : MemWorld) (text : List ℕ) (ends : EndsBy task s world text)
    (r : Status) (given : Option MemWorld) (Tells : Type 0) (Wrote : List ℕ → Type 0) (Faulted : Type 0)
    (printed : r ≡ s → (given ≡ Some world) × (Tells → Wrote text ⊎ Faulted)) (whole : Tells → r ≡ status.Done → Wrote text)
    (output : (r ≡ s) ⊎ ((r ≡ status.Output) × (given ≡ None) × (s ≡ status.Done) × Faulted)) where
  as_it_ended : (t : Status) → r ≡ t → (status.Output ≡ t → ⊥) → s ≡ t
  as_it_ended t is differs =
      ⊎_elim (λ (same : r ≡ s). sym same ∙ is)
      (λ (out : (r ≡ status.Output) × (given ≡ None) × (s ≡ status.Done) × Faulted). absurd (differs (sym out.0 ∙ is))) output

  pub told_done : r ≡ status.Done → (w : MemWorld) × (given ≡ Some w) × (t : Task) × WritesTask words t × (line : List ℕ) × IsDrilled t w line
      × (Tells → Wrote line)
  told_done is =
      let same : s ≡ status.Done = as_it_ended status.Done is not_output in
      (world, (printed (is ∙ sym same)).0, task, writes, text, ends_done task s world text same ends, λ tells. whole tells is)

  pub told_limit : r ≡ status.Limit → (w : MemWorld) × (given ≡ Some w) × (t : Task) × WritesTask words t × (line : List ℕ)
      × PassesLimit t.size t.seed w line × (Tells → Wrote line ⊎ Faulted)
  told_limit is =
      let same : s ≡ status.Limit = as_it_ended status.Limit is not_limit in
      let p = printed (is ∙ sym same) in
      (world, p.0, task, writes, text, ends_limit task s world text same ends, p.1)

  -- the status is one of three
  told_as : (r ≡ status.Done) ⊎ (r ≡ status.Output) ⊎ (r ≡ status.Limit)
  told_as =
      ⊎_elim
      (λ (same : r ≡ s).
      ⊎_elim (λ (is : s ≡ status.Done). inl (same ∙ is)) (λ (is : s ≡ status.Limit). inr (inr (same ∙ is))) (ends_as task s world text ends))
      (λ (out : (r ≡ status.Output) × (given ≡ None) × (s ≡ status.Done) × Faulted). inr (inl out.0)) output

  pub told_status : (r ≡ status.Done) ⊎ (r ≡ status.Words) ⊎ (r ≡ status.Memory) ⊎ (r ≡ status.Output) ⊎ (r ≡ status.Limit)
  told_status =
      ⊎_elim (λ (is : r ≡ status.Done). inl is)
      (λ (more : (r ≡ status.Output) ⊎ (r ≡ status.Limit)).
      ⊎_elim (λ (is : r ≡ status.Output). inr (inr (inr (inl is)))) (λ (is : r ≡ status.Limit). inr (inr (inr (inr is)))) more) told_as

  -- and no other
  pub told_never : (t : Status) → r ≡ t → (status.Done ≡ t → ⊥) → (status.Output ≡ t → ⊥) → (status.Limit ≡ t → ⊥) → ⊥
  told_never t is done out limit =
      ⊎_elim (λ (x : r ≡ status.Done). done (sym x ∙ is))
      (λ (more : (r ≡ status.Output) ⊎ (r ≡ status.Limit)).
      ⊎_elim (λ (x : r ≡ status.Output). out (sym x ∙ is)) (λ (x : r ≡ status.Limit). limit (sym x ∙ is)) more) told_as

  pub told_no_words : r ≡ status.Words → ⊥
  told_no_words is = told_never status.Words is (λ x. cc) (λ x. cc) (λ x. cc)

  pub told_no_want : r ≡ status.Memory → ⊥
  told_no_want is = told_never status.Memory is (λ x. cc) (λ x. cc) (λ x. cc)

  pub told_world : IsSome given → (r ≡ status.Done) ⊎ (r ≡ status.Limit)
  told_world there =
      ⊎_elim
      (λ (same : r ≡ s). ⊎_elim (λ (is : s ≡ status.Done). inl (same ∙ is)) (λ (is : s ≡ status.Limit). inr (same ∙ is)) (ends_as task s world text ends))
      (λ (out : (r ≡ status.Output) × (given ≡ None) × (s ≡ status.Done) × Faulted). no_world given out.1 there) output

  pub told_fault : r ≡ status.Output → Faulted
  told_fault is =
      ⊎_elim
      (λ (same : r ≡ s).
      ⊎_elim (λ (done : s ≡ status.Done). absurd (not_output (sym is ∙ same ∙ done)))
      (λ (limit : s ≡ status.Limit). absurd (not_limit (sym is ∙ same ∙ limit))) (ends_as task s world text ends))
      (λ (out : (r ≡ status.Output) × (given ≡ None) × (s ≡ status.Done) × Faulted). out.3) output
