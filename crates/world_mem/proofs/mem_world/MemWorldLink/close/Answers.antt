use Rattle.std.proofs.Common.{◌≡◌, inl, inr, ℕ, true, false, take, rules, refl, sym, ◌∙◌, subst}
use Rattle.std.specs.Prelude.{is_err}
use Rattle.world_traits.specs.Counts.{counted}
use Rattle.world_mem.specs.Others.{OthersSome, changes}
use Rattle.world_mem.specs.Worlds.{course_of, refused_of, used_in}
use Rattle.world_mem.proofs.Changing.{others_done, others_some}
use Rattle.world_mem.proofs.Lines.{on_err, on_ok}
use Rattle.imap_model.specs.Talking.{Answering}
use Rattle.world_traits.specs.Links.{AnyStep, Linked}
use Rattle.world_mem.specs.Memory.{run_of}
use Rattle.world_mem.specs.Running.{Run}
use Rattle.world_mem.proofs.Answering.{any_linked}
use Rattle.world_mem.proofs.mem_world.MemWorldLink.close.Goals as goal

pub returns-then-is_err-clause-files : goal.returns-then-is_err-clause-files
returns-then-is_err-clause-files c =
    let old = run_of (course_of c.args.self.now) in
    subst (λ (r : Run). Linked AnyStep old.clock r.clock) (sym c.lose-2.ensures.run)
    (any_linked Answering old.clock (run_of c.change_all-done.new.course).clock c.change_all-done.ensures.told.told)

pub returns-else-is_err-clause-files : goal.returns-else-is_err-clause-files
returns-else-is_err-clause-files c =
    let old = run_of (course_of c.args.self.now) in
    subst (λ (r : Run). Linked AnyStep old.clock r.clock) (sym c.lose-2.ensures.run)
    (any_linked Answering old.clock (run_of c.change_all-done.new.course).clock c.change_all-done.ensures.told.told)

pub returns-then-is_err-clause-run : goal.returns-then-is_err-clause-run
returns-then-is_err-clause-run c = λ runs.
    let old = run_of (course_of c.args.self.now) in
    let used = used_in c.args.self.now in
    let new = run_of c.change_all-done.new.course in
    let failed : is_err c.change_all-done.result ≡ true = search rules in
    let some = on_err c.change_all-done.result ((n : ℕ) × (new ≡ changes (take n c.foreign.result.now) c.link-call.result used old)) failed
    c.change_all-done.ensures.some in
    let counts : c.saturating_add-self.result ≡ counted (refused_of c.args.self.now) = search rules in
    inr (
      subst (λ (r : Run). OthersSome c.next_link.new.self used old r) (sym c.lose-2.ensures.run)
          (others_some c.next_link.new.self c.foreign.result.now c.link-call.result used old new c.foreign.ensures c.link-call.ensures some),
      counts,
    )

pub returns-else-is_err-clause-run : goal.returns-else-is_err-clause-run
returns-else-is_err-clause-run c = λ runs.
    let old = run_of (course_of c.args.self.now) in
    let used = used_in c.args.self.now in
    let new = run_of c.change_all-done.new.course in
    let done : is_err c.change_all-done.result ≡ false = search rules in
    let all = on_ok c.change_all-done.result (new ≡ changes c.foreign.result.now c.link-call.result used old) done c.change_all-done.ensures.done in
    inl (
      c.lose-2.ensures.run
          ∙ others_done c.next_link.new.self c.foreign.result.now c.link-call.result used old new c.foreign.ensures c.link-call.ensures all,
      refl,
    )
