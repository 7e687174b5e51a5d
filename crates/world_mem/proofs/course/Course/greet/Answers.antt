use Rattle.std.proofs.Common.{◌≡◌, ℕ, List, [], ◌∷◌, ◌++◌, reverse, sym, ◌∙◌, ap, subst}
use Rattle.std.proofs.lemmas.List.{reverse-append}
use Rattle.world_mem.specs.Image.{bytes_of}
use Rattle.world_mem.specs.Running.{Run, start}
use Rattle.world_mem.specs.Standing.{Stands}
use Rattle.world_mem.specs.Memory.{run_of}
use Rattle.world_mem.specs.declared.course.Phase.TheVariants as phases
use Rattle.world_mem.specs.declared.did.Did.{Did}
use Rattle.world_mem.specs.declared.did.Did.TheVariants as did
use Rattle.imap_model.specs.Talking.{Connecting}
use Rattle.world_traits.specs.Connected.{IsGreeted}
use Rattle.world_traits.specs.Links.{Linked}
use Rattle.world_mem.proofs.Answering.{one_greeting, greeted_now}
use Rattle.world_mem.proofs.Doing.{one_did, greeted_stands}
use Rattle.world_mem.proofs.course.Course.greet.Goals as goal

pub invariant_of-self-2 : goal.invariant_of-self-2
invariant_of-self-2 c =
    let w = c.args.self.now in
    let is : c.push_reserved.new.self.items ≡ w.log.items ++ did.Greeted ∷ [] =
    c.push_reserved.ensures.items ∙ ap (λ (l : List Did). l ++ did.Greeted ∷ []) c.reserve.ensures.items in
    record {
      stands = subst (λ (x : Run). Stands w.files c.greet.new.self phases.On w.held c.new.result 0 c.in_ok-lines.lines.items 0 x)
          (sym (one_did w.log.items c.push_reserved.new.self.items did.Greeted
          (start (bytes_of w.given) w.began.value w.began_held.value) is))
          (greeted_stands w.files w.server w.phase w.held w.parts w.unfinished w.lines.items w.received
          (run_of w) w.stands c.greet.new.self c.new.result c.in_ok-lines.lines.items
          c.in_ok-lines.ensures.begun c.new.ensures c.in_ok-lines.ensures.told);
    }

pub returns-clause-done : goal.returns-clause-done
returns-clause-done c =
    let w = c.args.self.now in
    let is : c.push_reserved.new.self.items ≡ w.log.items ++ did.Greeted ∷ [] =
    c.push_reserved.ensures.items ∙ ap (λ (l : List Did). l ++ did.Greeted ∷ []) c.reserve.ensures.items in
    one_did w.log.items c.push_reserved.new.self.items did.Greeted (start (bytes_of w.given) w.began.value w.began_held.value) is

pub returns-clause-told : goal.returns-clause-told
returns-clause-told c =
    let w = c.args.self.now in
    let is : c.push_reserved.new.self.items ≡ w.log.items ++ did.Greeted ∷ [] =
    c.push_reserved.ensures.items ∙ ap (λ (l : List Did). l ++ did.Greeted ∷ []) c.reserve.ensures.items in
    subst (λ (x : Run). Linked Connecting (run_of w).clock x.clock)
    (sym (one_did w.log.items c.push_reserved.new.self.items did.Greeted
    (start (bytes_of w.given) w.began.value w.began_held.value) is)) (one_greeting (run_of w))

pub returns-clause-greets : goal.returns-clause-greets
returns-clause-greets c =
    let w = c.args.self.now in
    let is : c.push_reserved.new.self.items ≡ w.log.items ++ did.Greeted ∷ [] =
    c.push_reserved.ensures.items ∙ ap (λ (l : List Did). l ++ did.Greeted ∷ []) c.reserve.ensures.items in
    subst (λ (x : Run). IsGreeted x.clock.now.outside) (sym (one_did w.log.items c.push_reserved.new.self.items did.Greeted
    (start (bytes_of w.given) w.began.value w.began_held.value) is)) (greeted_now (run_of w))

pub returns-clause-earlier : goal.returns-clause-earlier
returns-clause-earlier c =
    let w = c.args.self.now in
    let sent : c.of.result ≡ w.sent.items = c.of.ensures ∙ ap (λ v. v.items) c.replace-sent.ensures.value in
    ap reverse (c.push_reserved-2.ensures.items ∙ ap (λ (l : List (List ℕ)). l ++ c.of.result ∷ []) c.reserve-2.ensures.items)
    ∙ reverse-append w.earlier.items (c.of.result ∷ [])
    ∙ ap (λ (b : List ℕ). b ∷ reverse w.earlier.items) sent
