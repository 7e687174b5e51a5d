use Rattle.std.proofs.Common.{rules, ◌≡◌, subst, List, ℕ}
use Rattle.std.specs.Prelude.{IfOk}
use Rattle.server_mem.specs.Answered.{bad_of}
use Rattle.server_mem.specs.Hearing.{IsBad}
use Rattle.server_mem.specs.Texts.{bad_text}
use Rattle.server_mem.proofs.mem_server.MemServer.bad_now.Goals as goal

pub returns-clause-tag : goal.returns-clause-tag
returns-clause-tag c =
    let same : c.as_slice.result.now ≡ c.args.self.now.parts = search rules in
    subst (λ (parts : List (List ℕ)). IfOk c.bad_of.result (λ bad. IsBad parts (bad_of bad.tag))) same c.bad_of.ensures.tag

pub returns-clause-text : goal.returns-clause-text
returns-clause-text c =
    let same : c.as_slice.result.now ≡ c.args.self.now.parts = search rules in
    subst (λ (parts : List (List ℕ)). IfOk c.bad_of.result (λ bad. (is : IsBad parts (bad_of bad.tag)) × (bad.line.items ≡ bad_text parts (bad_of bad.tag) is)))
    same c.bad_of.ensures.text
