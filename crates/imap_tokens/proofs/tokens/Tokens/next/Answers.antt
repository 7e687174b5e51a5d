use Rattle.std.proofs.Common.{rules, ◌≡◌, ◌<◌, ◌-◌, length, take, drop, arith, length-drop, length-take}
use Rattle.std.proofs.lemmas.Bool.Decides.{nat_tests}
use Rattle.imap_tokens.proofs.OneToken.{bad_is, bad_not}
use Rattle.imap_tokens.proofs.tokens.Tokens.next.Goals as goal

pub returns-in_default-clause-bad_byte : goal.returns-in_default-clause-bad_byte
returns-in_default-clause-bad_byte c =
    let text = c.self.inside.text.now in
    let at = c.self.inside.at in
    let n : length (take (length text - at) (drop at text)) ≡ length text - at =
    omega (arith, length-take (length text - at) (drop at text), length-drop at text) in
    let there : at < length text = first_of (grind (arith, nat_tests, n), search rules) in
    bad_is c.args.self.now c.self.inside.text.now c.self.inside.literals.now c.self.inside.at c.self.view_is there c.in_default.ensures.none

pub returns-clause-bad_byte : goal.returns-clause-bad_byte
returns-clause-bad_byte c =
    bad_not c.args.self.now c.self.inside.text.now c.self.inside.literals.now c.self.inside.at c.self.view_is c.in-Some.kind c.in-Some.size
    _ c.in-Some.ensures.token
