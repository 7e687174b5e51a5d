use Rattle.std.proofs.Common.{◌≡◌, true, arith}
use Rattle.std.proofs.lemmas.Bool.Decides.{nat_tests}
use Rattle.std.proofs.lemmas.List.Sums.{prefix_len-le-length}
use Rattle.imap_tokens.specs.Tokens.{is_space}
use Rattle.imap_tokens.proofs.Runs.{run_some}
use Rattle.imap_tokens.proofs.tokens.other_token_at.Goals as goal

pub returns-in-32-clause-within : goal.returns-in-32-clause-within
returns-in-32-clause-within c =
    let passes : is_space c.in_ok-first.first.now ≡ true = grind (arith, nat_tests) in (
      omega (
        arith,
        c.space_len.ensures,
        run_some is_space c.args.rest.now c.in_ok-first.first.now c.in_ok-first.field-0-1.now c.in_ok-first.ensures.cases.0 passes,
      ),
      omega (arith, c.space_len.ensures, prefix_len-le-length is_space c.args.rest.now),
    )
