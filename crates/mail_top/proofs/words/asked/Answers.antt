use Rattle.std.proofs.Common.{map, refl, rules}
use Rattle.std.specs.Prelude.{string_bytes}
use Rattle.mail_top.proofs.Wording.{no_append}
use Rattle.mail_top.proofs.words.asked.Goals as goal

pub returns-in_err-append_asked-in-append-clause-none : goal.returns-in_err-append_asked-in-append-clause-none
returns-in_err-append_asked-in-append-clause-none c none input =
    no_append (map string_bytes c.args.words.now) input (map string_bytes c.in_ok-command.arguments.now) (search rules)
    (c.in_err-append_asked-in-append.ensures.none refl)
