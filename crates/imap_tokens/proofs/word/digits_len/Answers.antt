use Rattle.std.proofs.Common.{◌≡◌, ◌<◌, ℕ, true, length, get_or, None, ◌∙◌, rules}
use Rattle.std.specs.Prelude.{IfSome}
use Rattle.std.specs.Char.{is_ascii_digit}
use Rattle.imap_tokens.proofs.Runs.{run_is, IsStop}
use Rattle.imap_tokens.proofs.word.digits_len.Goals as goal

pub returns : goal.returns
returns c =
    let all : c.position.result ≡ None → (k : ℕ) → k < length c.args.text.now → is_ascii_digit (get_or c.args.text.now k 0) ≡ true = search rules in
    let stop : IfSome c.position.result (IsStop is_ascii_digit c.args.text.now) = search rules in
    c.unwrap_or.ensures ∙ run_is is_ascii_digit c.args.text.now c.position.result all stop
