use Rattle.std.proofs.Common.{◌≡◌, List, ℕ, subst}
use Rattle.std.specs.Prelude.{OnOk}
use Rattle.imap_model.specs.CommandParts.{words, number, ◌⌢◌}
use Rattle.imap_model.proofs.Joining.{parts_assoc}
use Rattle.imap_command.proofs.Chains.{last_two}
use Rattle.imap_command.proofs.writing.put_again.Goals as goal

pub returns : goal.returns
returns c =
    subst (λ (p : List (List ℕ)). OnOk c.put_numbered-2.result (c.put_numbered-2.new.writer ≡ c.args.writer.now ⌢ p))
    (parts_assoc (words "P") (number c.args.action) (words "R" ⌢ number c.args.turn))
    (last_two c.put_numbered-2.result _ _ _ _ _ c.in_ok-put_numbered.ensures
    (subst (λ (k : ℕ). OnOk c.put_numbered-2.result (c.put_numbered-2.new.writer ≡ c.put_numbered.new.writer ⌢ (words "R" ⌢ number k)))
    c.from.ensures c.put_numbered-2.ensures))
