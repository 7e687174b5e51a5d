use Rattle.imap_model.proofs.Joining.{begun, some_first, some_behind}
use Rattle.imap_command.proofs.Chains.{whole_text}
use Rattle.imap_command.proofs.writing.write.Goals as goal

pub returns-clause-text : goal.returns-clause-text
returns-clause-text c =
    whole_text c.finish.result _ _ _ _ _ _ _ _ _ c.new-writer.ensures c.in_ok-put_tag.ensures c.in_ok-put.ensures c.in_ok-put_words.ensures
    c.in_ok-put-2.ensures
    (begun _ (some_behind _ _ (some_first _ _ _))) c.finish.ensures
