use Rattle.std.proofs.Common.{sym, ap, ◌∙◌, Some}
use Rattle.command_texts.proofs.SetReading.{no_text, set_read, none_long, some_long, set_fault}
use Rattle.command_texts.proofs.Outcomes.{only_err}
use Rattle.command_texts.proofs.reading.sets.uids_of.Goals as goal

pub returns-then-is_empty : goal.returns-then-is_empty
returns-then-is_empty c = λ uids is same. ap Some (c.none.ensures ∙ sym (no_text uids _ is same (none_long _ _ c.is_empty.ensures c.if-is_empty.true)))

pub returns-in-Ok : goal.returns-in-Ok
returns-in-Ok c = λ uids is same. ap Some (set_read uids _ _ is same (some_long _ _ c.is_empty.ensures c.if-is_empty.false) c.in-Ok.ensures.value)

pub returns-in-Err : goal.returns-in-Err
returns-in-Err c = λ uids is same. only_err _ _ (c.refused.ensures
    (set_fault uids _ _ is same (some_long _ _ c.is_empty.ensures c.if-is_empty.false) c.in-Err.ensures.fault))
