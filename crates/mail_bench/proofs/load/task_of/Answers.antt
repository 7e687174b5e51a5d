use Rattle.std.proofs.Common.{refl}
use Rattle.mail_bench.proofs.Asking.{three_bytes, read_ok, asks_some, asks_unread, asks_none}
use Rattle.mail_bench.proofs.load.task_of.Goals as goal

pub returns-in_err-number-clause-none : goal.returns-in_err-number-clause-none
returns-in_err-number-clause-none c none task asks =
    let are = three_bytes c.args.words.now _ _ _ _ _ _ c.in-len3.len_at_least c.in-len3.len_below c.what-item.is c.case-item.is c.number-item.is
    refl refl c.as_bytes.ensures.value in
    asks_unread _ _ _ _ are _ c.read_u32.ensures.value c.in_err-number.ensures.value task asks

pub returns-clause-some : goal.returns-clause-some
returns-clause-some c =
    let are = three_bytes c.args.words.now _ _ _ _ _ _ c.in-len3.len_at_least c.in-len3.len_below c.what-item.is c.case-item.is c.number-item.is
    c.as_str.ensures.value c.as_str-2.ensures.value c.as_bytes.ensures.value in
    asks_some _ _ _ _ are _ ((c.read_u32.ensures.value _).0 (read_ok _ _ c.in_ok-number.ensures.value)) _ c.task_for.ensures.some

pub returns-clause-none : goal.returns-clause-none
returns-clause-none c none task asks =
    let are = three_bytes c.args.words.now _ _ _ _ _ _ c.in-len3.len_at_least c.in-len3.len_below c.what-item.is c.case-item.is c.number-item.is
    c.as_str.ensures.value c.as_str-2.ensures.value c.as_bytes.ensures.value in
    asks_none _ _ _ _ are _ c.read_u32.ensures.value _ (read_ok _ _ c.in_ok-number.ensures.value) (c.task_for.ensures.none none) task asks
