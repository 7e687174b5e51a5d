use Rattle.std.proofs.Common.{◌≢◌, sym, ◌∙◌, ap}
use Rattle.std.specs.Prelude.{string_bytes}
use Rattle.mail_top.specs.Names.{name_of}
use Rattle.mail_top.proofs.Naming.{others_then, differ}
use Rattle.mail_top.proofs.names.+are_others.Goals as goal

pub returns-then-ne : goal.returns-then-ne
returns-then-ne t c =
    let first = c.name_bytes-in-len1-up.ensures ∙ ap name_of c.as_str.ensures.value in
    let other : name_of (string_bytes c.first-item.result) ≢ name_of c.args.text.now =
    λ same. differ _ _ _ c.ne.ensures c.if-ne.true (c.name_bytes.ensures ∙ sym same ∙ sym first) in
    others_then (name_of c.args.text.now) c.args.others.now c.first-item.result c.are_others.result
    c.in-len1-up.len_at_least c.first-item.is other c.are_others.ensures
