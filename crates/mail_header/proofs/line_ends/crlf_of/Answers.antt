use Rattle.std.proofs.Common.{sym, ◌∙◌, ap, ◌++◌, ◌+◌}
use Rattle.std.proofs.lemmas.List.{take_rest}
use Rattle.mail_header.proofs.BareLfs.{crlf-more, crlf-same}
use Rattle.mail_header.proofs.line_ends.crlf_of.Goals as goal

pub loop-at-preserved : goal.loop-at-preserved
loop-at-preserved c =
    rw (
      c.in_ok-extend_from_slice-2.ensures.items,
      c.in_ok-extend_from_slice.ensures.items,
      c.missing_end.ensures,
      take_rest c.loop-at.rest.now (c.in-Some.at + 1),
    )
    (crlf-more _ _ c.loop-at.rest.now c.in-Some.at c.in-Some.ensures c.loop-at.invariant)

pub returns : goal.returns
returns c = c.in_ok-extend_from_slice-3.ensures.items ∙ ap (λ bytes. c.loop-at.text.items ++ bytes)
    (sym (crlf-same c.loop-at.rest.now c.in_default.ensures)) ∙ c.loop-at.invariant
