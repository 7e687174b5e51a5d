use Rattle.std.proofs.Common.{sym, ◌∙◌}
use Rattle.command_texts.specs.Renumbered.{Announcing}
use Rattle.command_texts.proofs.Renumbering.{found, needed, compared}
use Rattle.command_texts.proofs.reading.written.is_written.Goals as goal

pub returns-then-ne : goal.returns-then-ne
returns-then-ne c =
    let writes : Announcing c.args.octets c.in-Some-split_last.part.now c.in_ok-written.written.items = rw (← c.as_slice.ensures) c.in_ok-written.ensures in (
      λ f. absurd cc,
      λ is. absurd ((compared c.as_slice-2.result.now c.as_slice-3.result.now c.ne.result c.ne.ensures).1 c.if-ne.true
          (c.as_slice-2.ensures ∙
          (needed c.args.octets c.args.text.now c.args.parts.now _ _ _ _ _ _ _ c.in-Some.ensures.cases.0
          c.in-Some-split_last.ensures.cases.0 c.in-Some-split_last-2.ensures.cases.0 writes is).0 ∙ sym c.as_slice-3.ensures.value)),
    )

pub returns : goal.returns
returns c =
    let writes : Announcing c.args.octets c.in-Some-split_last.part.now c.in_ok-written.written.items = rw (← c.as_slice.ensures) c.in_ok-written.ensures in
    let same = sym c.as_slice-2.ensures ∙
    (compared c.as_slice-2.result.now c.as_slice-3.result.now c.ne.result c.ne.ensures).0 c.if-ne.false ∙ c.as_slice-3.ensures.value in (
      λ e. found c.args.octets c.args.text.now c.args.parts.now _ _ _ _ _ _ _ c.in-Some.ensures.cases.0
          c.in-Some-split_last.ensures.cases.0 c.in-Some-split_last-2.ensures.cases.0 writes same (c.are_same.ensures.0 e),
      λ is. c.are_same.ensures.1
          (needed c.args.octets c.args.text.now c.args.parts.now _ _ _ _ _ _ _ c.in-Some.ensures.cases.0
          c.in-Some-split_last.ensures.cases.0 c.in-Some-split_last-2.ensures.cases.0 writes is).1,
    )
