use Rattle.std.proofs.Common.{◌≡◌, ◌<◌, ◌-◌, ℕ, List, ap, length, take, drop, arith, ◌∙◌, sym, length-drop, length-take}
use Rattle.std.proofs.Math.Seq.{take-length}
use Rattle.std.specs.Prelude.{min}
use Rattle.std.specs.Str.Parse.{digits_value}
use Rattle.mail_base.proofs.HeaderPlaces.{none_without_brace, some_header}
use Rattle.mail_base.proofs.literal_header.literal_at_end.Goals as goal
use Rattle.mail_base.proofs.literal_header.literal_at_end.Goals.{then-from-eq0-via-then-from-eq0}
use Rattle.mail_base.proofs.literal_header.literal_at_end.Goals.{then-from-eq0-via-else-from-eq0+then-from-text}
use Rattle.mail_base.proofs.literal_header.literal_at_end.Goals.{then-from-eq0-via-else-from-eq0+else-from-text+then-text-from-ne123}

pub returns-then-from-eq0-clause-none : goal.returns-then-from-eq0-clause-none
returns-then-from-eq0-clause-none c =
    let from = c.digits_from-from in
    none_without_brace c.args.part.now c.in_ok-close.text.now c.in_ok-close.close.now from.result
    c.in_ok-close.ensures.cases.0 from.ensures.within from.ensures.digits from.ensures.other
    (λ some less brace. elim c.then-from-eq0.branch [
      | then-from-eq0-via-then-from-eq0 w ↦ absurd (omega (arith, w.if-from-eq0.true, some))
      | then-from-eq0-via-else-from-eq0+then-from-text w ↦ absurd (omega (arith, w.if-from-text.true, less))
      | then-from-eq0-via-else-from-eq0+else-from-text+then-text-from-ne123 w ↦ absurd (w.if-text-from-ne123.true brace)
    ])

pub returns-clause-found : goal.returns-clause-found
returns-clause-found c =
    let from = c.digits_from-from.result in
    let text = c.in_ok-close.text.now in
    let some : 0 < from = omega (arith, c.if-from-eq0.false) in
    let less : from < length text = omega (arith, c.if-from-text.false, c.digits_from-from.ensures.within) in
    let rest : take (length text - from) (drop from text) ≡ drop from text =
    ap (λ (k : ℕ). take k (drop from text)) (sym (length-drop from text)) ∙ take-length (drop from text) in (
      take (from - 1) text,
      drop from text,
      record {
        text = some_header c.args.part.now text c.in_ok-close.close.now from c.in_ok-close.ensures.cases.0 c.if-close-ne125.false some
            c.digits_from-from.ensures.within c.if-text-from-ne123.false;
        number = (omega (arith, length-drop from text, less), c.digits_from-from.ensures.digits);
        at = omega (arith, length-take (from - 1) text, less);
        octets = c.number_of.ensures ∙ ap (λ (t : List ℕ). min (digits_value 10 t) 18446744073709551615) rest;
      },
    )
