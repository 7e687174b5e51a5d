use Rattle.command_texts.proofs.ArgumentReading.{form_of, counted_of, quoted_of, bare_of}
use Rattle.command_texts.proofs.reading.arguments.argument_at.Goals as goal

pub returns-then-first-eq123 : goal.returns-then-first-eq123
returns-then-first-eq123 c = λ bytes rest behind fits ends is.
    let both = counted_of bytes rest behind _ _ _ c.first_of-first.ensures (form_of bytes rest behind _ _ is) c.if-first-eq123.true in
    c.literal.ensures bytes _ rest behind fits both.0 both.1

pub returns-then-first-eq34 : goal.returns-then-first-eq34
returns-then-first-eq34 c = λ bytes rest behind fits ends is.
    let both = quoted_of bytes rest behind _ _ _ c.first_of-first.ensures (form_of bytes rest behind _ _ is) c.if-first-eq34.true in
    rw (← both.1) (c.quoted.ensures bytes rest both.0)

pub returns : goal.returns
returns c = λ bytes rest behind fits ends is.
    let all = bare_of bytes rest behind _ _ _ c.first_of-first.ensures (form_of bytes rest behind _ _ is) c.if-first-eq123.false c.if-first-eq34.false in
    rw (← all.2) (c.bare.ensures bytes rest all.0 ends all.1)
