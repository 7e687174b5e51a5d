use Rattle.std.proofs.Common.{◌≡◌, ◌+◌, ◌++◌, ◌∷◌, ℕ, length, refl, ap, ◌∙◌, arith}
use Rattle.literal_feed.proofs.Parts.{long_fault, last_part, literal_part, large_part}
use Rattle.mail_base.specs.Frames.{told}
use Rattle.literal_feed.proofs.part.ended.Goals as goal

pub returns-then-counted_len-room : goal.returns-then-counted_len-room
returns-then-counted_len-room c =
    λ rest. long_fault c.args.at c.args.cursor.part c.args.cursor.counted (c.args.part.now ++ 10 ∷ rest) c.args.part.now
    (10 ∷ rest) c.counted_len.result _ c.told.result refl c.requires.plain c.counted_len.ensures c.args.cursor.room
    (omega arith) c.if-counted_len-room.true c.told.ensures

pub returns-in-None : goal.returns-in-None
returns-in-None c = λ rest.
    let some = c.in-Some-eq13-default in (
      some.body.now,
      rest,
      last_part c.args.cursor.counted c.args.part.now some.body.now rest some.field-0-0.now
          c.counted_len.result some.ensures.cases.0 some.field-0-0-test c.requires.plain c.counted_len.ensures c.args.cursor.room
          c.if-counted_len-room.false c.in-None.ensures.none,
      refl,
    )

pub returns-in-Some : goal.returns-in-Some
returns-in-Some c = λ rest.
    let some = c.in-Some-eq13-default in
    let found = c.in-Some.ensures.found in
    let is = literal_part c.args.cursor.counted c.args.part.now some.body.now rest some.field-0-0.now
    c.counted_len.result some.ensures.cases.0 some.field-0-0-test c.requires.plain c.counted_len.ensures c.args.cursor.room
    c.if-counted_len-room.false found.0 found.1 c.in-Some.header found.2 c.if-header-le-MAX_LITERAL.true in
    (found.0, found.1, rest, is.0, ap (λ (n : ℕ). c.args.cursor.part + n + 2) is.2, is.1)

pub returns-in-Some-2 : goal.returns-in-Some-2
returns-in-Some-2 c = λ rest.
    let some = c.in-Some-eq13-default in
    let found = c.in-Some.ensures.found in
    let place : c.args.at + (c.args.cursor.part + c.in-Some.header.at) ≡ c.args.at + c.args.cursor.part + length found.0 = omega (arith, found.2.at) in (
      found.0,
      found.1,
      rest,
      large_part c.args.cursor.counted c.args.part.now some.body.now rest some.field-0-0.now
          c.counted_len.result some.ensures.cases.0 some.field-0-0-test c.requires.plain c.counted_len.ensures c.args.cursor.room
          c.if-counted_len-room.false found.0 found.1 c.in-Some.header found.2 c.if-header-le-MAX_LITERAL.false,
      c.told-in-Some-2.ensures ∙ ap told place,
      omega (arith, c.asked.ensures, found.2.octets),
    )
