use Rattle.std.proofs.Common.{◌∷◌, ◌∙◌, ap}
use Rattle.command_texts.proofs.FrontReading.{front_tagged, some_front, tag_found}
use Rattle.command_texts.proofs.reading.fronts.front_of.Goals as goal

pub returns-in_default : goal.returns-in_default
returns-in_default c = λ tag awaited front. some_front tag awaited _ front c.in_default.ensures.cases

pub returns-in_default-tagged : goal.returns-in_default-tagged
returns-in_default-tagged c = λ tag awaited front.
    let t = front_tagged tag awaited _ _ _ front c.in-Some.ensures.cases.0 in
    rw c.in_default-tagged.is at (tag_found tag _ _ _ t c.tagged.result
    (λ n rest fits is. c.tagged.ensures.played n rest fits (c.as_slice.ensures ∙ is))
    (λ n t rest fits low high is. c.tagged.ensures.again n t rest fits low high (c.as_slice.ensures ∙ is))
    (λ n rest fits is. c.tagged.ensures.counted n rest fits (c.as_slice.ensures ∙ is)))

pub returns-in-Some-2 : goal.returns-in-Some-2
returns-in-Some-2 c = λ tag awaited front.
    let t = front_tagged tag awaited _ _ _ front c.in-Some.ensures.cases.0 in
    let x = rw c.in-Some-tagged.is at (tag_found tag _ _ _ t c.tagged.result
    (λ n rest fits is. c.tagged.ensures.played n rest fits (c.as_slice.ensures ∙ is))
    (λ n t rest fits low high is. c.tagged.ensures.again n t rest fits low high (c.as_slice.ensures ∙ is))
    (λ n rest fits is. c.tagged.ensures.counted n rest fits (c.as_slice.ensures ∙ is))) in
    let y = rw c.in-Some-2.is at (c.in_ok-stand_in.ensures awaited front.held (ap (λ z. z ∷ c.in-Some.later.now) x.1 ∙ t.begun)) in
    (x.0, y)

pub returns-in-None : goal.returns-in-None
returns-in-None c = λ tag awaited front.
    let t = front_tagged tag awaited _ _ _ front c.in-Some.ensures.cases.0 in
    let x = rw c.in-Some-tagged.is at (tag_found tag _ _ _ t c.tagged.result
    (λ n rest fits is. c.tagged.ensures.played n rest fits (c.as_slice.ensures ∙ is))
    (λ n t rest fits low high is. c.tagged.ensures.again n t rest fits low high (c.as_slice.ensures ∙ is))
    (λ n rest fits is. c.tagged.ensures.counted n rest fits (c.as_slice.ensures ∙ is))) in
    rw c.in-None.is at (c.in_ok-stand_in.ensures awaited front.held (ap (λ z. z ∷ c.in-Some.later.now) x.1 ∙ t.begun))
