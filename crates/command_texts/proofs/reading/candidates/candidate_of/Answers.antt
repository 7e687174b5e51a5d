use Rattle.std.proofs.Common.{◌∷◌, ◌∙◌, ap}
use Rattle.command_texts.proofs.FrontReading.{tag_found}
use Rattle.command_texts.proofs.CandidateReading.{whole_tagged, some_whole, same_candidate}
use Rattle.command_texts.proofs.reading.candidates.candidate_of.Goals as goal

pub returns-in_default : goal.returns-in_default
returns-in_default c = λ tag command whole. some_whole tag command _ whole c.in_default.ensures.cases

pub returns-in_default-tagged : goal.returns-in_default-tagged
returns-in_default-tagged c = λ tag command whole.
    let t = whole_tagged tag command _ _ _ whole c.in-Some.ensures.cases.0 in
    rw c.in_default-tagged.is at (tag_found tag _ _ _ t c.tagged.result
    (λ n rest fits is. c.tagged.ensures.played n rest fits (c.as_slice.ensures ∙ is))
    (λ n t rest fits low high is. c.tagged.ensures.again n t rest fits low high (c.as_slice.ensures ∙ is))
    (λ n rest fits is. c.tagged.ensures.counted n rest fits (c.as_slice.ensures ∙ is)))

pub returns-in-Some-2 : goal.returns-in-Some-2
returns-in-Some-2 c = λ tag command whole.
    let t = whole_tagged tag command _ _ _ whole c.in-Some.ensures.cases.0 in
    let x = rw c.in-Some-tagged.is at (tag_found tag _ _ _ t c.tagged.result
    (λ n rest fits is. c.tagged.ensures.played n rest fits (c.as_slice.ensures ∙ is))
    (λ n t rest fits low high is. c.tagged.ensures.again n t rest fits low high (c.as_slice.ensures ∙ is))
    (λ n rest fits is. c.tagged.ensures.counted n rest fits (c.as_slice.ensures ∙ is))) in
    let found = c.in_ok-command.ensures command whole.sent.held (ap (λ z. z ∷ c.in-Some.later.now) x.1 ∙ t.begun) in
    (x.0, same_candidate _ command (rw c.in-Some-2.is at found))

pub returns-in-None : goal.returns-in-None
returns-in-None c = λ tag command whole.
    let t = whole_tagged tag command _ _ _ whole c.in-Some.ensures.cases.0 in
    let x = rw c.in-Some-tagged.is at (tag_found tag _ _ _ t c.tagged.result
    (λ n rest fits is. c.tagged.ensures.played n rest fits (c.as_slice.ensures ∙ is))
    (λ n t rest fits low high is. c.tagged.ensures.again n t rest fits low high (c.as_slice.ensures ∙ is))
    (λ n rest fits is. c.tagged.ensures.counted n rest fits (c.as_slice.ensures ∙ is))) in
    let found = c.in_ok-command.ensures command whole.sent.held (ap (λ z. z ∷ c.in-Some.later.now) x.1 ∙ t.begun) in
    let none = rw c.in-None.is at found in
    cc
