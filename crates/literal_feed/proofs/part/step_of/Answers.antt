use Rattle.std.proofs.Common.{◌≡◌, ◌<◌, ◌+◌, ◌-◌, ℕ, List, suc, length, take, drop, get_or, sym, subst}
use Rattle.mail_base.specs.Frames.{NoLf}
use Rattle.literal_feed.specs.Parts.{GoesOnAs}
use Rattle.literal_feed.proofs.Searches.{all_behind, plain_all, plain_before, ended_there}
use Rattle.literal_feed.proofs.part.step_of.Goals as goal

pub open-requires-clause-plain : goal.open-requires-clause-plain
open-requires-clause-plain c =
    let line = c.args.line.now in
    let s = c.args.cursor.searched in
    subst NoLf (sym (all_behind line c.args.cursor.part))
    (plain_all line c.args.cursor.part s c.args.cursor.ordered c.requires.within c.requires.plain
    (subst NoLf (all_behind line s) c.in_default.ensures.none))

pub ended-requires-clause-plain : goal.ended-requires-clause-plain
ended-requires-clause-plain c =
    let line = c.args.line.now in
    let s = c.args.cursor.searched in
    let found = c.in-Some.ensures.found in
    plain_before line c.args.cursor.part s c.args.cursor.ordered c.requires.within c.requires.plain c.in-Some.found
    (subst (λ (t : List ℕ). c.in-Some.found < length t) (all_behind line s) found.0)
    (subst (λ (t : List ℕ). NoLf (take c.in-Some.found t)) (all_behind line s) found.1)
    (subst (λ (t : List ℕ). get_or t c.in-Some.found 0 ≡ 10) (all_behind line s) found.2)

pub returns : goal.returns
returns c =
    let line = c.args.line.now in
    let s = c.args.cursor.searched in
    let p = c.args.cursor.part in
    let found = c.in-Some.ensures.found in
    let n = s + c.in-Some.found - p in
    let is = ended_there line p s c.args.cursor.ordered c.requires.within c.requires.plain c.in-Some.found
    (subst (λ (t : List ℕ). c.in-Some.found < length t) (all_behind line s) found.0)
    (subst (λ (t : List ℕ). NoLf (take c.in-Some.found t)) (all_behind line s) found.1)
    (subst (λ (t : List ℕ). get_or t c.in-Some.found 0 ≡ 10) (all_behind line s) found.2) in
    subst (λ (t : List ℕ). GoesOnAs c.args.at p c.args.cursor.counted t c.ended.result) (sym is) (c.ended.ensures (drop (suc n) (drop p line)))
