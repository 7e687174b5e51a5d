-- The text is the set's, and spells it.
use Rattle.std.proofs.Common.{◌≡◌, []}
use Rattle.std.proofs.lemmas.Result.{IfOk-weaker}
use Rattle.uid_sets.specs.SequenceSet.{Spells}
use Rattle.uid_sets.specs.Spelling.{set_text}
use Rattle.uid_sets.proofs.RoundTrip.{set_spells, some_of}
use Rattle.uid_sets.proofs.uid_set.UidSet.text.Goals as goal

pub returns-clause-spells : goal.returns-clause-spells
returns-clause-spells c = rw (← c.self.view_is) (
    let ranges = c.self.inside.ranges.items in
    let written = rw c.deref.ensures.value at c.text_of.ensures in
    IfOk-weaker c.text_of.result (λ text. text.items ≡ set_text ranges) (λ text. ¬ (ranges ≡ []) → Spells text.items ranges)
    (λ text is some. rw is (set_spells ranges c.self.invariant (some_of ranges some))) written)
