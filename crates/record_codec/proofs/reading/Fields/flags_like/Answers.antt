-- Bytes that come again are read as the flags that they were read as.
use Rattle.record_codec.proofs.SameFlags.{read_again, spell_last}
use Rattle.record_codec.proofs.reading.Fields.flags_like.Goals as goal

pub returns-in-Some-clause-read : goal.returns-in-Some-clause-read
returns-in-Some-clause-read c = read_again _ _ _ _ _ c.requires c.in-Some.ensures.cases.0 c.in-Some.ensures.cases.1 c.in_ok-flags.ensures

pub returns-clause-last : goal.returns-clause-last
returns-clause-last c = spell_last c.args.self.now.rest.now _ c.flags.new.self.rest.now _ _ c.in_front-last.ensures.bytes
    c.in_ok-flags-2.ensures c.in_front-last.ensures.value c.in_ok-last.ensures
