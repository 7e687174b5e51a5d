use Rattle.record_codec.proofs.EventsSpelled.{spelled_read}
use Rattle.record_codec.proofs.EventsRead.{read_spelled, read_event}
use Rattle.record_codec.proofs.laws.both_ways.Goals as goal

pub returns : goal.returns
returns c = record {
  read = spelled_read;
  spelled = read_spelled;
  event = λ body p all is. let has = read_event body p all is in (has.event, has.is);
}
