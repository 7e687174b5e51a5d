use Rattle.std.proofs.Common.{◌≡◌, ◌-◌, ◌%◌, ◌≤◌}
use Rattle.mail_base.specs.Frames.{NoWhole}
use Rattle.mail_bench.specs.Blocks.{text_in}
use Rattle.mail_bench.specs.Breaking.{IsSound}
use Rattle.mail_bench.specs.Metered.{Metered}
use Rattle.mail_bench.specs.Repeated.{stretch}
use Rattle.mail_bench.proofs.meter.measure.Given as goal

abbrev pub invariant-loop-left : goal.invariant-loop-left
invariant-loop-left l =
    let came = stretch (text_in l.block) 0 (l.size - l.left) in
    record {
      at : l.at ≡ (l.size - l.left) % l.block.period;
      within : l.left ≤ l.size;
      reads : l.meter.reads ≡ l.reads;
      taken : NoWhole l.meter.feed.bytes;
      counted : Metered came l.meter;
      sound : IsSound came;
    }

abbrev pub decreases-loop-left : goal.decreases-loop-left
decreases-loop-left l = l.left
