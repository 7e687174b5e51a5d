-- What was told is so in the world that is given.
use Rattle.std.proofs.Common.{◌≡◌, ℕ, List, ◌++◌}
use Rattle.world_traits.specs.Calls.{Rose}
use Rattle.mail_drill.proofs.Tellings.{told_done, told_fault, told_limit, told_no_want, told_no_words, told_status, told_world}
use Rattle.mail_drill.proofs.drilling.drill.Goals as goal

pub returns-in-Ok : goal.returns-in-Ok
returns-in-Ok g c =
    let wrote : List ℕ → Type 0 = λ text. g.S.Sink.written c.told.new.out ≡ g.S.Sink.written c.args.out.now ++ text in
    let fault : Type 0 = Rose (g.S.Sink.sink_faults c.args.out.now) (g.S.Sink.sink_faults c.told.new.out) in
    let printed = c.told.ensures.printed in
    let whole = c.told.ensures.whole in
    let out = c.told.ensures.output in
    let ends = c.in-Ok.ensures in
    let writes = c.in-Some.ensures.some in
    record {
      words = (
        λ is. absurd (told_no_words _ c.in-Some.task writes c.in-Ok.ending.status c.in-Ok.ending.world.value.world c.in-Ok.ending.line.items ends c.told.result.0 c.told.result.1
            g.S.Sink.tells wrote fault printed whole out is),
        λ none. absurd (none c.in-Some.task writes),
      );
      done = told_done _ c.in-Some.task writes c.in-Ok.ending.status c.in-Ok.ending.world.value.world c.in-Ok.ending.line.items ends c.told.result.0 c.told.result.1
          g.S.Sink.tells wrote fault printed whole out;
      limit = told_limit _ c.in-Some.task writes c.in-Ok.ending.status c.in-Ok.ending.world.value.world c.in-Ok.ending.line.items ends c.told.result.0 c.told.result.1
          g.S.Sink.tells wrote fault printed whole out;
      no_drill = λ tells is. absurd (told_no_words _ c.in-Some.task writes c.in-Ok.ending.status c.in-Ok.ending.world.value.world c.in-Ok.ending.line.items ends c.told.result.0 c.told.result.1
          g.S.Sink.tells wrote fault printed whole out is);
      no_memory = λ tells is. absurd (told_no_want _ c.in-Some.task writes c.in-Ok.ending.status c.in-Ok.ending.world.value.world c.in-Ok.ending.line.items ends c.told.result.0 c.told.result.1
          g.S.Sink.tells wrote fault printed whole out is);
      given = told_world _ c.in-Some.task writes c.in-Ok.ending.status c.in-Ok.ending.world.value.world c.in-Ok.ending.line.items ends c.told.result.0 c.told.result.1
          g.S.Sink.tells wrote fault printed whole out;
      output = told_fault _ c.in-Some.task writes c.in-Ok.ending.status c.in-Ok.ending.world.value.world c.in-Ok.ending.line.items ends c.told.result.0 c.told.result.1
          g.S.Sink.tells wrote fault printed whole out;
      status = told_status _ c.in-Some.task writes c.in-Ok.ending.status c.in-Ok.ending.world.value.world c.in-Ok.ending.line.items ends c.told.result.0 c.told.result.1
          g.S.Sink.tells wrote fault printed whole out;
      count = c.told.ensures.count;
    }
