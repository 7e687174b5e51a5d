-- How a run uses its input and its output.
use Rattle.std.specs.Prelude.{ℕ, List}
use Rattle.mail_base.specs.declared.status.Status.{Status}
use Rattle.world_traits.specs.Files.{Files}
use Rattle.world_traits.specs.declared.streams.Sink.{Ghosts as SinkGhosts}
use Rattle.world_traits.specs.declared.streams.Source.{Ghosts as SourceGhosts}
use Rattle.mail_top.specs.Causing.{HasOutputCause}
use Rattle.mail_top.specs.Reading.{AsksAppend, AwaitsInput}
use Rattle.mail_top.specs.ReadsInput.{ReadsInput}

-- It blames the output only where a write failed. It reads the input for an append alone, where the files as read await it.
pub record UsesStreams {Input Output : Type 0} (I : SourceGhosts Input) (S : SinkGhosts Output) (words : List (List ℕ)) (TellsFiles : Type 0)
    (seen : Files) (input input_after : Input) (out out_after : Output) (s : Status) : Type 0 where
  pub sink : HasOutputCause S out out_after s
  pub reads : ReadsInput I (AsksAppend words) TellsFiles (AwaitsInput words seen) input input_after s
