-- That an answer has its cause, whatever the world tells.
use Rattle.std.specs.Prelude.{◌≡◌, ◌≤◌}
use Rattle.mail_base.specs.declared.status.Status.{Status}
use Rattle.mail_base.specs.declared.status.Status.TheVariants as status
use Rattle.world_traits.specs.Calls.{Rose}
use Rattle.world_traits.specs.declared.clocked.Clocked.{Ghosts}
use Rattle.world_traits.specs.declared.streams.Sink.{Ghosts as SinkGhosts}
use Rattle.world_traits.specs.declared.streams.Source.{Ghosts as SourceGhosts}

-- The disk or the link is blamed only where a call of it failed, and their counts of faults never fall. Where a call failed, the run ends by
-- that status: under any other one the count is as it was.
pub record HasCauses {Self : Type 0} (W : Ghosts Self) (old new : Self) (s : Status) : Type 0 where
  pub disk : s ≡ status.Disk → Rose (W.disk_faults old) (W.disk_faults new)
  pub link_fault : s ≡ status.Link → Rose (W.link old).faults (W.link new).faults
  pub count : W.disk_faults old ≤ W.disk_faults new
  pub link_count : (W.link old).faults ≤ (W.link new).faults
  pub disk_unfailed : (s ≡ status.Disk → ⊥) → W.disk_faults new ≡ W.disk_faults old
  pub link_unfailed : (s ≡ status.Link → ⊥) → (W.link new).faults ≡ (W.link old).faults

-- The output is blamed only where a write failed; and its count of faults never falls.
pub record HasOutputCause {Self : Type 0} (S : SinkGhosts Self) (old new : Self) (s : Status) : Type 0 where
  pub output : s ≡ status.Output → Rose (S.sink_faults old) (S.sink_faults new)
  pub sink_count : S.sink_faults old ≤ S.sink_faults new

-- no call of the disk failed
abbrev pub NoDiskFault : {Self : Type 0} → Ghosts Self → Self → Self → Type 0
NoDiskFault W old new = Rose (W.disk_faults old) (W.disk_faults new) → ⊥

-- no call of the link failed
abbrev pub NoLinkFault : {Self : Type 0} → Ghosts Self → Self → Self → Type 0
NoLinkFault W old new = Rose (W.link old).faults (W.link new).faults → ⊥

-- no read of the input failed
abbrev pub NoInputFault : {Self : Type 0} → SourceGhosts Self → Self → Self → Type 0
NoInputFault I old new = Rose (I.source_faults old) (I.source_faults new) → ⊥

-- no write of the output failed
abbrev pub NoOutputFault : {Self : Type 0} → SinkGhosts Self → Self → Self → Type 0
NoOutputFault S old new = Rose (S.sink_faults old) (S.sink_faults new) → ⊥
