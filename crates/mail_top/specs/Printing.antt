-- What was printed at each status.
use Rattle.std.specs.Prelude.{◌≡◌, ◌⊎◌, ℕ, List, ◌++◌, take}
use Rattle.world_traits.specs.Calls.{Rose}
use Rattle.mail_base.specs.declared.status.Status.{Status}
use Rattle.mail_base.specs.declared.status.Status.TheVariants as status

-- the text was written; or the sink failed, and a front of it was
abbrev pub Writes : List ℕ → List ℕ → List ℕ → ℕ → ℕ → Type 0
Writes text old new faults faults_after = (new ≡ old ++ text) ⊎ (Rose faults faults_after × ((n : ℕ) × (new ≡ old ++ take n text)))

-- The text, where the command is done, with conflicts or without; a front of it where the output failed; either where the status tells something else.
abbrev pub Prints : Status → List ℕ → List ℕ → List ℕ → ℕ → ℕ → Type 0
Prints status.Done text old new faults faults_after = new ≡ old ++ text
Prints status.Conflicts text old new faults faults_after = new ≡ old ++ text
Prints status.Output text old new faults faults_after = Rose faults faults_after × ((n : ℕ) × (new ≡ old ++ take n text))
Prints status.Words text old new faults faults_after = Writes text old new faults faults_after
Prints status.Disk text old new faults faults_after = Writes text old new faults faults_after
Prints status.Journal text old new faults faults_after = Writes text old new faults faults_after
Prints status.Reason text old new faults faults_after = Writes text old new faults faults_after
Prints status.Memory text old new faults faults_after = Writes text old new faults faults_after
Prints status.Limit text old new faults faults_after = Writes text old new faults faults_after
Prints status.Link text old new faults faults_after = Writes text old new faults faults_after
Prints status.Refused text old new faults faults_after = Writes text old new faults faults_after
Prints status.Reply text old new faults faults_after = Writes text old new faults faults_after
Prints status.Lacking text old new faults faults_after = Writes text old new faults faults_after
Prints status.Validity text old new faults faults_after = Writes text old new faults faults_after
Prints status.Input text old new faults faults_after = Writes text old new faults faults_after
Prints status.Shelf text old new faults faults_after = Writes text old new faults faults_after

-- The status is that of the ending; or it was done, and the output failed.
abbrev pub IsSaid : Status → Status → Type 0
IsSaid ended said = (said ≡ ended) ⊎ (((ended ≡ status.Done) ⊎ (ended ≡ status.Conflicts)) × (said ≡ status.Output))
