-- What the counts are where every action is played.
use Rattle.std.proofs.Common.{◌≡◌, ℕ, suc, ◌==◌, false, Option, Some, sym, subst}
use Rattle.std.specs.Prelude.{not, ◌&&◌, slice_get, List}
use Rattle.imap_model.specs.Ours.{ours}
use Rattle.imap_model.specs.declared.deed.Deed.{Deed}
use Rattle.action_queue.specs.declared.outcome.Outcome.{Outcome}
use Rattle.action_queue.specs.declared.queued.Queued.{Queued}
use Rattle.mail_top.specs.Headline.{IsOnceOrReported}
use Rattle.mail_drill.specs.Counted.{deeds_at, is_conflict, is_missing, is_twice, missing_in, twice_in}
use Rattle.mail_drill.proofs.Counts.{none_so}
use Rattle.mail_drill.proofs.Fitting.{fits_once, fits_there}

module _ (queue : List Queued) (history : List Deed)
    (each : (place : ℕ) (queued : Queued) → slice_get queue place ≡ Some queued → IsOnceOrReported queued (ours (suc place) history)) where
  -- none took effect twice
  pub none_twice : twice_in queue history ≡ 0
  none_twice = none_so (is_twice history) queue (λ i q there.
      let o = each i q there in fits_once o.outcome (ours (suc i) history) o.fits)

  -- and none is missing
  pub none_missing : missing_in queue history ≡ 0
  none_missing = none_so (is_missing history) queue (λ i q there.
      let o = each i q there in
      subst (λ (outcome : Option Outcome). (not (is_conflict outcome) && not (deeds_at history i == 1)) ≡ false) (sym o.ended)
      (fits_there o.outcome (ours (suc i) history) o.fits))
