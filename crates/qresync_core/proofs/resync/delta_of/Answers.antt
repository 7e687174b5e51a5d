-- The rows rise, and none of them is gone; the numbers have no fault.
use Rattle.std.proofs.Common.{refl, sym, ◌∙◌, ap, subst}
use Rattle.std.specs.Prelude.{is_some}
use Rattle.std.specs.Option.{option_copied}
use Rattle.mailbox_cache.specs.Rows.{Rises, row_at}
use Rattle.qresync_core.proofs.GoneSets.{apart_rows}
use Rattle.qresync_core.proofs.Judging.{told_stays, none_then, fitting}
use Rattle.qresync_core.proofs.resync.delta_of.Goals as goal

pub invariant_of-result : goal.invariant_of-result
invariant_of-result c = record {
  rising = subst Rises (sym c.of.ensures) c.in_ok-rows.ensures.rising;
  apart =
      apart_rows c.in_ok-vanished.vanished c.of.result
      (λ uid some.
      c.in_ok-vanished.ensures uid
      ∙ told_stays (option_copied c.args.kept) c.args.selected.now (row_at uid c.deref.result.now) uid
      (ap is_some (ap (row_at uid) (c.deref.ensures.value ∙ sym c.of.ensures)) ∙ some));
}

pub returns-clause-fits : goal.returns-clause-fits
returns-clause-fits c =
    fitting (option_copied c.args.kept) c.in_ok-codes.codes _ c.in_ok-check.ensures.fits
    (none_then (λ r. r.now) c.args.kept c.is_none.result c.is_none.ensures) refl refl
