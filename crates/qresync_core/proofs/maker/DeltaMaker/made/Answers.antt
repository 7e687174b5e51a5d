-- The rows rise, and none of them is gone.
use Rattle.std.proofs.Common.{sym, ◌∙◌, ap, subst}
use Rattle.std.specs.Prelude.{is_some}
use Rattle.std.specs.Option.{option_copied}
use Rattle.mailbox_cache.specs.Rows.{Rises, row_at}
use Rattle.qresync_core.proofs.GoneSets.{apart_rows}
use Rattle.qresync_core.proofs.MakerStands.{made_stays}
use Rattle.qresync_core.proofs.maker.DeltaMaker.made.Goals as goal

pub invariant_of-result : goal.invariant_of-result
invariant_of-result c = record {
  rising = subst Rises (sym c.of.ensures) c.in_ok-rows.ensures.rising;
  apart =
      apart_rows c.in_ok-vanished.vanished c.of.result
      (λ uid some.
      c.in_ok-vanished.ensures uid
      ∙ made_stays (option_copied c.args.kept) _ (row_at uid c.deref.result.now) uid
      (ap is_some (ap (row_at uid) (c.deref.ensures.value ∙ sym c.of.ensures)) ∙ some));
}
