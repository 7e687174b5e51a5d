-- A conflict is reported as unsure exactly where its action may have taken effect.
use Rattle.std.proofs.Common.{◌≡◌, if◌then◌else◌, refl}
use Rattle.std.specs.Prelude.{codes}
use Rattle.action_queue.specs.declared.outcome.Kind.{Kind}
use Rattle.action_queue.specs.declared.outcome.Kind.TheVariants as kinds
use Rattle.conflict_report.specs.ReportLines.{effect_text}
use Rattle.book_laws.specs.Once.{is_unsure}

pub effect_told : (kind : Kind) → effect_text kind ≡ (if is_unsure kind then codes " unsure" else codes " nothing")
effect_told kinds.MessageGone = refl
effect_told kinds.AlreadySo = refl
effect_told (kinds.FlagsChanged m) = refl
effect_told kinds.RefusedNo = refl
effect_told kinds.RefusedBad = refl
effect_told kinds.NotPermanent = refl
effect_told (kinds.TargetUnknown k) = refl
effect_told kinds.FoundSo = refl
effect_told (kinds.StoreUnsure m f) = refl
effect_told kinds.SourceGone = refl
effect_told kinds.GoneAfterLoss = refl
effect_told (kinds.Ambiguous u v) = refl
effect_told (kinds.ValidityChanged o n) = refl
effect_told (kinds.ResetAfterLoss o n) = refl
