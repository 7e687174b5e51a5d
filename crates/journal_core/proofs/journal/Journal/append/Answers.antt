use Rattle.std.proofs.Common.{refl}
use Rattle.journal_core.proofs.AsideStays.{aside_none}
use Rattle.journal_core.proofs.Adding.{added_as, added_not_as}
use Rattle.journal_core.proofs.journal.Journal.append.Goals as goal

pub returns-in-Err-clause-told : goal.returns-in-Err-clause-told
returns-in-Err-clause-told g c tells = added_not_as _ _ _ _ _ _ _ _ c.self.view_is c.requires.all_read _ (c.write_gated.ensures.told tells) _ _ refl

pub returns-clause-told : goal.returns-clause-told
returns-clause-told g c tells = added_as _ _ _ _ _ _ _ _ c.self.view_is c.requires.all_read _ _ c.in_default.is (c.write_gated.ensures.told tells) _ refl

pub returns-then-wanted-limit-clause-aside : goal.returns-then-wanted-limit-clause-aside
returns-then-wanted-limit-clause-aside g c tells = aside_none _ _
