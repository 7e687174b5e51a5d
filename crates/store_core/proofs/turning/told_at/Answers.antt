use Rattle.journal_core.specs.Sides.{version_written}
use Rattle.store_core.specs.Mail.{rules_of}
use Rattle.store_core.proofs.Telling.{told_fits, told_writable, spells_none, spells_there}
use Rattle.store_core.proofs.turning.told_at.Goals as goal

pub body_of-requires : goal.body_of-requires
body_of-requires c = record {
  writable = told_writable (rules_of version_written) _ c.requires.well c.requires.fits _ c.in-Some.event (rw c.in-Some.is at c.in_ok-event.ensures);
  fits = told_fits (rules_of version_written) _ c.requires.well c.requires.fits _ c.in-Some.event (rw c.in-Some.is at c.in_ok-event.ensures);
}

pub returns-in_default : goal.returns-in_default
returns-in_default c = spells_none _ (rw c.in_default.is at c.in_ok-event.ensures)

pub returns : goal.returns
returns c = spells_there _ c.in-Some.event c.in_ok-body.body (rw c.in-Some.is at c.in_ok-event.ensures) c.in_ok-body.ensures
