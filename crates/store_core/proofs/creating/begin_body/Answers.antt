use Rattle.store_core.proofs.Beginning.{fits_first}
use Rattle.store_core.proofs.creating.begin_body.Goals as goal

pub body_of-requires-clause-fits : goal.body_of-requires-clause-fits
body_of-requires-clause-fits c = fits_first c.args.event.now c.requires.first c.requires.short
