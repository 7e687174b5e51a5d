use Rattle.std.proofs.Common.{◌∙◌, sym}
use Rattle.server_mem.proofs.Checked.{checked_well}
use Rattle.server_mem.proofs.WellChecked.{well_checked}
use Rattle.server_mem.proofs.well_formed.is_well_formed.Goals as goal

pub returns : goal.returns
returns c = (
  λ t. checked_well c.args.boxes.now (sym c.boxes_fit.ensures ∙ t),
  λ well. c.boxes_fit.ensures ∙ well_checked c.args.boxes.now well,
)
