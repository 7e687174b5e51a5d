use Rattle.std.proofs.Common.{◌∙◌}
use Rattle.qresync_core.proofs.LastRows.{rising_row}
use Rattle.qresync_core.proofs.latest.trim.Goals as goal

pub returns-in-Ok : goal.returns-in-Ok
returns-in-Ok c = λ uid. rising_row uid c.put_in_order.new.rows.items c.in-Ok.ensures.rising ∙ c.in-Ok.ensures.rows uid
