-- The lines so far, and those of the messages that are left, are all of them. The shelf is as it was.
use Rattle.std.proofs.Common.{◌≡◌, ◌++◌, drop}
use Rattle.body_cache.specs.Lines.{date_lines}
use Rattle.body_cache.proofs.carrying.lines_of.Given as goal

abbrev pub invariant-loop-uid : goal.invariant-loop-uid
invariant-loop-uid g l = record {
  untouched : g.K.Shelf.tells → g.K.Shelf.texts l.shelf ≡ g.K.Shelf.texts l.fn.shelf;
  lines : g.K.Shelf.tells → l.lines.items ++ date_lines l.name l.validity (drop l.uid-index l.uids) (g.K.Shelf.texts l.fn.shelf)
      ≡ date_lines l.name l.validity l.uids (g.K.Shelf.texts l.fn.shelf);
  faults : g.K.Shelf.shelf_faults l.shelf ≡ g.K.Shelf.shelf_faults l.fn.shelf;
}
