use Rattle.std.proofs.Common.{sym, subst}
use Rattle.mailbox_cache.specs.Rows.{Rises, AreApart}
use Rattle.record_codec.proofs.Lists.{read_rise, read_apart}
use Rattle.record_codec.proofs.reading.Fields.row_list.Goals as goal

pub returns-clause-rising : goal.returns-clause-rising
returns-clause-rising c = subst Rises (sym c.of.ensures) (read_rise c.args.vanished.now c.in_ok-count.count c.u32.new.self.rest.now
    (c.in_ok-rows.rows.items, c.rows.new.self.rest.now) c.in_ok-rows.ensures)

pub returns-clause-apart : goal.returns-clause-apart
returns-clause-apart c = subst (AreApart c.args.vanished.now) (sym c.of.ensures)
    (read_apart c.args.vanished.now c.in_ok-count.count c.u32.new.self.rest.now
    (c.in_ok-rows.rows.items, c.rows.new.self.rest.now) c.in_ok-rows.ensures)
