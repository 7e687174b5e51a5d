use Rattle.std.proofs.Common.{rules, ◌≡◌, ℕ, List, [], ◌∷◌, ◌++◌, ◌-◌, Err, sym, ap, ◌∙◌}
use Rattle.record_codec.specs.Reading.{many_at, row_at, row_uid}
use Rattle.record_codec.proofs.Reader.{onto, many_more, many_fails, many_ends, fails_on}
use Rattle.mailbox_cache.specs.declared.row.Row.{Row}
use Rattle.record_codec.proofs.reading.Fields.rows.Goals as goal

pub returns-in_err-uid : goal.returns-in_err-uid
returns-in_err-uid c =
    let was : c.from_residual-in_err-uid.result ≡ Err c.in_err-uid.field-0.0 = search rules in
    rw was (fails_on c.in_err-uid.field-0.0 (row_at c.args.vanished.now c.loop-left.floor c.loop-left.self.rest.now)
    (many_at (row_at c.args.vanished.now) row_uid c.args.count 0 c.args.self.now.rest.now)
    (λ n is. c.loop-left.invariant.read ∙ many_fails (row_at c.args.vanished.now) row_uid c.loop-left.left c.loop-left.floor
    c.loop-left.self.rest.now n c.loop-left.rows.items c.loop-left-test.true is) c.in_err-uid.ensures.read)

pub loop-left-preserved : goal.loop-left-preserved
loop-left-preserved c = record {
  read = c.loop-left.invariant.read
      ∙ many_more (row_at c.args.vanished.now) row_uid c.loop-left.left c.loop-left.floor c.loop-left.self.rest.now
      ((c.in_ok-uid.uid, c.in_ok-uid.row), c.row.new.self.rest.now) c.loop-left.rows.items c.loop-left-test.true
      c.in_ok-uid.ensures.read
      ∙ ap (λ (floor : ℕ). onto (c.loop-left.rows.items ++ (c.in_ok-uid.uid, c.in_ok-uid.row) ∷ [])
      (many_at (row_at c.args.vanished.now) row_uid (c.loop-left.left - 1) floor c.row.new.self.rest.now))
      (sym c.number-floor.ensures.value)
      ∙ ap (λ (rows : List (ℕ × Row)). onto rows (many_at (row_at c.args.vanished.now) row_uid
      (c.loop-left.left - 1) c.number-floor.result c.row.new.self.rest.now)) (sym c.in_ok-push.ensures.items);
  last = c.in_ok-uid.ensures.last;
}

pub returns : goal.returns
returns c = c.loop-left.invariant.read ∙ many_ends (row_at c.args.vanished.now) row_uid c.loop-left.left c.loop-left.floor
    c.loop-left.self.rest.now c.loop-left.rows.items c.loop-left-test.false
