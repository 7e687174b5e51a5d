use Rattle.std.proofs.Common.{arith, rules}
use Rattle.play_driver.proofs.Fetched.{learns_rows, makes_rows}
use Rattle.play_driver.proofs.Gathers.{at_most_one}
use Rattle.play_driver.proofs.rows.rows.Goals as goal

pub fetch_all-requires-clause-told : goal.fetch_all-requires-clause-told
fetch_all-requires-clause-told g c = (c.requires.told.0, c.requires.told.1.stands)

pub returns-in-Err-clause-fetches : goal.returns-in-Err-clause-fetches
returns-in-Err-clause-fetches g c = record {
  files = search rules;
  told = search rules;
  asks = search rules;
  grounds = c.fetch_all.ensures.fetches.grounds;
  why = λ t next heard h fault is. c.fetch_all.ensures.fetches.why t next heard h fault (search rules);
  honest = search rules;
  earlier = search rules;
  blames = search rules;
}

pub returns-in-Ok-clause-value : goal.returns-in-Ok-clause-value
returns-in-Ok-clause-value g c = λ t.
    let x = c.in-Ok.ensures.heard in
    record {
      all = x.all;
      asked = x.asked;
      answered = x.answered t;
      makes = makes_rows g.L.Clocked c.args.link.now c.fetch_all.new.link c.args.held _ _ x c.finish-delta.result c.finish-delta.ensures.value
          c.finish-delta.ensures.fault;
    }

pub returns-in-Ok-clause-came : goal.returns-in-Ok-clause-came
returns-in-Ok-clause-came g c = λ t heard h.
    let x = c.in-Ok.ensures.heard in
    record {
      all = x.all;
      asked = x.asked;
      came = x.came t heard h;
      makes = makes_rows g.L.Clocked c.args.link.now c.fetch_all.new.link c.args.held _ _ x c.finish-delta.result c.finish-delta.ensures.value
          c.finish-delta.ensures.fault;
    }

pub returns-in-Ok-clause-learnable : goal.returns-in-Ok-clause-learnable
returns-in-Ok-clause-learnable g c =
    let x = c.in-Ok.ensures.heard in
    learns_rows g.L.Clocked c.args.link.now c.fetch_all.new.link c.args.held _ _ x c.finish-delta.result c.finish-delta.ensures.value
    c.finish-delta.ensures.fault c.requires.told.0 c.requires.told.1 c.finish-delta.ensures.fits

pub returns-in-Ok-clause-counted : goal.returns-in-Ok-clause-counted
returns-in-Ok-clause-counted g c =
    let x = c.in-Ok.ensures.heard in omega (arith, x.asked, at_most_one x.all)
