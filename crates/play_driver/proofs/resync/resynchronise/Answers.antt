use Rattle.std.proofs.Common.{List, Some, ap, arith, rules, subst, sym, ℕ, ◌∙◌}
use Rattle.std.specs.Option.{option_copied}
use Rattle.imap_session.specs.Session.{Follows, Stands}
use Rattle.literal_feed.specs.Stream.{Stream}
use Rattle.play_driver.proofs.Concluding.{delta_came, has_chosen, may_learn, renewed_held, resyncs}
use Rattle.play_driver.proofs.Gathers.{at_most_one}
use Rattle.play_driver.proofs.resync.resynchronise.Goals as goal

pub returns-in-Err-clause-gathers : goal.returns-in-Err-clause-gathers
returns-in-Err-clause-gathers g c = record {
  files = search rules;
  told = search rules;
  asks = search rules;
  grounds = c.gather.ensures.gathers.grounds;
  sent = search rules;
  why = λ t next heard h fault is. c.gather.ensures.gathers.why t next heard h fault (search rules);
  honest = search rules;
  earlier = search rules;
  blames = search rules;
}

pub returns-in-Ok-clause-value : goal.returns-in-Ok-clause-value
returns-in-Ok-clause-value g c = λ t.
    resyncs g.L.Clocked c.args.name.now (option_copied c.args.kept) c.args.link.now c.gather.new.link c.args.session _ _ _ _ c.in-Ok.ensures.heard t
    c.conclude.result c.conclude.ensures.told

pub returns-in-Ok-clause-came : goal.returns-in-Ok-clause-came
returns-in-Ok-clause-came g c = λ t heard h.
    delta_came g.L.Clocked c.args.name.now (option_copied c.args.kept) c.args.link.now c.gather.new.link c.args.session _ _ _ _ c.in-Ok.ensures.heard t
    heard h c.conclude.result c.conclude.ensures.told

pub returns-in-Ok-clause-learnable : goal.returns-in-Ok-clause-learnable
returns-in-Ok-clause-learnable g c =
    may_learn g.L.Clocked c.args.name.now (option_copied c.args.kept) c.args.link.now c.gather.new.link c.args.session _ _ _ _ c.in-Ok.ensures.heard
    c.conclude.result c.conclude.ensures.told

pub returns-in-Ok-clause-renewed : goal.returns-in-Ok-clause-renewed
returns-in-Ok-clause-renewed g c =
    renewed_held g.L.Clocked c.args.name.now (option_copied c.args.kept) c.args.link.now c.gather.new.link c.args.session _ _ _ _ c.in-Ok.ensures.heard
    c.conclude.result c.conclude.ensures.renewed

pub returns-in-Ok-clause-stands : goal.returns-in-Ok-clause-stands
returns-in-Ok-clause-stands g c = λ t.
    let here = has_chosen g.L.Clocked c.args.name.now (option_copied c.args.kept) c.args.link.now c.gather.new.link c.args.session _ _ _ _
    c.in-Ok.ensures.heard c.conclude.result c.conclude.ensures.told c.conclude.ensures.renewed in
    subst (λ (f : Stream). Stands (Some c.args.name.now) (g.L.Clocked.clock c.gather.new.link) (g.L.Clocked.link c.gather.new.link).connection f) (sym here.feed)
    (c.in-Ok.ensures.stands t)

pub returns-in-Ok-clause-still : goal.returns-in-Ok-clause-still
returns-in-Ok-clause-still g c = λ t.
    let here = has_chosen g.L.Clocked c.args.name.now (option_copied c.args.kept) c.args.link.now c.gather.new.link c.args.session _ _ _ _
    c.in-Ok.ensures.heard c.conclude.result c.conclude.ensures.told c.conclude.ensures.renewed in
    subst (λ (f : Stream). Follows (g.L.Clocked.link c.gather.new.link).connection f) (sym here.feed) (c.in-Ok.ensures.still t)

pub returns-in-Ok-clause-name : goal.returns-in-Ok-clause-name
returns-in-Ok-clause-name g c =
    let here = has_chosen g.L.Clocked c.args.name.now (option_copied c.args.kept) c.args.link.now c.gather.new.link c.args.session _ _ _ _
    c.in-Ok.ensures.heard c.conclude.result c.conclude.ensures.told c.conclude.ensures.renewed in
    here.name ∙ ap (λ (n : List ℕ). Some n) c.in-Ok.ensures.name

pub returns-in-Ok-clause-counted : goal.returns-in-Ok-clause-counted
returns-in-Ok-clause-counted g c =
    let x = c.in-Ok.ensures.heard in
    let here = has_chosen g.L.Clocked c.args.name.now (option_copied c.args.kept) c.args.link.now c.gather.new.link c.args.session _ _ _ _
    x c.conclude.result c.conclude.ensures.told c.conclude.ensures.renewed in
    omega (arith, here.count, x.asked, at_most_one x.gathered.all)
