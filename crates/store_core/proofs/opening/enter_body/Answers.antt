use Rattle.std.proofs.Common.{◌≡◌, ◌∙◌, ap, rules}
use Rattle.std.specs.Option.{is_some}
use Rattle.journal_core.specs.declared.fault.Place9.TheVariants as places
use Rattle.action_queue.specs.Book.{meaning}
use Rattle.action_queue.specs.Rules.{first_broken}
use Rattle.action_queue.specs.declared.rule.Version.{Version as Rules}
use Rattle.store_core.proofs.Entering.{undue}
use Rattle.store_core.proofs.Folds.{entered_made}
use Rattle.store_core.proofs.opening.enter_body.Goals as goal

pub returns-then-is_some-clause-broken : goal.returns-then-is_some-clause-broken
returns-then-is_some-clause-broken c why is =
    let record_is : why ≡ places.Record c.args.at = cc in (
      record_is,
      undue c.args.version (meaning c.args.book.now) c.args.body.now c.in-Ok.event c.in-Ok.ensures.value
          (c.if-is_some.ensures ∙ ap is_some (c.allows.ensures ∙ ap (λ (r : Rules). first_broken r (meaning c.args.book.now) c.in-Ok.event)
          c.rules_of.ensures)),
    )

pub returns-clause-made : goal.returns-clause-made
returns-clause-made c made = entered_made c.args.version (meaning c.args.book.now) (meaning c.follow.new.self) c.args.body.now made (record {
  event = c.in-Ok.event;
  spelled = c.in-Ok.ensures.value;
  may = search rules;
  is = c.in_ok-follow.ensures;
})
