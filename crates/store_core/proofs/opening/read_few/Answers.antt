use Rattle.std.proofs.Common.{[], Some, refl, rules, sym, ◌∙◌, ap, subst}
use Rattle.journal_core.specs.declared.version.Version.{Version}
use Rattle.journal_core.specs.Standing.{Standing}
use Rattle.action_queue.specs.Book.{meaning}
use Rattle.store_core.specs.Mail.{mail}
use Rattle.store_core.specs.Reading.{EntersAll, UndueAt}
use Rattle.store_core.proofs.Entering.{torn_behind, reads_all, undue_later}
use Rattle.store_core.proofs.Folds.{made_as}
use Rattle.store_core.proofs.opening.read_few.Goals as goal

pub returns-in_err-few-clause-broken : goal.returns-in_err-few-clause-broken
returns-in_err-few-clause-broken g c tells r why is =
    torn_behind mail (Some (meaning c.args.book.now)) r.bodies c.args.journal.now r.make _ _ r.still c.next_few.new.self _ why
    (search rules) (c.in_err-few.ensures.value tells)

pub returns-in_default-clause-value : goal.returns-in_default-clause-value
returns-in_default-clause-value g c tells r =
    reads_all mail c.args.journal.now.version [] r.bodies (meaning c.args.book.now) _ _ _ _ c.next_few.ensures.version r.make refl
    (rw c.in_default.is at c.in_ok-few.ensures.still tells r.bodies r.still)

pub returns-in_err-enter_few-clause-broken : goal.returns-in_err-enter_few-clause-broken
returns-in_err-enter_few-clause-broken g c tells r why is =
    let v = rw c.in-Some.is at c.in_ok-few.ensures.value tells in
    undue_later mail (meaning c.args.book.now) c.args.journal.now
    (g.D.Clocked.clock c.args.disk.now) _ r c.in-Some.few _ c.place-end.result why v.1
    (subst (λ (v : Version). UndueAt mail v (meaning c.args.book.now) c.place-at.result why c.in-Some.few) c.version-version.ensures
    (c.enter_few.ensures.broken why (search rules))) c.place-at.ensures
    (c.place-end.ensures ∙ ap (λ (j : Standing). j.place) v.2) c.place-end.type_inv

pub returns-clause-value : goal.returns-clause-value
returns-clause-value g c tells r =
    reads_all mail c.args.journal.now.version c.in-Some.few r.bodies (meaning c.args.book.now) _ _ _ _ c.next_few.ensures.version r.make
    (subst (λ (v : Version). EntersAll mail v (meaning c.args.book.now) c.in-Some.few (meaning c.enter_few.new.book))
    c.version-version.ensures c.in_ok-enter_few.ensures.value) (rw c.in-Some.is at c.in_ok-few.ensures.still tells r.bodies r.still)

pub returns-clause-made : goal.returns-clause-made
returns-clause-made g c made = made_as _ _ _ (sym c.version-version.ensures) (c.in_ok-enter_few.ensures.made (made_as _ _ _ c.version-version.ensures made))
