use Rattle.std.proofs.Common.{◌∙◌, ap}
use Rattle.action_queue.specs.Book.{meaning}
use Rattle.local_view.specs.Listing.{has_row}
use Rattle.local_view.proofs.InView.{shown_cached, shown_made}
use Rattle.local_view.proofs.shown.is_shown.Goals as goal

pub returns-clause-cached : goal.returns-clause-cached
returns-clause-cached c =
    shown_cached (meaning c.args.book.now) c.args.name.now c.args.id c.is_among.result
    (c.is_among.ensures ∙ ap (has_row c.args.id) (c.deref.ensures.value ∙ c.in_ok-rows.ensures))

pub returns-clause-made : goal.returns-clause-made
returns-clause-made c =
    shown_made (meaning c.args.book.now) c.args.name.now c.args.id c.is_among.result
    (c.is_among.ensures ∙ ap (has_row c.args.id) (c.deref.ensures.value ∙ c.in_ok-rows.ensures))
