use Rattle.std.proofs.Common.{ap, refl, subst, sym, ℕ, ◌≡◌, ◌≤◌, ◌∙◌}
use Rattle.action_queue.specs.Book.{Meaning}
use Rattle.action_queue.specs.Queues.{tries_due}
use Rattle.mail_base.specs.Tags.{try_tag}
use Rattle.play_driver.proofs.Folds.{tries_few}
use Rattle.play_driver.proofs.OneTurn.{question_selected}
use Rattle.play_driver.specs.Sessions.{count_of}
use Rattle.play_driver.specs.Turning.{IsAskedFor}
use Rattle.playback.specs.declared.need.Need.{Need}
use Rattle.play_driver.proofs.turning.meet.Goals as goal

pub next_tag_in-tag-requires : goal.next_tag_in-tag-requires
next_tag_in-tag-requires g c =
    question_selected c.args.player.now c.args.store.now.book c.args.session c.in-Ask.command c.requires.ready.fold c.requires.ready.rests.beside
    (c.requires.ready.rests.selected c.requires.resting) (sym c.requires.needed ∙ c.in-Ask.is)

-- the tag is that of the action's try
pub of_try-tag-requires : goal.of_try-tag-requires
of_try-tag-requires g c =
    let is : c.tries_due.result ≡ tries_due c.args.store.now.book.queue =
    c.tries_due.ensures ∙ ap (λ (x : Meaning). tries_due x.queue) c.book.ensures in
    subst (λ (k : ℕ). k ≤ 2) (sym is) (tries_few c.args.store.now.book c.requires.ready.fold)

-- the command is that of the action that is due, under the tag of its try
pub ask-requires-in-Send-clause-needed : goal.ask-requires-in-Send-clause-needed
ask-requires-in-Send-clause-needed g c =
    let b = c.args.store.now.book in
    let is : c.tries_due.result ≡ tries_due b.queue = c.tries_due.ensures ∙ ap (λ (x : Meaning). tries_due x.queue) c.book.ensures in
    subst (λ (n : Need). IsAskedFor n (tries_due b.queue) (count_of c.args.session) c.of_try-tag.result c.in-Send.command)
    (sym c.in-Send.is ∙ c.requires.needed) (
      refl,
      c.of_try-tag.ensures ∙ ap (λ (n : ℕ). try_tag n c.tries_due.result) c.number.ensures.value ∙ ap (try_tag c.in-Send.id) is,
      tries_few b c.requires.ready.fold,
    )
