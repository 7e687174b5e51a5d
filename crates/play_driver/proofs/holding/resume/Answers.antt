use Rattle.std.proofs.Common.{ap, sym, ◌∙◌}
use Rattle.action_queue.specs.Book.{Meaning, cache_at}
use Rattle.playback.proofs.ResetBook.{reset_asked, reset_none}
use Rattle.playback.specs.Choosing.{reset_in, wanted}
use Rattle.play_driver.proofs.holding.resume.Goals as goal

pub reset-requires-clause-due : goal.reset-requires-clause-due
reset-requires-clause-due g c =
    let b = c.args.store.now.book in
    let name = c.args.held.chosen.name in
    let told = c.args.held.told in
    sym (reset_asked c.args.player.now b told name c.requires.ready.rests.held.needed)
    ∙ ap (λ (x : Meaning). reset_in x told (wanted c.args.player.now x)) (sym c.book.ensures)
    ∙ sym c.outdated.ensures ∙ c.in-Some.is

pub fetch-requires-clause-away : goal.fetch-requires-clause-away
fetch-requires-clause-away g c =
    let b = c.args.store.now.book in
    let name = c.args.held.chosen.name in
    let told = c.args.held.told in
    reset_none name (cache_at name b.boxes) told
    (sym (reset_asked c.args.player.now b told name c.requires.ready.rests.held.needed)
    ∙ ap (λ (x : Meaning). reset_in x told (wanted c.args.player.now x)) (sym c.book.ensures)
    ∙ sym c.outdated.ensures ∙ c.in-None.is) c.requires.ready.rests.held.risen
