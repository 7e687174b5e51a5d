use Rattle.std.proofs.Common.{Err, List, None, Ok, Option, Some, ap, refl, rules, subst, sym, true, ℕ, ◌<◌, ◌∙◌, ◌≡◌}
use Rattle.action_queue.specs.Book.{Meaning, cache_at, meaning}
use Rattle.imap_session.specs.Dialogue.Dialogue.{Ends}
use Rattle.imap_session.specs.Session.{Stands}
use Rattle.imap_session.specs.declared.permits.Permits.{Permits}
use Rattle.mailbox_cache.specs.declared.delta.Delta.{Delta}
use Rattle.playback.specs.Allowed.{IsGathered, WhyNotChosen}
use Rattle.playback.specs.Choosing.{IsChosen, IsChosenFault}
use Rattle.book_laws.specs.Kept.{KeptBook}
use Rattle.playback.specs.Knows.{Knows}
use Rattle.playback.specs.Left.{left}
use Rattle.playback.specs.Needs.{IsBeside, need_of}
use Rattle.book_laws.specs.Sound.{IsSound}
use Rattle.playback.specs.Worlds.{World, given}
use Rattle.playback.specs.declared.need.Need.TheVariants as needs
use Rattle.playback.specs.declared.need.Unheard.{Unheard}
use Rattle.play_driver.specs.Faults.{of_session, of_unheard}
use Rattle.play_driver.specs.KnownAt.{KnownAt}
use Rattle.play_driver.specs.Progress.{box_names}
use Rattle.play_driver.proofs.Faulting.{raised_as}
use Rattle.play_driver.proofs.Faultless.{fetch_whole, session_faultless, told_faultless}
use Rattle.play_driver.proofs.Folds.{fold_sound}
use Rattle.play_driver.proofs.GatheredKnown.{fetched_known, fetched_learns, fetched_named, fetched_others, fetched_read, rows_faulty, rows_gathered}
use Rattle.play_driver.proofs.GatheredTaken.{chosen_keeps, chosen_takes, fits_wanted, selects_none, taken_delta}
use Rattle.play_driver.proofs.HeldTurn.{fetches_turn, rows_not_taken, rows_not_told}
use Rattle.play_driver.proofs.OneTurn.{synced_fetched}
use Rattle.play_driver.proofs.OverLink.{asks_over, failed_over, stands_over, took_over}
use Rattle.play_driver.proofs.Parts.{grows}
use Rattle.play_driver.proofs.TurnsFall.{fetch_falls}
use Rattle.world_traits.specs.Links.{Any, AnyStep, LinkStep}
use Rattle.play_driver.specs.declared.session.Session.TheVariants as sessions
use Rattle.play_driver.proofs.holding.fetch.Goals as goal

pub rows-requires-clause-told : goal.rows-requires-clause-told
rows-requires-clause-told g c = (c.requires.ready.rests.held.reply, c.requires.ready.rests.held.is)

-- the rows aren't told
pub returns-in_err-answer : goal.returns-in_err-answer
returns-in_err-answer g c =
    let f = c.in_err-answer.field-0.0 in
    failed_over g.W.Clocked c.args.world.now c.rows.new.link (sessions.Held c.args.held) c.args.player.now c.args.store.now _ c.requires.ready
    c.rows.ensures.fetches.files (g.W.Disk.seen c.rows.new.link) (g.met.W.Disk.seen_is c.rows.new.link) c.args.player.now c.from_residual.result (of_session f) refl
    (raised_as c.from_residual.result (of_session f) c.from_residual.ensures.1) (record {
      over = asks_over g.W.Clocked _ _ _ _ _ c.rows.ensures.fetches.told c.rows.ensures.fetches.asks
          (λ t. c.rows.ensures.fetches.grounds t (box_names c.args.store.now.book)) c.rows.ensures.fetches.earlier;
      why = λ t.
          let follows = c.requires.ready.rests.still t in
          rows_not_told (g.W.Clocked.link c.args.world.now) (g.W.Clocked.link c.rows.new.link) c.args.held c.args.store.now c.args.player.now
          c.args.store.now.book refl c.requires.ready.rests.held.needed f (of_session f) refl follows
          (c.rows.ensures.fetches.why t (Ends true) follows.0 follows.1 f c.in_err-answer.was);
      excused = λ t made kept known fair.
          let files = g.W.Clocked.server_with_files t in
          let follows = c.requires.ready.rests.still files in
          session_faultless c.rows.result (c.rows.ensures.fetches.honest t) f (of_session f) c.in_err-answer.was
          (fetch_whole (g.W.Clocked.link c.rows.new.link) f c.args.held.chosen.conversation.count
          (g.W.Clocked.link c.args.world.now).sent follows.1.connection.received follows.0
          (c.rows.ensures.fetches.why files (Ends true) follows.0 follows.1 f c.in_err-answer.was)) refl;
      accuses = search rules;
    })

-- what is handed over fits what the player needs
pub chosen-requires : goal.chosen-requires
chosen-requires g c =
    fits_wanted c.args.player.now (meaning c.book-book.result.now) c.args.held.chosen.name None
    (subst (λ (x : Meaning). need_of c.args.player.now x ≡ needs.Select c.args.held.chosen.name) (sym c.book-book.ensures) c.requires.ready.rests.held.needed)
    (sym c.requires.away ∙ ap (λ (x : Meaning). cache_at c.args.held.chosen.name x.boxes) (sym c.book-book.ensures))
    c.in_ok-answer.answer.1 c.in_ok-answer.ensures.learnable

-- the player takes it
pub returns-in-Ok : goal.returns-in-Ok
returns-in-Ok g c =
    let b = c.args.store.now.book in
    let p = c.args.player.now in
    let q = c.chosen.new.self in
    let told = c.in_ok-answer.answer.1 in
    let fits = c.requires.ready.rests.held in
    let value : IsChosen p b told q = subst (λ (x : Meaning). IsChosen p x told q) c.book-book.ensures c.in-Ok.ensures.value in
    let stays = chosen_keeps p q b told value in
    let taken = taken_delta p q b told value in
    let takes = chosen_takes p b taken.0 c.args.held.chosen.name q fits.needed taken.2 in
    let knows =
    subst (λ (x : Meaning). (delta : Delta) (w : World) → told ≡ Ok delta → KeptBook x w.course.now w.waiting →
    IsGathered delta x w → Knows p x w → Knows q x (given w)) c.book-book.ensures c.in-Ok.ensures.knows in
    took_over g.W.Clocked c.args.world.now c.rows.new.link (sessions.Held c.args.held) p c.args.store.now _ c.requires.ready
    c.rows.ensures.fetches.files (g.W.Disk.seen c.rows.new.link) (g.met.W.Disk.seen_is c.rows.new.link) q
    (sessions.Chosen c.in_ok-answer.answer.0) (record {
      over = asks_over g.W.Clocked _ _ _ _ _ c.rows.ensures.fetches.told c.rows.ensures.fetches.asks
          (λ t. c.rows.ensures.fetches.grounds t (box_names b)) c.rows.ensures.fetches.earlier;
      known = λ t made stands known fair.
          subst (λ (o : Option Permits). KnownAt made (g.W.Clocked.clock c.rows.new.link) o None q b) (sym c.in_ok-answer.ensures.permits)
          (fetched_known b _ _ stands c.args.held p q told value _ _ (c.in_ok-answer.ensures.value t) c.args.held.chosen.permits made known fits
          c.requires.away fair knows);
      synced = λ t made start first kept known fair so_far.
          let stands = stands_over g.W.Clocked c.args.world.now c.rows.new.link (sessions.Held c.args.held) p c.args.store.now _
          c.requires.ready c.rows.ensures.fetches.files t kept in
          let rows = c.in_ok-answer.ensures.value t in
          synced_fetched b _ _ p q start (grows Any (LinkStep AnyStep) _ _ (c.rows.ensures.fetches.files (g.W.Clocked.server_with_files t)))
          stays.resynced c.args.held.chosen.name (selects_none p b c.args.held.chosen.name fits.needed)
          (fetched_others b _ _ stands c.args.held p q told value _ _ rows c.args.held.chosen.permits made known fits c.requires.away fair)
          (fetched_named b _ _ stands c.args.held p q told value _ _ rows fits.needed)
          (fetched_learns b _ _ stands c.args.held p q told value _ _ rows fits.needed) c.args.held refl
          (fetched_read b _ _ stands c.args.held p q told value _ _ rows c.args.held.chosen.permits made known fits c.requires.away fair) so_far;
      turns = λ t.
          let follows = c.requires.ready.rests.still t in
          fetches_turn (g.W.Clocked.link c.args.world.now) (g.W.Clocked.link c.rows.new.link) c.args.held c.args.store.now p b refl
          fits.needed c.in_ok-answer.answer.0 told q c.requires.away follows
          (c.in_ok-answer.ensures.came t follows.0 follows.1) value c.in_ok-answer.ensures.name c.in_ok-answer.ensures.permits;
      entered = λ entry e. record { same = stays.resumed ∙ e.same; further = e.further; tries = e.tries; pending = e.pending };
      falls = let less : left q b < left p b =
          subst (λ (x : Meaning). (name : List ℕ) → IsSound x → need_of p x ≡ needs.Select name → left q x < left p x) c.book-book.ensures
          c.in-Ok.ensures.falls c.args.held.chosen.name (fold_sound b c.requires.ready.fold) fits.needed in
          fetch_falls c.args.held p q b less;
      counted = search rules;
      accuses = search rules;
      rests = record {
        beside = subst (λ (x : Meaning). IsSound x → IsBeside p x → IsBeside q x) c.book-book.ensures
            c.in-Ok.ensures.beside (fold_sound b c.requires.ready.fold) c.requires.ready.rests.beside;
        selected = λ none. takes.selected ∙ ap Some (sym c.in_ok-answer.ensures.name);
        stands = λ t. subst (λ (n : List ℕ). Stands (Some n) (g.W.Clocked.clock c.rows.new.link)
            (g.W.Clocked.link c.rows.new.link).connection c.in_ok-answer.answer.0.conversation.feed)
            (sym c.in_ok-answer.ensures.name) (c.in_ok-answer.ensures.stands t);
        still = search rules;
        held = tt;
      };
    })

-- the player doesn't take it
pub returns-in-Err : goal.returns-in-Err
returns-in-Err g c =
    let b = c.args.store.now.book in
    let p = c.args.player.now in
    let name = c.args.held.chosen.name in
    let told = c.in_ok-answer.answer.1 in
    let fits = c.requires.ready.rests.held in
    let is : c.unheard_of.result ≡ of_unheard name c.in-Err.unheard =
    c.unheard_of.ensures ∙ ap (λ (n : List ℕ). of_unheard n c.in-Err.unheard) (c.name.ensures ∙ c.in_ok-answer.ensures.name) in
    let why = subst (λ (x : Meaning). WhyNotChosen c.in-Err.unheard told p x) c.book-book.ensures c.in-Err.ensures.why in
    failed_over g.W.Clocked c.args.world.now c.rows.new.link (sessions.Held c.args.held) p c.args.store.now _ c.requires.ready
    c.rows.ensures.fetches.files (g.W.Disk.seen c.rows.new.link) (g.met.W.Disk.seen_is c.rows.new.link) c.chosen.new.self (Err c.unheard_of.result)
    c.unheard_of.result c.in-Err.ensures.same refl (record {
      over = asks_over g.W.Clocked _ _ _ _ _ c.rows.ensures.fetches.told c.rows.ensures.fetches.asks
          (λ t. c.rows.ensures.fetches.grounds t (box_names b)) c.rows.ensures.fetches.earlier;
      why = λ t.
          let follows = c.requires.ready.rests.still t in
          rows_not_taken (g.W.Clocked.link c.args.world.now) (g.W.Clocked.link c.rows.new.link) c.args.held c.args.store.now p b refl
          fits.needed c.in_ok-answer.answer.0 told c.in-Err.unheard c.unheard_of.result follows
          (c.in_ok-answer.ensures.came t follows.0 follows.1)
          (subst (λ (x : Meaning). IsChosenFault p x told c.in-Err.unheard) c.book-book.ensures c.in-Err.ensures.fault) why is;
      excused = λ t made here known fair.
          let stands = stands_over g.W.Clocked c.args.world.now c.rows.new.link (sessions.Held c.args.held) p c.args.store.now _
          c.requires.ready c.rows.ensures.fetches.files t here in
          let old = g.W.Clocked.clock c.args.world.now in
          let new = g.W.Clocked.clock c.rows.new.link in
          let count = c.args.held.chosen.conversation.count in
          let after = c.in_ok-answer.answer.0.conversation.count in
          let rows = c.in_ok-answer.ensures.value t in
          told_faultless p b name told c.args.held.chosen.permits made new
          (rows_gathered b old new stands c.args.held p told count after rows c.args.held.chosen.permits made known fits c.requires.away fair)
          (rows_faulty b old new stands c.args.held p told count after rows c.args.held.chosen.permits made known fits fair)
          c.in-Err.unheard c.unheard_of.result why
          (λ w delta before now is kept gathered knows lower.
          c.in-Err.ensures.honest w delta before now is (subst (λ (x : Meaning). KeptBook x w.course.now w.waiting) (sym c.book-book.ensures) kept)
          (subst (λ (x : Meaning). IsGathered delta x w) (sym c.book-book.ensures) gathered)
          (subst (λ (x : Meaning). Knows p x w) (sym c.book-book.ensures) knows) (ap (λ (u : Unheard). Err u) lower)) is;
      accuses = search rules;
    })
