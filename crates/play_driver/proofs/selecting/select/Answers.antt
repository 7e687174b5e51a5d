use Rattle.std.specs.Option.{option_copied}
use Rattle.std.proofs.Common.{Err, List, Ok, Option, Result, Some, ap, refl, rules, subst, sym, ℕ, ◌+◌, ◌<◌, ◌≡◌, ◌≤◌, ◌∙◌}
use Rattle.action_queue.specs.Book.{Meaning, cache_at, meaning}
use Rattle.imap_session.specs.Session.{Follows, Stands}
use Rattle.mailbox_cache.specs.declared.cache.Cache.{Cache}
use Rattle.mailbox_cache.specs.declared.delta.Delta.{Delta}
use Rattle.qresync_core.specs.declared.fault.ResyncFault.{ResyncFault}
use Rattle.playback.specs.declared.need.Unheard.{Unheard}
use Rattle.playback.specs.Allowed.{IsGathered, WhyNotChosen}
use Rattle.playback.specs.Choosing.{IsChosen, IsChosenFault}
use Rattle.book_laws.specs.Kept.{KeptBook}
use Rattle.playback.specs.Knows.{Knows}
use Rattle.playback.specs.Left.{left}
use Rattle.playback.specs.Needs.{IsBeside, need_of}
use Rattle.playback.specs.Worlds.{World, given}
use Rattle.playback.specs.declared.need.Need.TheVariants as needs
use Rattle.book_laws.specs.Sound.{IsSound}
use Rattle.play_driver.specs.Faults.{of_session}
use Rattle.play_driver.specs.Progress.{box_names}
use Rattle.play_driver.specs.KnownAt.{KnownAt}
use Rattle.play_driver.specs.Renewing.{session_of}
use Rattle.play_driver.specs.Resynchronising.{Resyncs}
use Rattle.play_driver.specs.Sessions.{count_of, feed_of, held_in, permits_in, selected_in}
use Rattle.play_driver.specs.Settled.{IsSyncedSoFar}
use Rattle.play_driver.specs.declared.resync.Heard.{Heard}
use Rattle.play_driver.specs.declared.session.Held.{Held}
use Rattle.play_driver.specs.Stages.{stage_of}
use Rattle.play_driver.specs.declared.session.Session.TheVariants as sessions
use Rattle.play_driver.proofs.Concluding.{came_then, held_named, learns_then, renewed_then, resyncs_then, told_named}
use Rattle.play_driver.proofs.Faulting.{raised_as}
use Rattle.play_driver.proofs.Faultless.{memory_resynced, resync_whole, session_faultless, told_faultless}
use Rattle.play_driver.proofs.Folds.{fold_sound}
use Rattle.play_driver.proofs.GatheredKnown.{chosen_known, chosen_learns, chosen_others, chosen_read}
use Rattle.play_driver.proofs.GatheredTaken.{came_chosen, chosen_takes, chosen_keeps, fits_wanted, not_asked, not_taken, selects_none, taken_delta}
use Rattle.play_driver.proofs.GroundChains.{needed_named}
use Rattle.play_driver.proofs.HeldSelect.{came_held, fits_held, known_held, needed_held, others_held, read_held, reset_held}
use Rattle.play_driver.proofs.HeldTurn.{holds_turn}
use Rattle.play_driver.proofs.KnownLaws.{known_law}
use Rattle.play_driver.proofs.OneTurn.{selects_turn, synced_held, synced_read}
use Rattle.play_driver.proofs.OverLink.{asks_over, failed_over, stands_over, took_over}
use Rattle.play_driver.proofs.Parts.{grows}
use Rattle.play_driver.proofs.TurnsFall.{falls_free, falls_held}
use Rattle.world_traits.specs.Links.{Any, AnyStep, LinkStep}
use Rattle.play_driver.proofs.selecting.select.Goals as goal

-- a question wasn't answered
pub returns-in_err-answer : goal.returns-in_err-answer
returns-in_err-answer g c =
    let f = c.in_err-answer.field-0.0 in
    failed_over g.W.Clocked c.args.world.now c.resynchronise.new.link c.args.session c.args.player.now c.args.store.now _ c.requires.ready
    c.resynchronise.ensures.gathers.files (g.W.Disk.seen c.resynchronise.new.link) (g.met.W.Disk.seen_is c.resynchronise.new.link)
    c.args.player.now c.from_residual.result (of_session f) refl
    (raised_as c.from_residual.result (of_session f) c.from_residual.ensures.1) (record {
      over = asks_over g.W.Clocked _ _ _ _ _ c.resynchronise.ensures.gathers.told c.resynchronise.ensures.gathers.asks
          (λ t. c.resynchronise.ensures.gathers.grounds t (box_names c.args.store.now.book)
          (needed_named c.args.player.now c.args.store.now.book c.args.name.now c.requires.ready.fold c.requires.ready.rests.beside c.requires.needed))
          c.resynchronise.ensures.gathers.earlier;
      why = λ t.
          not_asked (g.W.Clocked.link c.args.world.now) c.args.session c.args.store.now c.args.player.now c.args.store.now.book refl c.args.name.now
          (option_copied c.cache_in-kept.result) (c.cache_in-kept.ensures ∙ ap (λ (x : Meaning). cache_at c.args.name.now x.boxes) c.book-book.ensures)
          c.requires.needed c.requires.resting (c.requires.ready.rests.still t)
          (g.W.Clocked.link c.resynchronise.new.link) f (of_session f) refl
          (λ heard h. c.resynchronise.ensures.gathers.why t _ heard h f c.in_err-answer.was);
      excused = λ t made kept known fair.
          let files = g.W.Clocked.server_with_files t in
          let follows = c.requires.ready.rests.still files in
          session_faultless c.resynchronise.result (c.resynchronise.ensures.gathers.honest t) f (of_session f) c.in_err-answer.was
          (resync_whole (g.W.Clocked.link c.resynchronise.new.link) f c.args.name.now (option_copied c.cache_in-kept.result) (count_of c.args.session)
          (g.W.Clocked.link c.args.world.now).sent follows.1.connection.received follows.0
          (c.resynchronise.ensures.gathers.why files _ follows.0 follows.1 f c.in_err-answer.was)) refl;
      accuses = search rules;
    })

-- its reply is held
pub returns-in-Renewed : goal.returns-in-Renewed
returns-in-Renewed g c =
    let b = c.args.store.now.book in
    let p = c.args.player.now in
    let held = c.in-Renewed.held in
    let name = c.args.name.now in
    let cache = option_copied c.cache_in-kept.result in
    let kept : option_copied c.cache_in-kept.result ≡ cache_at c.args.name.now b.boxes =
    c.cache_in-kept.ensures ∙ ap (λ (x : Meaning). cache_at c.args.name.now x.boxes) c.book-book.ensures in
    let x = renewed_then g.W.Clocked name cache c.args.world.now c.resynchronise.new.link c.args.session _
    held c.in-Renewed.is c.in_ok-answer.ensures.renewed in
    let named = held_named _ held name c.in-Renewed.is c.in_ok-answer.ensures.name in
    let none = selects_none p b name c.requires.needed in
    took_over g.W.Clocked c.args.world.now c.resynchronise.new.link c.args.session p c.args.store.now _ c.requires.ready
    c.resynchronise.ensures.gathers.files (g.W.Disk.seen c.resynchronise.new.link) (g.met.W.Disk.seen_is c.resynchronise.new.link)
    p (sessions.Held held) (record {
      over = asks_over g.W.Clocked _ _ _ _ _ c.resynchronise.ensures.gathers.told c.resynchronise.ensures.gathers.asks
          (λ t. c.resynchronise.ensures.gathers.grounds t (box_names c.args.store.now.book)
          (needed_named c.args.player.now c.args.store.now.book c.args.name.now c.requires.ready.fold c.requires.ready.rests.beside c.requires.needed))
          c.resynchronise.ensures.gathers.earlier;
      known = λ t made stands known fair.
          known_held g.W.Clocked c.args.world.now c.resynchronise.new.link c.args.session held name cache b p named kept c.requires.needed x t stands fair made
          (permits_in c.args.session)
          (subst (λ (h : Option Held). KnownAt made (g.W.Clocked.clock c.args.world.now) (permits_in c.args.session) h p b) c.requires.resting known)
          (c.requires.ready.rests.stands t).selects;
      synced = λ t made start first here known fair so_far.
          let stands = stands_over g.W.Clocked c.args.world.now c.resynchronise.new.link c.args.session p c.args.store.now _
          c.requires.ready c.resynchronise.ensures.gathers.files t here in
          synced_held b _ _ p p start (grows Any (LinkStep AnyStep) _ _ (c.resynchronise.ensures.gathers.files (g.W.Clocked.server_with_files t))) refl
          name none
          (others_held g.W.Clocked c.args.world.now c.resynchronise.new.link c.args.session held name cache b p named kept c.requires.needed x t stands fair)
          held named none
          (read_held g.W.Clocked c.args.world.now c.resynchronise.new.link c.args.session held name cache b p named kept c.requires.needed x t stands fair)
          (subst (λ (h : Option Held). IsSyncedSoFar start (g.W.Clocked.clock c.args.world.now) h p b) c.requires.resting so_far);
      turns = λ t.
          let follows = c.requires.ready.rests.still t in
          holds_turn (g.W.Clocked.link c.args.world.now) (g.W.Clocked.link c.resynchronise.new.link) c.args.session held c.args.store.now p
          c.requires.resting
          (needed_held g.W.Clocked c.args.world.now c.resynchronise.new.link c.args.session held name cache b p named kept c.requires.needed x)
          x.reply _ x.is (x.tells x.reply x.is)
          (reset_held g.W.Clocked c.args.world.now c.resynchronise.new.link c.args.session held name cache b p named kept c.requires.needed x) x.permitted x.asked follows
          (came_held g.W.Clocked c.args.world.now c.resynchronise.new.link c.args.session held name cache b p named kept c.requires.needed x t follows.0 follows.1);
      entered = λ entry e. e;
      falls = falls_held (held_in c.args.session) c.requires.resting held p b;
      counted = subst (λ (h : Heard). count_of (session_of h) ≤ count_of c.args.session + 2) c.in-Renewed.is c.in_ok-answer.ensures.counted;
      accuses = search rules;
      rests = record {
        beside = c.requires.ready.rests.beside;
        selected = λ none. absurd (cc);
        stands = λ t. subst (λ (n : List ℕ). Stands (Some n) (g.W.Clocked.clock c.resynchronise.new.link)
            (g.W.Clocked.link c.resynchronise.new.link).connection held.chosen.conversation.feed) (sym named)
            (subst (λ (h : Heard). Stands (Some name) (g.W.Clocked.clock c.resynchronise.new.link)
            (g.W.Clocked.link c.resynchronise.new.link).connection (feed_of (session_of h))) c.in-Renewed.is (c.in_ok-answer.ensures.stands t));
        still = λ t. subst (λ (h : Heard). Follows (g.W.Clocked.link c.resynchronise.new.link).connection (feed_of (session_of h))) c.in-Renewed.is
            (c.in_ok-answer.ensures.still t);
        held = fits_held g.W.Clocked c.args.world.now c.resynchronise.new.link c.args.session held name cache b p named kept c.requires.needed x;
      };
    })

-- what is handed over fits what the player needs
pub chosen-requires : goal.chosen-requires
chosen-requires g c =
    let learnable = learns_then g.W.Clocked c.args.name.now (option_copied c.cache_in-kept.result) c.args.world.now c.resynchronise.new.link c.args.session _
    c.in-Told.chosen c.in-Told.told c.in-Told.is c.in_ok-answer.ensures.learnable in
    fits_wanted c.args.player.now (meaning c.book-book.result.now) c.args.name.now (option_copied c.cache_in-kept.result)
    (subst (λ (x : Meaning). need_of c.args.player.now x ≡ needs.Select c.args.name.now) (sym c.book-book.ensures) c.requires.needed)
    c.cache_in-kept.ensures c.in-Told.told learnable

-- the player takes it
pub returns-in-Ok : goal.returns-in-Ok
returns-in-Ok g c =
    let b = c.args.store.now.book in
    let p = c.args.player.now in
    let q = c.chosen.new.self in
    let name = c.args.name.now in
    let chosen = c.in-Told.chosen in
    let told = c.in-Told.told in
    let cache = option_copied c.cache_in-kept.result in
    let named = told_named _ chosen told name c.in-Told.is c.in_ok-answer.ensures.name in
    let kept : option_copied c.cache_in-kept.result ≡ cache_at c.args.name.now b.boxes =
    c.cache_in-kept.ensures ∙ ap (λ (x : Meaning). cache_at c.args.name.now x.boxes) c.book-book.ensures in
    let value : IsChosen p b told q = subst (λ (x : Meaning). IsChosen p x told q) c.book-book.ensures c.in-Ok.ensures.value in
    let knows =
    subst (λ (x : Meaning). (delta : Delta) (w : World) → told ≡ Ok delta → KeptBook x w.course.now w.waiting →
    IsGathered delta x w → Knows p x w → Knows q x (given w)) c.book-book.ensures c.in-Ok.ensures.knows in
    let stays = chosen_keeps p q b told value in
    let taken = taken_delta p q b told value in
    let takes = chosen_takes p b taken.0 name q c.requires.needed taken.2 in
    took_over g.W.Clocked c.args.world.now c.resynchronise.new.link c.args.session p c.args.store.now _ c.requires.ready
    c.resynchronise.ensures.gathers.files (g.W.Disk.seen c.resynchronise.new.link) (g.met.W.Disk.seen_is c.resynchronise.new.link)
    q (sessions.Chosen chosen) (record {
      over = asks_over g.W.Clocked _ _ _ _ _ c.resynchronise.ensures.gathers.told c.resynchronise.ensures.gathers.asks
          (λ t. c.resynchronise.ensures.gathers.grounds t (box_names c.args.store.now.book)
          (needed_named c.args.player.now c.args.store.now.book c.args.name.now c.requires.ready.fold c.requires.ready.rests.beside c.requires.needed))
          c.resynchronise.ensures.gathers.earlier;
      known = λ t made stands known fair.
          let resyncs = resyncs_then g.W.Clocked name cache c.args.world.now c.resynchronise.new.link c.args.session _
          chosen told c.in-Told.is (c.in_ok-answer.ensures.value t) in
          chosen_known b _ _ stands p q name c.requires.needed fair told value cache kept (selected_in c.args.session)
          (count_of c.args.session) chosen.conversation.count chosen.permits resyncs made
          (permits_in c.args.session) (c.requires.ready.rests.stands t).selects (c.resynchronise.ensures.gathers.asks t)
          (subst (λ (h : Option Held). KnownAt made (g.W.Clocked.clock c.args.world.now) (permits_in c.args.session) h p b) c.requires.resting known)
          knows;
      synced = λ t made start first here known fair so_far.
          let stands = stands_over g.W.Clocked c.args.world.now c.resynchronise.new.link c.args.session p c.args.store.now _
          c.requires.ready c.resynchronise.ensures.gathers.files t here in
          let resyncs = resyncs_then g.W.Clocked name cache c.args.world.now c.resynchronise.new.link c.args.session _
          chosen told c.in-Told.is (c.in_ok-answer.ensures.value t) in
          let read = chosen_read b _ _ stands p q name c.requires.needed fair told value cache kept (selected_in c.args.session)
          (count_of c.args.session) chosen.conversation.count chosen.permits resyncs in
          synced_read b _ _ p q start
          (grows Any (LinkStep AnyStep) _ _ (c.resynchronise.ensures.gathers.files (g.W.Clocked.server_with_files t)))
          stays.resynced name (selects_none p b name c.requires.needed)
          (chosen_others b _ _ stands p q name c.requires.needed fair told value cache kept (selected_in c.args.session)
          (count_of c.args.session) chosen.conversation.count chosen.permits resyncs)
          (λ next is. (read next is).0)
          (chosen_learns b _ _ stands p q name c.requires.needed fair told value cache kept (selected_in c.args.session)
          (count_of c.args.session) chosen.conversation.count chosen.permits resyncs)
          (λ next is. (read next is).1)
          (subst (λ (h : Option Held). IsSyncedSoFar start (g.W.Clocked.clock c.args.world.now) h p b) c.requires.resting so_far);
      turns = λ t.
          selects_turn (g.W.Clocked.link c.args.world.now) (g.W.Clocked.link c.resynchronise.new.link) c.args.session chosen
          c.args.store.now p q b name refl c.requires.resting c.requires.needed named
          (came_chosen name cache (cache_at name b.boxes) kept
          (stage_of (g.W.Clocked.link c.args.world.now) c.args.session)
          (stage_of (g.W.Clocked.link c.resynchronise.new.link) (sessions.Chosen chosen)) (c.requires.ready.rests.still t)
          told chosen.permits (λ heard h. came_then g.W.Clocked name cache c.args.world.now c.resynchronise.new.link c.args.session _
          chosen told c.in-Told.is heard h (c.in_ok-answer.ensures.came t heard h)) p q b value);
      entered = λ entry e. record { same = stays.resumed ∙ e.same; further = e.further; tries = e.tries; pending = e.pending };
      falls = falls_free (held_in c.args.session) c.requires.resting p q b b
          (subst (λ (x : Meaning). (name : List ℕ) → IsSound x → need_of p x ≡ needs.Select name → left q x < left p x) c.book-book.ensures
          c.in-Ok.ensures.falls name (fold_sound b c.requires.ready.fold) c.requires.needed);
      counted = subst (λ (h : Heard). count_of (session_of h) ≤ count_of c.args.session + 2) c.in-Told.is c.in_ok-answer.ensures.counted;
      accuses = search rules;
      rests = record {
        beside = subst (λ (x : Meaning). IsSound x → IsBeside p x → IsBeside q x) c.book-book.ensures
            c.in-Ok.ensures.beside (fold_sound b c.requires.ready.fold) c.requires.ready.rests.beside;
        selected = λ none. takes.selected ∙ ap Some (sym named);
        stands = λ t. subst (λ (n : List ℕ). Stands (Some n) (g.W.Clocked.clock c.resynchronise.new.link)
            (g.W.Clocked.link c.resynchronise.new.link).connection chosen.conversation.feed) (sym named)
            (subst (λ (h : Heard). Stands (Some name) (g.W.Clocked.clock c.resynchronise.new.link)
            (g.W.Clocked.link c.resynchronise.new.link).connection (feed_of (session_of h))) c.in-Told.is (c.in_ok-answer.ensures.stands t));
        still = λ t. subst (λ (h : Heard). Follows (g.W.Clocked.link c.resynchronise.new.link).connection (feed_of (session_of h))) c.in-Told.is
            (c.in_ok-answer.ensures.still t);
        held = tt;
      };
    })

-- the player doesn't take it
pub returns-in-Err : goal.returns-in-Err
returns-in-Err g c =
    let b = c.args.store.now.book in
    let p = c.args.player.now in
    let name = c.args.name.now in
    let chosen = c.in-Told.chosen in
    let told = c.in-Told.told in
    let cache = option_copied c.cache_in-kept.result in
    let kept : option_copied c.cache_in-kept.result ≡ cache_at c.args.name.now b.boxes =
    c.cache_in-kept.ensures ∙ ap (λ (x : Meaning). cache_at c.args.name.now x.boxes) c.book-book.ensures in
    let why = subst (λ (x : Meaning). WhyNotChosen c.in-Err.unheard told p x) c.book-book.ensures c.in-Err.ensures.why in
    failed_over g.W.Clocked c.args.world.now c.resynchronise.new.link c.args.session p c.args.store.now _ c.requires.ready
    c.resynchronise.ensures.gathers.files (g.W.Disk.seen c.resynchronise.new.link) (g.met.W.Disk.seen_is c.resynchronise.new.link)
    c.chosen.new.self (Err c.unheard_of.result)
    c.unheard_of.result c.in-Err.ensures.same refl (record {
      over = asks_over g.W.Clocked _ _ _ _ _ c.resynchronise.ensures.gathers.told c.resynchronise.ensures.gathers.asks
          (λ t. c.resynchronise.ensures.gathers.grounds t (box_names c.args.store.now.book)
          (needed_named c.args.player.now c.args.store.now.book c.args.name.now c.requires.ready.fold c.requires.ready.rests.beside c.requires.needed))
          c.resynchronise.ensures.gathers.earlier;
      why = λ t.
          not_taken (g.W.Clocked.link c.args.world.now) c.args.session c.args.store.now p b refl name
          cache kept c.requires.needed c.requires.resting (c.requires.ready.rests.still t)
          (stage_of (g.W.Clocked.link c.resynchronise.new.link) (sessions.Chosen chosen)) told
          chosen.permits c.in-Err.unheard c.unheard_of.result (λ heard h. came_then g.W.Clocked name cache c.args.world.now c.resynchronise.new.link c.args.session _
          chosen told c.in-Told.is heard h (c.in_ok-answer.ensures.came t heard h))
          (subst (λ (x : Meaning). IsChosenFault p x told c.in-Err.unheard) c.book-book.ensures c.in-Err.ensures.fault) why c.unheard_of.ensures;
      excused = λ t made here known fair.
          let stands = stands_over g.W.Clocked c.args.world.now c.resynchronise.new.link c.args.session p c.args.store.now _
          c.requires.ready c.resynchronise.ensures.gathers.files t here in
          let old = g.W.Clocked.clock c.args.world.now in
          let new = g.W.Clocked.clock c.resynchronise.new.link in
          let resyncs = resyncs_then g.W.Clocked name cache c.args.world.now c.resynchronise.new.link c.args.session _
          chosen told c.in-Told.is (c.in_ok-answer.ensures.value t) in
          told_faultless p b name told chosen.permits made new
          (λ delta is. known_law.gathers p b name delta (count_of c.args.session)
          chosen.conversation.count (permits_in c.args.session) chosen.permits made _ _ stands
          (subst (λ (h : Option Held). KnownAt made old (permits_in c.args.session) h p b) c.requires.resting known)
          c.requires.needed (c.resynchronise.ensures.gathers.asks t) fair
          (subst (λ (s : Option (List ℕ)). Resyncs s (count_of c.args.session) chosen.conversation.count name
          (cache_at name b.boxes) (Ok delta) chosen.permits old new) (sym (c.requires.ready.rests.stands t).selects)
          (subst (λ (o : Option Cache). Resyncs (selected_in c.args.session) (count_of c.args.session) chosen.conversation.count name
          o (Ok delta) chosen.permits old new) kept
          (subst (λ (d : Result Delta ResyncFault). Resyncs (selected_in c.args.session) (count_of c.args.session) chosen.conversation.count
          name cache d chosen.permits old new) is resyncs))))
          (memory_resynced b _ _ stands fair name cache kept told
          (selected_in c.args.session) (count_of c.args.session) chosen.conversation.count chosen.permits resyncs)
          c.in-Err.unheard c.unheard_of.result why
          (λ w delta before now is kept_book gathered knows lower.
          c.in-Err.ensures.honest w delta before now is (subst (λ (x : Meaning). KeptBook x w.course.now w.waiting) (sym c.book-book.ensures) kept_book)
          (subst (λ (x : Meaning). IsGathered delta x w) (sym c.book-book.ensures) gathered)
          (subst (λ (x : Meaning). Knows p x w) (sym c.book-book.ensures) knows) (ap (λ (u : Unheard). Err u) lower))
          c.unheard_of.ensures;
      accuses = search rules;
    })
