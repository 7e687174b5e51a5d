use Rattle.std.proofs.Common.{Bool, Err, List, None, Option, Some, ap, refl, rules, subst, sym, ℕ, ◌<◌, ◌≡◌, ◌∙◌}
use Rattle.action_queue.specs.Book.{Meaning}
use Rattle.action_queue.specs.Queues.{due_action, tries_due}
use Rattle.imap_session.specs.declared.permits.Permits.{Permits}
use Rattle.playback.specs.Allowed.{IsReply, PermitsTruly}
use Rattle.book_laws.specs.Kept.{KeptBook}
use Rattle.playback.specs.Knows.{Knows}
use Rattle.playback.specs.Left.{Awaits, left}
use Rattle.playback.specs.Needs.{IsBeside, need_of}
use Rattle.playback.specs.Replying.{IsHeard, IsHeardFault}
use Rattle.book_laws.specs.Sound.{IsSound}
use Rattle.playback.specs.Worlds.{World, given, name_of}
use Rattle.playback.specs.declared.need.Unheard.{Unheard}
use Rattle.playback.specs.declared.player.Player.{Player}
use Rattle.play_driver.specs.Faults.{of_session, of_unheard}
use Rattle.play_driver.specs.KnownAt.{KnownAt}
use Rattle.play_driver.specs.Progress.{box_names}
use Rattle.play_driver.specs.Rests.{Rests}
use Rattle.play_driver.specs.Sessions.{count_of, held_in}
use Rattle.play_driver.specs.Settled.{IsSyncedSoFar}
use Rattle.play_driver.specs.Turning.{IsAskedFor, permits_due}
use Rattle.play_driver.specs.declared.session.Held.{Held}
use Rattle.play_driver.specs.declared.session.Session.{Session}
use Rattle.play_driver.specs.declared.session.Session.TheVariants as sessions
use Rattle.play_driver.proofs.Asked.{askable, asked_awaits, asked_reads_none, asked_remains, lawful_fold, not_answered_so, not_heard_so, only_told}
use Rattle.play_driver.proofs.AskedJoins.{asked_heard, asked_stays, heard_known}
use Rattle.play_driver.proofs.Faulting.{raised_as}
use Rattle.play_driver.proofs.Faultless.{asked_whole, heard_faultless, session_faultless}
use Rattle.play_driver.proofs.Folds.{fold_sound}
use Rattle.play_driver.proofs.GroundChains.{needed_grounded}
use Rattle.play_driver.proofs.OneTurn.{asked_fails, asked_selected, asks_turn, known_in, synced_asked}
use Rattle.play_driver.proofs.OverLink.{failed_over, stands_over, took_over}
use Rattle.play_driver.proofs.OverOne.{asked_talks}
use Rattle.play_driver.proofs.Parts.{grows}
use Rattle.play_driver.proofs.TurnsFall.{falls_free}
use Rattle.world_traits.specs.Links.{Any, AnyStep, LinkStep}
use Rattle.play_driver.proofs.asking.ask.Goals as goal

pub chosen_in-chosen-requires-clause-there : goal.chosen_in-chosen-requires-clause-there
chosen_in-chosen-requires-clause-there g c =
    asked_selected c.args.player.now c.args.store.now.book c.args.session c.args.tag c.args.command.now c.requires.ready.fold c.requires.ready.rests.beside
    (c.requires.ready.rests.selected c.requires.resting) c.requires.needed

pub ask-requires-clause-asked : goal.ask-requires-clause-asked
ask-requires-clause-asked g c =
    let b = c.args.store.now.book in
    let needed = subst (λ (x : Session). IsAskedFor (need_of c.args.player.now b) (tries_due b.queue) (count_of x) c.args.tag c.args.command.now)
    c.chosen_in-chosen.ensures c.requires.needed in
    let lawful = lawful_fold c.args.player.now b c.requires.ready.fold c.requires.ready.rests.beside in
    (askable (need_of c.args.player.now b) c.args.player.now b (tries_due b.queue) c.chosen_in-chosen.result.conversation.count c.args.tag c.args.command.now
    needed lawful).asked

pub ask-requires-clause-tagged : goal.ask-requires-clause-tagged
ask-requires-clause-tagged g c =
    let b = c.args.store.now.book in
    let needed = subst (λ (x : Session). IsAskedFor (need_of c.args.player.now b) (tries_due b.queue) (count_of x) c.args.tag c.args.command.now)
    c.chosen_in-chosen.ensures c.requires.needed in
    let lawful = lawful_fold c.args.player.now b c.requires.ready.fold c.requires.ready.rests.beside in
    (askable (need_of c.args.player.now b) c.args.player.now b (tries_due b.queue) c.chosen_in-chosen.result.conversation.count c.args.tag c.args.command.now
    needed lawful).tagged

pub ask-requires-clause-carried : goal.ask-requires-clause-carried
ask-requires-clause-carried g c =
    let b = c.args.store.now.book in
    let needed = subst (λ (x : Session). IsAskedFor (need_of c.args.player.now b) (tries_due b.queue) (count_of x) c.args.tag c.args.command.now)
    c.chosen_in-chosen.ensures c.requires.needed in
    let lawful = lawful_fold c.args.player.now b c.requires.ready.fold c.requires.ready.rests.beside in
    (askable (need_of c.args.player.now b) c.args.player.now b (tries_due b.queue) c.chosen_in-chosen.result.conversation.count c.args.tag c.args.command.now
    needed lawful).carried

-- it wasn't answered
pub returns-in_err-answer : goal.returns-in_err-answer
returns-in_err-answer g c =
    let b = c.args.store.now.book in
    let p = c.args.player.now in
    let at = c.chosen_in-chosen.result in
    let is = c.chosen_in-chosen.ensures in
    let rests = subst (Rests g.W.Clocked c.args.world.now p b) is c.requires.ready.rests in
    let needed = subst (λ (x : Session). IsAskedFor (need_of p b) (tries_due b.queue) (count_of x) c.args.tag c.args.command.now) is c.requires.needed in
    let lawful = lawful_fold p b c.requires.ready.fold c.requires.ready.rests.beside in
    let f = c.in_err-answer.field-0.0 in
    failed_over g.W.Clocked c.args.world.now c.ask.new.link c.args.session p c.args.store.now _ c.requires.ready
    c.ask.ensures.talks.files (g.W.Disk.seen c.ask.new.link) (g.met.W.Disk.seen_is c.ask.new.link)
    c.args.player.now c.from_residual.result (of_session f) refl
    (raised_as c.from_residual.result (of_session f) c.from_residual.ensures.1) (record {
      over = record {
        joined = λ t made stands known.
            asked_stays p b at.permits made _ at.conversation.count c.args.tag c.args.command.now at.name stands
            (known_in c.args.session at is made _ _ _ known) (rests.selected refl) (rests.stands t).selects needed lawful _ (c.ask.ensures.talks.told t);
        talks = λ t. asked_talks _ c.args.tag c.args.command.now
            (asked_remains p b _ c.args.tag c.args.command.now c.requires.ready.fold c.requires.ready.rests.beside c.requires.needed) _ _
            (c.ask.ensures.talks.told t);
        grounds = λ t. needed_grounded (box_names b) p b c.requires.ready.fold c.requires.ready.rests.beside at.conversation.count
            c.args.tag c.args.command.now needed at.name _ _ _ _ (rests.stands t) (c.ask.ensures.talks.told t);
        earlier = c.ask.ensures.talks.earlier;
      };
      why = λ t.
          let follows = rests.still t in
          asked_fails c.args.session at is (g.W.Clocked.link c.args.world.now) (g.W.Clocked.link c.ask.new.link) c.args.store.now p (of_session f)
          (not_answered_so _ _ at c.args.store.now p b c.args.tag c.args.command.now f (of_session f) refl
          needed follows (c.ask.ensures.talks.sent t) (c.ask.ensures.fails.why t follows.0 follows.1 f (search rules)) refl);
      excused = λ t made kept known fair.
          let files = g.W.Clocked.server_with_files t in
          let follows = rests.still files in
          session_faultless c.ask.result (c.ask.ensures.talks.honest t) f (of_session f) c.in_err-answer.was
          (asked_whole follows.0 c.args.tag c.args.command.now follows.1.connection.received _ f
          (c.ask.ensures.fails.why files follows.0 follows.1 f c.in_err-answer.was)) refl;
      accuses = search rules;
    })

-- the player takes the reply
pub returns-in-Ok : goal.returns-in-Ok
returns-in-Ok g c =
    let b = c.args.store.now.book in
    let p = c.args.player.now in
    let at = c.chosen_in-chosen.result in
    let is = c.chosen_in-chosen.ensures in
    let rests = subst (Rests g.W.Clocked c.args.world.now p b) is c.requires.ready.rests in
    let needed = subst (λ (x : Session). IsAskedFor (need_of p b) (tries_due b.queue) (count_of x) c.args.tag c.args.command.now) is c.requires.needed in
    let lawful = lawful_fold p b c.requires.ready.fold c.requires.ready.rests.beside in
    let permits : c.permits_due-permits.result ≡ permits_due at.permits (due_action b.queue) =
    c.permits_due-permits.ensures ∙ ap (λ (x : Meaning). permits_due c.in_ok-answer.answer.0.permits (due_action x.queue)) c.book-book.ensures
    ∙ ap (λ (x : Option Permits). permits_due x (due_action b.queue)) c.in_ok-answer.ensures.permits in
    let q = c.heard.new.self in
    let r = c.in_ok-answer.answer.1 in
    let value : IsHeard p b c.permits_due-permits.result r q =
    subst (λ (x : Meaning). IsSound x → IsHeard p x c.permits_due-permits.result r q) c.book-book.ensures c.in-Ok.ensures.value
    (fold_sound b c.requires.ready.fold) in
    let only = only_told p b c.permits_due-permits.result r q value in
    let knows =
    subst (λ (x : Meaning). (w : World) → KeptBook x w.course.now w.waiting → IsReply r w → PermitsTruly c.permits_due-permits.result x w →
    Knows p x w → Knows q x (given w)) c.book-book.ensures c.in-Ok.ensures.knows in
    took_over g.W.Clocked c.args.world.now c.ask.new.link c.args.session p c.args.store.now _ c.requires.ready
    c.ask.ensures.talks.files (g.W.Disk.seen c.ask.new.link) (g.met.W.Disk.seen_is c.ask.new.link)
    q (sessions.Chosen c.in_ok-answer.answer.0) (record {
      over = record {
        joined = λ t made stands known.
            asked_stays p b at.permits made _ at.conversation.count c.args.tag c.args.command.now at.name stands
            (known_in c.args.session at is made _ _ _ known) (rests.selected refl) (rests.stands t).selects needed lawful _ (c.ask.ensures.talks.told t);
        talks = λ t. asked_talks _ c.args.tag c.args.command.now
            (asked_remains p b _ c.args.tag c.args.command.now c.requires.ready.fold c.requires.ready.rests.beside c.requires.needed) _ _
            (c.ask.ensures.talks.told t);
        grounds = λ t. needed_grounded (box_names b) p b c.requires.ready.fold c.requires.ready.rests.beside at.conversation.count
            c.args.tag c.args.command.now needed at.name _ _ _ _ (rests.stands t) (c.ask.ensures.talks.told t);
        earlier = c.ask.ensures.talks.earlier;
      };
      known = λ t made stands known fair.
          let heard = asked_heard p b at.permits made _ at.conversation.count c.args.tag c.args.command.now at.name stands
          (known_in c.args.session at is made _ _ _ known) (rests.selected refl) (rests.stands t).selects needed lawful _
          (c.ask.ensures.talks.told t) fair c.in_ok-answer.answer.1 _ _
          (c.in_ok-answer.ensures.replied.answered t _ (rests.stands t)) c.in_ok-answer.ensures.replied.accepted in
          subst (λ (o : Option Permits). KnownAt made (g.W.Clocked.clock c.ask.new.link) o None q b) (sym c.in_ok-answer.ensures.permits)
          (heard_known p q b at.permits made _ r at.name ((c.in_ok-answer.ensures.stands t).selects ∙ ap Some c.in_ok-answer.ensures.name) heard
          (λ w kept reply polite here. knows w kept reply (subst (λ (x : Bool). PermitsTruly x b w) (sym permits) polite) here));
      synced = λ t made start first kept known fair so_far.
          let stands = c.requires.ready.rests.stands t in
          synced_asked _ _ _ _ _ start (grows Any (LinkStep AnyStep) _ _ (c.ask.ensures.talks.files (g.W.Clocked.server_with_files t)))
          (ap (λ (x : Player). x.resynced) only) (ap (λ (x : Player). x.learns) only)
          (asked_reads_none p b _ c.args.tag c.args.command.now _ _ c.requires.ready.fold c.requires.ready.rests.beside c.requires.needed stands.nothing
          stands.no_part (c.ask.ensures.talks.told t))
          (subst (λ (h : Option Held). IsSyncedSoFar start (g.W.Clocked.clock c.args.world.now) h p b) c.requires.resting so_far);
      turns = λ t.
          let follows = rests.still t in
          asks_turn c.args.session at is (g.W.Clocked.link c.args.world.now) (g.W.Clocked.link c.ask.new.link)
          c.args.store.now p c.in_ok-answer.answer.0 q b c.args.tag c.args.command.now refl c.requires.needed
          c.in_ok-answer.ensures.name c.in_ok-answer.ensures.permits (
            r,
            record {
              heard = follows.0;
              hears = follows.1;
              came = c.in_ok-answer.ensures.replied.came t follows.0 follows.1;
              counted = c.in_ok-answer.ensures.counted;
            },
            subst (λ (x : Bool). IsHeard p b x r q) permits value,
          );
      entered = λ entry e. record { same = ap (λ (x : Player). x.resumed) only ∙ e.same; further = e.further; tries = e.tries; pending = e.pending };
      falls = falls_free (held_in c.args.session) c.requires.resting p q b b
          (subst (λ (x : Meaning). IsSound x → Awaits (need_of p x) → left q x < left p x) c.book-book.ensures
          c.in-Ok.ensures.falls (fold_sound b c.requires.ready.fold)
          (asked_awaits (need_of p b) _ _ c.args.tag c.args.command.now c.requires.needed));
      counted = search rules;
      accuses = search rules;
      rests = record {
        beside = subst (λ (x : Meaning). IsSound x → IsBeside p x → IsBeside q x) c.book-book.ensures
            c.in-Ok.ensures.beside (fold_sound b c.requires.ready.fold) c.requires.ready.rests.beside;
        selected = λ none. ap (λ (x : Player). name_of x.selected) only ∙ rests.selected refl ∙ ap Some (sym c.in_ok-answer.ensures.name);
        stands = c.in_ok-answer.ensures.stands;
        still = c.in_ok-answer.ensures.still;
        held = tt;
      };
    })

-- the player doesn't take it
pub returns-in-Err : goal.returns-in-Err
returns-in-Err g c =
    let b = c.args.store.now.book in
    let p = c.args.player.now in
    let at = c.chosen_in-chosen.result in
    let is = c.chosen_in-chosen.ensures in
    let rests = subst (Rests g.W.Clocked c.args.world.now p b) is c.requires.ready.rests in
    let needed = subst (λ (x : Session). IsAskedFor (need_of p b) (tries_due b.queue) (count_of x) c.args.tag c.args.command.now) is c.requires.needed in
    let lawful = lawful_fold p b c.requires.ready.fold c.requires.ready.rests.beside in
    let permits : c.permits_due-permits.result ≡ permits_due at.permits (due_action b.queue) =
    c.permits_due-permits.ensures ∙ ap (λ (x : Meaning). permits_due c.in_ok-answer.answer.0.permits (due_action x.queue)) c.book-book.ensures
    ∙ ap (λ (x : Option Permits). permits_due x (due_action b.queue)) c.in_ok-answer.ensures.permits in
    let r = c.in_ok-answer.answer.1 in
    let fault = subst (λ (x : Meaning). IsHeardFault p x c.permits_due-permits.result r c.in-Err.unheard) c.book-book.ensures c.in-Err.ensures.fault in
    let told = c.unheard_of.ensures ∙ ap (λ (n : List ℕ). of_unheard n c.in-Err.unheard) (c.name.ensures ∙ c.in_ok-answer.ensures.name) in
    failed_over g.W.Clocked c.args.world.now c.ask.new.link c.args.session p c.args.store.now _ c.requires.ready
    c.ask.ensures.talks.files (g.W.Disk.seen c.ask.new.link) (g.met.W.Disk.seen_is c.ask.new.link)
    c.heard.new.self (Err c.unheard_of.result)
    c.unheard_of.result c.in-Err.ensures.same refl (record {
      over = record {
        joined = λ t made stands known.
            asked_stays p b at.permits made _ at.conversation.count c.args.tag c.args.command.now at.name stands
            (known_in c.args.session at is made _ _ _ known) (rests.selected refl) (rests.stands t).selects needed lawful _ (c.ask.ensures.talks.told t);
        talks = λ t. asked_talks _ c.args.tag c.args.command.now
            (asked_remains p b _ c.args.tag c.args.command.now c.requires.ready.fold c.requires.ready.rests.beside c.requires.needed) _ _
            (c.ask.ensures.talks.told t);
        grounds = λ t. needed_grounded (box_names b) p b c.requires.ready.fold c.requires.ready.rests.beside at.conversation.count
            c.args.tag c.args.command.now needed at.name _ _ _ _ (rests.stands t) (c.ask.ensures.talks.told t);
        earlier = c.ask.ensures.talks.earlier;
      };
      why = λ t.
          let follows = rests.still t in
          asked_fails c.args.session at is (g.W.Clocked.link c.args.world.now)
          (g.W.Clocked.link c.ask.new.link) c.args.store.now p c.unheard_of.result
          (not_heard_so _ _ at c.in_ok-answer.answer.0 c.args.store.now p b c.args.tag c.args.command.now r c.in-Err.unheard c.unheard_of.result refl
          needed (record {
            heard = follows.0;
            hears = follows.1;
            came = c.in_ok-answer.ensures.replied.came t follows.0 follows.1;
            counted = c.in_ok-answer.ensures.counted;
          }) (subst (λ (x : Bool). IsHeardFault p b x r c.in-Err.unheard) permits fault) told);
      excused = λ t made here known fair.
          let stands = stands_over g.W.Clocked c.args.world.now c.ask.new.link c.args.session p c.args.store.now _
          c.requires.ready c.ask.ensures.talks.files t here in
          let heard = asked_heard p b at.permits made _ at.conversation.count c.args.tag c.args.command.now at.name stands
          (known_in c.args.session at is made _ _ _ known) (rests.selected refl) (rests.stands t).selects needed lawful _
          (c.ask.ensures.talks.told t) fair c.in_ok-answer.answer.1 _ _
          (c.in_ok-answer.ensures.replied.answered t _ (rests.stands t)) c.in_ok-answer.ensures.replied.accepted in
          heard_faultless p b at.permits c.permits_due-permits.result made _ r at.name heard c.in-Err.unheard c.unheard_of.result fault
          (λ w item kept reply knows lacks.
          c.in-Err.ensures.honest w item (subst (λ (x : Meaning). KeptBook x w.course.now w.waiting) (sym c.book-book.ensures) kept) reply
          (subst (λ (x : Meaning). Knows p x w) (sym c.book-book.ensures) knows) (ap (λ (u : Unheard). Err u) lacks)) told;
      accuses = search rules;
    })
