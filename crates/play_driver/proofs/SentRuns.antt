-- A whole run sends each command of an action once at most.
use Rattle.std.proofs.Common.{◌≡◌, ◌⊎◌, ⊎_elim, inl, inr, ℕ, Bool, true, List, [], ◌∷◌, ◌++◌, ◌<◌, ◌≤◌, length, refl, sym, ap, subst, arith}
use Rattle.std.proofs.lemmas.List.{append-nil}
use Rattle.std.specs.Option.{option_to_list}
use Rattle.std.specs.declared.alloc.Global.{Global}
use Rattle.action_queue.specs.Book.{cache_at}
use Rattle.mail_base.specs.Account.{Credentials}
use Rattle.imap_model.specs.declared.command.Command.TheVariants as commands
use Rattle.imap_session.specs.Dialogue.{Dialogue, next_tag}
use Rattle.imap_session.specs.Dialogue.Dialogue.{Asks, Ends}
use Rattle.imap_session.specs.LogIn.{enabling, entering}
use Rattle.imap_session.specs.declared.fault.SessionFault.{SessionFault}
use Rattle.imap_session.specs.declared.ready.Ready.{Ready}
use Rattle.playback.specs.Choosing.{begun_with}
use Rattle.playback.specs.Left.{left}
use Rattle.playback.specs.declared.player.Player.{Player}
use Rattle.store_core.specs.Holding.{Holding}
use Rattle.store_core.specs.Mail.{mail}
use Rattle.world_traits.specs.LinkState.{LinkState}
use Rattle.play_driver.specs.Entering.{HasEntered, HasGreeted, HasLoggedIn, NotEntered}
use Rattle.play_driver.specs.Entering.NotEntered.{not_enabled, not_logged_in, unconnected, ungreeted}
use Rattle.play_driver.specs.Playing.{HasLeft, NotLeft}
use Rattle.play_driver.proofs.TurnsFall.{left_less, left_no_more}
use Rattle.play_driver.specs.Resynchronising.{exchanged, resync, select_of, then_all}
use Rattle.play_driver.specs.Running.{RunsBetween, RunsTo, StopsBehind, turns_left_at}
use Rattle.play_driver.specs.Running.RunsTo.{rests, turns}
use Rattle.play_driver.specs.SendsOnce.{NumbersRise, SendsOnce, place_of}
use Rattle.play_driver.specs.Stages.{Broke, CameBetween, Stage, stage_of}
use Rattle.play_driver.specs.Turning.{Standing, TurnFails, Turns, need_at, standing_of, tries_at}
use Rattle.play_driver.specs.Turning.TurnFails.{not_answered, not_chosen, not_fetched, not_heard, not_recorded, not_reset, not_taken, not_told, wanting}
use Rattle.play_driver.specs.Turning.Turns.{asks, fetches, holds, records, resets, selects}
use Rattle.play_driver.specs.declared.fault.PlayFault.{PlayFault}
use Rattle.play_driver.specs.declared.session.Session.TheVariants as sessions
use Rattle.play_driver.proofs.SentNumbers.{Below, StandsIn, asked_few, asked_numbers, below_next, recorded_numbers, rises_next, sends_at, sends_for, stands_then}
use Rattle.play_driver.proofs.SentTexts.{SentMore, SentSome, dialogue_more, dialogue_some, exchanges_more, more_as, more_none, more_parts}
use Rattle.play_driver.proofs.SentTexts.{more_then, question_front, question_whole, some_as, some_front, some_then, whole_some}

-- what a turn sends
turn_sends : (p q : Standing) → Turns p q → SentMore (sends_at p) p.stage.link.sent q.stage.link.sent
turn_sends p q (records event resting needed is) =
    more_as [] (sends_at p) _ _ (recorded_numbers (need_at p) event needed (tries_at p))
    (more_none p.stage.link.sent q.stage.link.sent (ap (λ (s : Standing). s.stage.link.sent) is))
turn_sends p q (selects name delta resting needed came taken selected unheld same) =
    more_as [] (sends_at p) _ _ (sym (ap (sends_for (tries_at p)) needed))
    (exchanges_more (exchanged name (cache_at name p.store.book.boxes) came.came.gathered) p.stage.count p.stage.link.sent came.hears.connection.received came.heard q.stage.link q.stage.feed came.came.came)
turn_sends p q (holds h r event resting needed came is tells reset permits selected here same player) =
    more_as [] (sends_at p) _ _ (sym (ap (sends_for (tries_at p)) needed))
    (more_parts (next_tag p.stage.count) (select_of h.chosen.name (cache_at h.chosen.name p.store.book.boxes)) _ p.stage.link.sent q.stage.link.sent
    came.came.sent)
turn_sends p q (resets h event here needed reset is) =
    more_as [] (sends_at p) _ _ (sym (ap (sends_for (tries_at p)) needed))
    (more_none p.stage.link.sent q.stage.link.sent (ap (λ (s : Standing). s.stage.link.sent) is))
turn_sends p q (fetches h delta here needed away came taken selected permits unheld same) =
    more_as [] (sends_at p) _ _ (sym (ap (sends_for (tries_at p)) needed))
    (exchanges_more (then_all came.came.all) p.stage.count p.stage.link.sent came.hears.connection.received came.heard q.stage.link q.stage.feed came.came.came)
turn_sends p q (asks tag command r resting asked came heard selected permits unheld same) =
    more_as _ (sends_at p) _ _ (asked_numbers (need_at p) (tries_at p) p.stage.count tag command asked)
    (more_parts tag command _ p.stage.link.sent q.stage.link.sent came.came.sent)

-- and one that fails: its command, or nothing of it
abbrev SendsAtMost : List ℕ → List ℕ → List ℕ → Type 0
SendsAtMost ns old new = SentSome [] old new ⊎ SentSome ns old new

none_sent : (ns old new : List ℕ) → new ≡ old → SendsAtMost ns old new
none_sent ns old new same = inl (whole_some [] old new (more_none old new same))

failed_sends : (p : Standing) (link : LinkState) (fault : PlayFault) → TurnFails p link fault →
    SendsAtMost (sends_at p) p.stage.link.sent link.sent
failed_sends p link fault (wanting takes same is) = none_sent _ _ _ (ap (λ (l : LinkState). l.sent) same)
failed_sends p link fault (not_recorded event needed same why) = none_sent _ _ _ (ap (λ (l : LinkState). l.sent) same)
failed_sends p link fault (not_told name f resting needed is broke) =
    inl (dialogue_some (resync name (cache_at name p.store.book.boxes) (Ends true)) p.stage.count p.stage.link.sent broke.hears.connection.received broke.heard link f broke.broke)
failed_sends p link fault (not_chosen name told permits unheard resting needed came why more is) =
    inl (whole_some [] p.stage.link.sent link.sent
    (subst (λ (l : LinkState). SentMore [] p.stage.link.sent l.sent) came.here
    (exchanges_more (exchanged name (cache_at name p.store.book.boxes) came.came.came.gathered) p.stage.count p.stage.link.sent came.came.hears.connection.received came.came.heard came.last.link came.last.feed
    came.came.came.came)))
failed_sends p link fault (not_reset h event here needed reset same why) = none_sent _ _ _ (ap (λ (l : LinkState). l.sent) same)
failed_sends p link fault (not_fetched h f here needed is broke) =
    inl (dialogue_some (Asks commands.FetchAll (λ all. Ends true)) p.stage.count p.stage.link.sent broke.hears.connection.received broke.heard link f broke.broke)
failed_sends p link fault (not_taken h told q unheard here needed came there why more is) =
    inl (whole_some [] p.stage.link.sent link.sent
    (subst (λ (l : LinkState). SentMore [] p.stage.link.sent l.sent) there
    (exchanges_more (then_all came.came.all) p.stage.count p.stage.link.sent came.hears.connection.received came.heard q.link q.feed came.came.came)))
failed_sends p link fault (not_answered tag command f asked is unanswered) =
    inr (some_as _ (sends_at p) _ _ (asked_numbers (need_at p) (tries_at p) p.stage.count tag command asked)
    (some_front tag command p.stage.link.sent link.sent unanswered.sent))
failed_sends p link fault (not_heard tag command r q unheard name selected asked came here lacks is) =
    inr (some_as _ (sends_at p) _ _ (asked_numbers (need_at p) (tries_at p) p.stage.count tag command asked)
    (whole_some _ p.stage.link.sent link.sent
    (subst (λ (l : LinkState). SentMore (option_to_list (place_of tag)) p.stage.link.sent l.sent) here
    (more_parts tag command _ p.stage.link.sent q.link.sent came.came.sent))))

-- ---- turns one behind the other

-- less is left behind a turn that sends an action's command
abbrev SendsLess : Standing → Standing → Type 0
SendsLess p q = (sends_at p ≡ []) ⊎ ((left q.player q.store.book < left p.player p.store.book) × (tries_at p ≤ 2))

sends_less : (p q : Standing) → Turns p q → turns_left_at q < turns_left_at p → SendsLess p q
sends_less p q (records event resting needed is) falls = inl (sym (recorded_numbers (need_at p) event needed (tries_at p)))
sends_less p q (selects name delta resting needed came taken selected unheld same) falls = inl (ap (sends_for (tries_at p)) needed)
sends_less p q (holds h r event resting needed came is tells reset permits selected here same player) falls = inl (ap (sends_for (tries_at p)) needed)
sends_less p q (resets h event here needed reset is) falls = inl (ap (sends_for (tries_at p)) needed)
sends_less p q (fetches h delta here needed away came taken selected permits unheld same) falls = inl (ap (sends_for (tries_at p)) needed)
sends_less p q (asks tag command r resting asked came heard selected permits unheld same) falls =
    ⊎_elim (λ (none : sends_at p ≡ []). inl none) (λ (few : tries_at p ≤ 2). inr (left_less p q unheld falls, few))
    (asked_few (need_at p) (tries_at p) p.stage.count tag command asked)

-- what was sent in the turns from one standing to another, in a run of so many actions and mailboxes
record SentSoFar (n m : ℕ) (p q : Standing) : Type 0 where
  numbers : List ℕ
  sent : SentMore numbers p.stage.link.sent q.stage.link.sent
  rising : NumbersRise numbers
  below : Below n m q numbers
  stands : StandsIn n m q

sent_so_far : (n m : ℕ) (p : Standing) → StandsIn n m p → (q : Standing) (chose learnt : ℕ) → RunsTo p q chose learnt → SentSoFar n m p q
sent_so_far n m p first q chose learnt rests = record {
  numbers = [];
  sent = more_none p.stage.link.sent p.stage.link.sent refl;
  rising = tt;
  below = tt;
  stands = first;
}
sent_so_far n m p first q chose learnt (turns at last some_chose some_learnt run turn falls) =
    let x = sent_so_far n m p first at some_chose some_learnt run in
    record {
      numbers = x.numbers ++ sends_at at;
      sent = more_then x.numbers (sends_at at) p.stage.link.sent at.stage.link.sent last.stage.link.sent x.sent (turn_sends at last turn);
      rising = rises_next n m at x.stands x.numbers x.rising x.below;
      below = below_next n m at x.stands last x.numbers (left_no_more at last falls) (sends_less at last turn falls) x.below;
      stands = stands_then n m at last x.stands turn;
    }

-- ---- one connection

in_one : (old new : LinkState) → new.earlier ≡ old.sent ∷ old.earlier → (numbers : List ℕ) → SentSome numbers [] new.sent → NumbersRise numbers →
    SendsOnce old new
in_one old new earlier numbers sent rising =
    inr (record { earlier = earlier; sendings = sent.sendings; sent = sent.is; rising = subst NumbersRise (sym sent.of) rising })

greeted_more : (preauth : Bool) (p : Stage) → HasGreeted preauth p → SentMore [] [] p.link.sent
greeted_more preauth p hello = more_none [] p.link.sent hello.unsent

between_more : (d : Dialogue) (rev2 : Bool) (p q : Stage) → SentMore [] [] p.link.sent → CameBetween d rev2 p q → SentMore [] [] q.link.sent
between_more d rev2 p q before came =
    more_then [] [] [] p.link.sent q.link.sent before
    (dialogue_more d p.count p.link.sent came.hears.connection.received came.heard _ q.link q.feed came.came)

broke_some : (d : Dialogue) (p : Stage) (link : LinkState) (fault : SessionFault) → SentMore [] [] p.link.sent → Broke d p link fault →
    SentSome [] [] link.sent
broke_some d p link fault before broke =
    some_then [] [] [] p.link.sent link.sent before
    (dialogue_some d p.count p.link.sent broke.hears.connection.received broke.heard link fault broke.broke)

known_more : (account : Credentials) (rev2 : Bool) (p : Stage) → HasLoggedIn account rev2 p → SentMore [] [] p.link.sent
known_more account rev2 p x =
    between_more (entering x.preauth account) rev2 x.greeted p (greeted_more x.preauth x.greeted x.hello) x.came

entered_more : (account : Credentials) (p : Stage) → HasEntered account p → SentMore [] [] p.link.sent
entered_more account p x = between_more (enabling x.rev2) x.rev2 x.known p (known_more account x.rev2 x.known x.logged_in) x.came

-- it didn't enter: no action's command was sent
pub unentered_once : (account : Credentials) (old link : LinkState) (fault : SessionFault) → link.earlier ≡ old.sent ∷ old.earlier →
    NotEntered account old link fault → SendsOnce old link
unentered_once account old link fault earlier (unconnected is sent same) = inl (record { sent = sent; earlier = same })
unentered_once account old link fault earlier (ungreeted missing unsent) =
    in_one old link earlier [] (whole_some [] [] link.sent (more_none [] link.sent unsent)) tt
unentered_once account old link fault earlier (not_logged_in preauth p hello broke) =
    in_one old link earlier [] (broke_some (entering preauth account) p link fault (greeted_more preauth p hello) broke) tt
unentered_once account old link fault earlier (not_enabled rev2 p known broke) =
    in_one old link earlier [] (broke_some (enabling rev2) p link fault (known_more account rev2 p known) broke) tt

-- ---- a run that entered

module _ (account : Credentials) (alloc : Global) (s : Holding mail) (p : Player) (begun : p ≡ begun_with alloc s.book) (link : LinkState)
    (ready : Ready) (entered : HasEntered account (stage_of link (sessions.Ready ready))) (old later : LinkState)
    (earlier : later.earlier ≡ old.sent ∷ old.earlier) where
  abbrev FirstOf : Standing
  FirstOf = standing_of link (sessions.Ready ready) s p

  stands_first : StandsIn (length s.book.queue) (length s.book.boxes) FirstOf
  stands_first = record {
    queued = refl;
    known = refl;
    last = λ more. let none : p.resynced ≡ 0 = ap (λ (x : Player). x.resynced) begun in absurd (omega (arith, more, none));
  }

  run_so_far : (q : Standing) → RunsBetween FirstOf q → SentSoFar (length s.book.queue) (length s.book.boxes) FirstOf q
  run_so_far q run = sent_so_far (length s.book.queue) (length s.book.boxes) FirstOf stands_first q run.selects run.learns run.runs

  sent_before : (q : Standing) (run : RunsBetween FirstOf q) → SentMore (run_so_far q run).numbers [] q.stage.link.sent
  sent_before q run =
      more_then [] (run_so_far q run).numbers [] link.sent q.stage.link.sent (entered_more account (stage_of link (sessions.Ready ready)) entered)
      (run_so_far q run).sent

  -- what is sent behind the turns belongs to no action
  behind_turns : (q : Standing) (run : RunsBetween FirstOf q) → SentSome [] q.stage.link.sent later.sent → SendsOnce old later
  behind_turns q run some =
      let x = run_so_far q run in
      in_one old later earlier (x.numbers ++ []) (some_then x.numbers [] [] q.stage.link.sent later.sent (sent_before q run) some)
      (subst NumbersRise (sym (append-nil x.numbers)) x.rising)

  -- a turn failed
  pub stopped_once : (store : Holding mail) (fault : PlayFault) → StopsBehind FirstOf store later fault → SendsOnce old later
  stopped_once store fault stops = by (failed_sends stops.at later fault stops.fails) where
    by : SendsAtMost (sends_at stops.at) stops.at.stage.link.sent later.sent → SendsOnce old later
    by (inl some) = behind_turns stops.at stops.came some
    by (inr some) =
        let x = run_so_far stops.at stops.came in
        in_one old later earlier (x.numbers ++ sends_at stops.at)
        (some_then x.numbers (sends_at stops.at) [] stops.at.stage.link.sent later.sent (sent_before stops.at stops.came) some)
        (rises_next (length s.book.queue) (length s.book.boxes) stops.at x.stands x.numbers x.rising x.below)

  -- it left, or didn't
  pub left_once : (q : Standing) → RunsBetween FirstOf q → HasLeft q.stage later → SendsOnce old later
  left_once q run left =
      behind_turns q run (whole_some [] _ _ (question_whole q.stage.count commands.Logout q.stage.link.sent later.sent left.sent))

  pub stayed_once : (q : Standing) (fault : SessionFault) → RunsBetween FirstOf q → NotLeft q.stage later fault → SendsOnce old later
  stayed_once q fault run stays = behind_turns q run (question_front q.stage.count commands.Logout q.stage.link.sent later.sent stays.sent)
