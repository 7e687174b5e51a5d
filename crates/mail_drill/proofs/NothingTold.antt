-- Where nothing was told in the connection, nothing was heard: so no server's fault ends a run.
use Rattle.std.proofs.Common.{◌≡◌, inl, inr, ℕ, ◌+◌, ◌≤◌, true, List, [], ◌∷◌, ◌++◌, length, drop, Option, Some, None, refl, sym, ◌∙◌, ap, subst, arith}
use Rattle.std.proofs.Common.{length-append}
use Rattle.action_queue.specs.Book.{cache_at}
use Rattle.mail_base.specs.Account.{Credentials}
use Rattle.mail_base.specs.declared.tag.Tag.{Tag}
use Rattle.literal_feed.specs.Stream.{Stream}
use Rattle.imap_model.specs.declared.command.Command.{Command}
use Rattle.imap_model.specs.declared.command.Command.TheVariants as commands
use Rattle.imap_model.specs.declared.item.Item.{Item}
use Rattle.imap_model.specs.declared.response.Response.{Response}
use Rattle.imap_model.specs.declared.response.Response.TheVariants as responses
use Rattle.imap_session.specs.Causes.{FailsBehind}
use Rattle.imap_session.specs.Dialogue.{BrokeOff, Dialogue, next_tag, next_text}
use Rattle.imap_session.specs.Dialogue.Dialogue.{Ends, Lacks, Asks}
use Rattle.imap_session.specs.Hearing.{Hears, Took}
use Rattle.imap_session.specs.declared.fault.SessionFault.{SessionFault}
use Rattle.imap_session.specs.declared.fault.SessionFault.TheVariants as sessions
use Rattle.store_core.specs.Holding.{Holding}
use Rattle.store_core.specs.Mail.{mail}
use Rattle.world_traits.specs.LinkState.{Connection, LinkState}
use Rattle.play_driver.specs.Entering.{NotEntered}
use Rattle.play_driver.specs.Entering.NotEntered.{unconnected, ungreeted, not_logged_in, not_enabled}
use Rattle.play_driver.specs.Exchanges.{CameAll, Exchange}
use Rattle.play_driver.specs.Faults.{ComesAnyway, of_session}
use Rattle.play_driver.specs.Playing.{EndsEarly, NotLeft}
use Rattle.play_driver.specs.Playing.EndsEarly.{not_entered, turn_failed, not_left}
use Rattle.play_driver.specs.Recording.NotRecorded.{wanting as record_wanting, disk, full}
use Rattle.play_driver.specs.Refusals.{DeniesQuestion, RefusesRun}
use Rattle.play_driver.specs.Resynchronising.{resync, then_all}
use Rattle.play_driver.specs.Running.{RunsTo, first_standing}
use Rattle.play_driver.specs.Running.RunsTo.{rests, turns}
use Rattle.play_driver.specs.Stages.{Broke, Stage}
use Rattle.play_driver.specs.Turning.{RowsCameOf, Standing, TurnFails, Turns}
use Rattle.play_driver.specs.Turning.TurnFails.{wanting, not_recorded, not_told, not_chosen, not_reset, not_fetched, not_taken, not_answered, not_heard}
use Rattle.play_driver.specs.Turning.Turns.{asks, fetches, holds, records, resets, selects}
use Rattle.play_driver.specs.declared.fault.PlayFault.{PlayFault}
use Rattle.play_driver.specs.declared.fault.PlayFault.TheVariants as faults
use Rattle.play_driver.specs.declared.fault.Why.{Why}
use Rattle.play_driver.specs.declared.fault.Why.TheVariants as whys
use Rattle.play_driver.specs.declared.session.Held.{Held}
use Rattle.play_driver.proofs.CompleteRun.{comes_session, leaving_lacks}
use Rattle.play_driver.proofs.EntersServed.{greeting_lacks}
use Rattle.play_driver.proofs.ToldRefusals.{IsHonest, WasTold, entry_told, leave_told, took_front, turn_told}

-- something was heard in the connection
record HeardSome (p : Stage) : Type 0 where
  heard : List Response
  hears : Hears heard p.link.connection p.feed
  some : 1 ≤ length heard

-- Where a reply is held, that was heard.
turn_heard : (p q : Standing) → Turns p q → ((h : Held) → p.held ≡ Some h → HeardSome p.stage) → (h : Held) → q.held ≡ Some h → HeardSome q.stage
turn_heard p q (records event resting needed is) before h held =
    absurd (let clash : None ≡ Some h = sym (ap (λ (x : Standing). x.held) is ∙ resting) ∙ held in cc)
turn_heard p q (selects name delta resting needed came chosen selected none same) before h held =
    absurd (let clash : None ≡ Some h = sym none ∙ held in cc)
turn_heard p q (holds g r event resting needed came is tells reset permits selected here same player) before h held = record {
  heard = came.heard ++ (came.came.told ++ responses.Done (next_tag p.stage.count) r.ending r.code ∷ []);
  hears = came.came.hears;
  some = omega (
    arith,
    length-append came.heard (came.came.told ++ responses.Done (next_tag p.stage.count) r.ending r.code ∷ []),
    length-append came.came.told (responses.Done (next_tag p.stage.count) r.ending r.code ∷ []),
  );
}
turn_heard p q (resets g event here needed reset is) before h held = subst HeardSome (sym (ap (λ (x : Standing). x.stage) is)) (before g here)
turn_heard p q (fetches g delta here needed away came chosen selected permits none same) before h held =
    absurd (let clash : None ≡ Some h = sym none ∙ held in cc)
turn_heard p q (asks tag command r resting asked came heard selected permits none same) before h held =
    absurd (let clash : None ≡ Some h = sym none ∙ held in cc)

run_heard : (p q : Standing) (chose learnt : ℕ) → RunsTo p q chose learnt → p.held ≡ None → (h : Held) → q.held ≡ Some h → HeardSome q.stage
run_heard p q chose learnt rests none h held = absurd (let clash : None ≡ Some h = sym none ∙ held in cc)
run_heard p q chose learnt (turns at last some_chose some_learnt run turn falls) none h held =
    turn_heard at last turn (run_heard p at some_chose some_learnt run none) h held

-- an honest connection in which nothing was told
module _ (told : List Response) (none : told ≡ []) where
  none_was : (P : Response → Type 0) → WasTold P told → ⊥
  none_was P w =
      omega (arith, ap length none, ap length w.among, length-append w.before (w.response ∷ w.behind))

  none_heard : (heard : List Response) (c : Option Connection) (feed : Stream) → Hears heard c feed → IsHonest told c → length heard ≡ 0
  none_heard heard c feed h honest =
      let took : Took heard h.taken feed [] c = record {
        connection = h.connection;
        there = h.there;
        reply = h.connection.received;
        grown = refl;
        stands = h.stands;
        spell = h.spell;
      } in
      omega (arith, ap length none, ap length (took_front heard told h.taken feed [] c took honest), length-append heard (drop (length heard) told))

  -- where a reply came, something was heard
  some_lines : (lines rows : List Response) (r : Response) → lines ≡ rows ++ r ∷ [] → 1 ≤ length lines
  some_lines lines rows r whole = omega (arith, ap length whole, length-append rows (r ∷ []))

  came_none : (xs : List Exchange) (count : ℕ) (sent had : List ℕ) (heard : List Response) (link : LinkState) (feed : Stream) →
      CameAll xs count sent had heard link feed → 1 ≤ length heard → IsHonest told link.connection → ⊥
  came_none [] count sent had heard link feed stood some honest = omega (arith, some, none_heard heard link.connection feed stood.hears honest)
  came_none (x ∷ xs) count sent had heard link feed (came, lines, reply, rest) some honest =
      came_none xs (count + 1) (sent ++ next_text count x.asked) (had ++ came) (heard ++ lines) link feed rest
      (omega (arith, some, length-append heard lines)) honest

  -- no thing is lacking behind a reply
  no_lack : (heard : List Response) (tag : Tag) (command : Command) (had : List ℕ) (c : Option Connection) (item : Item) →
      FailsBehind heard tag command had c (sessions.Lacking item) → ⊥
  no_lack heard tag command had c item (inl r) = r.reading
  no_lack heard tag command had c item (inr u) = u.unfit

  dialogue_lacks : (d : Dialogue) (count : ℕ) (sent had : List ℕ) (heard : List Response) (link : LinkState) (item : Item) →
      BrokeOff d count sent had heard link (sessions.Lacking item) → 1 ≤ length heard → IsHonest told link.connection → ⊥
  dialogue_lacks (Ends rev2) count sent had heard link item b some honest = b
  dialogue_lacks (Lacks what) count sent had heard link item (is, (feed, stood)) some honest =
      omega (arith, some, none_heard heard link.connection feed stood.hears honest)
  dialogue_lacks (Asks command next) count sent had heard link item (inl n) some honest =
      no_lack heard (next_tag count) command had link.connection item n.failing
  dialogue_lacks (Asks command next) count sent had heard link item (inr (r, came, lines, reply, b)) some honest =
      dialogue_lacks (next r) (count + 1) (sent ++ next_text count command) (had ++ came) (heard ++ lines) link item b
      (omega (arith, some, length-append heard lines)) honest

  asks_lack : (command : Command) (count : ℕ) (sent had : List ℕ) (heard : List Response) (link : LinkState) (item : Item) →
      (next : _) → BrokeOff (Asks command next) count sent had heard link (sessions.Lacking item) → IsHonest told link.connection → ⊥
  asks_lack command count sent had heard link item next (inl n) honest = no_lack heard (next_tag count) command had link.connection item n.failing
  asks_lack command count sent had heard link item next (inr (r, came, lines, reply, b)) honest =
      dialogue_lacks (next r) (count + 1) (sent ++ next_text count command) (had ++ came) (heard ++ lines) link item b
      (omega (arith, some_lines lines reply.told (responses.Done (next_tag count) r.ending r.code) reply.whole, length-append heard lines)) honest

  entry_lacks : (account : Credentials) (old link : LinkState) (item : Item) → NotEntered account old link (sessions.Lacking item) →
      IsHonest told link.connection → ⊥
  entry_lacks account old link item (unconnected is sent made) honest = cc
  entry_lacks account old link item (ungreeted no_hello sent) honest = greeting_lacks link.connection item no_hello
  entry_lacks account old link item (not_logged_in preauth p hello b) honest =
      asks_lack _ p.count p.link.sent b.hears.connection.received b.heard link item _ b.broke honest
  entry_lacks account old link item (not_enabled rev2 p logged b) honest =
      asks_lack _ p.count p.link.sent b.hears.connection.received b.heard link item _ b.broke honest

  -- nor in a turn
  resync_lacks : (name : List ℕ) (p : Standing) (link : LinkState) (item : Item) →
      Broke (resync name (cache_at name p.store.book.boxes) (Ends true)) p.stage link (sessions.Lacking item) → IsHonest told link.connection → ⊥
  resync_lacks name p link item b honest =
      asks_lack _ p.stage.count p.stage.link.sent b.hears.connection.received b.heard link item _ b.broke honest

  rows_lack : (p : Stage) (link : LinkState) (item : Item) → Broke (Asks commands.FetchAll (λ all. Ends true)) p link (sessions.Lacking item) →
      IsHonest told link.connection → ⊥
  rows_lack p link item b honest = asks_lack _ p.count p.link.sent b.hears.connection.received b.heard link item (λ all. Ends true) b.broke honest

  -- where a turn failed
  module _ (p : Standing) (link : LinkState) (fault : PlayFault) (fails : TurnFails p link fault) (honest : IsHonest told link.connection)
      (not_bad : (why : Why) → fault ≡ faults.BadReply why → ⊥) where
    not_refused : (f : SessionFault) → fault ≡ of_session f → (line : List ℕ) → f ≡ sessions.Refused line → ⊥
    not_refused f is line e =
        none_was RefusesRun (turn_told p link line told (subst (TurnFails p link) (is ∙ ap of_session e) fails) honest)

    no_bad_reply : (f : SessionFault) → fault ≡ of_session f → (at : ℕ) → f ≡ sessions.BadReply at → ⊥
    no_bad_reply f is at e = not_bad (whys.At at) (is ∙ ap of_session e)

  -- nothing was made of rows behind a reply that is held
  rows_none : (h : Held) (delta : _) (p q : Stage) → HeardSome p → RowsCameOf h delta p q → IsHonest told q.link.connection → ⊥
  rows_none h delta p q before came honest = rows came.came.all came.came.came
    where
      rows : (all : _) → CameAll (then_all all) p.count p.link.sent came.hears.connection.received came.heard q.link q.feed → ⊥
      rows None stood =
          let here : p.link.connection ≡ q.link.connection = came.hears.there ∙ sym stood.has in
          omega (
            arith,
            before.some,
            none_heard before.heard p.link.connection p.feed before.hears (subst (IsHonest told) (sym here) honest),
          )
      rows (Some all) (got, lines, reply, stood) =
          omega (
            arith,
            some_lines lines reply.told (responses.Done (next_tag p.count) all.ending all.code) reply.whole,
            length-append came.heard lines,
            none_heard (came.heard ++ lines) q.link.connection q.feed stood.hears honest,
          )

  turn_comes : (p : Standing) (link : LinkState) (fault : PlayFault) → TurnFails p link fault →
      ((h : Held) → p.held ≡ Some h → HeardSome p.stage) → IsHonest told link.connection → ((why : Why) → fault ≡ faults.BadReply why → ⊥) → ComesAnyway fault
  turn_comes p link fault (wanting dear same is) before honest not_bad = subst ComesAnyway (sym is) tt
  turn_comes p link fault (not_recorded event needed same (record_wanting takes is)) before honest not_bad = subst ComesAnyway (sym is) tt
  turn_comes p link fault (not_recorded event needed same (disk is)) before honest not_bad = subst ComesAnyway (sym is) tt
  turn_comes p link fault (not_recorded event needed same (full over is)) before honest not_bad = subst ComesAnyway (sym is) tt
  turn_comes p link fault (not_told name f resting need is b) before honest not_bad =
      let fails : TurnFails p link fault = not_told name f resting need is b in
      comes_session f (not_refused p link fault fails honest not_bad f is)
      (λ item e. resync_lacks name p link item
      (subst (Broke (resync name (cache_at name p.store.book.boxes) (Ends true)) p.stage link) e b) honest)
      (no_bad_reply p link fault fails honest not_bad f is) fault is
  turn_comes p link fault (not_chosen name delta permits unheard resting need came heard why is) before honest not_bad =
      let all = came.came.came.came in
      let before = came.came.heard in
      absurd (came_none (then_all came.came.came.gathered.all) _ _ _ (before ++ all.1) came.last.link came.last.feed all.3
      (omega (arith, some_lines all.1 all.2.told _ all.2.whole, length-append before all.1))
      (subst (λ (l : LinkState). IsHonest told l.connection) (sym came.here) honest))
  turn_comes p link fault (not_reset h event here need reset same (record_wanting takes is)) before honest not_bad = subst ComesAnyway (sym is) tt
  turn_comes p link fault (not_reset h event here need reset same (disk is)) before honest not_bad = subst ComesAnyway (sym is) tt
  turn_comes p link fault (not_reset h event here need reset same (full over is)) before honest not_bad = subst ComesAnyway (sym is) tt
  turn_comes p link fault (not_fetched h f here need is b) before honest not_bad =
      let fails : TurnFails p link fault = not_fetched h f here need is b in
      comes_session f (not_refused p link fault fails honest not_bad f is)
      (λ item e. rows_lack p.stage link item (subst (Broke (Asks commands.FetchAll (λ all. Ends true)) p.stage link) e b) honest)
      (no_bad_reply p link fault fails honest not_bad f is) fault is
  turn_comes p link fault (not_taken h delta q unheard here need came there heard why is) before honest not_bad =
      absurd (rows_none h delta p.stage q (before h here) came (subst (λ (l : LinkState). IsHonest told l.connection) (sym there) honest))
  turn_comes p link fault (not_answered tag command f asked is n) before honest not_bad =
      let fails : TurnFails p link fault = not_answered tag command f asked is n in
      comes_session f (not_refused p link fault fails honest not_bad f is)
      (λ item e. no_lack n.heard tag command n.hears.connection.received link.connection item
      (subst (FailsBehind n.heard tag command n.hears.connection.received link.connection) e n.failing))
      (no_bad_reply p link fault fails honest not_bad f is) fault is
  turn_comes p link fault (not_heard tag command r q unheard name selected asked came here heard is) before honest not_bad =
      let lines = came.came.told ++ responses.Done tag r.ending r.code ∷ [] in
      let there = subst (λ (l : LinkState). IsHonest told l.connection) (sym here) honest in
      absurd (omega (
        arith,
        none_heard (came.heard ++ lines) q.link.connection q.feed came.came.hears there,
        length-append came.heard lines,
        some_lines lines came.came.told (responses.Done tag r.ending r.code) refl,
      ))

  -- So it is of a run, whose reply wasn't at fault.
  pub untold_comes : (account : Credentials) (s store : Holding mail) (old link : LinkState) (fault : PlayFault) →
      EndsEarly account s store old link fault → IsHonest told link.connection → ((why : Why) → fault ≡ faults.BadReply why → ⊥) →
      ComesAnyway fault
  untold_comes account s store old link fault (not_entered f is n same) honest not_bad =
      comes_session f (λ line e. none_was RefusesRun (entry_told account old link line told (subst (NotEntered account old link) e n) honest))
      (λ item e. entry_lacks account old link item (subst (NotEntered account old link) e n) honest)
      (λ at e. not_bad (whys.At at) (is ∙ ap of_session e)) fault is
  untold_comes account s store old link fault (turn_failed p q entered came fails book same) honest not_bad =
      turn_comes q link fault fails (run_heard (first_standing came.alloc p s) q came.selects came.learns came.runs refl) honest not_bad
  untold_comes account s store old link fault (not_left f p q is entered came finished n same) honest not_bad =
      comes_session f (λ line e. none_was DeniesQuestion (leave_told q.stage link line told (subst (NotLeft q.stage link) e n) honest))
      (leaving_lacks q.stage link f n) (λ at e. not_bad (whys.At at) (is ∙ ap of_session e)) fault is
