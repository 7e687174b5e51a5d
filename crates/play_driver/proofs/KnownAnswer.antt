-- What the player knows as a question or a command is asked and answered.
use Rattle.action_queue.specs.Book.{Meaning}
use Rattle.imap_model.proofs.Effect.{carried_effect}
use Rattle.imap_model.specs.CarriedOut.{CarriesOut, told_in}
use Rattle.imap_model.specs.Carrying.{Waiting}
use Rattle.imap_model.specs.Changes.{Batch}
use Rattle.imap_model.specs.Talking.{Peer}
use Rattle.imap_model.specs.declared.replies.Replies.{Replies}
use Rattle.imap_model.specs.declared.response.Response.{Response}
use Rattle.imap_model.specs.declared.server.Server.{Server}
use Rattle.imap_session.specs.Knowing.{AllGo, Tells}
use Rattle.imap_session.specs.Session.{Answered, Stands}
use Rattle.imap_session.specs.declared.permits.Permits.{Permits}
use Rattle.literal_feed.specs.Stream.{Stream}
use Rattle.play_driver.proofs.KnownBeside.{Does, Follows, One, Quiet, asking_behind, asking_does, asking_one, carried_follows}
use Rattle.play_driver.proofs.KnownBeside.{go_back, go_front, go_more}
use Rattle.play_driver.proofs.KnownBeside.{not_told, others_follow, same_follows, world_of}
use Rattle.play_driver.proofs.KnownBeside.Does.{changes, goes, nothing, replies}
use Rattle.play_driver.proofs.KnownWalk.{grows_tick, kept_here, kept_told, tells_peer, walked}
use Rattle.play_driver.proofs.Links.{books_there, fair_books}
use Rattle.play_driver.proofs.Parts.{grows, grows_then, since_first, since_second}
use Rattle.play_driver.specs.Joining.{AllFair, Grows, IsFair}
use Rattle.play_driver.specs.KnownAt.{KnownAt, StandsKept, TellsOf}
use Rattle.play_driver.specs.Played.{played}
use Rattle.play_driver.specs.SentOnce.{Behind, MayAsk}
use Rattle.book_laws.proofs.Carrying.{carries_book}
use Rattle.book_laws.proofs.Foreign.{of_after}
use Rattle.book_laws.proofs.Keeping.{asked_quiet, quiet_keeps, sent}
use Rattle.playback.proofs.Onward.{IsIdle, idle}
use Rattle.playback.specs.Course.{Course, IsAmong, Said}
use Rattle.book_laws.specs.Kept.{KeptBook}
use Rattle.playback.specs.Knows.{Knows}
use Rattle.book_laws.specs.Polite.{KeepsBox}
use Rattle.playback.specs.Worlds.{World, answered_course, name_of, selected_after}
use Rattle.playback.specs.declared.finding.Selected.{Selected}
use Rattle.playback.specs.declared.player.Player.{Player}
use Rattle.std.proofs.Common.{List, None, Option, Some, [], ap, append-nil, append_assoc, arith, inl, inr, length, length-append}
use Rattle.std.proofs.Common.{refl, subst, sym, ℕ, ⊎_elim, ◌++◌, ◌<◌, ◌∙◌, ◌∷◌, ◌≡◌, ◌⊎◌}
use Rattle.std.proofs.lemmas.List.{append_cancel_left}
use Rattle.store_core.specs.Mail.{mail}
use Rattle.store_core.specs.Steps.{Firm}
use Rattle.world_traits.proofs.Passing.{since_weaker}
use Rattle.world_traits.proofs.Traces.{since_both}
use Rattle.world_traits.specs.Asking.{Asking}
use Rattle.world_traits.specs.LinkState.{Connection}
use Rattle.world_traits.specs.Links.{Any, LinkStep, Linked}
use Rattle.world_traits.specs.Moments.{Clock, Moment, Since, tick}
use Rattle.imap_model.specs.declared.response.Response.TheVariants as responses

-- a command that may be asked may be asked still, as others change something
may_still : (b : Meaning) (s t : Server) (w : Waiting) → Batch s.boxes s t → KeepsBox w.selected s.boxes t.boxes → MayAsk mail played b s w →
    MayAsk mail played b t w
may_still b s t w batch keeps (inl question) = inl question
may_still b s t w batch keeps (inr of) = inr (of_after b s t w batch keeps of)

-- a book is kept as it waits, and behind it
pub kept_asked : (b : Meaning) (s : Server) (w : Waiting) → MayAsk mail played b s w → KeptBook b s None → KeptBook b s (Some w)
kept_asked b s w (inl question) kept = quiet_keeps (Some b) s None (Some w) (asked_quiet w question) kept
kept_asked b s w (inr of) kept = sent b s None w kept of

pub kept_carried : (b : Meaning) (s t : Server) (w : Waiting) (r : Replies) (after : Option (List ℕ)) → CarriesOut w s r t after →
    MayAsk mail played b s w → KeptBook b s None → KeptBook b t None
kept_carried b s t w r after out may kept = carries_book (Some b) s t w (kept_asked b s w may kept) (carried_effect w s r t after out)

-- what was said last, and how the player knows the connection then
pub record AnsweredFollows (w : Waiting) (r : Replies) (p : Player) (b : Meaning) (made : Clock) (selected : Option Selected)
    (owed : Option Waiting)
    (rest : List Said) (k : Clock) : Type 0 where
  pub said : Said
  pub command : said.command ≡ w
  pub reply : said.reply ≡ r
  pub follows : Follows p b made selected owed (said ∷ rest) k

module _ (p : Player) (b : Meaning) (made old : Clock) (w : Waiting) (selected : Option Selected) (owed : Option Waiting)
    (rest : List Said) where
  abbrev Told : List Response
  Told = old.now.outside.talk.told

  abbrev Steps : Peer → Peer → Type 0
  Steps = Asking Told w.tag w.command

  abbrev FollowsNow : Clock → Type 0
  FollowsNow k = Follows p b made selected owed rest k

  may_on : (s t : Server) → (Batch s.boxes s t → KeepsBox w.selected s.boxes t.boxes) → (t ≡ s) ⊎ Batch s.boxes s t → MayAsk mail played b s w →
      MayAsk mail played b t w
  may_on s t keeps (inl same) may = subst (λ (x : Server). MayAsk mail played b x w) (sym same) may
  may_on s t keeps (inr batch) may = may_still b s t w batch (keeps batch) may

  -- before the answer requests to go on alone were told, and the command may be asked; or a reply was told
  pub record Still (k : Clock) : Type 0 where
    pub asked : List Response
    pub as_told : k.now.outside.talk.told ≡ Told ++ asked
    pub all_go : AllGo asked
    pub one : One k.now.outside
    pub may : MayAsk mail played b k.now.outside.server w
    pub at : w.selected ≡ name_of selected
    pub follows : FollowsNow k

  record Ended (k : Clock) : Type 0 where
    pub asked : List Response
    pub as_told : k.now.outside.talk.told ≡ Told ++ asked
    pub not_go : AllGo asked → ⊥

  told_more : (xs asked ys more : List Response) → xs ≡ Told ++ asked → ys ≡ xs ++ more → ys ≡ Told ++ (asked ++ more)
  told_more xs asked ys more is then = then ∙ ap (λ (l : List Response). l ++ more) is ∙ append_assoc Told asked more

  replied : (k : Clock) (m : Moment) (asked more : List Response) → k.now.outside.talk.told ≡ Told ++ asked →
      m.outside.talk.told ≡ k.now.outside.talk.told ++ more → (AllGo (asked ++ more) → ⊥) → Ended (tick k m)
  replied k m asked more is then not_go = record {
    asked = asked ++ more;
    as_told = told_more k.now.outside.talk.told asked m.outside.talk.told more is then;
    not_go = not_go;
  }

  ended_on : (k : Clock) (m : Moment) → Does k.now.outside m.outside → Ended k → Ended (tick k m)
  ended_on k m (nothing same told chosen) e = record { asked = e.asked; as_told = told ∙ e.as_told; not_go = e.not_go }
  ended_on k m (changes batch told chosen) e = record { asked = e.asked; as_told = told ∙ e.as_told; not_go = e.not_go }
  ended_on k m (goes same told chosen) e =
      replied k m e.asked (responses.Go ∷ []) e.as_told told (λ all. e.not_go (go_front e.asked (responses.Go ∷ []) all))
  ended_on k m (replies tag r told quiet) e =
      replied k m e.asked (told_in tag r) e.as_told told (λ all. e.not_go (go_front e.asked (told_in tag r) all))

  module _ (k : Clock) (m : Moment) (step : LinkStep Steps k.now m) (fair : IsFair mail played k.now m) where
    abbrev Changes : Type 0
    Changes = (m.outside.server ≡ k.now.outside.server) ⊎ Batch k.now.outside.server.boxes k.now.outside.server m.outside.server

    -- where others change something at most
    others_at_most : Changes → m.outside.talk.selected ≡ k.now.outside.talk.selected → FollowsNow k → FollowsNow (tick k m)
    others_at_most (inl same) chosen h =
        same_follows p b made selected owed rest k m (books_there Steps k.now m step mail (Firm (Some b)) h.books) same chosen h
    others_at_most (inr batch) chosen h =
        others_follow p b made selected owed rest k m (books_there Steps k.now m step mail (Firm (Some b)) h.books) batch
        (fair_books mail played (Firm (Some b)) k.now m h.books fair batch) chosen h

    still : Changes → m.outside.talk.selected ≡ k.now.outside.talk.selected → (h : Still k) (asked : List Response) →
        m.outside.talk.told ≡ Told ++ asked → AllGo asked → Still (tick k m)
    still so chosen h asked told all = record {
      asked = asked;
      as_told = told;
      all_go = all;
      one = asking_one Told w.tag w.command k.now.outside m.outside step.outside h.one;
      may = may_on k.now.outside.server m.outside.server
          (λ batch. subst (λ (o : Option (List ℕ)). KeepsBox o k.now.outside.server.boxes m.outside.server.boxes)
          (sym (h.at ∙ h.follows.selects)) (fair_books mail played (Firm (Some b)) k.now m h.follows.books fair batch).1) so h.may;
      at = h.at;
      follows = others_at_most so chosen h.follows;
    }

    still_on : Does k.now.outside m.outside → Still k → Still (tick k m) ⊎ Ended (tick k m)
    still_on (nothing same told chosen) h = inl (still (inl same) chosen h h.asked (told ∙ h.as_told) h.all_go)
    still_on (changes batch told chosen) h = inl (still (inr batch) chosen h h.asked (told ∙ h.as_told) h.all_go)
    still_on (goes same told chosen) h =
        inl (still (inl same) chosen h (h.asked ++ responses.Go ∷ [])
        (told_more k.now.outside.talk.told h.asked m.outside.talk.told (responses.Go ∷ []) h.as_told told) (go_more h.asked h.all_go))
    still_on (replies tag r told quiet) h =
        inr (replied k m h.asked (told_in tag r) h.as_told told (λ all. not_told tag r (go_back h.asked (told_in tag r) all)))

    not_yet_on : Still k ⊎ Ended k → Still (tick k m) ⊎ Ended (tick k m)
    not_yet_on (inl h) = still_on (asking_does Told w.tag w.command k.now.outside m.outside step.outside) h
    not_yet_on (inr e) = inr (ended_on k m (asking_does Told w.tag w.command k.now.outside m.outside step.outside) e)

    behind_on : Behind Told k.now.outside × FollowsNow k → Behind Told m.outside × FollowsNow (tick k m)
    behind_on h =
        let so = asking_behind Told w.tag w.command k.now.outside m.outside step.outside h.0 in
        (so.0, others_at_most so.1 so.2 h.1)

  abbrev Links : Moment → Moment → Type 0
  Links m n = LinkStep Steps m n × IsFair mail played m n

  linked_fair : (k l : Clock) → Linked Steps k l → AllFair mail played k l → Since Any Links k l
  linked_fair k l linked fair =
      since_weaker (λ m. Any m × Any m) Any Links Links (λ m p. tt) (λ m n s. s) k l
      (since_both Any Any (LinkStep Steps) (IsFair mail played) k l linked fair)

  -- up to the answer
  pub until : (at : Clock) (asked : List Response) → at.now.outside.talk.told ≡ Told ++ asked → AllGo asked → Linked Steps old at →
      AllFair mail played old at → Still old → Still at
  until at asked told all linked fair h =
      ⊎_elim (λ (s : Still at). s) (λ (e : Ended at).
      absurd (e.not_go (subst AllGo (append_cancel_left Told asked e.asked (sym told ∙ e.as_told)) all)))
      (walked Links (λ k. Still k ⊎ Ended k) old (λ k m more s h. not_yet_on k m s.0 s.1 h) (inl h) at (linked_fair old at linked fair))

  -- behind it
  pub from_then : (at : Clock) (new : Clock) → Linked Steps at new → AllFair mail played at new → Behind Told at.now.outside →
      FollowsNow at →
      FollowsNow new
  from_then at new linked fair behind h =
      (walked Links (λ k. Behind Told k.now.outside × FollowsNow k) at (λ k m more s h. behind_on k m s.0 s.1 h) (behind, h) new
      (linked_fair at new linked fair)).1

  -- and what is selected stays
  pub selects_behind : (at : Clock) (new : Clock) → Linked Steps at new → AllFair mail played at new → Behind Told at.now.outside →
      new.now.outside.talk.selected ≡ at.now.outside.talk.selected
  selects_behind at new linked fair behind =
      (walked Links (λ k. Behind Told k.now.outside × (k.now.outside.talk.selected ≡ at.now.outside.talk.selected)) at
      (λ k m more s h. let so = asking_behind Told w.tag w.command k.now.outside m.outside s.0.outside h.0 in (so.0, so.2 ∙ h.1))
      (behind, refl) new (linked_fair at new linked fair)).1

-- the replies were told at a step, behind which nothing waits or arrives
module _ (told : List Response) (w : Waiting) (asked : List Response) (r : Replies) (after : Option (List ℕ)) (m n : Moment)
    (tells : Tells w (told ++ asked) r after m.outside n.outside) (one : One m.outside) where
  no_more : (more : List Response) → n.outside.talk.told ≡ m.outside.talk.told ++ more → AllGo more → ⊥
  no_more more is all =
      let same : (told ++ asked) ++ more ≡ (told ++ asked) ++ told_in w.tag r =
      ap (λ (l : List Response). l ++ more) (sym tells.before) ∙ sym is ∙ tells.behind in
      not_told w.tag r (subst AllGo (append_cancel_left (told ++ asked) more (told_in w.tag r) same) all)

  quiet_then : Does m.outside n.outside → Quiet n.outside
  quiet_then (nothing same is chosen) = absurd (no_more [] (is ∙ sym (append-nil m.outside.talk.told)) tt)
  quiet_then (changes batch is chosen) = absurd (no_more [] (is ∙ sym (append-nil m.outside.talk.told)) tt)
  quiet_then (goes same is chosen) = absurd (no_more (responses.Go ∷ []) is (refl, tt))
  quiet_then (replies tag reply is quiet) = quiet one

  longer : length told < length n.outside.talk.told
  longer =
      omega (
        arith,
        length-append told asked,
        length-append (told ++ asked) (told_in w.tag r),
        length-append r.untagged (responses.Done w.tag r.ending r.code ∷ []),
        ap (λ (l : List Response). length l) tells.behind,
      )

  pub behind_then : Asking told w.tag w.command m.outside n.outside → Behind told n.outside
  behind_then step =
      let quiet : Quiet n.outside = quiet_then (asking_does told w.tag w.command m.outside n.outside step) in
      record { quiet = quiet.nothing; no_text = quiet.no_text; more = longer }

-- The question or the command is asked and answered; what the player knows as it is carried out is given.
module _ (p : Player) (b : Meaning) (made old new : Clock) (w : Waiting) (r : Replies) (selected : Option Selected) (owed : Option Waiting)
    (rest : List Said) (c : Option Connection) (feed : Stream) (answered : Answered w r old new c feed) (fair : AllFair mail played old new)
    (quiet : old.now.outside.waiting ≡ None) (may : MayAsk mail played b old.now.outside.server w)
    (h : Follows p b made selected owed rest old) (at_box : w.selected ≡ name_of selected)
    (named : name_of (selected_after w.command r selected) ≡ answered.after)
    (later : Option Waiting)
    (takes : (course : Course) (t : Server) (after : Option (List ℕ)) → course.said ≡ rest → CarriesOut w course.now r t after →
    KeptBook b course.now None → KeptBook b course.now (Some w) → KeptBook b t None → Knows p b (world_of course selected owed) →
    Knows p b (world_of (answered_course w r t course) (selected_after w.command r selected) later)) where
  abbrev Before : List Response
  Before = old.now.outside.talk.told

  abbrev Answer : Peer → Peer → Type 0
  Answer = Asking Before w.tag w.command

  abbrev At : Clock
  At = answered.became.at

  abbrev To : Moment
  To = answered.became.to

  to_at : Grows old At
  to_at = grows Any (LinkStep Answer) old At answered.became.before

  to_end : Grows (tick At To) new
  to_end = grows Any (LinkStep Answer) (tick At To) new answered.became.after

  there : Still p b made old w selected owed rest At
  there =
      until p b made old w selected owed rest At answered.asked answered.became.is.before answered.all_go answered.became.before
      (since_first Any (IsFair mail played) old At new to_at (grows_then At (tick At To) new (grows_tick At To) to_end) fair)
      (record { asked = []; as_told = sym (append-nil Before); all_go = tt; one = inl quiet; may = may; at = at_box; follows = h })

  abbrev entry : Said
  entry = record { command = w; before = there.follows.course.now; behind = To.outside.server; reply = r }

  fair_behind : AllFair mail played (tick At To) new
  fair_behind =
      since_second Any (IsFair mail played) old (tick At To) new (grows_then old At (tick At To) to_at (grows_tick At To)) to_end fair

  quiet_behind : Behind Before To.outside
  quiet_behind = behind_then Before w answered.asked r answered.after At.now To answered.became.is there.one answered.became.step.outside

  -- what is selected then is so at the server
  chosen_then : name_of (selected_after w.command r selected) ≡ To.outside.talk.selected
  chosen_then =
      named ∙ sym answered.stands.selects
      ∙ selects_behind p b made old w selected owed rest (tick At To) new answered.became.after fair_behind quiet_behind

  follows_then : Follows p b made (selected_after w.command r selected) later (entry ∷ rest) (tick At To)
  follows_then =
      let f : Follows p b made selected owed rest At = there.follows in
      let t : Server = To.outside.server in
      let out : CarriesOut w f.course.now r t answered.after =
      subst (λ (s : Server). CarriesOut w s r t answered.after) (sym f.server) answered.became.is.is in
      let may_now : MayAsk mail played b f.course.now w = subst (λ (s : Server). MayAsk mail played b s w) (sym f.server) there.may in
      let kept : KeptBook b t None = kept_carried b f.course.now t w r answered.after out may_now f.kept in
      carried_follows p b made selected owed rest At To w r later (Before ++ answered.asked) answered.after answered.became.is
      (books_there Answer At.now To answered.became.step mail (Firm (Some b)) f.books) chosen_then f kept
      (takes f.course t answered.after f.is_said out f.kept (kept_asked b f.course.now w may_now f.kept) kept f.knows)

  pub follows_answered : AnsweredFollows w r p b made (selected_after w.command r selected) later rest new
  follows_answered = record {
    said = entry;
    command = refl;
    reply = refl;
    follows =
        from_then p b made old w (selected_after w.command r selected) later (entry ∷ rest) (tick At To) new answered.became.after fair_behind quiet_behind
        follows_then;
  }

-- at first
pub follows_first : (p : Player) (b : Meaning) (permits : Option Permits) (made old : Clock) → StandsKept b old →
    (known : KnownAt made old permits None p b) →
    Follows p b made known.world.selected None known.world.course.said old
follows_first p b permits made old stands known =
    let w : World = known.world in
    let idle_now : IsIdle p b w = idle p b w known.owed known.knows in
    let same : w ≡ world_of w.course w.selected None =
    ap (λ (o : Option Waiting). record w { owed = o }) known.owed
    ∙ ap (λ (o : Option Waiting). record { course = w.course; selected = w.selected; waiting = o; owed = None }) idle_now.waiting in
    record {
      course = w.course;
      books = stands.books;
      first = known.tells.first;
      server = known.tells.server;
      selects = known.tells.selects;
      each = known.tells.each;
      is_said = refl;
      answered = known.tells.answered;
      kept = subst (λ (o : Option Waiting). KeptBook b w.course.now o) idle_now.waiting
          (kept_told b w old.now.outside (tells_peer w made old known.tells) (kept_here b old.now stands.kept stands.books));
      knows = subst (λ (v : World). Knows p b v) same known.knows;
    }

-- at the end
pub tells_then : (p : Player) (b : Meaning) (made new : Clock) (selected : Option Selected) (owed : Option Waiting) (said : List Said)
    (after : Option (List ℕ)) (c : Option Connection) (feed : Stream) → Stands after new c feed → name_of selected ≡ after →
    (f : Follows p b made selected owed said new) → TellsOf (world_of f.course selected owed) made new
tells_then p b made new selected owed said after c feed stands selects f = record {
  first = f.first;
  server = f.server;
  each = f.each;
  answered = λ e one. f.answered e (subst (IsAmong e) f.is_said one);
  waits = sym stands.nothing;
  selects = selects ∙ sym stands.selects;
}
