-- What the player knows beside each moment of a call that asks a question or a command, and what the steps of such a call do.
use Rattle.action_queue.specs.Book.{Meaning}
use Rattle.imap_model.specs.CarriedOut.{told_in}
use Rattle.imap_model.specs.Carrying.{Waiting}
use Rattle.imap_model.specs.Changes.{Batch}
use Rattle.imap_model.specs.Talking.{Answering, Arriving, Awaits, Peer}
use Rattle.imap_model.specs.Talking.Answering.{carries, goes_on, others, refuses, stays}
use Rattle.imap_model.specs.declared.command.Command.{Command}
use Rattle.imap_model.specs.declared.replies.Replies.{Replies}
use Rattle.imap_model.specs.declared.response.Response.{Response}
use Rattle.imap_model.specs.declared.server.Server.{Server}
use Rattle.imap_session.specs.Knowing.{AllGo, Tells}
use Rattle.mail_base.specs.declared.tag.Tag.{Tag}
use Rattle.play_driver.proofs.KnownWalk.{AreAnswered, AreServers, answered_later, grows_tick, servers_grow, servers_later, servers_time}
use Rattle.play_driver.proofs.Parts.{grows_start}
use Rattle.play_driver.proofs.Questions.{awaits_quiet}
use Rattle.play_driver.specs.Joining.{Grows}
use Rattle.play_driver.specs.KnownAt.{WasAnswered}
use Rattle.play_driver.specs.Played.{SparesFrom}
use Rattle.play_driver.specs.SentOnce.{Behind}
use Rattle.book_laws.proofs.Foreign.{others_keep}
use Rattle.playback.proofs.Moments.{grows_carried, grows_moved}
use Rattle.playback.proofs.Onward.{others_know}
use Rattle.playback.specs.Course.{Course, IsAmong, Said}
use Rattle.book_laws.specs.Kept.{KeptBook}
use Rattle.playback.specs.Knows.{Knows}
use Rattle.book_laws.specs.Polite.{KeepsBox, Spares}
use Rattle.playback.specs.Worlds.{World, answered_course, answered_world, moved, name_of, selected_after}
use Rattle.playback.specs.declared.finding.Selected.{Selected}
use Rattle.playback.specs.declared.player.Player.{Player}
use Rattle.std.proofs.Common.{List, None, Option, Some, [], ap, arith, inl, inr, length, refl, subst, sym, true, ℕ, ◌++◌, ◌∙◌}
use Rattle.std.proofs.Common.{◌∷◌, ◌≡◌, ◌⊎◌, ⊎_elim}
use Rattle.store_core.specs.Mail.{mail}
use Rattle.store_core.specs.Steps.{Firm}
use Rattle.store_core.specs.Taking.{HasBooks}
use Rattle.world_traits.specs.Asking.{Asking}
use Rattle.world_traits.specs.Asking.Asking.{answers, arrives}
use Rattle.world_traits.specs.Moments.{Clock, Moment, tick}
use Rattle.imap_model.specs.declared.response.Response.TheVariants as responses
use Rattle.std.proofs.lemmas.Option.{none-some}

-- the connection as the player has it, in which nothing waits
abbrev pub world_of : Course → Option Selected → Option Waiting → World
world_of course selected owed = record { course = course; selected = selected; waiting = None; owed = owed }

-- At this clock the book is firm, and kept if nothing waits; and the player knows a connection with the servers of the moments since the
-- connection was made, in which this is selected, owed, and was said and answered.
pub record Follows (p : Player) (b : Meaning) (made : Clock) (selected : Option Selected) (owed : Option Waiting) (said : List Said)
    (k : Clock) : Type 0 where
  pub course : Course
  pub books : HasBooks mail (Firm (Some b)) k.now
  pub first : course.first ≡ made.now.outside.server
  pub server : course.now ≡ k.now.outside.server
  pub selects : name_of selected ≡ k.now.outside.talk.selected
  pub each : AreServers (world_of course selected owed) made k
  pub is_said : course.said ≡ said
  pub answered : AreAnswered said made k
  pub kept : KeptBook b course.now None
  pub knows : Knows p b (world_of course selected owed)

module _ (p : Player) (b : Meaning) (made : Clock) (selected : Option Selected) (owed : Option Waiting) (said : List Said) where
  abbrev Now : Clock → Type 0
  Now k = Follows p b made selected owed said k

  -- the same server
  pub same_follows : (k : Clock) (m : Moment) → HasBooks mail (Firm (Some b)) m → m.outside.server ≡ k.now.outside.server →
      m.outside.talk.selected ≡ k.now.outside.talk.selected → Now k → Now (tick k m)
  same_follows k m has same chosen h = record {
    course = h.course;
    books = has;
    first = h.first;
    server = h.server ∙ sym same;
    selects = h.selects ∙ sym chosen;
    each = servers_later (world_of h.course selected owed) made k (tick k m) (grows_tick k m) h.each;
    is_said = h.is_said;
    answered = answered_later said made k (tick k m) (grows_tick k m) h.answered;
    kept = h.kept;
    knows = h.knows;
  }

  -- others change something
  pub others_follow : (k : Clock) (m : Moment) → HasBooks mail (Firm (Some b)) m →
      Batch k.now.outside.server.boxes k.now.outside.server m.outside.server →
      SparesFrom (Some b) k.now.outside m.outside.server → m.outside.talk.selected ≡ k.now.outside.talk.selected → Now k → Now (tick k m)
  others_follow k m has batch spares chosen h =
      let t : Server = m.outside.server in
      let w : World = world_of h.course selected owed in
      let foreign : Batch h.course.now.boxes h.course.now t = subst (λ (s : Server). Batch s.boxes s t) (sym h.server) batch in
      let spared : Spares b h.course.now.boxes t.boxes = subst (λ (s : Server). Spares b s.boxes t.boxes) (sym h.server) spares.0 in
      let keeps : KeepsBox (name_of selected) h.course.now.boxes t.boxes =
      subst (λ (s : Server). KeepsBox (name_of selected) s.boxes t.boxes) (sym h.server)
      (subst (λ (o : Option (List ℕ)). KeepsBox o k.now.outside.server.boxes t.boxes) (sym h.selects) spares.1) in
      record {
        course = record h.course { now = t; past = h.course.now ∷ h.course.past };
        books = has;
        first = h.first;
        server = refl;
        selects = h.selects ∙ sym chosen;
        each = servers_grow w (moved t w) made k m (grows_moved t w) refl h.each;
        is_said = h.is_said;
        answered = answered_later said made k (tick k m) (grows_tick k m) h.answered;
        kept = others_keep b h.course.now t None h.kept foreign spared tt;
        knows = others_know p b w t h.kept foreign spared keeps tt h.knows;
      }

  -- what was said last was answered at this moment
  answered_now : (k : Clock) (m : Moment) (e : Said) (told : List Response) (after : Option (List ℕ)) → Grows made k →
      k.now.outside.server ≡ e.before → m.outside.server ≡ e.behind → Tells e.command told e.reply after k.now.outside m.outside →
      AreAnswered said made k → AreAnswered (e ∷ said) made (tick k m)
  answered_now k m e told after time before behind tells answered f one =
      ⊎_elim
      (λ (is : f ≡ e). subst (λ (x : Said). WasAnswered x made (tick k m)) (sym is) (record {
        told = told;
        after = after;
        became = record {
          at = k;
          to = m;
          before = time;
          has = tt;
          step = tt;
          after = grows_start (tick k m);
          is = (before, behind, tells);
        };
      }))
      (λ (was : IsAmong f said). answered_later said made k (tick k m) (grows_tick k m) answered f was) one

  -- a command is carried out
  pub carried_follows : (k : Clock) (m : Moment) (w : Waiting) (r : Replies) (later : Option Waiting) (told : List Response)
      (after : Option (List ℕ)) → Tells w told r after k.now.outside m.outside → HasBooks mail (Firm (Some b)) m →
      name_of (selected_after w.command r selected) ≡ m.outside.talk.selected → (h : Now k) →
      KeptBook b m.outside.server None →
      Knows p b (world_of (answered_course w r m.outside.server h.course) (selected_after w.command r selected) later) →
      Follows p b made (selected_after w.command r selected) later
      (record { command = w; before = h.course.now; behind = m.outside.server; reply = r } ∷ said) (tick k m)
  carried_follows k m w r later told after tells has chosen h kept knows =
      let t : Server = m.outside.server in
      let old : World = world_of h.course selected owed in
      record {
        course = answered_course w r t h.course;
        books = has;
        first = h.first;
        server = refl;
        selects = chosen;
        each = servers_grow old (answered_world w r t old) made k m (grows_carried w r t old) refl h.each;
        is_said = ap (λ (l : List Said). record { command = w; before = h.course.now; behind = t; reply = r } ∷ l) h.is_said;
        answered = answered_now k m (record { command = w; before = h.course.now; behind = t; reply = r }) told after
            (servers_time old made k h.each) (sym h.server) refl tells h.answered;
        kept = kept;
        knows = knows;
      }

-- requests to go on alone
pub go_front : (xs ys : List Response) → AllGo (xs ++ ys) → AllGo xs
go_front [] ys all = tt
go_front (x ∷ xs) ys all = (all.0, go_front xs ys all.1)

pub go_back : (xs ys : List Response) → AllGo (xs ++ ys) → AllGo ys
go_back [] ys all = all
go_back (x ∷ xs) ys all = go_back xs ys all.1

pub go_more : (xs : List Response) → AllGo xs → AllGo (xs ++ responses.Go ∷ [])
go_more [] all = (refl, tt)
go_more (x ∷ xs) all = (all.0, go_more xs all.1)

pub not_told : (tag : Tag) (r : Replies) → AllGo (told_in tag r) → ⊥
not_told tag r all =
    let done : (responses.Done tag r.ending r.code ≡ responses.Go) × AllGo [] = go_back r.untagged
    (responses.Done tag r.ending r.code ∷ []) all in
    let is : responses.Done tag r.ending r.code ≡ responses.Go = done.0 in
    absurd cc

-- nothing waits or arrives
pub record Quiet (p : Peer) : Type 0 where
  pub nothing : p.waiting ≡ None
  pub no_text : p.talk.arriving ≡ None

-- a command waits, or a text arrives, and never both
abbrev pub One : Peer → Type 0
One p = (p.waiting ≡ None) ⊎ (p.talk.arriving ≡ None)

-- What a step of a server does, of which what is selected stays but for the last: nothing that is told; others change something; a part is asked for; a reply is told, and behind it nothing
-- waits or arrives.
pub data Does (p : Peer) : Peer → Type 0 where
  nothing : {q : Peer} → q.server ≡ p.server → q.talk.told ≡ p.talk.told → q.talk.selected ≡ p.talk.selected → Does p q
  changes : {q : Peer} → Batch p.server.boxes p.server q.server → q.talk.told ≡ p.talk.told → q.talk.selected ≡ p.talk.selected → Does p q
  goes : {q : Peer} → q.server ≡ p.server → q.talk.told ≡ p.talk.told ++ responses.Go ∷ [] → q.talk.selected ≡ p.talk.selected → Does p q
  replies : {q : Peer} (tag : Tag) (r : Replies) → q.talk.told ≡ p.talk.told ++ told_in tag r → (One p → Quiet q) → Does p q

no_waiting : (a : Arriving) (p : Peer) → p.talk.arriving ≡ Some a → One p → p.waiting ≡ None
no_waiting a p is (inl quiet) = quiet
no_waiting a p is (inr none) = absurd (none-some a (sym none ∙ is))

no_arriving : (w : Waiting) (p : Peer) → p.waiting ≡ Some w → One p → p.talk.arriving ≡ None
no_arriving w p is (inl quiet) = absurd (none-some w (sym quiet ∙ is))
no_arriving w p is (inr none) = none

module _ (told : List Response) (tag : Tag) (command : Command) where
  answering_does : (p q : Peer) → Answering p q → Does p q
  answering_does p q stays = nothing refl refl refl
  answering_does p q (others t batch) = changes batch refl refl
  answering_does p q (goes_on a is unasked) = goes refl refl refl
  answering_does p q (refuses a r is unasked refusal) = replies a.tag r refl
      (λ one. record { nothing = no_waiting a p is one; no_text = refl })
  answering_does p q (carries w r t after is out) = replies w.tag r refl
      (λ one. record { nothing = refl; no_text = no_arriving w p is one })

  pub asking_does : (p q : Peer) → Asking told tag command p q → Does p q
  asking_does p q (answers step) = answering_does p q step
  asking_does p q (arrives before part [] is awaits front) = nothing refl refl refl
  asking_does p q (arrives before part (next ∷ behind) is awaits front) = nothing refl refl refl

  answering_one : (p q : Peer) → Answering p q → One p → One q
  answering_one p q stays one = one
  answering_one p q (others t batch) one = one
  answering_one p q (goes_on a is unasked) one = inl (no_waiting a p is one)
  answering_one p q (refuses a r is unasked refusal) one = inr refl
  answering_one p q (carries w r t after is out) one = inl refl

  pub asking_one : (p q : Peer) → Asking told tag command p q → One p → One q
  asking_one p q (answers step) one = answering_one p q step one
  asking_one p q (arrives before part [] is awaits front) one = inr refl
  asking_one p q (arrives before part (next ∷ behind) is awaits front) one = inl (awaits_quiet tag before p awaits)

  -- behind a reply nothing is carried out, and no text begins
  abbrev Replied : Peer → Type 0
  Replied p = Behind told p

  answering_behind : (p q : Peer) → Answering p q → Replied p →
      Replied q × ((q.server ≡ p.server) ⊎ Batch p.server.boxes p.server q.server) × (q.talk.selected ≡ p.talk.selected)
  answering_behind p q stays h = (h, inl refl, refl)
  answering_behind p q (others t batch) h = (record { quiet = h.quiet; no_text = h.no_text; more = h.more }, inr batch, refl)
  answering_behind p q (goes_on a is unasked) h = absurd (none-some a (sym h.no_text ∙ is))
  answering_behind p q (refuses a r is unasked refusal) h = absurd (none-some a (sym h.no_text ∙ is))
  answering_behind p q (carries w r t after is out) h = absurd (none-some w (sym h.quiet ∙ is))

  closed : (before : List (List ℕ)) (p : Peer) → Awaits tag before p → (before ≡ [] → p.talk.told ≡ told) → Replied p → ⊥
  closed [] p a front h = omega (arith, h.more, ap (λ (l : List Response). length l) (front refl))
  closed (x ∷ xs) p a front h = none-some (record { tag = tag; parts = x ∷ xs; asked = true }) (sym h.no_text ∙ a.1)

  pub asking_behind : (p q : Peer) → Asking told tag command p q → Replied p →
      Replied q × ((q.server ≡ p.server) ⊎ Batch p.server.boxes p.server q.server) × (q.talk.selected ≡ p.talk.selected)
  asking_behind p q (answers step) h = answering_behind p q step h
  asking_behind p q (arrives before part behind is awaits front) h = absurd (closed before p awaits front h)
