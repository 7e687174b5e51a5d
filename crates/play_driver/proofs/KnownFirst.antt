-- What the player knows as its run begins: behind the moments of a login, in which the server stayed or others changed something.
use Rattle.std.proofs.Common.{List, None, Option, Some, [], ap, refl, subst, sym, ℕ, ⊎_elim, ◌∙◌, ◌∷◌, ◌≡◌}
use Rattle.action_queue.specs.Book.{Meaning}
use Rattle.imap_model.specs.Carrying.{Waiting}
use Rattle.imap_model.specs.Changes.{Batch}
use Rattle.imap_model.specs.Talking.{Peer, Answering, Connecting}
use Rattle.imap_model.specs.Talking.Answering.{stays, others, goes_on, refuses, carries}
use Rattle.imap_model.specs.Talking.Connecting.{as_before, begins, ends}
use Rattle.imap_model.specs.declared.server.Mailbox.{Mailbox}
use Rattle.imap_model.specs.declared.server.Server.{Server}
use Rattle.imap_session.specs.Enquiring.{Enquiring, connecting, asking}
use Rattle.imap_session.specs.declared.permits.Permits.{Permits}
use Rattle.play_driver.proofs.Calls.{enquires_stays}
use Rattle.play_driver.proofs.KnownWalk.{AreServers, Beside, GoesTo, Reaches, beside_book, grown_same, kept_here, tells_of}
use Rattle.play_driver.proofs.KnownWalk.{was_now, world_walked}
use Rattle.play_driver.proofs.KnownPermits.{unselected_permits}
use Rattle.play_driver.proofs.Parts.{grows, grows_start}
use Rattle.play_driver.proofs.PlayedKept.{withstood}
use Rattle.play_driver.proofs.QuestionsStay.{question_stays}
use Rattle.play_driver.specs.Joining.{AllFair}
use Rattle.play_driver.specs.KnownAt.{KnownAt, StandsKept, WasServer}
use Rattle.play_driver.specs.Played.{played}
use Rattle.play_driver.specs.Calm.{NoChangeWaits}
use Rattle.book_laws.proofs.Carrying.{nothing_waits}
use Rattle.book_laws.proofs.Keeping.{quiet_keeps}
use Rattle.playback.proofs.Moments.{grows_moved}
use Rattle.playback.proofs.Onward.{others_know}
use Rattle.playback.proofs.Recording.{begins_know}
use Rattle.playback.specs.Choosing.{begun_with}
use Rattle.playback.specs.Course.{IsAmong}
use Rattle.book_laws.specs.Kept.{Kept, KeptBook}
use Rattle.book_laws.specs.Of.{MutatingWaits}
use Rattle.playback.specs.Knows.{Knows}
use Rattle.book_laws.specs.Polite.{KeepsBox, KeepsWaiting, Spares}
use Rattle.playback.specs.Worlds.{World, moved, name_of}
use Rattle.playback.specs.Worlds.{begins as begins_at}
use Rattle.playback.specs.declared.player.Player.{Player}
use Rattle.std.specs.declared.alloc.Global.{Global}
use Rattle.store_core.proofs.MailBook.{one_mail_event}
use Rattle.store_core.specs.Mail.{mail}
use Rattle.store_core.specs.Steps.{Firm}
use Rattle.world_traits.specs.Asking.Asking.{answers, arrives}
use Rattle.world_traits.specs.Links.{Any, LinkStep, Linked}
use Rattle.world_traits.specs.Moments.{Clock}

-- Questions alone wait at the server, and of these the player knows nothing: to it nothing waits, nothing is selected, and nothing was said.
pub record IsFirst (p : Player) (b : Meaning) (w : World) (q : Peer) : Type 0 where
  pub server : w.course.now ≡ q.server
  pub waiting : w.waiting ≡ None
  pub selected : w.selected ≡ None
  pub owed : w.owed ≡ None
  pub no_change : NoChangeWaits q.waiting
  pub unsaid : w.course.said ≡ []
  pub knows : Knows p b w

-- to it nothing is selected, and nothing waits
none_kept : (selected : Option (List ℕ)) (old new : List Mailbox) → selected ≡ None → KeepsBox selected old new
none_kept selected old new is = subst (λ (o : Option (List ℕ)). KeepsBox o old new) (sym is) tt

none_waits : (waiting : Option Waiting) (old new : List Mailbox) → waiting ≡ None → KeepsWaiting waiting old new
none_waits waiting old new is = subst (λ (o : Option Waiting). KeepsWaiting o old new) (sym is) tt

module _ (p : Player) (b : Meaning) where
  abbrev At : World → Peer → Type 0
  At = IsFirst p b

  abbrev Spared : Peer → Peer → Type 0
  Spared q r = Batch q.server.boxes q.server r.server → Spares b q.server.boxes r.server.boxes

  -- the server stays
  same_server : (q r : Peer) (w : World) → r.server ≡ q.server → NoChangeWaits r.waiting → At w q → GoesTo At w r
  same_server q r w same no_change h = record {
    world = w;
    grown = grown_same w;
    there = record {
      server = h.server ∙ sym same;
      waiting = h.waiting;
      selected = h.selected;
      owed = h.owed;
      no_change = no_change;
      unsaid = h.unsaid;
      knows = h.knows;
    };
  }

  -- others change something
  others_first : (q : Peer) (t : Server) (w : World) → Batch q.server.boxes q.server t →
      Spares b q.server.boxes t.boxes →
      KeptBook b q.server q.waiting → At w q → GoesTo At w (record q { server = t })
  others_first q t w batch spares kept h =
      let quiet : KeptBook b q.server w.waiting =
      quiet_keeps (Some b) q.server q.waiting w.waiting (λ m. nothing_waits (subst MutatingWaits h.waiting m)) kept in
      let here : KeptBook b w.course.now w.waiting = subst (λ (s : Server). KeptBook b s w.waiting) (sym h.server) quiet in
      let batched : Batch w.course.now.boxes w.course.now t = subst (λ (s : Server). Batch s.boxes s t) (sym h.server) batch in
      let spared : Spares b w.course.now.boxes t.boxes = subst (λ (s : Server). Spares b s.boxes t.boxes) (sym h.server) spares in
      record {
        world = moved t w;
        grown = grows_moved t w;
        there = record {
          server = refl;
          waiting = h.waiting;
          selected = h.selected;
          owed = h.owed;
          no_change = h.no_change;
          unsaid = h.unsaid;
          knows = others_know p b w t here batched spared (none_kept (name_of w.selected) w.course.now.boxes t.boxes (ap name_of h.selected))
              (none_waits w.waiting w.course.now.boxes t.boxes h.waiting) h.knows;
        };
      }

  answering_first : (q r : Peer) (w : World) → Answering q r → KeptBook b q.server q.waiting → Spared q r → At w q → GoesTo At w r
  answering_first q r w stays kept spares h = same_server q q w refl h.no_change h
  answering_first q r w (others t batch) kept spares h = others_first q t w batch (spares batch) kept h
  answering_first q r w (goes_on a is unasked) kept spares h = same_server q r w refl h.no_change h
  answering_first q r w (refuses a replies is unasked refusal) kept spares h = same_server q r w refl h.no_change h
  answering_first q r w (carries c replies t after is out) kept spares h =
      same_server q r w (question_stays c q.server replies t after (subst NoChangeWaits is h.no_change) out) tt h

  connecting_first : (q r : Peer) (w : World) → Connecting q r → KeptBook b q.server q.waiting → Spared q r → At w q → GoesTo At w r
  connecting_first q r w (as_before step) kept spares h = answering_first q r w step kept spares h
  connecting_first q r w ends kept spares h = same_server q r w refl h.no_change h
  connecting_first q r w (begins greeting is) kept spares h = same_server q r w refl tt h

  enquiring_first : (q r : Peer) (w : World) → Enquiring q r → KeptBook b q.server q.waiting → Spared q r → At w q → GoesTo At w r
  enquiring_first q r w (connecting step) kept spares h = connecting_first q r w step kept spares h
  enquiring_first q r w (asking told tag command question (answers step)) kept spares h = answering_first q r w step kept spares h
  enquiring_first q r w (asking told tag command question (arrives before part [] is awaits front)) kept spares h =
      same_server q r w refl question h
  enquiring_first q r w (asking told tag command question (arrives before part (next ∷ behind) is awaits front)) kept spares h =
      same_server q r w refl h.no_change h

  pub first_on : (q r : Peer) (w : World) → Beside Enquiring b q r → At w q → GoesTo At w r
  first_on q r w s h = enquiring_first q r w s.step s.kept (λ batch. (s.spares batch).0) h

module _ (alloc : Global) (b : Meaning) (made now : Clock) (stands : StandsKept b made) (linked : Linked Enquiring made now)
    (fair : AllFair mail played made now) where
  abbrev P : Player
  P = begun_with alloc b

  abbrev W : World
  W = begins_at made.now.outside.server

  kept_first : KeptBook b made.now.outside.server None
  kept_first =
      quiet_keeps (Some b) made.now.outside.server made.now.outside.waiting None nothing_waits
      (kept_here b made.now stands.kept stands.books)

  at_first : IsFirst P b W made.now.outside
  at_first = record {
    server = refl;
    waiting = refl;
    selected = refl;
    owed = refl;
    no_change = subst NoChangeWaits (sym stands.none_waits) tt;
    unsaid = refl;
    knows = begins_know alloc b made.now.outside.server kept_first;
  }

  servers_first : AreServers W made made
  servers_first s among =
      ⊎_elim
      (λ (is : s ≡ made.now.outside.server). subst (λ (x : Server). WasServer x made made) (sym is) (was_now made made (grows_start made)))
      (λ (n : ⊥). absurd n) among

  beside_first : Linked (Beside Enquiring b) made now
  beside_first =
      beside_book Enquiring b made now (stands.books, stands.kept) linked fair
      (enquires_stays mail one_mail_event Kept played withstood (Firm (Some b)) made now stands.books stands.kept linked now
      (grows Any (LinkStep Enquiring) made now linked) (grows_start now) fair)

  reached_first : Reaches (IsFirst P b) W made now
  reached_first =
      world_walked (Beside Enquiring b) (IsFirst P b) (λ w q h. h.server) (first_on P b) W made made now servers_first at_first beside_first

  pub known_first : now.now.outside.waiting ≡ None → now.now.outside.talk.selected ≡ None → (permits : Option Permits) → KnownAt made now permits None P b
  known_first waiting selected permits =
      let h : IsFirst P b reached_first.world now.now.outside = reached_first.there in
      record {
        world = reached_first.world;
        tells = tells_of (IsFirst P b) W made now refl reached_first (λ e one. absurd (subst (IsAmong e) h.unsaid one)) (record {
          server = h.server;
          waits = h.waiting ∙ sym waiting;
          selects = ap name_of h.selected ∙ sym selected;
        });
        permitted = unselected_permits permits reached_first.world h.selected;
        owed = h.owed;
        knows = h.knows;
      }
