-- Along the moments of a run, with the world beside them that the player knows.
use Rattle.std.proofs.Common.{List, Option, Some, [], inl, inr, refl, subst, sym, ⊎_elim, ◌∙◌, ◌∷◌, ◌≡◌}
use Rattle.action_queue.specs.Book.{Meaning}
use Rattle.imap_model.specs.Carrying.{Waiting}
use Rattle.imap_model.specs.Changes.{Batch}
use Rattle.imap_model.specs.Talking.{Peer}
use Rattle.imap_model.specs.declared.server.Server.{Server}
use Rattle.play_driver.proofs.Kept.{kept_books}
use Rattle.play_driver.proofs.Links.{books_there, fair_books}
use Rattle.play_driver.proofs.Parts.{became_later, grows_start, grows_then}
use Rattle.play_driver.proofs.PlayedKept.{withstood}
use Rattle.play_driver.proofs.Steps.{joined_keeps}
use Rattle.play_driver.specs.Joining.{AllFair, AnyTwo, Grows, IsFair, IsKept, Joined}
use Rattle.play_driver.specs.KnownAt.{TellsOf, WasAnswered, WasServer}
use Rattle.play_driver.specs.Played.{SparesFrom, played}
use Rattle.playback.specs.Course.{IsAmong, Said}
use Rattle.book_laws.specs.Kept.{Kept, KeptBook}
use Rattle.playback.specs.Worlds.{Among, KeepsCourse, World, name_of}
use Rattle.store_core.proofs.MailBook.{one_mail_event}
use Rattle.store_core.specs.Mail.{mail}
use Rattle.store_core.specs.Steps.{Firm}
use Rattle.store_core.specs.Taking.{HasBooks}
use Rattle.world_traits.proofs.Passing.{since_weaker}
use Rattle.world_traits.proofs.Traces.{since_both, since_carry}
use Rattle.world_traits.specs.Links.{Any, LinkStep, Linked}
use Rattle.world_traits.specs.Moments.{Chain, Clock, Moment, Since, grow, tick}

any_chain : (c : Clock) (ms : List Moment) → Chain Any AnyTwo c ms
any_chain c [] = tt
any_chain c (m ∷ ms) = (tt, tt, any_chain c ms)

-- one moment more
pub grows_tick : (k : Clock) (m : Moment) → Grows k (tick k m)
grows_tick k m = record { added = m ∷ []; grown = refl; each = (tt, tt, tt) }

-- what holds of the clock at first, and is handed on to each moment more, holds of the clock at the end
module _ (S : Moment → Moment → Type 0) (Q : Clock → Type 0) (old : Clock)
    (on : (k : Clock) (m : Moment) → Grows old k → S k.now m → Q k → Q (tick k m)) (at_first : Q old) where
  walk : (ms : List Moment) → Chain Any S old ms → Q (grow old ms)
  walk [] each = at_first
  walk (m ∷ ms) each = on (grow old ms) m (record { added = ms; grown = refl; each = any_chain old ms }) each.1 (walk ms each.2)

  pub walked : (new : Clock) → Since Any S old new → Q new
  walked new s = subst Q (sym s.grown) (walk s.added s.each)

-- the book of a kept moment
pub kept_here : (b : Meaning) (m : Moment) → IsKept mail Kept m → HasBooks mail (Firm (Some b)) m →
    KeptBook b m.outside.server m.outside.waiting
kept_here b m kept has = kept_books mail Kept one_mail_event (Firm (Some b)) m kept has

-- A step of the server with its connection, and the book is kept before and behind it. Where it is one of others, they spare the book, and
-- renew no mailbox that is selected, or in which a command waits.
pub record Beside (S : Peer → Peer → Type 0) (b : Meaning) (p q : Peer) : Type 0 where
  pub step : S p q
  pub kept : KeptBook b p.server p.waiting
  pub later : KeptBook b q.server q.waiting
  pub spares : Batch p.server.boxes p.server q.server → SparesFrom (Some b) p q.server

module _ (S : Peer → Peer → Type 0) (b : Meaning) where
  -- the book is this one, and kept
  abbrev pub Good : Moment → Type 0
  Good m = HasBooks mail (Firm (Some b)) m × IsKept mail Kept m

  abbrev AnyThree : Moment → Type 0
  AnyThree m = (Any m × Any m) × IsKept mail Kept m

  abbrev Fair : Moment → Moment → Type 0
  Fair m n = (LinkStep S m n × IsFair mail played m n) × Joined mail played m n

  good_on : (m n : Moment) → AnyThree n → Fair m n → Good m → Good n
  good_on m n any s h = (books_there S m n s.0.0 mail (Firm (Some b)) h.0, any.1)

  beside_step : (m n : Moment) → Good m × Fair m n → LinkStep (Beside S b) m n
  beside_step m n s =
      let link : LinkStep S m n = s.1.0.0 in
      let has : HasBooks mail (Firm (Some b)) n = books_there S m n link mail (Firm (Some b)) s.0.0 in
      record {
        left = link.left;
        right = link.right;
        outside = record {
          step = link.outside;
          kept = kept_here b m s.0.1 s.0.0;
          later = kept_here b n (joined_keeps mail played Kept withstood one_mail_event m n s.1.1 s.0.1) has;
          spares = fair_books mail played (Firm (Some b)) m n s.0.0 s.1.0.1;
        };
      }

  module _ (old new : Clock) (good : Good old.now) (linked : Linked S old new) (fair : AllFair mail played old new)
      (joined : Since (IsKept mail Kept) (Joined mail played) old new) where
    all : Since AnyThree Fair old new
    all =
        since_both (λ m. Any m × Any m) (IsKept mail Kept) (λ m n. LinkStep S m n × IsFair mail played m n) (Joined mail played) old new
        (since_both Any Any (LinkStep S) (IsFair mail played) old new linked fair) joined

    -- so each step of a call is
    pub beside_book : Linked (Beside S b) old new
    beside_book =
        since_weaker (λ m. AnyThree m × Good m) Any (λ m n. Good m × Fair m n) (LinkStep (Beside S b)) (λ m p. tt) beside_step old new
        (since_carry AnyThree Good Fair good_on old good new all)

-- the server of a moment was the server, and stays one that was
pub was_now : (made k : Clock) → Grows made k → WasServer k.now.outside.server made k
was_now made k first = record { at = k; first = first; later = grows_start k; is = refl }

pub was_later : (s : Server) (made k l : Clock) → Grows k l → WasServer s made k → WasServer s made l
was_later s made k l more was = record { at = was.at; first = was.first; later = grows_then was.at k l was.later more; is = was.is }

-- each of the world's servers is one of these moments'
abbrev pub AreServers : World → Clock → Clock → Type 0
AreServers w made k = (s : Server) → Among s w → WasServer s made k

pub servers_later : (w : World) (made k l : Clock) → Grows k l → AreServers w made k → AreServers w made l
servers_later w made k l more each s among = was_later s made k l more (each s among)

-- what was said was answered at these moments
abbrev pub AreAnswered : List Said → Clock → Clock → Type 0
AreAnswered said made k = (e : Said) → IsAmong e said → WasAnswered e made k

was_answered_later : (e : Said) (made k l : Clock) → Grows k l → WasAnswered e made k → WasAnswered e made l
was_answered_later e made k l more was =
    record { told = was.told; after = was.after; became = became_later _ made k l was.became more }

pub answered_later : (said : List Said) (made k l : Clock) → Grows k l → AreAnswered said made k → AreAnswered said made l
answered_later said made k l more each e one = was_answered_later e made k l more (each e one)

-- time went on from the connection's first moment
pub servers_time : (w : World) (made k : Clock) → AreServers w made k → Grows made k
servers_time w made k each =
    let was : WasServer w.course.now made k = each w.course.now (inl refl) in
    grows_then made was.at k was.first was.later

-- a moment more, and the world as it is then
pub servers_grow : (w v : World) (made k : Clock) (m : Moment) → KeepsCourse w v → v.course.now ≡ m.outside.server → AreServers w made k →
    AreServers v made (tick k m)
servers_grow w v made k m grown now each s among =
    let time : Grows made (tick k m) = grows_then made k (tick k m) (servers_time w made k each) (grows_tick k m) in
    ⊎_elim (λ (is : s ≡ v.course.now). subst (λ (x : Server). WasServer x made (tick k m)) (sym (is ∙ now)) (was_now made (tick k m) time))
    (λ (before : Among s w). was_later s made k (tick k m) (grows_tick k m) (each s before)) (grown.back s among)

pub grown_same : (w : World) → KeepsCourse w w
grown_same w = record { among = λ s a. a; back = λ s a. inr a; said = λ e a. a; first = refl }

-- the world goes on to one of which this is so, at most a moment later
pub record GoesTo (At : World → Peer → Type 0) (w : World) (q : Peer) : Type 0 where
  pub world : World
  pub grown : KeepsCourse w world
  pub there : At world q

-- so it goes on over the moments
pub record Reaches (At : World → Peer → Type 0) (w : World) (made new : Clock) : Type 0 where
  pub world : World
  pub first : world.course.first ≡ w.course.first
  pub servers : AreServers world made new
  pub there : At world new.now.outside

-- What is so of a world beside a peer, and is handed on by each step of the peer, is so at the end of the steps.
module _ (T : Peer → Peer → Type 0) (At : World → Peer → Type 0) (now : (w : World) (p : Peer) → At w p → w.course.now ≡ p.server)
    (on : (p q : Peer) (w : World) → T p q → At w p → GoesTo At w q) (w : World) (made : Clock) where
  reached_on : (k : Clock) (m : Moment) → LinkStep T k.now m → Reaches At w made k → Reaches At w made (tick k m)
  reached_on k m step r =
      let g : GoesTo At r.world m.outside = on k.now.outside m.outside r.world step.outside r.there in
      record {
        world = g.world;
        first = g.grown.first ∙ r.first;
        servers = servers_grow r.world g.world made k m g.grown (now g.world m.outside g.there) r.servers;
        there = g.there;
      }

  pub world_walked : (old new : Clock) → AreServers w made old → At w old.now.outside → Linked T old new → Reaches At w made new
  world_walked old new each at linked =
      walked (LinkStep T) (Reaches At w made) old (λ k m more step r. reached_on k m step r)
      (record { world = w; first = refl; servers = each; there = at }) new linked

-- what the world tells of the peer
pub record TellsPeer (w : World) (p : Peer) : Type 0 where
  pub server : w.course.now ≡ p.server
  pub waits : w.waiting ≡ p.waiting
  pub selects : name_of w.selected ≡ p.talk.selected

pub tells_peer : (w : World) (made k : Clock) → TellsOf w made k → TellsPeer w k.now.outside
tells_peer w made k t = record { server = t.server; waits = t.waits; selects = t.selects }

pub tells_of : (At : World → Peer → Type 0) (w : World) (made new : Clock) → w.course.first ≡ made.now.outside.server →
    (r : Reaches At w made new) → AreAnswered r.world.course.said made new → TellsPeer r.world new.now.outside → TellsOf r.world made new
tells_of At w made new first r answered t =
    record { first = r.first ∙ first; server = t.server; each = r.servers; answered = answered; waits = t.waits; selects = t.selects }

-- the book that is kept beside the server is so beside the world
pub kept_told : (b : Meaning) (w : World) (p : Peer) → TellsPeer w p → KeptBook b p.server p.waiting → KeptBook b w.course.now w.waiting
kept_told b w p t kept =
    subst (λ (o : Option Waiting). KeptBook b w.course.now o) (sym t.waits)
    (subst (λ (s : Server). KeptBook b s p.waiting) (sym t.server) kept)
