-- What a call says that asks for what a server has of a mailbox (RFC 7162, section 3.2.5).
use Rattle.std.specs.Prelude.{◌≡◌, ◌<◌, ◌+◌, ℕ, true, List, length, None, Option, Some, Result, IfOk, IfSome, IsErrOf, is_some}
use Rattle.imap_model.specs.declared.ending.Ending.TheVariants as endings
use Rattle.imap_model.specs.declared.listen.Last.{Last}
use Rattle.imap_model.specs.declared.response.Response.{Response}
use Rattle.imap_session.specs.Blame.{Blames}
use Rattle.imap_session.specs.Dialogue.{BrokeOff, Dialogue, SentIn}
use Rattle.imap_session.specs.Enquiring.{Enquiring}
use Rattle.imap_session.specs.Hearing.{Hears}
use Rattle.imap_session.specs.Permanent.{permitted}
use Rattle.imap_session.specs.Replying.{AreSmall}
use Rattle.imap_session.specs.declared.chosen.Chosen.{Chosen}
use Rattle.imap_session.specs.declared.fault.SessionFault.{SessionFault}
use Rattle.imap_session.specs.declared.fault.SessionFault.TheVariants as faults
use Rattle.literal_feed.specs.Stream.{Stream}
use Rattle.mailbox_cache.specs.declared.cache.Cache.{Cache}
use Rattle.imap_model.specs.declared.replies.Replies.{Replies}
use Rattle.mailbox_cache.specs.declared.delta.Delta.{Delta}
use Rattle.playback.specs.Why.{TellsValidity}
use Rattle.qresync_core.specs.Fitting.{Fits}
use Rattle.qresync_core.specs.Making.{StandsFor}
use Rattle.qresync_core.specs.declared.fault.ResyncFault.{ResyncFault}
use Rattle.qresync_core.specs.declared.maker.DeltaMaker.{DeltaMaker}
use Rattle.world_traits.specs.Links.{Any, AnyStep, Linked}
use Rattle.world_traits.specs.Moments.{Since}
use Rattle.world_traits.specs.declared.clocked.Clocked.{Ghosts}
use Rattle.play_driver.specs.Exchanges.{AnsweredAll, CameAll}
use Rattle.play_driver.specs.Grounds.{GroundStep}
use Rattle.play_driver.specs.Progress.{has_name}
use Rattle.play_driver.specs.Questioning.{Questioning}
use Rattle.play_driver.specs.Holds.{IsHeldReply}
use Rattle.play_driver.specs.Renewing.{renewed_to}
use Rattle.play_driver.specs.Resynchronising.{Gathered, MakesDelta, exchanged, fetches, resync, then_all}
use Rattle.play_driver.specs.Sessions.{count_of, feed_of, selected_in}
use Rattle.play_driver.specs.declared.session.Held.{Held}
use Rattle.play_driver.specs.declared.session.Session.{Session}

-- However the call ends: the files stay as they were, and only the questions of a resynchronisation were asked (`sent` and `why` say it
-- for any dialogue behind them): this mailbox is selected, and the rows are asked for while it is. No honest server's reply is called bad.
-- Each fault's cause stands in the bytes received.
pub record Gathers {Self T : Type 0} (L : Ghosts Self) (name : List ℕ) (kept : Option Cache) (old new : Self) (session : Session)
    (result : Result T SessionFault) : Type 0 where
  pub files : L.tells_files → Linked AnyStep (L.clock old) (L.clock new)
  pub told : L.tells_server → Linked Enquiring (L.clock old) (L.clock new)
  pub asks : L.tells_server → Linked Questioning (L.clock old) (L.clock new)
  pub grounds : L.tells_server → (names : List (List ℕ)) → has_name name names ≡ true → Since Any (GroundStep names) (L.clock old) (L.clock new)
  pub sent : L.tells_files → (next : Dialogue) → SentIn (resync name kept next) (count_of session) (L.link old).sent (L.link new).sent
  pub why : L.tells_files → (next : Dialogue) (heard : List Response) → (h : Hears heard (L.link old).connection (feed_of session))
      → (fault : SessionFault) → IsErrOf result fault
      → BrokeOff (resync name kept next) (count_of session) (L.link old).sent h.connection.received heard (L.link new) fault
  pub honest : L.tells_server → (at : ℕ) → IsErrOf result (faults.BadReply at) → ⊥
  pub earlier : L.tells_files → (L.link new).earlier ≡ (L.link old).earlier
  pub blames : Blames L old new result

-- These are the replies: the server's answers, each at one moment of the call, and all that came. All rows were fetched exactly where they
-- were due.
pub record HasGathered {Self : Type 0} (L : Ghosts Self) (name : List ℕ) (kept : Option Cache) (old new : Self) (session : Session)
    (after : Stream) (gathered : Gathered) : Type 0 where
  pub answered : L.tells_server
      → AnsweredAll (exchanged name kept gathered) (selected_in session) (count_of session) (L.clock old) (L.clock new)
  pub fetched : is_some gathered.all ≡ fetches kept gathered.selected
  pub came : L.tells_files → (heard : List Response) → (h : Hears heard (L.link old).connection (feed_of session))
      → CameAll (exchanged name kept gathered) (count_of session) (L.link old).sent h.connection.received heard (L.link new) after
  pub small : AreSmall gathered.selected × IfSome gathered.all AreSmall

-- The makers stand for these replies: the first one for that to SELECT, which ended so; the other one for that to the FETCH of all rows,
-- where it was asked for.
pub record StandFor (selected : DeltaMaker) (last : Last) (all : DeltaMaker) (gathered : Gathered) : Type 0 where
  pub select : StandsFor selected gathered.selected.untagged
  pub code : gathered.selected.code ≡ last.code
  pub fetch : IfSome gathered.all (λ replies. StandsFor all replies.untagged)

-- What the makers make of the cache, whatever the replies are for which they stand: they tell no UIDVALIDITY above the cache's.
pub record Makes (kept : Option Cache) (selected : DeltaMaker) (last : Last) (all : DeltaMaker) (told : Result Delta ResyncFault) : Type 0 where
  pub makes : (g : Gathered) → StandFor selected last all g → is_some g.all ≡ fetches kept g.selected → MakesDelta kept g told
  pub current : (g : Gathered) → StandFor selected last all g → renewed_to kept g.selected ≡ None
  pub fits : IfOk told (Fits kept)

-- Or the reply to SELECT is held, since it told this one.
pub record Holds (kept : Option Cache) (chosen : Chosen) (selected : DeltaMaker) (last : Last) (held : Held) : Type 0 where
  pub is : held ≡ record { chosen = chosen; maker = selected; last = last; told = held.told }
  pub renewed : (r : Replies) → StandsFor selected r.untagged → r.code ≡ last.code → renewed_to kept r ≡ Some held.told

-- Replies were heard for which the makers stand: so many questions were asked then, and that to SELECT was OK, and tells the flags that can
-- be changed for good. No run keeps them.
pub record HasHeard {Self : Type 0} (L : Ghosts Self) (name : List ℕ) (kept : Option Cache) (old new : Self) (session : Session) (chosen : Chosen)
    (selected : DeltaMaker) (last : Last) (all : DeltaMaker) : Type 0 where
  pub gathered : Gathered
  pub stand : StandFor selected last all gathered
  pub heard : HasGathered L name kept old new session chosen.conversation.feed gathered
  pub accepted : gathered.selected.ending ≡ endings.Ok
  pub permitted : chosen.permits ≡ permitted None gathered.selected
  pub asked : chosen.conversation.count ≡ count_of session + 1 + length (then_all gathered.all)

-- A reply to SELECT was heard that is held: the server's answer, at one moment of the call, and all that came. It told a UIDVALIDITY above that of
-- the cache.
pub record HasHeld {Self : Type 0} (L : Ghosts Self) (name : List ℕ) (kept : Option Cache) (old new : Self) (session : Session) (held : Held)
    : Type 0 where
  pub cache : Cache
  pub cached : kept ≡ Some cache
  pub above : cache.validity < held.told
  pub reply : Replies
  pub is : IsHeldReply held reply
  pub tells : (r : Replies) → IsHeldReply held r → TellsValidity held.told r
  pub permitted : held.chosen.permits ≡ permitted None reply
  pub asked : held.chosen.conversation.count ≡ count_of session + 1
  pub answered : L.tells_server → AnsweredAll (exchanged name kept (record { selected = reply; all = None })) (selected_in session) (count_of session)
      (L.clock old) (L.clock new)
  pub came : L.tells_files → (heard : List Response) → (h : Hears heard (L.link old).connection (feed_of session))
      → CameAll (exchanged name kept (record { selected = reply; all = None })) (count_of session) (L.link old).sent h.connection.received heard
      (L.link new) held.chosen.conversation.feed
