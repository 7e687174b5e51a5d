-- How far a session came in its connection, and what was told between two points of it (RFC 9051, section 2.2).
use Rattle.std.specs.Prelude.{◌≡◌, ℕ, Bool, List, Option, Result}
use Rattle.literal_feed.specs.Stream.{Stream}
use Rattle.imap_model.specs.declared.response.Response.{Response}
use Rattle.mailbox_cache.specs.declared.cache.Cache.{Cache}
use Rattle.mailbox_cache.specs.declared.delta.Delta.{Delta}
use Rattle.qresync_core.specs.declared.fault.ResyncFault.{ResyncFault}
use Rattle.world_traits.specs.LinkState.{LinkState}
use Rattle.imap_session.specs.Dialogue.{BrokeOff, CameToEnd, Dialogue}
use Rattle.imap_session.specs.Hearing.{Hears}
use Rattle.imap_session.specs.declared.permits.Permits.{Permits}
use Rattle.imap_session.specs.declared.fault.SessionFault.{SessionFault}
use Rattle.play_driver.specs.Resynchronising.{DeltaCame}
use Rattle.play_driver.specs.Sessions.{count_of, feed_of}
use Rattle.play_driver.specs.declared.session.Session.{Session}

-- the link, what came and wasn't read yet, and how many questions were asked in the connection
pub record Stage : Type 0 where
  pub link : LinkState
  pub feed : Stream
  pub count : ℕ

abbrev pub stage_of : LinkState → Session → Stage
stage_of link session = record { link = link; feed = feed_of session; count = count_of session }

-- from one stage to another these questions were asked, each was answered by OK, and at their end the server spoke IMAP4rev2 or not
pub record CameBetween (dialogue : Dialogue) (rev2 : Bool) (p q : Stage) : Type 0 where
  pub heard : List Response
  pub hears : Hears heard p.link.connection p.feed
  pub came : CameToEnd dialogue p.count p.link.sent hears.connection.received heard (record { count = q.count; rev2 = rev2 }) q.link q.feed

-- from a stage on these questions were asked until one wasn't answered, or a thing was lacking
pub record Broke (dialogue : Dialogue) (p : Stage) (link : LinkState) (fault : SessionFault) : Type 0 where
  pub heard : List Response
  pub hears : Hears heard p.link.connection p.feed
  pub broke : BrokeOff dialogue p.count p.link.sent hears.connection.received heard link fault

-- from one stage to another a mailbox was resynchronised, of which this was kept, and this came of it
pub record DeltaCameOf (name : List ℕ) (kept : Option Cache) (delta : Result Delta ResyncFault) (permits : Option Permits) (p q : Stage) : Type 0 where
  pub heard : List Response
  pub hears : Hears heard p.link.connection p.feed
  pub came : DeltaCame p.count q.count name kept delta permits p.link.sent hears.connection.received heard q.link q.feed

-- so it was up to the link as it stands
pub record DeltaCameTo (name : List ℕ) (kept : Option Cache) (delta : Result Delta ResyncFault) (permits : Option Permits) (p : Stage) (link : LinkState) : Type 0 where
  pub last : Stage
  pub here : last.link ≡ link
  pub came : DeltaCameOf name kept delta permits p last
