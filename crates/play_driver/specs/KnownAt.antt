-- What the player knows at a moment of a run, over the moments since the run's connection was made (RFC 9051, section 2.2).
use Rattle.action_queue.specs.Book.{Meaning, after, cache_at}
use Rattle.action_queue.specs.declared.event.Event.{Event}
use Rattle.imap_model.specs.Carrying.{Waiting}
use Rattle.imap_model.specs.Mutating.{is_mutating}
use Rattle.imap_model.specs.declared.mark.Mark.{Mark}
use Rattle.imap_model.specs.declared.replies.Replies.{Replies}
use Rattle.imap_model.specs.declared.response.Response.{Response}
use Rattle.imap_model.specs.declared.server.Server.{Server}
use Rattle.imap_session.specs.Dialogue.{next_tag}
use Rattle.imap_session.specs.Enquiring.{Enquiring}
use Rattle.imap_session.specs.Knowing.{Tells}
use Rattle.imap_session.specs.Permanent.{permitted}
use Rattle.imap_session.specs.Session.{Answered}
use Rattle.imap_session.specs.declared.permits.Permits.{Permits}
use Rattle.journal_core.specs.declared.version.Version.{Version}
use Rattle.literal_feed.specs.Stream.{Stream}
use Rattle.mailbox_cache.specs.declared.delta.Delta.{Delta}
use Rattle.play_driver.specs.Joining.{AllFair, AnyTwo, Grows, IsKept}
use Rattle.play_driver.specs.Played.{played}
use Rattle.play_driver.specs.Questioning.{Questioning}
use Rattle.play_driver.specs.Exchanges.{IsAnsweredOk}
use Rattle.play_driver.specs.Holds.{IsHeldFor, IsHeldReply, Owes}
use Rattle.play_driver.specs.Resynchronising.{Resyncs, RowsFetched, select_of}
use Rattle.play_driver.specs.declared.session.Held.{Held}
use Rattle.play_driver.specs.SentOnce.{MayAsk}
use Rattle.playback.specs.Allowed.{IsGathered, IsReply, Records}
use Rattle.playback.specs.Choosing.{begun_with, committed, reset_of}
use Rattle.playback.specs.Course.{IsAmong, Said}
use Rattle.book_laws.specs.Kept.{Kept, KeptBook}
use Rattle.playback.specs.Knows.{IsNeeded, Knows}
use Rattle.playback.specs.Needs.{need_of}
use Rattle.playback.specs.Why.{WasSelected}
use Rattle.playback.specs.Worlds.{Among, World, name_of}
use Rattle.playback.specs.declared.player.Player.{Player}
use Rattle.std.specs.Prelude.{List, None, Ok, Option, Some, false, ℕ, ◌≡◌, ◌≢◌}
use Rattle.std.specs.declared.alloc.Global.{Global}
use Rattle.store_core.specs.Mail.{MayCome, mail}
use Rattle.store_core.specs.Steps.{Firm}
use Rattle.store_core.specs.Taking.{HasBooks, Takes}
use Rattle.world_traits.specs.Asking.{Asking}
use Rattle.world_traits.specs.LinkState.{Connection}
use Rattle.world_traits.specs.Links.{Any, Linked}
use Rattle.world_traits.specs.Moments.{Became, Clock}
use Rattle.imap_model.specs.declared.command.Command.TheVariants as commands
use Rattle.imap_model.specs.declared.ending.Ending.TheVariants as endings
use Rattle.playback.specs.declared.need.Need.TheVariants as needs

-- the server was this one at a moment of the time between
pub record WasServer (s : Server) (old new : Clock) : Type 0 where
  pub at : Clock
  pub first : Grows old at
  pub later : Grows at new
  pub is : at.now.outside.server ≡ s

-- What was said was so at one moment of the time between: this reply, by which the server may carry the command out there, or refuse it,
-- was told then in the connection, under the command's tag.
pub record WasAnswered (e : Said) (old new : Clock) : Type 0 where
  pub told : List Response
  pub after : Option (List ℕ)
  pub became : Became Any AnyTwo (λ m n. (m.outside.server ≡ e.before) × (n.outside.server ≡ e.behind)
      × Tells e.command told e.reply after m.outside n.outside) old new

-- The connection as the player has it tells of these moments: its servers are theirs, what was said in it was told there, the server now is
-- that of the last moment, and what is selected, and what waits, is so at the server. The connection was made at the first clock.
pub record TellsOf (w : World) (made now : Clock) : Type 0 where
  pub first : w.course.first ≡ made.now.outside.server
  pub server : w.course.now ≡ now.now.outside.server
  pub each : (s : Server) → Among s w → WasServer s made now
  pub answered : (e : Said) → IsAmong e w.course.said → WasAnswered e made now
  pub waits : w.waiting ≡ now.now.outside.waiting
  pub selects : name_of w.selected ≡ now.now.outside.talk.selected

-- Where a mailbox is selected, a SELECT of it told these flags that can be changed for good.
abbrev pub IsPermitted : Option Permits → World → Type 0
IsPermitted permits w = (name : List ℕ) → name_of w.selected ≡ Some name → WasSelected name (λ r. permits ≡ permitted None r) w.course

-- No reply is owed to the player, or the one that is held; it knows the connection; and these flags can be changed for good in the mailbox
-- that is selected.
pub record KnownAt (made now : Clock) (permits : Option Permits) (held : Option Held) (p : Player) (b : Meaning) : Type 0 where
  pub world : World
  pub tells : TellsOf world made now
  pub permitted : IsPermitted permits world
  pub owed : Owes held world
  pub knows : Knows p b world

-- this reply is owed to it
pub record HeardAt (r : Replies) (made now : Clock) (permits : Option Permits) (p : Player) (b : Meaning) : Type 0 where
  pub world : World
  pub tells : TellsOf world made now
  pub permitted : IsPermitted permits world
  pub reply : IsReply r world
  pub kept : KeptBook b world.course.now world.waiting
  pub knows : Knows p b world

-- the replies to a resynchronisation are owed to it, and tell this delta
pub record GatheredAt (delta : Delta) (made now : Clock) (permits : Option Permits) (p : Player) (b : Meaning) : Type 0 where
  pub world : World
  pub tells : TellsOf world made now
  pub permitted : IsPermitted permits world
  pub gathered : IsGathered delta b world
  pub kept : KeptBook b world.course.now world.waiting
  pub knows : Knows p b world

-- a stop leaves this book now, which is kept, and nothing waits or arrives at the server
pub record StandsKept (b : Meaning) (k : Clock) : Type 0 where
  pub books : HasBooks mail (Firm (Some b)) k.now
  pub kept : IsKept mail Kept k.now
  pub none_waits : k.now.outside.waiting ≡ None
  pub none_arrives : k.now.outside.talk.arriving ≡ None

-- What the player knows goes on with the run: as it begins behind the login, as a question or a command is asked that it needs, as a
-- mailbox is resynchronised that it needs, and as an event is recorded that it needs; and as the reply to a SELECT is held, the cache is
-- taken away, and the rows are fetched behind that. Others are fair all the time.
pub record KnownGoesOn : Type 0 where
  pub begins : (alloc : Global) (b : Meaning) (made now : Clock) → StandsKept b made → Linked Enquiring made now → AllFair mail played made now →
      now.now.outside.waiting ≡ None → now.now.outside.talk.selected ≡ None → (permits : Option Permits) → KnownAt made now permits None (begun_with alloc b) b
  pub asks : (p : Player) (b : Meaning) (w : Waiting) (r : Replies) (permits : Option Permits) (made old new : Clock) (c : Option Connection)
      (feed : Stream) → StandsKept b old → KnownAt made old permits None p b → w.selected ≡ old.now.outside.talk.selected → IsNeeded (need_of p b) w p.selected b →
      ((name : List ℕ) (since : Option Mark) → w.command ≢ commands.Select name since) → MayAsk mail played b old.now.outside.server w →
      Linked (Asking old.now.outside.talk.told w.tag w.command) old new → AllFair mail played old new → Answered w r old new c feed →
      (is_mutating w.command ≡ false → r.ending ≡ endings.Ok) → HeardAt r made new permits p b
  pub gathers : (p : Player) (b : Meaning) (name : List ℕ) (delta : Delta) (count after : ℕ) (permits then : Option Permits)
      (made old new : Clock) → StandsKept b old → KnownAt made old permits None p b → need_of p b ≡ needs.Select name →
      Linked Questioning old new → AllFair mail played old new →
      Resyncs old.now.outside.talk.selected count after name (cache_at name b.boxes) (Ok delta) then old new → GatheredAt delta made new then p b
  pub records : (p : Player) (b : Meaning) (event : Event) (version : Version) (permits : Option Permits) (made old new : Clock) →
      StandsKept b old → KnownAt made old permits None p b →
      Records (need_of p b) event → MayCome version (Some b) event → Takes mail (Some b) event old new →
      KnownAt made new permits None (committed p (after b event)) (after b event)
  pub holds : (p : Player) (b : Meaning) (h : Held) (r : Replies) (count : ℕ) (permits : Option Permits) (made old new : Clock) →
      StandsKept b old → KnownAt made old permits None p b → need_of p b ≡ needs.Select h.chosen.name → AllFair mail played old new →
      IsAnsweredOk old.now.outside.talk.selected (next_tag count)
      (record { asked = select_of h.chosen.name (cache_at h.chosen.name b.boxes); replies = r }) old new →
      IsHeldReply h r → KnownAt made new (permitted None r) (Some h) p b
  pub resets : (p : Player) (b : Meaning) (h : Held) (event : Event) (version : Version) (permits : Option Permits) (made old new : Clock) →
      StandsKept b old → KnownAt made old permits (Some h) p b → IsHeldFor h p b →
      reset_of h.chosen.name (cache_at h.chosen.name b.boxes) h.told ≡ Some event →
      MayCome version (Some b) event → Takes mail (Some b) event old new → KnownAt made new permits (Some h) p (after b event)
  pub fetches : (p : Player) (b : Meaning) (h : Held) (delta : Delta) (count after : ℕ) (permits : Option Permits) (made old new : Clock) →
      StandsKept b old → KnownAt made old permits (Some h) p b → IsHeldFor h p b → cache_at h.chosen.name b.boxes ≡ None →
      AllFair mail played old new → RowsFetched h old.now.outside.talk.selected count after (Ok delta) old new → GatheredAt delta made new permits p b
