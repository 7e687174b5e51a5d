-- A reply to SELECT that is held: it told a UIDVALIDITY above that of the cache, which is taken away before the reply is read (RFC 9051, section
-- 2.3.1.1; RFC 4549, section 4.1).
use Rattle.std.specs.Prelude.{◌≡◌, ◌<◌, ◌∷◌, List, Option, Some, None}
use Rattle.action_queue.specs.Book.{Meaning, cache_at}
use Rattle.imap_model.specs.Carrying.{Waiting}
use Rattle.imap_model.specs.declared.ending.Ending.TheVariants as endings
use Rattle.imap_model.specs.declared.replies.Replies.{Replies}
use Rattle.imap_session.specs.Replying.{AreSmall}
use Rattle.mailbox_cache.specs.declared.cache.Cache.{Cache}
use Rattle.playback.specs.Course.{Said}
use Rattle.playback.specs.Needs.{need_of}
use Rattle.playback.specs.Why.{TellsValidity}
use Rattle.playback.specs.Worlds.{World}
use Rattle.playback.specs.declared.need.Need.TheVariants as needs
use Rattle.playback.specs.declared.player.Player.{Player}
use Rattle.qresync_core.specs.Making.{StandsFor}
use Rattle.play_driver.specs.declared.session.Held.{Held}

-- it may be this reply: what was made of it stands for these responses, and the completion is this one
pub record IsHeldReply (h : Held) (r : Replies) : Type 0 where
  pub stands : StandsFor h.maker r.untagged
  pub code : r.code ≡ h.last.code
  pub accepted : r.ending ≡ endings.Ok
  pub small : AreSmall r

-- the reply that is owed to the player is the last one of the connection, and it is this one
pub record OwesHeld (h : Held) (w : World) : Type 0 where
  pub select : Waiting
  pub owed : w.owed ≡ Some select
  pub none_waits : w.waiting ≡ None
  pub said : Said
  pub rest : List Said
  pub last : w.course.said ≡ said ∷ rest
  pub answers : said.command ≡ select
  pub is : IsHeldReply h said.reply

-- where none is held, none is owed
abbrev pub Owes : Option Held → World → Type 0
Owes None w = w.owed ≡ None
Owes (Some h) w = OwesHeld h w

-- There is such a reply: it answers the SELECT that the player needs, and told this UIDVALIDITY, which is above that of the cache, if there is
-- one.
pub record IsHeldFor (h : Held) (p : Player) (b : Meaning) : Type 0 where
  pub reply : Replies
  pub is : IsHeldReply h reply
  pub needed : need_of p b ≡ needs.Select h.chosen.name
  pub tells : (r : Replies) → IsHeldReply h r → TellsValidity h.told r
  pub risen : (cache : Cache) → cache_at h.chosen.name b.boxes ≡ Some cache → cache.validity < h.told

abbrev pub HeldFits : Option Held → Player → Meaning → Type 0
HeldFits None p b = Unit {0}
HeldFits (Some h) p b = IsHeldFor h p b
