-- A server that serves a run: it doesn't greet with BYE, offers what this client needs, refuses no question that has what it needs, and says BYE
-- to LOGOUT alone (RFC 9051, sections 6.1.1, 6.2, 6.3.1 and 7.1; RFC 7162, section 3.2.3).
use Rattle.std.specs.Prelude.{Bool, List, [], ◌∷◌, ◌≡◌, ◌≢◌, ◌⊎◌, true, false, ◌++◌, Some, codes}
use Rattle.mail_base.specs.declared.tag.Tag.{Tag}
use Rattle.mail_base.specs.declared.tag.Tag.TheVariants as tags
use Rattle.imap_model.specs.CarriedOut.{told_in}
use Rattle.imap_model.specs.Carrying.{Waiting}
use Rattle.imap_model.specs.Talking.{Arriving, Peer, greeted}
use Rattle.imap_model.specs.declared.command.Command.{Command}
use Rattle.imap_model.specs.declared.command.Command.TheVariants as commands
use Rattle.imap_model.specs.declared.ending.Ending.TheVariants as endings
use Rattle.imap_model.specs.declared.replies.Replies.{Replies}
use Rattle.imap_model.specs.declared.response.Response.{Response}
use Rattle.imap_model.specs.declared.response.Response.TheVariants as responses
use Rattle.imap_model.specs.declared.server.Server.{Server}
use Rattle.imap_session.specs.Enabled.{is_enabled}
use Rattle.imap_session.specs.Greeting.{is_preauth}
use Rattle.imap_session.specs.Offers.{offers}
use Rattle.world_traits.specs.Connected.{IsGreeted}
use Rattle.world_traits.specs.Links.{Any}
use Rattle.world_traits.specs.Moments.{Moment, Clock, Since}
use Rattle.play_driver.specs.Granting.{IsGrantable}
use Rattle.play_driver.specs.Joining.{Grows}
use Rattle.play_driver.specs.Refusals.{DeniesQuestion, IsBye, NeverTold, RefusesRun}

-- a user may log in
abbrev pub AllowsLogin : Replies → Type 0
AllowsLogin r = (offers r (codes "AUTH=PLAIN") ≡ true) ⊎ (offers r (codes "LOGINDISABLED") ≡ false)

-- QRESYNC is offered, and IMAP4rev2, which has UIDPLUS and MOVE in it, or both of them. (NOMODSEQ and UIDNOTSTICKY are told by no server
-- that keeps to the tables of commands: they have no place in a reply there.)
pub record IsFit (r : Replies) : Type 0 where
  pub qresync : offers r (codes "QRESYNC") ≡ true
  pub moves : (offers r (codes "IMAP4rev2") ≡ true) ⊎ ((offers r (codes "UIDPLUS") ≡ true) × (offers r (codes "MOVE") ≡ true))

-- a connection whose first response was PREAUTH: the user is logged in already
abbrev pub begins_preauth : List Response → Bool
begins_preauth [] = false
begins_preauth (r ∷ rs) = is_preauth r

-- What this client needs is offered, and is enabled, where this was told before. A connection's first question is CAPABILITY: its reply says
-- how a user may log in who isn't yet, and what is offered to one who is logged in, the reply to a later one says.
abbrev pub Provides : List Response → Command → Tag → Replies → Type 0
Provides told commands.Capability tag r = (tag ≡ tags.Count 1 → begins_preauth told ≡ false → AllowsLogin r) × (tag ≢ tags.Count 1 → IsFit r)
Provides told (commands.Login account) tag r = Unit {0}
Provides told (commands.Plain account) tag r = Unit {0}
Provides told (commands.Enable rev2) tag r = is_enabled (codes "QRESYNC") r.untagged ≡ true
Provides told (commands.Select name since) tag r = Unit {0}
Provides told commands.FetchAll tag r = Unit {0}
Provides told (commands.FetchRow uid) tag r = Unit {0}
Provides told (commands.Search from id) tag r = Unit {0}
Provides told (commands.FetchIds uids) tag r = Unit {0}
Provides told (commands.FetchText uid) tag r = Unit {0}
Provides told (commands.Store uid since add flags) tag r = Unit {0}
Provides told (commands.Shift uid to) tag r = Unit {0}
Provides told (commands.Copy uid to) tag r = Unit {0}
Provides told (commands.Expunge uid) tag r = Unit {0}
Provides told (commands.Append to flags text) tag r = Unit {0}
Provides told commands.Logout tag r = Unit {0}

-- The reply to a command, where this was told before, and the server was this: it refuses no question without a ground, says BYE to LOGOUT
-- alone, and provides what is needed.
pub record Serves (told : List Response) (w : Waiting) (s : Server) (r : Replies) : Type 0 where
  pub grants : IsGrantable w s → NeverTold DeniesQuestion (told_in w.tag r)
  pub remains : w.command ≢ commands.Logout → NeverTold IsBye (told_in w.tag r)
  pub provides : r.ending ≡ endings.Ok → Provides told w.command w.tag r

-- From one moment to the next: where the command that waits is answered, the reply serves; where a command is refused as its text arrives,
-- that refuses no question, nor the run; and no greeting is BYE.
pub record ServesOn (p q : Peer) : Type 0 where
  pub replies : (w : Waiting) (r : Replies) → p.waiting ≡ Some w → q.talk.told ≡ p.talk.told ++ told_in w.tag r →
      Serves p.talk.told w p.server r
  pub texts : (a : Arriving) (r : Replies) → p.talk.arriving ≡ Some a → q.talk.told ≡ p.talk.told ++ told_in a.tag r →
      NeverTold RefusesRun (told_in a.tag r)
  pub greets : q.talk ≢ greeted responses.Bye

abbrev pub IsServing : Moment → Moment → Type 0
IsServing m n = ServesOn m.outside n.outside

-- From the moment on at which a connection had just been made, which wasn't greeted by BYE, the server serves. (What came of an older
-- connection before isn't asked.)
pub record AllServing (old new : Clock) : Type 0 where
  pub made : Clock
  pub before : Grows old made
  pub fresh : IsGreeted made.now.outside
  pub hello : made.now.outside.talk ≢ greeted responses.Bye
  pub later : Since Any IsServing made new
