-- How a server with its connection goes on while a run asks, sends commands and leaves over the connection that it has (RFC 9051,
-- section 3).
use Rattle.std.specs.Prelude.{◌≡◌, ◌≢◌, ◌⊎◌, false, List}
use Rattle.mail_base.specs.declared.tag.Tag.{Tag}
use Rattle.imap_model.specs.Mutating.{is_mutating}
use Rattle.imap_model.specs.Talking.{Peer, Answering, Connecting}
use Rattle.imap_model.specs.declared.command.Command.{Command}
use Rattle.imap_model.specs.declared.command.Command.TheVariants as commands
use Rattle.imap_model.specs.declared.response.Response.{Response}
use Rattle.world_traits.specs.Asking.{Asking}
use Rattle.world_traits.specs.Links.{Any, Linked, LinkStep}
use Rattle.world_traits.specs.Moments.{Moment, Clock, Since}

-- the server answers, or a question is asked that changes no mailbox, and isn't LOGOUT; no connection is made
pub data Questioning (p : Peer) : Peer → Type 0 where
  answering : {q : Peer} → Answering p q → Questioning p q
  asking : {q : Peer} (told : List Response) (tag : Tag) (command : Command) → is_mutating command ≡ false → command ≢ commands.Logout →
      Asking told tag command p q → Questioning p q

-- the server answers, or a command is sent, of whatever kind but LOGOUT; no connection is made
pub data Conversing (p : Peer) : Peer → Type 0 where
  answering : {q : Peer} → Answering p q → Conversing p q
  sending : {q : Peer} (told : List Response) (tag : Tag) (command : Command) → command ≢ commands.Logout → Asking told tag command p q →
      Conversing p q

-- what isn't on the disk stays, or so it goes on
abbrev pub TalkStep : Moment → Moment → Type 0
TalkStep m n = (n.outside ≡ m.outside) ⊎ LinkStep Conversing m n

-- LOGOUT is asked
pub record AsksToLeave (p q : Peer) : Type 0 where
  pub told : List Response
  pub tag : Tag
  pub asks : Asking told tag commands.Logout p q

-- so a run goes on over its connection
abbrev pub RunStep : Moment → Moment → Type 0
RunStep m n = TalkStep m n ⊎ LinkStep AsksToLeave m n

-- connections are made up to a clock between the two alone, and behind it there are such steps
pub record ConnectsFirst (S : Moment → Moment → Type 0) (old new : Clock) : Type 0 where
  pub at : Clock
  pub connects : Linked Connecting old at
  pub behind : Since Any S at new
