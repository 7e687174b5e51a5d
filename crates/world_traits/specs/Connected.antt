-- What the server and the link's connection are to one another.
use Rattle.std.specs.Prelude.{◌≡◌, Option, Some, None}
use Rattle.imap_model.specs.Talking.{Peer, Connecting, IsGreeting, IsDue, greeted}
use Rattle.imap_model.specs.declared.response.Response.{Response}
use Rattle.world_traits.specs.LinkState.{Connection}
use Rattle.world_traits.specs.Links.{Any, LinkStep}
use Rattle.world_traits.specs.Moments.{Became, Clock}

-- a connection was just made: nothing waits, and a greeting is all that was told (RFC 9051, section 7.1.4 and 7.1.5)
pub record IsGreeted (p : Peer) : Type 0 where
  pub greeting : Response
  pub greets : IsGreeting greeting
  pub quiet : p.waiting ≡ None
  pub talk : p.talk ≡ greeted greeting

-- From one moment to the next a connection is made: what waited is dropped, and a greeting is all that was told in it.
pub record Connects (p q : Peer) : Type 0 where
  pub greeting : Response
  pub greets : IsGreeting greeting
  pub is : q ≡ record { server = p.server; waiting = None; talk = greeted greeting }

-- so it was at some time between the two
abbrev pub WasConnected : Clock → Clock → Type 0
WasConnected old new = Became Any (LinkStep Connecting) (λ m n. Connects m.outside n.outside) old new

-- there is a connection, and the server owes a reply in it
abbrev pub IsReplyDue : Peer → Option Connection → Type 0
IsReplyDue p None = ⊥
IsReplyDue p (Some c) = IsDue p c.received
