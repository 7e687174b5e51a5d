-- A run enters at a server that serves: nothing is lacking.
use Rattle.std.proofs.Common.{◌≡◌, inl, inr, ℕ, Bool, List, Option, Some, sym, ◌∙◌, ap, arith}
use Rattle.imap_model.specs.Talking.{Connecting, Peer}
use Rattle.imap_model.specs.declared.item.Item.{Item}
use Rattle.imap_session.specs.Dialogue.{Dialogue, Point, Talked, TalkedOut}
use Rattle.imap_session.specs.Faults.{NoHello}
use Rattle.imap_session.specs.Greeting.{IsBegun}
use Rattle.imap_session.specs.declared.fault.SessionFault.TheVariants as sessions
use Rattle.imap_session.proofs.Talks.{Questions}
use Rattle.world_traits.specs.Connected.{IsGreeted}
use Rattle.world_traits.specs.LinkState.{Connection}
use Rattle.world_traits.specs.Links.{Any, LinkStep, Linked}
use Rattle.world_traits.specs.Moments.{Clock}
use Rattle.world_traits.proofs.Passing.{since_then}
use Rattle.play_driver.specs.Questioning.{ConnectsFirst, Questioning, TalkStep}
use Rattle.play_driver.specs.Serving.{AllServing, begins_preauth}
use Rattle.play_driver.proofs.Fitness.{LacksNothing, lacks_none}
use Rattle.play_driver.proofs.Longer.{longer_on, one_told}
use Rattle.play_driver.proofs.OverOne.{over_talks, talks_over}
use Rattle.play_driver.proofs.Parts.{grows, grows_then}
use Rattle.play_driver.proofs.Remaining.{Remains}

-- no connection is no refusal
pub link_refuses : (line : List ℕ) → sessions.Refused line ≡ sessions.Link → ⊥
link_refuses line is = cc

pub link_lacks : (item : Item) → sessions.Lacking item ≡ sessions.Link → ⊥
link_lacks item is = cc

-- nor does a greeting lack a thing
pub greeting_lacks : (c : Option Connection) (item : Item) → NoHello c (sessions.Lacking item) → ⊥
greeting_lacks c item (inl r) = r
greeting_lacks c item (inr u) = u.unfit

-- questions behind a greeting, and behind others
pub asks_behind : (made : Clock) (at new : Point) (d : Dialogue) → Questions d → Remains d → (count : ℕ) → Linked Questioning made at.clock →
    Talked d count at new → Linked Questioning made new.clock
asks_behind made at new d questions remains count asks talked =
    since_then Any (LinkStep Questioning) made at.clock new.clock asks (talks_over d questions remains count at new talked)

pub enters_talking : (old new : Clock) → ConnectsFirst (LinkStep Questioning) old new → ConnectsFirst TalkStep old new
enters_talking old new c = record { at = c.at; connects = c.connects; behind = over_talks c.at new c.behind }

pub lacks_behind : (old made : Clock) → Linked Connecting old made → IsGreeted made.now.outside → (at new : Point) (preauth : Bool) (d : Dialogue) →
    Questions d → Remains d → (count : ℕ) (item : Item) → Linked Questioning made at.clock → begins_preauth at.clock.now.outside.talk.told ≡ preauth →
    LacksNothing preauth d count → TalkedOut d count (Some item) at new → AllServing old new.clock → ⊥
lacks_behind old made connects greeted at new preauth d questions remains count item asks began fit talked serving =
    lacks_none preauth d questions remains count item old at new fit
    (grows_then old made at.clock (grows Any (LinkStep Connecting) old made connects) (grows Any (LinkStep Questioning) made at.clock asks))
    (omega (arith, one_told made.now greeted, longer_on made at.clock asks)) began talked serving

-- how a connection began
pub began_so : (preauth : Bool) (p : Peer) → IsBegun preauth p → begins_preauth p.talk.told ≡ preauth
began_so preauth p begun = ap begins_preauth begun.told ∙ sym begun.is
