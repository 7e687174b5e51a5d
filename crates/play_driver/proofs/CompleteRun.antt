-- What may end a run whose server serves it.
use Rattle.std.proofs.Common.{◌≡◌, inl, inr, ℕ, List, Option, refl, sym, subst}
use Rattle.mail_base.specs.declared.tag.Tag.{Tag}
use Rattle.imap_model.specs.declared.item.Item.{Item}
use Rattle.imap_model.specs.declared.response.Response.{Response}
use Rattle.imap_session.specs.Leaving.{Staying}
use Rattle.imap_session.specs.declared.fault.SessionFault.{SessionFault}
use Rattle.imap_session.specs.declared.fault.SessionFault.TheVariants as sessions
use Rattle.store_core.specs.Holding.{Holding}
use Rattle.store_core.specs.Mail.{mail}
use Rattle.world_traits.specs.LinkState.{Connection, LinkState}
use Rattle.world_traits.specs.Links.{Any}
use Rattle.world_traits.specs.Moments.{Clock, Since}
use Rattle.play_driver.specs.Faults.{ComesAnyway, IsReplyFault, of_session}
use Rattle.play_driver.specs.Grounds.{AreBoxes, GroundStep}
use Rattle.play_driver.specs.Playing.{NotLeft}
use Rattle.play_driver.specs.Questioning.{ConnectsFirst, TalkStep}
use Rattle.play_driver.specs.Refusals.{DeniesQuestion, RefusesRun}
use Rattle.play_driver.specs.Running.{StopsBehind}
use Rattle.play_driver.specs.Serving.{AllServing}
use Rattle.play_driver.specs.Stages.{Stage}
use Rattle.play_driver.specs.Turning.{Standing, TurnFails}
use Rattle.play_driver.specs.declared.fault.PlayFault.{PlayFault}
use Rattle.play_driver.specs.declared.fault.PlayFault.TheVariants as faults
use Rattle.play_driver.proofs.Served.{denied_end, served_end}
use Rattle.play_driver.proofs.ToldRefusals.{IsHonest, leave_told, never_told, turn_told}

-- a fault of a session that is none of these
pub comes_session : (f : SessionFault) → ((line : List ℕ) → f ≡ sessions.Refused line → ⊥) → ((item : Item) → f ≡ sessions.Lacking item → ⊥) →
    ((at : ℕ) → f ≡ sessions.BadReply at → ⊥) → (fault : PlayFault) → fault ≡ of_session f → ComesAnyway fault
comes_session sessions.Memory refused lacking bad fault is = subst ComesAnyway (sym is) tt
comes_session sessions.Link refused lacking bad fault is = subst ComesAnyway (sym is) tt
comes_session (sessions.Refused line) refused lacking bad fault is = absurd (refused line refl)
comes_session (sessions.BadReply at) refused lacking bad fault is = absurd (bad at refl)
comes_session (sessions.Lacking item) refused lacking bad fault is = absurd (lacking item refl)
comes_session (sessions.TooLarge limit number) refused lacking bad fault is = subst ComesAnyway (sym is) tt

-- a fault of a turn that is none of these
pub comes_turn : (fault : PlayFault) → ((line : List ℕ) → fault ≡ faults.Refused line → ⊥) → (IsReplyFault fault → ⊥) → ComesAnyway fault
comes_turn faults.Memory refused reply = tt
comes_turn faults.Disk refused reply = tt
comes_turn faults.Link refused reply = tt
comes_turn (faults.Refused line) refused reply = refused line refl
comes_turn (faults.BadReply why) refused reply = reply tt
comes_turn (faults.Lacking what) refused reply = reply tt
comes_turn (faults.Limit which number) refused reply = tt

-- LOGOUT lacks nothing
staying_lacks : (heard : List Response) (tag : Tag) (had : List ℕ) (c : Option Connection) (item : Item) →
    Staying heard tag had c (sessions.Lacking item) → ⊥
staying_lacks heard tag had c item (inl r) = r.reading
staying_lacks heard tag had c item (inr u) = u.unfit

pub leaving_lacks : (p : Stage) (link : LinkState) (f : SessionFault) → NotLeft p link f → (item : Item) → f ≡ sessions.Lacking item → ⊥
leaving_lacks p link f n item is =
    staying_lacks n.heard _ _ link.connection item (subst (Staying n.heard _ _ link.connection) is n.staying)

-- where a turn failed, it wasn't refused
pub unrefused_turn : (names : List (List ℕ)) (old new : Clock) → ConnectsFirst TalkStep old new → Since Any (GroundStep names) old new →
    AreBoxes names old.now.outside.server → AllServing old new → (p : Standing) (store : Holding mail) (link : LinkState) (fault : PlayFault) →
    StopsBehind p store link fault → IsHonest new.now.outside.talk.told link.connection → (line : List ℕ) → fault ≡ faults.Refused line → ⊥
unrefused_turn names old new talks grounds boxes serving p store link fault stops honest line is =
    never_told RefusesRun new.now.outside.talk.told (served_end names old new talks grounds boxes serving).told
    (turn_told stops.at link line new.now.outside.talk.told (subst (TurnFails stops.at link) is stops.fails) honest)

-- nor was LOGOUT
pub unrefused_leave : (names : List (List ℕ)) (old new : Clock) → Since Any (GroundStep names) old new → AreBoxes names old.now.outside.server →
    AllServing old new → (p : Stage) (link : LinkState) (f : SessionFault) → NotLeft p link f →
    IsHonest new.now.outside.talk.told link.connection → (line : List ℕ) → f ≡ sessions.Refused line → ⊥
unrefused_leave names old new grounds boxes serving p link f n honest line is =
    never_told DeniesQuestion new.now.outside.talk.told (denied_end names old new grounds boxes serving)
    (leave_told p link line new.now.outside.talk.told (subst (NotLeft p link) is n) honest)
