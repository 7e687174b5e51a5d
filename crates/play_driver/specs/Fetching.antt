-- What a call says that asks for the rows of all messages behind a reply to SELECT that is held (RFC 9051, section 6.4.5).
use Rattle.std.specs.Prelude.{◌≡◌, ◌+◌, ℕ, List, length, None, Option, Some, Result, IfSome, IsErrOf, is_some}
use Rattle.imap_model.specs.declared.command.Command.TheVariants as commands
use Rattle.imap_model.specs.declared.replies.Replies.{Replies}
use Rattle.imap_model.specs.declared.response.Response.{Response}
use Rattle.imap_session.specs.Blame.{Blames}
use Rattle.imap_session.specs.Dialogue.{BrokeOff, Dialogue}
use Rattle.imap_session.specs.Dialogue.Dialogue.{Asks}
use Rattle.imap_session.specs.Enquiring.{Enquiring}
use Rattle.imap_session.specs.Hearing.{Hears}
use Rattle.imap_session.specs.Replying.{AreSmall}
use Rattle.imap_session.specs.declared.chosen.Chosen.{Chosen}
use Rattle.imap_session.specs.declared.fault.SessionFault.{SessionFault}
use Rattle.imap_session.specs.declared.fault.SessionFault.TheVariants as faults
use Rattle.qresync_core.specs.Making.{StandsFor}
use Rattle.qresync_core.specs.declared.maker.DeltaMaker.{DeltaMaker}
use Rattle.world_traits.specs.Links.{Any, AnyStep, Linked}
use Rattle.world_traits.specs.Moments.{Since}
use Rattle.world_traits.specs.declared.clocked.Clocked.{Ghosts}
use Rattle.play_driver.specs.Exchanges.{AnsweredAll, CameAll}
use Rattle.play_driver.specs.Grounds.{GroundStep}
use Rattle.play_driver.specs.Questioning.{Questioning}
use Rattle.play_driver.specs.Resynchronising.{fetches, then_all}

-- However the call ends: the files stay as they were, and the rows alone were asked for, while the mailbox is selected. No honest server's reply
-- is called bad. Each fault's cause stands in the bytes received.
pub record Fetches {Self T : Type 0} (L : Ghosts Self) (chosen : Chosen) (old new : Self) (result : Result T SessionFault) : Type 0 where
  pub files : L.tells_files → Linked AnyStep (L.clock old) (L.clock new)
  pub told : L.tells_server → Linked Enquiring (L.clock old) (L.clock new)
  pub asks : L.tells_server → Linked Questioning (L.clock old) (L.clock new)
  pub grounds : L.tells_server → (names : List (List ℕ)) → Since Any (GroundStep names) (L.clock old) (L.clock new)
  pub why : L.tells_files → (next : Dialogue) (heard : List Response) → (h : Hears heard (L.link old).connection chosen.conversation.feed)
      → (fault : SessionFault) → IsErrOf result fault
      → BrokeOff (Asks commands.FetchAll (λ all. next)) chosen.conversation.count (L.link old).sent h.connection.received heard (L.link new) fault
  pub honest : L.tells_server → (at : ℕ) → IsErrOf result (faults.BadReply at) → ⊥
  pub earlier : L.tells_files → (L.link new).earlier ≡ (L.link old).earlier
  pub blames : Blames L old new result

-- A reply was heard for which the maker stands, exactly where it was due: the server's answer, at one moment of the call, and all that came.
pub record HasFetched {Self : Type 0} (L : Ghosts Self) (old new : Self) (chosen : Chosen) (maker : DeltaMaker) (next : Chosen) (made : DeltaMaker)
    : Type 0 where
  pub all : Option Replies
  pub stands : IfSome all (λ replies. StandsFor made replies.untagged)
  pub due : (r : Replies) → StandsFor maker r.untagged → is_some all ≡ fetches None r
  pub answered : L.tells_server
      → AnsweredAll (then_all all) (Some chosen.name) chosen.conversation.count (L.clock old) (L.clock new)
  pub came : L.tells_files → (heard : List Response) → (h : Hears heard (L.link old).connection chosen.conversation.feed)
      → CameAll (then_all all) chosen.conversation.count (L.link old).sent h.connection.received heard (L.link new) next.conversation.feed
  pub small : IfSome all AreSmall
  pub asked : next.conversation.count ≡ chosen.conversation.count + length (then_all all)
