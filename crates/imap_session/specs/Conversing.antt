-- A dialogue that is held: what a call says that asks its questions.
use Rattle.std.specs.Prelude.{◌≡◌, ℕ, List, None, Some, Result, IsErrOf}
use Rattle.literal_feed.specs.Stream.{Stream}
use Rattle.imap_model.specs.declared.item.Item.{Item}
use Rattle.imap_model.specs.declared.response.Response.{Response}
use Rattle.world_traits.specs.Links.{Linked, AnyStep}
use Rattle.world_traits.specs.declared.clocked.Clocked.{Ghosts}
use Rattle.imap_session.specs.Blame.{Blames}
use Rattle.imap_session.specs.Dialogue.{BrokeOff, CameToEnd, Dialogue, Known, SentIn, Talked, TalkedOut, so_far}
use Rattle.imap_session.specs.Hearing.{Hears}
use Rattle.imap_session.specs.Session.{Stands}
use Rattle.imap_session.specs.declared.fault.SessionFault.{SessionFault}
use Rattle.imap_session.specs.declared.fault.SessionFault.TheVariants as faults

-- However the call ends: the files stay as they were, nothing but this dialogue was held, as far as it came, and no honest
-- server's reply is called bad. What is lacking is what the dialogue lacks. Each fault's cause stands in the bytes received.
pub record Converses {Self T : Type 0} (L : Ghosts Self) (d : Dialogue) (asked : ℕ) (old new : Self) (before : Stream)
    (result : Result T SessionFault) : Type 0 where
  pub files : L.tells_files → Linked AnyStep (L.clock old) (L.clock new)
  pub told : L.tells_server → Talked d asked (so_far (L.clock old) (L.link old)) (so_far (L.clock new) (L.link new))
  pub sent : L.tells_files → SentIn d asked (L.link old).sent (L.link new).sent
  pub lacking : L.tells_server → (item : Item) → IsErrOf result (faults.Lacking item)
      → TalkedOut d asked (Some item) (so_far (L.clock old) (L.link old)) (so_far (L.clock new) (L.link new))
  pub why : L.tells_files → (heard : List Response) → (h : Hears heard (L.link old).connection before)
      → (fault : SessionFault) → IsErrOf result fault
      → BrokeOff d asked (L.link old).sent h.connection.received heard (L.link new) fault
  pub honest : L.tells_server → (at : ℕ) → IsErrOf result (faults.BadReply at) → ⊥
  pub earlier : L.tells_files → (L.link new).earlier ≡ (L.link old).earlier
  pub blames : Blames L old new result

-- The dialogue came to its end, and this is known then. Each question was answered at one moment of the call, these bytes
-- were sent and received, and nothing is selected.
pub record Concludes {Self : Type 0} (L : Ghosts Self) (d : Dialogue) (asked : ℕ) (old new : Self) (before after : Stream)
    (known : Known) : Type 0 where
  pub answered : L.tells_server
      → TalkedOut d asked None (so_far (L.clock old) (L.link old)) (so_far (L.clock new) (L.link new))
  pub came : L.tells_files → (heard : List Response) → (h : Hears heard (L.link old).connection before)
      → CameToEnd d asked (L.link old).sent h.connection.received heard known (L.link new) after
  pub stands : L.tells_server → Stands None (L.clock new) (L.link new).connection after
