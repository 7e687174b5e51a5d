-- One command and its whole reply: what a call says that sends it.
use Rattle.std.specs.Prelude.{◌≡◌, ℕ, List, ◌++◌, Option, Result, IsErrOf}
use Rattle.mail_base.specs.declared.tag.Tag.{Tag}
use Rattle.literal_feed.specs.Stream.{Stream}
use Rattle.imap_model.specs.CommandText.{parts_of}
use Rattle.imap_model.specs.declared.command.Command.{Command}
use Rattle.imap_model.specs.declared.ending.Ending.TheVariants as endings
use Rattle.imap_model.specs.declared.replies.Replies.{Replies}
use Rattle.imap_model.specs.declared.response.Response.{Response}
use Rattle.world_traits.specs.Asking.{Asking}
use Rattle.world_traits.specs.Links.{Linked, AnyStep}
use Rattle.world_traits.specs.declared.clocked.Clocked.{Ghosts}
use Rattle.imap_session.specs.Blame.{Blames}
use Rattle.imap_session.specs.Causes.{FailsBehind}
use Rattle.imap_session.specs.Faults.{IsCount}
use Rattle.imap_session.specs.Hearing.{Hears}
use Rattle.imap_session.specs.Most.{most_of}
use Rattle.imap_session.specs.Replying.{AreSmall, Came, ReceivedWithin, read_as}
use Rattle.imap_session.specs.Sent.{joined, SentFront}
use Rattle.imap_session.specs.Session.{Answered, Stands, waiting_of}
use Rattle.imap_session.specs.declared.fault.SessionFault.{SessionFault}
use Rattle.imap_session.specs.declared.fault.SessionFault.TheVariants as faults
use Rattle.imap_model.specs.declared.listen.Last.{Last}

-- However the call ends: the files stay as they were, the server does what it may while this command is sent and answered
-- once, a front of the command's text was sent and nothing more, and no honest server's reply is called bad.
pub record Talks {Self T : Type 0} (L : Ghosts Self) (tag : Tag) (command : Command) (old new : Self)
    (result : Result T SessionFault) : Type 0 where
  pub files : L.tells_files → Linked AnyStep (L.clock old) (L.clock new)
  pub told : L.tells_server
      → Linked (Asking (L.clock old).now.outside.talk.told tag command) (L.clock old) (L.clock new)
  pub sent : L.tells_files → SentFront (joined (parts_of tag command)) (L.link old).sent (L.link new).sent
  pub honest : L.tells_server → (at : ℕ) → IsErrOf result (faults.BadReply at) → ⊥
  pub earlier : L.tells_files → (L.link new).earlier ≡ (L.link old).earlier
  pub blames : Blames L old new result

-- These are the replies. Whatever was selected, they are the server's answer to this command at one moment of the call; to
-- a question that answer is OK. All that came is in them, it is no more than a reply may have, and no set of flags in it is
-- too large. Where they say OK, the command's whole text was sent.
pub record HasReply {Self : Type 0} (L : Ghosts Self) (tag : Tag) (command : Command) (old new : Self) (before after : Stream)
    (r : Replies) : Type 0 where
  pub answered : L.tells_server → (selected : Option (List ℕ)) → Stands selected (L.clock old) (L.link old).connection before
      → Answered (waiting_of selected tag command) r (L.clock old) (L.clock new) (L.link new).connection after
  pub accepted : IsCount tag → r.ending ≡ endings.Ok
  pub came : L.tells_files → (heard : List Response) → Hears heard (L.link old).connection before
      → Came heard tag command r (L.link old) (L.link new) after
  pub small : AreSmall r
  pub within : L.tells_files → (heard : List Response) → (h : Hears heard (L.link old).connection before)
      → ReceivedWithin (most_of command) h.connection.received (L.link new).connection
  pub whole : L.tells_files → r.ending ≡ endings.Ok
      → (L.link new).sent ≡ (L.link old).sent ++ joined (parts_of tag command)

-- A listener took these untagged responses behind what it stood for, and with how the reply ended they are the replies.
pub record IsHeard {Self H : Type 0} (L : Ghosts Self) (Holds : H → List Response → Type 0) (tag : Tag) (command : Command)
    (old new : Self) (before after : Stream) (was is : H) (told : List Response) (last : Last) : Type 0 where
  pub taken : (list : List Response) → Holds was list → Holds is (list ++ told)
  pub reply : HasReply L tag command old new before after (read_as told last.ending last.code)

-- Why there are none: the fault's cause stands in the bytes that were received after what was heard before.
pub record FailsFor {Self T : Type 0} (L : Ghosts Self) (tag : Tag) (command : Command) (old new : Self) (before : Stream)
    (result : Result T SessionFault) : Type 0 where
  pub why : L.tells_files → (heard : List Response) → (h : Hears heard (L.link old).connection before)
      → (fault : SessionFault) → IsErrOf result fault
      → FailsBehind heard tag command h.connection.received (L.link new).connection fault
