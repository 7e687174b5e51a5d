-- How a client asks so that no question lacks what it needs: it selects mailboxes of some names alone, and asks about the selected mailbox
-- while one is (RFC 9051, sections 3, 6.3.2 and 6.4).
use Rattle.std.specs.Prelude.{◌≡◌, ℕ, true, List, Option, is_some}
use Rattle.mail_base.specs.declared.tag.Tag.{Tag}
use Rattle.imap_model.specs.Talking.{Peer, Connecting, arrived}
use Rattle.imap_model.specs.declared.command.Command.{Command}
use Rattle.imap_model.specs.declared.command.Command.TheVariants as commands
use Rattle.imap_model.specs.declared.server.Server.{Server}
use Rattle.imap_session.specs.Faults.{IsCount}
use Rattle.world_traits.specs.Moments.{Moment}
use Rattle.play_driver.specs.Granting.{IsBox}
use Rattle.play_driver.specs.Progress.{has_name}

-- each of these names is that of a mailbox there
abbrev pub AreBoxes : List (List ℕ) → Server → Type 0
AreBoxes names s = (name : List ℕ) → has_name name names ≡ true → IsBox name s

-- A client that selects mailboxes of these names alone has its ground to ask this, under this tag, while this is selected. What changes a
-- mailbox is no question: it has an action's tag.
abbrev pub HasGround : List (List ℕ) → Option (List ℕ) → Tag → Command → Type 0
HasGround names selected tag commands.Capability = Unit {0}
HasGround names selected tag (commands.Login account) = Unit {0}
HasGround names selected tag (commands.Plain account) = Unit {0}
HasGround names selected tag (commands.Enable rev2) = Unit {0}
HasGround names selected tag (commands.Select name since) = has_name name names ≡ true
HasGround names selected tag commands.FetchAll = is_some selected ≡ true
HasGround names selected tag (commands.FetchRow uid) = is_some selected ≡ true
HasGround names selected tag (commands.Search from id) = is_some selected ≡ true
HasGround names selected tag (commands.FetchIds uids) = is_some selected ≡ true
HasGround names selected tag (commands.FetchText uid) = is_some selected ≡ true
HasGround names selected tag (commands.Store uid since add flags) = ¬ (IsCount tag)
HasGround names selected tag (commands.Shift uid to) = ¬ (IsCount tag)
HasGround names selected tag (commands.Copy uid to) = ¬ (IsCount tag)
HasGround names selected tag (commands.Expunge uid) = ¬ (IsCount tag)
HasGround names selected tag (commands.Append to flags text) = ¬ (IsCount tag)
HasGround names selected tag commands.Logout = Unit {0}

-- The server answers, or a connection is made; or a part of a command's text arrives, which has its ground then.
pub data Grounded (names : List (List ℕ)) (p : Peer) : Peer → Type 0 where
  connecting : {q : Peer} → Connecting p q → Grounded names p q
  asking : (tag : Tag) (command : Command) (before : List (List ℕ)) (part : List ℕ) (behind : List (List ℕ)) →
      HasGround names p.talk.selected tag command → Grounded names p (arrived tag command before part behind p)

abbrev pub GroundStep : List (List ℕ) → Moment → Moment → Type 0
GroundStep names m n = Grounded names m.outside n.outside
