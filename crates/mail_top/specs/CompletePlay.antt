-- What comes of a `play` at a server that serves it (this client's profile of RFC 4549, section 4.2).
use Rattle.std.specs.Prelude.{◌≡◌, ◌⊎◌}
use Rattle.mail_base.specs.declared.status.Status.{Status}
use Rattle.mail_base.specs.declared.status.Status.TheVariants as status
use Rattle.imap_model.specs.declared.server.Server.{Server}
use Rattle.world_traits.specs.Files.{Files}
use Rattle.action_queue.specs.Book.{Meaning}
use Rattle.store_core.specs.Mail.{mail}
use Rattle.store_core.specs.Books.{HasBook}
use Rattle.play_driver.specs.Grounds.{AreBoxes}
use Rattle.play_driver.specs.Progress.{box_names}

-- the files hold a book, and the server has each of its mailboxes
pub record HasEachBox (files : Files) (s : Server) : Type 0 where
  pub book : Meaning
  pub holds : HasBook mail book files
  pub boxes : AreBoxes (box_names book) s

-- the server refused; or what it told is at fault, or tells that a thing is lacking
abbrev pub IsTheServers : Status → Type 0
IsTheServers status.Done = ⊥
IsTheServers status.Conflicts = ⊥
IsTheServers status.Output = ⊥
IsTheServers status.Words = ⊥
IsTheServers status.Disk = ⊥
IsTheServers status.Link = ⊥
IsTheServers status.Refused = Unit {0}
IsTheServers status.Reply = Unit {0}
IsTheServers status.Lacking = Unit {0}
IsTheServers status.Validity = Unit {0}
IsTheServers status.Journal = ⊥
IsTheServers status.Reason = ⊥
IsTheServers status.Memory = ⊥
IsTheServers status.Limit = ⊥
IsTheServers status.Input = ⊥
IsTheServers status.Shelf = ⊥

-- each action is settled and each mailbox resynchronised, or memory is wanting
abbrev pub IsPlayed : Status → Type 0
IsPlayed s = (s ≡ status.Done) ⊎ (s ≡ status.Conflicts) ⊎ (s ≡ status.Memory)
