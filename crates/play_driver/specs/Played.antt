-- What is so between the mail book and a server while actions are played.
use Rattle.imap_model.specs.Talking.{Peer}
use Rattle.imap_model.specs.declared.server.Server.{Server}
use Rattle.action_queue.specs.Book.{Meaning}
use Rattle.std.specs.Prelude.{Option}
use Rattle.store_core.specs.Mail.{mail}
use Rattle.play_driver.specs.Machine.{Machine}
use Rattle.book_laws.specs.Of.{IsOf}
use Rattle.book_laws.specs.Permitted.{Permits}
use Rattle.book_laws.specs.Polite.{KeepsBox, KeepsWaiting, SparesBook}

-- Others spare the books, and renew no mailbox that is selected, nor one in which a command waits (RFC 9051, section 2.3.1.1).
abbrev pub SparesFrom : Option Meaning → Peer → Server → Type 0
SparesFrom b p t =
    SparesBook p.server.boxes t.boxes b × KeepsBox p.talk.selected p.server.boxes t.boxes × KeepsWaiting p.waiting p.server.boxes t.boxes

abbrev pub played : Machine mail
played = record { Permits = Permits; MaySend = IsOf; Spares = SparesFrom }
