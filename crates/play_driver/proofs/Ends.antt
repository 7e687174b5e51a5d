-- A session's end, as its call tells it.
use Rattle.std.proofs.Common.{◌≡◌, ◌++◌, List, Result, Ok, Err, OnOk}
use Rattle.imap_model.specs.declared.command.Command.TheVariants as commands
use Rattle.imap_model.specs.declared.response.Response.{Response}
use Rattle.world_traits.specs.LinkState.{LinkState}
use Rattle.imap_session.specs.Dialogue.{next_tag, next_text}
use Rattle.imap_session.specs.Hearing.{Hears}
use Rattle.imap_session.specs.Leaving.{Left, Staying}
use Rattle.imap_session.specs.Sent.{SentFront}
use Rattle.imap_session.specs.Session.{Follows}
use Rattle.imap_session.specs.declared.fault.SessionFault.{SessionFault}
use Rattle.play_driver.specs.Playing.{HasLeft, NotLeft}
use Rattle.play_driver.specs.Stages.{Stage}

module _ {T : Type 0} (p : Stage) (link : LinkState) (r : Result T SessionFault) (follows : Follows p.link.connection p.feed) where
  left_on : (s : Result T SessionFault) → ((heard : List Response) → Hears heard p.link.connection p.feed →
      OnOk s (Left heard (next_tag p.count) link.connection)) → OnOk s (link.sent ≡ p.link.sent ++ next_text p.count commands.Logout) → OnOk s (HasLeft p link)
  left_on (Ok x) left sent = record { heard = follows.0; hears = follows.1; sent = sent; left = left follows.0 follows.1 }
  left_on (Err e) left sent = tt

  pub has_left : ((heard : List Response) → Hears heard p.link.connection p.feed → OnOk r (Left heard (next_tag p.count) link.connection)) →
      OnOk r (link.sent ≡ p.link.sent ++ next_text p.count commands.Logout) → OnOk r (HasLeft p link)
  has_left left sent = left_on r left sent

  pub not_left : SentFront (next_text p.count commands.Logout) p.link.sent link.sent →
      ((heard : List Response) → (h : Hears heard p.link.connection p.feed) → (fault : SessionFault) → r ≡ Err fault →
      Staying heard (next_tag p.count) h.connection.received link.connection fault) →
      (fault : SessionFault) → r ≡ Err fault → NotLeft p link fault
  not_left sent why fault is = record { heard = follows.0; hears = follows.1; sent = sent; staying = why follows.0 follows.1 fault is }
