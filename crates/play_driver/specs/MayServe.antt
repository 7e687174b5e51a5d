-- That a server may serve a run, so that what `complete` asks of server and others can be met (RFC 9051, sections 6.1.1, 6.1.3, 6.3.1, 6.3.2,
-- 6.4.5 and 7.1.4).
use Rattle.std.specs.Prelude.{◌≡◌, ℕ, List, [], ◌∷◌, ◌++◌, Some, None, codes}
use Rattle.mail_base.specs.declared.tag.Tag.TheVariants.{Count}
use Rattle.imap_model.specs.CarriedOut.{told_in}
use Rattle.imap_model.specs.Lookups.{box_at}
use Rattle.imap_model.specs.Talking.{IsPartOf}
use Rattle.imap_model.specs.declared.code.Code.TheVariants as codings
use Rattle.imap_model.specs.declared.command.Command.TheVariants as commands
use Rattle.imap_model.specs.declared.ending.Ending.TheVariants as endings
use Rattle.imap_model.specs.declared.replies.Replies.{Replies}
use Rattle.imap_model.specs.declared.response.Response.{Response}
use Rattle.imap_model.specs.declared.response.Response.TheVariants as responses
use Rattle.imap_model.specs.declared.server.Mailbox.{Mailbox}
use Rattle.store_core.specs.Mail.{mail}
use Rattle.world_traits.specs.Moments.{Clock}
use Rattle.play_driver.specs.Joining.{AllFair}
use Rattle.play_driver.specs.Played.{played}
use Rattle.play_driver.specs.Questioning.{ConnectsFirst, RunStep}
use Rattle.play_driver.specs.Serving.{AllServing}

-- a reply that says OK
abbrev pub says : List Response → Replies
says untagged = record { untagged = untagged; ending = endings.Ok; code = codings.None }

-- what is told of an empty mailbox that is selected
abbrev pub of_empty : Mailbox → List Response
of_empty box =
    responses.Exists 0 ∷ responses.Untagged endings.Ok (codings.UidValidity box.validity)
    ∷ responses.Untagged endings.Ok (codings.UidNext box.uidnext)
    ∷ responses.Untagged endings.Ok (codings.HighestModSeq box.highest) ∷ []

-- The replies to six questions over a connection in which the user is logged in already: CAPABILITY, twice; ENABLE; the SELECT of an
-- empty mailbox; FETCH; LOGOUT.
abbrev pub offer : Replies
offer = says (responses.Capability (codes "IMAP4rev2" ∷ codes "QRESYNC" ∷ []) ∷ [])

abbrev pub enabled : Replies
enabled = says (responses.Enabled (codes "QRESYNC" ∷ []) ∷ [])

abbrev pub bye : Replies
bye = says (responses.Bye ∷ [])

-- all that is told in it
abbrev pub session : Mailbox → List Response
session box =
    (responses.Preauth codings.None ∷ []) ++ told_in (Count 1) offer ++ told_in (Count 2) offer ++ told_in (Count 3) enabled
    ++ told_in (Count 4) (says (of_empty box)) ++ told_in (Count 5) (says []) ++ told_in (Count 6) bye

-- Moments that may follow: a connection is made, and a lawful server answers six questions in it, by these replies; others are fair; and
-- the server serves.
pub record MayBeServed (box : Mailbox) (old : Clock) : Type 0 where
  pub new : Clock
  pub runs : ConnectsFirst RunStep old new
  pub told : new.now.outside.talk.told ≡ session box
  pub fair : AllFair mail played old new
  pub serving : AllServing old new

-- So it may be from any moment on, whatever the book, where a mailbox is empty whose SELECT is sent in one part.
abbrev pub MayServe : Type 0
MayServe = (old : Clock) (name : List ℕ) (box : Mailbox) (text : List ℕ) → IsPartOf (Count 4) (commands.Select name None) [] text []
    → box_at name old.now.outside.server.boxes ≡ Some box → box.messages ≡ [] → MayBeServed box old
