-- How a user is logged in, and what a server must offer (RFC 9051, sections 6.1.1, 6.2.2, 6.2.3 and 6.3.1; RFC 4315; RFC 6851;
-- RFC 7162, section 3.2.3).
use Rattle.std.specs.Prelude.{◌≡◌, ◌⊎◌, Bool, true, false, IsTrue, Option, None, codes, if◌then◌else◌}
use Rattle.mail_base.specs.Account.{Credentials}
use Rattle.mail_base.specs.declared.tag.Tag.{Tag}
use Rattle.literal_feed.specs.Stream.{Stream}
use Rattle.imap_model.specs.declared.command.Command.{Command}
use Rattle.imap_model.specs.declared.command.Command.TheVariants as commands
use Rattle.imap_model.specs.declared.ending.Ending.TheVariants as endings
use Rattle.imap_model.specs.declared.item.Item.TheVariants as items
use Rattle.imap_model.specs.declared.replies.Replies.{Replies}
use Rattle.world_traits.specs.LinkState.{Connection}
use Rattle.world_traits.specs.Moments.{Clock}
use Rattle.imap_session.specs.Dialogue.{Dialogue}
use Rattle.imap_session.specs.Dialogue.Dialogue.{Ends, Lacks, Asks}
use Rattle.imap_session.specs.Enabled.{is_enabled}
use Rattle.imap_session.specs.Offers.{offer_of}
use Rattle.imap_session.specs.Session.{Answered, waiting_of}
use Rattle.imap_session.specs.declared.fault.SessionFault.{SessionFault}
use Rattle.imap_session.specs.declared.offer.Offer.{Offer}
use Rattle.imap_session.specs.declared.fault.SessionFault.TheVariants as faults

-- This client can use a server that offers QRESYNC, and either IMAP4rev2, which has UIDPLUS and MOVE in it, or both of them.
-- The first of these names that is missing is told.
abbrev pub fitness_of : Offer → Dialogue
fitness_of offer =
    if offer.qresync then
    (if offer.rev2 then Ends true
    else (if offer.uidplus then (if offer.moves then Ends false else Lacks items.Move) else Lacks items.Uidplus))
    else Lacks items.Qresync

abbrev pub fitness : Replies → Dialogue
fitness r = fitness_of (offer_of r)

-- once the user is logged in, what is offered then is asked for
abbrev pub logged_in : Dialogue
logged_in = Asks commands.Capability fitness

-- The user's name and password are sent by AUTHENTICATE PLAIN where that is offered, else by LOGIN, which LOGINDISABLED
-- forbids.
abbrev pub way_by : Credentials → Offer → Dialogue
way_by account offer =
    if offer.plain then Asks (commands.Plain account) (λ s. logged_in)
    else (if offer.no_login then Lacks items.Login else Asks (commands.Login account) (λ s. logged_in))

abbrev pub way_in : Credentials → Replies → Dialogue
way_in account r = way_by account (offer_of r)

-- Why no command logs the user in: there is none that the server allows, or memory is wanting for it.
abbrev pub NoWay : Credentials → Offer → SessionFault → Type 0
NoWay account offer fault = ((fault ≡ faults.Lacking items.Login) × (way_by account offer ≡ Lacks items.Login))
    ⊎ ((fault ≡ faults.Memory) × ((command : Command) × (way_by account offer ≡ Asks command (λ s. logged_in))))

-- behind what is offered at first: a user who is logged in already isn't logged in again
abbrev pub behind_offer : Bool → Credentials → Replies → Dialogue
behind_offer true account r = logged_in
behind_offer false account r = way_in account r

-- what is asked behind a greeting, which is PREAUTH or isn't
abbrev pub entering : Bool → Credentials → Dialogue
entering preauth account = Asks commands.Capability (behind_offer preauth account)

-- QRESYNC was enabled, or is lacking
abbrev pub switched_on : Bool → Replies → Dialogue
switched_on rev2 r = if is_enabled (codes "QRESYNC") r.untagged then Ends rev2 else Lacks items.Qresync

-- what is asked to enable it, with IMAP4rev2 where that is offered
abbrev pub enabling : Bool → Dialogue
enabling rev2 = Asks (commands.Enable rev2) (switched_on rev2)

-- ENABLE was asked and answered by OK in this connection, and what was enabled has QRESYNC in it.
pub record SwitchedOn (rev2 : Bool) (tag : Tag) (old new : Clock) (c : Option Connection) (feed : Stream) : Type 0 where
  pub replies : Replies
  pub answered : Answered (waiting_of None tag (commands.Enable rev2)) replies old new c feed
  pub accepted : replies.ending ≡ endings.Ok
  pub told : IsTrue (is_enabled (codes "QRESYNC") replies.untagged)
