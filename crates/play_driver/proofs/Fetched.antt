-- The FETCH of all rows, behind a reply to SELECT that is held.
use Rattle.imap_model.specs.CommandText.{parts_of}
use Rattle.imap_model.specs.declared.replies.Replies.{Replies}
use Rattle.imap_model.specs.declared.response.Response.{Response}
use Rattle.imap_session.proofs.Dialogues.{broke_first, is_reply, lines_of, stood_at}
use Rattle.imap_session.specs.Blame.{Blames}
use Rattle.imap_session.specs.Causes.{FailsBehind}
use Rattle.imap_session.specs.Dialogue.{BrokeOff, Dialogue, StoodAt, next_tag, next_text}
use Rattle.imap_session.specs.Dialogue.Dialogue.{Asks}
use Rattle.imap_session.specs.Hearing.{Hears}
use Rattle.imap_session.specs.Replying.{AreSmall, Came, ReceivedAtMost}
use Rattle.imap_session.specs.Sent.{SentFront, joined}
use Rattle.imap_session.specs.Session.{Answered, waiting_of}
use Rattle.imap_session.specs.declared.chosen.Chosen.{Chosen}
use Rattle.imap_session.specs.declared.fault.SessionFault.{SessionFault}
use Rattle.literal_feed.specs.Stream.{Stream}
use Rattle.mail_base.specs.declared.tag.Tag.{Tag}
use Rattle.mailbox_cache.specs.declared.delta.Delta.{Delta}
use Rattle.play_driver.proofs.Gathers.{learnable, makes_delta}
use Rattle.play_driver.specs.Exchanges.{AnsweredAll, CameAll}
use Rattle.play_driver.specs.Fetching.{HasFetched}
use Rattle.play_driver.specs.Gathering.{StandFor}
use Rattle.play_driver.specs.Holds.{IsHeldReply}
use Rattle.play_driver.specs.Resynchronising.{Gathered, IsLearnable, MakesDelta, fetches, then_all}
use Rattle.play_driver.specs.declared.session.Held.{Held}
use Rattle.qresync_core.specs.Fitting.{Fits}
use Rattle.qresync_core.specs.Resync.{HasFault, TellsDelta}
use Rattle.qresync_core.specs.declared.fault.ResyncFault.{ResyncFault}
use Rattle.qresync_core.specs.declared.maker.DeltaMaker.{DeltaMaker}
use Rattle.std.proofs.Common.{IfErr, IfOk, List, None, Ok, Option, Result, Some, ap, arith, is_some, refl, subst, ℕ, ◌++◌, ◌∙◌, ◌≡◌}
use Rattle.world_traits.specs.LinkState.{Connection, LinkState}
use Rattle.world_traits.specs.Moments.{Clock}
use Rattle.world_traits.specs.declared.clocked.Clocked.{Ghosts}
use Rattle.imap_model.specs.declared.command.Command.TheVariants as commands
use Rattle.imap_model.specs.declared.ending.Ending.TheVariants as endings

module _ (count : ℕ) (tag : Tag) (tagged : tag ≡ next_tag count) where
  -- it was answered
  pub fetch_answered : (name : List ℕ) (all : Replies) (old new : Clock) (c : Option Connection) (feed : Stream) → all.ending ≡ endings.Ok →
      Answered (waiting_of (Some name) tag commands.FetchAll) all old new c feed → AnsweredAll (then_all (Some all)) (Some name) count old new
  fetch_answered name all old new c feed fine a = (
    new,
    record {
      connection = c;
      feed = feed;
      answered = subst (λ (x : Tag). Answered (waiting_of (Some name) x commands.FetchAll) all old new c feed) tagged a;
      accepted = fine;
    },
    refl,
  )

  -- its reply came
  pub fetch_came : (heard : List Response) (had : List ℕ) (all : Replies) (old at : LinkState) (feed : Stream) → all.ending ≡ endings.Ok → AreSmall all →
      at.sent ≡ old.sent ++ joined (parts_of tag commands.FetchAll) → Came heard tag commands.FetchAll all old at feed →
      ReceivedAtMost had at.connection → CameAll (then_all (Some all)) count old.sent had heard at feed
  fetch_came heard had all old at feed fine few whole came within =
      let counted = subst (λ (x : Tag). Came heard x commands.FetchAll all old at feed) tagged came in
      let sent_so : at.sent ≡ old.sent ++ next_text count commands.FetchAll =
      whole ∙ ap (λ (x : Tag). old.sent ++ joined (parts_of x commands.FetchAll)) tagged in (
        within.reply,
        lines_of heard (next_tag count) commands.FetchAll all old at feed counted,
        is_reply heard (next_tag count) commands.FetchAll all old at feed counted had within fine few,
        stood_at heard (next_tag count) commands.FetchAll all old at feed counted had within (old.sent ++ next_text count commands.FetchAll) sent_so,
      )

  -- it wasn't answered
  pub fetch_why : (next : Dialogue) (heard : List Response) (had : List ℕ) (old new : LinkState) (fault : SessionFault) →
      SentFront (joined (parts_of tag commands.FetchAll)) old.sent new.sent → FailsBehind heard tag commands.FetchAll had new.connection fault →
      BrokeOff (Asks commands.FetchAll (λ all. next)) count old.sent had heard new fault
  fetch_why next heard had old new fault text failing =
      broke_first commands.FetchAll (λ all. next) count old.sent had heard new fault
      (subst (λ (x : Tag). SentFront (joined (parts_of x commands.FetchAll)) old.sent new.sent) tagged text)
      (subst (λ (x : Tag). FailsBehind heard x commands.FetchAll had new.connection fault) tagged failing)

-- nothing was asked
pub none_came : (heard : List Response) (link : LinkState) (feed : Stream) → (h : Hears heard link.connection feed) →
    StoodAt link.sent h.connection.received heard link feed
none_came heard link feed h = record { sends = refl; has = h.there; hears = h }

pub none_blamed : {Self T : Type 0} (L : Ghosts Self) (at : Self) (x : T) → Blames L at at (Ok x)
none_blamed L at x = record { disk = refl; count = omega arith; cause = λ is. absurd (cc); unfailed = λ other. refl }

-- what the replies make of no cache, whatever reply it is that is held
module _ {Self : Type 0} (L : Ghosts Self) (old new : Self) (held : Held) (next : Chosen) (all : DeltaMaker)
    (x : HasFetched L old new held.chosen held.maker next all) (delta : Result Delta ResyncFault) where
  abbrev OfAll : (Gathered → Type 0) → Type 0
  OfAll P = (g : Gathered) → StandFor held.maker held.last all g → is_some g.all ≡ fetches None g.selected → P g

  module _ (value : IfOk delta (λ (d : Delta). OfAll (λ (g : Gathered). TellsDelta None g.selected g.all d)))
      (fault : IfErr delta (λ (f : ResyncFault). OfAll (λ (g : Gathered). HasFault None g.selected g.all f))) where
    pub makes_rows : (r : Replies) → IsHeldReply held r → MakesDelta None (record { selected = r; all = x.all }) delta
    makes_rows r is =
        makes_delta None held.maker held.last all (record { selected = r; all = x.all }) delta
        (record { select = is.stands; code = is.code; fetch = x.stands }) (x.due r is.stands) value fault

    pub learns_rows : (r : Replies) → IsHeldReply held r → IfOk delta (Fits None) → IfOk delta (IsLearnable None)
    learns_rows r is fits = learnable None (record { selected = r; all = x.all }) delta is.small x.small (makes_rows r is) fits
