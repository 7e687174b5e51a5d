-- A run enters, as its calls tell it.
use Rattle.std.proofs.Common.{◌≡◌, ℕ, Bool, List, Result, Err}
use Rattle.mail_base.specs.Account.{Credentials}
use Rattle.imap_model.specs.declared.response.Response.{Response}
use Rattle.world_traits.specs.LinkState.{LinkState}
use Rattle.world_traits.specs.Links.{Linked}
use Rattle.world_traits.specs.Moments.{Clock}
use Rattle.imap_session.specs.Dialogue.{BrokeOff, CameToEnd, Talked, so_far}
use Rattle.imap_session.specs.Enquiring.{Enquiring}
use Rattle.imap_session.specs.Hearing.{Hears}
use Rattle.imap_session.specs.LogIn.{enabling, entering}
use Rattle.imap_session.specs.Session.{Follows}
use Rattle.imap_session.specs.declared.fault.SessionFault.{SessionFault}
use Rattle.imap_session.specs.declared.ready.Ready.{Ready}
use Rattle.imap_session.proofs.Talking.{linked_then}
use Rattle.imap_session.proofs.Talks.{enabling_asks, entering_asks, talks_enquires}
use Rattle.play_driver.specs.Entering.{HasEntered, HasGreeted, NotEntered}
use Rattle.play_driver.specs.Entering.NotEntered.{not_enabled, not_logged_in}
use Rattle.play_driver.specs.Stages.{CameBetween, Stage, stage_of}
use Rattle.play_driver.specs.declared.session.Session.TheVariants as sessions

-- what was asked
module _ (old mid new : Clock) (first : Linked Enquiring old mid) (before after : LinkState) (count : ℕ) where
  pub entering_told : (preauth : Bool) (account : Credentials) → Talked (entering preauth account) count (so_far mid before) (so_far new after) →
      Linked Enquiring old new
  entering_told preauth account talked =
      linked_then Enquiring old mid new first
      (talks_enquires (entering preauth account) (entering_asks preauth account) count (so_far mid before) (so_far new after) talked)

  pub enabling_told : (rev2 : Bool) → Talked (enabling rev2) count (so_far mid before) (so_far new after) → Linked Enquiring old new
  enabling_told rev2 talked =
      linked_then Enquiring old mid new first
      (talks_enquires (enabling rev2) (enabling_asks rev2) count (so_far mid before) (so_far new after) talked)

module _ (account : Credentials) (old : LinkState) (preauth : Bool) (p : Stage) (hello : HasGreeted preauth p)
    (follows : Follows p.link.connection p.feed) where
  -- the user wasn't logged in
  pub unknown_so : {T : Type 0} (r : Result T SessionFault) (link : LinkState) →
      ((heard : List Response) → (h : Hears heard p.link.connection p.feed) → (fault : SessionFault) → r ≡ Err fault →
      BrokeOff (entering preauth account) p.count p.link.sent h.connection.received heard link fault) →
      (fault : SessionFault) → r ≡ Err fault → NotEntered account old link fault
  unknown_so r link why fault is =
      not_logged_in preauth p hello (record { heard = follows.0; hears = follows.1; broke = why follows.0 follows.1 fault is })

  -- and then
  module _ (rev2 : Bool) (k : Stage) (went : (heard : List Response) → (h : Hears heard p.link.connection p.feed) →
      CameToEnd (entering preauth account) p.count p.link.sent h.connection.received heard (record { count = k.count; rev2 = rev2 }) k.link k.feed)
      (more : Follows k.link.connection k.feed) (link : LinkState) where
    came : CameBetween (entering preauth account) rev2 p k
    came = record { heard = follows.0; hears = follows.1; came = went follows.0 follows.1 }

    -- QRESYNC wasn't enabled
    pub unfit_so : {T : Type 0} (r : Result T SessionFault) →
        ((heard : List Response) → (h : Hears heard k.link.connection k.feed) → (fault : SessionFault) → r ≡ Err fault →
        BrokeOff (enabling rev2) k.count k.link.sent h.connection.received heard link fault) →
        (fault : SessionFault) → r ≡ Err fault → NotEntered account old link fault
    unfit_so r why fault is =
        not_enabled rev2 k (record { preauth = preauth; greeted = p; hello = hello; came = came })
        (record { heard = more.0; hears = more.1; broke = why more.0 more.1 fault is })

    -- it was
    pub entered_so : (s : Ready) → ((heard : List Response) → (h : Hears heard k.link.connection k.feed) →
        CameToEnd (enabling rev2) k.count k.link.sent h.connection.received heard (record { count = s.conversation.count; rev2 = rev2 }) link
        s.conversation.feed) → HasEntered account (stage_of link (sessions.Ready s))
    entered_so s ends = record {
      rev2 = rev2;
      known = k;
      logged_in = record { preauth = preauth; greeted = p; hello = hello; came = came };
      came = record { heard = more.0; hears = more.1; came = ends more.0 more.1 };
    }
