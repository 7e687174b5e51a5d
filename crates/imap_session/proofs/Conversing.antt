-- What calls say together: a command that was asked, and then a dialogue.
use Rattle.std.proofs.Common.{◌≡◌, ◌∙◌, ◌+◌, ℕ, Bool, Result, Ok, Err, IfOk, IsErrOf, None, arith, inl, inr, refl, subst, sym}
use Rattle.literal_feed.specs.Stream.{Stream}
use Rattle.imap_model.specs.declared.command.Command.{Command}
use Rattle.imap_model.specs.declared.item.Item.{Item}
use Rattle.imap_model.specs.declared.replies.Replies.{Replies}
use Rattle.world_traits.specs.Links.{AnyStep}
use Rattle.world_traits.specs.declared.clocked.Clocked.{Ghosts}
use Rattle.imap_session.specs.Conversing.{Concludes, Converses}
use Rattle.imap_session.specs.Dialogue.{Dialogue, Known, next_tag}
use Rattle.imap_session.specs.Dialogue.Dialogue.{Asks, Ends, Lacks}
use Rattle.imap_session.specs.Session.{Follows, Stands}
use Rattle.imap_session.specs.Exchange.{FailsFor, HasReply, Talks}
use Rattle.imap_session.specs.declared.fault.SessionFault.{SessionFault}
use Rattle.imap_session.specs.declared.fault.SessionFault.TheVariants as faults
use Rattle.imap_session.proofs.Dialogues.{broke_first, broke_from, came_from, had_now, is_reply, lines_of, no_lack, out_from, replied_so, sent_from}
use Rattle.imap_session.proofs.Dialogues.{talked_from}
use Rattle.imap_session.proofs.Talking.{linked_start, linked_then}

module _ {Self : Type 0} (L : Ghosts Self) (command : Command) (next : Replies → Dialogue) (asked : ℕ) (old mid : Self) (before : Stream) where
  -- it wasn't answered
  pub not_answered : {T U : Type 0} (first : Result U SessionFault) (result : Result T SessionFault)
      → ((fault : SessionFault) → IsErrOf result fault → IsErrOf first fault) → (IsErrOf first faults.Link → IsErrOf result faults.Link)
      → (L.tells_files → Follows (L.link old).connection before)
      → Talks L (next_tag asked) command old mid first → FailsFor L (next_tag asked) command old mid before first
      → Converses L (Asks command next) asked old mid before result
  not_answered first result same back follows talks fails = record {
    files = talks.files;
    told = λ t. inl (talks.told t, talks.sent (L.server_with_files t));
    sent = λ t. inl (talks.sent t);
    lacking = λ t item is.
        let f = follows (L.server_with_files t) in
        absurd (no_lack f.0 _ command f.1.connection.received _ item
        (fails.why (L.server_with_files t) f.0 f.1 (faults.Lacking item) (same (faults.Lacking item) is)));
    why = λ t heard h fault is. broke_first command next asked _ h.connection.received heard _ fault (talks.sent t)
        (fails.why t heard h fault (same fault is));
    honest = λ t at is. talks.honest t at (same (faults.BadReply at) is);
    earlier = talks.earlier;
    blames = record {
      disk = talks.blames.disk;
      count = talks.blames.count;
      cause = λ is. talks.blames.cause (same faults.Link is);
      unfailed = λ none. talks.blames.unfailed (λ is. none (back is));
    };
  }

  -- it was, and then this was held
  module _ (new : Self) (between : Stream) {U : Type 0} (first : Result U SessionFault) (r : Replies)
      (talks : Talks L (next_tag asked) command old mid first) (reply : HasReply L (next_tag asked) command old mid before between r)
      (stands : L.tells_server → Stands None (L.clock old) (L.link old).connection before) (d : Dialogue) (goes : next r ≡ d) where
    pub then_converses : {T V : Type 0} (rest : Result V SessionFault) (result : Result T SessionFault)
        → ((fault : SessionFault) → IsErrOf result fault → IsErrOf rest fault) → (IsErrOf rest faults.Link → IsErrOf result faults.Link)
        → (IsErrOf first faults.Link → ⊥) → Converses L d (asked + 1) mid new between rest → Converses L (Asks command next) asked old new before result
    then_converses rest result same back well c =
        let behind = subst (λ (x : Dialogue). Converses L x (asked + 1) mid new between rest) (sym goes) c in
        record {
          files = λ t. linked_then AnyStep _ _ _ (talks.files t) (behind.files t);
          told = λ t. inr (
            r,
            L.clock mid,
            replied_so asked command r _ _ _ _ (reply.answered t None (stands t)) (reply.accepted tt),
            talked_from (next r) (asked + 1) _ _ _ _ (reply.whole (L.server_with_files t) (reply.accepted tt)) (behind.told t),
          );
          sent = λ t. inr (r, sent_from (next r) (asked + 1) _ _ _ (reply.whole t (reply.accepted tt)) (behind.sent t));
          lacking = λ t item is. (
            r,
            L.clock mid,
            replied_so asked command r _ _ _ _ (reply.answered t None (stands t)) (reply.accepted tt),
            out_from (next r) (asked + 1) _ _ _ _ _ (reply.whole (L.server_with_files t) (reply.accepted tt))
                (behind.lacking t item (same (faults.Lacking item) is)),
          );
          why = λ t heard h fault is.
              let q = reply.came t heard h in
              let w = reply.within t heard h in
              inr (
                r,
                w.reply,
                lines_of _ (next_tag asked) command r _ _ _ q,
                is_reply heard (next_tag asked) command r _ _ _ q _ w (reply.accepted tt) reply.small,
                broke_from (next r) (asked + 1) _ _ _ _ _ _ fault (reply.whole t (reply.accepted tt))
                    (had_now heard (next_tag asked) command r _ _ _ q _ w) (behind.why t _ q.hears fault (same fault is)),
              );
          honest = λ t at is. behind.honest t at (same (faults.BadReply at) is);
          earlier = λ t. behind.earlier t ∙ talks.earlier t;
          blames = record {
            disk = behind.blames.disk ∙ talks.blames.disk;
            count = omega (arith, behind.blames.count, talks.blames.count);
            cause = λ is small. omega (arith, behind.blames.cause (same faults.Link is) small, talks.blames.count);
            unfailed = λ none. behind.blames.unfailed (λ is. none (back is)) ∙ talks.blames.unfailed well;
          };
        }

    pub then_concludes : (after : Stream) (known : Known) → Concludes L d (asked + 1) mid new between after known
        → Concludes L (Asks command next) asked old new before after known
    then_concludes after known c =
        let behind = subst (λ (x : Dialogue). Concludes L x (asked + 1) mid new between after known) (sym goes) c in
        record {
          answered = λ t. (
            r,
            L.clock mid,
            replied_so asked command r _ _ _ _ (reply.answered t None (stands t)) (reply.accepted tt),
            out_from (next r) (asked + 1) None _ _ _ _ (reply.whole (L.server_with_files t) (reply.accepted tt)) (behind.answered t),
          );
          came = λ t heard h.
              let q = reply.came t heard h in
              let w = reply.within t heard h in (
                r,
                w.reply,
                lines_of _ (next_tag asked) command r _ _ _ q,
                is_reply heard (next_tag asked) command r _ _ _ q _ w (reply.accepted tt) reply.small,
                came_from (next r) (asked + 1) _ _ _ _ _ _ _ _ (reply.whole t (reply.accepted tt))
                    (had_now heard (next_tag asked) command r _ _ _ q _ w) (behind.came t _ q.hears),
              );
          stands = behind.stands;
        }

-- the count of questions is this number
pub counted_as : {Self : Type 0} (L : Ghosts Self) (d : Dialogue) (asked n m : ℕ) (old new : Self) (before after : Stream) (known : Known)
    → n ≡ m → Concludes L d asked old new before after (record known { count = n }) → Concludes L d asked old new before after (record known { count = m })
counted_as L d asked n m old new before after known same c =
    subst (λ (x : ℕ). Concludes L d asked old new before after (record known { count = x })) same c

-- nothing more is asked
module _ {Self : Type 0} (L : Ghosts Self) (asked : ℕ) (at : Self) (feed : Stream) where
  pub ends_here : {T : Type 0} (rev2 : Bool) (result : Result T SessionFault) → ((fault : SessionFault) → IsErrOf result fault → ⊥)
      → Converses L (Ends rev2) asked at at feed result
  ends_here rev2 result none = record {
    files = λ t. linked_start AnyStep (L.clock at);
    told = λ t. refl;
    sent = λ t. refl;
    lacking = λ t item is. none (faults.Lacking item) is;
    why = λ t heard h fault is. none fault is;
    honest = λ t at is. none (faults.BadReply at) is;
    earlier = λ t. refl;
    blames = record { disk = refl; count = omega arith; cause = λ is. absurd (none faults.Link is); unfailed = λ never. refl };
  }

  pub lacks_here : {T : Type 0} (item : Item) (result : Result T SessionFault)
      → ((fault : SessionFault) → IsErrOf result fault → fault ≡ faults.Lacking item) → Converses L (Lacks item) asked at at feed result
  lacks_here item result only = record {
    files = λ t. linked_start AnyStep (L.clock at);
    told = λ t. refl;
    sent = λ t. refl;
    lacking = λ t what is. let same = only (faults.Lacking what) is in (cc same, refl);
    why = λ t heard h fault is. (only fault is, (feed, record { sends = refl; has = h.there; hears = h }));
    honest = λ t at is. let no = only (faults.BadReply at) is in absurd (cc);
    earlier = λ t. refl;
    blames = record {
      disk = refl;
      count = omega arith;
      cause = λ is. let no = only faults.Link is in absurd (cc);
      unfailed = λ never. refl;
    };
  }

  pub concludes_here : (rev2 : Bool) → (L.tells_server → Stands None (L.clock at) (L.link at).connection feed)
      → Concludes L (Ends rev2) asked at at feed feed (record { count = asked; rev2 = rev2 })
  concludes_here rev2 stands = record {
    answered = λ t. refl;
    came = λ t heard h. (refl, record { sends = refl; has = h.there; hears = h });
    stands = stands;
  }

  pub fits_here : (d : Dialogue) (result : Result Bool SessionFault) → IfOk result (λ rev2. d ≡ Ends rev2)
      → ((fault : SessionFault) → IsErrOf result fault → (item : Item) × (d ≡ Lacks item) × (fault ≡ faults.Lacking item))
      → Converses L d asked at at feed result
  fits_here d (Ok rev2) is lacks =
      subst (λ (x : Dialogue). Converses {T = Bool} L x asked at at feed (Ok rev2)) (sym is) (ends_here rev2 (Ok rev2) (λ fault no. absurd (cc no)))
  fits_here d (Err e) is lacks =
      let why = lacks e refl in
      subst (λ (x : Dialogue). Converses {T = Bool} L x asked at at feed (Err e)) (sym why.1)
      (lacks_here {T = Bool} why.0 (Err e) (λ fault same. let is : e ≡ fault = cc same in sym is ∙ why.2))
