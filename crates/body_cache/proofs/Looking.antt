-- What a reading leaves of the journal, and beside the server: the journal is opened, and the server is asked.
use Rattle.std.proofs.Common.{◌≡◌, ◌∙◌, inl, Some, refl, ap, subst}
use Rattle.action_queue.specs.Book.{Meaning}
use Rattle.imap_session.specs.Enquiring.{Enquiring}
use Rattle.world_traits.specs.LinkState.{LinkState}
use Rattle.world_traits.specs.Links.{Any, AnyStep, LinkStep, Linked}
use Rattle.world_traits.specs.Moments.{Clock, Since, Within}
use Rattle.world_traits.specs.declared.clocked.Clocked.{Ghosts}
use Rattle.world_traits.proofs.Passing.{since_start}
use Rattle.world_traits.proofs.Traces.{carried_now}
use Rattle.store_core.specs.HeldActions.{KeepsActions}
use Rattle.store_core.specs.Mail.{mail}
use Rattle.store_core.specs.Steps.{Books, Firm}
use Rattle.store_core.specs.Taking.{ChoosesStep, HasBooks}
use Rattle.store_core.proofs.MailBook.{one_mail_event}
use Rattle.book_laws.specs.Kept.{Kept}
use Rattle.play_driver.specs.Accuses.{ConnectsOnce}
use Rattle.play_driver.specs.Played.{played}
use Rattle.play_driver.proofs.Calls.{enquires_stays, stays_then}
use Rattle.play_driver.proofs.Links.{books_there}
use Rattle.play_driver.proofs.Parts.{grows}
use Rattle.play_driver.proofs.PlayedKept.{withstood}
use Rattle.mail_top.specs.BesideServer.{EntersKept}
use Rattle.mail_top.specs.KeptNow.{StaysKept}
use Rattle.mail_top.specs.Showing.{OnlyReads}
use Rattle.mail_top.proofs.PlaySteps.{opening_joined}
use Rattle.body_cache.specs.Finding.{OnlyLooks}

-- what isn't on the disk stays while a journal is read
pub reads_outside : (old new : Clock) → OnlyReads old new → new.now.outside ≡ old.now.outside
reads_outside old new r =
    carried_now (Within old.now) (λ m. m.outside ≡ old.now.outside) KeepsActions (λ m n any s same. s.outside ∙ same) old refl new r.keeps

-- a book that each stop leaves stays while the link is called
pub books_linked : (b : Meaning) (old new : Clock) → HasBooks mail (Firm (Some b)) old.now → Linked AnyStep old new →
    HasBooks mail (Firm (Some b)) new.now
books_linked b old new has linked =
    carried_now Any (λ m. HasBooks mail (Firm (Some b)) m) (LinkStep AnyStep)
    (λ m n any s h. books_there AnyStep m n s mail (Firm (Some b)) h) old has new linked

-- the books that a stop may leave once the journal is open
pub books_opened : (old new : Clock) (x : Books mail) → HasBooks mail x old.now → Since Any (ChoosesStep mail) old new →
    (y : Books mail) × HasBooks mail y new.now
books_opened old new x has opens =
    carried_now Any (λ m. (y : Books mail) × HasBooks mail y m) (ChoosesStep mail) (λ m n any s h. (s.new, s.at_new)) old (x, has) new opens

module _ {Self : Type 0} (W : Ghosts Self) where
  -- nothing was asked
  pub looks_alone : (old new : Self) → OnlyReads (W.clock old) (W.clock new) → W.link new ≡ W.link old → OnlyLooks W old new
  looks_alone old new r link = record {
    opened = W.clock new;
    opens = r;
    outside = reads_outside (W.clock old) (W.clock new) r;
    files = since_start Any (LinkStep AnyStep) (W.clock new);
    asks = λ t. since_start Any (LinkStep Enquiring) (W.clock new);
    once = inl (ap (λ (l : LinkState). l.earlier) link);
  }

  -- the link was called behind it
  pub looks_then : (old mid new : Self) → OnlyReads (W.clock old) (W.clock mid) → W.link mid ≡ W.link old → Linked AnyStep (W.clock mid) (W.clock new) →
      (W.tells_server → Linked Enquiring (W.clock mid) (W.clock new)) → ConnectsOnce (W.link mid) (W.link new) → OnlyLooks W old new
  looks_then old mid new r link linked asks once = record {
    opened = W.clock mid;
    opens = r;
    outside = reads_outside (W.clock old) (W.clock mid) r;
    files = linked;
    asks = asks;
    once = subst (λ (l : LinkState). ConnectsOnce l (W.link new)) link once;
  }

  -- each moment is kept, and joined to the one before it
  pub looks_kept : (old new : Self) → OnlyLooks W old new → EntersKept W old → StaysKept (W.clock old) (W.clock new)
  looks_kept old new l e =
      let opens = l.opens.books e.one_side e.books e.have in
      let there = books_opened (W.clock old) l.opened e.books e.have opens in
      stays_then mail Kept played (W.clock old) l.opened (W.clock new) e.kept
      (grows Any (ChoosesStep mail) (W.clock old) l.opened opens) (grows Any (LinkStep AnyStep) l.opened (W.clock new) l.files)
      (opening_joined (W.clock old) l.opened e.kept opens)
      (λ kept. enquires_stays mail one_mail_event Kept played withstood there.0 l.opened (W.clock new) there.1 kept (l.asks e.tells))
