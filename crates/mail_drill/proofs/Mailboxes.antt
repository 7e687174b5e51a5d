-- A drill's book fits the mailboxes of its server, whatever its runs record, its server carries out, and a stop leaves.
use Rattle.std.proofs.Common.{◌≡◌, ◌≢◌, ℕ, Bool, true, false, List, [], ◌∷◌, Option, Some, None, refl, sym, ◌∙◌, subst}
use Rattle.std.specs.Prelude.{bytes_eq, codes}
use Rattle.std.proofs.lemmas.Bool.{cond_both}
use Rattle.imap_model.proofs.Finding.{same_name}
use Rattle.imap_model.specs.Carrying.{Waiting}
use Rattle.imap_model.specs.Lookups.{box_at}
use Rattle.imap_model.specs.declared.server.Mailbox.{Mailbox}
use Rattle.imap_model.specs.declared.server.Server.{Server}
use Rattle.mail_base.specs.Account.{Credentials}
use Rattle.mail_base.specs.declared.status.Status.{Status}
use Rattle.action_queue.specs.Book.{Meaning, begun}
use Rattle.action_queue.specs.Events.{next_book}
use Rattle.action_queue.specs.declared.event.Event.{Event}
use Rattle.action_queue.specs.declared.event.Event.TheVariants as events
use Rattle.journal_core.specs.declared.version.Version.{Version}
use Rattle.world_traits.specs.Links.{Any}
use Rattle.world_traits.specs.Moments.{MayLeave, OneSideAtRest}
use Rattle.world_traits.proofs.Passing.{since_weaker}
use Rattle.world_mem.specs.Worlds.{course_of, seen_sound}
use Rattle.book_laws.specs.Kept.{Kept}
use Rattle.book_laws.specs.Permitted.{Permits}
use Rattle.store_core.specs.Mail.{MayCome, mail}
use Rattle.store_core.specs.Steps.{Books}
use Rattle.store_core.specs.Taking.{HasBooks}
use Rattle.store_core.proofs.MailBook.{one_mail_event}
use Rattle.play_driver.specs.Grounds.{AreBoxes}
use Rattle.play_driver.specs.Granting.{IsBox}
use Rattle.play_driver.specs.Joining.{IsKept, Joined}
use Rattle.play_driver.specs.Machine.{Withstands}
use Rattle.play_driver.specs.Played.{played}
use Rattle.play_driver.specs.Progress.{box_names, has_name}
use Rattle.play_driver.proofs.Boxes.{KeepsBoxes, batch_keeps, carried_keeps}
use Rattle.play_driver.proofs.Kept.{same_held}
use Rattle.play_driver.proofs.PlayedKept.{withstood}
use Rattle.play_driver.proofs.Progressing.{later_event}
use Rattle.play_driver.proofs.Steps.{run_kept}
use Rattle.mail_top.specs.CompletePlay.{HasEachBox}
use Rattle.mail_top.specs.KeptNow.{IsKeptNow}
use Rattle.mail_drill.specs.Beginning.{boxes_at_first}
use Rattle.mail_drill.specs.Mailboxes.{BothFit, FitsBoth, HasBoth, both_names}
use Rattle.mail_drill.specs.Ran.{Ran}
use Rattle.mail_drill.specs.Standing.{PlaysOn, clock_of, now_of, seen_of}
use Rattle.mail_drill.specs.declared.quiet_world.QuietWorld.{QuietWorld}

-- The server goes on.
both_stay : (s t : Server) → KeepsBoxes s.boxes t.boxes → HasBoth s → HasBoth t
both_stay s t keeps both = record { inbox = keeps (codes "INBOX") both.inbox; archive = keeps (codes "Archive") both.archive }

fit_keeps : (b : Option Meaning) (s t : Server) (v w : Option Waiting) → KeepsBoxes s.boxes t.boxes → BothFit b s v → BothFit b t w
fit_keeps None s t v w keeps fits = fits
fit_keeps (Some b) s t v w keeps fits = record { names = fits.names; both = both_stay s t keeps fits.both }

-- An event is recorded.
names_stay : (b : Meaning) (event : Event) (s : Server) (w : Option Waiting) → Permits (Some b) event s w →
    box_names (next_book (Some b) event) ≡ box_names b
names_stay b (events.Begin names) s w permitted = absurd permitted
names_stay b (events.Accept id action) s w permitted = refl
names_stay b (events.Intend id intent) s w permitted = (later_event b (events.Intend id intent) tt).names
names_stay b (events.Settle id outcome) s w permitted = (later_event b (events.Settle id outcome) tt).names
names_stay b (events.Learn name delta) s w permitted = (later_event b (events.Learn name delta) tt).names
names_stay b (events.Old id action outcome) s w permitted = absurd permitted
names_stay b (events.Reset name kept told) s w permitted = (later_event b (events.Reset name kept told) tt).names
names_stay b (events.Withdraw id tries) s w permitted = (later_event b (events.Withdraw id tries) tt).names

fit_event : (version : Version) (b : Option Meaning) (event : Event) (s : Server) (w : Option Waiting) → MayCome version b event →
    Permits b event s w → BothFit b s w → BothFit (Some (next_book b event)) s w
fit_event version None event s w may permitted fits = absurd fits
fit_event version (Some b) event s w may permitted fits = record { names = names_stay b event s w permitted ∙ fits.names; both = fits.both }

-- So it is at each step of a run.
pub fit_withstood : Withstands mail played BothFit
fit_withstood = record {
  event = fit_event;
  sent = λ b s w of fits. fits;
  asked = λ b s w question fits. fit_keeps b s s None (Some w) (λ name there. there) fits;
  carried = λ b w s r t after out fits. fit_keeps b s t (Some w) None (carried_keeps w s r t after out) fits;
  dropped = λ b s w fits. fit_keeps b s s w None (λ name there. there) fits;
  others = λ b p t batch spares fits. fit_keeps b p.server t p.waiting p.waiting (batch_keeps p.server.boxes p.server t batch) fits;
  sendable = withstood.sendable;
  spared = withstood.spared;
}

-- and behind a call
pub fits_behind : (account : Credentials) (words : List (List ℕ)) (input : List ℕ) (old new : QuietWorld) (s : Status) → Ran account words input old new s →
    OneSideAtRest (now_of old) → (books : Books mail) → HasBooks mail books (now_of old) → IsKeptNow (now_of old) → IsKept mail BothFit (now_of old) →
    IsKept mail BothFit (now_of new)
fits_behind account words input old new s ran one books have kept fits =
    run_kept mail played BothFit fit_withstood one_mail_event (clock_of old) (clock_of new) fits
    (since_weaker (IsKept mail Kept) Any (Joined mail played) (Joined mail played) (λ m here. tt) (λ m n step. step) (clock_of old) (clock_of new)
    (ran.joined one books have kept))

-- the mailboxes of a new server
both_at_first : (size : ℕ) (s : Server) → s.boxes ≡ boxes_at_first size → HasBoth s
both_at_first size s boxes = record {
  inbox = subst (λ (bs : List Mailbox). box_at (codes "INBOX") bs ≢ None) (sym boxes) (λ none. cc);
  archive = subst (λ (bs : List Mailbox). box_at (codes "Archive") bs ≢ None) (sym boxes) (λ none. cc);
}

pub fits_at_first : (size : ℕ) (s : Server) → s.boxes ≡ boxes_at_first size → FitsBoth (begun both_names) s
fits_at_first size s boxes = record { names = refl; both = both_at_first size s boxes }

are_both : (s : Server) → HasBoth s → AreBoxes both_names s
are_both s both name =
    cond_both (bytes_eq (codes "INBOX") name) true (has_name name (codes "Archive" ∷ [])) (λ (has : Bool). has ≡ true → IsBox name s)
    (λ here has. subst (λ (n : List ℕ). IsBox n s) (same_name (codes "INBOX") name here) both.inbox)
    (λ other.
    cond_both (bytes_eq (codes "Archive") name) true false (λ (has : Bool). has ≡ true → IsBox name s)
    (λ here has. subst (λ (n : List ℕ). IsBox n s) (same_name (codes "Archive") name here) both.archive)
    (λ neither has. absurd cc))

-- So the server has each mailbox of a book that may be played on.
module _ (b : Meaning) (w : QuietWorld) (plays : PlaysOn b w) where
  reads : MayLeave (now_of w) (seen_of w)
  reads = seen_sound (course_of w.world)

  pub has_each_box : HasEachBox (seen_of w) (now_of w).outside.server
  has_each_box =
      let on = plays.playing.each (seen_of w) reads in
      let fit = plays.fits.each (seen_of w) reads in
      let same : fit.book ≡ Some on.book = same_held mail one_mail_event fit.book (Some on.book) (seen_of w) fit.holds on.holds in
      let fits : FitsBoth on.book (now_of w).outside.server =
      subst (λ (c : Option Meaning). BothFit c (now_of w).outside.server (now_of w).outside.waiting) same fit.related in
      record {
        book = on.book;
        holds = on.holds;
        boxes = subst (λ (ns : List (List ℕ)). AreBoxes ns (now_of w).outside.server) (sym fits.names) (are_both (now_of w).outside.server fits.both);
      }
