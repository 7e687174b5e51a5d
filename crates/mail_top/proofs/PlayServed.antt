-- A `play` at a server that serves it.
use Rattle.std.proofs.Common.{◌≡◌, ⊎_elim, ℕ, zero, suc, Result, Ok, refl, sym, ◌∙◌, subst}
use Rattle.std.specs.Result.{IsErrAnd}
use Rattle.imap_model.specs.Talking.{Peer, greeted}
use Rattle.imap_model.specs.declared.response.Response.TheVariants as responses
use Rattle.world_traits.specs.Connected.{IsGreeted}
use Rattle.world_traits.specs.Files.{Files}
use Rattle.world_traits.specs.Links.{Any}
use Rattle.world_traits.specs.Moments.{Clock, Moment, Since}
use Rattle.world_traits.proofs.Traces.{carried_now}
use Rattle.action_queue.specs.Book.{Meaning}
use Rattle.store_core.specs.Books.{HasBook}
use Rattle.store_core.specs.HeldActions.{KeepsActions}
use Rattle.store_core.specs.Mail.{mail}
use Rattle.store_core.proofs.MailBook.{one_mail_event}
use Rattle.store_core.proofs.Folding.{one_held}
use Rattle.play_driver.specs.Faults.{ComesAnyway}
use Rattle.play_driver.specs.Grounds.{AreBoxes}
use Rattle.play_driver.specs.Joining.{Grows}
use Rattle.play_driver.specs.Progress.{IsPlaying, PlayStep, Progresses, box_names}
use Rattle.play_driver.specs.Serving.{AllServing, IsServing}
use Rattle.play_driver.specs.declared.fault.PlayFault.{PlayFault}
use Rattle.play_driver.specs.declared.fault.PlayFault.TheVariants as faults
use Rattle.play_driver.specs.declared.played.Played.{Played}
use Rattle.play_driver.proofs.Longer.{in_order}
use Rattle.play_driver.proofs.Parts.{grows, grows_start, since_second}
use Rattle.mail_top.specs.CompletePlay.{HasEachBox, IsTheServers}
use Rattle.mail_top.specs.Telling.{status_of_conflicts, status_of_fault, status_of_play, status_of_refusal}
use Rattle.mail_top.specs.declared.refusal.Refusal.{Refusal}
use Rattle.mail_top.specs.declared.refusal.Refusal.TheVariants as refusals
use Rattle.mail_top.specs.declared.unfinished.Unfinished.{Unfinished}
use Rattle.mail_top.specs.declared.unfinished.Unfinished.TheVariants as ends
use Rattle.mail_top.proofs.Sayings.{ended_by}

-- behind calls that leave the server with its connection the server serves still
pub same_peer : (P : Moment → Type 0) (k l : Clock) → Since P KeepsActions k l → l.now.outside ≡ k.now.outside
same_peer P k l readies = carried_now P (λ m. m.outside ≡ k.now.outside) KeepsActions (λ m n here step so. step.outside ∙ so) k refl l readies

pub serving_behind : (P : Moment → Type 0) (b : Meaning) (k l n : Clock) → Since P KeepsActions k l → Progresses b l n → AllServing k n → AllServing l n
serving_behind P b k l n readies goes a =
    let first = grows P KeepsActions k l readies in
    let more = grows (IsPlaying b) PlayStep l n goes in
    let rest = grows Any IsServing a.made n a.later in
    ⊎_elim (λ (g : Grows a.made l).
    let same = same_peer P a.made l (since_second P KeepsActions k a.made l a.before g readies) in
    record {
      made = l;
      before = grows_start l;
      fresh = subst IsGreeted (sym same) a.fresh;
      hello = subst (λ (p : Peer). p.talk ≡ greeted responses.Bye → ⊥) (sym same) a.hello;
      later = since_second Any IsServing a.made l n g more a.later;
    })
    (λ (g : Grows l a.made). record { made = a.made; before = g; fresh = a.fresh; hello = a.hello; later = a.later })
    (in_order k a.made l n a.before rest first more)

-- and each mailbox is there still
module _ (files : Files) (b : Meaning) (m n : Moment) (holds : HasBook mail b files) (same : n.outside ≡ m.outside)
    (w : HasEachBox files m.outside.server) where
  one_book : w.book ≡ b
  one_book = one_held mail one_mail_event files w.book b w.holds holds

  pub boxes_behind : AreBoxes (box_names b) n.outside.server
  boxes_behind =
      subst (λ (p : Peer). AreBoxes (box_names b) p.server) (sym same)
      (subst (λ (x : Meaning). AreBoxes (box_names x) m.outside.server) one_book w.boxes)

-- what else ends it is none of the server's
fault_serves : (x : PlayFault) → ComesAnyway x → IsTheServers (status_of_fault x) → ⊥
fault_serves faults.Memory comes bad = bad
fault_serves faults.Disk comes bad = bad
fault_serves faults.Link comes bad = bad
fault_serves (faults.Refused line) comes bad = comes
fault_serves (faults.BadReply why) comes bad = comes
fault_serves (faults.Lacking what) comes bad = comes
fault_serves (faults.Limit which number) comes bad = bad

refusal_serves : (x : Refusal) → IsTheServers (status_of_refusal x) → ⊥
refusal_serves refusals.Disk bad = bad
refusal_serves refusals.Memory bad = bad
refusal_serves refusals.Input bad = bad
refusal_serves refusals.Already bad = bad
refusal_serves (refusals.NotAJournal why) bad = bad
refusal_serves (refusals.Reason reason) bad = bad
refusal_serves refusals.Actions bad = bad
refusal_serves (refusals.Full end) bad = bad
refusal_serves refusals.Generation bad = bad

conflicts_serve : (n : ℕ) → IsTheServers (status_of_conflicts n) → ⊥
conflicts_serve zero bad = bad
conflicts_serve (suc n) bad = bad

module _ (r : Result Played Unfinished) where
  pub opening_serves : (x : Refusal) → IsErrAnd r (λ end. end ≡ ends.Unopened x) → IsTheServers (status_of_play r) → ⊥
  opening_serves x given bad = refusal_serves x (subst (λ (s : Result Played Unfinished). IsTheServers (status_of_play s)) (ended_by r (ends.Unopened x) given) bad)

  pub run_serves : (x : PlayFault) → IsErrAnd r (λ end. end ≡ ends.Stopped x) → ComesAnyway x → IsTheServers (status_of_play r) → ⊥
  run_serves x given comes bad =
      fault_serves x comes (subst (λ (s : Result Played Unfinished). IsTheServers (status_of_play s)) (ended_by r (ends.Stopped x) given) bad)

pub played_serves : (p : Played) → IsTheServers (status_of_play (Ok p)) → ⊥
played_serves p bad = conflicts_serve p.conflicts bad
