-- What is so of a run that records truly is so up to each moment on its way.
use Rattle.std.proofs.Common.{◌≡◌, ◌⊎◌, inl, inr, ⊎_elim, List, [], ◌∷◌, Some, sym, subst}
use Rattle.imap_model.specs.Talking.{Connecting}
use Rattle.world_traits.specs.Files.{Files}
use Rattle.world_traits.specs.Links.{Any, LinkStep, Linked}
use Rattle.world_traits.specs.Moments.{Moment, Clock, Since, Images, GoesOn, Chain, grow}
use Rattle.world_traits.proofs.Keeping.{since_now}
use Rattle.world_traits.proofs.Passing.{since_start}
use Rattle.action_queue.specs.Book.{Meaning, after}
use Rattle.action_queue.specs.declared.event.Event.{Event}
use Rattle.store_core.specs.Mail.{mail}
use Rattle.store_core.specs.Books.{HoldsBook}
use Rattle.store_core.specs.Steps.{Firm}
use Rattle.store_core.specs.Taking.{HasBooks}
use Rattle.play_driver.specs.Joining.{AnyTwo, Grows}
use Rattle.play_driver.specs.Questioning.{RunStep}
use Rattle.play_driver.specs.TrueRecords.{BookRests, IsTrueBefore, IsTrueSince}
use Rattle.play_driver.specs.TrueRecords.IsTrueSince.{enters, records, rests}
use Rattle.play_driver.proofs.Links.{books_there}
use Rattle.play_driver.proofs.Longer.{in_order}
use Rattle.play_driver.proofs.Parts.{grows, grows_start, grows_then, since_first}
use Rattle.mail_top.specs.Connecting.{SameOutside}
use Rattle.mail_top.specs.Readying.{LeavesRead}
use Rattle.mail_top.specs.TruePlay.{OpensBook, PlaysTruly}
use Rattle.mail_top.specs.TruePlay.PlaysTruly.{unready, recorded, cut}

-- each stop leaves this book
abbrev Leaves : Meaning → Moment → Type 0
Leaves b m = HasBooks mail (Firm (Some b)) m

-- the link's calls leave the book
linked_leaves : (b : Meaning) (k l : Clock) → Linked Connecting k l → Leaves b k.now → Leaves b l.now
linked_leaves b k l s start =
    since_now Any (Leaves b) (LinkStep Connecting) (λ m n any step here. books_there Connecting m n step mail (Firm (Some b)) here) k start l s

-- what was recorded since the connection was made came behind it
pub true_grows : (entry : Meaning) (made now : Clock) (b : Meaning) → IsTrueSince entry made now b → Grows made now
true_grows entry made now b enters = grows_start made
true_grows entry made now b (rests at later same truly still) =
    grows_then made at later (true_grows entry made at same truly) (grows (Leaves same) AnyTwo at later still)
true_grows entry made now b (records at later before event truly reason takes) =
    grows_then made at later (true_grows entry made at before truly)
    (grows (Images (λ files. HoldsBook mail (Some before) files ⊎ HoldsBook mail (Some (after before event)) files))
    (GoesOn (HoldsBook mail (Some before)) (HoldsBook mail (Some (after before event)))) at later takes)

-- since the connection was made
module _ (entry : Meaning) (made : Clock) (start : Leaves entry made.now) where
  -- all up to this clock was recorded truly, and each stop leaves the last book; or an event that had its reason is being recorded
  abbrev SoFar : Clock → Type 0
  SoFar at = ((b : Meaning) × IsTrueSince entry made at b × Leaves b at.now) ⊎ ((event : Event) × (b : Meaning) × IsTrueBefore event entry b made at)

  -- where the book rests from an earlier clock on
  rests_so : (mid at : Clock) (b : Meaning) → IsTrueSince entry made mid b → (SoFar mid) → (added : List Moment) → at ≡ grow mid added →
      Chain (Leaves b) AnyTwo mid added → BookRests b mid at → SoFar at
  rests_so mid at b truly so_far [] same each still = subst SoFar (sym same) so_far
  rests_so mid at b truly so_far (m ∷ ms) same each still =
      inl (b, rests mid at b truly still, subst (λ (c : Clock). Leaves b c.now) (sym same) each.0)

  so_far : (now : Clock) (b : Meaning) → IsTrueSince entry made now b → (at : Clock) → Grows made at → Grows at now → SoFar at
  so_far now b enters at reach left =
      let still = since_first (Leaves entry) AnyTwo made at made reach left (since_start (Leaves entry) AnyTwo made) in
      inl (entry, rests made at entry enters still, since_now (Leaves entry) (Leaves entry) AnyTwo (λ m n here step before. here) made start at still)
  so_far now b (rests mid later same truly still) at reach left =
      let begun = true_grows entry made mid same truly in
      ⊎_elim (λ (early : Grows at mid). so_far mid same truly at reach early)
      (λ (past : Grows mid at).
      let front = since_first (Leaves same) AnyTwo mid at later past left still in
      rests_so mid at same truly (so_far mid same truly mid begun (grows_start mid)) front.added front.grown front.each front)
      (in_order made at mid later reach left begun (grows (Leaves same) AnyTwo mid later still))
  so_far now b (records mid later before event truly reason takes) at reach left =
      let begun = true_grows entry made mid before truly in
      ⊎_elim (λ (early : Grows at mid). so_far mid before truly at reach early)
      (λ (past : Grows mid at).
      inr (
        event,
        before,
        record {
          at = mid;
          so_far = truly;
          truly = reason;
          takes = since_first (Images (λ files. HoldsBook mail (Some before) files ⊎ HoldsBook mail (Some (after before event)) files))
              (GoesOn (HoldsBook mail (Some before)) (HoldsBook mail (Some (after before event)))) mid at later past left takes;
        },
      ))
      (in_order made at mid later reach left begun
      (grows (Images (λ files. HoldsBook mail (Some before) files ⊎ HoldsBook mail (Some (after before event)) files))
      (GoesOn (HoldsBook mail (Some before)) (HoldsBook mail (Some (after before event)))) mid later takes))

-- a run that recorded truly, or whose disk failed in a record, up to a clock behind its opening
module _ (seen : Files) (old : Clock) (entry : Meaning) (opened : Clock) (opens : OpensBook entry seen old opened) (made new : Clock)
    (connects : Linked Connecting opened made) (behind : Since Any RunStep made new) where
  -- as it makes its connection
  connecting : (at : Clock) → Grows opened at → Grows at made → PlaysTruly seen old at
  connecting at past left =
      let front = since_first Any (LinkStep Connecting) opened at made past left connects in
      recorded entry entry opened opens (record { made = at; connects = front; behind = since_start Any RunStep at; truly = enters })
      (linked_leaves entry opened at front opens.leaves)

  -- and behind that
  connected : (at : Clock) → Grows made at → Grows at new → SoFar entry made (linked_leaves entry opened made connects opens.leaves) at →
      PlaysTruly seen old at
  connected at past left (inl (b, truly, leaves)) =
      recorded entry b opened opens
      (record { made = made; connects = connects; behind = since_first Any RunStep made at new past left behind; truly = truly }) leaves
  connected at past left (inr (event, b, before)) =
      cut entry b opened opens
      (record { event = event; made = made; connects = connects; behind = since_first Any RunStep made at new past left behind; truly = before })

  by_time : (at : Clock) → Grows old opened → Grows old at → Grows at new →
      ((past : Grows made at) → SoFar entry made (linked_leaves entry opened made connects opens.leaves) at) → PlaysTruly seen old at
  by_time at begun reach left so =
      let joined = grows Any (LinkStep Connecting) opened made connects in
      let talks = grows Any RunStep made new behind in
      let run = grows_then opened made new joined talks in
      ⊎_elim (λ (early : Grows at opened). unready (since_first (LeavesRead old.now seen) SameOutside old at opened reach early opens.opens))
      (λ (past : Grows opened at).
      ⊎_elim (λ (early : Grows at made). connecting at past early) (λ (later : Grows made at). connected at later left (so later))
      (in_order opened at made new past left joined talks))
      (in_order old at opened new reach left begun run)

pub true_so_far : (seen : Files) (old at new : Clock) → PlaysTruly seen old new → Grows old at → Grows at new → PlaysTruly seen old at
true_so_far seen old at new (unready opens) reach left = unready (since_first (LeavesRead old.now seen) SameOutside old at new reach left opens)
true_so_far seen old at new (recorded entry b opened opens truly leaves) reach left =
    by_time seen old entry opened opens truly.made new truly.connects truly.behind at (grows (LeavesRead old.now seen) SameOutside old opened opens.opens) reach left
    (λ past. so_far entry truly.made (linked_leaves entry opened truly.made truly.connects opens.leaves) new b truly.truly at past left)
true_so_far seen old at new (cut entry b opened opens stops) reach left =
    let start = linked_leaves entry opened stops.made stops.connects opens.leaves in
    let takes = stops.truly.takes in
    by_time seen old entry opened opens stops.made new stops.connects stops.behind at (grows (LeavesRead old.now seen) SameOutside old opened opens.opens) reach left
    (λ past.
    so_far entry stops.made start new (after b stops.event) (records stops.truly.at new b stops.event stops.truly.so_far stops.truly.truly takes) at past left)
