-- No action takes effect twice while a command is carried out, and a play that came to its end has settled each, once or with a report.
use Rattle.std.proofs.Common.{◌≡◌, ⊎_elim, ℕ, zero, suc, ◌≤◌, List, [], ◌∷◌, length, slice_get, Option, Some, None, refl, sym, subst, arith, rules}
use Rattle.std.specs.Prelude.{IsSome}
use Rattle.world_traits.specs.Files.{Files, Range, furthest}
use Rattle.world_traits.specs.Links.{Any}
use Rattle.world_traits.specs.Moments.{Moment, MayLeave, Clock, Since}
use Rattle.world_traits.proofs.Images.{image_self}
use Rattle.world_traits.proofs.Keeping.{since_now}
use Rattle.world_traits.proofs.Passing.{since_start, since_then, since_weaker}
use Rattle.world_traits.proofs.Traces.{since_carry}
use Rattle.imap_model.specs.Carrying.{Waiting}
use Rattle.imap_model.specs.Ours.{ours}
use Rattle.imap_model.specs.Talking.{Peer}
use Rattle.imap_model.specs.declared.server.Server.{Server}
use Rattle.mail_base.specs.Account.{Credentials}
use Rattle.mail_base.specs.declared.status.Status.{Status}
use Rattle.mail_base.specs.declared.status.Status.TheVariants as status
use Rattle.action_queue.specs.Book.{Meaning}
use Rattle.action_queue.specs.Queues.{AllSettled}
use Rattle.action_queue.specs.declared.outcome.Outcome.{Outcome}
use Rattle.action_queue.specs.declared.queued.Queued.{Queued}
use Rattle.book_laws.specs.Kept.{Kept, KeptBook}
use Rattle.book_laws.specs.Machine as machine
use Rattle.book_laws.proofs.Twice.{never_twice}
use Rattle.store_core.specs.Mail.{mail}
use Rattle.store_core.specs.Steps.{Firm}
use Rattle.store_core.proofs.MailBook.{one_mail_event}
use Rattle.play_driver.specs.Joining.{AllFair, AnyTwo, Grows, IsFair, Joined}
use Rattle.play_driver.specs.Played.{played}
use Rattle.play_driver.specs.Progress.{IsPlaying, PlayStep, Progresses}
use Rattle.play_driver.proofs.Kept.{kept_books, same_held}
use Rattle.play_driver.proofs.Longer.{in_order}
use Rattle.play_driver.proofs.Parts.{grows, grows_start, since_first, since_second}
use Rattle.mail_top.specs.Connecting.{SameOutside}
use Rattle.mail_top.specs.Course.{Course}
use Rattle.mail_top.specs.Ending.{Ends, EndsPlay}
use Rattle.mail_top.specs.Headline.{AlwaysOwned, Finishes, IsOnceOrReported, IsOwnedNow, NeverTwice, NoneTwice, OnceOrReported, Owns, StaysOnce}
use Rattle.mail_top.specs.KeptNow.{IsKeptNow, StaysKept}
use Rattle.mail_top.specs.Leaving.{KeepsStep}
use Rattle.mail_top.specs.Played.{CameThrough, SaysPlayed}
use Rattle.mail_top.specs.Words.{Request, Play, WritesPlay}
use Rattle.mail_top.proofs.Endings.{ended_as}
use Rattle.mail_top.proofs.Repeated.{outside_same}

reaches : (written : List Range) (n : ℕ) → n ≤ furthest written n
reaches [] n = omega arith
reaches (r ∷ rs) n = omega (arith, reaches rs n)

-- a stop may leave the bytes of the last syncs
synced_left : (m : Moment) → MayLeave m (record { left = m.left.synced; right = m.right.synced })
synced_left m = record {
  left = image_self m.left (reaches m.left.written (length m.left.synced));
  right = image_self m.right (reaches m.right.written (length m.right.synced));
}

book_once : (b : Option Meaning) (s : Server) (w : Option Waiting) → Kept b s w → (n : ℕ) → length (ours n s.history) ≤ 1
book_once b s w kept n =
    let here : machine.State = record { books = machine.Firm b; server = s; waiting = w } in never_twice [] here here refl kept n

-- where the book is kept, no action has taken effect twice
kept_once : (m : Moment) → IsKeptNow m → NoneTwice m
kept_once m kept = let held = kept.each (record { left = m.left.synced; right = m.right.synced }) (synced_left m) in
    book_once held.book m.outside.server m.outside.waiting held.related

-- what is so of a whole time is so up to each of its moments
up_to_each : (k l : Clock) → NeverTwice k l → StaysOnce k l
up_to_each k l never at before after fair = since_first NoneTwice AnyTwo k at l before after never

-- nor does one while what isn't on the disk stays
outside_once : (P : Moment → Type 0) (k l : Clock) → IsKeptNow k.now → Since P SameOutside k l → NeverTwice k l
outside_once P k l kept stays =
    since_weaker (λ m. P m × NoneTwice m) NoneTwice (λ m n. NoneTwice m × SameOutside m n) AnyTwo (λ m p. p.1) (λ m n p. tt) k l
    (since_carry P NoneTwice SameOutside
    (λ m n p same once i. subst (λ (o : Peer). length (ours i o.server.history) ≤ 1) (sym same) (once i)) k (kept_once k.now kept) l stays)

pub still_once : (P : Moment → Type 0) (k l : Clock) → IsKeptNow k.now → Since P SameOutside k l → StaysOnce k l
still_once P k l kept stays = up_to_each k l (outside_once P k l kept stays)

pub nothing_twice : (k : Clock) → StaysOnce k k
nothing_twice k = up_to_each k k (since_start NoneTwice AnyTwo k)

pub request_once : (request : Request) → (request ≡ Play → ⊥) → (P : Moment → Type 0) (k l : Clock) → IsKeptNow k.now →
    Since P (KeepsStep request) k l → StaysOnce k l
request_once request never P k l kept keeps =
    still_once P k l kept
    (since_weaker P P (KeepsStep request) SameOutside (λ m p. p) (λ m n step. outside_same request m n never step.outside) k l keeps)

-- an opening, and what is played behind it
module _ (b : Meaning) (P : Moment → Type 0) (k l n : Clock) (kept : IsKeptNow k.now) (opens : Since P SameOutside k l)
    (goes : Progresses b l n) (stays : StaysKept l n) where
  opened : Grows k l
  opened = grows P SameOutside k l opens

  played_once : (at : Clock) → Grows l at → Grows at n → AllFair mail played k at → NeverTwice k at
  played_once at past left fair =
      since_then NoneTwice AnyTwo k l at (outside_once P k l kept opens)
      (since_weaker IsKeptNow NoneTwice (Joined mail played) AnyTwo kept_once (λ m p s. tt) l at
      (stays at past left (since_second Any (IsFair mail played) k l at opened past fair)))

  pub play_once : StaysOnce k n
  play_once at reach left fair =
      ⊎_elim (λ (past : Grows l at). played_once at past left fair)
      (λ (early : Grows at l). up_to_each k l (outside_once P k l kept opens) at reach early fair)
      (in_order k l at n opened (grows (IsPlaying b) PlayStep l n goes) reach left)

book_owned : (b : Option Meaning) (s : Server) (w : Option Waiting) → Kept b s w → Owns b s.history
book_owned None s w kept = kept.none
book_owned (Some b) s w kept = kept.once.owned

-- where the book is kept, each change is of an action that wants it
pub kept_owned : (m : Moment) → IsKeptNow m → IsOwnedNow m
kept_owned m kept = record {
  each = λ files left b holds.
      let held = kept.each files left in
      let same = same_held mail one_mail_event held.book b files held.holds holds in
      book_owned b m.outside.server m.outside.waiting (subst (λ (o : Option Meaning). Kept o m.outside.server m.outside.waiting) same held.related);
}

pub stays_owned : (k l : Clock) → StaysKept k l → (at : Clock) → Grows k at → Grows at l → AllFair mail played k at → AlwaysOwned k at
stays_owned k l stays at before after fair =
    since_weaker IsKeptNow IsOwnedNow (Joined mail played) AnyTwo kept_owned (λ m n step. tt) k at (stays at before after fair)

-- a play that came to its end
play_finished : (account : Credentials) (k : Course) (s : Status) (text : List ℕ) → SaysPlayed account k s text →
    Finishes k.seen k.seen_after k.new.now
play_finished account k s text says = record {
  entry = says.opened.book;
  read = says.read.holds;
  book = says.store.book;
  holds = says.holds;
  leaves = says.leaves;
  later = says.later;
  settled = says.settled;
}

ended_finished : (account : Credentials) (k : Course) (s : Status) (text : List ℕ) → CameThrough s → EndsPlay account k s text →
    Finishes k.seen k.seen_after k.new.now
ended_finished account k status.Done text came says = play_finished account k status.Done text says
ended_finished account k status.Conflicts text came says = play_finished account k status.Conflicts text says
ended_finished account k status.Output text came says =
    ⊎_elim (play_finished account k status.Done text) (play_finished account k status.Conflicts text) says
ended_finished account k status.Words text came says = absurd came
ended_finished account k status.Disk text came says = absurd came
ended_finished account k status.Link text came says = absurd came
ended_finished account k status.Refused text came says = absurd came
ended_finished account k status.Reply text came says = absurd came
ended_finished account k status.Lacking text came says = absurd came
ended_finished account k status.Validity text came says = absurd came
ended_finished account k status.Journal text came says = absurd came
ended_finished account k status.Reason text came says = absurd came
ended_finished account k status.Memory text came says = absurd came
ended_finished account k status.Limit text came says = absurd came
ended_finished account k status.Input text came says = absurd came
ended_finished account k status.Shelf text came says = absurd came

-- the words ask for nothing else
pub run_finished : (account : Credentials) (words : List (List ℕ)) (input : List ℕ) (k : Course) (s : Status) (text : List ℕ) → WritesPlay words →
    CameThrough s → Ends account words input k s text → Finishes k.seen k.seen_after k.new.now
run_finished account words input k s text asks came ends =
    ended_finished account k s text came
    (ended_as account words input k s text Play asks ends (λ is. absurd (subst CameThrough is came)))

outcome_there : (queue : List Queued) (i : ℕ) (q : Queued) → AllSettled queue → slice_get queue i ≡ Some q → IsSome q.outcome
outcome_there [] i q all there = absurd cc
outcome_there (x ∷ xs) zero q all there = let same : x ≡ q = cc in subst (λ (y : Queued). IsSome y.outcome) same all.0
outcome_there (x ∷ xs) (suc i) q all there = outcome_there xs i q all.1 there

module _ (seen seen_after : Files) (m : Moment) (finished : Finishes seen seen_after m) (kept : IsKeptNow m) where
  now : KeptBook finished.book m.outside.server m.outside.waiting
  now = kept_books mail Kept one_mail_event (Firm (Some finished.book)) m kept finished.leaves

  fits_as : (i : ℕ) (q : Queued) → slice_get finished.book.queue i ≡ Some q → (o : Option Outcome) → q.outcome ≡ o → IsSome o →
      IsOnceOrReported q (ours (suc i) m.outside.server.history)
  fits_as i q there None is some = absurd (search rules)
  fits_as i q there (Some outcome) is some = record { outcome = outcome; ended = is; fits = now.once.settled i q outcome there is }

  -- where the book is kept at the end, each action's changes fit its outcome
  pub once_or_reported : OnceOrReported seen seen_after m
  once_or_reported = record {
    finished = finished;
    owned = now.once.owned;
    each = λ i q there. fits_as i q there q.outcome refl (outcome_there finished.book.queue i q finished.settled there);
  }

-- a run that began with a kept book ends with one
pub kept_last : (k l : Clock) → IsKeptNow k.now → StaysKept k l → AllFair mail played k l → IsKeptNow l.now
kept_last k l kept stays fair =
    since_now IsKeptNow IsKeptNow (Joined mail played) (λ m n here step was. here) k kept l
    (stays l (grows Any (IsFair mail played) k l fair) (grows_start l) fair)
