-- No step of a store's calls loses an action, or an outcome, that every image holds.
use Rattle.std.proofs.Common.{◌≡◌, ◌⊎◌, inl, inr, ⊎_elim, ℕ, zero, suc, ◌≤◌, List, [], ◌∷◌, ◌++◌, Option, Some, None, refl, sym, ◌∙◌, ap, subst, arith}
use Rattle.std.specs.Prelude.{slice_get}
use Rattle.world_traits.specs.Files.{Files, file_of}
use Rattle.journal_core.proofs.Choice.{open_head}
use Rattle.world_traits.specs.Moments.{Moment, Images, Occurs, AtPhase, GoesOn, Within}
use Rattle.journal_core.specs.Creating.{IsUnbegun}
use Rattle.action_queue.specs.declared.action.Action.{Action}
use Rattle.action_queue.specs.declared.outcome.Outcome.{Outcome}
use Rattle.action_queue.specs.declared.queued.Queued.{Queued}
use Rattle.action_queue.specs.declared.event.Event.{Event}
use Rattle.action_queue.specs.declared.event.Event.TheVariants as events
use Rattle.action_queue.specs.Queues.{accepted, ended, settled, tried, change_first, change_queued}
use Rattle.action_queue.specs.Book.{Meaning, after}
use Rattle.store_core.specs.Mail.{mail}
use Rattle.store_core.specs.Books.{HasBook}
use Rattle.store_core.specs.HeldActions.{IsNamed, HasAction, HoldsAction, IsHeld, KeepsActions}
use Rattle.store_core.proofs.Folding.{one_held}
use Rattle.store_core.proofs.MailBook.{one_mail_event}

-- an action stays at its place while another one comes behind
more : (queue : List Queued) (x q : Queued) (place : ℕ) → slice_get queue place ≡ Some q → slice_get (queue ++ x ∷ []) place ≡ Some q
more [] x q place there = cc
more (y ∷ ys) x q zero there = there
more (y ∷ ys) x q (suc place) there = more ys x q place there

-- what an action is once the first unsettled one has its outcome
record Stays (queue : List Queued) (place : ℕ) (q : Queued) (named : Option Outcome) : Type 0 where
  now : Queued
  there : slice_get queue place ≡ Some now
  asked : now.action ≡ q.action
  ended : IsNamed named now.outcome

stays_as : (queue : List Queued) (place : ℕ) (q : Queued) (named : Option Outcome) → slice_get queue place ≡ Some q →
    IsNamed named q.outcome → Stays queue place q named
stays_as queue place q named there is = record { now = q; there = there; asked = refl; ended = is }

-- an outcome that isn't there isn't named
unnamed : (named : Option Outcome) (q : Queued) (new : Option Outcome) → q.outcome ≡ None → IsNamed named q.outcome → IsNamed named new
unnamed None q new none is = tt
unnamed (Some o) q new none is = let other : Some o ≡ None = sym is ∙ none in absurd cc

one_some : (x q : Queued) → Some x ≡ Some q → x ≡ q
one_some x q same = cc

settles : (o : Outcome) (queue : List Queued) (place : ℕ) (q : Queued) (named : Option Outcome) → slice_get queue place ≡ Some q →
    IsNamed named q.outcome → Stays (change_first (settled o) queue) place q named
settles o [] place q named there is = absurd cc
settles o (x ∷ xs) place q named there is = by_outcome x.outcome refl place (λ i here. settles o xs i q named here is) there
  where
    by_outcome : (out : Option Outcome) → x.outcome ≡ out → (i : ℕ) →
        ((i : ℕ) → slice_get xs i ≡ Some q → Stays (change_first (settled o) xs) i q named) → slice_get (x ∷ xs) i ≡ Some q →
        Stays (change_queued (settled o) x xs (change_first (settled o) xs) out) i q named
    by_outcome None none zero later here =
        let same : x ≡ q = one_some x q here in
        record {
          now = settled o x;
          there = refl;
          asked = ap (λ (y : Queued). y.action) same;
          ended =
              unnamed named q (Some o) (ap (λ (y : Queued). y.outcome) (sym same) ∙ none) is;
        }
    by_outcome None none (suc i) later here = stays_as (settled o x ∷ xs) (suc i) q named here is
    by_outcome (Some old) some zero later here = stays_as (x ∷ change_first (settled o) xs) zero q named here is
    by_outcome (Some old) some (suc i) later here =
        let s = later i here in
        record { now = s.now; there = s.there; asked = s.asked; ended = s.ended }

-- and once its command was taken back
withdraws : (n : ℕ) (queue : List Queued) (place : ℕ) (q : Queued) (named : Option Outcome) → slice_get queue place ≡ Some q →
    IsNamed named q.outcome → Stays (change_first (tried n) queue) place q named
withdraws n [] place q named there is = absurd cc
withdraws n (x ∷ xs) place q named there is = by_outcome x.outcome refl place (λ i here. withdraws n xs i q named here is) there
  where
    by_outcome : (out : Option Outcome) → x.outcome ≡ out → (i : ℕ) →
        ((i : ℕ) → slice_get xs i ≡ Some q → Stays (change_first (tried n) xs) i q named) → slice_get (x ∷ xs) i ≡ Some q →
        Stays (change_queued (tried n) x xs (change_first (tried n) xs) out) i q named
    by_outcome None none zero later here =
        let same : x ≡ q = one_some x q here in
        record {
          now = tried n x;
          there = refl;
          asked = ap (λ (y : Queued). y.action) same;
          ended = subst (λ (y : Queued). IsNamed named y.outcome) (sym same) is;
        }
    by_outcome None none (suc i) later here = stays_as (tried n x ∷ xs) (suc i) q named here is
    by_outcome (Some old) some zero later here = stays_as (x ∷ change_first (tried n) xs) zero q named here is
    by_outcome (Some old) some (suc i) later here =
        let s = later i here in
        record { now = s.now; there = s.there; asked = s.asked; ended = s.ended }

module _ (place : ℕ) (action : Action) (named : Option Outcome) where
  has_as : (b : Meaning) (q : Queued) → q.action ≡ action → Stays b.queue place q named → HasAction place action named b
  has_as b q asked s = record { queued = s.now; there = s.there; asked = s.asked ∙ asked; ended = s.ended }

  -- the book after an event still has the action
  pub has_later : (b : Meaning) (e : Event) → HasAction place action named b → HasAction place action named (after b e)
  has_later b (events.Begin names) h = h
  has_later b (events.Accept id a) h = record { queued = h.queued; there = more b.queue (accepted a) h.queued place h.there; asked = h.asked; ended = h.ended }
  has_later b (events.Intend id intent) h = record { queued = h.queued; there = h.there; asked = h.asked; ended = h.ended }
  has_later b (events.Settle id outcome) h = has_as (after b (events.Settle id outcome)) h.queued h.asked
      (settles outcome b.queue place h.queued named h.there h.ended)
  has_later b (events.Learn name delta) h = record { queued = h.queued; there = h.there; asked = h.asked; ended = h.ended }
  has_later b (events.Old id a outcome) h = record {
    queued = h.queued;
    there = more b.queue (ended a outcome) h.queued place h.there;
    asked = h.asked;
    ended = h.ended;
  }
  has_later b (events.Reset name kept told) h = record { queued = h.queued; there = h.there; asked = h.asked; ended = h.ended }
  has_later b (events.Withdraw id tries) h = has_as (after b (events.Withdraw id tries)) h.queued h.asked
      (withdraws tries b.queue place h.queued named h.there h.ended)

  -- what is held stands in the book of an image
  pub has_in : (b : Meaning) (m : Moment) → Occurs (HasBook mail b) m → IsHeld place action named m → HasAction place action named b
  has_in b m occurs held =
      let h = held.each occurs.files occurs.leaves in
      subst (HasAction place action named) (sym (one_held mail one_mail_event occurs.files b h.book occurs.has h.holds)) h.has

  pub holds_as : (b : Meaning) (files : Files) → HasAction place action named b → HasBook mail b files → HoldsAction place action named files
  holds_as b files has holds = record { book = b; holds = holds; has = has }

-- what each image of both kinds of files has, by phases
module _ (B A P : Files → Type 0) (m n : Moment) (from_b : Occurs B m → (files : Files) → B files ⊎ A files → P files)
    (from_a : Occurs A m → (files : Files) → A files → P files) where
  by_phases : (from to : ℕ) → from ≤ to → AtPhase B A from m → AtPhase B A to n → Images P n
  by_phases zero zero le p q = record { each = λ files h. from_b p.some files (inl (q.each.each files h)) }
  by_phases zero (suc zero) le p q = record { each = λ files h. from_b p.some files (q.each.each files h) }
  by_phases zero (suc (suc to)) le p q = record { each = λ files h. from_b p.some files (inr (q.each.each files h)) }
  by_phases (suc zero) zero le p q = absurd (omega arith)
  by_phases (suc zero) (suc zero) le p q = record { each = λ files h. from_b p.before files (q.each.each files h) }
  by_phases (suc zero) (suc (suc to)) le p q = record { each = λ files h. from_b p.before files (inr (q.each.each files h)) }
  by_phases (suc (suc from)) zero le p q = absurd (omega arith)
  by_phases (suc (suc from)) (suc zero) le p q = absurd (omega arith)
  by_phases (suc (suc from)) (suc (suc to)) le p q = record { each = λ files h. from_a p.some files (q.each.each files h) }

-- a step of an event
pub takes_keeps : (b : Meaning) (e : Event) (m n : Moment) → GoesOn (HasBook mail b) (HasBook mail (after b e)) m n → KeepsActions m n
takes_keeps b e m n s = record {
  held = λ place action named held.
      by_phases (HasBook mail b) (HasBook mail (after b e)) (HoldsAction place action named) m n
      (λ occurs files either.
      let has = has_in place action named b m occurs held in
      ⊎_elim (λ (old : HasBook mail b files). holds_as place action named b files has old)
      (λ (new : HasBook mail (after b e) files). holds_as place action named (after b e) files
      (has_later place action named b e has) new) either)
      (λ occurs files new. holds_as place action named (after b e) files (has_in place action named (after b e) m occurs held) new)
      s.from s.to s.forward s.at_from s.at_to;
  outside = s.outside;
}

-- where no side was begun no action is held
none_held : (place : ℕ) (action : Action) (named : Option Outcome) (m : Moment) → Occurs IsUnbegun m → IsHeld place action named m → ⊥
none_held place action named m occurs held =
    let h = held.each occurs.files occurs.leaves in
    let held_there = h.holds.holds in
    occurs.has held_there.side (open_head h.holds.version held_there.generation (file_of held_there.side occurs.files) held_there.present.set_up)

-- a step of a creation
pub begins_keeps : (b : Meaning) (m n : Moment) → GoesOn IsUnbegun (HasBook mail b) m n → KeepsActions m n
begins_keeps b m n s = record {
  held = λ place action named held.
      by_phases IsUnbegun (HasBook mail b) (HoldsAction place action named) m n
      (λ occurs files either. absurd (none_held place action named m occurs held))
      (λ occurs files new. holds_as place action named b files (has_in place action named b m occurs held) new)
      s.from s.to s.forward s.at_from s.at_to;
  outside = s.outside;
}

-- fewer images hold no less
pub within_keeps_actions : (m n : Moment) → Within m n → KeepsActions m n
within_keeps_actions m n w = record { held = λ place action named held. record { each = λ files h. held.each files (w.each files h) }; outside = w.outside }
