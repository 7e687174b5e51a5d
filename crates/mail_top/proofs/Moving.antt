-- The moments of the commands: what a stop leaves at each, and how the books go on.
use Rattle.std.proofs.Common.{◌≡◌, inl, inr, ⊎_elim, ℕ, zero, suc, ◌+◌, ◌≤◌, List, Option, Some, None, refl, arith}
use Rattle.world_traits.specs.Files.{Files}
use Rattle.world_traits.specs.Links.{Any}
use Rattle.world_traits.specs.Moments.{Moment, Clock, AtPhase, GoesOn, Since, Within}
use Rattle.world_traits.proofs.Passing.{since_start, since_then, since_weaker}
use Rattle.world_traits.proofs.Keeping.{since_now}
use Rattle.world_traits.proofs.Narrowing.{within_self}
use Rattle.journal_core.specs.declared.version.Version.{Version}
use Rattle.journal_core.specs.declared.version.Version.TheVariants.{First}
use Rattle.action_queue.specs.Book.{Meaning}
use Rattle.action_queue.specs.Events.{AreNames, next_book}
use Rattle.action_queue.specs.declared.action.Action.{Action}
use Rattle.action_queue.specs.declared.event.Event.{Event}
use Rattle.action_queue.specs.declared.event.Event.TheVariants as events
use Rattle.journal_core.specs.Limits.{max_accepted}
use Rattle.store_core.specs.Mail.{mail, MayCome}
use Rattle.store_core.specs.Books.{HasBook, HoldsBook}
use Rattle.store_core.specs.HeldActions.{KeepsActions}
use Rattle.store_core.specs.Steps.{Firm, Begun}
use Rattle.store_core.specs.Taking.{ChoosesStep, HasBooks, IsTaking, Takes, BeginsBehind}
use Rattle.mail_top.specs.Actions.{accepts, next_id}
use Rattle.mail_top.specs.Course.{end_behind}
use Rattle.mail_top.specs.Leaving.{MayBeLeft, OnTheWay, IsDue, StaysOutside, KeepsStep, WordsKeep, RequestStep, WordsStep, KeepsOn, GoesOnBy}
use Rattle.mail_top.specs.Weighing.{Admits}
use Rattle.mail_top.specs.Words.{Wanted, Request, Init, Act, Rows, Queue, Report, Play, Asks}

-- a step of the disk leaves what isn't on it
pub stays_outside : (request : Request) (m n : Moment) → n.outside ≡ m.outside → StaysOutside request m n
stays_outside (Init names) m n same = same
stays_outside (Act wanted) m n same = same
stays_outside (Rows name) m n same = same
stays_outside Queue m n same = same
stays_outside Report m n same = same
stays_outside Play m n same = tt

pub keeps_step : (request : Request) (m n : Moment) → KeepsActions m n → KeepsStep request m n
keeps_step request m n s = record { loses_none = record { held = s.held }; outside = stays_outside request m n s.outside }

pub keeps_steps : (request : Request) (P Q : Moment → Type 0) → ((m : Moment) → P m → Q m) → (k l : Clock) → Since P KeepsActions k l →
    Since Q (KeepsStep request) k l
keeps_steps request P Q pq k l s = since_weaker P Q KeepsActions (KeepsStep request) pq (λ m n step. keeps_step request m n step) k l s

-- the first syncs of a call
pub chooses_step : (request : Request) (m n : Moment) → ChoosesStep mail m n → RequestStep request m n
chooses_step request m n s = record {
  old = s.old;
  new = s.new;
  at_old = s.at_old;
  at_new = s.at_new;
  step = ⊎_elim (λ same. inl same) (λ one. inr (inr (inr one))) s.step;
  outside = stays_outside request m n s.outside;
}

pub chooses_steps : (request : Request) (k l : Clock) → Since Any (ChoosesStep mail) k l → Since Any (RequestStep request) k l
chooses_steps request k l s = since_weaker Any Any (ChoosesStep mail) (RequestStep request) (λ m p. p) (λ m n step. chooses_step request m n step) k l s

-- and those of a book that is told anew
pub anew_steps : (request : Request) (b : Meaning) (k l : Clock) → Since (HasBooks mail (Firm (Some b))) (ChoosesStep mail) k l →
    Since Any (RequestStep request) k l
anew_steps request b k l s = since_weaker (HasBooks mail (Firm (Some b))) Any (ChoosesStep mail) (RequestStep request)
    (λ m p. tt) (λ m n step. chooses_step request m n step) k l s

-- a step by exact phases of an event that is due
module _ (request : Request) (v : Version) (b : Option Meaning) (e : Event) (may : MayCome v b e) (due : IsDue request b e) (m n : Moment)
    (same : n.outside ≡ m.outside) where
  outside : StaysOutside request m n
  outside = stays_outside request m n same

  by_phase : (from to : ℕ) → from ≤ to → to ≤ from + 1 → AtPhase (HoldsBook mail b) (HoldsBook mail (Some (next_book b e))) from m →
      AtPhase (HoldsBook mail b) (HoldsBook mail (Some (next_book b e))) to n → RequestStep request m n
  by_phase zero zero le one p q = record { old = Firm b; new = Firm b; at_old = p; at_new = q; step = inl refl; outside = outside }
  by_phase zero (suc zero) le one p q = record {
    old = Firm b;
    new = Begun b (Some (next_book b e));
    at_old = p;
    at_new = q;
    step =
        inr (inl (record { version = v; event = e; begins = record { book = b; firm = refl; may = may; becomes = refl }; due = due }));
    outside = outside;
  }
  by_phase zero (suc (suc to)) le one p q = absurd (omega arith)
  by_phase (suc zero) zero le one p q = absurd (omega arith)
  by_phase (suc zero) (suc zero) le one p q = record {
    old = Begun b (Some (next_book b e));
    new = Begun b (Some (next_book b e));
    at_old = p;
    at_new = q;
    step = inl refl;
    outside = outside;
  }
  by_phase (suc zero) (suc (suc to)) le one p q = record {
    old = Begun b (Some (next_book b e));
    new = Firm (Some (next_book b e));
    at_old = p;
    at_new = q;
    step =
        inr (inr (inl (record { before = b; later = Some (next_book b e); begun = refl; becomes = refl })));
    outside = outside;
  }
  by_phase (suc (suc from)) zero le one p q = absurd (omega arith)
  by_phase (suc (suc from)) (suc zero) le one p q = absurd (omega arith)
  by_phase (suc (suc from)) (suc (suc to)) le one p q = record {
    old = Firm (Some (next_book b e));
    new = Firm (Some (next_book b e));
    at_old = p;
    at_new = q;
    step = inl refl;
    outside = outside;
  }

-- the moments of an event that is due
pub takes_steps : (request : Request) (v : Version) (b : Option Meaning) (e : Event) → MayCome v b e → IsDue request b e → (k l : Clock) →
    Takes mail b e k l → Since Any (RequestStep request) k l
takes_steps request v b e may due k l t =
    since_weaker (IsTaking mail b e) Any (GoesOn (HoldsBook mail b) (HoldsBook mail (Some (next_book b e)))) (RequestStep request)
    (λ m p. tt) (λ m n s. by_phase request v b e may due m n s.outside s.from s.to s.forward s.one s.at_from s.at_to) k l t

-- a call behind another
pub steps_then : (request : Request) (k l n : Clock) → Since Any (RequestStep request) k l → Since Any (RequestStep request) l n →
    Since Any (RequestStep request) k n
steps_then request k l n a b = since_then Any (RequestStep request) k l n a b

pub steps_none : (request : Request) (k : Clock) → Since Any (RequestStep request) k k
steps_none request k = since_start Any (RequestStep request) k

-- a book that is begun
pub begins_steps : (names : List (List ℕ)) (k l : Clock) → AreNames names → BeginsBehind mail (events.Begin names) k l →
    Since Any (RequestStep (Init names)) k l
begins_steps names k l are b =
    steps_then (Init names) k b.at l (chooses_steps (Init names) k b.at b.chooses)
    (takes_steps (Init names) First None (events.Begin names) are (refl, refl) b.at l b.takes)

module _ (wanted : Wanted) (seen : Files) where
  -- the moments of an opening
  pub opens_adding : (entry : Moment) (k l : Clock) → Since (Within entry) KeepsActions k l →
      Since (MayBeLeft (Act wanted) entry seen) (KeepsStep (Act wanted)) k l
  opens_adding entry k l s = keeps_steps (Act wanted) (Within entry) (MayBeLeft (Act wanted) entry seen) (λ m w. inl (inl w)) k l s

  -- those of a book that is told anew
  pub anew_adding : (entry : Moment) (b : Meaning) → HasBook mail b seen → (k l : Clock) → Since (HasBooks mail (Firm (Some b))) KeepsActions k l →
      Since (MayBeLeft (Act wanted) entry seen) (KeepsStep (Act wanted)) k l
  anew_adding entry b holds k l s =
      keeps_steps (Act wanted) (HasBooks mail (Firm (Some b))) (MayBeLeft (Act wanted) entry seen)
      (λ m here. inl (inr (record { book = b; holds = holds; leaves = here }))) k l s

  -- and those of the action
  pub takes_adding : (entry : Moment) (b : Meaning) (action : Action) → (holds : HasBook mail b seen) → Admits wanted b (next_id b) action →
      end_behind holds (accepts b action) ≤ max_accepted → (k l : Clock) →
      Since (IsTaking mail (Some b) (accepts b action)) KeepsActions k l → Since (MayBeLeft (Act wanted) entry seen) (KeepsStep (Act wanted)) k l
  takes_adding entry b action holds admits room k l s =
      keeps_steps (Act wanted) (IsTaking mail (Some b) (accepts b action)) (MayBeLeft (Act wanted) entry seen)
      (λ m t. inr (record { book = b; holds = holds; action = action; admits = admits; room = room; taking = t })) k l s

  pub adding_then : (entry : Moment) (k l n : Clock) → Since (MayBeLeft (Act wanted) entry seen) (KeepsStep (Act wanted)) k l →
      Since (MayBeLeft (Act wanted) entry seen) (KeepsStep (Act wanted)) l n → Since (MayBeLeft (Act wanted) entry seen) (KeepsStep (Act wanted)) k n
  adding_then entry k l n a b = since_then (MayBeLeft (Act wanted) entry seen) (KeepsStep (Act wanted)) k l n a b

-- what a stop leaves now
pub left_now : (request : Request) (seen : Files) (k l : Clock) → MayBeLeft request k.now seen k.now →
    Since (MayBeLeft request k.now seen) (KeepsStep request) k l →
    MayBeLeft request k.now seen l.now
left_now request seen k l start s =
    since_now (MayBeLeft request k.now seen) (MayBeLeft request k.now seen) (KeepsStep request) (λ m n p step q. p) k start l s

-- at entry a stop leaves what it leaves
pub left_start : (request : Request) (seen : Files) (m : Moment) → MayBeLeft request m seen m
left_start (Init names) seen m = inl (within_self m)
left_start (Act wanted) seen m = inl (inl (within_self m))
left_start (Rows name) seen m = within_self m
left_start Queue seen m = within_self m
left_start Report seen m = within_self m
left_start Play seen m = inl (within_self m)

-- what words and an input ask for
module _ (words : List (List ℕ)) (input : List ℕ) (request : Request) (asks : Asks words input request) where
  pub words_keep : (entry : Moment) (seen : Files) (k l : Clock) → Since (MayBeLeft request entry seen) (KeepsStep request) k l →
      KeepsOn words input entry seen k l
  words_keep entry seen k l s = since_weaker (MayBeLeft request entry seen) (OnTheWay words input entry seen) (KeepsStep request) (WordsKeep words input)
      (λ m p. record { request = request; asks = asks; leaves = p }) (λ m n step. record { request = request; asks = asks; step = step }) k l s

  pub words_go : (k l : Clock) → Since Any (RequestStep request) k l → GoesOnBy words input k l
  words_go k l s = since_weaker Any Any (RequestStep request) (WordsStep words input)
      (λ m p. p) (λ m n step. record { request = request; asks = asks; step = step }) k l s

-- nothing happened
pub nothing_keeps : (words : List (List ℕ)) (input : List ℕ) (entry : Moment) (seen : Files) (k : Clock) → KeepsOn words input entry seen k k
nothing_keeps words input entry seen k = since_start (OnTheWay words input entry seen) (WordsKeep words input) k

pub nothing_goes : (words : List (List ℕ)) (input : List ℕ) (k : Clock) → GoesOnBy words input k k
nothing_goes words input k = since_start Any (WordsStep words input) k

pub left_none : (request : Request) (entry : Moment) (seen : Files) (k : Clock) → Since (MayBeLeft request entry seen) (KeepsStep request) k k
left_none request entry seen k = since_start (MayBeLeft request entry seen) (KeepsStep request) k
