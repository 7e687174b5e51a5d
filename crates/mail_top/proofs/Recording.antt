-- The action that a book takes is recorded.
use Rattle.std.proofs.Common.{◌≡◌, ⊎_elim, ℕ, ◌≤◌, ◌<◌, Some, Result, Ok, Err, refl, sym, ◌∙◌, ap, subst, arith}
use Rattle.std.proofs.lemmas.Bool.Decides.{leb_tells}
use Rattle.std.specs.Prelude.{true, false, nat_le, IsErr}
use Rattle.mail_base.specs.Lines.{accepted}
use Rattle.world_traits.specs.Files.{Files}
use Rattle.world_traits.specs.LinkState.{LinkState}
use Rattle.world_traits.specs.Links.{Any}
use Rattle.world_traits.specs.Moments.{Moment, Clock, Since}
use Rattle.journal_core.specs.Appending.{told_end}
use Rattle.journal_core.specs.Limits.{max_accepted}
use Rattle.action_queue.specs.Book.{Meaning, after}
use Rattle.action_queue.specs.declared.action.Action.{Action}
use Rattle.action_queue.specs.declared.event.Event.{Event}
use Rattle.action_queue.specs.declared.event.Event.TheVariants as events
use Rattle.store_core.specs.Mail.{mail, MayCome}
use Rattle.store_core.specs.Books.{HasBook}
use Rattle.store_core.specs.HeldActions.{KeepsActions}
use Rattle.store_core.specs.Holding.{Holding, IsAsLeft}
use Rattle.store_core.specs.Room.{end_after}
use Rattle.journal_core.specs.declared.version.Version.{Version}
use Rattle.store_core.specs.Steps.{Firm}
use Rattle.store_core.specs.Taking.{HasBooks, IsTaking, Takes}
use Rattle.store_core.specs.declared.fault.CommitFault.{CommitFault}
use Rattle.store_core.specs.declared.fault.CommitFault.TheVariants as commits
use Rattle.store_core.proofs.Choosing.{only_left}
use Rattle.mail_top.specs.Saying.{SaysAccepted}
use Rattle.mail_top.specs.Actions.{next_id, accepts}
use Rattle.mail_top.specs.Course.{Course, end_behind}
use Rattle.mail_top.specs.Leaving.{MayBeLeft, KeepsStep, RequestStep}
use Rattle.mail_top.specs.Weighing.{Admits}
use Rattle.mail_top.specs.Words.{Wanted, Act}
use Rattle.mail_top.proofs.Moving.{takes_adding, takes_steps, left_none}
use Rattle.mail_top.specs.Takeover.{taken_over}
use Rattle.mail_top.proofs.Openings.{opened_book, recorded}
use Rattle.mail_top.proofs.Takeovers.{end_taken}
use Rattle.mail_top.proofs.Admitting.{may_accept}

not_below : (m n : ℕ) → (m < n → ⊥) → n ≤ m
not_below m n not = ⊎_elim (λ (yes : (nat_le n m ≡ true) × (n ≤ m)). yes.1) (λ (no : (nat_le n m ≡ false) × (m < n)). absurd (not no.1)) (leb_tells n m)

-- the number under which it was recorded
pub told_as : (wanted : Wanted) (k : Course) (n m : ℕ) → m ≡ n → SaysAccepted wanted k (accepted n) → SaysAccepted wanted k (accepted m)
told_as wanted k n m same said = subst (λ (i : ℕ). SaysAccepted wanted k (accepted i)) (sym same) said

-- the event of an action that a book takes may come next
pub may_event : (v : Version) (wanted : Wanted) (b : Meaning) (id : ℕ) (action : Action) → Admits wanted b id action →
    MayCome v (Some b) (events.Accept id action)
may_event v wanted b id action takes = subst (λ (n : ℕ). MayCome v (Some b) (events.Accept n action)) (sym takes.number) (may_accept v wanted b id action takes)

-- a store that wasn't changed stands as it stood
pub stands_as : {W : Type 0} (clock : W → Clock) (seen : W → Files) (store : Holding mail) (old new : W) → new ≡ old →
    IsAsLeft mail store (clock old).now (seen old) → IsAsLeft mail store (clock new).now (seen new)
stands_as {W} clock seen store old new same left = subst (λ (w : W). IsAsLeft mail store (clock w).now (seen w)) (sym same) left

-- a store that was opened on the files, whose book takes the action; and the one that it is taken over as
module _ (wanted : Wanted) (store later : Holding mail) (m : Moment) (seen files : Files) (left : IsAsLeft mail store m seen) (same : seen ≡ files)
    (taken : later ≡ taken_over store) (book : later.book ≡ store.book) (id : ℕ) (action : Action) (admits : Admits wanted store.book id action) where
  abbrev event : Event
  event = events.Accept id action

  event_is : event ≡ accepts store.book action
  event_is = ap (λ (n : ℕ). events.Accept n action) admits.number

  abbrev holds : HasBook mail store.book files
  holds = opened_book store m seen files left same

  -- the number is the next one
  admits_next : Admits wanted store.book (next_id store.book) action
  admits_next = record { free = admits.free; few = admits.few; number = refl; is = admits.is }

  end_here : end_behind holds (accepts store.book action) ≡ end_after event later
  end_here = ap (λ (e : Event). end_behind holds e) (sym event_is) ∙ end_taken store m seen files left same later taken book event

  -- What it leaves on the way; where there is no room nothing changes.
  pub event_keeps : (entry : Moment) {W : Type 0} (clock : W → Clock) (old new : W) → (max_accepted < end_after event later → new ≡ old) →
      Since (IsTaking mail (Some later.book) event) KeepsActions (clock old) (clock new) →
      Since (MayBeLeft (Act wanted) entry files) (KeepsStep (Act wanted)) (clock old) (clock new)
  event_keeps entry {W} clock old new unchanged s =
      ⊎_elim (λ (yes : (nat_le (end_after event later) max_accepted ≡ true) × (end_after event later ≤ max_accepted)).
      takes_adding wanted files entry store.book action holds admits_next (omega (arith, yes.1, end_here)) (clock old) (clock new)
      (subst (λ (e : Event). Since (IsTaking mail (Some store.book) e) KeepsActions (clock old) (clock new)) event_is
      (subst (λ (b : Meaning). Since (IsTaking mail (Some b) event) KeepsActions (clock old) (clock new)) book s)))
      (λ (no : (nat_le (end_after event later) max_accepted ≡ false) × (max_accepted < end_after event later)).
      subst (λ (w : W). Since (MayBeLeft (Act wanted) entry files) (KeepsStep (Act wanted)) (clock old) (clock w)) (sym (unchanged no.1))
      (left_none (Act wanted) entry files (clock old)))
      (leb_tells (end_after event later) max_accepted)

  pub event_steps : (k l : Clock) → Takes mail (Some later.book) event k l → Since Any (RequestStep (Act wanted)) k l
  event_steps k l t =
      takes_steps (Act wanted) later.journal.version (Some store.book) event (may_event later.journal.version wanted store.book id action admits)
      (action, admits_next, event_is) k l (subst (λ (b : Meaning). Takes mail (Some b) event k l) book t)

  -- where it has no room
  pub event_full : {S : Type 0} (r : Result S CommitFault) (told : ℕ) →
      (max_accepted < end_after event later → r ≡ Err (commits.Full told (told_end (end_after event later)))) →
      ((end wanted : ℕ) → r ≡ Err (commits.Full end wanted) → max_accepted < end_after event later) → (end wanted : ℕ) → r ≡ Err (commits.Full end wanted) →
      (max_accepted < end_behind holds (accepts store.book action)) × (wanted ≡ told_end (end_behind holds (accepts store.book action)))
  event_full {S} r told over full end wanted is =
      let past = full end wanted is in
      let also : Err (commits.Full end wanted) ≡ Err (commits.Full told (told_end (end_after event later))) = sym is ∙ over past in
      let wanted_is : wanted ≡ told_end (end_after event later) = cc also in
      (omega (arith, past, end_here), wanted_is ∙ ap told_end (sym end_here))

  -- and where it is recorded
  pub event_recorded : (old new : Clock) (seen_after : Files) (link link_after : LinkState) (last : Holding mail) → last.book ≡ after later.book event →
      IsAsLeft mail last new.now seen_after → (max_accepted < end_after event later → ⊥) →
      SaysAccepted wanted (record { old = old; new = new; seen = files; seen_after = seen_after; link = link; link_after = link_after }) (accepted id)
  event_recorded old new seen_after link link_after last recorded_is stands fits =
      recorded wanted (record { old = old; new = new; seen = files; seen_after = seen_after; link = link; link_after = link_after })
      store.book id action holds admits
      (omega (arith, not_below max_accepted (end_after event later) fits, end_here))
      (subst (λ (e : Event). HasBooks mail (Firm (Some (after store.book e))) new.now) event_is
      (subst (λ (b : Meaning). HasBooks mail (Firm (Some (after b event))) new.now) book
      (subst (λ (b : Meaning). HasBooks mail (Firm (Some b)) new.now) recorded_is (only_left mail last new.now seen_after stands))))

-- A call that has no room fails by that alone, and so changes nothing.
pub no_room : {S P : Type 0} (r : Result S CommitFault) (end wanted : ℕ) → r ≡ Err (commits.Full end wanted) →
    (IsErr r → (r ≡ Err commits.Disk → ⊥) → P) → P
no_room (Ok x) end wanted is kept = absurd (cc is)
no_room (Err fault) end wanted is kept = kept refl (λ disk. absurd (cc (is, disk)))
