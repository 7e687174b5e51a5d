-- An event that is needed is recorded, and a connection begins.
use Rattle.action_queue.specs.Book.{Meaning, after, cache_at, learned, put_cache}
use Rattle.action_queue.proofs.Queueing.{due_try}
use Rattle.action_queue.specs.Queues.{change_first, due, due_action, settled, tried, tries_due}
use Rattle.action_queue.specs.declared.action.Action.{Action}
use Rattle.action_queue.specs.declared.book.Known.{Known}
use Rattle.action_queue.specs.declared.event.Event.{Event}
use Rattle.action_queue.specs.declared.intent.Intent.{Intent}
use Rattle.action_queue.specs.declared.outcome.Outcome.{Outcome}
use Rattle.action_queue.specs.declared.queued.Queued.{Queued}
use Rattle.imap_model.specs.Carrying.{Waiting}
use Rattle.imap_model.specs.Ours.{ours}
use Rattle.imap_model.specs.declared.server.Server.{Server}
use Rattle.mailbox_cache.specs.declared.cache.Cache.{Cache}
use Rattle.mailbox_cache.specs.declared.delta.Delta.{Delta}
use Rattle.mailbox_cache.specs.declared.row.Row.{Row}
use Rattle.playback.proofs.Allowing.{allowed_need}
use Rattle.playback.proofs.Moments.{since_same}
use Rattle.playback.proofs.Onward.{IsIdle, Settles, ended_settles, idle, rest_now}
use Rattle.playback.proofs.Placed.{intend_placed}
use Rattle.book_laws.proofs.Queueing.{due_settle}
use Rattle.playback.proofs.Trying.{tries_tried}
use Rattle.playback.specs.Allowed.{IsAllowed, Records}
use Rattle.playback.specs.Choosing.{IsEntered, begun_with, committed, counted, told_after}
use Rattle.playback.specs.Course.{Course}
use Rattle.book_laws.specs.InBox.{InBox}
use Rattle.book_laws.specs.Kept.{KeptBook}
use Rattle.playback.specs.Knows.{Came, IsLearning, IsResting, IsTold, IsUnsent, Knows, Learning, OfAppend, Rests}
use Rattle.playback.specs.Needs.{IsBeside, IsNextBox, IsPlaced, IsPlain, MayEnd, again, due_id, need_for, need_of}
use Rattle.book_laws.specs.Open.{Open, PutFacts}
use Rattle.book_laws.specs.Sound.{IsSound}
use Rattle.playback.specs.Steps.{step_of}
use Rattle.playback.specs.Why.{RowNotSo, RowWas, SomeRow, TellsNext, WasSelected, WhyIntent, is_open}
use Rattle.playback.specs.Worlds.{LeadsTo, World, begins}
use Rattle.playback.specs.declared.finding.Finding.{Finding}
use Rattle.playback.specs.declared.finding.Resynced.{Resynced}
use Rattle.playback.specs.declared.need.Need.{Need}
use Rattle.playback.specs.declared.player.Player.{Player}
use Rattle.playback.specs.declared.step.Step.{Step}
use Rattle.std.proofs.Common.{Bool, List, None, Option, Some, [], ap, arith, false, inl, inr, length, refl, subst, suc, sym, true, ℕ}
use Rattle.std.proofs.Common.{⊎_elim, ◌+◌, ◌<◌, ◌∙◌, ◌∷◌, ◌≡◌, ◌≤◌, ◌⊎◌}
use Rattle.std.proofs.lemmas.Bool.{and_from, and_left, and_parts, and_right, both_ways, cond_both, eq-eqb, eqb-true, ltb-false, ltb-true, ne_eqb}
use Rattle.std.proofs.lemmas.Option.{none-some, same_Some}
use Rattle.std.specs.Option.{is_some}
use Rattle.std.specs.Prelude.{bytes_eq, nat_lt, ◌&&◌, ◌==◌}
use Rattle.std.specs.declared.alloc.Global.{Global}
use Rattle.action_queue.specs.declared.event.Event.TheVariants as events
use Rattle.playback.specs.declared.finding.Finding.TheVariants as findings
use Rattle.action_queue.specs.declared.intent.Intent.TheVariants as intents
use Rattle.playback.specs.declared.need.Need.TheVariants as needs
use Rattle.playback.specs.declared.step.Step.TheVariants as steps
use Rattle.playback.proofs.Recorded.{IsRecorded, recorded}

-- the player behind an intent or an outcome
abbrev plainly : Player → Meaning → Player
plainly p b = record p { told = findings.Nothing; resumed = p.resumed && is_some b.pending; learns = None }

plainly_is : (p : Player) (b : Meaning) → p.learns ≡ None → committed p b ≡ plainly p b
plainly_is p b e =
    ap (λ (learns : Option Resynced). record p {
      told = told_after learns p.told;
      resumed = p.resumed && is_some b.pending;
      learns = None;
      resynced = counted learns (due_action b.queue) (length b.boxes) p.resynced;
    }) e

-- a book with the same queue
was_book : (P : Action → Option Row → Type 0) (b : Meaning) (pending : Option Intent) (c : Course) → RowWas P b c →
    RowWas P (record b { pending = pending }) c
was_book P b pending c o = record { queued = o.queued; there = o.there; holds = o.holds }

why_book : (intent : Intent) (b : Meaning) (pending : Option Intent) (c : Course) → WhyIntent intent b c →
    WhyIntent intent (record b { pending = pending }) c
why_book (intents.Store name validity uid modseq) b pending c i = was_book (RowNotSo (λ k. k ≡ modseq)) b pending c i
why_book (intents.Shift from validity uid to) b pending c i = was_book SomeRow b pending c i
why_book (intents.Put to validity uidnext) b pending c i = i

-- a book with the same queue and the same intent
pub was_boxes : (P : Action → Option Row → Type 0) (b : Meaning) (boxes : List Known) (c : Course) → RowWas P b c →
    RowWas P (record b { boxes = boxes }) c
was_boxes P b boxes c o = record { queued = o.queued; there = o.there; holds = o.holds }

pub why_boxes : (intent : Intent) (b : Meaning) (boxes : List Known) (c : Course) → WhyIntent intent b c →
    WhyIntent intent (record b { boxes = boxes }) c
why_boxes (intents.Store name validity uid modseq) b boxes c i = was_boxes (RowNotSo (λ k. k ≡ modseq)) b boxes c i
why_boxes (intents.Shift from validity uid to) b boxes c i = was_boxes SomeRow b boxes c i
why_boxes (intents.Put to validity uidnext) b boxes c i = i

pub append_boxes : (P : List ℕ → List ℕ → Type 0) (b : Meaning) (boxes : List Known) → OfAppend P b → OfAppend P (record b { boxes = boxes })
append_boxes P b boxes x = record {
  queued = x.queued;
  there = x.there;
  to = x.to;
  flags = x.flags;
  text = x.text;
  id = x.id;
  action = x.action;
  holds = x.holds;
}

told_boxes : (told : Finding) (b : Meaning) (boxes : List Known) (c : Course) → IsPlain told → IsTold told b c →
    IsTold told (record b { boxes = boxes }) c
told_boxes findings.Nothing b boxes c plain i = tt
told_boxes findings.NoRow b boxes c plain i = absurd plain
told_boxes (findings.Row modseq so) b boxes c plain i = absurd plain
told_boxes findings.Barred b boxes c plain i = absurd plain
told_boxes (findings.Ended outcome) b boxes c plain i = absurd plain
told_boxes (findings.Next validity uidnext) b boxes c plain i =
    append_boxes (λ to id. WasSelected to (TellsNext validity uidnext) c) b boxes i
told_boxes (findings.Candidates uids) b boxes c plain i = absurd plain
told_boxes (findings.Probed verdict) b boxes c plain i = absurd plain

rests_boxes : (told : Finding) (resumed : Bool) (b : Meaning) (boxes : List Known) (w : World) → IsPlain told → Rests told resumed b w →
    Rests told resumed (record b { boxes = boxes }) w
rests_boxes findings.Nothing resumed b boxes w plain u = record { same = u.same; none = u.none; holds = tt }
rests_boxes findings.NoRow resumed b boxes w plain u = absurd plain
rests_boxes (findings.Row modseq so) resumed b boxes w plain u = absurd plain
rests_boxes findings.Barred resumed b boxes w plain u = absurd plain
rests_boxes (findings.Ended outcome) resumed b boxes w plain u = absurd plain
rests_boxes (findings.Next validity uidnext) resumed b boxes w plain u = record {
  same = u.same;
  none = u.none;
  holds = append_boxes (λ to id. InBox (PutFacts id uidnext validity []) to validity w.course.now.boxes) b boxes u.holds;
}
rests_boxes (findings.Candidates uids) resumed b boxes w plain u = absurd plain
rests_boxes (findings.Probed verdict) resumed b boxes w plain u = absurd plain

and_true : (x : Bool) → (x && true) ≡ x
and_true true = refl
and_true false = refl

-- an intent is there, or none
none_apart : (o : Option Intent) → is_some o ≡ false → o ≡ None
none_apart None = λ f. refl
none_apart (Some intent) = λ f. absurd (cc)

none_false : (o : Option Intent) → o ≡ None → is_some o ≡ false
none_false None = λ n. refl
none_false (Some intent) = λ n. absurd (cc)

-- with an intent that is to be recorded no command was sent
rests_intends : (p : Player) (b : Meaning) (w : World) (intent : Intent) (told : Finding) → p.learns ≡ None → p.told ≡ told →
    step_of p b ≡ steps.Intend intent → Rests told p.resumed b w → IsUnsent told p.resumed b w
rests_intends p b w intent findings.Nothing l e step r = r
rests_intends p b w intent findings.NoRow l e step r = r
rests_intends p b w intent (findings.Row modseq so) l e step r = r
rests_intends p b w intent findings.Barred l e step r = r
rests_intends p b w intent (findings.Ended outcome) l e step r =
    let s : Settles (step_of p b) = ended_settles p b w outcome l e r in
    let h : steps.Settle s.0 ≡ steps.Intend intent = sym s.1 ∙ step in absurd (cc)
rests_intends p b w intent (findings.Next validity uidnext) l e step r = r
rests_intends p b w intent (findings.Candidates uids) l e step r = r
rests_intends p b w intent (findings.Probed verdict) l e step r = r

module _ (p : Player) (b : Meaning) (w : World) (kept : KeptBook b w.course.now w.waiting) (o : w.owed ≡ None)
    (allowed : IsAllowed (need_of p b) p b w) (known : Knows p b w) where
  rest : IsIdle p b w
  rest = idle p b w o known

  came_rest : (r : Player) (c : Meaning) → IsResting r c w → Came w.owed w.waiting r c w
  came_rest r c x = subst (λ (y : Option Waiting). Came y w.waiting r c w) (sym o) (rest_now r c w w.waiting rest.waiting x)

  intended : (intent : Intent) → p.learns ≡ None → step_of p b ≡ steps.Intend intent → b.pending ≡ None →
      Knows (plainly p (after b (events.Intend (due_id b) intent))) (after b (events.Intend (due_id b) intent)) w
  intended intent l step free =
      let here : need_of p b ≡ needs.Commit (events.Intend (due_id b) intent) = ap (λ (x : Step). need_for x p b) step in
      let ok : IsAllowed (needs.Commit (events.Intend (due_id b) intent)) p b w = subst
      (λ (need : Need). IsAllowed need p b w) here allowed in
      let unsent : IsUnsent p.told p.resumed b w = rests_intends p b w intent p.told l refl step rest.resting.rests in
      record {
        course = known.course;
        since = known.since;
        valid = known.valid;
        fresh = λ e. absurd (cc);
        meant = λ r other e.
            subst (λ (x : Intent). WhyIntent x (after b (events.Intend (due_id b) intent)) w.course) (same_Some intent other e)
            (why_book intent b (Some intent) w.course ok.1);
        placed = λ r other e.
            subst (λ (x : Intent). IsPlaced x p) (same_Some intent other e) (intend_placed p b intent p.learns step);
        resumed = λ r. absurd (both_ways p.resumed (known.fresh free) (and_parts p.resumed true r).0);
        told = tt;
        learns = tt;
        came = came_rest (plainly p (after b (events.Intend (due_id b) intent))) (after b (events.Intend (due_id b) intent)) (record {
          selected = rest.resting.selected;
          rests = record { same = unsent.same; none = λ r. kept.once.idle free; holds = tt };
        });
      }

  -- behind an outcome, or a try that was taken back, no intent is pending, and the action that is due has no deed
  ended_known : (c : Meaning) → c.pending ≡ None → KeptBook c w.course.now w.waiting → Knows (plainly p c) c w
  ended_known c free later =
      let none : ours (due_id c) w.course.now.history ≡ [] = later.once.idle free in
      let off : (p.resumed && is_some c.pending) ≡ false = and_right p.resumed (is_some c.pending) (none_false c.pending free) in
      record {
        course = known.course;
        since = known.since;
        valid = known.valid;
        fresh = λ e. off;
        meant = λ r intent e. absurd (none-some intent (sym free ∙ e));
        placed = λ r intent e. absurd (none-some intent (sym free ∙ e));
        resumed = λ r. absurd (both_ways (p.resumed && is_some c.pending) off r);
        told = tt;
        learns = tt;
        came = came_rest (plainly p c) c (record {
          selected = rest.resting.selected;
          rests = record {
            same = λ s a. (known.since s a).grows (due_id c) none ∙ sym none;
            none = λ r. none;
            holds = tt;
          };
        });
      }

  -- a delta is recorded: the caches alone change, and what was told beside it stays
  resumed_is : (pending : Option Intent) → b.pending ≡ pending → (p.resumed && is_some pending) ≡ p.resumed
  resumed_is None e = and_right p.resumed false refl ∙ sym (known.fresh e)
  resumed_is (Some intent) e = and_true p.resumed

  used_knows : (boxes : List Known) (count : ℕ) → IsPlain p.told →
      Knows (record p { learns = None; resynced = count }) (record b { boxes = boxes }) w
  used_knows boxes count plain = record {
    course = known.course;
    since = known.since;
    valid = known.valid;
    fresh = known.fresh;
    meant = λ r intent e. why_boxes intent b boxes w.course (known.meant r intent e);
    placed = known.placed;
    resumed = known.resumed;
    told = told_boxes p.told b boxes w.course plain known.told;
    learns = tt;
    came = came_rest (record p { learns = None; resynced = count }) (record b { boxes = boxes }) (record {
      selected = rest.resting.selected;
      rests = rests_boxes p.told p.resumed b boxes w plain rest.resting.rests;
    });
  }

  learned_known : (told : Resynced) → p.learns ≡ Some told →
      Knows (committed p (after b (events.Learn told.name told.delta))) (after b (events.Learn told.name told.delta)) w
  learned_known told l =
      let boxes : List Known = put_cache told.name (Some (learned (cache_at told.name b.boxes) told.delta)) b.boxes in
      let count : ℕ = counted (Some told) (due_action b.queue) (length boxes) p.resynced in
      let learning : IsLearning told p b w.course.now = subst (λ (x : Option Resynced). Learning x p b w.course.now) l known.learns in
      let is : committed p (after b (events.Learn told.name told.delta)) ≡ record p { learns = None; resynced = count } =
      ap (λ (x : Option Resynced). record p {
        told = told_after x p.told;
        resumed = p.resumed && is_some b.pending;
        learns = None;
        resynced = counted x (due_action b.queue) (length boxes) p.resynced;
      }) l
      ∙ ap (λ (r : Bool). record p { resumed = r; learns = None; resynced = count }) (resumed_is b.pending refl) in
      subst (λ (x : Player). Knows x (after b (events.Learn told.name told.delta)) w) (sym is) (used_knows boxes count learning.plain)

  event_known : (event : Event) → KeptBook (after b event) w.course.now w.waiting → IsRecorded p b event →
      Knows (committed p (after b event)) (after b event) w
  event_known event later (inl x) =
      subst (λ (y : Event). Knows (committed p (after b y)) (after b y) w) (sym x.is)
      (subst (λ (y : Player). Knows y (after b (events.Intend (due_id b) x.intent)) w)
      (sym (plainly_is p (after b (events.Intend (due_id b) x.intent)) x.none)) (intended x.intent x.none x.step x.free))
  event_known event later (inr (inl x)) =
      subst (λ (y : Event). Knows (committed p (after b y)) (after b y) w) (sym x.is)
      (subst (λ (y : Player). Knows y (after b (events.Settle (due_id b) x.outcome)) w)
      (sym (plainly_is p (after b (events.Settle (due_id b) x.outcome)) x.none))
      (ended_known (after b (events.Settle (due_id b) x.outcome)) refl (subst (λ (y : Event). KeptBook (after b y) w.course.now w.waiting) x.is later)))
  event_known event later (inr (inr (inl x))) =
      subst (λ (y : Event). Knows (committed p (after b y)) (after b y) w) (sym x.is) (learned_known x.told x.learns)
  event_known event later (inr (inr (inr x))) =
      subst (λ (y : Event). Knows (committed p (after b y)) (after b y) w) (sym x.is)
      (subst (λ (y : Player). Knows y (after b (events.Withdraw (due_id b) x.next)) w)
      (sym (plainly_is p (after b (events.Withdraw (due_id b) x.next)) x.none))
      (ended_known (after b (events.Withdraw (due_id b) x.next)) refl (subst (λ (y : Event). KeptBook (after b y) w.course.now w.waiting) x.is later)))

-- what the player knows is kept behind a record of what it needs
pub committed_knows : (p : Player) (b c : Meaning) (w : World) (event : Event) → c ≡ after b event → Records (need_of p b) event →
    KeptBook b w.course.now w.waiting → KeptBook c w.course.now w.waiting → w.owed ≡ None → Knows p b w → Knows (committed p c) c w
committed_knows p b c w event is records kept later o known =
    let behind : KeptBook (after b event) w.course.now w.waiting = subst (λ (x : Meaning). KeptBook x w.course.now w.waiting) is later in
    subst (λ (x : Meaning). Knows (committed p x) x w) (sym is)
    (event_known p b w kept o (allowed_need p b w kept o known) known event behind (recorded p b event records))

-- what is to be recorded next may be
ends_plainly : (told : Finding) (b : Meaning) → IsPlain told → MayEnd told b
ends_plainly findings.Nothing b plain = tt
ends_plainly findings.NoRow b plain = absurd plain
ends_plainly (findings.Row modseq so) b plain = absurd plain
ends_plainly findings.Barred b plain = absurd plain
ends_plainly (findings.Ended outcome) b plain = absurd plain
ends_plainly (findings.Next validity uidnext) b plain = tt
ends_plainly (findings.Candidates uids) b plain = absurd plain
ends_plainly (findings.Probed verdict) b plain = absurd plain

ends_after : (learns : Option Resynced) (told : Finding) (b : Meaning) → (is_some learns ≡ true → IsPlain told) →
    MayEnd (told_after learns told) b
ends_after None told b plain = tt
ends_after (Some resynced) told b plain = ends_plainly told b (plain refl)

-- behind a record nothing is to be recorded yet, and the mailboxes were resynchronised in their order
pub next_none : (due_now : Option Queued) (count : ℕ) (boxes : List Known) → IsNextBox due_now None count boxes
next_none None count boxes = tt
next_none (Some q) count boxes = tt

pub put_length : (name : List ℕ) (cache : Option Cache) (boxes : List Known) → length (put_cache name cache boxes) ≡ length boxes
put_length name cache [] = refl
put_length name cache (k ∷ ks) =
    cond_both (bytes_eq k.name name) (record k { cache = cache } ∷ ks) (k ∷ put_cache name cache ks)
    (λ (l : List Known). length l ≡ suc (length ks))
    (λ t. refl) (λ f. ap suc (put_length name cache ks))

counted_within : (told : Resynced) (due_now : Option Queued) (boxes count : ℕ) → count ≤ boxes →
    counted (Some told) due_now boxes count ≤ boxes
counted_within told None boxes count l =
    cond_both (nat_lt count boxes) (count + 1) count (λ (n : ℕ). n ≤ boxes)
    (λ t. let below : count < boxes = ltb-true count boxes t in omega (arith, below)) (λ f. l)
counted_within told (Some q) boxes count l = l

counted_last : (told : Resynced) (due_now : Option Queued) (boxes count : ℕ) → (0 < count → due_now ≡ None) →
    0 < counted (Some told) due_now boxes count → due_now ≡ None
counted_last told None boxes count last l = refl
counted_last told (Some q) boxes count last l = last l

module _ (p : Player) (b : Meaning) (beside : IsBeside p b) where
  beside_plainly : (c : Meaning) → p.learns ≡ None → c.boxes ≡ b.boxes → (0 < p.resynced → due_action c.queue ≡ None) →
      IsBeside (plainly p c) c
  beside_plainly c none boxes last = record {
    learns = tt;
    ends = tt;
    plain = λ t. absurd (cc);
    within = subst (λ (l : List Known). p.resynced ≤ length l) (sym boxes) beside.within;
    last = last;
    next = next_none (due_action c.queue) p.resynced c.boxes;
    fresh = λ n. and_right p.resumed (is_some c.pending) (none_false c.pending n);
    placed = λ outcome is. absurd (cc);
  }

  beside_learned : (told : Resynced) → p.learns ≡ Some told → (boxes : List Known) → length boxes ≡ length b.boxes →
      IsBeside (committed p (record b { boxes = boxes })) (record b { boxes = boxes })
  beside_learned told l boxes same =
      let within : p.resynced ≤ length boxes = subst (λ (n : ℕ). p.resynced ≤ n) (sym same) beside.within in
      record {
        learns = tt;
        ends = ends_after p.learns p.told (record b { boxes = boxes }) beside.plain;
        plain = λ t. absurd (cc);
        within = subst (λ (x : Option Resynced). counted x (due_action b.queue) (length boxes) p.resynced ≤ length boxes) (sym l)
            (counted_within told (due_action b.queue) (length boxes) p.resynced within);
        last =
            subst (λ (x : Option Resynced). 0 < counted x (due_action b.queue) (length boxes) p.resynced → due_action b.queue ≡ None)
            (sym l)
            (counted_last told (due_action b.queue) (length boxes) p.resynced beside.last);
        next = next_none (due_action b.queue) (counted p.learns (due_action b.queue) (length boxes) p.resynced) boxes;
        fresh = λ n. and_right p.resumed (is_some b.pending) (none_false b.pending n);
        placed = λ outcome is intent pending.
            absurd (subst IsPlain (sym (ap (λ (x : Option Resynced). told_after x p.told) l) ∙ is) (beside.plain (ap (λ (x : Option Resynced). is_some x) l)));
      }

  event_beside : (event : Event) → IsRecorded p b event → IsBeside (committed p (after b event)) (after b event)
  event_beside event (inl x) =
      subst (λ (y : Event). IsBeside (committed p (after b y)) (after b y)) (sym x.is)
      (subst (λ (y : Player). IsBeside y (after b (events.Intend (due_id b) x.intent)))
      (sym (plainly_is p (after b (events.Intend (due_id b) x.intent)) x.none))
      (beside_plainly (after b (events.Intend (due_id b) x.intent)) x.none refl beside.last))
  event_beside event (inr (inl x)) =
      subst (λ (y : Event). IsBeside (committed p (after b y)) (after b y)) (sym x.is)
      (subst (λ (y : Player). IsBeside y (after b (events.Settle (due_id b) x.outcome)))
      (sym (plainly_is p (after b (events.Settle (due_id b) x.outcome)) x.none))
      (beside_plainly (after b (events.Settle (due_id b) x.outcome)) x.none refl
      (λ l. let n : due_action b.queue ≡ None = beside.last l in let s : due_action b.queue ≡ Some x.queued = x.there in absurd (cc))))
  event_beside event (inr (inr (inr x))) =
      subst (λ (y : Event). IsBeside (committed p (after b y)) (after b y)) (sym x.is)
      (subst (λ (y : Player). IsBeside y (after b (events.Withdraw (due_id b) x.next)))
      (sym (plainly_is p (after b (events.Withdraw (due_id b) x.next)) x.none))
      (beside_plainly (after b (events.Withdraw (due_id b) x.next)) x.none refl
      (λ l. let n : due_action b.queue ≡ None = beside.last l in let s : due_action b.queue ≡ Some x.queued = x.there in absurd (cc))))
  event_beside event (inr (inr (inl x))) =
      let cache : Option Cache = Some (learned (cache_at x.told.name b.boxes) x.told.delta) in
      subst (λ (y : Event). IsBeside (committed p (after b y)) (after b y)) (sym x.is)
      (beside_learned x.told x.learns (put_cache x.told.name cache b.boxes) (put_length x.told.name cache b.boxes))

pub committed_beside : (p : Player) (b c : Meaning) (event : Event) → c ≡ after b event → Records (need_of p b) event → IsBeside p b →
    IsBeside (committed p c) c
committed_beside p b c event is records beside =
    subst (λ (x : Meaning). IsBeside (committed p x) x) (sym is) (event_beside p b beside event (recorded p b event records))

-- an earlier run's intent, behind a record
and_is : (x y z : Bool) → x ≡ y → (x ≡ true → z ≡ true) → (x && z) ≡ y
and_is true y z e f = f refl ∙ e
and_is false y z e f = e

open_apart : (entry b : Meaning) → due entry.queue < due b.queue → is_open entry b ≡ false
open_apart entry b l =
    and_right (is_some entry.pending) ((due entry.queue == due b.queue) && (tries_due entry.queue == tries_due b.queue))
    (and_left (due entry.queue == due b.queue) (tries_due entry.queue == tries_due b.queue)
    (ne_eqb (due entry.queue) (due b.queue) (λ e. absurd (omega (arith, l, e)))))

open_before : (entry b : Meaning) → tries_due entry.queue < tries_due b.queue → is_open entry b ≡ false
open_before entry b l =
    and_right (is_some entry.pending) ((due entry.queue == due b.queue) && (tries_due entry.queue == tries_due b.queue))
    (and_right (due entry.queue == due b.queue) (tries_due entry.queue == tries_due b.queue)
    (ne_eqb (tries_due entry.queue) (tries_due b.queue) (λ e. absurd (omega (arith, l, e)))))

module _ (entry b : Meaning) (p : Player) (sound : IsSound b) (e : IsEntered entry p b) where
  entered_intend : (id : ℕ) (intent : Intent) →
      IsEntered entry (committed p (after b (events.Intend id intent))) (after b (events.Intend id intent))
  entered_intend id intent = record { same = and_true p.resumed ∙ e.same; further = e.further; tries = e.tries; pending = λ d t s. refl }

  entered_settle : (id : ℕ) (outcome : Outcome) (q : Queued) → due_action b.queue ≡ Some q →
      IsEntered entry (committed p (after b (events.Settle id outcome))) (after b (events.Settle id outcome))
  entered_settle id outcome q there =
      let next : due (change_first (settled outcome) b.queue) ≡ suc (due b.queue) = due_settle outcome b.queue q there sound.rest in
      let further : due entry.queue ≤ due b.queue = e.further in
      let below : due entry.queue < due (change_first (settled outcome) b.queue) = omega (arith, next, further) in
      record {
        same = and_right p.resumed false refl ∙ sym (open_apart entry (after b (events.Settle id outcome)) below);
        further = omega (arith, next, further);
        tries = λ d. absurd (omega (arith, d, below));
        pending = λ d t s. absurd (omega (arith, d, below));
      }

  entered_withdraw : (id next : ℕ) (q : Queued) → due_action b.queue ≡ Some q → next ≡ tries_due b.queue + 1 →
      IsEntered entry (committed p (after b (events.Withdraw id next))) (after b (events.Withdraw id next))
  entered_withdraw id next q there more =
      let same : due (change_first (tried next) b.queue) ≡ due b.queue = due_try next b.queue in
      let tries : tries_due (change_first (tried next) b.queue) ≡ next = tries_tried next b.queue q there in
      by_case (nat_lt (due entry.queue) (due b.queue)) refl same tries
    where
      by_case : (further : Bool) → nat_lt (due entry.queue) (due b.queue) ≡ further → due (change_first (tried next) b.queue) ≡ due b.queue →
          tries_due (change_first (tried next) b.queue) ≡ next →
          IsEntered entry (committed p (after b (events.Withdraw id next))) (after b (events.Withdraw id next))
      by_case true t same tries =
          let below : due entry.queue < due b.queue = ltb-true (due entry.queue) (due b.queue) t in
          let apart : due entry.queue < due (change_first (tried next) b.queue) = omega (arith, below, same) in
          record {
            same = and_right p.resumed false refl ∙ sym (open_apart entry (after b (events.Withdraw id next)) apart);
            further = omega (arith, apart);
            tries = λ d. absurd (omega (arith, d, apart));
            pending = λ d k s. absurd (omega (arith, d, apart));
          }
      by_case false f same tries =
          let reached : due b.queue ≤ due entry.queue = ltb-false (due entry.queue) (due b.queue) f in
          let was : due entry.queue ≡ due b.queue = omega (arith, reached, e.further) in
          let fewer : tries_due entry.queue ≤ tries_due b.queue = e.tries was in
          let before : tries_due entry.queue < tries_due (change_first (tried next) b.queue) = omega (arith, fewer, tries, more) in
          record {
            same = and_right p.resumed false refl ∙ sym (open_before entry (after b (events.Withdraw id next)) before);
            further = omega (arith, was, same);
            tries = λ d. omega (arith, before);
            pending = λ d k s. absurd (omega (arith, k, before));
          }

  -- where an earlier run's intent is the pending one, one is pending
  pending_still : p.resumed ≡ true → is_some b.pending ≡ true
  pending_still r =
      let parts = and_parts (is_some entry.pending) ((due entry.queue == due b.queue) && (tries_due entry.queue == tries_due b.queue)) (sym e.same ∙ r) in
      let same = and_parts (due entry.queue == due b.queue) (tries_due entry.queue == tries_due b.queue) parts.1 in
      e.pending (eqb-true (due entry.queue) (due b.queue) same.0) (eqb-true (tries_due entry.queue) (tries_due b.queue) same.1) parts.0

  entered_learn : (name : List ℕ) (delta : Delta) →
      IsEntered entry (committed p (after b (events.Learn name delta))) (after b (events.Learn name delta))
  entered_learn name delta = record {
    same = and_is p.resumed (is_open entry b) (is_some b.pending) e.same pending_still;
    further = e.further;
    tries = e.tries;
    pending = e.pending;
  }

  event_entered : (event : Event) → IsRecorded p b event → IsEntered entry (committed p (after b event)) (after b event)
  event_entered event (inl x) =
      subst (λ (y : Event). IsEntered entry (committed p (after b y)) (after b y)) (sym x.is) (entered_intend (due_id b) x.intent)
  event_entered event (inr (inl x)) =
      subst (λ (y : Event). IsEntered entry (committed p (after b y)) (after b y)) (sym x.is)
      (entered_settle (due_id b) x.outcome x.queued x.there)
  event_entered event (inr (inr (inr x))) =
      subst (λ (y : Event). IsEntered entry (committed p (after b y)) (after b y)) (sym x.is)
      (entered_withdraw (due_id b) x.next x.queued x.there x.again.more)
  event_entered event (inr (inr (inl x))) =
      subst (λ (y : Event). IsEntered entry (committed p (after b y)) (after b y)) (sym x.is) (entered_learn x.told.name x.told.delta)

pub committed_entered : (entry : Meaning) (p : Player) (b c : Meaning) (event : Event) → c ≡ after b event → Records (need_of p b) event →
    IsSound b → IsEntered entry p b → IsEntered entry (committed p c) c
committed_entered entry p b c event is records sound e =
    subst (λ (x : Meaning). IsEntered entry (committed p x) x) (sym is) (event_entered entry b p sound e event (recorded p b event records))

-- a connection begins
pub begins_know : (alloc : Global) (b : Meaning) (s : Server) → KeptBook b s None → Knows (begun_with alloc b) b (begins s)
begins_know alloc b s kept = record {
  course = record { first = inl refl; said = λ e a. absurd a };
  since = λ x a. ⊎_elim (λ (e : x ≡ s). subst (λ (y : Server). LeadsTo y s) (sym e) (since_same s kept.well)) (λ (n : ⊥). absurd n) a;
  valid = λ selected e. absurd (cc);
  fresh = λ n. none_false b.pending n;
  meant = λ r intent e. let n : b.pending ≡ None = none_apart b.pending r in absurd (cc);
  placed = λ r intent e. let n : b.pending ≡ None = none_apart b.pending r in absurd (cc);
  resumed = λ r x a. ⊎_elim (λ (e : x ≡ s). subst (λ (y : Server). Open b y) (sym e) kept.open_intent) (λ (n : ⊥). absurd n) a;
  told = tt;
  learns = tt;
  came = record {
    selected = refl;
    rests = record {
      same = λ x a. ⊎_elim (λ (e : x ≡ s). ap (λ (y : Server). ours (due_id b) y.history) e) (λ (n : ⊥). absurd n) a;
      none = λ r. kept.once.idle (none_apart b.pending r);
      holds = tt;
    };
  };
}

pub begins_beside : (alloc : Global) (b : Meaning) → IsBeside (begun_with alloc b) b
begins_beside alloc b = record {
  learns = tt;
  ends = tt;
  plain = λ t. absurd (cc);
  within = omega arith;
  last = λ l. absurd (omega (arith, l));
  next = next_none (due_action b.queue) 0 b.boxes;
  fresh = λ n. none_false b.pending n;
  placed = λ outcome is. absurd (cc);
}

-- a run's player is one that entered with the run's book
pub begins_entered : (alloc : Global) (b : Meaning) → IsEntered b (begun_with alloc b) b
begins_entered alloc b = record {
  same = sym (ap (λ (t : Bool). is_some b.pending && t)
      (and_from (due b.queue == due b.queue) (tries_due b.queue == tries_due b.queue) (eq-eqb (due b.queue) (due b.queue) refl)
      (eq-eqb (tries_due b.queue) (tries_due b.queue) refl)) ∙ and_true (is_some b.pending));
  further = omega arith;
  tries = λ d. omega arith;
  pending = λ d t s. s;
}

-- of the player as it is behind the record
module _ (p r : Player) (c : Meaning) (is : r ≡ committed p c) where
  pub behind_knows : (b : Meaning) (event : Event) (w : World) → c ≡ after b event → Records (need_of p b) event →
      KeptBook b w.course.now w.waiting → KeptBook c w.course.now w.waiting → w.owed ≡ None → Knows p b w → Knows r c w
  behind_knows b event w behind records kept later o known =
      subst (λ (x : Player). Knows x c w) (sym is) (committed_knows p b c w event behind records kept later o known)

  pub behind_beside : (b : Meaning) (event : Event) → c ≡ after b event → Records (need_of p b) event → IsBeside p b → IsBeside r c
  behind_beside b event behind records beside =
      subst (λ (x : Player). IsBeside x c) (sym is) (committed_beside p b c event behind records beside)

  pub behind_entered : (entry b : Meaning) (event : Event) → c ≡ after b event → Records (need_of p b) event → IsSound b →
      IsEntered entry p b → IsEntered entry r c
  behind_entered entry b event behind records sound e =
      subst (λ (x : Player). IsEntered entry x c) (sym is) (committed_entered entry p b c event behind records sound e)
