-- A record of what is needed leaves fewer records and replies.
use Rattle.action_queue.proofs.Queueing.{due_try, length_change}
use Rattle.action_queue.specs.Book.{Meaning, after, cache_at, learned, put_cache}
use Rattle.action_queue.specs.Queues.{change_first, due, due_action, settled, tried, tries_due}
use Rattle.action_queue.specs.Targets.{resolved}
use Rattle.action_queue.specs.declared.action.Action.{Action}
use Rattle.action_queue.specs.declared.book.Known.{Known}
use Rattle.action_queue.specs.declared.event.Event.{Event}
use Rattle.action_queue.specs.declared.found.Found.{Found}
use Rattle.action_queue.specs.declared.intent.Intent.{Intent}
use Rattle.action_queue.specs.declared.outcome.Outcome.{Outcome}
use Rattle.action_queue.specs.declared.queued.Queued.{Queued}
use Rattle.mailbox_cache.specs.declared.cache.Cache.{Cache}
use Rattle.book_laws.proofs.Queueing.{due_settle}
use Rattle.playback.proofs.Ranks.{add_less, append_first_any, append_meant_any, at_most, below_boxed, below_selected, box_any, boxed}
use Rattle.playback.proofs.Ranks.{due_search_any, due_sent_any, flag_first_any, flag_meant_any, ids_any, move_first_any, move_meant_any}
use Rattle.playback.proofs.Ranks.{unlearned}
use Rattle.playback.proofs.Recorded.{due_there}
use Rattle.playback.proofs.Recording.{put_length}
use Rattle.playback.specs.Allowed.{Records}
use Rattle.playback.specs.Choosing.{committed, counted, told_after}
use Rattle.playback.specs.Left.{left, rank, rank_behind, rank_of, unsettled}
use Rattle.playback.proofs.Trying.{tries_tried}
use Rattle.playback.proofs.Withdrawing.{IsWithdrawn, asks_anew, withdrawn}
use Rattle.playback.specs.Needs.{IsBeside, IsNextBox, again, due_id, need_end, need_for, need_learn, need_of}
use Rattle.book_laws.specs.Sound.{IsSound}
use Rattle.playback.specs.Steps.{append_again, append_meant, flag_again, flag_first, flag_meant, move_again, move_first, move_meant}
use Rattle.playback.specs.Steps.{step_action, step_append, step_due, step_flag_at, step_flag_found, step_last, step_learn}
use Rattle.playback.specs.Steps.{step_move_at, step_move_found, step_of}
use Rattle.playback.specs.declared.finding.Finding.{Finding}
use Rattle.playback.specs.declared.finding.Resynced.{Resynced}
use Rattle.playback.specs.declared.finding.Spot.{Spot}
use Rattle.playback.specs.declared.need.Need.{Need}
use Rattle.playback.specs.declared.player.Player.{Player}
use Rattle.playback.specs.declared.step.Step.{Step}
use Rattle.std.proofs.Common.{Bool, List, None, Option, Some, ap, arith, false, length, refl, subst, suc, sym, true, ℕ, ◌&&◌, ◌*◌, ◌+◌, ◌-◌}
use Rattle.std.proofs.Common.{◌<◌, ◌∙◌, ◌≡◌, ◌≤◌}
use Rattle.std.proofs.lemmas.Bool.{cond-true, lt-ltb}
use Rattle.std.proofs.lemmas.Option.{slice_get_within}
use Rattle.std.specs.Option.{is_some}
use Rattle.std.specs.Prelude.{nat_lt, slice_get}
use Rattle.action_queue.specs.declared.action.Action.TheVariants as actions
use Rattle.action_queue.specs.declared.event.Event.TheVariants as events
use Rattle.playback.specs.declared.finding.Finding.TheVariants as findings
use Rattle.action_queue.specs.declared.found.Found.TheVariants as found
use Rattle.action_queue.specs.declared.intent.Intent.TheVariants as intents
use Rattle.playback.specs.declared.step.Step.TheVariants as steps

-- of an intent that is to be recorded this is so
abbrev OnIntend : (Intent → Type 0) → Step → Type 0
OnIntend So (steps.Intend intent) = So intent
OnIntend So step = Unit {0}

-- the player behind a record, by what was to be recorded of a mailbox
abbrev recorded_with : Player → Meaning → Option Resynced → Player
recorded_with p b learns = record p {
  told = told_after learns p.told;
  resumed = p.resumed && is_some b.pending;
  learns = None;
  resynced = counted learns (due_action b.queue) (length b.boxes) p.resynced;
}

abbrev left_with : Player → Meaning → Option Resynced → ℕ
left_with p b learns = rank_of p b learns + 4 * (2 - tries_due b.queue) + 16 * unsettled b.queue + 16 * (length b.boxes - p.resynced)

-- a queue with one more outcome, a mailbox that counts, and one that doesn't
settled_less : (r t old u all later done more c : ℕ) → r ≤ 7 → old ≡ 1 → later ≡ all → more ≡ suc done → done < all →
    r + 4 * (2 - t) + 16 * (later - more) + c < old + 4 * (2 - u) + 16 * (all - done) + c
settled_less r t old u all later done more c h o a d l = omega (arith, h, o, a, d, l)

counted_less : (r t all later count more c : ℕ) → r ≤ 7 → later ≡ all → more ≡ count + 1 → count < all →
    r + t + c + 16 * (later - more) < 6 + t + c + 16 * (all - count)
counted_less r t all later count more c h a d l = omega (arith, h, a, d, l)

same_less : (r t old all later count c : ℕ) → r ≡ old → later ≡ all → r + t + c + 16 * (later - count) < 1 + old + t + c + 16 * (all - count)
same_less r t old all later count c h a = omega (arith, h, a)

withdrawn_less : (r t old u all was c : ℕ) → r < 5 → old ≡ 1 → t ≡ u + 1 → u < 2 → all ≡ was →
    r + 4 * (2 - t) + 16 * all + c < old + 4 * (2 - u) + 16 * was + c
withdrawn_less r t old u all was c h o n l a = omega (arith, h, o, n, l, a)

resumed_still : (resumed : Bool) (pending : Option Intent) → (pending ≡ None → resumed ≡ false) → (resumed && is_some pending) ≡ resumed
resumed_still false pending fresh = refl
resumed_still true None fresh = let f : true ≡ false = fresh refl in absurd (cc)
resumed_still true (Some intent) fresh = refl

-- an intent of this run is sent next
flag_sends : (resumed : Bool) (mark : ℕ) (spot : Spot) → resumed ≡ false → rank (flag_again resumed mark findings.Nothing spot) < 3
flag_sends false mark spot e = omega arith
flag_sends true mark spot e = absurd (cc)

move_sends : (resumed : Bool) (spot : Spot) → resumed ≡ false → rank (move_again resumed findings.Nothing spot) < 3
move_sends false spot e = omega arith
move_sends true spot e = absurd (cc)

append_sends : (resumed : Bool) (to : List ℕ) (validity uidnext : ℕ) → resumed ≡ false →
    rank (append_again resumed findings.Nothing to validity uidnext) < 3
append_sends false to validity uidnext e = omega arith
append_sends true to validity uidnext e = absurd (cc)

module _ (p : Player) (b : Meaning) (fresh : b.pending ≡ None → p.resumed ≡ false) where
  abbrev intended : Player
  intended = record p { told = findings.Nothing; resumed = p.resumed && true; learns = None }

  unresumed : b.pending ≡ None → (p.resumed && true) ≡ false
  unresumed none = ap (λ (r : Bool). r && true) (fresh none)

  abbrev Sends : (Intent → Step) → Step → Type 0
  Sends step = OnIntend (λ intent. rank (step intent) < 3)

  flag_intends : (pending : Option Intent) → b.pending ≡ pending → (spot : Spot) →
      Sends (λ intent. step_flag_at intended (Some intent) spot) (step_flag_at p pending spot)
  flag_intends None none spot =
      boxed (Sends (λ intent. step_flag_at intended (Some intent) spot)) p.selected false spot (flag_first p.told spot)
      (λ t. flag_first_any (Sends (λ intent. step_flag_at intended (Some intent) spot)) (λ outcome. tt) spot tt
      (λ modseq. below_boxed 3 p.selected true spot (flag_again (p.resumed && true) modseq findings.Nothing spot) t
      (flag_sends (p.resumed && true) modseq spot (unresumed none))) p.told)
      (λ f. tt) (λ n. tt)
  flag_intends (Some (intents.Store name validity uid mark)) none spot =
      flag_meant_any (Sends (λ intent. step_flag_at intended (Some intent) spot)) (λ outcome. tt) p mark spot (λ f. tt) (λ t. tt) (λ t. tt) p.told
  flag_intends (Some (intents.Shift from validity uid to)) none spot = tt
  flag_intends (Some (intents.Put to validity uidnext)) none spot = tt

  flag_found_intends : (place : Found) → Sends (λ intent. step_flag_found intended (Some intent) place) (step_flag_found p b.pending place)
  flag_found_intends (found.Real name validity uid) = flag_intends b.pending refl (record { name = name; validity = validity; uid = uid })
  flag_found_intends (found.NotYet by) = tt
  flag_found_intends (found.Never by) = tt

  move_intends : (to : List ℕ) (pending : Option Intent) → b.pending ≡ pending → (spot : Spot) →
      Sends (λ intent. step_move_at intended (Some intent) spot to) (step_move_at p pending spot to)
  move_intends to None none spot =
      boxed (Sends (λ intent. step_move_at intended (Some intent) spot to)) p.selected false spot (move_first p.told spot to)
      (λ t. move_first_any (Sends (λ intent. step_move_at intended (Some intent) spot to)) (λ outcome. tt) spot to tt
      (below_boxed 3 p.selected true spot (move_again (p.resumed && true) findings.Nothing spot) t
      (move_sends (p.resumed && true) spot (unresumed none))) p.told)
      (λ f. tt) (λ n. tt)
  move_intends to (Some (intents.Shift from validity uid other)) none spot =
      move_meant_any (Sends (λ intent. step_move_at intended (Some intent) spot to)) (λ outcome. tt) p spot (λ f. tt) (λ t. tt) (λ t. tt) p.told
  move_intends to (Some (intents.Store name validity uid modseq)) none spot = tt
  move_intends to (Some (intents.Put other validity uidnext)) none spot = tt

  move_found_intends : (to : List ℕ) (place : Found) →
      Sends (λ intent. step_move_found intended (Some intent) to place) (step_move_found p b.pending to place)
  move_found_intends to (found.Real name validity uid) = move_intends to b.pending refl (record { name = name; validity = validity; uid = uid })
  move_found_intends to (found.NotYet by) = tt
  move_found_intends to (found.Never by) = tt

  append_intends : (to : List ℕ) (pending : Option Intent) → b.pending ≡ pending →
      Sends (λ intent. step_append intended (Some intent) to) (step_append p pending to)
  append_intends to None none =
      append_first_any (Sends (λ intent. step_append intended (Some intent) to)) (λ outcome. tt) p.selected to tt
      (λ validity uidnext t. below_selected 3 intended to validity uidnext findings.Nothing t
      (append_sends (p.resumed && true) to validity uidnext (unresumed none))) p.told
  append_intends to (Some (intents.Put other validity uidnext)) none =
      append_meant_any (Sends (λ intent. step_append intended (Some intent) to)) (λ outcome. tt) to validity uidnext tt p (λ t. tt) (λ t. tt) p.told
      (λ uids e t. tt)
  append_intends to (Some (intents.Store name validity uid modseq)) none = tt
  append_intends to (Some (intents.Shift from validity uid other)) none = tt

  action_intends : (action : Action) → Sends (λ intent. step_action intended (record b { pending = Some intent }) action) (step_action p b action)
  action_intends (actions.Flag target add flags) = flag_found_intends (resolved b.queue target)
  action_intends (actions.Move target to) = move_found_intends to (resolved b.queue target)
  action_intends (actions.Append to flags text id) = append_intends to b.pending refl

  due_intends : (queued : Option Queued) → Sends (λ intent. step_due intended (record b { pending = Some intent }) queued) (step_due p b queued)
  due_intends None =
      box_any (Sends (λ intent. step_due intended (record b { pending = Some intent }) None)) tt (λ name. tt) (slice_get b.boxes p.resynced)
  due_intends (Some q) = action_intends q.action

  -- where a cache alone is new, the step of the action stays
  module _ (boxes : List Known) (count : ℕ) where
    abbrev learned_now : Bool → Player
    learned_now resumed = record p { resumed = resumed; learns = None; resynced = count }

    flag_meant_same : (mark : ℕ) (spot : Spot) (told : Finding) → flag_meant (learned_now p.resumed) mark spot told ≡ flag_meant p mark spot told
    flag_meant_same mark spot (findings.Ended outcome) = refl
    flag_meant_same mark spot told = refl

    flag_same : (pending : Option Intent) (place : Found) → step_flag_found (learned_now p.resumed) pending place ≡ step_flag_found p pending place
    flag_same None (found.Real name validity uid) = refl
    flag_same (Some (intents.Store box under number mark)) (found.Real name validity uid) =
        flag_meant_same mark (record { name = name; validity = validity; uid = uid }) p.told
    flag_same (Some (intents.Shift from under number to)) (found.Real name validity uid) = refl
    flag_same (Some (intents.Put to under uidnext)) (found.Real name validity uid) = refl
    flag_same pending (found.NotYet by) = refl
    flag_same pending (found.Never by) = refl

    move_meant_same : (spot : Spot) (told : Finding) → move_meant (learned_now p.resumed) spot told ≡ move_meant p spot told
    move_meant_same spot (findings.Ended outcome) = refl
    move_meant_same spot told = refl

    move_same : (to : List ℕ) (pending : Option Intent) (place : Found) →
        step_move_found (learned_now p.resumed) pending to place ≡ step_move_found p pending to place
    move_same to None (found.Real name validity uid) = refl
    move_same to (Some (intents.Shift from under number other)) (found.Real name validity uid) =
        move_meant_same (record { name = name; validity = validity; uid = uid }) p.told
    move_same to (Some (intents.Store box under number mark)) (found.Real name validity uid) = refl
    move_same to (Some (intents.Put other under uidnext)) (found.Real name validity uid) = refl
    move_same to pending (found.NotYet by) = refl
    move_same to pending (found.Never by) = refl

    append_meant_same : (to : List ℕ) (validity uidnext : ℕ) (told : Finding) →
        append_meant (learned_now p.resumed) to validity uidnext told ≡ append_meant p to validity uidnext told
    append_meant_same to validity uidnext (findings.Ended outcome) = refl
    append_meant_same to validity uidnext told = refl

    append_same : (to : List ℕ) (pending : Option Intent) → step_append (learned_now p.resumed) pending to ≡ step_append p pending to
    append_same to None = refl
    append_same to (Some (intents.Put other validity uidnext)) = append_meant_same to validity uidnext p.told
    append_same to (Some (intents.Store name validity uid modseq)) = refl
    append_same to (Some (intents.Shift from validity uid other)) = refl

    action_same : (action : Action) → step_action (learned_now p.resumed) (record b { boxes = boxes }) action ≡ step_action p b action
    action_same (actions.Flag target add flags) = flag_same b.pending (resolved b.queue target)
    action_same (actions.Move target to) = move_same to b.pending (resolved b.queue target)
    action_same (actions.Append to flags text id) = append_same to b.pending

    learned_same : (action : Action) →
        rank (step_action (learned_now (p.resumed && is_some b.pending)) (record b { boxes = boxes }) action) ≡ rank (step_action p b action)
    learned_same action =
        ap (λ (resumed : Bool). rank (step_action (learned_now resumed) (record b { boxes = boxes }) action))
        (resumed_still p.resumed b.pending fresh)
        ∙ ap rank (action_same action)

  -- what was told of a mailbox is recorded
  module _ (told : Resynced) (boxes : List Known) (same : length boxes ≡ length b.boxes) where
    abbrev counted_now : Option Queued → ℕ
    counted_now queued = counted (Some told) queued (length boxes) p.resynced

    counts_one : p.resynced < length b.boxes → counted_now None ≡ p.resynced + 1
    counts_one within =
        cond-true (nat_lt p.resynced (length boxes)) (p.resynced + 1) p.resynced (lt-ltb p.resynced (length boxes) (omega (arith, within, same)))

    due_learned : (queued : Option Queued) → IsNextBox queued (Some told) p.resynced b.boxes →
        rank (step_due (learned_now boxes (counted_now queued) (p.resumed && is_some b.pending)) (record b { boxes = boxes }) queued)
        + 4 * (2 - tries_due b.queue) + 16 * unsettled b.queue + 16 * (length boxes - counted_now queued)
        < rank_behind p b queued + 4 * (2 - tries_due b.queue) + 16 * unsettled b.queue + 16 * (length b.boxes - p.resynced)
    due_learned None turn =
        let within : p.resynced < length b.boxes = slice_get_within b.boxes p.resynced turn.0 turn.1 in
        counted_less (rank (step_last (counted_now None) (record b { boxes = boxes }))) (4 * (2 - tries_due b.queue)) (length b.boxes) (length boxes)
        p.resynced (counted_now None) (16 * unsettled b.queue) (at_most (step_last (counted_now None) (record b { boxes = boxes }))) same (counts_one within) within
    due_learned (Some q) turn =
        same_less (rank (step_action (learned_now boxes p.resynced (p.resumed && is_some b.pending)) (record b { boxes = boxes }) q.action))
        (4 * (2 - tries_due b.queue)) (rank (step_action p b q.action)) (length b.boxes) (length boxes) p.resynced (16 * unsettled b.queue)
        (learned_same boxes p.resynced q.action) same

module _ (p : Player) (b : Meaning) (sound : IsSound b) (beside : IsBeside p b) where
  abbrev FallsBehind : Event → Option Resynced → Type 0
  FallsBehind event learns = left (recorded_with p (after b event) learns) (after b event) < left_with p b learns

  intend_falls : p.learns ≡ None → (intent : Intent) → step_of p b ≡ steps.Intend intent → FallsBehind (events.Intend (due_id b) intent) None
  intend_falls none intent e =
      let less : rank (step_due (intended p b beside.fresh) (record b { pending = Some intent }) (due_action b.queue)) < 3 =
      subst (Sends p b beside.fresh (λ x. step_due (intended p b beside.fresh) (record b { pending = Some x }) (due_action b.queue)))
      (sym (unlearned p b none) ∙ e) (due_intends p b beside.fresh (due_action b.queue)) in
      let was : rank (step_of p b) ≡ 3 = ap rank e in
      add_less (rank (step_due (intended p b beside.fresh) (record b { pending = Some intent }) (due_action b.queue))) (rank (step_of p b))
      (4 * (2 - tries_due b.queue)) (16 * unsettled b.queue) (16 * (length b.boxes - p.resynced)) (omega (arith, less, was))

  settle_falls : p.learns ≡ None → (outcome : Outcome) → step_of p b ≡ steps.Settle outcome → FallsBehind (events.Settle (due_id b) outcome) None
  settle_falls none outcome e =
      let there : (q : Queued) × (due_action b.queue ≡ Some q) =
      due_there p b (due_action b.queue) outcome (sym (unlearned p b none) ∙ e) in
      settled_less
      (rank (step_of (recorded_with p (after b (events.Settle (due_id b) outcome)) None) (after b (events.Settle (due_id b) outcome))))
      (tries_due (change_first (settled outcome) b.queue)) (rank (step_of p b)) (tries_due b.queue) (length b.queue) (length (change_first (settled outcome) b.queue)) (due b.queue)
      (due (change_first (settled outcome) b.queue)) (16 * (length b.boxes - p.resynced))
      (at_most (step_of (recorded_with p (after b (events.Settle (due_id b) outcome)) None) (after b (events.Settle (due_id b) outcome))))
      (ap rank e) (length_change (settled outcome) b.queue) (due_settle outcome b.queue there.0 there.1 sound.rest)
      (slice_get_within b.queue (due b.queue) there.0 there.1)

  -- a try is taken back: its mailbox is selected still, so that the row is asked for
  withdraw_falls : p.learns ≡ None → (outcome : Outcome) → step_of p b ≡ steps.Settle outcome → (next : ℕ) →
      again (tries_due b.queue) outcome ≡ Some next → FallsBehind (events.Withdraw (due_id b) next) None
  withdraw_falls none outcome e next more =
      let x : IsWithdrawn p b next = withdrawn p b sound beside outcome next more none e in
      let new : Meaning = after b (events.Withdraw (due_id b) next) in
      let queue : List Queued = change_first (tried next) b.queue in
      let less : rank (step_of (recorded_with p new None) new) < 5 = asks_anew p b next x (recorded_with p new None) refl refl refl in
      let same : due queue ≡ due b.queue = due_try next b.queue in
      let long : length queue ≡ length b.queue = length_change (tried next) b.queue in
      let tries : tries_due queue ≡ next = tries_tried next b.queue x.queued x.there in
      let was : rank (step_of p b) ≡ 1 = ap rank e in
      withdrawn_less (rank (step_of (recorded_with p new None) new)) (tries_due queue) (rank (step_of p b)) (tries_due b.queue) (unsettled queue)
      (unsettled b.queue) (16 * (length b.boxes - p.resynced)) less was (tries ∙ x.again.more) x.again.fewer (omega (arith, same, long))

  end_falls : p.learns ≡ None → (outcome : Outcome) → step_of p b ≡ steps.Settle outcome → (o : Option ℕ) → again (tries_due b.queue) outcome ≡ o →
      (event : Event) → Records (need_end (due_id b) outcome o) event → FallsBehind event None
  end_falls none outcome e None last event r = subst (λ (x : Event). FallsBehind x None) (sym r) (settle_falls none outcome e)
  end_falls none outcome e (Some next) more event r = subst (λ (x : Event). FallsBehind x None) (sym r) (withdraw_falls none outcome e next more)

  learn_falls : (told : Resynced) → p.learns ≡ Some told → FallsBehind (events.Learn told.name told.delta) (Some told)
  learn_falls told e =
      let cache : Option Cache = Some (learned (cache_at told.name b.boxes) told.delta) in
      due_learned p b beside.fresh told (put_cache told.name cache b.boxes) (put_length told.name cache b.boxes) (due_action b.queue)
      (subst (λ (learns : Option Resynced). IsNextBox (due_action b.queue) learns p.resynced b.boxes) e beside.next)

  step_falls : p.learns ≡ None → (step : Step) → step_of p b ≡ step → (event : Event) → Records (need_for step p b) event → FallsBehind event None
  step_falls none steps.Learn e event r = absurd (subst (λ (learns : Option Resynced). Records (need_learn learns) event) none r)
  step_falls none (steps.Select name under) e event r = absurd r
  step_falls none (steps.AskRow uid) e event r = absurd r
  step_falls none (steps.Search uidnext) e event r =
      absurd
      (due_search_any (λ (need : Need). Records need event → ⊥) (λ x. x) (λ command x. x) (λ number command x. x) uidnext (due_action b.queue) r)
  step_falls none steps.AskIds e event r =
      absurd (ids_any (λ (need : Need). Records need event → ⊥) (λ x. x) (λ command x. x) (λ number command x. x) p.told r)
  step_falls none (steps.Intend intent) e event r = subst (λ (x : Event). FallsBehind x None) (sym r) (intend_falls none intent e)
  step_falls none (steps.Settle outcome) e event r = end_falls none outcome e (again (tries_due b.queue) outcome) refl event r
  step_falls none steps.Send e event r =
      absurd
      (due_sent_any (λ (need : Need). Records need event → ⊥) (λ x. x) (λ command x. x) (λ number command x. x) (due_id b) (due_action b.queue)
      b.pending r)
  step_falls none steps.Finished e event r = absurd r

  record_falls : (learns : Option Resynced) → p.learns ≡ learns → (event : Event) → Records (need_for (step_learn p b learns) p b) event →
      FallsBehind event learns
  record_falls None e event r = step_falls e (step_learn p b None) (unlearned p b e) event r
  record_falls (Some told) e event r =
      subst (λ (x : Event). FallsBehind x (Some told)) (sym (subst (λ (learns : Option Resynced). Records (need_learn learns) event) e r))
      (learn_falls told e)

-- A record of what is needed leaves less.
pub committed_falls : (p : Player) (before b : Meaning) (event : Event) → b ≡ after before event → Records (need_of p before) event →
    IsSound before → IsBeside p before → left (committed p b) b < left p before
committed_falls p before b event is records sound beside =
    subst (λ (x : Meaning). left (committed p x) x < left p before) (sym is) (record_falls p before sound beside p.learns refl event records)
