-- Each call of a world in memory adds no change by others to any moment's history, where its plan has none and no growth was refused.
use Rattle.std.proofs.Common.{◌≡◌, ◌⊎◌, inl, inr, ℕ, Bool, true, false, List, [], Option, Some, None, Result, Ok, Err, OnOk, OnErr, ◌||◌}
use Rattle.std.proofs.Common.{⊎_elim, refl, sym, ◌∙◌, ap, subst, arith}
use Rattle.std.proofs.lemmas.Bool.{true≢false}
use Rattle.imap_model.specs.declared.deed.Change.{Change}
use Rattle.imap_model.specs.declared.server.Server.{Server}
use Rattle.imap_model.specs.Talking.{Peer}
use Rattle.server_mem.specs.States.{State}
use Rattle.world_traits.specs.Calls.{Synced, Wrote}
use Rattle.world_traits.specs.Counts.{counted}
use Rattle.world_traits.specs.Files.{Files, Stored}
use Rattle.world_traits.specs.LinkState.{Connection}
use Rattle.world_traits.specs.Moments.{Clock, Moment, tick, with_stored}
use Rattle.world_traits.specs.declared.disk.Side.{Side}
use Rattle.world_traits.specs.declared.disk.Side.TheVariants.{Left, Right}
use Rattle.world_mem.specs.Connecting.{Connects}
use Rattle.world_mem.specs.Downed.{Downed}
use Rattle.world_mem.specs.Heard.{HearsBytes}
use Rattle.world_mem.specs.Losing.{Loses}
use Rattle.world_mem.specs.Others.{changes}
use Rattle.world_mem.specs.Planned.{Planned, IsStopped, next_link}
use Rattle.world_mem.specs.Restarting.{goes_on_from, left_of}
use Rattle.world_mem.specs.Running.{Run, step}
use Rattle.world_mem.specs.Worlds.{EntersSome, EntersSomeAnew, FailsExactly, LinkIsToFail, Refuses, connection_at, course_of, entered}
use Rattle.world_mem.specs.Worlds.{entered_anew, loss_by, planned_of, refused_of, run_in, server_of, served_by, used_anew, used_in}
use Rattle.world_mem.specs.declared.did.Did.TheVariants as did
use Rattle.world_mem.specs.declared.did.Held.{Held}
use Rattle.world_mem.specs.declared.mem_world.MemWorld.{MemWorld}
use Rattle.world_mem.specs.declared.plan.Loss.{Loss}
use Rattle.mail_drill.specs.Alone.{are_own, is_alone, is_own_at}
use Rattle.mail_drill.proofs.OwnTurns.{both_true}
use Rattle.mail_drill.proofs.OwnRuns.{IsOwnRun, own_now, bytes_own, ended_own, greeted_own, loses_own, settled_own}

-- an equation of truth values is stable
stable : (b : Bool) → ((b ≡ false) → ⊥) → b ≡ true
stable true h = refl
stable false h = absurd (h refl)

-- where no moment of a world has a change by others in its history, neither has its server, as the connection has it
pub own_world : (w : MemWorld) → is_alone (run_in w).clock ≡ true → IsOwnRun (run_in w)
own_world w alone = record {
  moments = alone;
  state =
      subst (λ (s : Server). are_own s.history ≡ true) (course_of w).stands.server_fits (own_now (run_in w).clock alone);
}

-- where a growth was refused, the count isn't 0
pub none_counted : (n m : ℕ) → m ≡ 0 → m ≡ counted n → ⊥
none_counted n m none is = omega (arith, none, is)

-- a call of the link keeps the plan
pub quiet_link : (old new : MemWorld) → planned_of new ≡ next_link (planned_of old) → (planned_of old).plan.foreign ≡ [] →
    (planned_of new).plan.foreign ≡ []
quiet_link old new next quiet = ap (λ (s : Planned). s.plan.foreign) next ∙ quiet

-- "Memory was wanting, or no history has a change by others" is kept by a call that adds none where it is refused nothing, and where it is
-- refused something that is remembered.
pub still_alone : (was wants : Bool) (old new : MemWorld) → (wants ≡ false → (was ≡ false) × (refused_of new ≡ 0)) →
    (was || is_alone (run_in old).clock) ≡ true → (refused_of new ≡ 0 → IsOwnRun (run_in old) → is_alone (run_in new).clock ≡ true) →
    (wants || is_alone (run_in new).clock) ≡ true
still_alone was true old new tells alone keeps = refl
still_alone true false old new tells alone keeps = absurd (true≢false (tells refl).0)
still_alone false false old new tells alone keeps = keeps (tells refl).1 (own_world old alone)

module _ (old new : MemWorld) (quiet : (planned_of new).plan.foreign ≡ []) (own : IsOwnRun (run_in old)) where
  -- a call of the link begins, and nobody changes anything
  own_entered : IsOwnRun (entered old new)
  own_entered = subst (λ (fs : List (ℕ × List ℕ × Change)). IsOwnRun (changes fs (planned_of new).link (used_in old) (run_in old))) (sym quiet) own

  -- and so as a connection is made, behind the end of the old one
  own_anew : IsOwnRun (entered_anew old new)
  own_anew =
      subst (λ (fs : List (ℕ × List ℕ × Change)). IsOwnRun (changes fs (planned_of new).link (used_anew old) (step did.Ended (run_in old)))) (sym quiet)
      (ended_own (run_in old) own)

module _ (old new : MemWorld) (own : IsOwnRun (run_in old)) where
  -- a call that does nothing
  same_alone : run_in new ≡ run_in old → is_alone (run_in new).clock ≡ true
  same_alone same = subst (λ (r : Run). is_alone r.clock ≡ true) (sym same) own.moments

  -- Behind the stop a call does nothing: so it is enough to look at one before it.
  unless_stopped : (IsStopped (planned_of new) → run_in new ≡ run_in old) →
      ((IsStopped (planned_of new) → ⊥) → is_alone (run_in new).clock ≡ true) → is_alone (run_in new).clock ≡ true
  unless_stopped stopped runs = stable (is_alone (run_in new).clock) (λ wrong.
      true≢false (sym (runs (λ is. true≢false (sym (same_alone (stopped is)) ∙ wrong))) ∙ wrong))

-- a world in which that was done
ran : (w : MemWorld) (r : Run) → IsOwnRun r → run_in w ≡ r → is_alone (run_in w).clock ≡ true
ran w r own is = subst (λ (x : Run). is_alone x.clock ≡ true) (sym is) own.moments

some_none : (c : Connection) → Some c ≡ None → ⊥
some_none c is = cc

no_loss : (o : Option Loss) → o ≡ None → (loss : Loss) → o ≡ Some loss → ⊥
no_loss o none loss is = cc

not_refused : {A B C D : Type 0} → (A × B) ⊎ (C × D) → A ⊎ (C × D)
not_refused (inl both) = inl both.0
not_refused (inr some) = inr some

module _ (old new : MemWorld) (quiet : (planned_of new).plan.foreign ≡ []) (none : refused_of new ≡ 0) (own : IsOwnRun (run_in old)) where
  -- a call that began and did no more, or was refused room
  begun_alone : (run_in new ≡ entered old new) ⊎ (EntersSome old new × Refuses old new) → is_alone (run_in new).clock ≡ true
  begun_alone (inl is) = ran new (entered old new) (own_entered old new quiet own) is
  begun_alone (inr some) = absurd (none_counted (refused_of old) (refused_of new) none some.1)

  -- so it is where a connection was to be made
  begun_anew : (run_in new ≡ entered_anew old new) ⊎ (EntersSomeAnew old new × Refuses old new) → is_alone (run_in new).clock ≡ true
  begun_anew (inl is) = ran new (entered_anew old new) (own_anew old new quiet own) is
  begun_anew (inr some) = absurd (none_counted (refused_of old) (refused_of new) none some.1)

  -- a connection begins: what waits is carried out before it, or dropped
  greets : (h : Option Held) → (run_in old).held ≡ h → Connects old new → is_alone (run_in new).clock ≡ true
  greets None is connects = ran new _ (greeted_own _ (own_anew old new quiet own)) (connects.free is)
  greets (Some held) is connects = settles held.carried refl
    where
      settles : (b : Bool) → held.carried ≡ b → is_alone (run_in new).clock ≡ true
      settles false same = ran new _ (greeted_own _ (own_anew old new quiet own)) (connects.dropped held is same)
      settles true same = ran new _ (greeted_own _ (settled_own _ (own_anew old new quiet own))) (connects.carried held is same)

  -- a call that no loss is planned for fails only where a growth is refused
  lost : loss_by new ≡ None → (IsStopped (planned_of new) → ⊥) → ((LinkIsToFail (planned_of new) → ⊥) → Refuses old new) → ⊥
  lost is runs refuses =
      none_counted (refused_of old) (refused_of new) none (refuses (λ why. ⊎_elim runs (λ found. no_loss (loss_by new) is found.loss found.is) why))

  -- bytes come as the connection is lost, or the call was refused room
  loses_alone : (loss : Loss) (bytes : List ℕ) →
      Loses loss bytes (served_by old (entered old new)) (entered old new) (run_in new) ⊎ Refuses old new → is_alone (run_in new).clock ≡ true
  loses_alone loss bytes (inl comes) =
      (loses_own loss bytes (served_by old (entered old new)) (entered old new) (run_in new) comes (own_entered old new quiet own)).moments
  loses_alone loss bytes (inr refuses) = absurd (none_counted (refused_of old) (refused_of new) none refuses)

  -- so `connect` keeps it, by what it promises
  pub connect_alone : {T E : Type 0} (result : Result T E) → OnOk result (Connects old new) →
      ((IsStopped (planned_of new) → ⊥) → (loss : Loss) → loss_by new ≡ Some loss →
      (run_in new ≡ entered_anew old new) ⊎ (EntersSomeAnew old new × Refuses old new)) →
      FailsExactly (LinkIsToFail (planned_of new)) result (refused_of old) (refused_of new) →
      (IsStopped (planned_of new) → run_in new ≡ run_in old) →
      is_alone (run_in new).clock ≡ true
  connect_alone (Ok x) connects loses exact stopped = greets (run_in old).held refl connects
  connect_alone (Err e) connects loses exact stopped = unless_stopped old new own stopped (λ runs. by_loss runs (loss_by new) refl)
    where
      by_loss : (IsStopped (planned_of new) → ⊥) → (l : Option Loss) → loss_by new ≡ l → is_alone (run_in new).clock ≡ true
      by_loss runs None is = absurd (lost is runs exact.others)
      by_loss runs (Some loss) is = begun_anew (loses runs loss is)

  -- `send`
  pub send_alone : {T E : Type 0} (result : Result T E) (bytes : List ℕ) →
      OnOk result (HearsBytes bytes (served_by old (entered old new)) (entered old new) (server_of new) (run_in new)) →
      ((IsStopped (planned_of new) → ⊥) → (connection_at old ≡ None → ⊥) → (loss : Loss) → loss_by new ≡ Some loss →
      Downed loss bytes old new) →
      ((IsStopped (planned_of new) → ⊥) → connection_at old ≡ None →
      ((run_in new ≡ entered old new) × (refused_of new ≡ refused_of old)) ⊎ (EntersSome old new × Refuses old new)) →
      FailsExactly (LinkIsToFail (planned_of new) ⊎ (connection_at old ≡ None)) result (refused_of old) (refused_of new) →
      (IsStopped (planned_of new) → run_in new ≡ run_in old) →
      is_alone (run_in new).clock ≡ true
  send_alone (Ok x) bytes hears downed unheard exact stopped =
      (bytes_own bytes (served_by old (entered old new)) (entered old new) (server_of new) (run_in new) hears (own_entered old new quiet own)).moments
  send_alone (Err e) bytes hears downed unheard exact stopped = unless_stopped old new own stopped (λ runs. by_link runs (connection_at old) refl)
    where
      by_loss : (IsStopped (planned_of new) → ⊥) → (connection_at old ≡ None → ⊥) → (l : Option Loss) → loss_by new ≡ l →
          is_alone (run_in new).clock ≡ true
      by_loss runs there None is = absurd (lost is runs (λ why. exact.others (⊎_elim why there)))
      by_loss runs there (Some loss) is = loses_alone loss bytes (downed runs there loss is).loses

      by_link : (IsStopped (planned_of new) → ⊥) → (c : Option Connection) → connection_at old ≡ c → is_alone (run_in new).clock ≡ true
      by_link runs None is = begun_alone (not_refused (unheard runs is))
      by_link runs (Some c) is = by_loss runs (λ off. some_none c (sym is ∙ off)) (loss_by new) refl

  -- `recv`
  pub recv_alone : {T E : Type 0} (result : Result T E) → OnOk result (run_in new ≡ entered old new) →
      ((IsStopped (planned_of new) → ⊥) →
      OnErr result ((run_in new ≡ entered old new) ⊎ (EntersSome old new × Refuses old new))) →
      (IsStopped (planned_of new) → run_in new ≡ run_in old) →
      is_alone (run_in new).clock ≡ true
  recv_alone (Ok x) done loses stopped = ran new (entered old new) (own_entered old new quiet own) done
  recv_alone (Err e) done loses stopped = unless_stopped old new own stopped (λ runs. begun_alone (loses runs))

  -- `close`
  pub close_alone : ((IsStopped (planned_of new) → ⊥) →
      ((run_in new ≡ entered old new) × (refused_of new ≡ refused_of old)) ⊎ (EntersSome old new × Refuses old new)) →
      (IsStopped (planned_of new) → run_in new ≡ run_in old) →
      is_alone (run_in new).clock ≡ true
  close_alone done stopped = unless_stopped old new own stopped (λ runs. begun_alone (not_refused (done runs)))

-- a call of the disk leaves the server as it is
outside_alone : (c : Clock) (m : Moment) → m.outside ≡ c.now.outside → is_alone c ≡ true → is_alone (tick c m) ≡ true
outside_alone c m same alone =
    both_true (is_own_at m) (is_alone c) (ap (λ (p : Peer). are_own p.server.history) same ∙ own_now c alone) alone

with_stored_outside : (side : Side) (file : Stored) (m : Moment) → (with_stored side file m).outside ≡ m.outside
with_stored_outside Left file m = refl
with_stored_outside Right file m = refl

stored_alone : (side : Side) (file : Stored) (old new : Clock) → new ≡ tick old (with_stored side file old.now) → is_alone old ≡ true → is_alone new ≡ true
stored_alone side file old new is alone =
    subst (λ (c : Clock). is_alone c ≡ true) (sym is) (outside_alone old (with_stored side file old.now) (with_stored_outside side file old.now) alone)

-- `write_at` and `sync`
pub write_alone : {T E : Type 0} (side : Side) (at : ℕ) (bytes : List ℕ) (old new : Run) (result : Result T E) →
    Wrote side at bytes old.clock new.clock old.seen new.seen result → OnErr result (new ≡ old) → is_alone old.clock ≡ true →
    is_alone new.clock ≡ true
write_alone side at bytes old new (Ok x) wrote failed alone = stored_alone side _ old.clock new.clock wrote.done alone
write_alone side at bytes old new (Err e) wrote failed alone = subst (λ (r : Run). is_alone r.clock ≡ true) (sym failed) alone

pub sync_alone : {T E : Type 0} (side : Side) (old new : Run) (result : Result T E) →
    Synced side old.clock new.clock old.seen new.seen result → OnErr result (new ≡ old) → is_alone old.clock ≡ true → is_alone new.clock ≡ true
sync_alone side old new (Ok x) synced failed alone = stored_alone side _ old.clock new.clock synced.done alone
sync_alone side old new (Err e) synced failed alone = subst (λ (r : Run). is_alone r.clock ≡ true) (sym failed) alone

left_own : (held : Option Held) (s : State) → are_own s.server.history ≡ true → are_own (left_of held s).server.history ≡ true
left_own None s own = own
left_own (Some held) s own = own

-- a world that goes on behind a stop has one moment, with the server as it was
restart_alone : (files : Files) (r : Run) → are_own r.state.server.history ≡ true → is_alone (goes_on_from files r).clock ≡ true
restart_alone files r own = both_true _ true (left_own r.held r.state own) refl

-- so it has no change by others, unless memory was wanting before
pub restart_still : (was : Bool) (old new : MemWorld) (files : Files) → run_in new ≡ goes_on_from files (run_in old) →
    (was || is_alone (run_in old).clock) ≡ true → (was || is_alone (run_in new).clock) ≡ true
restart_still true old new files is alone = refl
restart_still false old new files is alone =
    subst (λ (r : Run). is_alone r.clock ≡ true) (sym is) (restart_alone files (run_in old) (own_world old alone).state)
