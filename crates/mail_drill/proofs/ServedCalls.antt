-- Each call of a world in memory keeps it served, where nobody else changes anything and no growth was refused.
use Rattle.std.proofs.Common.{◌≡◌, ◌⊎◌, inl, inr, ⊎_elim, ℕ, ◌<◌, Bool, true, false, List, [], ◌∷◌, Option, Some, None, Result, Ok, Err, OnOk, OnErr}
use Rattle.std.proofs.Common.{refl, sym, ◌∙◌, ap, subst, arith}
use Rattle.std.specs.Prelude.{Contains, nat_lt}
use Rattle.std.proofs.Math.Logic.{∥∥₁_map}
use Rattle.std.proofs.lemmas.Bool.{lt-ltb, ltb-true, true≢false}
use Rattle.std.proofs.lemmas.Option.{none-some}
use Rattle.imap_model.specs.Talking.{IsDue, Peer}
use Rattle.imap_model.specs.declared.deed.Change.{Change}
use Rattle.server_mem.specs.States.{State}
use Rattle.world_traits.specs.Calls.{Synced, Wrote}
use Rattle.world_traits.specs.Connected.{IsReplyDue}
use Rattle.world_traits.specs.Files.{Files, Stored}
use Rattle.world_traits.specs.LinkState.{Connection}
use Rattle.world_traits.specs.Links.{Any, AnyStep, LinkStep, Linked}
use Rattle.world_traits.specs.Moments.{Chain, Clock, Moment, grow, tick, with_stored}
use Rattle.world_traits.specs.declared.disk.Side.{Side}
use Rattle.world_traits.specs.declared.disk.Side.TheVariants.{Left, Right}
use Rattle.world_traits.proofs.Passing.{since_start, since_tick}
use Rattle.world_mem.specs.Calling.{CallsDisk, CallsLink}
use Rattle.world_mem.specs.Connecting.{Connects}
use Rattle.world_mem.specs.Downed.{Downed}
use Rattle.world_mem.specs.Heard.{HearsBytes}
use Rattle.world_mem.specs.Lines.{BeginsLine}
use Rattle.world_mem.specs.Losing.{Loses}
use Rattle.world_mem.specs.Memory.{connection_of, run_of, told_line, waits_in}
use Rattle.world_mem.specs.Others.{changes}
use Rattle.world_mem.specs.Planned.{DiskIsToFail, IsStopped, Planned, StopsAfter, loss_in, next_link, unbegun}
use Rattle.world_mem.specs.Restarting.{goes_on_from, left_of, no_line}
use Rattle.world_mem.specs.Running.{Run, at_end, start, step}
use Rattle.world_mem.specs.Tally.{IsUncalled}
use Rattle.world_mem.specs.Worlds.{EntersSome, EntersSomeAnew, FailsExactly, LinkIsToFail, Refuses, connection_at, course_of, disk_faults_of}
use Rattle.world_mem.specs.Worlds.{entered, entered_anew, line_in, link_faults_of, loss_by, planned_of, refused_of, run_in, server_of, served_by, used_anew}
use Rattle.world_mem.specs.Worlds.{used_in}
use Rattle.world_mem.specs.declared.course.Course.{Course}
use Rattle.world_mem.specs.declared.did.Did.TheVariants as did
use Rattle.world_mem.specs.declared.did.Held.{Held}
use Rattle.world_mem.specs.declared.mem_world.MemWorld.{MemWorld}
use Rattle.world_mem.specs.declared.plan.Loss.{Loss}
use Rattle.world_mem.specs.declared.plan.Plan.{Plan}
use Rattle.play_driver.specs.Joining.{AnyTwo, Grows}
use Rattle.play_driver.proofs.Parts.{grows, grows_start, grows_then}
use Rattle.mail_drill.specs.Connected.{IsBare, IsMade, IsServed, IsServedFrom, IsUnfailed, IsUnmade, IsUntouched, Untouched, WasBare}
use Rattle.mail_drill.specs.Doing.{IsLevel}
use Rattle.mail_drill.specs.Misfortunes.{nothing_fails}
use Rattle.mail_drill.specs.Offering.{OffersAll}
use Rattle.mail_drill.proofs.OwnCalls.{none_counted}
use Rattle.mail_drill.proofs.ServedParts.{IsGoing, StandsServed, bare_on, bytes_served, loses_served, world_going}
use Rattle.mail_drill.proofs.ServedSteps.{greeted_made, on_peer, on_stored, settled_choices}

-- whether the world has stopped can be told
stopped_or : (o : Option ℕ) (all : ℕ) → StopsAfter o all ⊎ (StopsAfter o all → ⊥)
stopped_or None all = inr (λ is. is)
stopped_or (Some calls) all = by_test (nat_lt calls all) refl
  where
    by_test : (test : Bool) → nat_lt calls all ≡ test → (calls < all) ⊎ (calls < all → ⊥)
    by_test true is = inl (ltb-true calls all is)
    by_test false is = inr (λ less. true≢false (sym (lt-ltb calls all less) ∙ is))

stopped_world : (w : MemWorld) → IsStopped (planned_of w) ⊎ (IsStopped (planned_of w) → ⊥)
stopped_world w = stopped_or (planned_of w).plan.stop_after (planned_of w).all

-- one moment more, of which the time before is known
pub any_chain : (c : Clock) (ms : List Moment) → Chain Any AnyTwo c ms
any_chain c [] = tt
any_chain c (m ∷ ms) = (tt, tt, any_chain c ms)

pub same_clock : (c k : Clock) (m n : Moment) → tick c m ≡ tick k n → c ≡ k
same_clock c k m n is =
    let both : c.now ∷ c.past ≡ k.now ∷ k.past = ap (λ (x : Clock). x.past) is in
    let first : c.now ≡ k.now = cc in
    let rest : c.past ≡ k.past = cc in
    ap (λ (x : Moment). record { now = x; past = c.past }) first ∙ ap (λ (xs : List Moment). record { now = k.now; past = xs }) rest

grows_tick : (at c : Clock) (m : Moment) → Grows at (tick c m) → (at ≡ tick c m) ⊎ Grows at c
grows_tick at c m g = by_added g.added g.grown
  where
    by_added : (ms : List Moment) → tick c m ≡ grow at ms → (at ≡ tick c m) ⊎ Grows at c
    by_added [] is = inl (sym is)
    by_added (n ∷ ms) is = inr (record { added = ms; grown = same_clock c (grow at ms) m n is; each = any_chain at ms })

untouched_tick : (c : Clock) (m : Moment) → IsUntouched m → Untouched c → Untouched (tick c m)
untouched_tick c m here before at g =
    ⊎_elim (λ (is : at ≡ tick c m). subst (λ (k : Clock). IsUntouched k.now) (sym is) here) (λ (more : Grows at c). before at more) (grows_tick at c m g)

pub untouched_now : (c : Clock) → Untouched c → IsUntouched c.now
untouched_now c all = all c (grows_start c)

-- a clock of one moment
grows_first : (at c : Clock) → c.past ≡ [] → Grows at c → at ≡ c
grows_first at c none g = by_added g.added g.grown
  where
    by_added : (ms : List Moment) → c ≡ grow at ms → at ≡ c
    by_added [] is = sym is
    by_added (n ∷ ms) is =
        let past : c.past ≡ (grow at ms).now ∷ (grow at ms).past = ap (λ (x : Clock). x.past) is in
        let no : [] ≡ (grow at ms).now ∷ (grow at ms).past = sym none ∙ past in
        absurd cc

-- a step of a made connection
made_on : (c d : Clock) → ((made : Clock) → IsServedFrom made c → IsServedFrom made d) → IsMade c → IsMade d
made_on c d on is = record { made = is.made; fresh = is.fresh; hello = is.hello; served = on is.made is.served }

-- What a call leaves of the server: the run is as it was, or the end of a connection was told.
abbrev Rests : MemWorld → MemWorld → Type 0
Rests old new = (run_in new ≡ run_in old) ⊎ (run_in new ≡ step did.Ended (run_in old))

module _ (old new : MemWorld) (rests : Rests old new) where
  by_run : (P : Run → Type 0) → P (run_in old) → P (step did.Ended (run_in old)) → P (run_in new)
  by_run P same ended =
      ⊎_elim (λ (is : run_in new ≡ run_in old). subst P (sym is) same) (λ (is : run_in new ≡ step did.Ended (run_in old)). subst P (sym is) ended) rests

  rest_offers : OffersAll (run_in old).state.choices → OffersAll (run_in new).state.choices
  rest_offers offers = by_run (λ (r : Run). OffersAll r.state.choices) offers offers

  rest_made : IsMade (run_in old).clock → IsMade (run_in new).clock
  rest_made is =
      by_run (λ (r : Run). IsMade r.clock) is
      (made_on (run_in old).clock (step did.Ended (run_in old)).clock (λ made served. on_peer made at_end (run_in old).clock refl served) is)

  rest_untouched : Untouched (run_in old).clock → Untouched (run_in new).clock
  rest_untouched all =
      let now = untouched_now (run_in old).clock all in
      by_run (λ (r : Run). Untouched r.clock) all
      (untouched_tick (run_in old).clock (step did.Ended (run_in old)).clock.now (record { untold = now.untold; none = refl }) all)

  rest_connection : (IsUnmade old → connection_at new ≡ None) → IsUnmade old ⊎ IsMade (run_in old).clock → IsUnmade new ⊎ IsMade (run_in new).clock
  rest_connection none (inl is) = inl (record { none = none is; untouched = rest_untouched is.untouched })
  rest_connection none (inr is) = inr (rest_made is)

-- with a plan by which nothing fails
calm_stop : (s : Planned) → s.plan ≡ nothing_fails → IsStopped s → ⊥
calm_stop s calm is = subst (λ (p : Plan). StopsAfter p.stop_after s.all) calm is

calm_link : (s : Planned) → s.plan ≡ nothing_fails → LinkIsToFail s → ⊥
calm_link s calm (inl stopped) = calm_stop s calm stopped
calm_link s calm (inr lost) =
    none-some lost.loss (sym (ap (λ (p : Plan). loss_in p.link_fails s.link) calm) ∙ lost.is)

calm_disk : (s : Planned) → s.plan ≡ nothing_fails → DiskIsToFail s → ⊥
calm_disk s calm (inl stopped) = calm_stop s calm stopped
calm_disk s calm (inr has) =
    let none : Contains [] s.disk = subst (λ (p : Plan). Contains p.disk_fails s.disk) calm has in
    omega (arith, none.1)

-- so where a call isn't to fail it succeeds, unless it was refused room
module _ {T E : Type 0} (reason : Type 0) (old new : MemWorld) (none : refused_of new ≡ 0) where
  succeeds : (result : Result T E) → FailsExactly reason result (refused_of old) (refused_of new) → (reason → ⊥) → (P : Type 0) → OnOk result P → P
  succeeds (Ok x) exact unplanned P ok = ok
  succeeds (Err e) exact unplanned P ok = absurd (none_counted (refused_of old) (refused_of new) none (exact.others unplanned))

-- what is counted goes on
module _ (old new : MemWorld) (plan_same : (planned_of new).plan ≡ (planned_of old).plan) (more : Grows (run_in old).clock (run_in new).clock) where
  link_so : (link_faults_of new ≡ link_faults_of old) ⊎ WasBare (run_in new).clock → (link_faults_of old ≡ 0) ⊎ WasBare (run_in old).clock →
      (link_faults_of new ≡ 0) ⊎ WasBare (run_in new).clock
  link_so (inl same) (inl zero) = inl (same ∙ zero)
  link_so (inl same) (inr bare) =
      inr (record { at = bare.at; later = grows_then bare.at (run_in old).clock (run_in new).clock bare.later more; is = bare.is })
  link_so (inr bare) before = inr bare

  unfailed_on : ((planned_of new).plan ≡ nothing_fails →
      (disk_faults_of new ≡ disk_faults_of old) × ((link_faults_of new ≡ link_faults_of old) ⊎ WasBare (run_in new).clock)) →
      IsUnfailed old → IsUnfailed new
  unfailed_on counts was calm =
      let before = was (sym plan_same ∙ calm) in
      let now = counts calm in
      (now.0 ∙ before.0, link_so now.1 before.1)

-- A call of the disk, behind which the time is as it was or has one moment more, with the same outside.
abbrev DiskTime : Clock → Clock → Type 0
DiskTime old new = (new ≡ old) ⊎ ((side : Side) × (file : Stored) × (new ≡ tick old (with_stored side file old.now)))

stored_outside : (side : Side) (file : Stored) (m : Moment) → (with_stored side file m).outside ≡ m.outside
stored_outside Left file m = refl
stored_outside Right file m = refl

disk_grows : (old new : Clock) → DiskTime old new → Grows old new
disk_grows old new (inl same) = subst (λ (k : Clock). Grows old k) (sym same) (grows_start old)
disk_grows old new (inr (side, file, is)) =
    since_tick Any AnyTwo old old new (with_stored side file old.now) (since_start Any AnyTwo old) is tt tt

disk_made : (old new : Clock) → DiskTime old new → IsMade old → IsMade new
disk_made old new (inl same) is = subst IsMade (sym same) is
disk_made old new (inr (side, file, to)) is =
    subst IsMade (sym to) (made_on old (tick old (with_stored side file old.now)) (λ made served. on_stored made side file old served) is)

disk_untouched : (old new : Clock) → DiskTime old new → Untouched old → Untouched new
disk_untouched old new (inl same) all = subst Untouched (sym same) all
disk_untouched old new (inr (side, file, to)) all =
    let now = untouched_now old all in
    let out = stored_outside side file old.now in
    subst Untouched (sym to)
    (untouched_tick old (with_stored side file old.now)
    (record {
      untold = ap (λ (p : Peer). p.talk.told) out ∙ now.untold;
      none = ap (λ (p : Peer). p.talk.arriving) out ∙ now.none;
    }) all)

module _ (old new : MemWorld) (none : refused_of new ≡ 0) {T E : Type 0} (result : Result T E) (called : CallsDisk old new result)
    (state : (run_in new).state ≡ (run_in old).state) (time : DiskTime (run_in old).clock (run_in new).clock)
    (unfailed : OnOk result (disk_faults_of new ≡ disk_faults_of old)) where
  disk_connection : IsUnmade old ⊎ IsMade (run_in old).clock → IsUnmade new ⊎ IsMade (run_in new).clock
  disk_connection (inl is) =
      inl (record { none = ap told_line called.line ∙ is.none; untouched = disk_untouched (run_in old).clock (run_in new).clock time is.untouched })
  disk_connection (inr is) = inr (disk_made (run_in old).clock (run_in new).clock time is)

  pub disk_served : IsServed old → IsServed new
  disk_served is = record {
    offers = subst (λ (s : State). OffersAll s.choices) (sym state) is.offers;
    connection = disk_connection is.connection;
    unfailed = unfailed_on old new (ap (λ (s : Planned). s.plan) called.next) (disk_grows (run_in old).clock (run_in new).clock time)
        (λ calm. (
          succeeds (DiskIsToFail (planned_of new)) old new none result called.exact (calm_disk (planned_of new) calm)
              (disk_faults_of new ≡ disk_faults_of old) unfailed,
          inl called.link,
        )) is.unfailed;
  }

-- A call of the link, as which nobody else changes anything.
module _ (old new : MemWorld) (quiet : (planned_of new).plan.foreign ≡ []) where
  pub entered_same : entered old new ≡ run_in old
  entered_same = ap (λ (fs : List (ℕ × List ℕ × Change)). changes fs (planned_of new).link (used_in old) (run_in old)) quiet

  pub anew_same : entered_anew old new ≡ step did.Ended (run_in old)
  anew_same = ap (λ (fs : List (ℕ × List ℕ × Change)). changes fs (planned_of new).link (used_anew old) (step did.Ended (run_in old))) quiet

linked_grows : (old new : MemWorld) → Linked AnyStep (run_in old).clock (run_in new).clock → Grows (run_in old).clock (run_in new).clock
linked_grows old new files = grows Any (LinkStep AnyStep) (run_in old).clock (run_in new).clock files

-- it begins a connection, or has told the end of one
module _ (old new : MemWorld) (quiet : (planned_of new).plan.foreign ≡ []) (none : refused_of new ≡ 0)
    (files : Linked AnyStep (run_in old).clock (run_in new).clock) (is : IsServed old) where
  anew_offers : OffersAll (entered_anew old new).state.choices
  anew_offers = subst (λ (r : Run). OffersAll r.state.choices) (sym (anew_same old new quiet)) is.offers

  greets_so : (r : Run) → OffersAll r.state.choices → run_in new ≡ step did.Greeted r →
      OffersAll (run_in new).state.choices × IsMade (run_in new).clock
  greets_so r offers same = (
    subst (λ (x : Run). OffersAll x.state.choices) (sym same) offers,
    subst (λ (x : Run). IsMade x.clock) (sym same) (greeted_made r),
  )

  begins : (h : Option Held) → (run_in old).held ≡ h → Connects old new → OffersAll (run_in new).state.choices × IsMade (run_in new).clock
  begins None same connects = greets_so (entered_anew old new) anew_offers (connects.free same)
  begins (Some held) same connects = by_held held.carried refl
    where
      by_held : (b : Bool) → held.carried ≡ b → OffersAll (run_in new).state.choices × IsMade (run_in new).clock
      by_held false was = greets_so (entered_anew old new) anew_offers (connects.dropped held same was)
      by_held true was =
          let r = entered_anew old new in
          greets_so (step did.Settled r) (subst OffersAll (sym (settled_choices r.held r.state)) anew_offers) (connects.carried held same was)

  module _ {T E : Type 0} (result : Result T E) (loses : (IsStopped (planned_of new) → ⊥) → (loss : Loss) → loss_by new ≡ Some loss →
      (run_in new ≡ entered_anew old new) ⊎ (EntersSomeAnew old new × Refuses old new)) (line : BeginsLine old new result)
      (called : CallsLink (LinkIsToFail (planned_of new)) old new result) where
    connect_counts : IsUnfailed new
    connect_counts = unfailed_on old new (ap (λ (s : Planned). s.plan) called.next) (linked_grows old new files)
        (λ calm. (
          called.disk,
          inl (succeeds (LinkIsToFail (planned_of new)) old new none result called.exact (calm_link (planned_of new) calm)
              (link_faults_of new ≡ link_faults_of old) called.unfailed),
        )) is.unfailed

    refused_not : Refuses old new → ⊥
    refused_not refuses = none_counted (refused_of old) (refused_of new) none refuses

    not_loss : (IsStopped (planned_of new) → ⊥) → loss_by new ≡ None → LinkIsToFail (planned_of new) → ⊥
    not_loss runs no_loss (inl stopped) = runs stopped
    not_loss runs no_loss (inr lost) = none-some lost.loss (sym no_loss ∙ lost.is)

    by_loss : (o : Option Loss) → loss_by new ≡ o → (IsStopped (planned_of new) → ⊥) → ((LinkIsToFail (planned_of new) → ⊥) → Refuses old new) →
        Rests old new
    by_loss None same runs refuses = absurd (refused_not (refuses (not_loss runs same)))
    by_loss (Some loss) same runs refuses =
        ⊎_elim (λ (did_so : run_in new ≡ entered_anew old new). inr (did_so ∙ anew_same old new quiet))
        (λ (both : EntersSomeAnew old new × Refuses old new). absurd (refused_not both.1)) (loses runs loss same)

    rests_so : ((LinkIsToFail (planned_of new) → ⊥) → Refuses old new) → Rests old new
    rests_so refuses =
        ⊎_elim (λ (stopped : IsStopped (planned_of new)). inl (called.stopped stopped))
        (λ (runs : IsStopped (planned_of new) → ⊥). by_loss (loss_by new) refl runs refuses) (stopped_world new)

-- `connect`
pub connect_served : (old new : MemWorld) → (planned_of new).plan.foreign ≡ [] → refused_of new ≡ 0 →
    Linked AnyStep (run_in old).clock (run_in new).clock → {T E : Type 0} (result : Result T E) → OnOk result (Connects old new) →
    ((IsStopped (planned_of new) → ⊥) → (loss : Loss) → loss_by new ≡ Some loss →
    (run_in new ≡ entered_anew old new) ⊎ (EntersSomeAnew old new × Refuses old new)) → BeginsLine old new result →
    CallsLink (LinkIsToFail (planned_of new)) old new result → IsServed old → IsServed new
connect_served old new quiet none files (Ok x) connects loses line called is =
    let so = begins old new quiet none files is (run_in old).held refl connects in
    record { offers = so.0; connection = inr so.1; unfailed = connect_counts old new quiet none files is (Ok x) loses line called }
connect_served old new quiet none files (Err e) connects loses line called is =
    let rests = rests_so old new quiet none files is (Err e) loses line called called.exact.others in
    record {
      offers = rest_offers old new rests is.offers;
      connection = rest_connection old new rests (λ un. line.lost) is.connection;
      unfailed = connect_counts old new quiet none files is (Err e) loses line called;
    }

-- in a connection that is there
made_there : (w : MemWorld) (c : Connection) → connection_at w ≡ Some c → IsUnmade w ⊎ IsMade (run_in w).clock → IsMade (run_in w).clock
made_there w c there (inl un) = absurd (none-some c (sym un.none ∙ there))
made_there w c there (inr is) = is

stands_made : (k : Clock) (made : IsMade k) (r : Run) → StandsServed made.made r → IsMade r.clock
stands_made k made r is = record { made = made.made; fresh = made.fresh; hello = made.hello; served = is.served }

module _ (old new : MemWorld) (quiet : (planned_of new).plan.foreign ≡ []) (none : refused_of new ≡ 0)
    (files : Linked AnyStep (run_in old).clock (run_in new).clock) (is : IsServed old) (c : Connection) (there : connection_at old ≡ Some c) where
  made_old : IsMade (run_in old).clock
  made_old = made_there old c there is.connection

  going : IsGoing made_old.made (served_by old (entered old new)) (entered old new)
  going =
      let w = world_going old c there is.offers made_old in
      record {
        each_open = w.each_open;
        offers = subst (λ (r : Run). OffersAll r.state.choices) (sym (entered_same old new quiet)) w.offers;
        level = subst IsLevel (sym (entered_same old new quiet)) w.level;
        served = subst (λ (r : Run). IsServedFrom made_old.made r.clock) (sym (entered_same old new quiet)) w.served;
      }

  as_served : StandsServed made_old.made (run_in new) → IsUnfailed new → IsServed new
  as_served so unfailed = record { offers = so.offers; connection = inr (stands_made (run_in old).clock made_old (run_in new) so); unfailed = unfailed }

  as_before : run_in new ≡ run_in old → IsUnfailed new → IsServed new
  as_before same unfailed = record {
    offers = subst (λ (r : Run). OffersAll r.state.choices) (sym same) is.offers;
    connection = inr (subst (λ (r : Run). IsMade r.clock) (sym same) made_old);
    unfailed = unfailed;
  }

  -- `send`
  module _ {T E : Type 0} (result : Result T E) (called : CallsLink (LinkIsToFail (planned_of new) ⊎ (connection_at old ≡ None)) old new result) where
    no_reason : (LinkIsToFail (planned_of new) → ⊥) → (LinkIsToFail (planned_of new) ⊎ (connection_at old ≡ None)) → ⊥
    no_reason unplanned (inl planned) = unplanned planned
    no_reason unplanned (inr off) = none-some c (sym off ∙ there)

    send_counts : IsUnfailed new
    send_counts = unfailed_on old new (ap (λ (s : Planned). s.plan) called.next) (linked_grows old new files)
        (λ calm. (
          called.disk,
          inl (succeeds (LinkIsToFail (planned_of new) ⊎ (connection_at old ≡ None)) old new none result called.exact
              (no_reason (calm_link (planned_of new) calm)) (link_faults_of new ≡ link_faults_of old) called.unfailed),
        )) is.unfailed

    send_failed : (bytes : List ℕ) → ((IsStopped (planned_of new) → ⊥) → (connection_at old ≡ None → ⊥) → (loss : Loss) → loss_by new ≡ Some loss →
        Downed loss bytes old new) →
        (((LinkIsToFail (planned_of new) ⊎ (connection_at old ≡ None)) → ⊥) → Refuses old new) → IsServed new
    send_failed bytes downed refuses =
        ⊎_elim (λ (stopped : IsStopped (planned_of new)). as_before (called.stopped stopped) send_counts)
        (λ (runs : IsStopped (planned_of new) → ⊥). by_loss (loss_by new) refl runs) (stopped_world new)
      where
        no_call : (IsStopped (planned_of new) → ⊥) → loss_by new ≡ None → LinkIsToFail (planned_of new) → ⊥
        no_call runs no_loss (inl stopped) = runs stopped
        no_call runs no_loss (inr lost) = none-some lost.loss (sym no_loss ∙ lost.is)

        by_loss : (o : Option Loss) → loss_by new ≡ o → (IsStopped (planned_of new) → ⊥) → IsServed new
        by_loss None same runs =
            absurd (none_counted (refused_of old) (refused_of new) none (refuses (no_reason (no_call runs same))))
        by_loss (Some loss) same runs =
            ⊎_elim (λ (loses : Loses loss bytes (served_by old (entered old new)) (entered old new) (run_in new)).
            as_served (loses_served made_old.made loss bytes (served_by old (entered old new)) (entered old new) (run_in new) loses going) send_counts)
            (λ (refused : Refuses old new). absurd (none_counted (refused_of old) (refused_of new) none refused))
            (downed runs (λ off. none-some c (sym off ∙ there)) loss same).loses

  pub send_served : {T E : Type 0} (result : Result T E) (bytes : List ℕ) →
      OnOk result (HearsBytes bytes (served_by old (entered old new)) (entered old new) (server_of new) (run_in new)) →
      ((IsStopped (planned_of new) → ⊥) → (connection_at old ≡ None → ⊥) → (loss : Loss) → loss_by new ≡ Some loss → Downed loss bytes old new) →
      CallsLink (LinkIsToFail (planned_of new) ⊎ (connection_at old ≡ None)) old new result → IsServed new
  send_served (Ok x) bytes hears downed called =
      as_served (bytes_served made_old.made bytes (served_by old (entered old new)) (entered old new) (server_of new) (run_in new) hears going)
      (send_counts (Ok x) called)
  send_served (Err e) bytes hears downed called = send_failed (Err e) called bytes downed called.exact.others

  -- `recv`: where it is called while a reply is due, and nothing waits to be received, bytes have come that aren't a whole part
  module _ (due : IsDue (run_in old).clock.now.outside c.received) where
    pub bare_old : waits_in (line_in old) ≡ [] → IsBare (run_in old).clock.now
    bare_old waits =
        let k : Course = course_of old in
        bare_on k.phase c k.files k.server k.held k.parts k.unfinished k.lines.items k.received (run_in old) there waits k.stands due

    module _ {E : Type 0} (result : Result ℕ E) (run : OnOk result (run_in new ≡ entered old new))
        (loses : (IsStopped (planned_of new) → ⊥) → OnErr result ((run_in new ≡ entered old new) ⊎ (EntersSome old new × Refuses old new)))
        (called : CallsLink (LinkIsToFail (planned_of new) ⊎ (waits_in (line_in old) ≡ [])) old new result) where
      same_from : (run_in new ≡ entered old new) → run_in new ≡ run_in old
      same_from did_so = did_so ∙ entered_same old new quiet

      some_bytes : (LinkIsToFail (planned_of new) → ⊥) → (l : List ℕ) → waits_in (line_in old) ≡ l → (l ≡ [] → ⊥) →
          (LinkIsToFail (planned_of new) ⊎ (waits_in (line_in old) ≡ [])) → ⊥
      some_bytes unplanned l same some (inl planned) = unplanned planned
      some_bytes unplanned l same some (inr empty) = some (sym same ∙ empty)

      not_refused : Refuses old new → ⊥
      not_refused refuses = none_counted (refused_of old) (refused_of new) none refuses

      recv_same : run_in new ≡ run_in old
      recv_same = by_result result run loses
        where
          by_result : (r : Result ℕ E) → OnOk r (run_in new ≡ entered old new) →
              ((IsStopped (planned_of new) → ⊥) → OnErr r ((run_in new ≡ entered old new) ⊎ (EntersSome old new × Refuses old new))) →
              run_in new ≡ run_in old
          by_result (Ok n) ok err = same_from ok
          by_result (Err e) ok err =
              ⊎_elim called.stopped
              (λ (runs : IsStopped (planned_of new) → ⊥).
              ⊎_elim same_from (λ (both : EntersSome old new × Refuses old new). absurd (not_refused both.1)) (err runs)) (stopped_world new)

      bare_new : IsBare (run_in old).clock.now → WasBare (run_in new).clock
      bare_new bare = record {
        at = (run_in new).clock;
        later = grows_start (run_in new).clock;
        is = subst (λ (r : Run). IsBare r.clock.now) (sym recv_same) bare;
      }

      recv_links : (planned_of new).plan ≡ nothing_fails → (link_faults_of new ≡ link_faults_of old) ⊎ WasBare (run_in new).clock
      recv_links calm = by_waits (waits_in (line_in old)) refl
        where
          by_waits : (l : List ℕ) → waits_in (line_in old) ≡ l → (link_faults_of new ≡ link_faults_of old) ⊎ WasBare (run_in new).clock
          by_waits [] same = inr (bare_new (bare_old same))
          by_waits (byte ∷ bytes) same =
              inl (succeeds (LinkIsToFail (planned_of new) ⊎ (waits_in (line_in old) ≡ [])) old new none result called.exact
              (some_bytes (calm_link (planned_of new) calm) (byte ∷ bytes) same (λ empty. cc)) (link_faults_of new ≡ link_faults_of old)
              called.unfailed)

      pub recv_served : IsServed new
      recv_served = as_before recv_same
          (unfailed_on old new (ap (λ (s : Planned). s.plan) called.next) (linked_grows old new files) (λ calm. (called.disk, recv_links calm)) is.unfailed)

-- a reply is due in a connection that is there
pub due_there : (p : Peer) (o : Option Connection) → IsReplyDue p o → (c : Connection) × (o ≡ Some c) × IsDue p c.received
due_there p None due = absurd due
due_there p (Some c) due = (c, refl, due)

-- `close`
pub close_served : (old new : MemWorld) → (planned_of new).plan.foreign ≡ [] → refused_of new ≡ 0 →
    Linked AnyStep (run_in old).clock (run_in new).clock → ((IsStopped (planned_of new) → ⊥) →
    ((run_in new ≡ entered old new) × (refused_of new ≡ refused_of old)) ⊎ (EntersSome old new × Refuses old new)) →
    (IsStopped (planned_of new) → run_in new ≡ run_in old) → connection_at new ≡ None → planned_of new ≡ next_link (planned_of old) →
    disk_faults_of new ≡ disk_faults_of old → link_faults_of new ≡ link_faults_of old → IsServed old → IsServed new
close_served old new quiet none files run stopped off next disk link is =
    let same : Rests old new =
    ⊎_elim (λ (was : IsStopped (planned_of new)). inl (stopped was))
    (λ (runs : IsStopped (planned_of new) → ⊥).
    ⊎_elim (λ (did_so : (run_in new ≡ entered old new) × (refused_of new ≡ refused_of old)). inl (did_so.0 ∙ entered_same old new quiet))
    (λ (both : EntersSome old new × Refuses old new). absurd (none_counted (refused_of old) (refused_of new) none both.1)) (run runs))
    (stopped_world new) in
    record {
      offers = rest_offers old new same is.offers;
      connection = rest_connection old new same (λ was. off) is.connection;
      unfailed = unfailed_on old new (ap (λ (s : Planned). s.plan) next) (linked_grows old new files) (λ calm. (disk, inl link)) is.unfailed;
    }

-- a world that goes on behind a stop
left_choices : (held : Option Held) (s : State) → OffersAll s.choices → OffersAll (left_of held s).choices
left_choices None s offers = offers
left_choices (Some held) s offers = offers

no_connection : (held : Option Held) → told_line (no_line held) ≡ None
no_connection None = refl
no_connection (Some held) = refl

pub start_untouched : (files : Files) (s : State) (held : Option Held) → Untouched (start files s held).clock
start_untouched files s held at g =
    subst (λ (k : Clock). IsUntouched k.now) (sym (grows_first at (start files s held).clock refl g)) (record { untold = refl; none = refl })

pub restart_served : (old new : MemWorld) (files : Files) (plan : Plan) → run_in new ≡ goes_on_from files (run_in old) →
    line_in new ≡ no_line (run_in old).held → IsUncalled plan new → IsServed old → IsServed new
restart_served old new files plan same line uncalled is = record {
  offers = subst (λ (r : Run). OffersAll r.state.choices) (sym same) (left_choices (run_in old).held (run_in old).state is.offers);
  connection = inl (record {
    none = ap told_line line ∙ no_connection (run_in old).held;
    untouched = subst (λ (r : Run). Untouched r.clock) (sym same) (start_untouched files (left_of (run_in old).held (run_in old).state) (run_in old).held);
  });
  unfailed = λ calm. (uncalled.faults, inl uncalled.link);
}

-- what is known of a world whose memory sufficed
pub still_served : (was wants : Bool) (old new : MemWorld) → (wants ≡ false → (was ≡ false) × (refused_of new ≡ 0)) →
    ∥ (was ≡ false → IsServed old) ∥₁ → (refused_of new ≡ 0 → IsServed old → IsServed new) → ∥ (wants ≡ false → IsServed new) ∥₁
still_served was wants old new tells served keeps =
    ∥∥₁_map served (λ known sufficed. let both = tells sufficed in keeps both.1 (known both.0))

-- a world with a plan by which something fails
pub planned_served : (old new : MemWorld) (plan : Plan) → course_of new ≡ course_of old → planned_of new ≡ unbegun plan → (plan ≡ nothing_fails → ⊥) →
    IsServed old → IsServed new
planned_served old new plan course planned fails is =
    let same : run_in new ≡ run_in old = ap run_of course in
    record {
      offers = subst (λ (r : Run). OffersAll r.state.choices) (sym same) is.offers;
      connection = by_connection is.connection;
      unfailed = λ calm. absurd (fails (sym (ap (λ (s : Planned). s.plan) planned) ∙ calm));
    }
  where
    by_connection : IsUnmade old ⊎ IsMade (run_in old).clock → IsUnmade new ⊎ IsMade (run_in new).clock
    by_connection (inl un) = inl (record {
      none = ap connection_of course ∙ un.none;
      untouched = subst (λ (k : Course). Untouched (run_of k).clock) (sym course) un.untouched;
    })
    by_connection (inr made) = inr (subst (λ (k : Course). IsMade (run_of k).clock) (sym course) made)

-- the time of a write, and of a sync
pub write_time : {T E : Type 0} (side : Side) (at : ℕ) (bytes : List ℕ) (old new : Run) (result : Result T E) →
    Wrote side at bytes old.clock new.clock old.seen new.seen result → OnErr result (new ≡ old) → DiskTime old.clock new.clock
write_time side at bytes old new (Ok x) wrote failed = inr (side, _, wrote.done)
write_time side at bytes old new (Err e) wrote failed = inl (ap (λ (r : Run). r.clock) failed)

pub sync_time : {T E : Type 0} (side : Side) (old new : Run) (result : Result T E) → Synced side old.clock new.clock old.seen new.seen result →
    OnErr result (new ≡ old) → DiskTime old.clock new.clock
sync_time side old new (Ok x) synced failed = inr (side, _, synced.done)
sync_time side old new (Err e) synced failed = inl (ap (λ (r : Run). r.clock) failed)
