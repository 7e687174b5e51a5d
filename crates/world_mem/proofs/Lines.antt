-- The connection of a world in memory.
use Rattle.std.proofs.Common.{◌≡◌, ◌⊎◌, ⊎_elim, ◌+◌, ℕ, Bool, true, false, List, ◌++◌, take, drop, Option, Some, None, IfSome, Result, Ok, Err, OnOk}
use Rattle.std.proofs.Common.{OnErr, refl, sym, ◌∙◌, ap, subst}
use Rattle.std.proofs.Math.Seq.{take-add}
use Rattle.std.proofs.lemmas.Option.{same_Some}
use Rattle.std.specs.Prelude.{is_some, is_err}
use Rattle.world_mem.specs.Planned.{Planned, IsStopped, loss_in}
use Rattle.world_mem.specs.Worlds.{FailsExactly, IsLost}
use Rattle.world_mem.specs.declared.plan.Loss.{Loss}
use Rattle.world_mem.specs.Memory.{Line, told_line}
use Rattle.world_mem.specs.Standing.{is_on, connection_in}

received_more : (on : Bool) (lines : List ℕ) (received n : ℕ) (piece : List ℕ) → piece ≡ take n (drop received lines)
    → IfSome (connection_in on lines received) (λ c. connection_in on lines (received + n) ≡ Some (record c { received = c.received ++ piece }))
received_more false lines received n piece is = tt
received_more true lines received n piece is =
    ap (λ (x : List ℕ). Some (record { received = x })) (take-add received n lines ∙ ap (λ (x : List ℕ). take received lines ++ x) (sym is))

-- bytes of what waits were received
pub received_line : (old new : Line) (n : ℕ) (piece : List ℕ) → new ≡ record old { received = old.received + n } → piece ≡ take n (drop old.received old.lines)
    → IfSome (told_line old) (λ c. told_line new ≡ Some (record c { received = c.received ++ piece }))
received_line old new n piece is same =
    subst (λ (l : Line). IfSome (told_line old) (λ c. told_line l ≡ Some (record c { received = c.received ++ piece }))) (sym is)
    (received_more (is_on old.phase) old.lines old.received n piece same)

-- the connection is lost in the last call
some_loss : (o : Option Loss) → is_some o ≡ true → (x : Loss) × (o ≡ Some x)
some_loss None is = absurd (cc is)
some_loss (Some x) is = (x, refl)

pub is_lost : (s t : Planned) (o : Option Loss) → is_some o ≡ true → o ≡ loss_in s.plan.link_fails s.link → t ≡ s → IsLost t
is_lost s t o some is same =
    let found = some_loss o some in
    subst IsLost (sym same) (record { loss = found.0; is = sym is ∙ found.1 })

-- there is one loss for a call
pub same_loss : (s t : Planned) (o : Option Loss) (one other : Loss) → o ≡ Some one → o ≡ loss_in s.plan.link_fails s.link → t ≡ s →
    loss_in t.plan.link_fails t.link ≡ Some other → one ≡ other
same_loss s t o one other is found same that = same_Some one other (sym is ∙ found ∙ sym (ap (λ (x : Planned). loss_in x.plan.link_fails x.link) same) ∙ that)

-- a call that failed for its reason
pub failed_by : {T E : Type 0} (reason : Type 0) (e : E) (before after : ℕ) → reason → FailsExactly {T = T} {E = E} reason (Err e) before after
failed_by reason e before after why = record { planned = λ w. refl; others = λ none. absurd (none why) }

-- a call on the way failed, or not
pub on_err : {T E : Type 0} (r : Result T E) (P : Type 0) → is_err r ≡ true → OnErr r P → P
on_err (Ok x) P failed h = absurd (cc failed)
on_err (Err e) P failed h = h

pub anyway : {T E P : Type 0} (r : Result T E) → P → OnErr r P
anyway (Ok x) h = tt
anyway (Err e) h = h

pub on_ok : {T E : Type 0} (r : Result T E) (P : Type 0) → is_err r ≡ false → OnOk r P → P
on_ok (Ok x) P done h = h
on_ok (Err e) P done h = absurd (cc done)

pub more_ok : {T E A C : Type 0} (r : Result T E) → (A → C) → OnOk r A → OnOk r C
more_ok (Ok x) f h = f h
more_ok (Err e) f h = tt

pub more_err : {T E A C : Type 0} (r : Result T E) → (A → C) → OnErr r A → OnErr r C
more_err (Ok x) f h = tt
more_err (Err e) f h = f h

-- no loss is planned for the last call
pub no_loss : (s t : Planned) (o : Option Loss) (loss : Loss) → is_some o ≡ false → o ≡ loss_in s.plan.link_fails s.link → t ≡ s →
    loss_in t.plan.link_fails t.link ≡ Some loss → ⊥
no_loss s t o loss none is same that =
    let found : is_some o ≡ true = ap is_some (is ∙ sym (ap (λ (x : Planned). loss_in x.plan.link_fails x.link) same) ∙ that) in
    cc

-- more was sent, and nothing was received
pub same_connection : (old mid new : Line) → mid ≡ old → is_on mid.phase ≡ true → is_on new.phase ≡ true →
    take new.received new.lines ≡ take mid.received mid.lines → told_line new ≡ told_line old
same_connection old mid new same on still received =
    ap (λ (b : Bool). connection_in b new.lines new.received) still
    ∙ ap (λ (x : List ℕ). Some (record { received = x })) received
    ∙ sym (ap (λ (b : Bool). connection_in b mid.lines mid.received) on)
    ∙ ap told_line same

pub no_connection : (old mid : Line) → mid ≡ old → is_on mid.phase ≡ false → told_line old ≡ None
no_connection old mid same off = sym (ap told_line same) ∙ ap (λ (b : Bool). connection_in b mid.lines mid.received) off

-- the world had not stopped
pub runs_on : (s t : Planned) → t ≡ s → (IsStopped t → ⊥) → IsStopped s → ⊥
runs_on s t same runs stopped = runs (subst IsStopped (sym same) stopped)

-- a call that has begun: the world had not stopped
pub begun_runs : {T E : Type 0} (x : T) (s t : Planned) (before after : ℕ) → t ≡ s → FailsExactly {T = T} {E = E} (IsStopped s) (Ok x) before after →
    IsStopped t → ⊥
begun_runs x s t before after same exact stopped =
    let failed = exact.planned (subst IsStopped same stopped) in
    cc

-- there is a connection in it
pub is_there : (old mid : Line) → mid ≡ old → is_on mid.phase ≡ true → told_line old ≡ None → ⊥
is_there old mid same on none =
    let found : connection_in true mid.lines mid.received ≡ None =
    sym (ap (λ (b : Bool). connection_in b mid.lines mid.received) on) ∙ ap told_line same ∙ none in
    cc

-- so it isn't one in which nothing is sent
pub is_sent : {A T E : Type 0} (x : T) (s t : Planned) (before after : ℕ) (old mid : Line) → t ≡ s →
    FailsExactly {T = T} {E = E} (IsStopped s) (Ok x) before after → mid ≡ old → is_on mid.phase ≡ true →
    IsStopped t ⊎ (told_line old ≡ None) → A
is_sent x s t before after old mid same exact still on none =
    ⊎_elim (λ stopped. absurd (begun_runs x s t before after same exact stopped)) (λ off. absurd (is_there old mid still on off)) none
