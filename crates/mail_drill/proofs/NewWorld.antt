-- The world that a drill begins with: two empty files, and a server that nothing has happened to.
use Rattle.std.proofs.Common.{◌≡◌, inl, inr, ℕ, Bool, true, false, List, [], ◌∷◌, None, Result, Ok, Err, IfOk, refl, sym, ◌∙◌, ap, subst, arith}
use Rattle.std.specs.Prelude.{codes}
use Rattle.imap_model.specs.PlainServer.{enabled_names}
use Rattle.imap_model.specs.WellFormed.{IsWellFormed}
use Rattle.imap_model.specs.declared.response.Response.TheVariants as responses
use Rattle.imap_model.specs.declared.server.Mailbox.{Mailbox}
use Rattle.imap_session.specs.Enabled.{is_enabled}
use Rattle.journal_core.specs.Creating.{IsUnbegun}
use Rattle.world_traits.specs.Files.{Files}
use Rattle.world_traits.specs.Moments.{Rests}
use Rattle.world_traits.specs.declared.disk.Side.TheVariants.{Left, Right}
use Rattle.world_traits.proofs.Resting.{resting}
use Rattle.server_mem.specs.Offers.{atoms}
use Rattle.server_mem.specs.States.{State, disconnected, fresh}
use Rattle.world_mem.specs.Memory.{told_line, unmade}
use Rattle.world_mem.specs.Planned.{unbegun}
use Rattle.world_mem.specs.Running.{Run, start}
use Rattle.world_mem.specs.Tally.{IsUncalled}
use Rattle.world_mem.specs.Worlds.{line_in, planned_of, run_in}
use Rattle.world_mem.specs.declared.course.Phase.TheVariants as phases
use Rattle.world_mem.specs.declared.mem_world.MemWorld.{MemWorld}
use Rattle.world_mem.specs.declared.plan.Plan.{Plan}
use Rattle.book_laws.proofs.Carrying.{nothing_waits}
use Rattle.mail_top.specs.KeptNow.{IsKeptNow}
use Rattle.mail_drill.specs.Alone.{is_alone}
use Rattle.mail_drill.specs.Beginning.{IsNew, boxes_at_first}
use Rattle.mail_drill.specs.Connected.{IsServed, Untouched}
use Rattle.mail_drill.specs.Misfortunes.{nothing_fails}
use Rattle.mail_drill.specs.Offering.{OffersAll}
use Rattle.mail_drill.proofs.ServedCalls.{start_untouched}

-- two empty files
abbrev empty : Files
empty = record { left = []; right = [] }

-- no side of them is begun
none_begun : IsUnbegun empty
none_begun Left begun = absurd (omega (arith, begun.long))
none_begun Right begun = absurd (omega (arith, begun.long))

-- what the server offers, which are atoms
abbrev pub offers_at_first : List (List ℕ)
offers_at_first = codes "IMAP4rev2" ∷ codes "QRESYNC" ∷ []

-- the run of a world of empty files, of these mailboxes and of what the server offers
abbrev new_run : List Mailbox → List (List ℕ) → Run
new_run boxes offers = start empty (disconnected (fresh boxes offers)) None

-- all that its files read as is on the disk
at_rest : (boxes : List Mailbox) (offers : List (List ℕ)) → Rests (new_run boxes offers).clock.now empty
at_rest boxes offers = record { left = refl; right = refl }

-- without a journal, a change of this client or a command that waits, the moment is a kept one
is_kept : (boxes : List Mailbox) (offers : List (List ℕ)) → IsWellFormed boxes → IsKeptNow (new_run boxes offers).clock.now
is_kept boxes offers well = record {
  each = λ files leaves. record {
    book = None;
    holds = subst IsUnbegun (sym (resting (new_run boxes offers).clock.now empty files (at_rest boxes offers) leaves)) none_begun;
    related = record { well = well; none = tt; quiet = nothing_waits };
  };
}

-- a world of that run in which nothing fails is a new one
is_new : (size : ℕ) (world : MemWorld) (boxes : List Mailbox) (offers : List (List ℕ)) → run_in world ≡ new_run boxes offers →
    planned_of world ≡ unbegun nothing_fails → IsWellFormed boxes → boxes ≡ boxes_at_first size → offers ≡ offers_at_first → IsNew size world
is_new size world boxes offers run plan well boxes_are offers_are = record {
  rests = subst (λ (r : Run). Rests r.clock.now r.seen) (sym run) (at_rest boxes offers);
  unbegun = subst (λ (r : Run). IsUnbegun r.seen) (sym run) none_begun;
  kept = subst (λ (r : Run). IsKeptNow r.clock.now) (sym run) (is_kept boxes offers well);
  boxes = ap (λ (r : Run). r.clock.now.outside.server.boxes) run ∙ boxes_are;
  history = ap (λ (r : Run). r.clock.now.outside.server.history) run;
  untold = ap (λ (r : Run). r.clock.now.outside.talk.told) run;
  offers = ap (λ (r : Run). r.state.choices.offers) run ∙ offers_are;
  planned = plan;
  alone = ap (λ (r : Run). is_alone r.clock) run;
}

-- its server offers what a run needs, whatever its mailboxes are
enables_at_first : (rev2 : Bool) →
    is_enabled (codes "QRESYNC") (responses.Enabled (enabled_names (fresh [] offers_at_first).choices rev2) ∷ []) ≡ true
enables_at_first true = refl
enables_at_first false = refl

pub offers_first : (boxes : List Mailbox) → OffersAll (fresh boxes offers_at_first).choices
offers_first boxes = record {
  login = inr refl;
  fit = record { qresync = refl; moves = inl refl };
  enables = enables_at_first;
  each_open = refl;
}

-- a world of that run in which nothing was called serves
serves_new : (world : MemWorld) (boxes : List Mailbox) (offers : List (List ℕ)) (plan : Plan) → run_in world ≡ new_run boxes offers →
    line_in world ≡ unmade phases.Off → IsUncalled plan world → offers ≡ offers_at_first → IsServed world
serves_new world boxes offers plan run line uncalled offers_are = record {
  offers = subst (λ (r : Run). OffersAll r.state.choices) (sym run)
      (subst (λ (l : List (List ℕ)). OffersAll (fresh boxes l).choices) (sym offers_are) (offers_first boxes));
  connection = inl (record {
    none = ap told_line line;
    untouched = subst (λ (r : Run). Untouched r.clock) (sym run) (start_untouched empty (disconnected (fresh boxes offers)) None);
  });
  unfailed = λ calm. (uncalled.faults, inl uncalled.link);
}

-- two files without bytes and a server as it is made give that run
same_run : (left right : List ℕ) (server : State) (boxes : List Mailbox) (offers : List (List ℕ)) → left ≡ [] → right ≡ [] →
    server ≡ fresh boxes offers → start (record { left = left; right = right }) (disconnected server) None ≡ new_run boxes offers
same_run left right server boxes offers none_left none_right is =
    ap (λ (l : List ℕ). start (record { left = l; right = right }) (disconnected server) None) none_left
    ∙ ap (λ (l : List ℕ). start (record { left = []; right = l }) (disconnected server) None) none_right
    ∙ ap (λ (s : State). start empty (disconnected s) None) is

-- so is the one that is made of two empty files and of a server of these mailboxes, if one is made
pub new_world : {E : Type 0} (r : Result MemWorld E) (size : ℕ) (left right : List ℕ) (server : State) (boxes : List Mailbox)
    (offers : List (List ℕ)) (plan : Plan) → IfOk r (λ world. run_in world ≡ start (record { left = left; right = right }) (disconnected server) None) →
    IfOk r (IsUncalled plan) → left ≡ [] → right ≡ [] → server ≡ fresh boxes (atoms offers) → plan ≡ nothing_fails →
    IsWellFormed boxes → boxes ≡ boxes_at_first size → offers ≡ offers_at_first → IfOk r (IsNew size)
new_world (Ok world) size left right server boxes offers plan run uncalled none_left none_right is quiet well boxes_are offers_are =
    is_new size world boxes (atoms offers) (run ∙ same_run left right server boxes (atoms offers) none_left none_right is)
    (uncalled.plan ∙ ap (λ (p : Plan). unbegun p) quiet) well boxes_are (ap (λ (l : List (List ℕ)). atoms l) offers_are)
new_world (Err fault) size left right server boxes offers plan run uncalled none_left none_right is quiet well boxes_are offers_are = tt

-- and it serves
pub new_served : {E : Type 0} (r : Result MemWorld E) (left right : List ℕ) (server : State) (boxes : List Mailbox) (offers : List (List ℕ))
    (plan : Plan) → IfOk r (λ world. run_in world ≡ start (record { left = left; right = right }) (disconnected server) None) →
    IfOk r (λ world. line_in world ≡ unmade phases.Off) → IfOk r (IsUncalled plan) → left ≡ [] → right ≡ [] → server ≡ fresh boxes (atoms offers) →
    offers ≡ offers_at_first → IfOk r IsServed
new_served (Ok world) left right server boxes offers plan run line uncalled none_left none_right is offers_are =
    serves_new world boxes (atoms offers) plan (run ∙ same_run left right server boxes (atoms offers) none_left none_right is) line uncalled
    (ap (λ (l : List (List ℕ)). atoms l) offers_are)
new_served (Err fault) left right server boxes offers plan run line uncalled none_left none_right is offers_are = tt
