-- A command that works with the files alone is joined: each moment is kept, by a step of the book beside the server.
use Rattle.std.proofs.Common.{◌≡◌, ◌⊎◌, inl, inr, ℕ, List, Bool, Option, Some, None, refl, sym, subst}
use Rattle.std.proofs.lemmas.Option.{same_Some}
use Rattle.imap_model.specs.Carrying.{Waiting}
use Rattle.imap_model.specs.Talking.{Peer}
use Rattle.imap_model.specs.declared.server.Server.{Server}
use Rattle.world_traits.specs.Links.{Any}
use Rattle.world_traits.specs.Moments.{Moment, Clock, Since}
use Rattle.world_traits.proofs.Passing.{since_weaker}
use Rattle.world_traits.proofs.Traces.{since_carry}
use Rattle.action_queue.specs.Book.{Meaning, cache_at}
use Rattle.action_queue.specs.Writable.{IsWritable}
use Rattle.action_queue.specs.declared.action.Action.{Action}
use Rattle.action_queue.specs.declared.event.Event.{Event}
use Rattle.action_queue.specs.declared.target.Target.{Target}
use Rattle.action_queue.specs.declared.target.Target.TheVariants as targets
use Rattle.local_view.specs.declared.seen.Ident.{Ident}
use Rattle.local_view.specs.declared.seen.Ident.TheVariants as ident
use Rattle.mailbox_cache.specs.declared.cache.Cache.{Cache}
use Rattle.book_laws.specs.Fresh.{Fresh}
use Rattle.book_laws.specs.Kept.{Kept}
use Rattle.book_laws.specs.Permitted.{Permits}
use Rattle.book_laws.specs.Reached.{ActionReached, TargetReached}
use Rattle.store_core.specs.Mail.{mail}
use Rattle.store_core.specs.Steps.{Books, MakesFirm, Chooses, EachBook}
use Rattle.store_core.proofs.MailBook.{one_mail_event}
use Rattle.play_driver.specs.Joining.{Joined}
use Rattle.play_driver.specs.Machine.{Step}
use Rattle.play_driver.specs.Machine.Step.{rests, begins, firm, chooses}
use Rattle.play_driver.specs.States.{state_of}
use Rattle.play_driver.specs.Played.{played}
use Rattle.play_driver.proofs.Kept.{kept_books}
use Rattle.play_driver.proofs.Steps.{joined_keeps}
use Rattle.play_driver.proofs.Parts.{since_first}
use Rattle.play_driver.proofs.PlayedKept.{withstood}
use Rattle.mail_top.specs.Actions.{Becomes, next_id, accepts, target_in}
use Rattle.mail_top.specs.KeptNow.{IsKeptNow, StaysKept}
use Rattle.mail_top.specs.Leaving.{IsDue, BeginsDue, RequestStep}
use Rattle.mail_top.specs.Weighing.{Admits}
use Rattle.mail_top.specs.Words.{Wanted, Request, Init, Act, Rows, Queue, Report, Play, HasFewFlags, Flag, Move, Append}
use Rattle.mail_top.proofs.Repeated.{outside_same}
use Rattle.mail_top.proofs.Admitting.{admitted_writable}

-- what is asked for is an action that has a record
abbrev pub HasRecords : Request → Type 0
HasRecords request = (wanted : Wanted) (b : Meaning) (action : Action) → request ≡ Act wanted → Admits wanted b (next_id b) action →
    IsWritable (accepts b action)

pub init_records : (names : List (List ℕ)) → HasRecords (Init names)
init_records names wanted b action is admits = absurd cc

pub queue_records : HasRecords Queue
queue_records wanted b action is admits = absurd cc

pub action_records : (wanted : Wanted) → HasFewFlags wanted → HasRecords (Act wanted)
action_records wanted few other b action is admits =
    let same : wanted ≡ other = cc in admitted_writable other b (next_id b) action (subst HasFewFlags same few) admits

-- the target of a message names what its mailbox has reached
target_reached : (b : Meaning) (s : Server) → Fresh b s.boxes → (name : List ℕ) (id : Ident) (target : Target) (o : Option Cache) →
    cache_at name b.boxes ≡ o → target_in name o id ≡ Some target → TargetReached s.boxes target
target_reached b s fresh name (ident.Real uid) target None is of = absurd (cc)
target_reached b s fresh name (ident.Real uid) target (Some cache) is of =
    let f = fresh name cache is in
    subst (TargetReached s.boxes) (same_Some (targets.Real name cache.validity uid) target of)
    (record { box = f.box; there = f.there; not_below = f.not_below; facts = λ _. tt })
target_reached b s fresh name (ident.Dummy n) target None is of = subst (TargetReached s.boxes) (same_Some (targets.Dummy n) target of) tt
target_reached b s fresh name (ident.Dummy n) target (Some cache) is of = subst (TargetReached s.boxes) (same_Some (targets.Dummy n) target of) tt

becomes_reached : (wanted : Wanted) (b : Meaning) (s : Server) (action : Action) → Fresh b s.boxes → Becomes wanted b action →
    ActionReached s.boxes action
becomes_reached (Flag change) b s action fresh x =
    subst (ActionReached s.boxes) (sym x.is) (target_reached b s fresh change.name change.id x.target (cache_at change.name b.boxes) refl x.of)
becomes_reached (Move transfer) b s action fresh x =
    subst (ActionReached s.boxes) (sym x.is) (target_reached b s fresh transfer.name transfer.id x.target (cache_at transfer.name b.boxes) refl x.of)
becomes_reached (Append addition input) b s action fresh x = subst (ActionReached s.boxes) (sym x.is) tt

-- an event that is due is permitted
permitted : (request : Request) → (request ≡ Play → ⊥) → HasRecords request → (b : Option Meaning) (e : Event) (s : Server) (w : Option Waiting) →
    IsDue request b e → Kept b s w → Permits b e s w
permitted (Init names) never writable b e s w due u =
    let none = subst (λ (x : Option Meaning). Kept x s w) due.0 u in
    subst (λ (x : Option Meaning). Permits x e s w) (sym due.0)
    (subst (λ (y : Event). Permits None y s w) (sym due.1) (none.none, none.quiet))
permitted (Act wanted) never writable None e s w due u = absurd due
permitted (Act wanted) never writable (Some b) e s w due u =
    subst (λ (y : Event). Permits (Some b) y s w) (sym due.2)
    (writable wanted b due.0 refl due.1, becomes_reached wanted b s due.0 u.fresh due.1.is)
permitted (Rows name) never writable b e s w due u = absurd due
permitted Queue never writable b e s w due u = absurd due
permitted Report never writable b e s w due u = absurd due
permitted Play never writable b e s w due u = absurd (never refl)

module _ (request : Request) (never : request ≡ Play → ⊥) (writable : HasRecords request) where
  -- a step of the books alone
  abbrev Here : Moment → Books mail → Books mail → Type 0
  Here m x y = Step mail played (state_of mail x m.outside) (state_of mail y m.outside)

  begun_here : (m : Moment) (x y : Books mail) → EachBook mail (λ (b : Option Meaning). Kept b m.outside.server m.outside.waiting) x →
      BeginsDue request x y → Here m x y
  begun_here m x y each d =
      let b = d.begins in
      let here = subst (EachBook mail (λ (o : Option Meaning). Kept o m.outside.server m.outside.waiting)) b.firm each in
      subst (Here m x) (sym b.becomes)
      (begins d.version b.book d.event b.firm b.may
      (permitted request never writable b.book d.event m.outside.server m.outside.waiting d.due here))

  step_here : (m : Moment) (x y : Books mail) → EachBook mail (λ (b : Option Meaning). Kept b m.outside.server m.outside.waiting) x →
      ((y ≡ x) ⊎ BeginsDue request x y ⊎ MakesFirm mail x y ⊎ ((first : Bool) × Chooses mail first x y)) → Here m x y
  step_here m x y each (inl same) = subst (Here m x) (sym same) rests
  step_here m x y each (inr (inl d)) = begun_here m x y each d
  step_here m x y each (inr (inr (inl f))) = subst (Here m x) (sym f.becomes) (firm f.before f.later f.begun)
  step_here m x y each (inr (inr (inr c))) = subst (Here m x) (sym c.1.becomes) (chooses c.0 c.1.before c.1.later c.1.begun)

  request_joined : (m n : Moment) → IsKeptNow m → RequestStep request m n → Joined mail played m n
  request_joined m n kept s = record {
    old = s.old;
    new = s.new;
    at_old = s.at_old;
    at_new = s.at_new;
    step = subst (λ (p : Peer). Step mail played (state_of mail s.old m.outside) (state_of mail s.new p)) (sym (outside_same request m n never s.outside))
        (step_here m s.old s.new (kept_books mail Kept one_mail_event s.old m kept s.at_old) s.step);
  }

  pub request_joins : (k l : Clock) → IsKeptNow k.now → Since Any (RequestStep request) k l → StaysKept k l
  request_joins k l kept s at before after fair =
      since_first IsKeptNow (Joined mail played) k at l before after
      (since_weaker (λ m. Any m × IsKeptNow m) IsKeptNow (λ m n. IsKeptNow m × RequestStep request m n) (Joined mail played) (λ m p. p.1)
      (λ m n p. request_joined m n p.0 p.1) k l
      (since_carry Any IsKeptNow (RequestStep request)
      (λ m n any step here. joined_keeps mail played Kept withstood one_mail_event m n (request_joined m n here step) here) k kept l s))
